-- What a line asks for. Fields and numbers are the replay script's.
use Rattle.std.specs.Prelude.{cond, List, ℕ, eqb, Option, Some, None, Result, Ok, Err}
use Rattle.input.specs.declared.Unreadable.{Unreadable}
use Rattle.script.specs.Parts.{fields_of}
use Rattle.script.specs.Typed.{byte_at}
use Rattle.script.specs.Lines.{with_read, is_skipped}
use Rattle.shortgroups.specs.declared.line.Listing.{Listing}

-- `N`: a number above 255 can't be read; 255 bytes are lent.
unfoldable pub limit_of : List ℕ → Option Listing
limit_of line = with_read (byte_at line 0) None λ n. Some (record { limit = n; room = 255 })

-- `N ROOM`: a limit and the bytes lent, each at most 255.
unfoldable pub lent_of : List ℕ → Option Listing
lent_of line = with_read (byte_at line 0) None λ n. (with_read (byte_at line 1) None λ room. Some (record { limit = n; room = room }))

-- One or two fields.
unfoldable pub asked_of : List ℕ → Option Listing
asked_of line = cond (eqb (fields_of line) 1) (limit_of line) (cond (eqb (fields_of line) 2) (lent_of line) None)

-- What a line asks for, nothing if it is skipped, or that it can't be read.
unfoldable pub line_of : List ℕ → Result (Option Listing) Unreadable
line_of line = cond (is_skipped line) (Ok None) (with_read (asked_of line) (Err (record {})) λ listing. Ok (Some listing))
