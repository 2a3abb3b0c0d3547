-- What a line asks for: comings, looks, starts, frames and shares, line by line. Fields, numbers and BYTES are the replay script's, and so is every other line.
use Rattle.std.specs.Prelude.{cond, List, [], ◌∷◌, ℕ, eqb, Option}
use Rattle.script.specs.Parts.{field_of, fields_of, after_field, same_text}
use Rattle.script.specs.Typed.{byte_at, word_at, length_at, count_at, stored_at}
use Rattle.script.specs.Lines.{with_read, control_of, control_length_of, bulk_length_of, word_control_in, word_control_out, word_control_none, word_bulk_in, word_bulk_out, call_of, is_skipped}
use Rattle.script.specs.declared.command.Call.TheVariants.{Skipped, Wrong}
use Rattle.transfers.specs.declared.host_controller.DataPhase.{DataPhase}
use Rattle.transfers.specs.declared.host_controller.DataPhase.TheVariants.{In as phase_in, Out as phase_out, None as phase_none}
use Rattle.transfers.specs.declared.wire.Direction.{Direction}
use Rattle.transfers.specs.declared.wire.Direction.TheVariants.{In, Out}
use Rattle.callers.specs.declared.line.Kind.{Kind}
use Rattle.callers.specs.declared.line.Kind.TheVariants.{BulkIn, BulkOut}
use Rattle.callers.specs.declared.line.Command.{Command}
use Rattle.callers.specs.declared.line.Command.TheVariants.{ComeControl, ComeBulk, Look, Start, Frame, Shares, Other}
use Rattle.script.specs.declared.command.Bulk.{Bulk}
use Rattle.script.specs.declared.command.Control.{Control}

-- What a line asks for, and the lent bytes with its BYTES at their start.
pub record Asked : Type 0 where
  pub command : Command
  pub stored : List ℕ

-- A line's command beside the lent bytes.
abbrev pub asked : Command → List ℕ → Asked
asked c out = record { command = c; stored = out }

-- A line that can't be read.
abbrev pub unread : Command
unread = Other Wrong

-- A control that comes, where its fields can be read.
abbrev pub come_control : ℕ → DataPhase → Option Control → Command
come_control caller phase f = with_read f unread λ c. ComeControl caller phase c

-- The same for a bulk.
abbrev pub come_bulk : ℕ → Direction → Option Bulk → Command
come_bulk caller direction f = with_read f unread λ b. ComeBulk caller direction b

-- `control-in` or `control-out ADDRESS PREAMBLE SIZE SETUP LEN`, `control_none ADDRESS PREAMBLE SIZE SETUP`,
-- `bulk_in` or `bulk_out ADDRESS ENDPOINT SIZE TYPE TOGGLE LEN`: a begin's line, with LEN for its BYTES.
unfoldable pub coming_of : ℕ → List ℕ → List ℕ → Command
coming_of caller word line =
    cond (same_text word word_control_in) (come_control caller phase_in (control_length_of line))
    (cond (same_text word word_control_out) (come_control caller phase_out (control_length_of line))
    (cond (same_text word word_control_none) (come_control caller phase_none (control_of line 5))
    (cond (same_text word word_bulk_in) (come_bulk caller In (bulk_length_of line))
    (cond (same_text word word_bulk_out) (come_bulk caller Out (bulk_length_of line)) unread))))

-- `come CALLER`, and such a line. "CALLER is 0 to 255."
unfoldable pub come_of : List ℕ → Command
come_of line = with_read (byte_at line 1) unread λ caller. coming_of caller (field_of (after_field (after_field line)) 0) (after_field (after_field line))

-- `start-control BYTES`, `start-bulk-out BYTES`.
unfoldable pub start_of : Kind → List ℕ → List ℕ → Asked
start_of kind line out =
    cond (eqb (fields_of line) 2)
    (asked (with_read (count_at line 1) unread λ n. Start kind n) (stored_at out line 1))
    (asked unread out)

-- `start-bulk-in LEN`.
unfoldable pub start_bulk_in_of : List ℕ → Command
start_bulk_in_of line = cond (eqb (fields_of line) 2) (with_read (length_at line 1 131072) unread λ n. Start BulkIn n) unread

-- `frame N`. "N, 0 to 4,294,967,295, is the frame number".
unfoldable pub frame_of : List ℕ → Command
frame_of line = cond (eqb (fields_of line) 2) (with_read (word_at line 1) unread λ n. Frame n) unread

-- `shares S0 S1 S2 S3 S4 S5 S6 S7`.
unfoldable pub shares_of : List ℕ → Command
shares_of line =
    cond (eqb (fields_of line) 9)
    (with_read (word_at line 1) unread λ a.
    with_read (word_at line 2) unread λ b.
    with_read (word_at line 3) unread λ c.
    with_read (word_at line 4) unread λ d.
    with_read (word_at line 5) unread λ e.
    with_read (word_at line 6) unread λ f.
    with_read (word_at line 7) unread λ g.
    with_read (word_at line 8) unread λ h. Shares (a ∷ b ∷ c ∷ d ∷ e ∷ f ∷ g ∷ h ∷ []))
    unread

-- `come`, in ASCII; so are the words below.
abbrev pub word_come : List ℕ
word_come = 99 ∷ 111 ∷ 109 ∷ 101 ∷ []

-- `look`.
abbrev pub word_look : List ℕ
word_look = 108 ∷ 111 ∷ 111 ∷ 107 ∷ []

-- `start-control`.
abbrev pub word_start_control : List ℕ
word_start_control = 115 ∷ 116 ∷ 97 ∷ 114 ∷ 116 ∷ 45 ∷ 99 ∷ 111 ∷ 110 ∷ 116 ∷ 114 ∷ 111 ∷ 108 ∷ []

-- `start-bulk-in`.
abbrev pub word_start_bulk_in : List ℕ
word_start_bulk_in = 115 ∷ 116 ∷ 97 ∷ 114 ∷ 116 ∷ 45 ∷ 98 ∷ 117 ∷ 108 ∷ 107 ∷ 45 ∷ 105 ∷ 110 ∷ []

-- `start-bulk-out`.
abbrev pub word_start_bulk_out : List ℕ
word_start_bulk_out = 115 ∷ 116 ∷ 97 ∷ 114 ∷ 116 ∷ 45 ∷ 98 ∷ 117 ∷ 108 ∷ 107 ∷ 45 ∷ 111 ∷ 117 ∷ 116 ∷ []

-- `frame`.
abbrev pub word_frame : List ℕ
word_frame = 102 ∷ 114 ∷ 97 ∷ 109 ∷ 101 ∷ []

-- `shares`.
abbrev pub word_shares : List ℕ
word_shares = 115 ∷ 104 ∷ 97 ∷ 114 ∷ 101 ∷ 115 ∷ []

-- By a line's first word: comings, starts, frame and shares; `look` stands alone on its line. Any other line is one of the replay script's that begins no transfer.
unfoldable pub word_of : List ℕ → List ℕ → List ℕ → Asked
word_of word line out =
    cond (same_text word word_come) (asked (come_of line) out)
    (cond (same_text word word_start_control) (start_of Kind.Control line out)
    (cond (same_text word word_start_bulk_in) (asked (start_bulk_in_of line) out)
    (cond (same_text word word_start_bulk_out) (start_of BulkOut line out)
    (cond (same_text word word_frame) (asked (frame_of line) out)
    (cond (same_text word word_shares) (asked (shares_of line) out)
    (cond (same_text line word_look) (asked Look out)
    (asked (Other (call_of word line out).call) (call_of word line out).stored)))))))

-- What a line asks for.
unfoldable pub line_of : List ℕ → List ℕ → Asked
line_of line out = cond (is_skipped line) (asked (Other Skipped) out) (word_of (field_of line 0) line out)
