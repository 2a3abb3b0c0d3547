-- What a line asks for: the program's table, line by line. Fields, numbers and BYTES are the replay script's.
use Rattle.std.specs.Prelude.{Bool, true, false, cond, List, [], ◌∷◌, ℕ, eqb, Option, Some, None, Result, Ok, Err}
use Rattle.script.specs.Parts.{field_of, fields_of, same_text}
use Rattle.script.specs.Bytes.{bytes_of, count_in, stored_in}
use Rattle.script.specs.Typed.{byte_at, half_at, length_at, count_at, stored_at}
use Rattle.script.specs.Lines.{with_read, word_lend, is_skipped}
use Rattle.input.specs.declared.Unreadable.{Unreadable}
use Rattle.packet.specs.declared.packet.Token.{Token}
use Rattle.packet.specs.declared.packet.Token.TheVariants.{Out, In, Setup}
use Rattle.packet.specs.declared.packet.Handshake.TheVariants.{Ack, Nak, Stall}
use Rattle.packets.specs.declared.line.Command.{Command}
use Rattle.packets.specs.declared.line.Command.TheVariants.{Lend, Read, WriteToken, WriteSof, WriteData, WriteHandshake}

-- What a line asks for, if it can be read, and the lent bytes with its BYTES at their start.
pub record Asked : Type 0 where
  pub command : Option Command
  pub stored : List ℕ

-- A line's command beside the lent bytes.
abbrev pub asked : Option Command → List ℕ → Asked
asked c out = record { command = c; stored = out }

-- `out A E`, `in A E`, `setup A E`: "A and E are unreadable above 255".
unfoldable pub token_of : Token → List ℕ → Option Command
token_of kind line =
    cond (eqb (fields_of line) 3)
    (with_read (byte_at line 1) None λ address.
    (with_read (byte_at line 2) None λ endpoint.
    Some (WriteToken kind address endpoint)))
    None

-- `sof N`: "a frame number above 65,535".
unfoldable pub sof_of : List ℕ → Option Command
sof_of line = cond (eqb (fields_of line) 2) (with_read (half_at line 1) None λ frame. Some (WriteSof frame)) None

-- `data0 BYTES` (false), `data1 BYTES`.
unfoldable pub data_of : Bool → List ℕ → List ℕ → Asked
data_of second line out =
    cond (eqb (fields_of line) 2)
    (asked (with_read (count_at line 1) None λ n. Some (WriteData second n)) (stored_at out line 1))
    (asked None out)

-- `lend N`: "N bytes, 0 to 67".
unfoldable pub lend_of : List ℕ → Option Command
lend_of line = cond (eqb (fields_of line) 2) (with_read (length_at line 1 67) None λ n. Some (Lend n)) None

-- BYTES: a packet to be read.
unfoldable pub packet_of : List ℕ → List ℕ → Asked
packet_of line out = asked (with_read (count_in (bytes_of line)) None λ n. Some (Read n)) (stored_in out (bytes_of line))

-- `ack`, in ASCII; so are the words below.
abbrev pub word_ack : List ℕ
word_ack = 97 ∷ 99 ∷ 107 ∷ []

-- `nak`.
abbrev pub word_nak : List ℕ
word_nak = 110 ∷ 97 ∷ 107 ∷ []

-- `stall`.
abbrev pub word_stall : List ℕ
word_stall = 115 ∷ 116 ∷ 97 ∷ 108 ∷ 108 ∷ []

-- `data0`.
abbrev pub word_data0 : List ℕ
word_data0 = 100 ∷ 97 ∷ 116 ∷ 97 ∷ 48 ∷ []

-- `data1`.
abbrev pub word_data1 : List ℕ
word_data1 = 100 ∷ 97 ∷ 116 ∷ 97 ∷ 49 ∷ []

-- `sof`.
abbrev pub word_sof : List ℕ
word_sof = 115 ∷ 111 ∷ 102 ∷ []

-- `out`.
abbrev pub word_out : List ℕ
word_out = 111 ∷ 117 ∷ 116 ∷ []

-- `in`.
abbrev pub word_in : List ℕ
word_in = 105 ∷ 110 ∷ []

-- `setup`.
abbrev pub word_setup : List ℕ
word_setup = 115 ∷ 101 ∷ 116 ∷ 117 ∷ 112 ∷ []

-- The handshakes, which stand alone on their line; any other line is BYTES.
unfoldable pub alone_of : List ℕ → List ℕ → Asked
alone_of line out =
    cond (same_text line word_ack) (asked (Some (WriteHandshake Ack)) out)
    (cond (same_text line word_nak) (asked (Some (WriteHandshake Nak)) out)
    (cond (same_text line word_stall) (asked (Some (WriteHandshake Stall)) out) (packet_of line out)))

-- By a line's first word: data, SOF and `lend`; any other line is one word.
unfoldable pub other_of : List ℕ → List ℕ → List ℕ → Asked
other_of word line out =
    cond (same_text word word_data0) (data_of false line out)
    (cond (same_text word word_data1) (data_of true line out)
    (cond (same_text word word_sof) (asked (sof_of line) out)
    (cond (same_text word word_lend) (asked (lend_of line) out) (alone_of line out))))

-- The tokens; any other word is looked up among the others.
unfoldable pub word_of : List ℕ → List ℕ → List ℕ → Asked
word_of word line out =
    cond (same_text word word_out) (asked (token_of Out line) out)
    (cond (same_text word word_in) (asked (token_of In line) out)
    (cond (same_text word word_setup) (asked (token_of Setup line) out) (other_of word line out)))

-- What a line asks for, nothing if it is skipped, or that it can't be read.
pub record Parsed : Type 0 where
  pub command : Result (Option Command) Unreadable
  pub stored : List ℕ

-- A line that isn't skipped asks for its command, or can't be read.
abbrev pub parsed : Asked → Parsed
parsed a = record { command = with_read a.command (Err (record {})) λ command. Ok (Some command); stored = a.stored }

-- What a line asks for.
unfoldable pub line_of : List ℕ → List ℕ → Parsed
line_of line out = cond (is_skipped line) (record { command = Ok None; stored = out }) (parsed (word_of (field_of line 0) line out))
