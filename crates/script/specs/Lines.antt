-- What a line asks for: the table of the script's format, line by line.
use Rattle.std.specs.Prelude.{Bool, cond, ◌||◌, List, [], ◌∷◌, ℕ, ◌+◌, eqb, leb, length, get_or, Option, Some, None}
use Rattle.script.specs.Parts.{field_of, fields_of, same_text}
use Rattle.script.specs.Typed.{byte_at, half_at, word_at, bit_at, length_at, type_at, setup_at, count_at, stored_at}
use Rattle.script.specs.declared.command.Control.{Control}
use Rattle.script.specs.declared.command.Bulk.{Bulk}
use Rattle.script.specs.declared.command.Stepping.{Stepping}
use Rattle.script.specs.declared.command.Call.{Call}
use Rattle.script.specs.declared.command.Call.TheVariants.{Skipped, Wrong, Fresh, Rule, Lend, Memory, Buffer, StepIn, StepOut, Cancel, Open, Close, Poll, Irq, Detect, Record}
use Rattle.script.specs.declared.command.Rule.TheVariants.{One, Two}
use Rattle.script.specs.declared.command.Command.{Command}
use Rattle.script.specs.declared.command.Command.TheVariants.{ControlIn, ControlOut, ControlNone, BulkIn, BulkOut, Other}

-- A line goes on with what was read; where it can't be read, the other answer stands.
abbrev pub with_read : {A B : Type 0} → Option A → B → (A → B) → B
with_read (Some x) a f = f x
with_read None a f = a

-- What a line that begins no transfer asks for, and the lent bytes with its BYTES at their start.
pub record Calling : Type 0 where
  pub call : Call
  pub stored : List ℕ

-- Such a line's call beside the lent bytes.
abbrev pub calling : Call → List ℕ → Calling
calling c out = record { call = c; stored = out }

-- The same for any line.
pub record Reading : Type 0 where
  pub command : Command
  pub stored : List ℕ

-- A line's command beside the lent bytes.
abbrev pub reading : Command → List ℕ → Reading
reading c out = record { command = c; stored = out }

-- `rule 1` or `rule 2`.
unfoldable pub rule_of : List ℕ → Call
rule_of line =
    cond (eqb (fields_of line) 2)
    (with_read (byte_at line 1) Wrong λ rule.
    cond (eqb rule 1) (Rule One) (cond (eqb rule 2) (Rule Two) Wrong))
    Wrong

-- `lend PMLEN LOGLEN`.
unfoldable pub lend_of : List ℕ → Call
lend_of line =
    cond (eqb (fields_of line) 3)
    (with_read (length_at line 1 4096) Wrong λ memory.
    (with_read (length_at line 2 192) Wrong λ words.
    Lend (record { memory = memory; words = words })))
    Wrong

-- The sample of `step-in` and `step-out`.
unfoldable pub step_of : List ℕ → Option Stepping
step_of line =
    cond (eqb (fields_of line) 4)
    (with_read (word_at line 1) None λ status.
    (with_read (word_at line 2) None λ intr.
    (with_read (word_at line 3) None λ buffers.
    Some (record { status = status; intr = intr; buffers = buffers }))))
    None

-- `open ADDRESS PREAMBLE ENDPOINT SIZE INTERVAL`.
unfoldable pub open_of : List ℕ → Call
open_of line =
    cond (eqb (fields_of line) 6)
    (with_read (byte_at line 1) Wrong λ address.
    (with_read (bit_at line 2) Wrong λ preamble.
    (with_read (byte_at line 3) Wrong λ endpoint.
    (with_read (half_at line 4) Wrong λ size.
    (with_read (byte_at line 5) Wrong λ interval.
    Open (record { address = address; preamble = preamble; endpoint = endpoint; size = size; interval = interval }))))))
    Wrong

-- `close PIPE`.
unfoldable pub close_of : List ℕ → Call
close_of line =
    cond (eqb (fields_of line) 2)
    (with_read (byte_at line 1) Wrong λ pipe.
    Close pipe)
    Wrong

-- `poll PIPE EP_BUFFER_CONTROL HOST_ADDR_ENDP`.
unfoldable pub poll_of : List ℕ → Call
poll_of line =
    cond (eqb (fields_of line) 4)
    (with_read (byte_at line 1) Wrong λ pipe.
    (with_read (word_at line 2) Wrong λ buffer.
    (with_read (word_at line 3) Wrong λ target.
    Poll (record { pipe = pipe; buffer = buffer; target = target }))))
    Wrong

-- `irq INTS BUFF_STATUS`.
unfoldable pub irq_of : List ℕ → Call
irq_of line =
    cond (eqb (fields_of line) 3)
    (with_read (word_at line 1) Wrong λ ints.
    (with_read (word_at line 2) Wrong λ status.
    Irq (record { ints = ints; status = status })))
    Wrong

-- `detect SIE_STATUS`.
unfoldable pub detect_of : List ℕ → Call
detect_of line =
    cond (eqb (fields_of line) 2)
    (with_read (word_at line 1) Wrong λ status.
    Detect status)
    Wrong

-- `step-in SIE_STATUS INTR EP_BUFFER_CONTROL`.
abbrev pub step_in_of : List ℕ → Call
step_in_of line = with_read (step_of line) Wrong λ s. StepIn s

-- `step-out SIE_STATUS INTR EP_BUFFER_CONTROL`.
abbrev pub step_out_of : List ℕ → Call
step_out_of line = with_read (step_of line) Wrong λ s. StepOut s

-- "`pm` past 4,096" can't be read.
abbrev pub stored_call : ℕ → ℕ → Call
stored_call offset count = cond (leb (offset + count) 4096) (Memory (record { offset = offset; count = count })) Wrong

-- `pm OFFSET BYTES`.
unfoldable pub memory_of : List ℕ → List ℕ → Calling
memory_of line out =
    cond (eqb (fields_of line) 3)
    (with_read (length_at line 1 4096) (calling Wrong out) λ offset.
    calling (with_read (count_at line 2) Wrong λ n. stored_call offset n) (stored_at out line 2))
    (calling Wrong out)

-- `buffer BYTES`.
unfoldable pub buffer_of : List ℕ → List ℕ → Calling
buffer_of line out =
    cond (eqb (fields_of line) 2)
    (calling (with_read (count_at line 1) Wrong λ n. Buffer n) (stored_at out line 1))
    (calling Wrong out)

-- The fields that every control has, on a line of n fields.
unfoldable pub control_of : List ℕ → ℕ → Option Control
control_of line n =
    cond (eqb (fields_of line) n)
    (with_read (byte_at line 1) None λ address.
    (with_read (bit_at line 2) None λ preamble.
    (with_read (byte_at line 3) None λ size.
    (with_read (setup_at line 4) None λ setup.
    Some (record { address = address; preamble = preamble; size = size; setup = setup; count = 0 })))))
    None

-- The fields that every bulk has.
unfoldable pub bulk_of : List ℕ → Option Bulk
bulk_of line =
    cond (eqb (fields_of line) 7)
    (with_read (byte_at line 1) None λ address.
    (with_read (byte_at line 2) None λ endpoint.
    (with_read (half_at line 3) None λ size.
    (with_read (type_at line 4) None λ variable.
    (with_read (bit_at line 5) None λ toggle.
    Some (record { address = address; endpoint = endpoint; size = size; variable = variable; toggle = toggle; count = 0 }))))))
    None

-- A control with its LEN, or the count of its BYTES.
abbrev pub control_count : Control → ℕ → Control
control_count c n = record { address = c.address; preamble = c.preamble; size = c.size; setup = c.setup; count = n }

-- A bulk with its LEN, or the count of its BYTES.
abbrev pub bulk_count : Bulk → ℕ → Bulk
bulk_count b n = record { address = b.address; endpoint = b.endpoint; size = b.size; variable = b.variable; toggle = b.toggle; count = n }

-- The fields that every control has, and LEN.
unfoldable pub control_length_of : List ℕ → Option Control
control_length_of line = with_read (control_of line 6) None λ c. with_read (length_at line 5 131072) None λ n. Some (control_count c n)

-- The fields that every bulk has, and LEN.
unfoldable pub bulk_length_of : List ℕ → Option Bulk
bulk_length_of line = with_read (bulk_of line) None λ b. with_read (length_at line 6 131072) None λ n. Some (bulk_count b n)

-- A begin that can't be read.
abbrev pub unread : Command
unread = Other Wrong

-- `control-in ADDRESS PREAMBLE SIZE SETUP LEN`.
abbrev pub control_in_of : List ℕ → Command
control_in_of line = with_read (control_length_of line) unread λ c. ControlIn c

-- `control-out ADDRESS PREAMBLE SIZE SETUP BYTES`.
unfoldable pub control_out_of : List ℕ → List ℕ → Reading
control_out_of line out = with_read (control_of line 6) (reading unread out) λ c. reading (with_read (count_at line 5) unread λ n. ControlOut (control_count c n)) (stored_at out line 5)

-- `control-none ADDRESS PREAMBLE SIZE SETUP`.
unfoldable pub control_none_of : List ℕ → Command
control_none_of line = with_read (control_of line 5) unread λ c. ControlNone c

-- `bulk-in ADDRESS ENDPOINT SIZE TYPE TOGGLE LEN`.
abbrev pub bulk_in_of : List ℕ → Command
bulk_in_of line = with_read (bulk_length_of line) unread λ b. BulkIn b

-- `bulk-out ADDRESS ENDPOINT SIZE TYPE TOGGLE BYTES`.
unfoldable pub bulk_out_of : List ℕ → List ℕ → Reading
bulk_out_of line out = with_read (bulk_of line) (reading unread out) λ b. reading (with_read (count_at line 6) unread λ n. BulkOut (bulk_count b n)) (stored_at out line 6)

-- `fresh`, in ASCII; so are the words below.
abbrev pub word_fresh : List ℕ
word_fresh = 102 ∷ 114 ∷ 101 ∷ 115 ∷ 104 ∷ []

-- `cancel`.
abbrev pub word_cancel : List ℕ
word_cancel = 99 ∷ 97 ∷ 110 ∷ 99 ∷ 101 ∷ 108 ∷ []

-- `record`.
abbrev pub word_record : List ℕ
word_record = 114 ∷ 101 ∷ 99 ∷ 111 ∷ 114 ∷ 100 ∷ []

-- `lend`.
abbrev pub word_lend : List ℕ
word_lend = 108 ∷ 101 ∷ 110 ∷ 100 ∷ []

-- `pm`.
abbrev pub word_pm : List ℕ
word_pm = 112 ∷ 109 ∷ []

-- `buffer`.
abbrev pub word_buffer : List ℕ
word_buffer = 98 ∷ 117 ∷ 102 ∷ 102 ∷ 101 ∷ 114 ∷ []

-- `control-in`.
abbrev pub word_control_in : List ℕ
word_control_in = 99 ∷ 111 ∷ 110 ∷ 116 ∷ 114 ∷ 111 ∷ 108 ∷ 45 ∷ 105 ∷ 110 ∷ []

-- `control-out`.
abbrev pub word_control_out : List ℕ
word_control_out = 99 ∷ 111 ∷ 110 ∷ 116 ∷ 114 ∷ 111 ∷ 108 ∷ 45 ∷ 111 ∷ 117 ∷ 116 ∷ []

-- `control-none`.
abbrev pub word_control_none : List ℕ
word_control_none = 99 ∷ 111 ∷ 110 ∷ 116 ∷ 114 ∷ 111 ∷ 108 ∷ 45 ∷ 110 ∷ 111 ∷ 110 ∷ 101 ∷ []

-- `bulk-in`.
abbrev pub word_bulk_in : List ℕ
word_bulk_in = 98 ∷ 117 ∷ 108 ∷ 107 ∷ 45 ∷ 105 ∷ 110 ∷ []

-- `bulk-out`.
abbrev pub word_bulk_out : List ℕ
word_bulk_out = 98 ∷ 117 ∷ 108 ∷ 107 ∷ 45 ∷ 111 ∷ 117 ∷ 116 ∷ []

-- `step-in`.
abbrev pub word_step_in : List ℕ
word_step_in = 115 ∷ 116 ∷ 101 ∷ 112 ∷ 45 ∷ 105 ∷ 110 ∷ []

-- `step-out`.
abbrev pub word_step_out : List ℕ
word_step_out = 115 ∷ 116 ∷ 101 ∷ 112 ∷ 45 ∷ 111 ∷ 117 ∷ 116 ∷ []

-- `rule`.
abbrev pub word_rule : List ℕ
word_rule = 114 ∷ 117 ∷ 108 ∷ 101 ∷ []

-- `open`.
abbrev pub word_open : List ℕ
word_open = 111 ∷ 112 ∷ 101 ∷ 110 ∷ []

-- `close`.
abbrev pub word_close : List ℕ
word_close = 99 ∷ 108 ∷ 111 ∷ 115 ∷ 101 ∷ []

-- `poll`.
abbrev pub word_poll : List ℕ
word_poll = 112 ∷ 111 ∷ 108 ∷ 108 ∷ []

-- `irq`.
abbrev pub word_irq : List ℕ
word_irq = 105 ∷ 114 ∷ 113 ∷ []

-- `detect`.
abbrev pub word_detect : List ℕ
word_detect = 100 ∷ 101 ∷ 116 ∷ 101 ∷ 99 ∷ 116 ∷ []

-- `fresh`, `cancel` and `record`, which stand alone on their line.
unfoldable pub alone_of : List ℕ → Call
alone_of line = cond (same_text line word_fresh) Fresh (cond (same_text line word_cancel) Cancel (cond (same_text line word_record) Record Wrong))

-- By a line's first word: the pipes, the interrupt routine and detection; any other line is one word.
unfoldable pub pipe_of : List ℕ → List ℕ → Call
pipe_of word line =
    cond (same_text word word_open) (open_of line)
    (cond (same_text word word_close) (close_of line)
    (cond (same_text word word_poll) (poll_of line)
    (cond (same_text word word_irq) (irq_of line)
    (cond (same_text word word_detect) (detect_of line) (alone_of line)))))

-- The steps, and what the hardware or the lender does; any other word is looked up among the pipes'.
unfoldable pub call_of : List ℕ → List ℕ → List ℕ → Calling
call_of word line out =
    cond (same_text word word_step_in) (calling (step_in_of line) out)
    (cond (same_text word word_step_out) (calling (step_out_of line) out)
    (cond (same_text word word_buffer) (buffer_of line out)
    (cond (same_text word word_pm) (memory_of line out)
    (cond (same_text word word_lend) (calling (lend_of line) out)
    (cond (same_text word word_rule) (calling (rule_of line) out) (calling (pipe_of word line) out))))))

-- The begins; any other word begins no transfer.
unfoldable pub begin_of : List ℕ → List ℕ → List ℕ → Reading
begin_of word line out =
    cond (same_text word word_control_in) (reading (control_in_of line) out)
    (cond (same_text word word_control_out) (control_out_of line out)
    (cond (same_text word word_control_none) (reading (control_none_of line) out)
    (cond (same_text word word_bulk_in) (reading (bulk_in_of line) out)
    (cond (same_text word word_bulk_out) (bulk_out_of line out)
    (reading (Other (call_of word line out).call) (call_of word line out).stored)))))

-- "Empty lines and lines that begin with `#` are skipped."
abbrev pub is_skipped : List ℕ → Bool
is_skipped line = eqb (length line) 0 || eqb (get_or line 0 0) 35

-- What a line asks for.
unfoldable pub line_of : List ℕ → List ℕ → Reading
line_of line out = cond (is_skipped line) (reading (Other Skipped) out) (begin_of (field_of line 0) line out)
