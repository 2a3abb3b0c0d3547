-- The record that the writer leaves: "Called first for nothing armed, then after every begin and step with the packet memory as that call left it, and refused nowhere"; "the writer is called after cancels too".
use Rattle.std.specs.Prelude.{◌≡◌, List, [], ◌∷◌, ℕ, suc, length, None, Option}
use Rattle.transfers.specs.declared.answers.Armed.{Armed}
use Rattle.transfers.specs.Answers.{nothing_armed}
use Rattle.transfers.specs.Reply.{Reply, result, number}
use Rattle.record.specs.Calls.{Call, begin, step, cancel, open_pipe, close_pipe, poll_pipe, interrupt, detect}
use Rattle.record.specs.Told.{Writer, its_memory, any_memory, not_called, Shown}
use Rattle.record.specs.Writer.{append_of}

-- The record lent and how many of its bytes are used, or the writer was refused somewhere.
pub data Kept : Type 0 where
  kept : List ℕ → ℕ → Kept
  refused : Kept

-- The used length that the writer answers goes into its next call.
abbrev pub kept_by : Reply ℕ → List ℕ → Kept
kept_by (result n) l = kept l n
kept_by (number why) l = refused

-- One call of the writer, by the definition that `append` is proved equal to.
abbrev pub appends : Armed → Option ℕ → List ℕ → Kept → Kept
appends a x m refused = refused
appends a x m (kept l n) = let o = append_of a x m l n in kept_by o.answer o.bytes

-- After a call, "with the packet memory as that call left it" or with any (m).
abbrev pub appends_by : Writer → List ℕ → Shown → Kept → Kept
appends_by its_memory m o k = appends o.armed o.failed o.memory k
appends_by any_memory m o k = appends o.armed o.failed m k
appends_by not_called m o k = k

-- Along what a list of calls shows; `ms i` is what the writer is lent after the call of entry i, if that is a cancel.
unfoldable pub kept_from : (ℕ → List ℕ) → Kept → List Shown → Kept
kept_from ms k [] = k
kept_from ms k (o ∷ os) = kept_from (λ i. ms (suc i)) (appends_by o.writer (ms 0) o k) os

-- "Called first for nothing armed": a record l is lent, of which nothing is used, and the packet memory `ms 0`.
abbrev pub kept_all : List ℕ → (ℕ → List ℕ) → List Shown → Kept
kept_all l ms os = kept_from (λ i. ms (suc i)) (appends nothing_armed None (ms 0) (kept l 0)) os

-- The packet memory lent to a begin or step is 4,096 bytes (else the writer too refuses with 15).
abbrev pub Lent : Call → Type 0
Lent (begin x buf m log) = length m ≡ 4096
Lent (step b y buf m log) = length m ≡ 4096
Lent cancel = Unit {0}
Lent (open_pipe a x e p i log) = Unit {0}
Lent (close_pipe n) = Unit {0}
Lent (poll_pipe n y m log) = Unit {0}
Lent (interrupt ints status log) = Unit {0}
Lent (detect sie log) = Unit {0}

-- That of every call of a list.
abbrev pub AllLent : List Call → Type 0
AllLent [] = Unit {0}
AllLent (c ∷ cs) = Lent c × AllLent cs
