-- The examples' calls are of the program's types, so term 3 speaks of them. Assumes nothing.
use mathlib.Core.List.{List, [], ◌∷◌, ◌++◌}
use native.Mathlib.Omega.{arith}
use Rattle.transfers.specs.declared.driver.DeskRule.TheVariants.{One}
use Rattle.transfers.specs.Driver.{fresh}
use Rattle.record.specs.Grammar.{Bytes}
use Rattle.record.specs.Calls.{Call}
use Rattle.record.specs.Asked.{Words, TypedSample, AllTyped}
use Rattle.record.specs.Shown.{shown_from}
use Rattle.record.specs.Example.{lent_memory, lent_log, completing, stalling, no_bits, three_bytes, configure_calls, three_calls, two_calls, two_transfers, five_bytes, stalled_calls, cancelled_calls, four_calls, four_transfers}
use Rattle.record.specs.Term3.{Recorded}
use Rattle.record.proofs.Comes.{zeros, zero_words}
use Rattle.record.proofs.Failing.{recorded}

typed_append : (cs ds : List Call) → AllTyped cs → AllTyped ds → AllTyped (cs ++ ds)
typed_append [] ds h k = k
typed_append (c ∷ cs) ds h k = (h.0, typed_append cs ds h.1 k)

memory_typed : Bytes lent_memory
memory_typed = zeros 4096

log_typed : Words lent_log
log_typed = zero_words 192

three_bytes_lem : Bytes three_bytes
three_bytes_lem = (omega arith, (omega arith, (omega arith, tt)))

five_bytes_lem : Bytes five_bytes
five_bytes_lem = (omega arith, (omega arith, (omega arith, (omega arith, (omega arith, tt)))))

completing_typed : TypedSample completing
completing_typed = (omega arith, omega arith, omega arith)

stalling_typed : TypedSample stalling
stalling_typed = (omega arith, omega arith, omega arith)

configure_typed : AllTyped configure_calls
configure_typed =
    let m = memory_typed in
    let w = log_typed in
    (((omega arith, omega arith, (omega arith, omega arith, omega arith, omega arith, omega arith)), tt, m, w), ((completing_typed, tt, m, w), ((completing_typed, tt, m, w), tt)))

three_typed : AllTyped three_calls
three_typed = (((omega arith, omega arith, omega arith), three_bytes_lem, memory_typed, log_typed), ((completing_typed, three_bytes_lem, memory_typed, log_typed), tt))

stalled_typed : AllTyped stalled_calls
stalled_typed = (((omega arith, omega arith, omega arith), five_bytes_lem, memory_typed, log_typed), ((stalling_typed, five_bytes_lem, memory_typed, log_typed), tt))

cancelled_typed : AllTyped cancelled_calls
cancelled_typed = (((omega arith, omega arith, omega arith), three_bytes_lem, memory_typed, log_typed), (tt, tt))

pub two_recorded : Recorded no_bits (shown_from (fresh One) two_calls)
two_recorded = recorded One no_bits two_calls (typed_append configure_calls three_calls configure_typed three_typed) two_transfers.premises

pub four_recorded : Recorded no_bits (shown_from (fresh One) four_calls)
four_recorded =
    recorded One no_bits four_calls
    (typed_append stalled_calls (configure_calls ++ (cancelled_calls ++ three_calls)) stalled_typed
    (typed_append configure_calls (cancelled_calls ++ three_calls) configure_typed (typed_append cancelled_calls three_calls cancelled_typed three_typed)))
    four_transfers.premises
