-- "A coming refuses with 32 a caller above 7, then with 33 a caller that already waits, then as begin does", and "with 34, right after 33, a transfer larger than its caller's share": the numbers.
use Rattle.std.specs.Prelude.{ℕ}
use Rattle.transfers.specs.Refusal as T
use Rattle.host.specs.declared.answers.SubmitRefusal.{SubmitRefusal}
use Rattle.host.specs.declared.answers.SubmitRefusal.TheVariants.{Caller, Pending, Quota, Begin}

-- The documents' number of every refusal of a coming.
abbrev pub number_of : SubmitRefusal → ℕ
number_of Caller = 32
number_of Pending = 33
number_of Quota = 34
number_of (Begin why) = T.number_of why
