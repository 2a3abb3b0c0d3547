-- `call` says what the driver's functions do. Assumes nothing.
use mathlib.Core.Path.{◌≡◌, refl, ap}
use mathlib.Core.List.{List}
use Prim.Native.Nat.{ℕ}
use native.Mathlib.Omega.{arith}
use lib.ListN.{length}
use Rattle.transfers.specs.declared.control.Begun.{Begun}
use Rattle.transfers.specs.declared.driver.Driver.{Driver}
use Rattle.transfers.specs.declared.control.Stepped.{Stepped}
use Rattle.transfers.specs.Log.{Write, Wrote}
use Rattle.record.specs.Calls.{call}
use Rattle.record.specs.Ties.{Ties}

said : (l l' : List ℕ) (ws : List Write) (k : ℕ) → Wrote l 0 ws l' k → k ≡ length ws
said l l' ws k h = let z = h.count in omega arith

pub tied : Ties
unfolding call
tied = record {
  begins = λ d x buf m log r m' l' h. (h.result, ap (λ (r : Begun Driver). r.next) h.result, ap (λ (r : Begun Driver). r.answer) h.result, ap (λ (r : Begun Driver). r.armed) h.result, h.memory, h.log);
  steps = λ d b y buf m log r m' l' h.
      (h.result, ap (λ (r : Stepped). r.next) h.result, ap (λ (r : Stepped). r.answer) h.result, ap (λ (r : Stepped). r.armed) h.result, ap (λ (r : Stepped). r.failed) h.result, h.memory, h.log);
  cancels = λ d. (refl, refl, refl);
  opens = λ d a x e p i log next b k l' h. (h.next, h.answer, h.log.log, said log l' _ _ h.log);
  closes = λ d n. (refl, refl);
  polls = λ d n y m log next b p k l' h. (h.next, h.answer, h.packet, h.log.log, said log l' _ _ h.log);
  wakes = λ d ints status log r l' h. (refl, h.answer, h.log.log, said log l' _ _ h.log);
  detects = λ d sie log next b k l' h. (h.next, h.answer, h.log.log, said log l' _ _ h.log);
}
