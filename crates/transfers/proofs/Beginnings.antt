-- A begin that isn't refused: what was lent fits, and so do its fields. Assumes nothing.
use Rattle.std.proofs.Common.{◌≡◌, ℕ, ◌≤◌, Bool, true, false, leb, List, length, refl, arith, leb-true, Err, Ok, Option, Result}
use Rattle.transfers.specs.declared.refusal.Refusal.{Refusal}
use Rattle.transfers.specs.Memory.{lent_fits, MemoryFits, LogFits}
use Rattle.transfers.specs.State.{address_good, endpoint_good, size_good}
use Rattle.transfers.specs.Calls.{is_idle, fields_refusal, begin_refusal}
use Rattle.transfers.proofs.OpenPipes.{lent_sizes}
use Rattle.transfers.proofs.Readiness.{both}
use Rattle.transfers.specs.declared.driver.Run.{Run}

no_refusal : {A : Type 0} (e : Refusal) → ◌≡◌ {A = Result (Unit {0}) Refusal} (Err e) (Ok tt) → A
no_refusal e q = absurd (let z : ◌≡◌ {A = ℕ} 0 1 = cc in omega arith)

pub none_lent : (lent idle : Bool) (r : Result (Unit {0}) Refusal) → begin_refusal lent idle r ≡ Ok tt → lent ≡ true
none_lent true idle r q = refl
none_lent false idle r q = no_refusal _ q

-- Address, endpoint, packet size and length.
pub none_fields : (lent idle a e p n : Bool) → begin_refusal lent idle (fields_refusal a e p n) ≡ Ok tt → (a ≡ true) × (e ≡ true) × (p ≡ true) × (n ≡ true)
none_fields true true true true true true q = (refl, refl, refl, refl)
none_fields true true true true true false q = no_refusal _ q
none_fields true true true true false n q = no_refusal _ q
none_fields true true true false p n q = no_refusal _ q
none_fields true true false e p n q = no_refusal _ q
none_fields true false a e p n q = no_refusal _ q
none_fields false idle a e p n q = no_refusal _ q

-- What a bulk begin that isn't refused was given.
pub record BulkGood (p : ℕ) (buf m log : List ℕ) : Type 0 where
  pub memory : MemoryFits m
  pub room : LogFits log
  pub size : p ≤ 64
  pub few : length buf ≤ 0xFFFF

pub bulk_good : (t : Option Run) (a e p : ℕ) (buf m log : List ℕ)
    → begin_refusal (lent_fits m log) (is_idle t) (fields_refusal (address_good a) (endpoint_good e) (size_good p) (leb (length buf) 0xFFFF)) ≡ Ok tt → BulkGood p buf m log
bulk_good t a e p buf m log q =
    let f = none_fields (lent_fits m log) (is_idle t) (address_good a) (endpoint_good e) (size_good p) (leb (length buf) 0xFFFF) q in
    let l = lent_sizes m log (none_lent (lent_fits m log) (is_idle t) (fields_refusal (address_good a) (endpoint_good e) (size_good p) (leb (length buf) 0xFFFF)) q) in
    record { memory = l.0; room = l.1; size = leb-true p 64 (both (leb 1 p) (leb p 64) f.2).1; few = leb-true (length buf) 0xFFFF f.3 }
