-- Runs in which no transfer fails, for `comes`: their entries and the premises. Assumes nothing.
use mathlib.Core.Path.{◌≡◌}
use mathlib.Core.Bool.{false}
use mathlib.Core.List.{List, [], ◌∷◌, ◌++◌}
use Prim.Native.Nat.{ℕ}
use Rattle.transfers.specs.declared.driver.Driver.{Driver}
use Rattle.record.specs.Grammar.{Entry}
use Rattle.record.specs.Wire.{File, performs, events, wire}
use Rattle.record.specs.Calls.{Call, call}
use Rattle.record.specs.Told.{Live, no_transfer, Watch}
use Rattle.record.specs.Shown.{note}
use Rattle.record.specs.Premises.{CallGood, CallLent, Unrefused}
use Rattle.record.proofs.Heard.{next_live, next_count, next_watch, breaks}

unfoldable pub entries_from : File → Driver → List Call → List Entry
entries_from f d [] = []
entries_from f d (c ∷ cs) = let o = call d c in wire f o.writes o.memory ++ entries_from (performs f o.writes) o.next cs

unfoldable pub UnbrokenFrom : Live → ℕ → Watch → File → Driver → List Call → Type 0
UnbrokenFrom l n w f d [] = l ≡ no_transfer
UnbrokenFrom l n w f d (c ∷ cs) =
    let o = call d c in
    let k = note c o.answer in
    (breaks k ≡ false) × CallGood k l n w (events f o.writes) × (CallLent k l × Unrefused c o.answer) × UnbrokenFrom (next_live k l) (next_count k n) (next_watch k w (events f o.writes)) (performs f o.writes) o.next cs
