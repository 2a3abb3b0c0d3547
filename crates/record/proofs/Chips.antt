-- The driver uses the chip's numbers: its slots, its test of a sample. Assumes nothing.
use Rattle.std.specs.Prelude.{None, Option, Some}
use mathlib.Core.Path.{◌≡◌, refl, sym}
use mathlib.Core.Bool.{Bool, true, false, not, cond, ◌&&◌}
use mathlib.Core.List.{List, [], ◌∷◌}
use Prim.Native.Nat.{ℕ}
use lib.Dec.{eqb}
use lib.Bits.{bit_and}
use Rattle.transfers.specs.declared.sample.Sample.{Sample}
use Rattle.transfers.specs.declared.sample.Found.TheVariants.{Complete, Failed, Neither}
use Rattle.transfers.specs.Memory.{slot_address}
use Rattle.transfers.specs.Sample.{Error, errors, first_of, classify}
use Rattle.record.specs.Chip.{is_set, slot_place}
use Rattle.record.specs.Told.{finds}
use Rattle.transfers.specs.declared.sample.Found.{Found}

-- The driver stores a slot's bytes where the chip has them.
pub same_slot : (s : Bool) → slot_address s ≡ slot_place s
same_slot false = refl
same_slot true = refl

-- What the driver finds in a sample.
abbrev pub is_complete : Option Found → Bool
is_complete None = false
is_complete (Some Complete) = true
is_complete (Some (Failed e)) = false
is_complete (Some Neither) = false

no_complete : (w : ℕ) (es : List Error) → is_complete (Some (first_of w es)) ≡ false
no_complete w [] = refl
no_complete w (e ∷ es) = by (is_set e.place w) (no_complete w es)
  where
    by : (v : Bool) → is_complete (Some (first_of w es)) ≡ false → is_complete (Some (cond v (Failed e.is) (first_of w es))) ≡ false
    by true h = refl
    by false h = h

-- It finds TRANS_COMPLETE where the sample shows it.
pub finds_is : (y : Sample) → finds y ≡ is_complete (classify y.status y.intr)
unfolding classify
finds_is y = by (eqb (bit_and y.intr 0x7F8) 0) (is_set 18 y.status)
  where
    by : (p q : Bool) → (not p && q) ≡ is_complete (cond p None (Some (cond q Complete (first_of y.status errors))))
    by true q = refl
    by false true = refl
    by false false = sym (no_complete y.status errors)
