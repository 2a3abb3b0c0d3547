-- Retiring (rp2040.rs, `retire`): a slot that was in flight is done with.
use Rattle.std.specs.Prelude.{ℕ, ◌-◌, Bool, true, false, not, ◌&&◌, List, take, drop, nat_lt}
use Rattle.std.proofs.lemmas.List.Edits.{sets}
use Rattle.cutting.specs.declared.depacketiser.InDepacketiser.{InDepacketiser}
use Rattle.cutting.specs.Retire.{in_retire}
use Rattle.transfers.specs.Memory.{slot_address}
use Rattle.transfers.specs.Sample.{full, length_in}

-- IN: `long` is "9 slot length above 64; that packet isn't copied".
pub record InRetiring : Type 0 where
  pub long : Bool
  pub packets : InDepacketiser
  pub inflight : ℕ
  pub buffer : List ℕ

-- A slot of n bytes is FULL: its bytes go into the buffer, as many as there is room for.
abbrev pub in_taken : Bool → ℕ → InDepacketiser → ℕ → List ℕ → List ℕ → InRetiring
in_taken true n c k buf m = record { long = true; packets = c; inflight = k; buffer = buf }
in_taken false n c k buf m =
    record { long = false; packets = (in_retire c n).rest; inflight = k - 1; buffer = sets buf c.offset (take (in_retire c n).count (drop (slot_address c.parity) m)) }

-- Only a slot in flight that is full is retired.
abbrev pub in_retire_if : Bool → ℕ → InDepacketiser → ℕ → List ℕ → List ℕ → InRetiring
in_retire_if false n c k buf m = record { long = false; packets = c; inflight = k; buffer = buf }
in_retire_if true n c k buf m = in_taken (nat_lt 64 n) n c k buf m

-- One IN slot, by the word of EP_BUFFER_CONTROL.
unfoldable pub in_retire_one : ℕ → InDepacketiser → ℕ → List ℕ → List ℕ → InRetiring
in_retire_one w c k buf m = in_retire_if (nat_lt 0 k && full w c.parity) (length_in w c.parity) c k buf m

-- OUT: a slot that isn't FULL any more was sent.
pub record OutRetiring : Type 0 where
  pub parity : Bool
  pub inflight : ℕ

-- Only a slot in flight that isn't FULL any more is retired.
abbrev pub out_retire_if : Bool → Bool → ℕ → OutRetiring
out_retire_if false s k = record { parity = s; inflight = k }
out_retire_if true s k = record { parity = not s; inflight = k - 1 }

-- One OUT slot, by the word of EP_BUFFER_CONTROL.
unfoldable pub out_retire_one : ℕ → Bool → ℕ → OutRetiring
out_retire_one w s k = out_retire_if (nat_lt 0 k && not (full w s)) s k
