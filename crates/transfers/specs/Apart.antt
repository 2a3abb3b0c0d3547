-- What the register writes of open, poll, on_irq and detection leave alone.
use Rattle.std.specs.Prelude.{◌≡◌, ℕ, ◌≤◌, false, List, [], ◌∷◌}
use Rattle.transfers.specs.Log.{Write, wr}
use Rattle.transfers.specs.Registers.{setup_low, setup_high, ep_buffer, ep_buffer_of, addr_endp, sie_ctrl, bit}

-- Every write of a list.
abbrev pub Every : (ℕ → ℕ → ℕ → Type 0) → List Write → Type 0
Every P [] = Unit {0}
Every P (wr r m v ∷ ws) = P r m v × Every P ws

-- A register that is none of ADDR_ENDP, SIE_CTRL, EP_BUFFER_CONTROL of the control pipe, and SETUP_PACKET_LOW and HIGH.
pub record Elsewhere (r : ℕ) : Type 0 where
  pub target : r ≡ addr_endp → ⊥
  pub control : r ≡ sie_ctrl → ⊥
  pub buffer : r ≡ ep_buffer → ⊥
  pub low : r ≡ setup_low → ⊥
  pub high : r ≡ setup_high → ⊥

-- No write touches these registers.
abbrev pub Apart : List Write → Type 0
Apart = Every (λ r m v. Elsewhere r)

-- FULL_0 is set in no interrupt pipe's EP_BUFFER_CONTROL.
abbrev pub NoneFull : List Write → Type 0
NoneFull = Every (λ r m v. (n : ℕ) → 1 ≤ n → n ≤ 15 → r ≡ ep_buffer_of n → bit 15 v ≡ false)
