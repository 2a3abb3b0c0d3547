-- "10 all 15 open", for every driver value.
use Rattle.std.specs.Prelude.{◌≡◌, true, List, ℕ, ◌≤◌}
use Rattle.pool.specs.declared.pipe.PipeNumber.{PipeNumber}
use Rattle.transfers.specs.declared.host_controller.TransferExtras.{TransferExtras}
use Rattle.transfers.specs.declared.driver.Driver.{Driver}
use Rattle.transfers.specs.Reply.{number, open_reply}
use Rattle.transfers.specs.Pipes.{opening}
use Rattle.transfers.specs.Isolation.{is_open}
use Rattle.transfers.specs.ProvedTable.{OpenFits}

-- All 15 pipes are open.
abbrev pub FifteenOpen : Driver → Type 0
FifteenOpen d = (n : PipeNumber) → 1 ≤ n.0 → n.0 ≤ 15 → is_open d.pipes.opened n ≡ true

-- Open answers 10 exactly where all 15 are open and nothing earlier refuses.
pub record TenExactly : Type 0 where
  pub only : (d : Driver) (address : ℕ) (extras : TransferExtras) (endpoint size interval : ℕ) (log : List ℕ)
      → open_reply (opening d address extras endpoint size interval log).answer ≡ number 10
      → OpenFits address extras endpoint size interval log × FifteenOpen d
  pub there : (d : Driver) (address : ℕ) (extras : TransferExtras) (endpoint size interval : ℕ) (log : List ℕ)
      → OpenFits address extras endpoint size interval log → FifteenOpen d
      → open_reply (opening d address extras endpoint size interval log).answer ≡ number 10
