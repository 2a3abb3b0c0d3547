-- What the functions that begin a stage are held to.
use Rattle.std.specs.Prelude.{◌≡◌, ℕ, List}
use Rattle.transfers.specs.declared.driver.InStage.{InStage}
use Rattle.transfers.specs.declared.progress.OutStarted.{OutStarted}
use Rattle.transfers.specs.declared.log.Log.{Log}
use Rattle.transfers.specs.Puts.{Puts}
use Rattle.transfers.specs.Outcome.{InStarted, OutStarted as OutStartedAs}

-- A function began an IN stage as defined: the stage and the log.
pub record StartsIn (g : InStarted) (l : Log) (r : InStage) (l' : Log) : Type 0 where
  pub stage : r ≡ g.stage
  pub log : Puts l g.writes l'

-- A function began an OUT stage as defined: the same, packet memory, and what was armed.
pub record StartsOut (g : OutStartedAs) (l : Log) (r : OutStarted) (m' : List ℕ) (l' : Log) : Type 0 where
  pub stage : r.stage ≡ g.stage
  pub first : r.first ≡ g.first
  pub second : r.second ≡ g.second
  pub memory : m' ≡ g.memory
  pub log : Puts l g.writes l'
