-- What putting writes leaves of the log.
use Rattle.std.specs.Prelude.{◌≡◌, List}
use Rattle.transfers.specs.declared.log.Log.{Log}
use Rattle.transfers.specs.Log.{Write, Wrote}

-- The same words are lent, with the writes put where the log stood.
pub record Puts (l : Log) (ws : List Write) (l' : Log) : Type 0 where
  pub same : l'.words.ghost_name ≡ l.words.ghost_name
  pub wrote : Wrote l.words.now l.used ws l'.words.now l'.used
