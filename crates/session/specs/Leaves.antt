-- What a fresh state is, and what the lines leave that call no driver.
use Rattle.std.specs.Prelude.{◌≡◌, false, min, replicate, take, None, Some, ⊤}
use Rattle.script.specs.declared.command.Call.{Call}
use Rattle.script.specs.declared.command.Call.TheVariants.{Skipped, Wrong, Fresh, Rule, Lend, Memory, Buffer, Record}
use Rattle.script.specs.declared.command.Rule.{Rule as ScriptRule}
use Rattle.script.specs.declared.command.Rule.TheVariants.{One as script_one, Two as script_two}
use Rattle.transfers.specs.declared.driver.DeskRule.{DeskRule}
use Rattle.transfers.specs.declared.driver.DeskRule.TheVariants.{One, Two}
use Rattle.transfers.specs.Driver.{fresh}
use Rattle.script.specs.Text.{placed}
use Rattle.session.specs.declared.state.State.{State}
use Rattle.session.specs.declared.play.Session.{Session}

-- The desk rule that a `rule` line names.
abbrev pub desk_rule_of : ScriptRule → DeskRule
desk_rule_of script_one = One
desk_rule_of script_two = Two

-- A fresh driver of this rule, packet memory of zeros, and all of memory and log lent.
pub record IsFresh (rule : DeskRule) (s : State) : Type 0 where
  pub driver : s.driver ≡ fresh rule
  pub zeros : s.pm ≡ replicate 4096 0
  pub memory : s.memory ≡ 4096
  pub words : s.words ≡ 192
  pub control : s.bulk ≡ false

-- What a line leaves; of the driver's calls the driver's own contracts speak.
abbrev pub Leaves : Call → Session → Session → Type 0
Leaves Skipped old new = new ≡ old
Leaves Wrong old new = new ≡ old
Leaves Fresh old new = IsFresh old.state.driver.rule new.state × (new.lent ≡ None)
Leaves (Rule rule) old new = IsFresh (desk_rule_of rule) new.state × (new.lent ≡ None)
Leaves (Lend l) old new = new.state ≡ record old.state { memory = l.memory; words = l.words }
Leaves (Memory m) old new = new.state ≡ record old.state { pm = placed old.state.pm m.offset (take m.count old.bytes) }
Leaves (Buffer n) old new = (new.own ≡ placed old.own 0 (take n old.bytes)) × (new.lent ≡ Some (min n 131072))
Leaves Record old new = new ≡ old
Leaves _ old new = ⊤
