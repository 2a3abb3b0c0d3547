-- The driver's calls as an interface of term 3.
use Rattle.transfers.specs.declared.driver.DeskRule.{DeskRule}
use Rattle.transfers.specs.Driver.{fresh}
use Rattle.record.specs.Wire.{File}
use Rattle.record.specs.Calls.{Call}
use Rattle.record.specs.Asked.{AllTyped}
use Rattle.record.specs.Told.{untold}
use Rattle.record.specs.Shown.{shown_from}
use Rattle.record.specs.Premises.{UnrefusedFrom}
use Rattle.record.specs.Table.{TableFrom}
use Rattle.record.specs.Kept.{AllLent}
use Rattle.record.specs.Term3.{Interface}

-- A driver is made with a desk rule, either.
abbrev pub driver_calls : Interface
driver_calls = record {
  Made = DeskRule;
  Ample = λ rule. Unit {0};
  Call = Call;
  AllTyped = AllTyped;
  AllLent = AllLent;
  shows = λ rule cs. shown_from (fresh rule) cs;
  Table = λ rule cs. (f : File) → TableFrom (untold f) (fresh rule) cs;
  Unrefused = λ rule cs. UnrefusedFrom (fresh rule) cs;
}
