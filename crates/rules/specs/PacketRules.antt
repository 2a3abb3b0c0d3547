-- "its packet rules are proved against USB 2.0 and the RP2040 datasheet": one theorem, `packet_rules` in proofs/PacketRules.antt.
use Rattle.cutting.specs.Rules.{UsbRules}
use Rattle.cutting.specs.Retire.{CountsBytes}
use Rattle.rules.specs.Datasheet.{DatasheetRules}
use Rattle.rules.specs.Received.{Receives}
use Rattle.rules.specs.Armed.{ArmsFree, ArmsAsCut}
use Rattle.rules.specs.Writes.{CallsWrite}
use Rattle.rules.specs.ControlStages.{ControlStages}
use Rattle.rules.specs.Sends.{Sends}

-- The whole claim.
pub record PacketRules : Type 0 where
  -- USB 2.0: the cutting OUT meets the rules and nothing else does; the slots IN suffice.
  pub usb : UsbRules
  -- What is received is counted, each byte once, never more than there is room for.
  pub counts : CountsBytes
  -- The datasheet: what is written decodes to the packet, the endpoint and the pipe meant.
  pub datasheet : DatasheetRules
  -- From an IN begin to its done: count, buffer and toggle.
  pub receives : Receives
  -- The slots that the logs of an IN transfer arm are the cutting's.
  pub arms : ArmsAsCut
  -- A step arms only slots that its sample shows free.
  pub free : ArmsFree
  -- A control goes from stage to stage: for whom, which way and how long.
  pub stages : ControlStages
  -- From a bulk OUT begin to its done: count and toggle.
  pub sends : Sends
  -- Every call's writes: how many, to which registers, and zero outside their masks.
  pub writes : CallsWrite
