-- The one theorem. Assumes nothing.
use Rattle.rules.specs.PacketRules.{PacketRules}
use Rattle.cutting.proofs.Rules.{usb_rules}
use Rattle.cutting.proofs.Filled.{counts_bytes}
use Rattle.rules.proofs.Received.{receives, arms_as_cut}
use Rattle.rules.proofs.Decoded.{datasheet_rules}
use Rattle.rules.proofs.Free.{arms_free}
use Rattle.rules.proofs.ControlStages.{control_stages}
use Rattle.rules.proofs.Sends.{bulk_sends}
use Rattle.rules.proofs.Writes.{calls_write}

pub packet_rules : PacketRules
packet_rules = record { usb = usb_rules; counts = counts_bytes; receives = receives; datasheet = datasheet_rules; arms = arms_as_cut; free = arms_free; stages = control_stages; sends = bulk_sends; writes = calls_write }
