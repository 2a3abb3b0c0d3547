-- `prepare` is `out_arm`. Assumes nothing.
use Rattle.std.proofs.Common.{sym, ap, ◌∙◌, arith, length-drop, length-take}
use Rattle.cutting.proofs.Next.{out_fits}
use Rattle.cutting.specs.declared.packetiser.OutCounters.{OutCounters}
use Rattle.cutting.specs.declared.packetiser.Next.{Next}
use Rattle.transfers.proofs.arming.prepare.Goals as goal

pub fill_slot-requires : goal.fill_slot-requires
fill_slot-requires c =
    let a = c.args in
    let e = sym (ap (λ (y : Next OutCounters). y.arm) c.next_packet-next.ensures) ∙ c.in-Some.is in
    let f = out_fits a.p.counters c.in-Some.arm e in
    (f.small, simp (length-take, length-drop) (omega (arith, f.rest, c.requires)))
