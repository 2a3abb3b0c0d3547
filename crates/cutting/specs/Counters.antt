-- The counters by which the driver hands out packets one at a time (rp2040.rs, `OutPacketiser` and `InPacketiser`).
use Rattle.std.specs.Prelude.{Bool, true, false, not, cond, ℕ, ◌+◌, ◌-◌, ◌%◌, eqb, ltb, None, Option, Some}
use Rattle.cutting.specs.declared.transfer_type.TransferType.{TransferType}
use Rattle.cutting.specs.declared.transfer_type.TransferType.TheVariants.{FixedSize, VariableSize}
use Rattle.cutting.specs.declared.packetiser.OutCounters.{OutCounters}
use Rattle.cutting.specs.declared.packetiser.Next.{Next}
use Rattle.cutting.specs.declared.packetiser.InPacketiser.{InPacketiser}

-- `need_zero_size_packet` at the start of n bytes at packet size p.
abbrev pub zlp_of : TransferType → ℕ → ℕ → Bool
zlp_of FixedSize p n = eqb n 0
zlp_of VariableSize p n = eqb (n % p) 0

-- A packet's length, and whether it is the last.
abbrev pub sends : ℕ → Bool → Option (ℕ × Bool)
sends n last = Some (n, last)

-- `next_packet` with r bytes left and z an empty packet owed. A packet size outside 1 to 64 gives none.
abbrev pub next_of : ℕ → ℕ → Bool → Option (ℕ × Bool)
next_of r p z =
    cond (eqb p 0) None (cond (ltb 64 p) None
    (cond (eqb r 0) (cond z (sends 0 true) None)
    (cond (ltb r p) (sends r true) (cond (ltb p r) (sends p false) (sends p (not z))))))

-- The PID of a slot.
abbrev pub pid_of : Bool → Bool → Bool
pid_of b false = b
pid_of b true = not b

-- Whether an empty packet is still owed after a packet that was cut with r bytes left.
abbrev pub owed_after : ℕ → Bool → Bool
owed_after r z = cond (eqb r 0) false z

-- ---- OUT

-- The counters of an OUT transfer at its start: slot 0, the first PID, all bytes left.
abbrev pub out_start : TransferType → ℕ → Bool → ℕ → OutCounters
out_start t p b n = record { slot = false; pid = b; remain = n; offset = 0; size = p; zlp = zlp_of t p n }

-- The counters after a packet of n bytes.
abbrev pub out_after : OutCounters → ℕ → OutCounters
out_after c n = record { slot = not c.slot; pid = c.pid; remain = c.remain - n; offset = c.offset + n; size = c.size; zlp = owed_after c.remain c.zlp }

-- A packet goes into its slot, and the counters move on; with none they stay.
abbrev pub out_gives : Option (ℕ × Bool) → OutCounters → Next OutCounters
out_gives None c = record { arm = None; rest = c }
out_gives (Some (n, last)) c = record { arm = Some (record { slot = c.slot; pid = pid_of c.pid c.slot; last = last; length = n }); rest = out_after c n }

-- The next packet and the counters after it; none where offset and rest are above 65,535.
unfoldable pub out_next : OutCounters → Next OutCounters
out_next c = out_gives (cond (ltb (0xFFFF - c.offset) c.remain) None (next_of c.remain c.size c.zlp)) c

-- ---- IN

-- The counters of an IN transfer at its start.
abbrev pub in_start_of : TransferType → ℕ → Bool → ℕ → InPacketiser
in_start_of t p b n = record { slot = false; pid = b; remain = n; size = p; zlp = zlp_of t p n }

-- "IN arms every slot with length p."
abbrev pub in_gives : Option (ℕ × Bool) → InPacketiser → Next InPacketiser
in_gives None c = record { arm = None; rest = c }
in_gives (Some (n, last)) c =
    record {
      arm = Some (record { slot = c.slot; pid = pid_of c.pid c.slot; last = last; length = c.size });
      rest = record { slot = not c.slot; pid = c.pid; remain = c.remain - n; size = c.size; zlp = owed_after c.remain c.zlp };
    }

-- The next slot of an IN transfer, and the counters after it.
unfoldable pub in_next : InPacketiser → Next InPacketiser
in_next c = in_gives (next_of c.remain c.size c.zlp) c
