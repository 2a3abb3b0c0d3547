-- Each entry has at least one byte, and two packets at most. Assumes nothing.
use Rattle.std.proofs.Common.{◌*◌, ◌-◌, ◌≤◌, length}
use Rattle.capture.proofs.print_packets.Given as goal

abbrev pub invariant-loop-l : goal.invariant-loop-l
invariant-loop-l g l = l.count ≤ 2 * l.at

abbrev pub decreases-loop-l : goal.decreases-loop-l
decreases-loop-l g l = length l.s - l.at
