-- `put_told` stores the head at used length 0, then the entries, then a count.
-- Assumes nothing.
use native.Mathlib.Omega.{arith}
use Rattle.record.proofs.Puts.{then}
use Rattle.record.proofs.Encoding.{setup_size_lem, out_size_lem, ranges, head_length, armed_encoded}
use Rattle.record.specs.Writer.{appended, told_bytes}
use Rattle.record.proofs.writer.put_told.Goals as goal

pub put_setup-b-requires : goal.put_setup-b-requires
put_setup-b-requires c = omega (arith, c.requires.0, c.put_head-a.ensures.next, head_length c.args.used)

pub put_out-c-requires : goal.put_out-c-requires
put_out-c-requires c =
    let a = c.args in
    let g = ranges a.armed c.requires.1 in
    (omega (arith, c.requires.0, c.put_head-a.ensures.next, head_length a.used, c.put_setup-b.ensures.next, setup_size_lem a.armed.setup), g.first)

pub put_out-d-requires : goal.put_out-d-requires
put_out-d-requires c =
    let a = c.args in
    let g = ranges a.armed c.requires.1 in
    let first = out_size_lem a.pm.now a.armed.first c.told-pm g.first in
    (omega (arith, c.requires.0, c.put_head-a.ensures.next, head_length a.used, c.put_setup-b.ensures.next, setup_size_lem a.armed.setup, c.put_out-c.ensures.next, first), g.second)

pub put_failed-requires : goal.put_failed-requires
put_failed-requires c =
    let a = c.args in
    let g = ranges a.armed c.requires.1 in
    let first = out_size_lem a.pm.now a.armed.first c.told-pm g.first in
    let second = out_size_lem a.pm.now a.armed.second c.told-pm g.second in
    omega (
      arith,
      c.requires.0,
      c.put_head-a.ensures.next,
      head_length a.used,
      c.put_setup-b.ensures.next,
      setup_size_lem a.armed.setup,
      c.put_out-c.ensures.next,
      first,
      c.put_out-d.ensures.next,
      second,
    )

pub returns : goal.returns
unfolding told_bytes appended
returns c =
    let a = c.args in
    rw (armed_encoded a.armed a.pm.now)
    (then (then c.put_head-a.ensures (then c.put_setup-b.ensures (then c.put_out-c.ensures c.put_out-d.ensures))) c.put_failed.ensures)
