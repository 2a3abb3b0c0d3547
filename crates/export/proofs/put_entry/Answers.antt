-- By what stands at the position. Assumes nothing.
use mathlib.Core.Path.{◌≡◌, ap, sym, ◌∙◌}
use Prim.Native.Nat.{◌+◌, ◌-◌}
use native.Mathlib.Omega.{arith}
use lib.ListN.{drop}
use Rattle.std.specs.Prelude.{Ok, Some, None, Err}
use Rattle.std.proofs.Common.{rules}
use Rattle.record.specs.Reader.{look}
use Rattle.record.proofs.Looking.{setup_at, out_at}
use Rattle.export.specs.Export.{packets_of}
use Rattle.export.proofs.Putting.{setup_there, out_there, none_there, none_put, setup_put, out_put}
use Rattle.export.proofs.put_entry.Goals as goal

pub slice_bounds-put_pair-end : goal.slice_bounds-put_pair-end
slice_bounds-put_pair-end c =
    let a = c.args in
    let e = sym c.look_at.ensures ∙ c.in-Ok-Some.is ∙ ap Ok (c.in-Ok-Some.field-0-is ∙ ap Some c.in-Setup.is) in
    omega (arith, setup_at a.s.now a.at _ _ e)

pub slice_bounds-put_pair-end-in-Out : goal.slice_bounds-put_pair-end-in-Out
slice_bounds-put_pair-end-in-Out c =
    let a = c.args in
    let e = sym c.look_at.ensures ∙ c.in-Ok-Some.is ∙ ap Ok (c.in-Ok-Some.field-0-is ∙ ap Some c.in-Out.is) in
    omega (arith, out_at a.s.now a.at c.in-Out.x e)

pub returns-in-Setup : goal.returns-in-Setup
returns-in-Setup c = λ m post h q room.
    let a = c.args in
    let p = c.put_pair in
    let e = sym c.look_at.ensures ∙ c.in-Ok-Some.is ∙ ap Ok (c.in-Ok-Some.field-0-is ∙ ap Some c.in-Setup.is) in
    let t = setup_there a.s.now a.at m post h q _ _ e in
    setup_put a.s.now a.at a.used p.result _ (a.at + 10 - (a.at + 2)) a.out.now _ m t (omega arith)
    (setup_at a.s.now a.at _ _ e) p.ensures room

pub returns-in-Out : goal.returns-in-Out
returns-in-Out c = λ m post h q room.
    let a = c.args in
    let p = c.put_pair-in-Out in
    let e = sym c.look_at.ensures ∙ c.in-Ok-Some.is ∙ ap Ok (c.in-Ok-Some.field-0-is ∙ ap Some c.in-Out.is) in
    let t = out_there a.s.now a.at m post h q _ e in
    out_put a.s.now a.at a.used p.result (a.at + 6 + c.in-Out.x.length - (a.at + 6)) c.in-Out.x a.out.now _ m t (omega arith)
    (out_at a.s.now a.at c.in-Out.x e) p.ensures room

pub returns-in-Failed : goal.returns-in-Failed
returns-in-Failed c = λ m post h q room.
    let a = c.args in
    let e = sym c.look_at.ensures ∙ c.in-Ok-Some.is ∙ ap Ok (c.in-Ok-Some.field-0-is ∙ ap Some c.in-Failed.is) in
    none_put (packets_of m) a.out.now a.used (none_there a.s.now a.at m post h q _ e tt)

pub returns-in_default : goal.returns-in_default
returns-in_default c = λ m post h q room.
    let a = c.args in
    let e : look (drop a.at a.s.now) ≡ Ok None = search rules in
    none_put (packets_of m) a.out.now a.used (none_there a.s.now a.at m post h q _ e tt)

pub returns-in_default-2 : goal.returns-in_default-2
returns-in_default-2 c = λ m post h q room.
    let a = c.args in
    none_put (packets_of m) a.out.now a.used (none_there a.s.now a.at m post h q (Err _) (sym c.look_at.ensures ∙ c.in_default.is) tt)
