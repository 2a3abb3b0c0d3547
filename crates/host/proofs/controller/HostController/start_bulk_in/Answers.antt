-- `HostController::start_bulk_in` is `start_of`: a refusal of its checks, or the begin. Assumes nothing.
use Rattle.std.proofs.Common.{refl, sym, ◌∙◌}
use Rattle.host.proofs.Admitting.{refused_told, begun_told}
use Rattle.host.proofs.controller.HostController.start_bulk_in.Goals as goal

pub returns-in-Err : goal.returns-in-Err
returns-in-Err c =
    let a = c.args in
    let l = sym c.lent_fits.ensures ∙ c.if-not-lent_fits.false in
    let e = c.in-Err.ensures a.self a.frame a.buf.now a.pm.now a.log.now c.observed-now.ensures l refl in
    refused_told a.self _ a.frame a.buf.now a.pm.now a.log.now _ _ e c.refuse_start-in-Err.ensures

pub returns-in-Ok : goal.returns-in-Ok
returns-in-Ok c =
    let a = c.args in
    let l = sym c.lent_fits.ensures ∙ c.if-not-lent_fits.false in
    let e = c.in-Ok.ensures.does a.self a.frame a.buf.now a.pm.now a.log.now c.observed-now.ensures l refl in
    begun_told a.self _ a.frame a.buf.now a.pm.now a.log.now c.observed-now.result _ _ _ _ _ _ e c.in-Ok.ensures.came_with c.begin_bulk_in-b.ensures.0 c.started.ensures
