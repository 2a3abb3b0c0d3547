-- `HostController::submit` is `submit_of`: a refused one changes nothing. Assumes nothing.
use Rattle.std.proofs.Common.{sym, ap, ◌∙◌}
use Rattle.host.specs.Submit.{submit_of}
use Rattle.host.specs.Reply.{submit_reply}
use Rattle.host.proofs.Replies.{submit_row_lem}
use Rattle.host.proofs.controller.HostController.submit.Goals as goal

pub returns-in-Err : goal.returns-in-Err
unfolding submit_of
returns-in-Err c =
    let a = c.args in
    let e = sym c.submit_checks.ensures ∙ c.in-Err.is in
    (simp e, ap submit_reply (sym e) ∙ submit_row_lem a.self a.caller a.fields a.frame)
