-- `Ties`, proved. Assumes nothing.
use mathlib.Core.Path.{refl, ap}
use Rattle.host.specs.declared.controller.SubmitResult.{SubmitResult}
use Rattle.host.specs.declared.controller.TurnResult.{TurnResult}
use Rattle.host.specs.declared.start.StartResult.{StartResult}
use Rattle.term3.specs.Calls.{call}
use Rattle.term3.specs.Ties.{Ties}

pub tied : Ties
unfolding call
tied = record {
  submits = λ d c x n f r e. (ap (λ (s : SubmitResult). s.next) e, ap (λ (s : SubmitResult). s.answer) e);
  looks = λ d f r e. (ap (λ (s : TurnResult). s.next) e, ap (λ (s : TurnResult). s.answer) e);
  starts = λ d k f buf m log r m' l' h. (
    ap (λ (s : StartResult). s.next) h.result,
    ap (λ (s : StartResult). s.answer) h.result,
    ap (λ (s : StartResult). s.armed) h.result,
    ap (λ (s : StartResult). s.writes) h.result,
    h.memory,
    h.log,
  );
  drives = λ d c b. (refl, refl, refl, refl, refl, refl);
  coming_numbers = λ why. refl;
  start_numbers = λ why. refl;
}
