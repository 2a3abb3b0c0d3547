-- The turn, at every moment. Assumes nothing.
use mathlib.Core.Path.{◌∙◌}
use mathlib.Core.List.{List, [], ◌∷◌}
use Rattle.host.specs.declared.controller.HostController.{HostController}
use Rattle.term3.specs.Calls.{Call, call}
use Rattle.term3.specs.Callers.{Callers, no_callers, hears}
use Rattle.term3.specs.HostCalls.{fresh_for}
use Rattle.term3.specs.Turns.{after, tell_from, Turn, Turns}
use Rattle.term3.proofs.Agreeing.{Agrees, agrees_next, fresh_agrees}
use Rattle.term3.proofs.Looking as L
use Rattle.term3.proofs.Seven as S

at_once : (t : Callers) (d : HostController) → Agrees t d → Turn d t
at_once t d h = record {
  look = λ f. L.look_is t d f h;
  busy = λ f b. L.look_is t d f h ∙ L.busy_look t f b;
  first = λ c x n f b w a r. L.first_look t d c x n f h b w a r;
  passes = λ x e. L.passes_look t d x h e;
  stays = λ c x f e s. L.stays_look t d c x f h e s;
  passed_over = λ c f e. L.passed_over t d c f h e;
  too_small = λ f none. L.too_small t d f h none;
  nobody = λ f b e c k. L.nobody_fits t d f h b e c k;
  goes = λ f b e. L.goes t d f h b e;
  goes_coming = λ c x n f b e a. L.goes_coming t d c x n f h b e a;
  goes_start = λ k f buf m log c e q. L.goes_start t d k f buf m log c h e q;
  seven = λ c k w later. S.seven t d c later h k w;
}

pub agrees_after : (cs : List Call) (t : Callers) (d : HostController) → Agrees t d → Agrees (tell_from t d cs) (after d cs)
unfolding tell_from after
agrees_after [] t d h = h
agrees_after (c ∷ cs) t d h = let o = call d c in agrees_after cs (hears t c o.answer) o.next (agrees_next t d c h)

pub turns : Turns
turns made cs = at_once (tell_from (no_callers made.shares) (fresh_for made) cs) (after (fresh_for made) cs) (agrees_after cs (no_callers made.shares) (fresh_for made) (fresh_agrees made))
