-- `HostController::admit`: another length is refused, else the start may begin. Assumes nothing.
use Rattle.std.proofs.Common.{◌≡◌, true, false, Some, length, eqb, rules, sym, ap, ◌∙◌}
use Rattle.std.proofs.lemmas.Bool.{eq-eqb, ne_eqb}
use Rattle.host.specs.Fields.{length_of}
use Rattle.host.specs.Start.{of_kind, next_start}
use Rattle.host.proofs.Admitting.{start_ready}
use Rattle.host.proofs.controller.HostController.admit.Goals as goal

pub returns-then-n-length : goal.returns-then-n-length
returns-then-n-length g c d f buf m log t l h =
    let n = c.in_ok-next.next in
    let e : next_start c.args.self.now ≡ Some n = search rules in
    let w : n.fields ≡ g.T.StartFields.came c.in_ok-fields.fields = search rules in
    let p = ap (of_kind g.T.StartFields.kind) w ∙ g.met.T.StartFields.is_kind c.in_ok-fields.fields in
    let q : eqb (length buf) (length_of n.fields) ≡ false = ne_eqb _ _ (λ r. c.if-n-length.true (sym h ∙ r ∙ sym c.length.ensures)) in
    start_ready d _ f buf m log _ true false l (ap next_start (sym t) ∙ e) p q

pub returns : goal.returns
returns g c =
    let n = c.in_ok-next.next in
    let e : next_start c.args.self.now ≡ Some n = search rules in
    let w : n.fields ≡ g.T.StartFields.came c.in_ok-fields.fields = search rules in
    let p = ap (of_kind g.T.StartFields.kind) w ∙ g.met.T.StartFields.is_kind c.in_ok-fields.fields in
    record {
      does = λ d f buf m log t l h. search (rules, t, start_ready d _ f buf m log _ true true l (ap next_start (sym t) ∙ e) p (eq-eqb _ _ (h ∙ c.if-n-length.false ∙ c.length.ensures)));
      came_with = w;
    }
