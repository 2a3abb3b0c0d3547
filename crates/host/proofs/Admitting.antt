-- What a start does, by what its checks find. Assumes nothing.
use Rattle.std.proofs.Common.{◌≡◌, refl, ap, sym, subst, ◌∙◌, ℕ, Bool, true, false, List, length, eqb, Some}
use Rattle.transfers.specs.declared.refusal.Refusal.{Refusal}
use Rattle.transfers.specs.declared.refusal.Refusal.TheVariants.{LentMemory}
use Rattle.transfers.specs.declared.control.Begun.{Begun}
use Rattle.transfers.specs.declared.driver.Driver.{Driver}
use Rattle.transfers.specs.Memory.{lent_fits}
use Rattle.transfers.specs.Driver.{DidBegin}
use Rattle.host.specs.declared.fields.Fields.{Fields}
use Rattle.host.specs.declared.start.StartResult.{StartResult}
use Rattle.host.specs.declared.controller.HostController.{HostController}
use Rattle.host.specs.declared.start.NextStart.{NextStart}
use Rattle.host.specs.Fields.{length_of}
use Rattle.host.specs.Controller.{observed}
use Rattle.host.specs.Start.{StartKind, of_kind, next_start, refuses_start, beginning_of, starts_as, start_if, start_of, Starting, DidStart, refusing, started_by}
use Rattle.host.specs.Reply.{start_reply}
use Rattle.host.specs.Rows.{start_row}
use Rattle.host.proofs.Replies.{start_row_lem}

-- Packet memory or the log doesn't fit.
pub start_unlent : (d : HostController) (k : StartKind) (f : ℕ) (buf m log : List ℕ) → lent_fits m log ≡ false → start_of d k f buf m log ≡ refuses_start d LentMemory m
unfolding start_of
start_unlent d k f buf m log l = simp l

-- A caller is found: by the call's kind and the buffer's length.
pub start_ready : (d : HostController) (k : StartKind) (f : ℕ) (buf m log : List ℕ) (n : NextStart) (kind same : Bool) → lent_fits m log ≡ true → next_start (observed d f) ≡ Some n → of_kind k n.fields ≡ kind
    → eqb (length buf) (length_of n.fields) ≡ same → start_of d k f buf m log ≡ start_if kind same d f n m (beginning_of d.driver.transfer n.fields buf m log)
unfolding start_of
start_ready d k f buf m log n kind same l e p q = simp (l, e, p, q)

-- ---- what the code hands back

-- All that a start ensures.
abbrev Told : HostController → StartKind → ℕ → List ℕ → List ℕ → List ℕ → StartResult → List ℕ → List ℕ → Type 0
Told d k f buf m log r m' l' = DidStart (start_of d k f buf m log) log r m' l' × (start_reply r.answer ≡ start_row d k f buf m log)

told : (d : HostController) (k : StartKind) (f : ℕ) (buf m log : List ℕ) (o : Starting) (r : StartResult) (m' l' : List ℕ) → start_of d k f buf m log ≡ o → DidStart o log r m' l'
    → Told d k f buf m log r m' l'
told d k f buf m log o r m' l' e did =
    let same = subst (λ (z : Starting). DidStart z log r m' l') (sym e) did in
    (same, ap (λ (z : StartResult). start_reply z.answer) same.result ∙ start_row_lem d k f buf m log)

-- A refusal,
pub refused_told : (d : HostController) (k : StartKind) (f : ℕ) (buf m log : List ℕ) (why : Refusal) (r : StartResult) → start_of d k f buf m log ≡ refuses_start d why m → r ≡ refusing d why
    → Told d k f buf m log r m log
refused_told d k f buf m log why r e q = told d k f buf m log (refuses_start d why m) r m log e (record { result = q; memory = refl; log = refl })

-- and what the driver's begin did, with the fields x.
pub begun_told : (d : HostController) (k : StartKind) (f : ℕ) (buf m log : List ℕ) (t : HostController) (n : NextStart) (x : Fields) (b : Begun Driver) (r : StartResult) (m' l' : List ℕ)
    → start_of d k f buf m log ≡ starts_as t n (beginning_of t.driver.transfer n.fields buf m log) → n.fields ≡ x → DidBegin t.driver (beginning_of t.driver.transfer x buf m log) log b m' l'
    → r ≡ started_by t n b → Told d k f buf m log r m' l'
begun_told d k f buf m log t n x b r m' l' e w did q =
    told d k f buf m log (starts_as t n (beginning_of t.driver.transfer x buf m log)) r m' l' (e ∙ ap (λ (y : Fields). starts_as t n (beginning_of t.driver.transfer y buf m log)) w)
    (record { result = q ∙ ap (started_by t n) did.result; memory = did.memory; log = did.log })
