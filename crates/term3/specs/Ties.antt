-- `call` says what the functions do: whatever meets a function's contract is what `call` says of it.
use Rattle.std.specs.Prelude.{◌≡◌, false, List, ℕ, length, Err}
use Rattle.transfers.specs.declared.refusal.Refusal.{Refusal}
use Rattle.transfers.specs.Log.{logged}
use Rattle.transfers.specs.Reply.{number}
use Rattle.transfers.specs.Refusal as T
use Rattle.host.specs.declared.answers.SubmitRefusal.{SubmitRefusal}
use Rattle.host.specs.declared.controller.HostController.{HostController}
use Rattle.host.specs.declared.controller.SubmitResult.{SubmitResult}
use Rattle.host.specs.declared.controller.TurnResult.{TurnResult}
use Rattle.host.specs.declared.start.StartResult.{StartResult}
use Rattle.host.specs.Refusal.{number_of}
use Rattle.host.specs.Reply.{submit_reply, start_reply}
use Rattle.host.specs.Submit.{submit_of}
use Rattle.host.specs.Turn.{whose_turn_of}
use Rattle.host.specs.Start.{StartKind, start_of, DidStart}
use Rattle.record.specs.Calls.{Begin}
use Rattle.record.specs.Calls as D
use Rattle.term3.specs.Calls.{is_begin, submit, whose_turn, start, driver, fields_of, call}

-- What a coming hands back is what `call` says of it.
abbrev pub Submitted : HostController → ℕ → Begin → ℕ → ℕ → SubmitResult → Type 0
Submitted d c x n f r = let o = call d (submit c x n f) in (r.next ≡ o.next) × (r.answer ≡ o.answer)

-- The same of a look.
abbrev pub Looked : HostController → ℕ → TurnResult → Type 0
Looked d f r = let o = call d (whose_turn f) in (r.next ≡ o.next) × (r.answer ≡ o.answer)

-- The same of a start, with packet memory and the log as it leaves them.
abbrev pub Started : HostController → StartKind → ℕ → List ℕ → List ℕ → List ℕ → StartResult → List ℕ → List ℕ → Type 0
Started d k f buf m log r m' l' = let o = call d (start k f buf m log) in
    (r.next ≡ o.next) × (r.answer ≡ o.answer) × (r.armed ≡ o.armed) × (r.writes ≡ length o.writes) × (m' ≡ o.memory) × (l' ≡ logged log 0 o.writes)

-- A coming, a look and a start; and that the driver's calls, which `Ties` of record ties, change the field `driver` and nothing else.
pub record Ties : Type 0 where
  pub submits : (d : HostController) (c : ℕ) (x : Begin) (n f : ℕ) (r : SubmitResult) → r ≡ submit_of d c (fields_of x n) f → Submitted d c x n f r
  pub looks : (d : HostController) (f : ℕ) (r : TurnResult) → r ≡ whose_turn_of d f → Looked d f r
  pub starts : (d : HostController) (k : StartKind) (f : ℕ) (buf m log : List ℕ) (r : StartResult) (m' l' : List ℕ) → DidStart (start_of d k f buf m log) log r m' l' → Started d k f buf m log r m' l'
  pub drives : (d : HostController) (c : D.Call) (b : is_begin c ≡ false) → let o = call d (driver c b) in let e = D.call d.driver c in
      (o.next ≡ record { driver = e.next; dispatcher = d.dispatcher; submissions = d.submissions }) × (o.answer ≡ e.answer) × (o.writes ≡ e.writes) × (o.memory ≡ e.memory)
      × (o.armed ≡ e.armed) × (o.failed ≡ e.failed)
  -- A refused coming's number in `Table` is the one that `u8::from` gives, a refused start's the driver's.
  pub coming_numbers : (why : SubmitRefusal) → submit_reply (Err why) ≡ number (number_of why)
  pub start_numbers : (why : Refusal) → start_reply (Err why) ≡ number (T.number_of why)
