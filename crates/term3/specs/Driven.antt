-- What the host controller's calls do to the driver: "A start .. does what begin did", and comings and looks leave it alone. Request R-9, and term 1 for refused calls.
use Rattle.std.specs.Prelude.{◌≡◌, List, [], ℕ, Err, Ok}
use Rattle.transfers.specs.declared.refusal.Refusal.{Refusal}
use Rattle.transfers.specs.Answers.{nothing_armed}
use Rattle.transfers.specs.Driver.{fresh}
use Rattle.host.specs.declared.answers.SubmitRefusal.{SubmitRefusal}
use Rattle.host.specs.declared.controller.HostController.{HostController}
use Rattle.host.specs.Start.{StartKind}
use Rattle.record.specs.Calls.{Begin, begin}
use Rattle.record.specs.Calls as D
use Rattle.term3.specs.Calls.{Call, submit, whose_turn, start, call}
use Rattle.term3.specs.Callers.{Callers, no_callers}
use Rattle.term3.specs.HostCalls.{Made, fresh_for}
use Rattle.term3.specs.Turns.{after, tell_from}

-- Of a moment: a start of caller c is the driver's begin, not refused, of what c came with last and of the buffer lent: its driver, writes, packet memory and armed packets.
abbrev pub Begins : HostController → Callers → Type 0
Begins d t = (k : StartKind) (f : ℕ) (buf m log : List ℕ) (c : ℕ) → let o = call d (start k f buf m log) in let b = D.call d.driver (begin (t.came c).fields buf m log) in o.answer ≡ Ok c
    → (b.answer ≡ Ok tt) × (o.next.driver ≡ b.next) × (o.writes ≡ b.writes) × (o.memory ≡ b.memory) × (o.armed ≡ b.armed)

pub record Driven : Type 0 where
  -- "A fresh driver": of the desk rule given.
  pub fresh_driver : (made : Made) → (fresh_for made).driver ≡ fresh made.rule
  -- "it does what begin did": at every moment of every list of calls from a fresh host controller.
  pub begins : (made : Made) (cs : List Call) → Begins (after (fresh_for made) cs) (tell_from (no_callers made.shares) (fresh_for made) cs)
  -- A coming and a look, in any state.
  pub comings : (d : HostController) (c : ℕ) (x : Begin) (n f : ℕ) → (call d (submit c x n f)).next.driver ≡ d.driver
  pub looks : (d : HostController) (f : ℕ) → (call d (whose_turn f)).next.driver ≡ d.driver
  -- "A call refused before it acts changes nothing": in any state.
  pub refused_comings : (d : HostController) (c : ℕ) (x : Begin) (n f : ℕ) (why : SubmitRefusal) → let o = call d (submit c x n f) in o.answer ≡ Err why → o.next ≡ d
  pub refused_starts : (d : HostController) (k : StartKind) (f : ℕ) (buf m log : List ℕ) (why : Refusal) → let o = call d (start k f buf m log) in o.answer ≡ Err why
      → (o.next ≡ d) × (o.writes ≡ []) × (o.memory ≡ m) × (o.armed ≡ nothing_armed)
