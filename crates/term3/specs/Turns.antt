-- Requests R-9's and R-10's sentences on the turn, over every list of calls from a fresh host controller. Whose turn it is, who waits, what each has spent and whose transfer
-- ends is told by the calls and their answers alone (`Callers`).
use Rattle.std.specs.Prelude.{◌≡◌, Bool, true, false, cond, not, ◌&&◌, List, [], ◌∷◌, ℕ, ◌+◌, ◌≤◌, ◌<◌, eqb, leb, Err, None, Ok, Option, Some}
use Rattle.host.specs.declared.controller.HostController.{HostController}
use Rattle.host.specs.Start.{StartKind}
use Rattle.record.specs.Calls.{Begin}
use Rattle.term3.specs.Calls.{Call, submit, whose_turn, start, driver, Answer, call}
use Rattle.term3.specs.Callers.{Callers, any_waits, no_callers, enough, fits, next_turn, whose, in_frame, joins, looks, ends_by, hears}
use Rattle.term3.specs.HostCalls.{Made, fresh_for}

-- The state after a list of calls, "each getting the state the last one returned".
unfoldable pub after : HostController → List Call → HostController
after d [] = d
after d (c ∷ cs) = after (call d c).next cs

-- What they tell.
unfoldable pub tell_from : Callers → HostController → List Call → Callers
tell_from t d [] = t
tell_from t d (c ∷ cs) = let o = call d c in tell_from (hears t c o.answer) o.next cs

-- What a look in frame f answers.
abbrev pub looked : HostController → ℕ → Option ℕ
looked d f = (call d (whose_turn f)).answer

-- The answer for a number told, 8 for nobody.
abbrev pub answer_for : ℕ → Option ℕ
answer_for c = cond (leb c 7) (Some c) None

-- It is c's turn.
abbrev pub is_turn : Option ℕ → ℕ → Bool
is_turn (Some e) c = eqb e c
is_turn None c = false

-- How many transfers of others than c end until c has the turn, by looks that bring the frame number last seen.
unfoldable pub others_end : ℕ → Callers → HostController → List Call → ℕ
others_end c t d [] = 0
others_end c t d (x ∷ xs) =
    let o = call d x in
    cond (is_turn (looked d t.frame) c) 0 (cond (ends_by x o.answer && not (eqb t.last c)) 1 0 + others_end c (hears t x o.answer) o.next xs)

-- A start that isn't refused.
abbrev pub is_started : (c : Call) → Answer c → Bool
is_started (submit c x n f) a = false
is_started (whose_turn f) a = false
is_started (start k f buf m log) (Ok c) = true
is_started (start k f buf m log) (Err why) = false
is_started (driver c e) a = false

-- Of a moment: the state that a list of calls left, and what it told.
pub record Turn (d : HostController) (t : Callers) : Type 0 where
  -- "A look, never refused, answers whose turn it is"
  pub look : (f : ℕ) → looked d f ≡ answer_for (whose (looks t f))
  -- "nobody's while a transfer is under way"
  pub busy : (f : ℕ) → t.under_way ≡ true → looked d f ≡ None
  -- "With none under way or waiting, the next to come has the turn.": if its remainder is large enough.
  pub first : (c : ℕ) (x : Begin) (n f : ℕ) → let o = call d (submit c x n f) in t.under_way ≡ false → any_waits t.waits 8 ≡ false → o.answer ≡ Ok tt
      → enough (in_frame t f) c (record { fields = x; length = n }) ≡ true → looked o.next f ≡ Some c
  -- "When a transfer ends, by cancel too, the turn passes to the next higher number that waits, going round after 7.": and fits, in the frame last seen.
  pub passes : (x : Call) → let o = call d x in ends_by x o.answer ≡ true → looked o.next t.frame ≡ answer_for (next_turn t)
  -- A turn that was given stays until its start, whatever frame comes.
  pub stays : (c : ℕ) (x : Call) (f : ℕ) → let o = call d x in looked d t.frame ≡ Some c → is_started x o.answer ≡ false → looked o.next f ≡ Some c
  -- "A caller whose remainder is too small is passed over": who has the turn waits, and its remainder is large enough.
  pub passed_over : (c f : ℕ) → looked d f ≡ Some c → fits (in_frame t f) c ≡ true
  -- "If all who wait are too small, nobody has the turn.",
  pub too_small : (f : ℕ) → ((c : ℕ) → c < 8 → fits (in_frame t f) c ≡ false) → looked d f ≡ None
  -- and with none under way only then.
  pub nobody : (f : ℕ) → t.under_way ≡ false → looked d f ≡ None → (c : ℕ) → c < 8 → fits (in_frame t f) c ≡ false
  -- "It then goes, at the first call that finds a remainder large enough, to the first such waiting caller above the last that started, going round.": a look,
  pub goes : (f : ℕ) → t.under_way ≡ false → looked d t.frame ≡ None → looked d f ≡ answer_for (next_turn (in_frame t f))
  -- a coming, which joins those who wait,
  pub goes_coming : (c : ℕ) (x : Begin) (n f : ℕ) → let o = call d (submit c x n f) in t.under_way ≡ false → looked d t.frame ≡ None → o.answer ≡ Ok tt
      → looked o.next f ≡ answer_for (next_turn (joins (in_frame t f) c (record { fields = x; length = n })))
  -- or a start, which is then that caller's.
  pub goes_start : (k : StartKind) (f : ℕ) (buf m log : List ℕ) (c : ℕ) → looked d t.frame ≡ None → (call d (start k f buf m log)).answer ≡ Ok c → next_turn (in_frame t f) ≡ c
  -- "at most seven transfers of others end between a caller's coming and its turn", and this "bound counts from when it suffices": from any moment at which c waits and its
  -- remainder is large enough.
  pub seven : (c : ℕ) → c < 8 → fits t c ≡ true → (later : List Call) → others_end c t d later ≤ 7

-- At every moment, from a fresh host controller made with either desk rule and any shares.
abbrev pub Turns : Type 0
Turns = (made : Made) (cs : List Call) → Turn (after (fresh_for made) cs) (tell_from (no_callers made.shares) (fresh_for made) cs)
