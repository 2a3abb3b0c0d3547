-- Request R-10's sentence on frames, over every list of calls from a fresh host controller: "in one frame no caller's charges pass its share, and the charges summed from
-- the frame's own starts equal the spent counts".
use Rattle.std.specs.Prelude.{◌≡◌, cond, List, [], ◌∷◌, ◌++◌, ℕ, ◌+◌, ◌≤◌, ◌<◌, get_or, eqb, Err, Ok}
use Rattle.dispatcher.specs.Dispatcher.{used_at}
use Rattle.host.specs.declared.controller.HostController.{HostController}
use Rattle.term3.specs.Calls.{Call, submit, whose_turn, start, driver, Answer, call}
use Rattle.term3.specs.Callers.{requested, Callers, no_callers, hears}
use Rattle.term3.specs.HostCalls.{Made, fresh_for}
use Rattle.term3.specs.Turns.{after}

-- A caller is charged so many bytes.
pub record Charge : Type 0 where
  pub caller : ℕ
  pub bytes : ℕ

-- "A transfer is charged its full requested bytes when it starts": what its caller came with. No other call charges anything.
abbrev pub charges : Callers → (c : Call) → Answer c → List Charge
charges t (submit c x n f) a = []
charges t (whose_turn f) a = []
charges t (start k f buf m log) (Ok c) = record { caller = c; bytes = requested (t.came c) } ∷ []
charges t (start k f buf m log) (Err why) = []
charges t (driver c e) a = []

-- The frame number last seen, s before the call: "Every coming, look and start brings the frame number", "refused ones left out".
abbrev pub seen : ℕ → (c : Call) → Answer c → ℕ
seen s (submit c x n f) (Ok tt) = f
seen s (submit c x n f) (Err why) = s
seen s (whose_turn f) a = f
seen s (start k f buf m log) (Ok c) = f
seen s (start k f buf m log) (Err why) = s
seen s (driver c e) a = s

-- "one frame is the calls, refused ones left out, from such a change to the next": the charges of each frame in turn, the last one still going on. s is the frame number last
-- seen, l the charges of its frame so far.
unfoldable pub frames_from : ℕ → List Charge → Callers → HostController → List Call → List (List Charge)
frames_from s l t d [] = l ∷ []
frames_from s l t d (c ∷ cs) =
    let o = call d c in
    let n = seen s c o.answer in
    let new = charges t c o.answer in
    let u = hears t c o.answer in
    cond (eqb n s) (frames_from n (l ++ new) u o.next cs) (l ∷ frames_from n new u o.next cs)

-- The charges of caller c, summed.
abbrev pub sum_of : ℕ → List Charge → ℕ
sum_of c [] = 0
sum_of c (x ∷ l) = cond (eqb x.caller c) x.bytes 0 + sum_of c l

-- "in one frame no caller's charges pass its share": in each of these frames.
abbrev pub AllWithin : List ℕ → List (List Charge) → Type 0
AllWithin shares [] = Unit {0}
AllWithin shares (l ∷ ls) = ((c : ℕ) → c < 8 → sum_of c l ≤ get_or shares c 0) × AllWithin shares ls

-- The last of them.
abbrev pub last_of : List (List Charge) → List Charge
last_of [] = []
last_of (l ∷ []) = l
last_of (l ∷ m ∷ ls) = last_of (m ∷ ls)

-- The frames of a list of calls. The frame number seen before any is 0; the first frame has no charge before its number is seen.
abbrev pub frames_of : Made → List Call → List (List Charge)
frames_of made cs = frames_from 0 [] (no_callers made.shares) (fresh_for made) cs

pub record Frames : Type 0 where
  pub within : (made : Made) (cs : List Call) → AllWithin made.shares (frames_of made cs)
  -- "the spent counts": those of the state.
  pub summed : (made : Made) (cs : List Call) (c : ℕ) → c < 8 → sum_of c (last_of (frames_of made cs)) ≡ used_at (after (fresh_for made) cs).dispatcher c
