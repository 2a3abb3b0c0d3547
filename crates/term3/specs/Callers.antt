-- What the calls and their answers tell of the callers: one record, and one function that steps it. Nothing here looks at the program's state.
use Rattle.std.specs.Prelude.{Bool, true, false, cond, not, ◌&&◌, ◌||◌, List, ℕ, zero, suc, ◌+◌, ◌%◌, get_or, eqb, leb, Err, Ok}
use Rattle.transfers.specs.declared.host_controller.DataPhase.TheVariants.{None as phase_none}
use Rattle.transfers.specs.declared.host_controller.TransferExtras.TheVariants.{Normal}
use Rattle.record.specs.Calls.{Begin, control_begin, bulk_begin}
use Rattle.record.specs.Told.{Note, began, stepped, finished, broke, nothing}
use Rattle.record.specs.Shown as D
use Rattle.term3.specs.Calls.{Call, submit, whose_turn, start, driver, Answer}

-- "begin's fields and its buffer's length alone"
pub record Coming : Type 0 where
  pub fields : Begin
  pub length : ℕ

-- "its full requested bytes ..: wLength or the bulk buffer's length"
abbrev pub requested_by : Begin → ℕ → ℕ
requested_by (control_begin a x p s ph) n = s.wLength
requested_by (bulk_begin b a e p k t) n = n

-- Those that a caller came with.
abbrev pub requested : Coming → ℕ
requested x = requested_by x.fields x.length

-- What each caller came with last, and whether it waits; whether a transfer is under way; who started last; whose turn it is, 8 if nobody's; each caller's share and spent
-- count; and the frame number last seen.
pub record Callers : Type 0 where
  pub came : ℕ → Coming
  pub waits : ℕ → Bool
  pub under_way : Bool
  pub last : ℕ
  pub turn : ℕ
  pub share : ℕ → ℕ
  pub spent : ℕ → ℕ
  pub frame : ℕ

-- One of the callers below n waits.
abbrev pub any_waits : (ℕ → Bool) → ℕ → Bool
any_waits w zero = false
any_waits w (suc n) = w n || any_waits w n

-- "for each caller a 32-bit share, given when it is made": nobody has come, nobody has started and no frame number was seen; what stands for it (`came`, `last`, `frame`)
-- plays no part.
abbrev pub no_callers : List ℕ → Callers
no_callers shares = record {
  came = λ c. record { fields = control_begin 0 Normal 0 (record { bmRequestType = 0; bRequest = 0; wValue = 0; wIndex = 0; wLength = 0 }) phase_none; length = 0 };
  waits = λ c. false;
  under_way = false;
  last = 7;
  turn = 8;
  share = λ c. get_or shares c 0;
  spent = λ c. 0;
  frame = 0;
}

-- The same as f, but for c.
abbrev pub put : {A : Type 0} → (ℕ → A) → ℕ → A → ℕ → A
put f c x e = cond (eqb e c) x (f e)

-- ---- who may have the turn, and where it goes

-- The remainder of c is large enough for x.
abbrev pub enough : Callers → ℕ → Coming → Bool
enough t c x = leb (t.spent c + requested x) (t.share c)

-- "A caller whose remainder is too small is passed over": c waits, and its remainder is large enough for what it came with.
abbrev pub fits : Callers → ℕ → Bool
fits t c = t.waits c && enough t c (t.came c)

-- The first of the k numbers from n on, modulo 8, that fits, else 8.
unfoldable pub first_that : (ℕ → Bool) → ℕ → ℕ → ℕ
first_that w zero n = 8
first_that w (suc k) n = cond (w (n % 8)) (n % 8) (first_that w k (n + 1))

-- "the first such waiting caller above the last that started, going round": the last that started comes last itself.
abbrev pub next_turn : Callers → ℕ
next_turn t = first_that (fits t) 8 (t.last + 1)

-- "It then goes, at the first call that finds a remainder large enough, to the first such waiting caller": with none under way and nobody's turn.
abbrev pub finds : Callers → Callers
finds t = record {
  came = t.came;
  waits = t.waits;
  under_way = t.under_way;
  last = t.last;
  turn = cond (not t.under_way && leb 8 t.turn) (next_turn t) t.turn;
  share = t.share;
  spent = t.spent;
  frame = t.frame;
}

-- "answers whose turn it is, nobody's while a transfer is under way"
abbrev pub whose : Callers → ℕ
whose t = cond t.under_way 8 t.turn

-- ---- what happens

-- "Every coming, look and start brings the frame number. One other than the last seen first sets every spent count to 0".
abbrev pub in_frame : Callers → ℕ → Callers
in_frame t f = record {
  came = t.came;
  waits = t.waits;
  under_way = t.under_way;
  last = t.last;
  turn = t.turn;
  share = t.share;
  spent = λ c. cond (eqb f t.frame) (t.spent c) 0;
  frame = f;
}

-- c has come with x, and waits.
abbrev pub joins : Callers → ℕ → Coming → Callers
joins t c x = record {
  came = put t.came c x;
  waits = put t.waits c true;
  under_way = t.under_way;
  last = t.last;
  turn = t.turn;
  share = t.share;
  spent = t.spent;
  frame = t.frame;
}

-- A coming.
abbrev pub comes : Callers → ℕ → Coming → ℕ → Callers
comes t c x f = finds (joins (in_frame t f) c x)

-- A look; a start begins with one.
abbrev pub looks : Callers → ℕ → Callers
looks t f = finds (in_frame t f)

-- The transfer of c is under way, waits no longer, and "is charged its full requested bytes when it starts".
abbrev pub runs : Callers → ℕ → Callers
runs t c = record {
  came = t.came;
  waits = put t.waits c false;
  under_way = true;
  last = c;
  turn = 8;
  share = t.share;
  spent = put t.spent c (t.spent c + requested (t.came c));
  frame = t.frame;
}

-- A start.
abbrev pub starts : Callers → ℕ → ℕ → Callers
starts t c f = runs (looks t f) c

-- "When a transfer ends, by cancel too, the turn passes to the next higher number that waits": higher than the caller whose transfer it was.
abbrev pub ends : Callers → Callers
ends t = record {
  came = t.came;
  waits = t.waits;
  under_way = false;
  last = t.last;
  turn = next_turn t;
  share = t.share;
  spent = t.spent;
  frame = t.frame;
}

-- The transfer under way ends: with a count, by 1 to 7 or 9, or by a cancel.
abbrev pub is_end : Note → Bool
is_end (began x buf) = false
is_end (stepped v y now) = false
is_end (finished y now) = true
is_end broke = true
is_end nothing = false

-- A call ends it, by its answer.
abbrev pub ends_by : (c : Call) → Answer c → Bool
ends_by (submit c x n f) a = false
ends_by (whose_turn f) a = false
ends_by (start k f buf m log) a = false
ends_by (driver c e) a = is_end (D.note c a)

-- After a call and its answer: a refused one changes nothing, not the frame either.
abbrev pub hears : Callers → (c : Call) → Answer c → Callers
hears t (submit c x n f) (Ok tt) = comes t c (record { fields = x; length = n }) f
hears t (submit c x n f) (Err why) = t
hears t (whose_turn f) a = looks t f
hears t (start k f buf m log) (Ok c) = starts t c f
hears t (start k f buf m log) (Err why) = t
hears t (driver c e) a = cond (ends_by (driver c e) a) (ends t) t
