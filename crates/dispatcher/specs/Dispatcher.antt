-- "Up to eight lists share one control pipe.": who waits, whose turn it is, and where the turn goes; and how many bytes each caller may still start in a frame.
use Rattle.std.specs.Prelude.{Bool, true, false, cond, ◌&&◌, List, [], ◌∷◌, ℕ, zero, suc, ◌+◌, set, get_or, map, eqb, leb}
use Rattle.dispatcher.specs.declared.Caller.{Caller}
use Rattle.dispatcher.specs.declared.Dispatcher.{Dispatcher}

-- Nobody has the turn: the callers are "numbered 0 to 7".
abbrev pub nobody : ℕ
nobody = 8

-- Nothing is kept of a number above 7.
abbrev pub no_caller : Caller
no_caller = record { pending = false; requested = 0; quota = 0; used = 0 }

-- What is kept of c.
abbrev pub caller_at : Dispatcher → ℕ → Caller
caller_at t c = get_or t.callers c no_caller

-- "Each caller .. may have one transfer waiting": one of c waits.
abbrev pub pending_at : Dispatcher → ℕ → Bool
pending_at t c = (caller_at t c).pending

-- "its full requested bytes": those of the transfer that c came with last.
abbrev pub requested_at : Dispatcher → ℕ → ℕ
requested_at t c = (caller_at t c).requested

-- "for each caller a 32-bit share"
abbrev pub quota_at : Dispatcher → ℕ → ℕ
quota_at t c = (caller_at t c).quota

-- "and a spent count"
abbrev pub used_at : Dispatcher → ℕ → ℕ
used_at t c = (caller_at t c).used

-- The remainder of c is large enough for n bytes.
abbrev pub has_room : Dispatcher → ℕ → ℕ → Bool
has_room t c n = leb (used_at t c + n) (quota_at t c)

-- "A caller whose remainder is too small is passed over": c waits, and its remainder is large enough.
abbrev pub fits : Dispatcher → ℕ → Bool
fits t c = pending_at t c && has_room t c (requested_at t c)

-- ---- where the turn goes

-- "the next higher number .., going round after 7"
abbrev pub after : ℕ → ℕ
after i = cond (leb 7 i) 0 (i + 1)

-- The first of the k numbers after i that fits, else nobody.
unfoldable pub first_from : ℕ → (ℕ → Bool) → ℕ → ℕ
first_from zero fits i = nobody
first_from (suc k) fits i = cond (fits (after i)) (after i) (first_from k fits (after i))

-- "the first such waiting caller above the last that started, going round": the last that started comes last itself.
abbrev pub next_turn : Dispatcher → ℕ
next_turn t = first_from 8 (fits t) t.last

-- Another turn; all else stays.
abbrev pub with_turn : Dispatcher → ℕ → Dispatcher
with_turn t c = record { callers = t.callers; turn = c; last = t.last; frame = t.frame }

-- Another state of a caller; nothing changes for a number above 7.
abbrev pub with_caller : Dispatcher → ℕ → Caller → Dispatcher
with_caller t c x = record { callers = set t.callers c x; turn = t.turn; last = t.last; frame = t.frame }

-- "When a transfer ends, by cancel too, the turn passes to the next higher number that waits": the one that ends is the last that started.
abbrev pub passes : Dispatcher → Dispatcher
passes t = with_turn t (next_turn t)

-- "It then goes, at the first call that finds a remainder large enough, to the first such waiting caller": with none under way and nobody's turn. A turn once given stays.
abbrev pub settled : Bool → Dispatcher → Dispatcher
settled idle t = with_turn t (cond (idle && leb nobody t.turn) (next_turn t) t.turn)

-- What is stored, as of now. Steps and cancels don't touch it, so that a transfer may have ended since: then the turn passes by this, before anything else is done.
abbrev pub current : Bool → Dispatcher → Dispatcher
current idle t = settled idle t

-- "whose turn it is, nobody's while a transfer is under way"
abbrev pub whose : Bool → Dispatcher → ℕ
whose idle t = cond idle t.turn nobody

-- ---- what moves it

-- "a 32-bit share, given when it is made": nobody waits.
abbrev pub newcomer : List ℕ → ℕ → Caller
newcomer quota c = record { pending = false; requested = 0; quota = get_or quota c 0; used = 0 }

-- Nobody has the turn. No caller has started; 7 stands for the last that did and 0 for the frame number last seen: the first to come has the turn and every spent count is 0,
-- whatever stands there.
abbrev pub fresh : List ℕ → Dispatcher
fresh quota = record { callers = map (newcomer quota) (0 ∷ 1 ∷ 2 ∷ 3 ∷ 4 ∷ 5 ∷ 6 ∷ 7 ∷ []); turn = nobody; last = 7; frame = 0 }

-- Nothing spent.
abbrev pub unspent : Caller → Caller
unspent x = record { pending = x.pending; requested = x.requested; quota = x.quota; used = 0 }

-- A frame number comes in: "One other than the last seen first sets every spent count to 0".
abbrev pub in_frame : Dispatcher → ℕ → Dispatcher
in_frame t f = record { callers = cond (eqb f t.frame) t.callers (map unspent t.callers); turn = t.turn; last = t.last; frame = f }

-- Caller c waits, with a transfer of n bytes; nothing changes for a caller above 7.
abbrev pub with_pending : Dispatcher → ℕ → ℕ → Dispatcher
with_pending t c n = with_caller t c (record { pending = true; requested = n; quota = quota_at t c; used = used_at t c })

-- A coming of n bytes, in frame f: "one transfer waiting", and the turn if nobody has it.
abbrev pub submits : Bool → Dispatcher → ℕ → ℕ → ℕ → Dispatcher
submits idle t c n f = settled idle (with_pending (in_frame t f) c n)

-- A look, in frame f; a start begins with one.
abbrev pub observes : Bool → Dispatcher → ℕ → Dispatcher
observes idle t f = settled idle (in_frame t f)

-- The spent count of c with n bytes more; past its share nothing is charged.
abbrev pub charged : Dispatcher → ℕ → ℕ → ℕ
charged t c n = cond (has_room t c n) (used_at t c + n) (used_at t c)

-- Once it runs, c waits no longer.
abbrev pub runs : Dispatcher → ℕ → ℕ → Caller
runs t c n = record { pending = false; requested = requested_at t c; quota = quota_at t c; used = charged t c n }

-- "A transfer is charged its full requested bytes when it starts": the transfer of c, of n bytes, no longer waits, and nobody has the turn until it ends.
abbrev pub starts : Dispatcher → ℕ → ℕ → Dispatcher
starts t c n = record { callers = set t.callers c (runs t c n); turn = nobody; last = c; frame = t.frame }
