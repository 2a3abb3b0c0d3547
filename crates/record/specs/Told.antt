-- What a list of calls shows, call by call, and what is told by it: one record, and one function that steps it.
use Rattle.std.specs.Prelude.{Bool, true, false, not, cond, ◌&&◌, List, [], ◌∷◌, ℕ, suc, ◌+◌, length, eqb, Option}
use Rattle.std.specs.Int.Bits.{bit_and}
use Rattle.transfers.specs.declared.answers.Armed.{Armed}
use Rattle.transfers.specs.declared.sample.Sample.{Sample}
use Rattle.transfers.specs.Log.{Write}
use Rattle.record.specs.Chip.{is_set, in_half}
use Rattle.record.specs.Wire.{File, performs, Event, setup_at, out_at, events, wire}
use Rattle.record.specs.Calls.{Begin}

-- The transfer under way: its begin's fields and buffer.
pub data Live : Type 0 where
  no_transfer : Live
  live : Begin → List ℕ → Live

-- The marked packet of the stage under way: not armed, armed in a slot, or taken.
pub data Watch : Type 0 where
  not_armed : Watch
  in_slot : Bool → Watch
  taken : Watch

-- "A packet counts as taken once the sample of a step after its arming, the completing step's too, shows its slot not available."
abbrev pub seen : Watch → Sample → Watch
seen not_armed y = not_armed
seen (in_slot s) y = cond (is_set (in_half s 10) y.buffers) (in_slot s) taken
seen taken y = taken

-- The packets that a call arms: a marked one is watched from then on.
abbrev pub marks : Watch → List Event → Watch
marks w [] = w
marks w (setup_at lo hi ∷ es) = marks w es
marks w (out_at s b true n ∷ es) = marks (in_slot s) es
marks w (out_at s b false n ∷ es) = marks w es

-- "the step that finds TRANS_COMPLETE": "A poll is ready when INTR and 0x7F8 is not zero", and TRANS_COMPLETE is bit 18 of SIE_STATUS.
abbrev pub finds : Sample → Bool
finds y = not (eqb (bit_and y.intr 0x7F8) 0) && is_set 18 y.status

-- What a call and its answer tell of the transfer under way: one began (its fields and buffer); a step left it under way and reported a stage complete or not,
-- or ended it with a count (sample and buffer); it broke, that is, ended without a count; or nothing.
pub data Note : Type 0 where
  began : Begin → List ℕ → Note
  stepped : Bool → Sample → List ℕ → Note
  finished : Sample → List ℕ → Note
  broke : Note
  nothing : Note

-- Whether the record's writer is called after a call, and with which packet memory: as the call left it, or any.
pub data Writer : Type 0 where
  its_memory any_memory not_called : Writer

-- What a call shows: what it and its answer tell, the writes that its log holds in order, packet memory as it leaves it, what it answers that it armed, the count
-- that it answers for a transfer that failed, and whether the writer is called after it.
pub record Shown : Type 0 where
  pub note : Note
  pub writes : List Write
  pub memory : List ℕ
  pub armed : Armed
  pub failed : Option ℕ
  pub writer : Writer

-- What was told so far: the registers, as the logs performed in order leave them; the transfer under way, how many of its stages were reported complete and how
-- many entries it armed; the marked packet of its stage.
pub record Told : Type 0 where
  pub file : File
  pub live : Live
  pub stages : ℕ
  pub armings : ℕ
  pub watch : Watch

-- The same, field by field.
abbrev pub told : File → Live → ℕ → ℕ → Watch → Told
told f l n k w = record { file = f; live = l; stages = n; armings = k; watch = w }

-- Before the first call, over any registers.
abbrev pub untold : File → Told
untold f = told f no_transfer 0 0 not_armed

-- After a call whose log left these registers and started k entries: a transfer counts its stages and entries from its begin on, and each stage has its own watch.
abbrev pub heard : Note → Told → File → ℕ → List Event → Told
heard (began x buf) t f k es = told f (live x buf) 0 k (marks not_armed es)
heard (stepped true y now) t f k es = told f t.live (suc t.stages) (t.armings + k) (marks not_armed es)
heard (stepped false y now) t f k es = told f t.live t.stages (t.armings + k) (marks (seen t.watch y) es)
heard (finished y now) t f k es = untold f
heard broke t f k es = told f no_transfer 0 (t.armings + k) not_armed
heard nothing t f k es = told f t.live t.stages (t.armings + k) (marks t.watch es)

-- After a call.
abbrev pub hears : Told → Shown → Told
hears t o = heard o.note t (performs t.file o.writes) (length (wire t.file o.writes o.memory)) (events t.file o.writes)
