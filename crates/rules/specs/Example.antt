-- A bulk IN of 5 bytes at packet size 2 as calls: the begin, a step that waits, one that finds both slots FULL, and the one that finds TRANS_COMPLETE.
-- The device sends 2, 2 and 1 bytes. The checker computes each line.
use Rattle.std.specs.Prelude.{◌≡◌, true, false, List, [], ◌∷◌, ◌++◌, map, ℕ, length, replicate, take, None, Ok}
use Rattle.cutting.specs.declared.transfer_type.TransferType.TheVariants.{FixedSize}
use Rattle.cutting.specs.Cut.{in_cut_of, packet}
use Rattle.transfers.specs.Calls.{Beginning, begin_bulk_in_of}
use Rattle.rules.specs.Received.{StepCall, Running, step_in, after_steps, received}
use Rattle.rules.specs.Armed.{armings, shown, writes_of}
use Rattle.transfers.specs.declared.answers.Step.TheVariants.{Done}

-- The buffer as it is lent.
abbrev pub buffer : List ℕ
buffer = 0 ∷ 0 ∷ 0 ∷ 0 ∷ 0 ∷ []

-- Packet memory with bytes in slot 0 and slot 1.
abbrev pub memory : List ℕ → List ℕ → List ℕ
memory s0 s1 = replicate 0x180 0 ++ (take 0x40 (s0 ++ replicate 0x40 0) ++ (take 0x40 (s1 ++ replicate 0x40 0) ++ replicate 0xE00 0))

-- A log of 192 words.
abbrev pub log : List ℕ
log = replicate 192 0

-- Address 5, endpoint 2, packet size 2, DATA1 first.
abbrev pub begin : Beginning
begin = begin_bulk_in_of None 5 2 2 FixedSize true buffer (memory [] []) log

-- Nothing is raised; both slots are AVAILABLE.
abbrev pub waiting : StepCall
waiting = record { sample = record { status = 0; intr = 0; buffers = 0x4402_4402 }; memory = memory [] []; log = log }

-- BUFF_STATUS; both slots are FULL, 2 bytes each.
abbrev pub both : StepCall
both = record { sample = record { status = 0; intr = 0x10; buffers = 0x8002_8002 }; memory = memory (1 ∷ 2 ∷ []) (3 ∷ 4 ∷ []); log = log }

-- TRANS_COMPLETE; slot 0 is FULL, 1 byte.
abbrev pub last : StepCall
last = record { sample = record { status = 0x4_0000; intr = 0x8; buffers = 0x0000_C001 }; memory = memory (9 ∷ []) []; log = log }

-- After the begin.
abbrev pub first : Running
first = record { transfer = begin.next; buffer = buffer }

-- Before the last step.
abbrev pub before : Running
before = after_steps true first (waiting ∷ both ∷ [])

-- The answers, the buffer, the toggle, the packets, and what was armed.
pub record Example : Type 0 where
  pub begun : begin.answer ≡ Ok tt
  pub done : (step_in before last).answer ≡ Ok (Done 5)
  pub bytes : (step_in before last).buffer ≡ 1 ∷ 2 ∷ 3 ∷ 4 ∷ 9 ∷ []
  -- Three packets: DATA1 in, DATA0 out.
  pub toggle : (step_in before last).toggle ≡ false
  pub packets : received (length (in_cut_of FixedSize 2 true 5)) (waiting ∷ both ∷ last ∷ []) ≡ (1 ∷ 2 ∷ []) ∷ (3 ∷ 4 ∷ []) ∷ (9 ∷ []) ∷ []
  -- Slots 0, 1 and 0 with DATA1, DATA0 and DATA1, each of length 2, the last one marked, none FULL.
  pub armed : armings 0 (begin.writes ++ writes_of true first (waiting ∷ both ∷ []))
      ≡ map (shown false) (packet false true false 2 ∷ packet true false false 2 ∷ packet false true true 2 ∷ [])
