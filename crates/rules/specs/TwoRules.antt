-- The toggle under both desk rules, computed: an OUT of 3 bytes at packet size 1 that is cancelled or stalls after one packet was taken, and an IN at packet size 8 with a
-- packet of 65 bytes in one of its slots. All begin with DATA0.
use Rattle.std.specs.Prelude.{◌≡◌, Bool, true, false, List, [], ◌∷◌, ℕ, replicate}
use Rattle.cutting.specs.declared.transfer_type.TransferType.TheVariants.{FixedSize}
use Rattle.transfers.specs.declared.wire.Direction.TheVariants.{In, Out}
use Rattle.transfers.specs.declared.sample.Sample.{Sample}
use Rattle.transfers.specs.declared.driver.DeskRule.{DeskRule}
use Rattle.transfers.specs.declared.driver.DeskRule.TheVariants.{One, Two}
use Rattle.transfers.specs.declared.driver.Driver.{Driver}
use Rattle.transfers.specs.Calls.{step_of, cancel_of}
use Rattle.transfers.specs.Driver.{fresh, stepped, dropped}
use Rattle.record.specs.Calls.{bulk_begin, begin, step, call}

-- Packet memory and log as they are lent.
abbrev memory : List ℕ
memory = replicate 4096 0

abbrev log : List ℕ
log = replicate 192 0

-- What the OUT sends, and the buffer of the IN.
abbrev pub three : List ℕ
three = 1 ∷ 2 ∷ 3 ∷ []

abbrev pub room : List ℕ
room = replicate 9 0

-- BUFF_STATUS, with this word in EP_BUFFER_CONTROL.
abbrev pub buff_status : ℕ → Sample
buff_status w = record { status = 0; intr = 0x10; buffers = w }

-- STALL.
abbrev pub stall : Sample
stall = record { status = 0x2000_0000; intr = 0x400; buffers = 0 }

-- The OUT is begun, and a step finds slot 0 not FULL any more, slot 1 AVAILABLE and FULL.
abbrev pub sending : DeskRule → Driver
sending rule = let d = (call (fresh rule) (begin (bulk_begin Out 5 2 1 FixedSize false) three memory log)).next in (call d (step false (buff_status 0x8400_0000) three memory log)).next

-- The IN is begun.
abbrev pub receiving : DeskRule → Driver
receiving rule = (call (fresh rule) (begin (bulk_begin In 5 2 8 FixedSize false) room memory log)).next

-- The toggle with a cancel of the OUT, with a stall, and with the IN's step by this word.
abbrev pub cancelled : DeskRule → Bool
cancelled rule = let d = sending rule in (dropped d (cancel_of d.transfer)).toggle

abbrev pub stalled : DeskRule → Bool
stalled rule = let d = sending rule in (stepped d (step_of false d.transfer stall three memory log)).toggle

abbrev pub too_long_of : DeskRule → ℕ → Bool
too_long_of rule w = let d = receiving rule in (stepped d (step_of true d.transfer (buff_status w) room memory log)).toggle

pub record TwoRules : Type 0 where
  pub cancel : (cancelled One ≡ false) × (cancelled Two ≡ true)
  pub stall : (stalled One ≡ false) × (stalled Two ≡ true)
  -- Lengths 8 and 65: the packet of 8 counts, that of 65 doesn't.
  pub second : (too_long_of One 0x8041_8008 ≡ false) × (too_long_of Two 0x8041_8008 ≡ true)
  -- Lengths 65 and 8.
  pub first : (too_long_of One 0x8008_8041 ≡ false) × (too_long_of Two 0x8008_8041 ≡ false)
