-- The smallest cases of comings, looks and starts, from a fresh host on, as one theorem.
use Rattle.std.specs.Prelude.{◌≡◌, refl, false, ℕ, replicate, map}
use Rattle.cutting.specs.declared.transfer_type.TransferType.TheVariants.{FixedSize}
use Rattle.transfers.specs.declared.host_controller.DataPhase.TheVariants.{None}
use Rattle.transfers.specs.declared.host_controller.TransferExtras.TheVariants.{Normal}
use Rattle.transfers.specs.declared.wire.SetupPacket.{SetupPacket}
use Rattle.transfers.specs.declared.driver.DeskRule.TheVariants.{One}
use Rattle.transfers.specs.Reply.{Reply, result, number}
use Rattle.transfers.specs.State.{served, sound}
use Rattle.transfers.specs.Calls.{cancel_of, begin_control_of}
use Rattle.transfers.specs.Driver.{begun, dropped}
use Rattle.dispatcher.specs.declared.Caller.{Caller}
use Rattle.dispatcher.specs.declared.Dispatcher.{Dispatcher}
use Rattle.dispatcher.specs.Dispatcher.{first_from}
use Rattle.host.specs.declared.fields.Fields.{Fields}
use Rattle.host.specs.declared.controller.HostController.{HostController}
use Rattle.host.specs.Reply.{submit_reply, Whose, caller, nobodys, turn_reply, start_reply}
use Rattle.host.specs.Fields.{control_fields, bulk_in_fields, bulk_out_fields}
use Rattle.host.specs.Controller.{fresh_host, with_fields, with_dispatcher, with_driver}
use Rattle.host.specs.Submit.{submit_of}
use Rattle.host.specs.Turn.{whose_turn_of}
use Rattle.host.specs.Start.{StartKind, control, bulk_in, bulk_out, Starting, start_of}

-- ---- the calls

-- Shares that no transfer passes, and shares of four bytes.
abbrev fresh : HostController
fresh = fresh_host One (replicate 8 0xFFFF_FFFF)

abbrev few : HostController
few = fresh_host One (replicate 8 4)

abbrev setup : SetupPacket
setup = record { bmRequestType = 0; bRequest = 9; wValue = 1; wIndex = 0; wLength = 0 }

-- A control transfer without a data stage; its buffer has n bytes.
abbrev plain : ℕ → Fields
plain n = control_fields 5 Normal 64 setup None n

abbrev come : HostController → ℕ → Fields → Reply (Unit {0})
come d c x = submit_reply (submit_of d c x 1).answer

abbrev came : HostController → ℕ → Fields → HostController
came d c x = (submit_of d c x 1).next

abbrev look : HostController → Reply Whose
look d = turn_reply (whose_turn_of d 1).answer

-- A start with a buffer of n bytes, m bytes of packet memory and a log of l words.
abbrev starting : HostController → StartKind → ℕ → ℕ → ℕ → Starting
starting d k n m l = start_of d k 1 (replicate n 0) (replicate m 0) (replicate l 0)

abbrev start : HostController → StartKind → ℕ → ℕ → ℕ → Reply ℕ
start d k n m l = start_reply (starting d k n m l).answer

-- A control of one byte starts.
abbrev started : HostController → HostController
started d = (starting d control 1 4096 192).next

-- The transfer under way is cancelled.
abbrev cancelled : HostController → HostController
cancelled d = with_driver d (dropped d.driver (cancel_of d.driver.transfer)).next

-- Callers that came one after the other, each with a control of one byte.
abbrev one : HostController
one = came fresh 3 (plain 1)

abbrev running : HostController
running = started one

abbrev others : HostController
others = came (came (came running 1 (plain 1)) 5 (plain 1)) 3 (plain 1)

-- A bulk IN of n bytes, of an address.
abbrev bulk_of : ℕ → ℕ → Fields
bulk_of a n = bulk_in_fields a 2 64 FixedSize false n

-- A control without a data stage whose SETUP asks for w bytes.
abbrev asking : ℕ → Fields
asking w = control_fields 5 Normal 64 (record { bmRequestType = 0; bRequest = 9; wValue = 1; wIndex = 0; wLength = w }) None 0

-- Every spent count above its share.
abbrev forged_used : Dispatcher → Dispatcher
forged_used t =
    record { callers = map (λ (x : Caller). record { pending = x.pending; requested = x.requested; quota = 3; used = 4 }) t.callers; turn = t.turn; last = t.last; frame = t.frame }

-- ---- what they answer

pub record Cases : Type 0 where
  -- "32 a caller above 7, then with 33 a caller that already waits, then as begin does"
  pub caller_8 : come fresh 8 (plain 1) ≡ number 32
  pub caller_7 : come fresh 7 (plain 1) ≡ result tt
  pub waits : come one 3 (plain 1) ≡ number 33
  pub caller_first : come fresh 8 (control_fields 128 Normal 64 setup None 1) ≡ number 32
  pub waits_first : come one 3 (control_fields 128 Normal 64 setup None 1) ≡ number 33
  pub address : come fresh 0 (control_fields 128 Normal 0 setup None 1) ≡ number 12
  pub size : come fresh 0 (control_fields 127 Normal 65 setup None 1) ≡ number 13
  -- "with 34, right after 33, a transfer larger than its caller's share": wLength, or the bulk buffer's length.
  pub larger : come few 0 (bulk_of 5 5) ≡ number 34
  pub as_large : come few 0 (bulk_of 5 4) ≡ result tt
  pub control_larger : come few 0 (asking 5) ≡ number 34
  pub control_as_large : come few 0 (asking 4) ≡ result tt
  pub waits_before_larger : come (came few 0 (bulk_of 5 4)) 0 (bulk_of 5 5) ≡ number 33
  pub larger_before_address : come few 0 (bulk_of 128 5) ≡ number 34
  -- A control has no 14,
  pub control_long : come fresh 0 (plain 65536) ≡ result tt
  -- a bulk transfer has 11 and 14.
  pub bulk_address : come fresh 0 (bulk_in_fields 128 0 0 FixedSize false 65536) ≡ number 12
  pub bulk_endpoint : come fresh 0 (bulk_in_fields 127 16 0 FixedSize false 65536) ≡ number 11
  pub bulk_size : come fresh 0 (bulk_out_fields 127 15 0 FixedSize false 65536) ≡ number 13
  pub bulk_long_of : come fresh 0 (bulk_out_fields 127 15 64 FixedSize false 65536) ≡ number 14
  pub bulk : come fresh 0 (bulk_out_fields 127 15 64 FixedSize false 65535) ≡ result tt
  -- A refused one changes nothing.
  pub unchanged : came one 3 (plain 2) ≡ one
  -- "With none under way or waiting, the next to come has the turn."
  pub nobody_came : look fresh ≡ result nobodys
  pub first : look one ≡ result (caller 3)
  pub second : look (came one 1 (plain 1)) ≡ result (caller 3)
  -- "nobody's while a transfer is under way"
  pub starts : start one control 1 4096 192 ≡ result 3
  pub under_way : look running ≡ result nobodys
  pub ended : look (cancelled running) ≡ result nobodys
  -- A caller may come again while its own is under way.
  pub again : come running 3 (plain 1) ≡ result tt
  -- "When a transfer ends, by cancel too, the turn passes to the next higher number that waits, going round after 7."
  pub next : look (cancelled others) ≡ result (caller 5)
  pub round : look (cancelled (started (cancelled others))) ≡ result (caller 1)
  pub itself : look (cancelled (started (cancelled (started (cancelled others))))) ≡ result (caller 3)
  pub after_7 : look (cancelled (came (started (came fresh 7 (plain 1))) 0 (plain 1))) ≡ result (caller 0)
  -- It has passed before 5 comes.
  pub late : look (came (cancelled (came running 1 (plain 1))) 5 (plain 1)) ≡ result (caller 1)
  -- "It is refused with 16 if a transfer is under way, if nobody has the turn or if that caller's transfer isn't of this call's kind"
  pub busy : start others control 1 4096 192 ≡ number 16
  pub nobodys_turn : start fresh control 1 4096 192 ≡ number 16
  pub other_kind : start one bulk_in 1 4096 192 ≡ number 16
  pub other_way : start (came fresh 3 (bulk_in_fields 5 2 64 FixedSize false 1)) bulk_out 1 4096 192 ≡ number 16
  -- "or has fields a coming refuses", in a state that was forged
  pub forged : start (with_fields one 3 (control_fields 128 Normal 64 setup None 1)) control 1 4096 192 ≡ number 16
  -- A remainder too small, in a state that was forged: the turn is nobody's.
  pub forged_spent : start (with_dispatcher one (forged_used one.dispatcher)) control 1 4096 192 ≡ number 16
  -- "then with 15 if the buffer's length isn't the one it came with"
  pub other_length : start one control 2 4096 192 ≡ number 15
  pub kind_first : start one bulk_in 2 4096 192 ≡ number 16
  -- 15 comes first where what is lent is too short.
  pub short_memory : start fresh control 1 4095 192 ≡ number 15
  pub short_log : start fresh control 1 4096 191 ≡ number 15
  -- "it does what begin did"
  pub begins : running.driver ≡ (begun one.driver (begin_control_of one.driver.transfer 5 Normal 64 setup None (replicate 1 0) (replicate 4096 0) (replicate 192 0))).next
  pub begins_bulk : start (came fresh 3 (bulk_in_fields 5 2 64 FixedSize false 1)) bulk_in 1 4096 192 ≡ result 3

pub cases : Cases
unfolding submit_of whose_turn_of start_of first_from begin_control_of cancel_of served sound
cases = record {
  caller_8 = refl;
  caller_7 = refl;
  waits = refl;
  caller_first = refl;
  waits_first = refl;
  address = refl;
  size = refl;
  larger = refl;
  as_large = refl;
  control_larger = refl;
  control_as_large = refl;
  waits_before_larger = refl;
  larger_before_address = refl;
  control_long = refl;
  bulk_address = refl;
  bulk_endpoint = refl;
  bulk_size = refl;
  bulk_long_of = refl;
  bulk = refl;
  unchanged = refl;
  nobody_came = refl;
  first = refl;
  second = refl;
  starts = refl;
  under_way = refl;
  ended = refl;
  again = refl;
  next = refl;
  round = refl;
  itself = refl;
  after_7 = refl;
  late = refl;
  busy = refl;
  nobodys_turn = refl;
  other_kind = refl;
  other_way = refl;
  forged = refl;
  forged_spent = refl;
  other_length = refl;
  kind_first = refl;
  short_memory = refl;
  short_log = refl;
  begins = refl;
  begins_bulk = refl;
}
