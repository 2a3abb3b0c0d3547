-- Document 01's two transfers as calls, logs, record, bytes and reading; then four transfers of which two fail. Each line is computed by the checker.
use Rattle.std.specs.Prelude.{◌≡◌, refl, true, false, List, [], ◌∷◌, ◌++◌, map, ℕ, replicate, Option, Some, None}
use Rattle.cutting.specs.declared.transfer_type.TransferType.TheVariants.{FixedSize}
use Rattle.cutting.specs.Counters.{in_next, out_next}
use Rattle.transfers.specs.declared.driver.DeskRule.TheVariants.{One}
use Rattle.transfers.specs.declared.host_controller.TransferExtras.TheVariants.{Normal}
use Rattle.transfers.specs.declared.host_controller.DataPhase.TheVariants.{None as phase_none}
use Rattle.transfers.specs.declared.wire.Direction.TheVariants.{Out}
use Rattle.transfers.specs.declared.sample.Sample.{Sample}
use Rattle.transfers.specs.Driver.{fresh}
use Rattle.transfers.specs.Log.{wr}
use Rattle.transfers.specs.Reply.{result}
use Rattle.transfers.specs.Calls.{step_of, cancel_of, begin_control_of, begin_bulk_out_of}
use Rattle.transfers.specs.Step.{acts, setup_step, in_step, in_complete, out_step, out_complete}
use Rattle.transfers.specs.Sample.{classify}
use Rattle.transfers.specs.State.{served, sound}
use Rattle.transfers.specs.Outcome.{start_in, start_out}
use Rattle.transfers.specs.Arming.{in_arm, in_arm_two, out_arm, out_arm_two}
use Rattle.transfers.specs.Retiring.{in_retire_one, out_retire_one}
use Rattle.transfers.specs.Writes.{head_writes, arm_writes, enable_writes, go_writes}
use Rattle.record.specs.Grammar.{four, setup, out, bulk_item, control_item, bulk_part, control_part, no_group}
use Rattle.record.specs.Segments.{Element, entry, failed_entry, elements}
use Rattle.record.specs.Wire.{File, wire}
use Rattle.record.specs.Calls.{Begin, control_begin, bulk_begin, Call, begin, step, cancel, call}
use Rattle.record.specs.Told.{untold}
use Rattle.record.specs.Shown.{shown_from}
use Rattle.record.specs.Record.{record_from}
use Rattle.record.specs.Fates.{begun_from, done, broken, fates_from}
use Rattle.record.specs.Asked.{item_of, listed}
use Rattle.record.specs.Premises.{PremisesFrom}
use Rattle.record.specs.Bytes.{encode_elements, record_of}
use Rattle.record.specs.Reader.{check_of, read_from, turn_of, head_right, version_at, look, look_setup, look_out, look_failed, fields_fit}
use Rattle.record.specs.Items.{first_at, items_from, item_at, sent_at, group_at_of, group_from, group_of, failed_at}
use Rattle.record.specs.Refusal.{check_reply}
use Rattle.record.specs.declared.items.ItemAnswer.{ItemAnswer}
use Rattle.record.specs.declared.items.ItemAnswer.TheVariants.{Control, Bulk, Failed as failed_item}

-- ---- what is lent and sampled

-- 4,096 bytes.
abbrev pub lent_memory : List ℕ
lent_memory = replicate 4096 0

-- 192 words.
abbrev pub lent_log : List ℕ
lent_log = replicate 192 0

-- TRANS_COMPLETE raised, no slot available.
abbrev pub completing : Sample
completing = record { status = 0x0004_0000; intr = 0x8; buffers = 0 }

-- STALL_REC raised.
abbrev pub stalling : Sample
stalling = record { status = 0x2000_0000; intr = 0x400; buffers = 0 }

-- Registers before the first call: all 0 here.
abbrev pub no_bits : File
no_bits q = 0

-- ---- document 01's two transfers

-- SET_CONFIGURATION 1 to address 5.
abbrev pub configure : Begin
configure = control_begin 5 Normal 64 (record { bmRequestType = 0; bRequest = 9; wValue = 1; wIndex = 0; wLength = 0 }) phase_none

-- Three bytes to address 5, endpoint 2, in packets of 64.
abbrev pub three : Begin
three = bulk_begin Out 5 2 64 FixedSize false

-- They are these.
abbrev pub three_bytes : List ℕ
three_bytes = 0xAA ∷ 0xBB ∷ 0xCC ∷ []

-- A begin, and a step for each of its two stages.
abbrev pub configure_calls : List Call
configure_calls = begin configure [] lent_memory lent_log ∷ step true completing [] lent_memory lent_log ∷ step true completing [] lent_memory lent_log ∷ []

-- A begin and one step.
abbrev pub three_calls : List Call
three_calls = begin three three_bytes lent_memory lent_log ∷ step false completing three_bytes lent_memory lent_log ∷ []

-- Both, in order.
abbrev pub two_calls : List Call
two_calls = configure_calls ++ three_calls

-- One SETUP, one marked DATA0 packet.
abbrev pub two_elements : List Element
two_elements = entry (setup 5 (four 0 9 1 0) (four 0 0 0 0)) ∷ entry (out 5 2 false true three_bytes) ∷ []

-- A record's bytes: the head of a version, then document 01's "53 05 00 09 01 00 00 00 00 00, 4F 05 02 00 01 03 AA BB CC".
abbrev pub two_bytes : ℕ → List ℕ
two_bytes v = 0x57 ∷ 0x4C ∷ 0x47 ∷ v ∷ 0 ∷ 0x53 ∷ 5 ∷ 0 ∷ 9 ∷ 1 ∷ 0 ∷ 0 ∷ 0 ∷ 0 ∷ 0 ∷ 0x4F ∷ 5 ∷ 2 ∷ 0 ∷ 1 ∷ 3 ∷ 0xAA ∷ 0xBB ∷ 0xCC ∷ []

-- "control 5 0009010000000000 0" and "bulk 5 2 0 3": the SETUP bytes stand from place 7 on.
abbrev pub two_items : List (Option ItemAnswer)
two_items =
    Some (Control (record { address = 5; setup = 7; count = 0; next = record { at = 15 } }))
    ∷ Some (Bulk (record { address = 5; endpoint = 2; pid = false; count = 3; next = record { at = 24 } }))
    ∷ None
    ∷ []

-- The control's log: EPX_CONTROL, EP_BUFFER_CONTROL, SETUP_PACKET_LOW and HIGH, SIE_STATUS, ADDR_ENDP, SEND_SETUP, a delay, START_TRANS. The bulk OUT's: the head
-- of its stage; slot 0 gets 3 bytes, DATA0, LAST and FULL, then AVAILABLE; the interrupts; SEND_DATA, a delay, START_TRANS.
-- Then the record, the transfers begun and their items, the premises, the bytes in version 2, the reading, and the reader on both versions.
pub record TwoTransfers : Type 0 where
  pub control_log : (call (fresh One) (begin configure [] lent_memory lent_log)).writes
      ≡ wr 0x5010_0100 0xFFFF_FFFF 0x180
      ∷ wr 0x5010_0080 0xFFFF_FFFF 0
      ∷ wr 0x5010_0000 0xFFFF_FFFF 0x0001_0900
      ∷ wr 0x5010_0004 0xFFFF_FFFF 0
      ∷ wr 0x5011_0050 0xFFFF_FFFF 0xFFFF_FFFF
      ∷ wr 0x5011_0000 0xFFFF_FFFF 5
      ∷ wr 0x5011_004C 0x4E 2
      ∷ wr 0 0 12
      ∷ wr 0x5011_004C 1 1
      ∷ []
  pub bulk_log : (call (fresh One) (begin three three_bytes lent_memory lent_log)).writes
      ≡ wr 0x5010_0100 0xFFFF_FFFF 0x8800_0180
      ∷ wr 0x5010_0080 0xFFFF_FFFF 0
      ∷ wr 0x5011_0050 0xFFFF_FFFF 0xFFFF_FFFF
      ∷ wr 0x5011_0000 0xFFFF_FFFF 0x2_0005
      ∷ wr 0x5011_006C 0xFFFF_FFFF 0x000A_0010
      ∷ wr 0x5010_0080 0xE3FF 0xC003
      ∷ wr 0 0 12
      ∷ wr 0x5010_0080 0x400 0x400
      ∷ wr 0x5011_0050 0xFFFF_FFFF 0xFF00_0000
      ∷ wr 0x5011_0058 0xFFFF_FFFF 3
      ∷ wr 0x5011_0090 0x7E8 0x7E8
      ∷ wr 0x5011_004C 0xE 4
      ∷ wr 0 0 12
      ∷ wr 0x5011_004C 1 1
      ∷ []
  pub record_is : record_from (untold no_bits) (shown_from (fresh One) two_calls) ≡ two_elements
  pub begun : begun_from (shown_from (fresh One) two_calls) ≡ record { fields = configure; buffer = [] } ∷ record { fields = three; buffer = three_bytes } ∷ []
  pub fates : fates_from (untold no_bits) (shown_from (fresh One) two_calls) ≡ map done (begun_from (shown_from (fresh One) two_calls))
  pub transfers : map item_of (listed (begun_from (shown_from (fresh One) two_calls))) ≡ control_item 5 (four 0 9 1 0) (four 0 0 0 0) [] ∷ bulk_item 5 2 false three_bytes ∷ []
  pub premises : PremisesFrom (untold no_bits) (shown_from (fresh One) two_calls)
  pub bytes : record_of two_elements ≡ two_bytes 2
  pub reading : elements [] (control_part 5 (four 0 9 1 0) (four 0 0 0 0) no_group ∷ bulk_part 5 2 false [] three_bytes ∷ []) ≡ two_elements
  pub count : check_reply (check_of (two_bytes 2)) ≡ result 2
  pub items : items_from 3 (two_bytes 2) first_at ≡ two_items
  pub count_1 : check_reply (check_of (two_bytes 1)) ≡ result 2
  pub items_1 : items_from 3 (two_bytes 1) first_at ≡ two_items

-- They are so.
pub two_transfers : TwoTransfers
unfolding shown_from record_from begun_from fates_from PremisesFrom wire call begin_control_of begin_bulk_out_of step_of cancel_of served sound acts setup_step in_step in_complete out_step out_complete classify start_in start_out in_arm in_arm_two out_arm out_arm_two in_next out_next in_retire_one out_retire_one head_writes arm_writes enable_writes go_writes record_of encode_elements check_of read_from turn_of head_right version_at look look_setup look_out look_failed fields_fit items_from item_at sent_at group_at_of group_from group_of failed_at
two_transfers = record {
  control_log = refl;
  bulk_log = refl;
  record_is = refl;
  begun = refl;
  fates = refl;
  transfers = refl;
  premises = (tt, ((tt, tt), ((tt, tt), (tt, ((tt, refl), refl)))));
  bytes = refl;
  reading = refl;
  count = refl;
  items = refl;
  count_1 = refl;
  items_1 = refl;
}

-- ---- four transfers: a bulk OUT that stalls, document 01's control, its bulk OUT cancelled, and the same done

-- Five bytes to address 5, endpoint 2, in packets of 2.
abbrev pub five : Begin
five = bulk_begin Out 5 2 2 FixedSize false

-- They are these.
abbrev pub five_bytes : List ℕ
five_bytes = 0xAA ∷ 0xBB ∷ 0xCC ∷ 0xDD ∷ 0xEE ∷ []

-- A begin, and a step that finds STALL.
abbrev pub stalled_calls : List Call
stalled_calls = begin five five_bytes lent_memory lent_log ∷ step false stalling five_bytes lent_memory lent_log ∷ []

-- A begin, and a cancel.
abbrev pub cancelled_calls : List Call
cancelled_calls = begin three three_bytes lent_memory lent_log ∷ cancel ∷ []

-- All, in order.
abbrev pub four_calls : List Call
four_calls = stalled_calls ++ (configure_calls ++ (cancelled_calls ++ three_calls))

-- Two packets and their count; a SETUP; a packet and its count; a packet.
abbrev pub four_elements : List Element
four_elements =
    entry (out 5 2 false false (0xAA ∷ 0xBB ∷ []))
    ∷ entry (out 5 2 true false (0xCC ∷ 0xDD ∷ []))
    ∷ failed_entry 2
    ∷ entry (setup 5 (four 0 9 1 0) (four 0 0 0 0))
    ∷ entry (out 5 2 false true three_bytes)
    ∷ failed_entry 1
    ∷ entry (out 5 2 false true three_bytes)
    ∷ []

-- The record's bytes, version 2.
abbrev pub four_bytes : List ℕ
four_bytes =
    0x57 ∷ 0x4C ∷ 0x47 ∷ 2 ∷ 0
    ∷ 0x4F ∷ 5 ∷ 2 ∷ 0 ∷ 0 ∷ 2 ∷ 0xAA ∷ 0xBB
    ∷ 0x4F ∷ 5 ∷ 2 ∷ 1 ∷ 0 ∷ 2 ∷ 0xCC ∷ 0xDD
    ∷ 0x58 ∷ 2 ∷ 0 ∷ 0 ∷ 0
    ∷ 0x53 ∷ 5 ∷ 0 ∷ 9 ∷ 1 ∷ 0 ∷ 0 ∷ 0 ∷ 0 ∷ 0
    ∷ 0x4F ∷ 5 ∷ 2 ∷ 0 ∷ 1 ∷ 3 ∷ 0xAA ∷ 0xBB ∷ 0xCC
    ∷ 0x58 ∷ 1 ∷ 0 ∷ 0 ∷ 0
    ∷ 0x4F ∷ 5 ∷ 2 ∷ 0 ∷ 1 ∷ 3 ∷ 0xAA ∷ 0xBB ∷ 0xCC
    ∷ []

-- The record, what became of the four, the premises (a stall and a cancel break none), the bytes, and the reader: two transfers ended with a count, and the cursor
-- passes over the first and the third.
pub record FourTransfers : Type 0 where
  pub record_is : record_from (untold no_bits) (shown_from (fresh One) four_calls) ≡ four_elements
  pub fates : fates_from (untold no_bits) (shown_from (fresh One) four_calls)
      ≡ broken (record { fields = five; buffer = five_bytes })
      ∷ done (record { fields = configure; buffer = [] })
      ∷ broken (record { fields = three; buffer = three_bytes })
      ∷ done (record { fields = three; buffer = three_bytes })
      ∷ []
  pub premises : PremisesFrom (untold no_bits) (shown_from (fresh One) four_calls)
  pub bytes : record_of four_elements ≡ four_bytes
  pub count : check_reply (check_of four_bytes) ≡ result 2
  pub items : items_from 5 four_bytes first_at
      ≡ Some (failed_item (record { at = 26 }))
      ∷ Some (Control (record { address = 5; setup = 28; count = 0; next = record { at = 36 } }))
      ∷ Some (failed_item (record { at = 50 }))
      ∷ Some (Bulk (record { address = 5; endpoint = 2; pid = false; count = 3; next = record { at = 59 } }))
      ∷ None
      ∷ []

-- They are so.
pub four_transfers : FourTransfers
unfolding shown_from record_from fates_from PremisesFrom wire call begin_control_of begin_bulk_out_of step_of cancel_of served sound acts setup_step in_step in_complete out_step out_complete classify start_in start_out in_arm in_arm_two out_arm out_arm_two in_next out_next in_retire_one out_retire_one head_writes arm_writes enable_writes go_writes record_of encode_elements check_of read_from turn_of head_right version_at look look_setup look_out look_failed fields_fit items_from item_at sent_at group_at_of group_from group_of failed_at
four_transfers = record {
  record_is = refl;
  fates = refl;
  premises = (tt, (tt, (tt, ((tt, tt), ((tt, tt), (tt, (tt, (tt, ((tt, refl), refl)))))))));
  bytes = refl;
  count = refl;
  items = refl;
}
