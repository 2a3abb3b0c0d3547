-- The invariant of a list of calls: the driver's state against the transfer under way and the entries that are still due. Assumes nothing.
use Rattle.std.specs.Prelude.{None, Option, Some}
use mathlib.Core.Path.{◌≡◌, refl, sym, ap, ◌∙◌}
use mathlib.Core.Bool.{Bool, true, false, cond}
use mathlib.Core.List.{List, [], ◌++◌, map, append-nil}
use Prim.Native.Nat.{ℕ, ◌+◌, ◌*◌, ◌≤◌}
use lib.ListN.{length}
use Rattle.cutting.specs.declared.transfer_type.TransferType.TheVariants.{FixedSize}
use Rattle.cutting.specs.Cut.{out_cut}
use Rattle.cutting.specs.Left.{OutLeft, Ends}
use Rattle.transfers.specs.declared.host_controller.DataPhase.TheVariants.{In as phase_in, Out as phase_out, None as phase_none}
use Rattle.transfers.specs.declared.wire.Direction.TheVariants.{In, Out}
use Rattle.transfers.specs.declared.sample.Sample.{Sample}
use Rattle.transfers.specs.declared.driver.Run.{Run}
use Rattle.transfers.specs.declared.driver.Stage.{Stage}
use Rattle.transfers.specs.declared.driver.Stage.TheVariants.{Setup as setup_stage, In as in_stage, Out as out_stage}
use Rattle.transfers.specs.declared.driver.OutStage.{OutStage}
use Rattle.transfers.specs.Log.{Write}
use Rattle.transfers.specs.Registers.{addr_endp, field}
use Rattle.record.specs.Chip.{is_set, in_half}
use Rattle.transfers.specs.State.{endpoint_of}
use Rattle.transfers.specs.Step.{out_packets, lent}
use Rattle.record.specs.Grammar.{Entry}
use Rattle.record.specs.Wire.{File, performs, events, wire}
use Rattle.record.specs.Calls.{Begin, control_begin, bulk_begin, Call, Effect}
use Rattle.record.specs.Asked.{sent_of, packets_of, out_entry}
use Rattle.record.specs.Told.{Live, no_transfer, live, Watch, not_armed, in_slot, taken, seen}
use Rattle.record.specs.Shown.{note}
use Rattle.record.specs.Fates.{begun_by}
use Rattle.record.proofs.Heard.{next_live, next_count, next_watch, breaks}
use Rattle.record.proofs.Stages.{address_field, endpoint_field}
use Rattle.record.proofs.Arming.{Packets, Over}
use Rattle.record.proofs.Begins.{address_of, kind_of, request_of, Checked, Room}
use Rattle.record.proofs.Parts.{armed_by_all}

-- ---- the entries that are due

-- Of an OUT stage with these packets left.
abbrev pub entries_of : Begin → Packets → List Entry
entries_of x ks = map (out_entry (address_of x) (endpoint_of (kind_of x))) ks

-- After an IN stage: a control In's status packet.
abbrev pub due_after : Begin → Bool → List Entry
due_after (control_begin a x p s phase_in) false = map (out_entry a 0) (out_cut FixedSize p true [])
due_after (control_begin a x p s phase_in) true = []
due_after (control_begin a x p s phase_out) status = []
due_after (control_begin a x p s phase_none) status = []
due_after (bulk_begin d a e p t b) status = []

-- After SETUP.
abbrev pub due_setup : Begin → List ℕ → List Entry
due_setup (control_begin a x p s ph) buf = map (out_entry a 0) (packets_of (control_begin a x p s ph) (sent_of (control_begin a x p s ph) buf))
due_setup (bulk_begin d a e p t b) buf = []

-- ---- the stages that a transfer goes through, with the count of stages reported complete

abbrev pub InLegal : Begin → List ℕ → Bool → ℕ → Type 0
InLegal (control_begin a x p s phase_in) buf false n = n ≡ 1
InLegal (control_begin a x p s phase_in) buf true n = ⊥
InLegal (control_begin a x p s phase_out) buf false n = ⊥
InLegal (control_begin a x p s phase_out) buf true n = s.wLength ≤ length buf
InLegal (control_begin a x p s phase_none) buf false n = ⊥
InLegal (control_begin a x p s phase_none) buf true n = Unit {0}
InLegal (bulk_begin In a e p t b) buf false n = Unit {0}
InLegal (bulk_begin In a e p t b) buf true n = ⊥
InLegal (bulk_begin Out a e p t b) buf status n = ⊥

abbrev pub OutLegal : Begin → List ℕ → Bool → ℕ → Type 0
OutLegal (control_begin a x p s phase_in) buf false n = ⊥
OutLegal (control_begin a x p s phase_in) buf true n = n ≡ 2
OutLegal (control_begin a x p s phase_out) buf false n = (n ≡ 1) × (s.wLength ≤ length buf)
OutLegal (control_begin a x p s phase_out) buf true n = ⊥
OutLegal (control_begin a x p s phase_none) buf status n = ⊥
OutLegal (bulk_begin In a e p t b) buf status n = ⊥
OutLegal (bulk_begin Out a e p t b) buf false n = n ≡ 0
OutLegal (bulk_begin Out a e p t b) buf true n = ⊥

abbrev pub IsControl : Begin → Type 0
IsControl (control_begin a x p s ph) = Unit {0}
IsControl (bulk_begin d a e p t b) = ⊥

-- ---- the invariant

-- ADDR_ENDP shows the transfer's address and endpoint.
pub record Shown (f : File) (a e : ℕ) : Type 0 where
  pub addr : field 0 7 (f addr_endp) ≡ a
  pub endp : field 16 4 (f addr_endp) ≡ e

pub shown_by : (f : File) (a e : ℕ) → a ≤ 127 → e ≤ 15 → f addr_endp ≡ a + e * 65536 → Shown f a e
shown_by f a e h k q = record { addr = ap (field 0 7) q ∙ address_field a e h; endp = ap (field 16 4) q ∙ endpoint_field a e h k }

pub shown_file : (f g : File) (a e : ℕ) → g addr_endp ≡ f addr_endp → Shown f a e → Shown g a e
shown_file f g a e q s = record { addr = ap (field 0 7) q ∙ s.addr; endp = ap (field 16 4) q ∙ s.endp }

-- An OUT stage and its packets left.
pub record Sending (x : Begin) (buf : List ℕ) (w : Watch) (f : File) (st : OutStage) (rest : List Entry) : Type 0 where
  pub shown : Shown f (address_of x) (endpoint_of (kind_of x))
  pub packets : Packets
  pub left : OutLeft (lent st.status buf) (out_packets (request_of x buf) st) packets
  pub ends : Ends packets
  pub over : Over w packets
  pub due : rest ≡ entries_of x packets

abbrev pub StageInv : Begin → List ℕ → ℕ → Watch → File → Stage → List Entry → Type 0
StageInv x buf n w f setup_stage rest = IsControl x × (n ≡ 0) × (rest ≡ due_setup x buf)
StageInv x buf n w f (in_stage st) rest = InLegal x buf st.status n × (rest ≡ due_after x st.status)
StageInv x buf n w f (out_stage st) rest = OutLegal x buf st.status n × Sending x buf w f st rest

pub record BusyInv (x : Begin) (buf : List ℕ) (n : ℕ) (w : Watch) (f : File) (r : Run) (rest : List Entry) : Type 0 where
  pub same : r.request ≡ request_of x buf
  pub checked : Checked x buf
  pub stage : StageInv x buf n w f r.stage rest

abbrev pub Inv : Live → ℕ → Watch → File → Option Run → List Entry → Type 0
Inv no_transfer n w f None rest = rest ≡ []
Inv no_transfer n w f (Some r) rest = ⊥
Inv (live x buf) n w f None rest = ⊥
Inv (live x buf) n w f (Some r) rest = BusyInv x buf n w f r rest

-- A control Out's buffer holds wLength bytes.
abbrev pub RoomOf : Live → Type 0
RoomOf no_transfer = Unit {0}
RoomOf (live x buf) = Room x buf

-- A call that fails a transfer starts nothing; any other starts the first of what is due.
abbrev pub Splits : Bool → List Entry → List Entry → List Entry → Type 0
Splits true due now after = now ≡ []
Splits false due now after = due ≡ now ++ after

-- What one call keeps: the entries due are those that it starts and those due after it.
pub record Kept (l : Live) (n : ℕ) (w : Watch) (f : File) (rest : List Entry) (c : Call) (o : Effect c) : Type 0 where
  pub rest' : List Entry
  pub inv : Inv (next_live (note c o.answer) l) (next_count (note c o.answer) n) (next_watch (note c o.answer) w (events f o.writes)) (performs f o.writes) o.next.transfer rest'
  pub split : Splits (breaks (note c o.answer)) (rest ++ armed_by_all (begun_by (note c o.answer))) (wire f o.writes o.memory) rest'
  pub room : breaks (note c o.answer) ≡ false → RoomOf (next_live (note c o.answer) l) → RoomOf l

-- ---- what doesn't touch the wire

pub wire_none : (f : File) (ws : List Write) (m : List ℕ) → events f ws ≡ [] → wire f ws m ≡ []
unfolding wire
wire_none f ws m e = rw e refl

pub same_due : (f : File) (ws : List Write) (m : List ℕ) (rest : List Entry) → events f ws ≡ [] → rest ++ [] ≡ wire f ws m ++ rest
same_due f ws m rest e = append-nil rest ∙ ap (λ (l : List Entry). l ++ rest) (sym (wire_none f ws m e))

pub over_seen : (w : Watch) (y : Sample) (ks : Packets) → Over w ks → Over (seen w y) ks
over_seen not_armed y ks o = o
over_seen (in_slot s) y ks o = go (is_set (in_half s 10) y.buffers)
  where
    go : (v : Bool) → Over (cond v (in_slot s) taken) ks
    go true = o
    go false = o
over_seen taken y ks o = o

pub stage_kept : (x : Begin) (buf : List ℕ) (n : ℕ) (w v : Watch) (f g : File) (st : Stage) (rest : List Entry) → ((ks : Packets) → Over w ks → Over v ks)
    → g addr_endp ≡ f addr_endp
    → StageInv x buf n w f st rest → StageInv x buf n v g st rest
stage_kept x buf n w v f g setup_stage rest o e i = i
stage_kept x buf n w v f g (in_stage st) rest o e i = i
stage_kept x buf n w v f g (out_stage st) rest o e i =
    let s = i.1 in
    (i.0, record { shown = shown_file f g (address_of x) (endpoint_of (kind_of x)) e s.shown; packets = s.packets; left = s.left; ends = s.ends; over = o s.packets s.over; due = s.due })

pub inv_kept : (l : Live) (n : ℕ) (w v : Watch) (f g : File) (t : Option Run) (rest : List Entry) → ((ks : Packets) → Over w ks → Over v ks) → g addr_endp ≡ f addr_endp
    → Inv l n w f t rest → Inv l n v g t rest
inv_kept no_transfer n w v f g None rest o e i = i
inv_kept no_transfer n w v f g (Some r) rest o e i = absurd i
inv_kept (live x buf) n w v f g None rest o e i = absurd i
inv_kept (live x buf) n w v f g (Some r) rest o e i =
    record { same = i.same; checked = i.checked; stage = stage_kept x buf n w v f g r.stage rest o e i.stage }
