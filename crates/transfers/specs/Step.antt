-- A step that acts: one poll of `Rp2040ControlEndpoint` and what follows it (document 01, "steps"; rp2040.rs, `send_setup`, `control_transfer_inner`).
use Rattle.std.specs.Prelude.{ℕ, Bool, true, false, List, [], ◌∷◌, ◌++◌, nat_lt, None, Ok, Option, Some}
use Rattle.cutting.specs.declared.packetiser.InPacketiser.{InPacketiser}
use Rattle.cutting.specs.declared.packetiser.OutCounters.{OutCounters}
use Rattle.cutting.specs.declared.depacketiser.InDepacketiser.{InDepacketiser}
use Rattle.transfers.specs.declared.host_controller.UsbError.TheVariants.{BufferTooSmall, ProtocolError}
use Rattle.transfers.specs.declared.host_controller.DataPhase.{DataPhase}
use Rattle.transfers.specs.declared.host_controller.DataPhase.TheVariants.{In as phase_in, Out as phase_out, None as phase_none}
use Rattle.transfers.specs.declared.sample.Sample.{Sample}
use Rattle.transfers.specs.declared.sample.Found.{Found}
use Rattle.transfers.specs.declared.sample.Found.TheVariants.{Complete, Failed, Neither}
use Rattle.transfers.specs.declared.driver.Request.{Request}
use Rattle.transfers.specs.declared.driver.Kind.{Kind}
use Rattle.transfers.specs.declared.driver.Kind.TheVariants.{Control as control, Bulk as bulk}
use Rattle.transfers.specs.declared.driver.Stage.{Stage}
use Rattle.transfers.specs.declared.driver.Stage.TheVariants.{Setup as setup_stage, In as in_stage, Out as out_stage}
use Rattle.transfers.specs.declared.driver.InStage.{InStage}
use Rattle.transfers.specs.declared.driver.OutStage.{OutStage}
use Rattle.transfers.specs.Answers.{nothing_armed, outs_armed}
use Rattle.transfers.specs.Sample.{classify}
use Rattle.transfers.specs.Writes.{enable_writes, polled, awaits, quiets, completes}
use Rattle.transfers.specs.Arming.{in_arm_two, out_arm_two}
use Rattle.transfers.specs.Retiring.{InRetiring, in_retire_one, OutRetiring, out_retire_one}
use Rattle.transfers.specs.State.{endpoint_of, first_pid, stage_length, control_of}
use Rattle.transfers.specs.Outcome.{Outcome, after, toggle_out, ended, failed, waits, enters_in, enters_out}
use Rattle.transfers.specs.declared.answers.Step.TheVariants.{Done}

-- ---- SETUP

-- SETUP is done; `short` is "7 In or Out buffer shorter than wLength (None has no such check)".
abbrev pub setup_done : DataPhase → Bool → Request → ℕ → List ℕ → List ℕ → Outcome
setup_done phase_in true x n buf m = failed x false BufferTooSmall m buf
setup_done phase_in false x n buf m = enters_in x false n m buf
setup_done phase_out true x n buf m = failed x false BufferTooSmall m buf
setup_done phase_out false x n buf m = enters_out x false 0 n buf m buf
setup_done phase_none short x n buf m = enters_in x true 0 m buf

-- "in SETUP only waiting"; an error ends it; complete, the data or status stage follows.
unfoldable pub setup_step : Found → Request → List ℕ → List ℕ → Outcome
setup_step Complete x buf m = let c = control_of x.kind in setup_done c.phase (nat_lt x.length c.wLength) x c.wLength buf m
setup_step (Failed e) x buf m = failed x false e m buf
setup_step Neither x buf m = waits x setup_stage true nothing_armed [] m buf

-- ---- IN

-- The counters of a stage, as the packetiser and the depacketiser have them.
abbrev pub in_packets : Request → InStage → InPacketiser
in_packets x st = record { slot = st.slot; pid = first_pid x.kind; remain = st.toarm; size = x.size; zlp = st.zlp }

-- The depacketiser's.
abbrev pub in_received : InStage → InDepacketiser
in_received st = record { parity = st.retire; remain = st.remain; offset = st.offset }

-- "Out counts the whole lent buffer .. None counts 0"
abbrev pub status_count : DataPhase → ℕ → ℕ
status_count phase_in n = 0
status_count phase_out n = n
status_count phase_none n = 0

-- The stage is complete: the end with a count, or the status stage.
abbrev pub in_control_done : Bool → DataPhase → Request → ℕ → List ℕ → List ℕ → Outcome
in_control_done true ph x n m buf = ended (Ok (Done (status_count ph x.length))) false false m buf
in_control_done false ph x n m buf = enters_out x true n 0 [] m buf

-- A bulk IN ends with the bytes received.
abbrev pub in_done : Kind → Bool → Request → InDepacketiser → List ℕ → List ℕ → Outcome
in_done (control c) status x d m buf = in_control_done status c.phase x d.offset m buf
in_done (bulk b) status x d m buf = let t = toggle_out (bulk b) d.parity in ended (Ok (Done d.offset)) t t m buf

-- "A completed data or status stage also retires up to two."
abbrev pub in_second_done : Bool → InRetiring → Request → Bool → List ℕ → Outcome
in_second_done true h x status m = failed x h.packets.parity ProtocolError m h.buffer
in_second_done false h x status m = in_done x.kind status x h.packets m h.buffer

-- 9 at the first slot; else the completing write, and the second slot.
abbrev pub in_first_done : Bool → InRetiring → ℕ → Request → Bool → List ℕ → Outcome
in_first_done true g w x status m = failed x g.packets.parity ProtocolError m g.buffer
in_first_done false g w x status m =
    let h = in_retire_one w g.packets g.inflight g.buffer m in
    after (completes ∷ []) (in_second_done h.long h x status m)

-- A completed IN stage.
unfoldable pub in_complete : Request → InStage → ℕ → List ℕ → List ℕ → Outcome
in_complete x st w buf m = let g = in_retire_one w (in_received st) st.inflight buf m in in_first_done g.long g w x st.status m

-- "None of these: retire up to two slots, arm up to two, waiting"
unfoldable pub in_rearm : Request → InStage → InDepacketiser → ℕ → ℕ → List ℕ → List ℕ → Outcome
in_rearm x st d k w m buf =
    let g = in_arm_two w (in_packets x st) k in
    waits x (in_stage (record { status = st.status; slot = g.packets.slot; toarm = g.packets.remain; zlp = g.packets.zlp; retire = d.parity; remain = d.remain; offset = d.offset; inflight = g.inflight }))
    true nothing_armed (g.writes ++ enable_writes x.size (stage_length x st.status)) m buf

-- 9 at the second slot; else up to two are armed.
abbrev pub in_second_moved : Bool → InRetiring → ℕ → Request → InStage → List ℕ → Outcome
in_second_moved true h w x st m = failed x h.packets.parity ProtocolError m h.buffer
in_second_moved false h w x st m = in_rearm x st h.packets h.inflight w m h.buffer

-- 9 at the first slot; else the second.
abbrev pub in_first_moved : Bool → InRetiring → ℕ → Request → InStage → List ℕ → Outcome
in_first_moved true g w x st m = failed x g.packets.parity ProtocolError m g.buffer
in_first_moved false g w x st m =
    let h = in_retire_one w g.packets g.inflight g.buffer m in
    in_second_moved h.long h w x st m

-- An IN stage that goes on.
unfoldable pub in_move : Request → InStage → ℕ → List ℕ → List ℕ → Outcome
in_move x st w buf m = let g = in_retire_one w (in_received st) st.inflight buf m in in_first_moved g.long g w x st m

-- By what the poll found.
abbrev pub in_found : Found → Request → InStage → ℕ → List ℕ → List ℕ → Outcome
in_found Complete x st w buf m = in_complete x st w buf m
in_found (Failed e) x st w buf m = failed x st.retire e m buf
in_found Neither x st w buf m = in_move x st w buf m

-- A ready poll of an IN stage.
unfoldable pub in_step : Found → Request → InStage → ℕ → List ℕ → List ℕ → Outcome
in_step f x st w buf m = after quiets (in_found f x st w buf m)

-- ---- OUT

-- The counters of a stage, as the packetiser has them.
abbrev pub out_packets : Request → OutStage → OutCounters
out_packets x st = record { slot = st.slot; pid = first_pid x.kind; remain = st.remain; offset = st.offset; size = x.size; zlp = st.zlp }

-- "retire up to two slots"
abbrev pub out_retire_two : ℕ → Bool → ℕ → OutRetiring
out_retire_two w s k = let g = out_retire_one w s k in out_retire_one w g.parity g.inflight

-- A control In's status is its end, with the count received; a control Out's data is followed by its status.
abbrev pub out_control_done : Bool → Request → ℕ → List ℕ → List ℕ → Outcome
out_control_done true x received m buf = ended (Ok (Done received)) false false m buf
out_control_done false x received m buf = enters_in x true 0 m buf

-- A bulk OUT counts its buffer.
abbrev pub out_done : Kind → Request → OutStage → Bool → List ℕ → List ℕ → Outcome
out_done (control c) x st parity m buf = out_control_done st.status x st.received m buf
out_done (bulk b) x st parity m buf = let t = toggle_out (bulk b) parity in ended (Ok (Done x.length)) t t m buf

-- A completed OUT stage.
unfoldable pub out_complete : Request → OutStage → ℕ → List ℕ → List ℕ → Outcome
out_complete x st w m buf = after (completes ∷ []) (out_done x.kind x st (out_retire_two w st.retire st.inflight).parity m buf)

-- An OUT stage that goes on: retire up to two, arm up to two.
unfoldable pub out_move : Request → OutStage → ℕ → List ℕ → List ℕ → Outcome
out_move x st w buf m =
    let r = out_retire_two w st.retire st.inflight in
    let g = out_arm_two w (out_packets x st) r.inflight buf m in
    waits x (out_stage (record { status = st.status; slot = g.packets.slot; remain = g.packets.remain; offset = g.packets.offset; zlp = g.packets.zlp; retire = r.parity; inflight = g.inflight; received = st.received }))
    true (outs_armed x.address (endpoint_of x.kind) g.first g.second) (g.writes ++ enable_writes x.size (stage_length x st.status)) g.memory buf

-- By what the poll found.
abbrev pub out_found : Found → Request → OutStage → ℕ → List ℕ → List ℕ → Outcome
out_found Complete x st w buf m = out_complete x st w m buf
out_found (Failed e) x st w buf m = failed x st.retire e m buf
out_found Neither x st w buf m = out_move x st w buf m

-- A ready poll of an OUT stage.
unfoldable pub out_step : Found → Request → OutStage → ℕ → List ℕ → List ℕ → Outcome
out_step f x st w buf m = after quiets (out_found f x st w buf m)

-- ---- the step

-- A status stage fills and sends from an empty buffer, and the caller's stays as it is.
abbrev pub lent : Bool → List ℕ → List ℕ
lent true buf = []
lent false buf = buf

-- The caller's buffer stays in a status stage.
abbrev pub keeping : Bool → List ℕ → Outcome → Outcome
keeping false buf o = o
keeping true buf o = record { next = o.next; answer = o.answer; toggle = o.toggle; moved = o.moved; armed = o.armed; writes = o.writes; memory = o.memory; buffer = buf }

-- A ready poll, by the stage.
abbrev pub stage_step : Found → Request → Stage → ℕ → List ℕ → List ℕ → Outcome
stage_step f x setup_stage w buf m = setup_step f x buf m
stage_step f x (in_stage st) w buf m = keeping st.status buf (in_step f x st w (lent st.status buf) m)
stage_step f x (out_stage st) w buf m = keeping st.status buf (out_step f x st w (lent st.status buf) m)

-- "A poll is ready when INTR and 0x7F8 is not zero": then the SIE_STATUS write is made and the stage goes on; else waiting.
abbrev pub polls : Option Found → Request → Stage → ℕ → List ℕ → List ℕ → Outcome
polls None x st w buf m = waits x st false nothing_armed (polled ∷ awaits ∷ []) m buf
polls (Some f) x st w buf m = after (polled ∷ []) (stage_step f x st w buf m)

-- What a step does that is not refused.
unfoldable pub acts : Request → Stage → Sample → List ℕ → List ℕ → Outcome
acts x st s buf m = polls (classify s.status s.intr) x st s.buffers buf m
