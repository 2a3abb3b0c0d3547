-- A stage's start: what it puts on the wire and what is due after it. Assumes nothing.
use mathlib.Core.Path.{◌≡◌, refl, sym, ap, ◌∙◌, subst}
use mathlib.Core.Bool.{Bool, true}
use mathlib.Core.List.{List, [], ◌∷◌, ◌++◌, map}
use Prim.Native.Nat.{ℕ, ◌+◌, ◌*◌, ◌/◌, ◌%◌, ◌≤◌, ◌<◌}
use native.Mathlib.Omega.{arith}
use lib.ListN.{length}
use Rattle.cutting.specs.declared.transfer_type.TransferType.{TransferType}
use Rattle.cutting.specs.declared.packetiser.OutCounters.{OutCounters}
use Rattle.cutting.specs.Counters.{in_start_of, out_start}
use Rattle.cutting.specs.Left.{OutLeft, Ends}
use Rattle.transfers.specs.declared.wire.Direction.TheVariants.{In, Out}
use Rattle.transfers.specs.declared.host_controller.TransferExtras.{TransferExtras}
use Rattle.transfers.specs.declared.wire.SetupPacket.{SetupPacket}
use Rattle.transfers.specs.declared.driver.Request.{Request}
use Rattle.transfers.specs.declared.driver.OutStage.{OutStage}
use Rattle.transfers.specs.Log.{Write}
use Rattle.transfers.specs.Registers.{field}
use Rattle.transfers.specs.Writes.{low_word, high_word, setup_words, setup_start}
use Rattle.transfers.specs.Arming.{in_arm_two, OutArmings, out_arm_two}
use Rattle.transfers.specs.State.{endpoint_of, first_pid, target_of}
use Rattle.transfers.specs.Outcome.{start_in, start_out}
use Rattle.transfers.specs.Step.{out_packets, lent}
use Rattle.record.specs.Grammar.{four, Entry, setup}
use Rattle.record.specs.Wire.{File, performs, Event, events, entry_of, wire, word_bytes}
use Rattle.record.specs.Calls.{Begin}
use Rattle.record.specs.Armed.{low_bytes, high_bytes, setup_entry}
use Rattle.record.specs.Asked.{TypedSetup, out_entry}
use Rattle.record.specs.Told.{Watch, not_armed, marks}
use Rattle.record.proofs.Logs.{Silent, setup_event, setup_addr}
use Rattle.record.proofs.Stages.{start_log, heads, in_two, out_two, arm_events}
use Rattle.record.proofs.Arming.{Packets, ev_of, Over, over_marks, ends_after, two_alike, Two, two}
use Rattle.record.proofs.Begins.{address_of, size_of, kind_of, request_of, Checked, endpoint_small}
use Rattle.record.proofs.Inv.{entries_of, Shown, shown_by, Sending}

pub map_append : {A B : Type 0} (h : A → B) (a b : List A) → map h (a ++ b) ≡ map h a ++ map h b
map_append h [] b = refl
map_append {B = B} h (x ∷ a) b = ap (λ (l : List B). h x ∷ l) (map_append h a b)

-- Counters that a stage takes over, its request giving packet size and first PID.
pub counters_back : (p : Bool) (n : ℕ) (c : OutCounters) → c.pid ≡ p → c.size ≡ n
    → c ≡ record { slot = c.slot; pid = p; remain = c.remain; offset = c.offset; size = n; zlp = c.zlp }
counters_back p n c e f = λ i. record { slot = c.slot; pid = e i; remain = c.remain; offset = c.offset; size = f i; zlp = c.zlp }

-- The stage after an arming.
abbrev pub moved_to : OutStage → OutArmings → Bool → OutStage
moved_to st g parity = record {
  status = st.status;
  slot = g.packets.slot;
  remain = g.packets.remain;
  offset = g.packets.offset;
  zlp = g.packets.zlp;
  retire = parity;
  inflight = g.inflight;
  received = st.received;
}

-- ---- an arming in an OUT stage, with the log that holds it

module _ (x : Begin) (buf : List ℕ) (w : Watch) (f : File) (can : Bool) (ks : Packets) (g : OutArmings) (ws : List Write) (st : OutStage) where
  pub record Armed : Type 0 where
    pub rest : Packets
    pub split : entries_of x ks ≡ wire f ws g.memory ++ entries_of x rest
    pub sending : Sending x buf (marks w (events f ws)) (performs f ws) st (entries_of x rest)

  pub arming : Two (lent st.status buf) can ks g → events f ws ≡ arm_events g.first ++ arm_events g.second
      → Shown (performs f ws) (address_of x) (endpoint_of (kind_of x))
      → Ends ks → Over w ks → g.packets ≡ out_packets (request_of x buf) st → Armed
  unfolding wire
  arming t ev sh en ov q =
      let F = performs f ws in
      let en' : Ends (t.new ++ t.rest) = subst Ends t.split en in
      let ov' : Over w (t.new ++ t.rest) = subst (Over w) t.split ov in
      let es : events f ws ≡ map ev_of t.new = ev ∙ t.says in
      record {
        rest = t.rest;
        split =
            ap (entries_of x) t.split
            ∙ map_append (out_entry (address_of x) (endpoint_of (kind_of x))) t.new t.rest
            ∙ ap (λ (l : List Entry). l ++ entries_of x t.rest)
            (sym (ap (map (entry_of F g.memory)) es ∙ t.wired F (address_of x) (endpoint_of (kind_of x)) sh.addr sh.endp));
        sending = record {
          shown = sh;
          packets = t.rest;
          left = subst (λ (c : OutCounters). OutLeft (lent st.status buf) c t.rest) q t.left;
          ends = ends_after t.new t.rest en';
          over = subst (λ (u : List Event). Over (marks w u) t.rest) (sym es) (over_marks t.new t.rest w en' ov');
          due = refl;
        };
      }

-- ---- an OUT stage begins

module _ (pre : List Write) (x : Begin) (buf : List ℕ) (t : TransferType) (status : Bool) (received n : ℕ) (now m : List ℕ) (f : File) (ks : Packets) where
  pub start_out_lem : Silent pre → Checked x buf
      → out_arm_two 0 (out_start t (size_of x) (first_pid (kind_of x)) n) 0 now m ≡ out_arm_two 0 (out_start t (size_of x) (first_pid (kind_of x)) n) 0 (lent status buf) m
      → length m ≡ 4096
      → OutLeft (lent status buf) (out_start t (size_of x) (first_pid (kind_of x)) n) ks → Ends ks
      → Armed x buf not_armed f true ks (out_arm_two 0 (out_start t (size_of x) (first_pid (kind_of x)) n) 0 now m)
      (pre ++ (start_out (target_of (request_of x buf)) t status received n now m).writes)
      (start_out (target_of (request_of x buf)) t status received n now m).stage
  unfolding start_out
  start_out_lem sp ck same full l en =
      let T = target_of (request_of x buf) in
      let c = out_start t (size_of x) (first_pid (kind_of x)) n in
      let g = out_arm_two 0 c 0 now m in
      let st = (start_out T t status received n now m).stage in
      let b : Two (lent status buf) true ks g =
      subst (λ (u : OutArmings). Two (lent status buf) true ks u) (sym same) (two (lent status buf) 0 c ks 0 m full l) in
      let h = heads pre g.writes (arm_events g.first ++ arm_events g.second) T n Out sp (out_two 0 c 0 now m) f in
      let ws = start_log pre T n g.writes Out in
      let k = two_alike 0 c 0 now m in
      arming x buf not_armed f true ks g ws st b h.are
      (shown_by (performs f ws) (address_of x) (endpoint_of (kind_of x)) ck.addr (endpoint_small x buf ck) h.addr) en tt
      (counters_back (first_pid (kind_of x)) (size_of x) g.packets k.pid k.size)

-- It starts what it says that it armed.
pub start_starts : (pre : List Write) (r : Request) (t : TransferType) (status : Bool) (received n : ℕ) (now m : List ℕ) (f : File) → Silent pre
    → events f (pre ++ (start_out (target_of r) t status received n now m).writes)
    ≡ arm_events (out_arm_two 0 (out_start t r.size (first_pid r.kind) n) 0 now m).first ++ arm_events (out_arm_two 0 (out_start t r.size (first_pid r.kind) n) 0 now m).second
unfolding start_out
start_starts pre r t status received n now m f sp =
    let T = target_of r in
    let c = out_start t r.size (first_pid r.kind) n in
    let g = out_arm_two 0 c 0 now m in
    (heads pre g.writes (arm_events g.first ++ arm_events g.second) T n Out sp (out_two 0 c 0 now m) f).are

-- ---- an IN stage begins

pub start_in_lem : (pre : List Write) (r : Request) (t : TransferType) (status : Bool) (n : ℕ) (f : File) → Silent pre
    → events f (pre ++ (start_in (target_of r) t status n).writes) ≡ []
unfolding start_in
start_in_lem pre r t status n f sp =
    let T = target_of r in
    let c = in_start_of t T.size T.pid n in
    (heads pre (in_arm_two 0 c 0).writes [] T n In sp (in_two 0 c 0) f).are

-- ---- SETUP

-- The words of a SETUP whose fields are of their types are its bytes.
low_word_lem : (s : SetupPacket) → TypedSetup s → word_bytes (low_word s) ≡ low_bytes s
low_word_lem s h =
    let a = s.bmRequestType in
    let b = s.bRequest in
    let v = s.wValue in
    let w = a + b * 0x100 + v * 0x1_0000 in
    let h₀ : a < 256 = h.0 in
    let h₁ : b < 256 = h.1 in
    let h₂ : v < 65536 = h.2 in
    let p : w % 256 ≡ a = omega arith in
    let q₁ : w / 256 ≡ b + v * 256 = omega arith in
    let q₂ : (b + v * 256) % 256 ≡ b = omega arith in
    let r₁ : w / 65536 ≡ v = omega arith in
    let s₁ : w / 16777216 ≡ v / 256 = omega arith in
    let s₂ : v / 256 % 256 ≡ v / 256 = omega arith in
    let p' : field 0 8 w ≡ a = omega arith in
    let q : field 8 8 w ≡ b = ap (λ (n : ℕ). n % 256) q₁ ∙ q₂ in
    let r : field 16 8 w ≡ v % 256 = ap (λ (n : ℕ). n % 256) r₁ in
    let t : field 24 8 w ≡ v / 256 = ap (λ (n : ℕ). n % 256) s₁ ∙ s₂ in
    λ i. four (p' i) (q i) (r i) (t i)

high_word_lem : (s : SetupPacket) → TypedSetup s → word_bytes (high_word s) ≡ high_bytes s
high_word_lem s h =
    let x = s.wIndex in
    let v = s.wLength in
    let w = x + v * 0x1_0000 in
    let h₀ : x < 65536 = h.3 in
    let h₁ : v < 65536 = h.4 in
    let p : field 0 8 w ≡ x % 256 = omega arith in
    let q₁ : w / 256 ≡ x / 256 + v * 256 = omega arith in
    let q₂ : (x / 256 + v * 256) % 256 ≡ x / 256 = omega arith in
    let r₁ : w / 65536 ≡ v = omega arith in
    let s₁ : w / 16777216 ≡ v / 256 = omega arith in
    let s₂ : v / 256 % 256 ≡ v / 256 = omega arith in
    let q : field 8 8 w ≡ x / 256 = ap (λ (n : ℕ). n % 256) q₁ ∙ q₂ in
    let r : field 16 8 w ≡ v % 256 = ap (λ (n : ℕ). n % 256) r₁ in
    let t : field 24 8 w ≡ v / 256 = ap (λ (n : ℕ). n % 256) s₁ ∙ s₂ in
    λ i. four (p i) (q i) (r i) (t i)

pub setup_wire : (f : File) (a : ℕ) (z : TransferExtras) (s : SetupPacket) (m : List ℕ) → a ≤ 127 → TypedSetup s
    → wire f (setup_words s ++ setup_start a z) m ≡ setup_entry a s ∷ []
unfolding wire
setup_wire f a z s m h ty =
    let F = performs f (setup_words s ++ setup_start a z) in
    let e : field 0 7 a ≡ a = omega arith in
    let k = ap (field 0 7) (setup_addr f a z s) ∙ e in
    let lo = low_word_lem s ty in
    let hi = high_word_lem s ty in
    ap (map (entry_of F m)) (setup_event f a z s) ∙ (λ i. setup (k i) (lo i) (hi i) ∷ [])
