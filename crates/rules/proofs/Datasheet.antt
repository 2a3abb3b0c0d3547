-- What the driver's blocks write decodes to what is meant. Assumes nothing.
use mathlib.Core.Path.{◌≡◌, refl, ap, ◌∙◌}
use mathlib.Core.Bool.{Bool, true, false, not, cond}
use mathlib.Core.List.{◌++◌}
use Prim.Native.Nat.{ℕ, ◌+◌, ◌*◌, ◌-◌, ◌/◌, ◌%◌, ◌≤◌, ◌<◌, min}
use native.Mathlib.Nat.{mod-eq_of_lt}
use native.Mathlib.Omega.{arith}
use lib.Dec.{eqb, leb}
use borrow.Author.Tests.{eq-eqb, ne_eqb}
use Rattle.cutting.specs.declared.packetiser.Arm.{Arm}
use Rattle.transfers.specs.declared.host_controller.TransferExtras.{TransferExtras}
use Rattle.transfers.specs.declared.host_controller.TransferExtras.TheVariants.{Normal, WithPreamble}
use Rattle.transfers.specs.declared.wire.SetupPacket.{SetupPacket}
use Rattle.transfers.specs.declared.wire.Direction.{Direction}
use Rattle.transfers.specs.declared.wire.Direction.TheVariants.{In, Out}
use Rattle.transfers.specs.declared.writes.Target.{Target}
use Rattle.transfers.specs.Log.{wr, masked}
use Rattle.transfers.specs.Registers.{field, bit, ones, weigh, half}
use Rattle.transfers.specs.Writes.{low_word, high_word, preamble, setup_words, setup_start, epx_value, head_writes, arm_value, arm_writes, go_writes}
use Rattle.transfers.specs.Pipes.{arm_pipe, open_writes, poll_interval, pipe_area}
use Rattle.rules.specs.Fields.{word_after, read_buffer_control, read_endpoint_control, read_addr_endp, read_sie_ctrl}
use Rattle.rules.specs.Datasheet.{ArmsSlot, PointsAt, Starts, SendsSetup, ArmsPipe, behind_hub, OpensPipe}
use Rattle.transfers.proofs.Masked.{covered, kept}
use Rattle.rules.proofs.Fields.{all, upper, is_one, same_bit}

-- ---- a slot

-- The fields of the value that arms a slot.
pub record Value (x f b l n : ℕ) : Type 0 where
  pub full : field 15 1 x ≡ f
  pub pid : field 13 1 x ≡ b
  pub last : field 14 1 x ≡ l
  pub length : field 0 10 x ≡ n
  pub zero : field 10 1 x ≡ 0
  pub small : x < 0x1_0000

pub value : (f b l : Bool) (n : ℕ) → n ≤ 64 → Value (n + weigh b 0x2000 + weigh l 0x4000 + weigh f 0x8000) (weigh f 1) (weigh b 1) (weigh l 1) n
value false true true n h = record { full = omega arith; pid = omega arith; last = omega arith; length = omega arith; zero = omega arith; small = omega arith }
value false true false n h = record { full = omega arith; pid = omega arith; last = omega arith; length = omega arith; zero = omega arith; small = omega arith }
value false false true n h = record { full = omega arith; pid = omega arith; last = omega arith; length = omega arith; zero = omega arith; small = omega arith }
value false false false n h = record { full = omega arith; pid = omega arith; last = omega arith; length = omega arith; zero = omega arith; small = omega arith }
value true true true n h = record { full = omega arith; pid = omega arith; last = omega arith; length = omega arith; zero = omega arith; small = omega arith }
value true true false n h = record { full = omega arith; pid = omega arith; last = omega arith; length = omega arith; zero = omega arith; small = omega arith }
value true false true n h = record { full = omega arith; pid = omega arith; last = omega arith; length = omega arith; zero = omega arith; small = omega arith }
value true false false n h = record { full = omega arith; pid = omega arith; last = omega arith; length = omega arith; zero = omega arith; small = omega arith }

abbrev pub armed : ℕ → Bool → ℕ → ℕ
armed w s v = masked (masked w (half s 0xE3FF) (half s v)) (half s 0x400) (half s 0x400)

pub own_half : (w : ℕ) (s f b l : Bool) (n x : ℕ) → Value x (weigh f 1) (weigh b 1) (weigh l 1) n → read_buffer_control (armed w s x) s ≡ record { LENGTH = n; AVAILABLE = true; PID = b; LAST = l; FULL = f }
own_half w false f b l n x q =
    let v = masked w 0xE3FF x in
    let e0 = kept 0 10 v 0x400 0x400 refl refl ∙ covered 0 10 w 0xE3FF x refl ∙ q.length in
    let e1 = is_one (field 10 1 (armed w false x)) true (covered 10 1 v 0x400 0x400 refl) in
    let e2 = is_one (field 13 1 (armed w false x)) b (kept 13 1 v 0x400 0x400 refl refl ∙ covered 13 1 w 0xE3FF x refl ∙ q.pid) in
    let e3 = is_one (field 14 1 (armed w false x)) l (kept 14 1 v 0x400 0x400 refl refl ∙ covered 14 1 w 0xE3FF x refl ∙ q.last) in
    let e4 = is_one (field 15 1 (armed w false x)) f (kept 15 1 v 0x400 0x400 refl refl ∙ covered 15 1 w 0xE3FF x refl ∙ q.full) in
    λ i. record { LENGTH = e0 i; AVAILABLE = e1 i; PID = e2 i; LAST = e3 i; FULL = e4 i }
own_half w true f b l n x q =
    let y = x * 65536 in
    let v = masked w 0xE3FF_0000 y in
    let e0 = kept 16 10 v 0x400_0000 0x400_0000 refl refl ∙ covered 16 10 w 0xE3FF_0000 y refl ∙ upper 0 10 x ∙ q.length in
    let e1 = is_one (field 26 1 (armed w true x)) true (covered 26 1 v 0x400_0000 0x400_0000 refl) in
    let e2 = is_one (field 29 1 (armed w true x)) b (kept 29 1 v 0x400_0000 0x400_0000 refl refl ∙ covered 29 1 w 0xE3FF_0000 y refl ∙ upper 13 1 x ∙ q.pid) in
    let e3 = is_one (field 30 1 (armed w true x)) l (kept 30 1 v 0x400_0000 0x400_0000 refl refl ∙ covered 30 1 w 0xE3FF_0000 y refl ∙ upper 14 1 x ∙ q.last) in
    let e4 = is_one (field 31 1 (armed w true x)) f (kept 31 1 v 0x400_0000 0x400_0000 refl refl ∙ covered 31 1 w 0xE3FF_0000 y refl ∙ upper 15 1 x ∙ q.full) in
    λ i. record { LENGTH = e0 i; AVAILABLE = e1 i; PID = e2 i; LAST = e3 i; FULL = e4 i }

-- A write to one half leaves the other.
other_low : (w m v : ℕ) → field 0 10 (ones - m) ≡ 1023 → field 10 1 (ones - m) ≡ 1 → field 13 1 (ones - m) ≡ 1 → field 14 1 (ones - m) ≡ 1 → field 15 1 (ones - m) ≡ 1
    → field 0 16 v ≡ 0 → read_buffer_control (masked w m v) false ≡ read_buffer_control w false
other_low w m v a b c d e z =
    let e0 = kept 0 10 w m v a (omega arith) in
    let e1 = same_bit (field 10 1 (masked w m v)) (field 10 1 w) (kept 10 1 w m v b (omega arith)) in
    let e2 = same_bit (field 13 1 (masked w m v)) (field 13 1 w) (kept 13 1 w m v c (omega arith)) in
    let e3 = same_bit (field 14 1 (masked w m v)) (field 14 1 w) (kept 14 1 w m v d (omega arith)) in
    let e4 = same_bit (field 15 1 (masked w m v)) (field 15 1 w) (kept 15 1 w m v e (omega arith)) in
    λ i. record { LENGTH = e0 i; AVAILABLE = e1 i; PID = e2 i; LAST = e3 i; FULL = e4 i }

other_high : (w m v : ℕ) → field 16 10 (ones - m) ≡ 1023 → field 26 1 (ones - m) ≡ 1 → field 29 1 (ones - m) ≡ 1 → field 30 1 (ones - m) ≡ 1 → field 31 1 (ones - m) ≡ 1
    → v < 0x1_0000 → read_buffer_control (masked w m v) true ≡ read_buffer_control w true
other_high w m v a b c d e z =
    let e0 = kept 16 10 w m v a (omega arith) in
    let e1 = same_bit (field 26 1 (masked w m v)) (field 26 1 w) (kept 26 1 w m v b (omega arith)) in
    let e2 = same_bit (field 29 1 (masked w m v)) (field 29 1 w) (kept 29 1 w m v c (omega arith)) in
    let e3 = same_bit (field 30 1 (masked w m v)) (field 30 1 w) (kept 30 1 w m v d (omega arith)) in
    let e4 = same_bit (field 31 1 (masked w m v)) (field 31 1 w) (kept 31 1 w m v e (omega arith)) in
    λ i. record { LENGTH = e0 i; AVAILABLE = e1 i; PID = e2 i; LAST = e3 i; FULL = e4 i }

other_half : (w : ℕ) (s : Bool) (x : ℕ) → x < 0x1_0000 → read_buffer_control (armed w s x) (not s) ≡ read_buffer_control w (not s)
other_half w false x h =
    other_high (masked w 0xE3FF x) 0x400 0x400 refl refl refl refl refl (omega arith) ∙ other_high w 0xE3FF x refl refl refl refl refl h
other_half w true x h =
    other_low (masked w 0xE3FF_0000 (x * 65536)) 0x400_0000 0x400_0000 refl refl refl refl refl refl ∙ other_low w 0xE3FF_0000 (x * 65536) refl refl refl refl refl (omega arith)

-- AVAILABLE is not in the first write's mask.
still_off : (w : ℕ) (s : Bool) (x : ℕ) → field 10 1 x ≡ 0 → (read_buffer_control (masked w (half s 0xE3FF) (half s x)) s).AVAILABLE ≡ (read_buffer_control w s).AVAILABLE
still_off w false x z = same_bit (field 10 1 (masked w 0xE3FF x)) (field 10 1 w) (kept 10 1 w 0xE3FF x refl z)
still_off w true x z = same_bit (field 26 1 (masked w 0xE3FF_0000 (x * 65536))) (field 26 1 w) (kept 26 1 w 0xE3FF_0000 (x * 65536) refl (upper 10 1 x ∙ z))

pub arms_slot : (full : Bool) (a : Arm) (old : ℕ) → a.length ≤ 64 → ArmsSlot full a old (arm_writes full a)
unfolding arm_writes
arms_slot full a old h =
    let x = arm_value full a in
    let q = value full a.pid a.last a.length h in
    record {
      half = own_half old a.slot full a.pid a.last a.length x q;
      other = other_half old a.slot x q.small;
      first = wr 0x5010_0080 (half a.slot 0xE3FF) (half a.slot x);
      last = wr 0x5010_0080 (half a.slot 0x400) (half a.slot 0x400);
      order = refl;
      before = still_off old a.slot x q.zero;
    }

-- ---- a stage

epx_decodes : (b c : Bool) → read_endpoint_control (0x8000_0180 + weigh b 0x6000_0000 + weigh (not c) 0x0800_0000)
    ≡ record { ENABLE = true; DOUBLE_BUFFERED = b; INTERRUPT_PER_BUFF = b; INTERRUPT_PER_DOUBLE_BUFF = false; ENDPOINT_TYPE = cond c 0 2; HOST_POLL_INTERVAL = 0; BUFFER_ADDRESS = 0x180 }
epx_decodes true true = refl
epx_decodes true false = refl
epx_decodes false true = refl
epx_decodes false false = refl

low_four : (e : ℕ) → e ≤ 15 → (e + 1024) % 16 ≡ e
low_four e k = omega arith

addr_decodes : (a e : ℕ) (b : Bool) → a ≤ 127 → e ≤ 15 → read_addr_endp (a + e * 0x1_0000 + weigh b 0x400_0000) ≡ record { ADDRESS = a; ENDPOINT = e; INTEP_DIR = false; INTEP_PREAMBLE = b }
addr_decodes a e true h k =
    let w = a + e * 0x1_0000 + 0x400_0000 in
    let d : w / 0x1_0000 ≡ e + 1024 = omega arith in
    let d2 : w / 0x200_0000 ≡ 2 = omega arith in
    let d3 : w / 0x400_0000 ≡ 1 = omega arith in
    let e0 : field 0 7 w ≡ a = omega arith in
    let e1 : field 16 4 w ≡ e = ap (λ (n : ℕ). n % 16) d ∙ low_four e k in
    let e2 = is_one (field 25 1 w) false (ap (λ (n : ℕ). n % 2) d2) in
    let e3 = is_one (field 26 1 w) true (ap (λ (n : ℕ). n % 2) d3) in
    λ i. record { ADDRESS = e0 i; ENDPOINT = e1 i; INTEP_DIR = e2 i; INTEP_PREAMBLE = e3 i }
addr_decodes a e false h k =
    let w = a + e * 0x1_0000 + 0 in
    let d : w / 0x1_0000 ≡ e = omega arith in
    let d2 : w / 0x200_0000 ≡ 0 = omega arith in
    let d3 : w / 0x400_0000 ≡ 0 = omega arith in
    let e0 : field 0 7 w ≡ a = omega arith in
    let e1 : field 16 4 w ≡ e = ap (λ (n : ℕ). n % 16) d ∙ mod-eq_of_lt (omega arith) in
    let e2 = is_one (field 25 1 w) false (ap (λ (n : ℕ). n % 2) d2) in
    let e3 = is_one (field 26 1 w) false (ap (λ (n : ℕ). n % 2) d3) in
    λ i. record { ADDRESS = e0 i; ENDPOINT = e1 i; INTEP_DIR = e2 i; INTEP_PREAMBLE = e3 i }

pub points : (t : Target) (n old : ℕ) → t.address ≤ 127 → t.endpoint ≤ 15 → PointsAt t.address t.endpoint t.size n old (head_writes t n)
unfolding head_writes
points t n old h k = record {
  epx = ap read_endpoint_control (all old (epx_value t n)) ∙ epx_decodes (leb t.size n) (eqb t.endpoint 0);
  whom =
      ap read_addr_endp (all old (t.address + t.endpoint * 0x1_0000) ∙ (let z : t.address + t.endpoint * 0x1_0000 ≡ t.address + t.endpoint * 0x1_0000 + 0 = omega arith in z))
      ∙ addr_decodes t.address t.endpoint false h k;
}

pub clear : (t : Target) (n old : ℕ) → word_after 0x5010_0080 old (head_writes t n) ≡ 0
unfolding head_writes
clear t n old = all old 0

-- ---- the start

abbrev started : ℕ → ℕ → ℕ → ℕ
started w m v = masked (masked w m v) 1 1

-- A mask with bits 1 to 3, and bit 0 by its own write.
starts_with : (w m v : ℕ) (a b c d : Bool) → field 1 1 (ones - m) ≡ 0 → field 2 1 (ones - m) ≡ 0 → field 3 1 (ones - m) ≡ 0 → field 1 1 v ≡ weigh a 1 → field 2 1 v ≡ weigh b 1 → field 3 1 v ≡ weigh c 1
    → bit 6 (masked w m v) ≡ d → read_sie_ctrl (started w m v) ≡ record { START_TRANS = true; SEND_SETUP = a; SEND_DATA = b; RECEIVE_DATA = c; PREAMBLE_EN = d }
starts_with w m v a b c d p q r x y z k =
    let u = masked w m v in
    let e0 = is_one (field 0 1 (started w m v)) true (covered 0 1 u 1 1 refl) in
    let e1 = is_one (field 1 1 (started w m v)) a (kept 1 1 u 1 1 refl refl ∙ covered 1 1 w m v p ∙ x) in
    let e2 = is_one (field 2 1 (started w m v)) b (kept 2 1 u 1 1 refl refl ∙ covered 2 1 w m v q ∙ y) in
    let e3 = is_one (field 3 1 (started w m v)) c (kept 3 1 u 1 1 refl refl ∙ covered 3 1 w m v r ∙ z) in
    let e4 = same_bit (field 6 1 (started w m v)) (field 6 1 u) (kept 6 1 u 1 1 refl refl) ∙ k in
    λ i. record { START_TRANS = e0 i; SEND_SETUP = e1 i; SEND_DATA = e2 i; RECEIVE_DATA = e3 i; PREAMBLE_EN = e4 i }

pub starts : (d : Direction) (old : ℕ) → Starts d old (go_writes d)
unfolding go_writes
starts In old = record { going = starts_with old 0xE 8 false false true (bit 6 old) refl refl refl refl refl refl (same_bit (field 6 1 (masked old 0xE 8)) (field 6 1 old) (kept 6 1 old 0xE 8 refl refl)) }
starts Out old = record { going = starts_with old 0xE 4 false true false (bit 6 old) refl refl refl refl refl refl (same_bit (field 6 1 (masked old 0xE 4)) (field 6 1 old) (kept 6 1 old 0xE 4 refl refl)) }

pub setup : (a : ℕ) (x : TransferExtras) (s : SetupPacket) (old : ℕ) → a ≤ 127 → s.bmRequestType < 0x100 → s.bRequest < 0x100 → s.wValue < 0x1_0000 → s.wIndex < 0x1_0000 → s.wLength < 0x1_0000
    → SendsSetup a x s old (setup_words s ++ setup_start a x)
setup a x s old h b0 b1 b2 b3 b4 = record {
  bmRequestType = ap (field 0 8) (all old (low_word s)) ∙ (let z : field 0 8 (low_word s) ≡ s.bmRequestType = omega arith in z);
  bRequest = ap (field 8 8) (all old (low_word s)) ∙ (let z : field 8 8 (low_word s) ≡ s.bRequest = omega arith in z);
  wValue = ap (field 16 16) (all old (low_word s)) ∙ (let z : field 16 16 (low_word s) ≡ s.wValue = omega arith in z);
  wIndex = ap (field 0 16) (all old (high_word s)) ∙ (let z : field 0 16 (high_word s) ≡ s.wIndex = omega arith in z);
  wLength = ap (field 16 16) (all old (high_word s)) ∙ (let z : field 16 16 (high_word s) ≡ s.wLength = omega arith in z);
  whom = ap read_addr_endp (all old a ∙ (let z : a ≡ a + 0 * 0x1_0000 + 0 = omega arith in z)) ∙ addr_decodes a 0 false h (omega arith);
  going = by x;
}
  where
    by : (y : TransferExtras) → read_sie_ctrl (started old 0x4E (2 + weigh (preamble y) 0x40)) ≡ record { START_TRANS = true; SEND_SETUP = true; SEND_DATA = false; RECEIVE_DATA = false; PREAMBLE_EN = behind_hub y }
    by Normal = starts_with old 0x4E 2 true false false false refl refl refl refl refl refl (is_one (field 6 1 (masked old 0x4E 2)) false (covered 6 1 old 0x4E 2 refl))
    by WithPreamble = starts_with old 0x4E 0x42 true false false true refl refl refl refl refl refl (is_one (field 6 1 (masked old 0x4E 0x42)) true (covered 6 1 old 0x4E 0x42 refl))

-- ---- pipes

pipe_value : (t : Bool) (n : ℕ) → n ≤ 64 → Value (0x4000 + weigh t 0x2000 + n) 0 (weigh t 1) 1 n
pipe_value true n h = record { full = omega arith; pid = omega arith; last = omega arith; length = omega arith; zero = omega arith; small = omega arith }
pipe_value false n h = record { full = omega arith; pid = omega arith; last = omega arith; length = omega arith; zero = omega arith; small = omega arith }

pipe_half : (w : ℕ) (t : Bool) (n : ℕ) → n ≤ 64 → read_buffer_control (masked w 0x400 0x400) false ≡ record { LENGTH = field 0 10 w; AVAILABLE = true; PID = bit 13 w; LAST = bit 14 w; FULL = bit 15 w }
pipe_half w t n h =
    let v = masked w 0x400 0x400 in
    let e0 = kept 0 10 w 0x400 0x400 refl refl in
    let e1 = is_one (field 10 1 v) true (covered 10 1 w 0x400 0x400 refl) in
    let e2 = same_bit (field 13 1 v) (field 13 1 w) (kept 13 1 w 0x400 0x400 refl refl) in
    let e3 = same_bit (field 14 1 v) (field 14 1 w) (kept 14 1 w 0x400 0x400 refl refl) in
    let e4 = same_bit (field 15 1 v) (field 15 1 w) (kept 15 1 w 0x400 0x400 refl refl) in
    λ i. record { LENGTH = e0 i; AVAILABLE = e1 i; PID = e2 i; LAST = e3 i; FULL = e4 i }

pipe_armed : (old : ℕ) (t : Bool) (n : ℕ) → n ≤ 64 → read_buffer_control (masked (masked old ones (0x4000 + weigh t 0x2000 + n)) 0x400 0x400) false ≡ record { LENGTH = n; AVAILABLE = true; PID = t; LAST = true; FULL = false }
pipe_armed old t n h =
    let x = 0x4000 + weigh t 0x2000 + n in
    let q = pipe_value t n h in
    let e0 = q.length in
    let e2 = is_one (field 13 1 x) t q.pid in
    let e3 = is_one (field 14 1 x) true q.last in
    let e4 = is_one (field 15 1 x) false q.full in
    ap (λ (w : ℕ). read_buffer_control (masked w 0x400 0x400) false) (all old x) ∙ pipe_half x t n h ∙ (λ i. record { LENGTH = e0 i; AVAILABLE = true; PID = e2 i; LAST = e3 i; FULL = e4 i })

self : (q : ℕ) → eqb q q ≡ true
self q = eq-eqb q q refl

pub polls : (n : ℕ) (toggle : Bool) (size old : ℕ) → size ≤ 64 → ArmsPipe n toggle size old (arm_pipe n toggle size)
polls n toggle size old h =
    let q = 0x5010_0080 + 8 * n in
    let z : eqb q 0 ≡ false = ne_eqb q 0 (λ e. omega arith) in
    record { half = rw (self q, z) (pipe_armed old toggle size h) }

pub opens : (n address : ℕ) (extras : TransferExtras) (endpoint size interval old : ℕ) → 1 ≤ n → n ≤ 15 → address ≤ 127 → endpoint ≤ 15 → size ≤ 64
    → OpensPipe n address extras endpoint size interval old (open_writes n address extras endpoint size interval)
opens n address extras endpoint size interval old l u h k p =
    let b = 0x5010_0080 + 8 * n in
    let c = 0x5010_0000 + 8 * n in
    let a = 0x5011_0000 + 4 * n in
    let ab : eqb a b ≡ false = ne_eqb a b (λ e. omega arith) in
    let ac : eqb a c ≡ false = ne_eqb a c (λ e. omega arith) in
    let a0 : eqb a 0 ≡ false = ne_eqb a 0 (λ e. omega arith) in
    let cb : eqb c b ≡ false = ne_eqb c b (λ e. omega arith) in
    let ca : eqb c a ≡ false = ne_eqb c a (λ e. omega arith) in
    let c0 : eqb c 0 ≡ false = ne_eqb c 0 (λ e. omega arith) in
    let ba : eqb b a ≡ false = ne_eqb b a (λ e. omega arith) in
    let bc : eqb b c ≡ false = ne_eqb b c (λ e. omega arith) in
    let b0 : eqb b 0 ≡ false = ne_eqb b 0 (λ e. omega arith) in
    record {
      whom = rw (self a, ac, ab, a0) (ap read_addr_endp (all old (address + endpoint * 0x1_0000 + weigh (preamble extras) 0x400_0000)) ∙ same extras);
      epc = rw (self c, ca, cb, c0) (ap read_endpoint_control (all old (0xAC00_0000 + poll_interval interval * 0x1_0000 + pipe_area n)) ∙ control);
      arms = record { half = rw (self b, ba, bc, b0) (pipe_armed old false size p) };
    }
  where
    same : (x : TransferExtras) → read_addr_endp (address + endpoint * 0x1_0000 + weigh (preamble x) 0x400_0000) ≡ record { ADDRESS = address; ENDPOINT = endpoint; INTEP_DIR = false; INTEP_PREAMBLE = behind_hub x }
    same Normal = addr_decodes address endpoint false h k
    same WithPreamble = addr_decodes address endpoint true h k

    control : read_endpoint_control (0xAC00_0000 + poll_interval interval * 0x1_0000 + pipe_area n)
        ≡ record { ENABLE = true; DOUBLE_BUFFERED = false; INTERRUPT_PER_BUFF = true; INTERRUPT_PER_DOUBLE_BUFF = false; ENDPOINT_TYPE = 3; HOST_POLL_INTERVAL = min interval 9; BUFFER_ADDRESS = 0x200 + 128 * n }
    control =
        let w = 0xAC00_0000 + min interval 9 * 0x1_0000 + (0x200 + 128 * n) in
        let e0 = is_one (field 31 1 w) true (omega arith) in
        let e1 = is_one (field 30 1 w) false (omega arith) in
        let e2 = is_one (field 29 1 w) true (omega arith) in
        let e3 = is_one (field 28 1 w) false (omega arith) in
        let e4 : field 26 2 w ≡ 3 = omega arith in
        let e5 : field 16 10 w ≡ min interval 9 = omega arith in
        let e6 : field 0 16 w ≡ 0x200 + 128 * n = omega arith in
        λ i. record { ENABLE = e0 i; DOUBLE_BUFFERED = e1 i; INTERRUPT_PER_BUFF = e2 i; INTERRUPT_PER_DOUBLE_BUFF = e3 i; ENDPOINT_TYPE = e4 i; HOST_POLL_INTERVAL = e5 i; BUFFER_ADDRESS = e6 i }
