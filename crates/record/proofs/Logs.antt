-- What each piece of a log starts, and what it leaves in ADDR_ENDP. Assumes nothing.
use mathlib.Core.Path.{◌≡◌, refl, sym, ap, ap₂, ◌∙◌}
use mathlib.Core.Bool.{Bool, true, false, cond}
use mathlib.Core.List.{List, [], ◌∷◌, ◌++◌, append_assoc, append-nil}
use Prim.Native.Nat.{ℕ, ◌+◌, ◌-◌, ◌*◌, ◌/◌, ◌%◌, ◌^◌, ◌≤◌}
use native.Mathlib.Omega.{arith}
use lib.Bits.{bit_or, and_zero_r, or_zero_l}
use lib.Dec.{eqb}
use lib.Pow.{shr-shr, shl-shr}
use borrow.Author.Tests.{ne_eqb}
use Rattle.cutting.specs.declared.packetiser.Arm.{Arm}
use Rattle.transfers.specs.declared.host_controller.TransferExtras.{TransferExtras}
use Rattle.transfers.specs.declared.host_controller.TransferExtras.TheVariants.{Normal, WithPreamble}
use Rattle.transfers.specs.declared.wire.SetupPacket.{SetupPacket}
use Rattle.transfers.specs.declared.wire.Direction.{Direction}
use Rattle.transfers.specs.declared.wire.Direction.TheVariants.{In, Out}
use Rattle.transfers.specs.declared.writes.Target.{Target}
use Rattle.transfers.specs.Log.{Write, wr, masked}
use Rattle.transfers.specs.Registers.{ones, bit, weigh}
use Rattle.record.specs.Chip.{setup_low, setup_high, ep_buffer, addr_endp, sie_ctrl, field}
use Rattle.transfers.specs.Writes.{low_word, high_word, setup_words, setup_start, head_writes, arm_value, arm_writes, enable_writes, go_writes}
use Rattle.transfers.specs.Apart.{Apart}
use Rattle.record.specs.Wire.{File, perform, performs, Event, setup_at, out_at, event_of, events, slot_event}
use Rattle.transfers.proofs.Masked.{covered, kept}

pub events_append : (f : File) (a b : List Write) → events f (a ++ b) ≡ events f a ++ events (performs f a) b
events_append f [] b = refl
events_append f (w ∷ a) b =
    ap (λ (l : List Event). event_of w (perform f w) ++ l) (events_append (perform f w) a b)
    ∙ sym (append_assoc (event_of w (perform f w)) (events (perform f w) a) (events (performs (perform f w) a) b))

pub performs_append : (f : File) (a b : List Write) → performs f (a ++ b) ≡ performs (performs f a) b
performs_append f [] b = refl
performs_append f (w ∷ a) b = performs_append (perform f w) a b

-- A write of a whole register.
whole : (old v : ℕ) → masked old ones v ≡ v
whole old v = ap (λ (n : ℕ). bit_or n v) (and_zero_r old) ∙ or_zero_l v

-- ---- a piece of a log that starts these packets and leaves ADDR_ENDP alone

pub record Starts (ws : List Write) (es : List Event) : Type 0 where
  pub are : (f : File) → events f ws ≡ es
  pub addr : (f : File) → performs f ws addr_endp ≡ f addr_endp

pub starts_append : (a b : List Write) (s t : List Event) → Starts a s → Starts b t → Starts (a ++ b) (s ++ t)
starts_append a b s t p q = record {
  are = λ f. events_append f a b ∙ ap₂ {C = List Event} ◌++◌ (p.are f) (q.are (performs f a));
  addr = λ f. ap (λ (g : File). g addr_endp) (performs_append f a b) ∙ q.addr (performs f a) ∙ p.addr f;
}

-- A piece that starts nothing.
abbrev pub Silent : List Write → Type 0
Silent ws = Starts ws []

pub silent_nil : Silent []
silent_nil = record { are = λ f. refl; addr = λ f. refl }

-- Writes to other registers.
pub silent_apart : (ws : List Write) → Apart ws → Silent ws
silent_apart [] h = silent_nil
silent_apart (wr r m v ∷ ws) h =
    let e = h.0 in
    let a : eqb r sie_ctrl ≡ false = ne_eqb r sie_ctrl e.control in
    let b : eqb r ep_buffer ≡ false = ne_eqb r ep_buffer e.buffer in
    let c : eqb addr_endp r ≡ false = ne_eqb addr_endp r (λ (q : addr_endp ≡ r). e.target (sym q)) in
    let one : Silent (wr r m v ∷ []) = record { are = λ f. rw (a, b); addr = λ f. rw c } in
    starts_append (wr r m v ∷ []) ws [] [] one (silent_apart ws h.1)

pub silent_enable : (p n : ℕ) → Silent (enable_writes p n)
unfolding enable_writes
silent_enable p n = record { are = λ f. refl; addr = λ f. refl }

-- START_TRANS without SEND_SETUP starts no SETUP; with it, it does.
starting : (old m v lo hi : ℕ) (b : Bool) → field 1 1 (ones - m) ≡ 0 → field 1 1 v ≡ weigh b 1
    → cond (bit 1 (masked (masked old m v) 1 1)) (setup_at lo hi ∷ []) [] ++ [] ≡ cond (eqb (weigh b 1) 1) (setup_at lo hi ∷ []) [] ++ []
starting old m v lo hi b c z =
    ap (λ (n : ℕ). cond (eqb n 1) (setup_at lo hi ∷ []) [] ++ []) (kept 1 1 (masked old m v) 1 1 refl refl ∙ covered 1 1 old m v c ∙ z)

pub silent_go : (d : Direction) → Silent (go_writes d)
unfolding go_writes
silent_go In = record { are = λ f. starting (f sie_ctrl) 14 8 (f setup_low) (f setup_high) false refl refl; addr = λ f. refl }
silent_go Out = record { are = λ f. starting (f sie_ctrl) 14 4 (f setup_low) (f setup_high) false refl refl; addr = λ f. refl }

-- ---- a stage's head

pub head_quiet : (f : File) (t : Target) (n : ℕ) → events f (head_writes t n) ≡ []
unfolding head_writes
head_quiet f t n = refl

pub head_addr : (f : File) (t : Target) (n : ℕ) → performs f (head_writes t n) addr_endp ≡ t.address + t.endpoint * 65536
unfolding head_writes
head_addr f t n = whole (f addr_endp) (t.address + t.endpoint * 65536)

-- ---- SETUP

pub setup_event : (f : File) (a : ℕ) (x : TransferExtras) (s : SetupPacket) → events f (setup_words s ++ setup_start a x) ≡ setup_at (low_word s) (high_word s) ∷ []
setup_event f a x s =
    by x
    ∙ ap₂ {C = List Event} (λ (lo hi : ℕ). setup_at lo hi ∷ []) (whole (f setup_low) (low_word s)) (whole (f setup_high) (high_word s))
  where
    by : (x : TransferExtras) → events f (setup_words s ++ setup_start a x) ≡ setup_at (masked (f setup_low) ones (low_word s)) (masked (f setup_high) ones (high_word s)) ∷ []
    by Normal = starting (f sie_ctrl) 0x4E 2 (masked (f setup_low) ones (low_word s)) (masked (f setup_high) ones (high_word s)) true refl refl
    by WithPreamble = starting (f sie_ctrl) 0x4E 0x42 (masked (f setup_low) ones (low_word s)) (masked (f setup_high) ones (high_word s)) true refl refl

pub setup_addr : (f : File) (a : ℕ) (x : TransferExtras) (s : SetupPacket) → performs f (setup_words s ++ setup_start a x) addr_endp ≡ a
setup_addr f a x s = whole (f addr_endp) a

-- ---- arming

pub arm_addr : (f : File) (b : Bool) (a : Arm) → performs f (arm_writes b a) addr_endp ≡ f addr_endp
unfolding arm_writes
arm_addr f b a = refl

-- The fields of the value that arms a slot.
record Fields (x f b l n : ℕ) : Type 0 where
  full : field 15 1 x ≡ f
  pid : field 13 1 x ≡ b
  last : field 14 1 x ≡ l
  length : field 0 10 x ≡ n

fields : (f b l : Bool) (n : ℕ) → n ≤ 64 → Fields (n + weigh b 0x2000 + weigh l 0x4000 + weigh f 0x8000) (weigh f 1) (weigh b 1) (weigh l 1) n
fields false true true n h = record { full = omega arith; pid = omega arith; last = omega arith; length = omega arith }
fields false true false n h = record { full = omega arith; pid = omega arith; last = omega arith; length = omega arith }
fields false false true n h = record { full = omega arith; pid = omega arith; last = omega arith; length = omega arith }
fields false false false n h = record { full = omega arith; pid = omega arith; last = omega arith; length = omega arith }
fields true true true n h = record { full = omega arith; pid = omega arith; last = omega arith; length = omega arith }
fields true true false n h = record { full = omega arith; pid = omega arith; last = omega arith; length = omega arith }
fields true false true n h = record { full = omega arith; pid = omega arith; last = omega arith; length = omega arith }
fields true false false n h = record { full = omega arith; pid = omega arith; last = omega arith; length = omega arith }

-- A value in the upper half.
upper : (k j x : ℕ) → field (16 + k) j (x * 2 ^ 16) ≡ field k j x
upper k j x = ap (λ (m : ℕ). m % 2 ^ j) (sym (shr-shr (x * 2 ^ 16) 16 k) ∙ ap (λ (m : ℕ). m / 2 ^ k) (shl-shr x 16))

-- What an AVAILABLE write starts, by the fields that it meets.
abbrev shape : Bool → ℕ → ℕ → ℕ → ℕ → List Event
shape s f b l n = cond (eqb f 1) (out_at s (eqb b 1) (eqb l 1) n ∷ []) []

shape_at : (s : Bool) {f f' b b' l l' n n' : ℕ} → f ≡ f' → b ≡ b' → l ≡ l' → n ≡ n' → shape s f b l n ≡ shape s f' b' l' n'
shape_at s p q r t = λ i. shape s (p i) (q i) (r i) (t i)

-- The register after the writes that arm slot 0, slot 1, shows the value's fields.
low_shape : (old x f b l n : ℕ) → Fields x f b l n → slot_event false 0x400 0x400 (masked (masked old 0xE3FF x) 0x400 0x400) ≡ shape false f b l n
low_shape old x f b l n q =
    let v = masked old 0xE3FF x in
    shape_at false
    (kept 15 1 v 0x400 0x400 refl refl ∙ covered 15 1 old 0xE3FF x refl ∙ q.full)
    (kept 13 1 v 0x400 0x400 refl refl ∙ covered 13 1 old 0xE3FF x refl ∙ q.pid)
    (kept 14 1 v 0x400 0x400 refl refl ∙ covered 14 1 old 0xE3FF x refl ∙ q.last)
    (kept 0 10 v 0x400 0x400 refl refl ∙ covered 0 10 old 0xE3FF x refl ∙ q.length)

high_shape : (old x f b l n : ℕ) → Fields x f b l n
    → slot_event true 0x400_0000 0x400_0000 (masked (masked old 0xE3FF_0000 (x * 65536)) 0x400_0000 0x400_0000) ≡ shape true f b l n
high_shape old x f b l n q =
    let y = x * 65536 in
    let v = masked old 0xE3FF_0000 y in
    shape_at true
    (kept 31 1 v 0x400_0000 0x400_0000 refl refl ∙ covered 31 1 old 0xE3FF_0000 y refl ∙ upper 15 1 x ∙ q.full)
    (kept 29 1 v 0x400_0000 0x400_0000 refl refl ∙ covered 29 1 old 0xE3FF_0000 y refl ∙ upper 13 1 x ∙ q.pid)
    (kept 30 1 v 0x400_0000 0x400_0000 refl refl ∙ covered 30 1 old 0xE3FF_0000 y refl ∙ upper 14 1 x ∙ q.last)
    (kept 16 10 v 0x400_0000 0x400_0000 refl refl ∙ covered 16 10 old 0xE3FF_0000 y refl ∙ upper 0 10 x ∙ q.length)

-- The first write starts nothing, the second what the fields say.
arm_shape : (f : File) (b : Bool) (a : Arm) → a.length ≤ 64 → events f (arm_writes b a) ≡ shape a.slot (weigh b 1) (weigh a.pid 1) (weigh a.last 1) a.length
unfolding arm_writes
arm_shape f b a h = by a.slot
  where
    at_slot : Bool → Arm
    at_slot s = record { slot = s; pid = a.pid; last = a.last; length = a.length }

    by : (s : Bool) → events f (arm_writes b (at_slot s)) ≡ shape s (weigh b 1) (weigh a.pid 1) (weigh a.last 1) a.length
    by false =
        let q = fields b a.pid a.last a.length h in
        let es = slot_event false 0x400 0x400 (masked (masked (f ep_buffer) 0xE3FF (arm_value b a)) 0x400 0x400) in
        append-nil (es ++ []) ∙ append-nil es ∙ low_shape (f ep_buffer) (arm_value b a) (weigh b 1) (weigh a.pid 1) (weigh a.last 1) a.length q
    by true =
        let q = fields b a.pid a.last a.length h in
        let es = slot_event true 0x400_0000 0x400_0000 (masked (masked (f ep_buffer) 0xE3FF_0000 (arm_value b a * 65536)) 0x400_0000 0x400_0000) in
        append-nil es ∙ high_shape (f ep_buffer) (arm_value b a) (weigh b 1) (weigh a.pid 1) (weigh a.last 1) a.length q

weigh_back : (b : Bool) → eqb (weigh b 1) 1 ≡ b
weigh_back true = refl
weigh_back false = refl

pub arm_out : (f : File) (a : Arm) → a.length ≤ 64 → events f (arm_writes true a) ≡ out_at a.slot a.pid a.last a.length ∷ []
arm_out f a h =
    arm_shape f true a h
    ∙ ap₂ {C = List Event} (λ (x y : Bool). out_at a.slot x y a.length ∷ []) (weigh_back a.pid) (weigh_back a.last)

pub arm_in : (f : File) (a : Arm) → a.length ≤ 64 → events f (arm_writes false a) ≡ []
arm_in f a h = arm_shape f false a h
