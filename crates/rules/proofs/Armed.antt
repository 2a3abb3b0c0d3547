-- Which slots a log arms. Assumes nothing.
use mathlib.Core.Path.{◌≡◌, refl, sym, ap, ap₂, ◌∙◌}
use mathlib.Core.Bool.{Bool, true, false, cond}
use mathlib.Core.List.{List, [], ◌∷◌, ◌++◌, append_assoc, append-nil}
use Prim.Native.Nat.{ℕ, ◌≤◌}
use lib.Dec.{eqb}
use Rattle.cutting.specs.declared.packetiser.Arm.{Arm}
use Rattle.cutting.specs.Cut.{packet}
use Rattle.transfers.specs.declared.host_controller.TransferExtras.{TransferExtras}
use Rattle.transfers.specs.declared.wire.SetupPacket.{SetupPacket}
use Rattle.transfers.specs.declared.wire.Direction.{Direction}
use Rattle.transfers.specs.declared.writes.Target.{Target}
use Rattle.transfers.specs.Log.{Write, wr, delay, masked}
use Rattle.transfers.specs.Registers.{half}
use Rattle.transfers.specs.Sample.{available}
use Rattle.transfers.specs.Writes.{setup_words, setup_start, head_writes, arm_value, arm_writes, enable_writes, go_writes, polled, awaits, quiets, completes}
use Rattle.rules.specs.Fields.{word_after, BufferControl, read_buffer_control}
use Rattle.rules.specs.Armed.{ArmedSlot, arms_both, armings, shown}
use Rattle.rules.proofs.Datasheet.{value, armed, own_half}

-- AVAILABLE as the driver reads it.
pub same_available : (w : ℕ) (s : Bool) → available w s ≡ (read_buffer_control w s).AVAILABLE
same_available w false = refl
same_available w true = refl

pub armings_append : (a b : List Write) (old : ℕ) → armings old (a ++ b) ≡ armings old a ++ armings (word_after 0x5010_0080 old a) b
unfolding armings
armings_append [] b old = refl
armings_append (wr r m v ∷ a) b old =
    let f = arms_both (eqb 0x5010_0080 r) m v (masked old m v) in
    let w = cond (eqb 0x5010_0080 r) (masked old m v) old in
    ap (λ (l : List ArmedSlot). f ++ l) (armings_append a b w) ∙ sym (append_assoc f (armings w a) (armings (word_after 0x5010_0080 w a) b))

pub arms_bare : (old x : ℕ) (s : Bool) → armings old (wr 0x5010_0080 (half s 0xE3FF) (half s x) ∷ delay ∷ wr 0x5010_0080 (half s 0x400) (half s 0x400) ∷ []) ≡ record { slot = s; shows = read_buffer_control (armed old s x) s } ∷ []
unfolding armings
arms_bare old x false = refl
arms_bare old x true = refl

-- Arming a slot.
pub arms_shown : (full : Bool) (a : Arm) (old : ℕ) → a.length ≤ 64 → armings old (arm_writes full a) ≡ shown full (packet a.slot a.pid a.last a.length) ∷ []
unfolding arm_writes
arms_shown full a old h =
    arms_bare old (arm_value full a) a.slot
    ∙ ap (λ (c : BufferControl). record { slot = a.slot; shows = c } ∷ []) (own_half old a.slot full a.pid a.last a.length (arm_value full a) (value full a.pid a.last a.length h))

-- Blocks that arm nothing.
pub head_silent : (t : Target) (n old : ℕ) → armings old (head_writes t n) ≡ []
unfolding armings head_writes
head_silent t n old = refl

pub enable_silent : (p n old : ℕ) → armings old (enable_writes p n) ≡ []
unfolding armings enable_writes
enable_silent p n old = refl

pub go_silent : (d : Direction) (old : ℕ) → armings old (go_writes d) ≡ []
unfolding armings go_writes
go_silent d old = refl

pub setup_silent : (s : SetupPacket) (a : ℕ) (x : TransferExtras) (old : ℕ) → armings old (setup_words s ++ setup_start a x) ≡ []
unfolding armings
setup_silent s a x old = refl

pub polled_silent : (old : ℕ) (ws : List Write) → armings old ((polled ∷ []) ++ ws) ≡ armings old ws
unfolding armings
polled_silent old ws = refl

pub quiets_silent : (old : ℕ) (ws : List Write) → armings old (quiets ++ ws) ≡ armings old ws
unfolding armings
quiets_silent old ws = refl

pub completes_silent : (old : ℕ) (ws : List Write) → armings old ((completes ∷ []) ++ ws) ≡ armings old ws
unfolding armings
completes_silent old ws = refl

pub pending_silent : (old : ℕ) → armings old (polled ∷ awaits ∷ []) ≡ []
unfolding armings
pending_silent old = refl

pub none_armed : (old : ℕ) → armings old [] ≡ []
unfolding armings
none_armed old = refl

-- A stage's start arms what its packets' writes arm.
pub start_armings : (t : Target) (n : ℕ) (d : Direction) (ws : List Write) (old : ℕ) (got : List ArmedSlot) → ((w : ℕ) → armings w ws ≡ got) → armings old (head_writes t n ++ (ws ++ (enable_writes t.size n ++ go_writes d))) ≡ got
start_armings t n d ws old got h =
    let hd = head_writes t n in
    let en = enable_writes t.size n in
    let w = word_after 0x5010_0080 old hd in
    let v = word_after 0x5010_0080 w ws in
    armings_append hd (ws ++ (en ++ go_writes d)) old
    ∙ ap₂ {C = List ArmedSlot} ◌++◌ (head_silent t n old) (armings_append ws (en ++ go_writes d) w
    ∙ ap₂ {C = List ArmedSlot} ◌++◌ (h w) (armings_append en (go_writes d) v ∙ ap₂ {C = List ArmedSlot} ◌++◌ (enable_silent t.size n v) (go_silent d (word_after 0x5010_0080 v en))) ∙ append-nil got)
