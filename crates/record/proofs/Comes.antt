-- Term 3, from a record of the grammar to calls. Assumes nothing.
use mathlib.Core.Path.{◌≡◌, refl, sym, ap, ap₂, ◌∙◌}
use mathlib.Core.Logic.{inl, inr}
use mathlib.Core.Bool.{Bool, true, false, not}
use mathlib.Core.List.{List, [], ◌∷◌, ◌++◌, map}
use Prim.Native.Nat.{ℕ, zero, suc, ◌+◌, ◌*◌, ◌/◌, ◌%◌, ◌≤◌, ◌<◌}
use native.Mathlib.Omega.{arith}
use lib.ListN.{length, length-append, replicate, length-replicate}
use lib.Seq.{take_at, drop_at, take_all}
use borrow.Author.Tests.{lt-ltb, le-ltb, le-leb, lt-leb}
use Rattle.cutting.specs.declared.transfer_type.TransferType.{TransferType}
use Rattle.cutting.specs.declared.transfer_type.TransferType.TheVariants.{FixedSize, VariableSize}
use Rattle.cutting.specs.Cut.{out_cut}
use Rattle.cutting.proofs.Lengths.{more}
use Rattle.transfers.specs.declared.driver.DeskRule.{DeskRule}
use Rattle.transfers.specs.declared.host_controller.DataPhase.TheVariants.{In as phase_in, Out as phase_out, None as phase_none}
use Rattle.transfers.specs.declared.host_controller.TransferExtras.TheVariants.{Normal}
use Rattle.transfers.specs.declared.wire.SetupPacket.{SetupPacket}
use Rattle.transfers.specs.declared.wire.Direction.TheVariants.{Out}
use Rattle.transfers.specs.Memory.{lent_fits}
use Rattle.record.specs.Grammar.{Four, four, w_length_in, Bytes, FourBytes, Entry, setup, out, group, group_bytes, AllOf, Sent, Part, part_entries, Fits, AllFit, SentFits, parts_entries, PlainReading, Sizes, bulk_part, control_part, no_group, one_group}
use Rattle.record.specs.Wire.{File}
use Rattle.transfers.specs.Driver.{fresh}
use Rattle.record.specs.Calls.{control_begin, bulk_begin, Call}
use Rattle.record.specs.Armed.{setup_entry}
use Rattle.record.specs.Asked.{AllTyped, Words, TypedSetup, Begun, out_entry, armed_by}
use Rattle.record.specs.Fates.{begun_from}
use Rattle.record.specs.Told.{no_transfer, not_armed}
use Rattle.record.specs.Shown.{shown_from}
use Rattle.record.proofs.Unbroken.{entries_from, UnbrokenFrom}
use Rattle.record.proofs.Cuts.{cut_at, cut_is, cut_more, cut_last}
use Rattle.record.proofs.Begins.{Checked}
use Rattle.record.proofs.Parts.{armed_by_all}
use Rattle.record.proofs.Forward.{record_of_begun}
use Rattle.record.proofs.Exists.{Free, Running, run_bulk, run_none, run_in, run_out}

-- ---- a group is a cutting

bytes_longer : (xs : List (List ℕ)) (l : List ℕ) → length l ≤ length (group_bytes xs l)
bytes_longer [] l = omega arith
bytes_longer (x ∷ xs) l = omega (arith, bytes_longer xs l, length-append x (group_bytes xs l))

module _ (t : TransferType) (p : ℕ) (l : List ℕ) (pos : 1 ≤ p) (stops : more t p (length l) ≡ false) (goes : (k : ℕ) → length l ≤ k → more t p (p + k) ≡ true) (a e : ℕ) where
  group_at : (xs : List (List ℕ)) (s b : Bool) → AllOf p xs → map (out_entry a e) (cut_at t p s b (group_bytes xs l)) ≡ group a e b xs l
  group_at [] s b f = ap (map (out_entry a e)) (cut_last t p s b l pos stops)
  group_at (x ∷ xs) s b f =
      let r = group_bytes xs l in
      let q : length (x ++ r) ≡ p + length r = length-append x r ∙ ap (λ (k : ℕ). k + length r) f.0 in
      let g : more t p (length (x ++ r)) ≡ true = ap (more t p) q ∙ goes (length r) (bytes_longer xs l) in
      ap (map (out_entry a e)) (cut_more t p s b (x ++ r) pos g)
      ∙ ap₂ {C = List Entry} (λ (u : List ℕ) (v : List Entry). out a e b false u ∷ v) (take_at x r p f.0)
      (ap (λ (u : List ℕ). map (out_entry a e) (cut_at t p (not s) (not b) u)) (drop_at x r p f.0) ∙ group_at xs (not s) (not b) f.1)

  group_cut : (xs : List (List ℕ)) (b : Bool) → AllOf p xs → map (out_entry a e) (out_cut t p b (group_bytes xs l)) ≡ group a e b xs l
  group_cut xs b f = ap (map (out_entry a e)) (cut_is t p b (group_bytes xs l)) ∙ group_at xs false b f

-- ---- a SETUP with given bytes

abbrev setup_of : Four → Four → SetupPacket
setup_of (four a b c d) (four e f g h) = record { bmRequestType = a; bRequest = b; wValue = c + d * 256; wIndex = e + f * 256; wLength = g + h * 256 }

setup_typed : (lo hi : Four) → FourBytes lo → FourBytes hi → TypedSetup (setup_of lo hi)
setup_typed (four a b c d) (four e f g h) p q = (p.0, p.1, omega arith, omega arith, omega arith)

two_back : (c d : ℕ) → c < 256 → ((c + d * 256) % 256 ≡ c) × ((c + d * 256) / 256 ≡ d)
two_back c d h = (omega arith, omega arith)

setup_back : (x : ℕ) (lo hi : Four) → FourBytes lo → FourBytes hi → setup_entry x (setup_of lo hi) ≡ setup x lo hi
setup_back x (four a b c d) (four e f g h) p q =
    let u = two_back c d p.2 in
    let v = two_back e f q.0 in
    let w = two_back g h q.2 in
    λ i. setup x (four a b (u.0 i) (u.1 i)) (four (v.0 i) (v.1 i) (w.0 i) (w.1 i))

length_of : (lo hi : Four) → (setup_of lo hi).wLength ≡ w_length_in hi
length_of (four a b c d) (four e f g h) = refl

-- ---- lists of zeros

pub zeros : (n : ℕ) → Bytes (replicate n 0)
zeros zero = tt
zeros (suc n) = (omega arith, zeros n)

pub zero_words : (n : ℕ) → Words (replicate n 0)
zero_words zero = tt
zero_words (suc n) = (omega arith, zero_words n)

-- ---- the transfer of a part: its entries are the part's, and there is a run of it in front of any list

pub record Choice (q : Part) : Type 0 where
  pub begun : Begun
  pub entries_are : armed_by begun ≡ part_entries q
  pub run : (later : List Call) (gs : List Begun) → Free later gs → Running begun gs

module _ (m log : List ℕ) (fits : lent_fits m log ≡ true) (mb : Bytes m) (lw : Words log) where
  choose_bulk : (a e : ℕ) (b : Bool) (xs : List (List ℕ)) (l : List ℕ) → Fits (bulk_part a e b xs l) → Choice (bulk_part a e b xs l)
  choose_bulk a e b xs [] h =
      let z = h.3 in
      let p = z.p in
      let buf = group_bytes xs [] in
      let ck : Checked (bulk_begin Out a e p VariableSize b) buf = record { addr = h.0; low = z.low; high = z.high; kind = (h.1, h.2, z.total) } in
      record {
        begun = record { fields = bulk_begin Out a e p VariableSize b; buffer = buf };
        entries_are = group_cut VariableSize p [] z.low (lt-leb p 0 z.low) (λ k u. le-leb p (p + k) (omega arith)) a e xs b z.full;
        run = λ later gs free. run_bulk m log fits mb lw later gs free a e p VariableSize b buf z.are ck;
      }
  choose_bulk a e b xs (y ∷ l) h =
      let z = h.3 in
      let p = z.p in
      let buf = group_bytes xs (y ∷ l) in
      let ck : Checked (bulk_begin Out a e p FixedSize b) buf = record { addr = h.0; low = z.low; high = z.high; kind = (h.1, h.2, z.total) } in
      record {
        begun = record { fields = bulk_begin Out a e p FixedSize b; buffer = buf };
        entries_are = group_cut FixedSize p (y ∷ l) z.low (le-ltb p (length (y ∷ l)) z.short) (λ k u. lt-ltb p (p + k) (omega arith)) a e xs b z.full;
        run = λ later gs free. run_bulk m log fits mb lw later gs free a e p FixedSize b buf z.are ck;
      }

  module _ (a : ℕ) (lo hi : Four) (ha : a ≤ 127) (bl : FourBytes lo) (bh : FourBytes hi) where
    choose_none : Choice (control_part a lo hi no_group)
    choose_none =
        let s = setup_of lo hi in
        let ck : Checked (control_begin a Normal 64 s phase_none) [] = record { addr = ha; low = omega arith; high = omega arith; kind = setup_typed lo hi bl bh } in
        record {
          begun = record { fields = control_begin a Normal 64 s phase_none; buffer = [] };
          entries_are = ap (λ (x : Entry). x ∷ []) (setup_back a lo hi bl bh);
          run = λ later gs free. run_none m log fits mb lw later gs free a Normal 64 s [] tt ck;
        }

    -- One empty packet: a control In's status.
    choose_empty : (xs : List (List ℕ)) (l : List ℕ) → xs ≡ [] → l ≡ [] → Choice (control_part a lo hi (one_group xs l))
    choose_empty xs l qx ql =
        let s = setup_of lo hi in
        let n = s.wLength in
        let buf : List ℕ = replicate n 0 in
        let ck : Checked (control_begin a Normal 64 s phase_in) buf = record { addr = ha; low = omega arith; high = omega arith; kind = setup_typed lo hi bl bh } in
        record {
          begun = record { fields = control_begin a Normal 64 s phase_in; buffer = buf };
          entries_are =
              ap (λ (r : List Entry). setup_entry a s ∷ r) (ap (map (out_entry a 0)) (cut_is FixedSize 64 true [] ∙ cut_last FixedSize 64 false true [] (omega arith) refl))
              ∙ ap (λ (x : Entry). x ∷ group a 0 true [] []) (setup_back a lo hi bl bh)
              ∙ sym (ap₂ {C = List Entry} (λ (u : List (List ℕ)) (v : List ℕ). setup a lo hi ∷ group a 0 true u v) qx ql);
          run = λ later gs free. run_in m log fits mb lw later gs free a Normal 64 s buf (zeros n) ck (let e = length-replicate {A = ℕ} n 0 in omega arith);
        }

    choose_out : (xs : List (List ℕ)) (l : List ℕ) (z : Sizes xs l) → length (group_bytes xs l) ≡ w_length_in hi → 1 ≤ length l → Choice (control_part a lo hi (one_group xs l))
    choose_out xs l z q ne =
        let s = setup_of lo hi in
        let p = z.p in
        let buf = group_bytes xs l in
        let ck : Checked (control_begin a Normal p s phase_out) buf = record { addr = ha; low = z.low; high = z.high; kind = setup_typed lo hi bl bh } in
        let e : length buf ≡ s.wLength = q ∙ sym (length_of lo hi) in
        record {
          begun = record { fields = control_begin a Normal p s phase_out; buffer = buf };
          entries_are =
              ap (λ (r : List ℕ). setup_entry a s ∷ map (out_entry a 0) (out_cut FixedSize p true r)) (take_all s.wLength buf (omega arith))
              ∙ ap₂ {C = List Entry} (λ (x : Entry) (r : List Entry). x ∷ r) (setup_back a lo hi bl bh)
              (group_cut FixedSize p l z.low (le-ltb p (length l) z.short) (λ k u. lt-ltb p (p + k) (omega arith)) a 0 xs true z.full);
          run = λ later gs free. run_out m log fits mb lw later gs free a Normal p s buf z.are ck (omega arith);
        }

  choose_sent : (a : ℕ) (lo hi : Four) (s : Sent) → a ≤ 127 → FourBytes lo → FourBytes hi → SentFits hi s → Choice (control_part a lo hi s)
  choose_sent a lo hi no_group h bl bh f = choose_none a lo hi h bl bh
  choose_sent a lo hi (one_group xs l) h bl bh (inl q) = choose_empty a lo hi h bl bh xs l q.0 q.1
  choose_sent a lo hi (one_group xs l) h bl bh (inr q) = choose_out a lo hi h bl bh xs l q.0 (omega (arith, q.1)) q.2

  choose : (q : Part) → Fits q → Choice q
  choose (bulk_part a e b xs l) h = choose_bulk a e b xs l h
  choose (control_part a lo hi s) h = choose_sent a lo hi s h.0 h.1 h.2 h.3

  -- ---- a list for a list of parts

  record Found (qs : List Part) : Type 0 where
    calls : List Call
    begun : List Begun
    free : Free calls begun
    is : armed_by_all begun ≡ parts_entries qs

  find : (qs : List Part) → AllFit qs → Found qs
  unfolding begun_from UnbrokenFrom shown_from
  find [] h = record { calls = []; begun = []; free = record { typed = tt; premises = λ n w f d r. refl; begun = λ d r. refl }; is = refl }
  find (q ∷ qs) h =
      let r = find qs h.1 in
      let c = choose q h.0 in
      let n = c.run r.calls r.begun r.free in
      record { calls = n.calls; begun = c.begun ∷ r.begun; free = n.free; is = ap₂ {C = List Entry} ◌++◌ c.entries_are r.is }

-- Packet memory and a log for the runs: any that are long enough.
memory : List ℕ
memory = replicate 4096 0

log : List ℕ
log = replicate 192 0

lent_enough : lent_fits memory log ≡ true
unfolding memory log
lent_enough = refl

memory_bytes : Bytes memory
unfolding memory
memory_bytes = zeros 4096

log_words : Words log
unfolding log
log_words = zero_words 192

-- A list of calls in which no transfer fails and that has given entries.
pub record CallsFor (rule : DeskRule) (f : File) (r : List Entry) : Type 0 where
  pub calls : List Call
  pub typed : AllTyped calls
  pub premises : UnbrokenFrom no_transfer 0 not_armed f (fresh rule) calls
  pub is : entries_from f (fresh rule) calls ≡ r

pub calls_for : (rule : DeskRule) (f : File) (r : List Entry) → PlainReading r → CallsFor rule f r
calls_for rule f r h =
    let k = find memory log lent_enough memory_bytes log_words h.parts h.fit in
    let p = k.free.premises 0 not_armed f (fresh rule) refl in
    record {
      calls = k.calls;
      typed = k.free.typed;
      premises = p;
      is = record_of_begun k.calls 0 not_armed f (fresh rule) refl k.free.typed p ∙ ap armed_by_all (k.free.begun (fresh rule) refl) ∙ k.is ∙ h.is;
    }
