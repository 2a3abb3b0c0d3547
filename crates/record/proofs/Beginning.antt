-- A begin keeps the invariant: its transfer's entries become due. Assumes nothing.
use Rattle.std.specs.Prelude.{Err, None, Ok, Option, Result, Some}
use mathlib.Core.Path.{◌≡◌, refl, sym, ap, ◌∙◌, subst}
use mathlib.Core.Bool.{Bool, true, false, true≢false}
use mathlib.Core.List.{List, [], ◌++◌, append-nil}
use Prim.Native.Nat.{ℕ}
use native.Mathlib.Omega.{arith}
use lib.ListN.{length}
use lib.Dec.{leb}
use borrow.Author.Tests.{leb-true}
use Rattle.cutting.specs.declared.transfer_type.TransferType.{TransferType}
use Rattle.cutting.specs.Cut.{out_cut}
use Rattle.cutting.proofs.Cutting.{out_ends}
use Rattle.transfers.specs.declared.host_controller.DataPhase.{DataPhase}
use Rattle.transfers.specs.declared.host_controller.TransferExtras.{TransferExtras}
use Rattle.transfers.specs.declared.wire.SetupPacket.{SetupPacket}
use Rattle.transfers.specs.declared.wire.Direction.{Direction}
use Rattle.transfers.specs.declared.wire.Direction.TheVariants.{In, Out}
use Rattle.transfers.specs.declared.refusal.Refusal.{Refusal}
use Rattle.transfers.specs.declared.driver.Driver.{Driver}
use Rattle.transfers.specs.Memory.{lent_fits}
use Rattle.transfers.specs.State.{target_of, address_good, endpoint_good, size_good}
use Rattle.transfers.specs.Outcome.{start_in, start_out}
use Rattle.transfers.specs.Calls.{Beginning, fields_refusal, begin_refusal, begin_or, is_idle, begins_control, begin_control_of, bulk_request, begins_bulk_in, begins_bulk_out, begin_bulk_in_of, begin_bulk_out_of}
use Rattle.transfers.proofs.OpenPipes.{between, lent_sizes}
use Rattle.record.specs.Grammar.{Entry}
use Rattle.record.specs.Wire.{File}
use Rattle.record.specs.Calls.{Begin, control_begin, bulk_begin, begin, beginning, begins}
use Rattle.record.specs.Asked.{TypedSetup, TypedBegin, armed_by}
use Rattle.record.specs.Told.{Live, no_transfer, live, Watch}
use Rattle.record.proofs.Logs.{silent_nil}
use Rattle.record.proofs.Cuts.{all_cut}
use Rattle.record.proofs.Begins.{Checked}
use Rattle.record.proofs.Inv.{entries_of, due_setup, Inv, Kept, same_due}
use Rattle.record.proofs.Starting.{start_out_lem, start_in_lem, setup_wire}
use Rattle.transfers.specs.declared.driver.Run.{Run}

-- ---- the checks

-- The refusal of a begin, if any.
abbrev pub control_refusal : Option Run → ℕ → ℕ → List ℕ → List ℕ → Result (Unit {0}) Refusal
control_refusal t a p m log = begin_refusal (lent_fits m log) (is_idle t) (fields_refusal (address_good a) true (size_good p) true)

abbrev pub bulk_refusal : Option Run → ℕ → ℕ → ℕ → List ℕ → List ℕ → List ℕ → Result (Unit {0}) Refusal
bulk_refusal t a e p buf m log = begin_refusal (lent_fits m log) (is_idle t) (fields_refusal (address_good a) (endpoint_good e) (size_good p) (leb (length buf) 0xFFFF))

-- Nothing is refused.
pub record Passed (fits idle a e p n : Bool) : Type 0 where
  pub lent : fits ≡ true
  pub free : idle ≡ true
  pub address : a ≡ true
  pub endpoint : e ≡ true
  pub size : p ≡ true
  pub room : n ≡ true

none_some : {A : Type 0} (why : Refusal) → ◌≡◌ {A = Result (Unit {0}) Refusal} (Err why) (Ok tt) → A
none_some why q = absurd (let z : ◌≡◌ {A = ℕ} 0 1 = cc in omega arith)

pub passed : (fits idle a e p n : Bool) → begin_refusal fits idle (fields_refusal a e p n) ≡ Ok tt → Passed fits idle a e p n
passed true true true true true true q = record { lent = refl; free = refl; address = refl; endpoint = refl; size = refl; room = refl }
passed false idle a e p n q = none_some _ q
passed true false a e p n q = none_some _ q
passed true true false e p n q = none_some _ q
passed true true true false p n q = none_some _ q
passed true true true true false n q = none_some _ q
passed true true true true true false q = none_some _ q

idle_inv : (l : Live) (n : ℕ) (w : Watch) (f : File) (t : Option Run) (rest : List Entry) → is_idle t ≡ true → Inv l n w f t rest → (l ≡ no_transfer) × (rest ≡ [])
idle_inv no_transfer n w f None rest e i = (refl, i)
idle_inv no_transfer n w f (Some r) rest e i = absurd i
idle_inv (live x buf) n w f None rest e i = absurd i
idle_inv (live x buf) n w f (Some r) rest e i = absurd (true≢false (sym e))

pub checked_control : (a : ℕ) (z : TransferExtras) (p : ℕ) (s : SetupPacket) (ph : DataPhase) (buf : List ℕ) → address_good a ≡ true → size_good p ≡ true → TypedSetup s
    → Checked (control_begin a z p s ph) buf
checked_control a z p s ph buf qa qp ty = let k = between 1 p 64 qp in record { addr = leb-true a 127 qa; low = k.0; high = k.1; kind = ty }

pub checked_bulk : (d : Direction) (a e p : ℕ) (t : TransferType) (b : Bool) (buf : List ℕ) → address_good a ≡ true → endpoint_good e ≡ true → size_good p ≡ true
    → leb (length buf) 0xFFFF ≡ true
    → Checked (bulk_begin d a e p t b) buf
checked_bulk d a e p t b buf qa qe qp qn =
    let k = between 1 p 64 qp in
    let j = between 1 e 15 qe in
    record { addr = leb-true a 127 qa; low = k.0; high = k.1; kind = (j.0, j.1, leb-true (length buf) 0xFFFF qn) }

module _ (d : Driver) (n : ℕ) (w : Watch) (f : File) (buf m log : List ℕ) where
  -- ---- refused

  begin_or_lem : (x : Begin) (l : Live) (t : Option Run) (rest : List Entry) (r : Result (Unit {0}) Refusal) (o : Beginning) → Inv l n w f t rest
      → (r ≡ Ok tt → Kept l n w f rest (begin x buf m log) (begins d x buf m log o)) → Kept l n w f rest (begin x buf m log) (begins d x buf m log (begin_or r t m o))
  begin_or_lem x l t rest (Err why) o i h = record { rest' = rest; inv = i; split = same_due f [] m rest refl; room = λ q r. r }
  begin_or_lem x l t rest (Ok tt) o i h = h refl

  -- ---- accepted: nothing was due

  from_idle : (x : Begin) (l : Live) (t : Option Run) (rest : List Entry) (o : Beginning) → is_idle t ≡ true → Inv l n w f t rest
      → Kept no_transfer n w f [] (begin x buf m log) (begins d x buf m log o) → Kept l n w f rest (begin x buf m log) (begins d x buf m log o)
  from_idle x l t rest o e i k =
      let j = idle_inv l n w f t rest e i in
      subst (λ (v : Live). Kept v n w f rest (begin x buf m log) (begins d x buf m log o)) (sym j.0)
      (subst (λ (v : List Entry). Kept no_transfer n w f v (begin x buf m log) (begins d x buf m log o)) (sym j.1) k)

  begins_control_lem : (a : ℕ) (z : TransferExtras) (p : ℕ) (s : SetupPacket) (ph : DataPhase) → Checked (control_begin a z p s ph) buf
      → Kept no_transfer n w f [] (begin (control_begin a z p s ph) buf m log) (begins d (control_begin a z p s ph) buf m log (begins_control a z p s ph (length buf) m))
  begins_control_lem a z p s ph ck =
      let x = control_begin a z p s ph in
      record {
        rest' = due_setup x buf;
        inv = record { same = refl; checked = ck; stage = (tt, refl, refl) };
        split = append-nil (armed_by (record { fields = x; buffer = buf })) ∙ ap (λ (r : List Entry). r ++ due_setup x buf) (sym (setup_wire f a z s m ck.addr ck.kind));
        room = λ q r. tt;
      }

  begins_in : (a e p : ℕ) (t : TransferType) (b : Bool) → Checked (bulk_begin In a e p t b) buf
      → Kept no_transfer n w f [] (begin (bulk_begin In a e p t b) buf m log) (begins d (bulk_begin In a e p t b) buf m log (begins_bulk_in (bulk_request In a e p b (length buf)) t m))
  unfolding start_in
  begins_in a e p t b ck =
      let X = bulk_request In a e p b (length buf) in
      let ws = (start_in (target_of X) t false (length buf)).writes in
      record {
        rest' = [];
        inv = record { same = refl; checked = ck; stage = (tt, refl) };
        split = same_due f ws m [] (start_in_lem [] X t false (length buf) f silent_nil);
        room = λ q r. tt;
      }

  begins_out : (a e p : ℕ) (t : TransferType) (b : Bool) → Checked (bulk_begin Out a e p t b) buf → length m ≡ 4096
      → Kept no_transfer n w f [] (begin (bulk_begin Out a e p t b) buf m log) (begins d (bulk_begin Out a e p t b) buf m log (begins_bulk_out (bulk_request Out a e p b (length buf)) e t buf m))
  unfolding start_out
  begins_out a e p t b ck full =
      let x = bulk_begin Out a e p t b in
      let ks = out_cut t p b buf in
      let left = all_cut t p b buf ck.low ck.high ck.kind.2 in
      let r = start_out_lem [] x buf t false 0 (length buf) buf m f ks silent_nil ck refl full left (out_ends t p b buf) in
      record {
        rest' = entries_of x r.rest;
        inv = record { same = refl; checked = ck; stage = (refl, r.sending) };
        split = append-nil (entries_of x ks) ∙ r.split;
        room = λ q v. tt;
      }

  pub begin_kept : (x : Begin) (l : Live) (t : Option Run) (rest : List Entry) → TypedBegin x → Inv l n w f t rest
      → Kept l n w f rest (begin x buf m log) (begins d x buf m log (beginning t x buf m log))
  unfolding begin_control_of begin_bulk_in_of begin_bulk_out_of
  begin_kept (control_begin a z p s ph) l t rest ty i =
      let x = control_begin a z p s ph in
      let o = begins_control a z p s ph (length buf) m in
      begin_or_lem x l t rest (control_refusal t a p m log) o i
      (λ q.
      let k = passed (lent_fits m log) (is_idle t) (address_good a) true (size_good p) true q in
      from_idle x l t rest o k.free i (begins_control_lem a z p s ph (checked_control a z p s ph buf k.address k.size ty.2)))
  begin_kept (bulk_begin In a e p k b) l t rest ty i =
      let x = bulk_begin In a e p k b in
      let o = begins_bulk_in (bulk_request In a e p b (length buf)) k m in
      begin_or_lem x l t rest (bulk_refusal t a e p buf m log) o i
      (λ q.
      let j = passed (lent_fits m log) (is_idle t) (address_good a) (endpoint_good e) (size_good p) (leb (length buf) 0xFFFF) q in
      from_idle x l t rest o j.free i (begins_in a e p k b (checked_bulk In a e p k b buf j.address j.endpoint j.size j.room)))
  begin_kept (bulk_begin Out a e p k b) l t rest ty i =
      let x = bulk_begin Out a e p k b in
      let o = begins_bulk_out (bulk_request Out a e p b (length buf)) e k buf m in
      begin_or_lem x l t rest (bulk_refusal t a e p buf m log) o i
      (λ q.
      let j = passed (lent_fits m log) (is_idle t) (address_good a) (endpoint_good e) (size_good p) (leb (length buf) 0xFFFF) q in
      from_idle x l t rest o j.free i (begins_out a e p k b (checked_bulk Out a e p k b buf j.address j.endpoint j.size j.room) (lent_sizes m log j.lent).0))
