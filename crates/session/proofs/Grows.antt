-- What grows twice grows.
use Rattle.std.specs.Prelude.{List, ℕ, Option, ◌++◌, [], Result, Ok, Err, OnOk}
use Rattle.std.specs.Io.KnownBytes.{Appends}
use Rattle.std.proofs.KnownBytes.{Appends-nil, Appends-trans}
use Rattle.session.specs.Prints.{Grows}

pub grows_by : (a b : Option (List ℕ)) (bs : List ℕ) → Appends a b bs → Grows a b
grows_by a b bs p = record { bytes = bs; appended = p }

pub grows_refl : (a : Option (List ℕ)) → Grows a a
grows_refl a = grows_by a a [] (Appends-nil a)

pub grows_trans : (a b c : Option (List ℕ)) → Grows a b → Grows b c → Grows a c
grows_trans a b c p q = grows_by a c (p.bytes ++ q.bytes) (Appends-trans a b c p.bytes q.bytes p.appended q.appended)

pub grows_on_ok : {T E : Type 0} (r : Result T E) (a b c : Option (List ℕ)) → Grows a b → OnOk r (Grows b c) → OnOk r (Grows a c)
grows_on_ok (Ok x) a b c p q = grows_trans a b c p q
grows_on_ok (Err e) a b c p q = tt
