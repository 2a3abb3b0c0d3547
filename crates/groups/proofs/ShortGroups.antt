-- `ShortGroups`, proved. Assumes nothing.
use mathlib.Core.Path.{refl, ap, subst, ◌∙◌}
use mathlib.Core.Bool.{true}
use mathlib.Core.List.{List, ◌++◌}
use Prim.Native.Nat.{ℕ}
use native.Mathlib.Nat.{zero-add}
use native.Mathlib.Omega.{arith}
use lib.ListN.{length, drop}
use lib.Seq.{sets-eq}
use borrow.Author.Tests.{le-leb, lt-leb}
use Rattle.record.specs.Grammar.{one_group, bulk_part, control_part}
use Rattle.groups.specs.Order.{In}
use Rattle.groups.specs.Enumerates.{Enumerates, lengths_of}
use Rattle.groups.specs.Listing.{bytes_of, list_bytes}
use Rattle.groups.specs.ShortGroups.{ShortGroups}
use Rattle.groups.proofs.Lists.{same_list}
use Rattle.groups.proofs.Shapes.{all_ordered, all_groups, every_group}
use Rattle.groups.proofs.Grammar.{total_bytes, sized_group, sent_group, shape_allowed}

-- What one list for n has, any other has.
members : (n : ℕ) (gs hs : List (List ℕ)) → Enumerates n gs → Enumerates n hs → (g : List ℕ) → In g gs → In g hs
members n gs hs x y g i =
    let w = x.allowed g i in
    subst (λ (k : List ℕ). In k hs) w.lengths (y.bulk w.address w.endpoint w.pid w.unmarked w.marked w.fits (omega (arith, w.few)))

pub short_groups : ShortGroups
unfolding bytes_of
short_groups = record {
  enumerates = λ n small. record {
    bulk = λ a e b xs l f few. every_group n (lengths_of (bulk_part a e b xs l)) (sized_group a e b xs l f.3) (omega (arith, total_bytes a e b xs l, few));
    control = λ a lo hi xs l f few. every_group n (lengths_of (control_part a lo hi (one_group xs l))) (sent_group a hi xs l f.3) (omega (arith, total_bytes a 0 true xs l, few));
    allowed = λ g i. let x = all_groups n g (omega arith) i in shape_allowed n g (omega arith) x.0 x.1;
    ordered = all_ordered n;
  };
  only = λ n gs hs x y. same_list gs hs x.ordered y.ordered (members n gs hs x y) (members n hs gs y x);
  no_group_of = refl;
  each_group = λ g gs. refl;
  used_meant = λ k. refl;
  limit_meant = (refl, refl);
  room_meant = (refl, refl);
  above_6 = λ n out r out' c h. (c.answer ∙ rw (lt-leb _ _ h), c.bytes ∙ rw (lt-leb _ _ h));
  too_few = λ n out r out' c h f. (c.answer ∙ rw (le-leb _ _ h, lt-leb _ _ f), c.bytes ∙ rw (le-leb _ _ h, lt-leb _ _ f));
  enough = λ n out r out' c h f. (
    c.answer ∙ rw (le-leb _ _ h, le-leb _ _ f),
    c.bytes ∙ rw (le-leb _ _ h, le-leb _ _ f) (sets-eq (list_bytes n) out 0 (omega arith) ∙ ap (λ (i : ℕ). list_bytes n ++ drop i out) (zero-add (length (list_bytes n)))),
  );
}
