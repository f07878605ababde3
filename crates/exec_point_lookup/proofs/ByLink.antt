-- A column and the one that a link ties it to have the same value.
use Rattle.std.proofs.Common.{◌≡◌, ℕ, ◌<◌, Bool, true, false, ℤ, List, length, get_or, refl, ap, ◌∙◌, arith}
use Rattle.std.proofs.lemmas.List.Folds.{list_all_at}
use Rattle.std.proofs.lemmas.Int.{ints}
use Rattle.std.specs.List.{list_all}
use Rattle.std.specs.Ordering.{int_eq}
use Rattle.sem_query.specs.declared.atom.Attr.{Attr}
use Rattle.sem_query.specs.declared.plan.Link.{Link}
use Rattle.sem_query.specs.declared.plan.PartPlan.{PartPlan}
use Rattle.sem_query.specs.Assignment.{Assignment, compares}
use Rattle.sem_query.specs.Meaning.{by_column}
use Rattle.sem_laws.proofs.Tests.{and-left, not_both}
use Rattle.exec_point_lookup.specs.Known.{IsKnown}

equal_from_test : (x y : ℤ) → int_eq x y ≡ true → x ≡ y
equal_from_test x y h = grind (arith, ints)

-- a link tells the value of its other side
pub by_link : (part : PartPlan) (pos : ℕ) (row : List ℤ) (a b : Attr) (links : List Link) (i : ℕ) (l : Link) → links ≡ part.equal.items → i < length links
    → b.stream ≡ pos → ((v : Assignment) → v (get_or links i l).left ≡ v (get_or links i l).right → v a ≡ v b)
    → IsKnown part pos row a (by_column row b.column)
by_link part pos row a b links i l is within place equal v m =
    equal v (equal_from_test (v link.left) (v link.right) (holds (int_eq (v link.left) (v link.right)) refl)) ∙ m.own b place
  where
    link : Link
    link = get_or links i l

    test : Link → Bool
    test k = int_eq (v k.left) (v k.right)

    holds : (t : Bool) → test link ≡ t → t ≡ true
    holds true e = refl
    holds false e =
        absurd (not_both (list_all test links) (ap (list_all test) is ∙ and-left (list_all test part.equal.items) _ (and-left _ (list_all (λ k. compares k.op (v k.left) (v k.right)) part.soft.items) m.links)) (list_all_at test links i l within e))
