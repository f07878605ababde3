-- What is drawn from a solution for each number.
use Rattle.std.proofs.Common.{◌≡◌, ℕ, suc, ◌<◌, ◌≤◌, nat_eq, cond, List, [], Option, None, Some, false, refl, sym, ap, ◌∙◌, subst, arith, ℤ, pos, ◌+ℤ◌, ◌-ℤ◌, slice_index_or}
use Rattle.std.proofs.lemmas.Int.{ints}
use Rattle.std.proofs.lemmas.Bool.Decides.{nat_tests}
use Rattle.sem_query.specs.declared.atom.Attr.{Attr}
use Rattle.sem_query.specs.declared.part.Sign.{Sign}
use Rattle.sem_query.specs.Query.{QueryValue, attrs_of, IsWithinLimits}
use Rattle.sem_query.specs.Parts.{IsPart}
use Rattle.plan_constraints.specs.Nodes.{place_of}
use Rattle.plan_constraints.specs.Solutions.{Solves}
use Rattle.plan_constraints.proofs.InPart.{in_part_from_solves}
use Rattle.plan_closure.specs.Answers.{at_nodes}
use Rattle.fam_fooling_sets.specs.declared.ground.Ground.{Ground}
use Rattle.fam_fooling_sets.specs.Family.{FamilyValue}
use Rattle.fam_fooling_sets.specs.Members.{value_for, AreMembers, IsGroundOf}
use Rattle.fam_fooling_sets.proofs.Points.{value-fits, values-far}
use Rattle.fam_fooling_sets.proofs.Made.{IsDrawn}

-- different numbers have different values
value-apart : (low high : Option ℤ) (i j : ℕ) → value_for low high i ≡ value_for low high j → i ≡ j
value-apart (Some l) high i j e = (let o : (l +ℤ pos i) ≡ (l +ℤ pos j) = e in omega (arith, ints, o))
value-apart None (Some h) i j e = (let o : (h -ℤ pos i) ≡ (h -ℤ pos j) = e in omega (arith, ints, o))
value-apart None None i j e = (let o : pos i ≡ pos j = e in omega (arith, ints, o))

pub drawn : (q : QueryValue) → IsWithinLimits q → (s : List Sign) → IsPart q s → (a : Attr) (g : Ground) (n : ℕ) (f : FamilyValue) → IsGroundOf q s a g → n ≤ 65536
    → (made : AreMembers g a.stream n f.rows f.asking) → IsDrawn q s a g n f (λ k. slice_index_or made.all k []) (λ k. value_for g.low g.high k)
drawn q within s part a g n f ground few made = record {
  solves = λ k l. in_part_from_solves q s within part (at_nodes (slice_index_or made.all k [])) (subst (λ cs. Solves (at_nodes (slice_index_or made.all k [])) cs) ground.constraints_are (made.each k l).solved.solves);
  value = λ k l c.
      let m : g.node ≡ suc (place_of (attrs_of q.atoms) a) = ground.node_is c in
      let t : nat_eq g.node 0 ≡ false = grind (arith, m, nat_tests) in
      ap (at_nodes (slice_index_or made.all k [])) (sym m) ∙ (made.each k l).solved.here ∙ ap (λ t. cond t (pos 0) (value_for g.low g.high k)) t;
  apart = λ i j l m e. value-apart g.low g.high i j e;
  value_fits = λ k l. value-fits g.low g.high k ground.ground.low ground.ground.high (small k n l few);
  far = λ k l. values-far g ground.ground k (small k n l few) _ _ (made.each k l).solved refl;
  own = λ k l. (made.each k l).row_is;
  asks = λ k l. (made.each k l).asked_is;
}
  where
    small : (k n : ℕ) → k < n → n ≤ 65536 → k < 65536
    small k n l few = omega (arith, l, few)
