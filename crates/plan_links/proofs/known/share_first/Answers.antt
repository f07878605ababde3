use Rattle.std.proofs.Common.{◌≡◌, ℕ, List, ap, length, take, subst, sym}
use Rattle.sem_query.specs.declared.part.Sign.{Sign}
use Rattle.sem_query.specs.Query.{attrs_of}
use Rattle.plan_constraints.specs.PartConstraints.{of_prefix}
use Rattle.plan_closure.specs.declared.distances.Distances.{Distances}
use Rattle.plan_closure.specs.Shortest.{AreDistancesOf}
use Rattle.plan_links.specs.BasisValue.{BasisValue}
use Rattle.plan_links.specs.PartDistancesValue.{PartDistancesValue}
use Rattle.plan_links.specs.Known.{AreBegun}
use Rattle.plan_links.proofs.Adding.{distances_start, shared_fewer}
use Rattle.plan_links.proofs.known.share_first.Goals as goal
use Rattle.plan_links.proofs.known.share_first.Goals.{then-shared-distances, else-shared-distances}

pub add_signs-requires-clause-known : goal.add_signs-requires-clause-known
add_signs-requires-clause-known c =
    let n : ℕ = length (attrs_of c.args.q.now.atoms) in
    elim c.if-shared-distances.branch [
      | then-shared-distances w ↦ (
          subst (λ (d : Distances). AreDistancesOf d n (of_prefix c.args.q.now (take c.if-shared-distances.from c.args.p.now.signs.items))) (sym (ap (λ x. x.first) w.distances-inside-is))
          (subst (λ (k : ℕ). AreDistancesOf c.basis.inside.distances n (of_prefix c.args.q.now (take k c.args.p.now.signs.items))) (sym w.from-is)
          (distances_start c.args.q.now _ c.args.basis.now.distances (ap (λ (v : BasisValue). v.distances) c.basis.view_is) c.requires.basis.distances)))
      | else-shared-distances w ↦ (
          let begun : AreDistancesOf c.distances.inside.first n (of_prefix c.args.q.now (take c.distances.inside.count c.distances.inside.signs.now)) = subst (λ (v : PartDistancesValue). AreBegun c.args.q.now v) (sym c.distances.view_is) c.requires.begun in
          let same : take c.shared_signs-shared.result c.distances.inside.signs.now ≡ take c.shared_signs-shared.result c.args.p.now.signs.items = rw c.as_slice.ensures.value at c.shared_signs-shared.ensures.shared in
          subst (λ (d : Distances). AreDistancesOf d n (of_prefix c.args.q.now (take c.if-shared-distances.from c.args.p.now.signs.items))) (sym (ap (λ x. x.first) w.distances-inside-is))
          (subst (λ (k : ℕ). AreDistancesOf c.distances.inside.first n (of_prefix c.args.q.now (take k c.args.p.now.signs.items))) (sym w.from-is)
          (subst (λ (ss : List Sign). AreDistancesOf c.distances.inside.first n (of_prefix c.args.q.now ss)) (shared_fewer _ _ _ _ w.if-shared-distances.false same) begun)))
    ]
