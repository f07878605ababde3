-- Bounds of a system and implied constraints on nodes.
use Rattle.std.proofs.Common.{◌≡◌, ℕ, suc, ℤ, pos, ◌+ℤ◌, ◌≤ℤ◌, List, map, arith, subst, Option, Some, None, Contains}
use Rattle.std.proofs.lemmas.Int.{ints}
use Rattle.sem_query.specs.declared.atom.Attr.{Attr}
use Rattle.sem_query.specs.declared.atom.Element.{Element}
use Rattle.sem_query.specs.declared.atom.Element.TheVariants as element
use Rattle.sem_query.specs.Assignment.{Assignment, value, IsAmong}
use Rattle.sem_query.proofs.Has.{Has, Has-map, Has-map_from, Has-from_contains, Contains-from_has}
use Rattle.plan_constraints.specs.Nodes.{place_of, node_of, offset_of, at_most_above, nodes_of}
use Rattle.plan_constraints.specs.Solutions.{Implies, IsLowAnswer, IsHighAnswer}
use Rattle.plan_constraints.proofs.NodeFacts.{Agree, Known, value_is, nodes_agree}
use Rattle.sem_whole.specs.System.{Difference, Meets, Bound}
use Rattle.sem_whole.specs.Kept.{IsLowest, IsHighest}
use Rattle.sem_whole.specs.Laws.{BoundsAreImplied, RangesAreTold}

known : (xs : List Attr) (e : Element) → IsAmong xs e → Known xs e
known xs (element.Attr a) h = Has-from_contains xs a h
known xs (element.Const k) h = tt

-- the assignment of integers at the nodes
at : List Attr → (ℕ → ℤ) → Assignment
at xs z a = z (suc (place_of xs a))

module _ (xs : List Attr) (z : ℕ → ℤ) (o : z 0 ≡ pos 0) where
  value_at : (e : Element) → value e (λ a. z (suc (place_of xs a))) ≡ z (node_of xs e) +ℤ offset_of e
  value_at (element.Attr a) = omega (arith, ints)
  value_at (element.Const k) = omega (arith, ints, o)

pub bounds_are_implied : BoundsAreImplied
bounds_are_implied xs ds among x y c kx ky = (onto, from)
  where
    onto : Bound ds x y c → Implies (map (λ d. at_most_above xs d.left d.right d.by) ds) (at_most_above xs x y c)
    onto b = record {
      met = λ z s.
          (let v : Assignment = λ a. z (suc (place_of xs a)) in
          let i : value x v ≤ℤ (c +ℤ value y v) = b v (λ d h.
          (let m = s.each (at_most_above xs d.left d.right d.by) (Contains-from_has _ _ (Has-map (λ d. at_most_above xs d.left d.right d.by) h)) in
          let e = value_at xs z s.origin d.left in
          let f = value_at xs z s.origin d.right in
          omega (arith, ints, m, e, f))) in
          let e = value_at xs z s.origin x in
          let f = value_at xs z s.origin y in
          omega (arith, ints, i, e, f));
    }

    from : Implies (map (λ d. at_most_above xs d.left d.right d.by) ds) (at_most_above xs x y c) → Bound ds x y c
    from i v s =
        let g : Agree xs (nodes_of xs v) v = nodes_agree xs v in
        let m = i.met (nodes_of xs v) record {
          origin = g.origin;
          each = λ k h.
              (let r : (d : Difference) × Has ds d × (at_most_above xs d.left d.right d.by ≡ k) = Has-map_from (λ d. at_most_above xs d.left d.right d.by) ds k (Has-from_contains _ k h) in
              let n : Meets v r.0 = s r.0 r.1 in
              let e = value_is xs (nodes_of xs v) v g r.0.left (known xs r.0.left (among r.0 r.1).0) in
              let f = value_is xs (nodes_of xs v) v g r.0.right (known xs r.0.right (among r.0 r.1).1) in
              subst (λ k. nodes_of xs v k.left ≤ℤ (k.bound +ℤ nodes_of xs v k.right)) r.2 (omega (arith, ints, n, e, f)));
        } in
        let e = value_is xs (nodes_of xs v) v g x (known xs x kx) in
        let f = value_is xs (nodes_of xs v) v g y (known xs y ky) in
        omega (arith, ints, m, e, f)

module _ (xs : List Attr) (ds : List Difference) (among : (d : Difference) → Has ds d → IsAmong xs d.left × IsAmong xs d.right) (a : Attr) (there : Contains xs a) where
  low_told : (lo : Option ℤ) → IsLowAnswer (map (λ d. at_most_above xs d.left d.right d.by) ds) (suc (place_of xs a)) lo → IsLowest ds a lo
  low_told None n = λ k b.
      (let i : Implies (map (λ d. at_most_above xs d.left d.right d.by) ds) (at_most_above xs (element.Const k) (element.Attr a) (pos 0)) = (bounds_are_implied xs ds among (element.Const k) (element.Attr a) (pos 0) tt there).0 b in
      let p = n.passed k in
      let m = i.met p.0 p.1 in
      let o = p.1.origin in
      let l = p.2 in
      omega (arith, ints, m, o, l))
  low_told (Some l) g = (
    (bounds_are_implied xs ds among (element.Const l) (element.Attr a) (pos 0) tt there).1 record { met = λ z s. (let m = g.above z s in let o = s.origin in omega (arith, ints, m, o)) },
    λ k b.
        (let i : Implies (map (λ d. at_most_above xs d.left d.right d.by) ds) (at_most_above xs (element.Const k) (element.Attr a) (pos 0)) = (bounds_are_implied xs ds among (element.Const k) (element.Attr a) (pos 0) tt there).0 b in
        let m = i.met g.at g.solves in
        let o = g.solves.origin in
        let r = g.reached in
        omega (arith, ints, m, o, r)),
  )

  high_told : (hi : Option ℤ) → IsHighAnswer (map (λ d. at_most_above xs d.left d.right d.by) ds) (suc (place_of xs a)) hi → IsHighest ds a hi
  high_told None n = λ k b.
      (let i : Implies (map (λ d. at_most_above xs d.left d.right d.by) ds) (at_most_above xs (element.Attr a) (element.Const k) (pos 0)) = (bounds_are_implied xs ds among (element.Attr a) (element.Const k) (pos 0) there tt).0 b in
      let p = n.passed k in
      let m = i.met p.0 p.1 in
      let o = p.1.origin in
      let l = p.2 in
      omega (arith, ints, m, o, l))
  high_told (Some h) g = (
    (bounds_are_implied xs ds among (element.Attr a) (element.Const h) (pos 0) there tt).1 record { met = λ z s. (let m = g.below z s in let o = s.origin in omega (arith, ints, m, o)) },
    λ k b.
        (let i : Implies (map (λ d. at_most_above xs d.left d.right d.by) ds) (at_most_above xs (element.Attr a) (element.Const k) (pos 0)) = (bounds_are_implied xs ds among (element.Attr a) (element.Const k) (pos 0) there tt).0 b in
        let m = i.met g.at g.solves in
        let o = g.solves.origin in
        let r = g.reached in
        omega (arith, ints, m, o, r)),
  )

pub ranges_are_told : RangesAreTold
ranges_are_told xs ds among a there lo hi i j = record { low = low_told xs ds among a there lo i; high = high_told xs ds among a there hi j }
