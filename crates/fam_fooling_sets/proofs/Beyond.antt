-- Links with unbounded sides lie beyond the ends of a motion, and keep rows apart.
use Rattle.std.proofs.Common.{◌≡◌, ℕ, inl, inr, ◌⊎◌, List, false, arith, ℤ, pos, ◌+ℤ◌, ◌-ℤ◌, ◌≤ℤ◌, ◌<ℤ◌, Contains}
use Rattle.std.specs.Prelude.{All}
use Rattle.std.proofs.lemmas.Int.{ints}
use Rattle.std.proofs.lemmas.List.Elements.{All-contains}
use Rattle.sem_query.specs.declared.atom.Attr.{Attr}
use Rattle.sem_query.specs.declared.atom.Element.TheVariants as element
use Rattle.sem_query.specs.declared.part.Sign.{Sign}
use Rattle.sem_query.specs.declared.plan.Link.{Link}
use Rattle.sem_query.specs.Query.{QueryValue, attrs_of, consts_of}
use Rattle.sem_query.specs.Parts.{IsPart}
use Rattle.sem_query.specs.Order.{IsBounded}
use Rattle.sem_query.specs.Links.{IsInequality, between}
use Rattle.sem_query.proofs.Has.{Has-from_contains, Contains-from_has}
use Rattle.sem_query.proofs.Bounded.{attr_lt_const, const_lt_attr, bounded_between, standing, enclosed, too_high, too_low, sides_are_bounded_together}
use Rattle.plan_constraints.specs.Nodes.{place_of}
use Rattle.plan_constraints.proofs.InPart.{in_part_from_solves}
use Rattle.plan_closure.specs.Answers.{at_nodes}
use Rattle.fam_fooling_sets.specs.declared.motion.Motion.{Motion}
use Rattle.fam_fooling_sets.specs.Lowered.{IsWhole}
use Rattle.fam_fooling_sets.specs.Moving.{IsNearby, IsMotionOf, ReachNoFarther, constants, all_above, Rises, Falls}
use Rattle.fam_fooling_sets.specs.Passing as passing
use Rattle.fam_fooling_sets.specs.Passing.{value_in, PassesApart, both, later, earlier, LiesOut, LieBeyond, over, under, HasLeft, HasRight, AreOnOneSide, lefts, rights}
use Rattle.fam_fooling_sets.proofs.Moving.{rise-above, fall-above, fall-below, rise-below}
use Rattle.fam_fooling_sets.proofs.Motions.{has-at, place-in, u, u-at, link-less}

module _ (q : QueryValue) (s : List Sign) (whole : IsWhole q) (m : Motion) (is : IsMotionOf q s m) (near : ReachNoFarther (consts_of q.atoms) m.values.items (record { low = m.low; high = m.high })) where
  abbrev part : IsPart q s
  part = record { one = u q s m is; inside = in_part_from_solves q s is.within is.part (at_nodes m.values.items) is.solves }

  value-near : (a : Attr) → Contains (attrs_of q.atoms) a → IsNearby (value_in q m a)
  value-near a c = is.motion.far (place_of (attrs_of q.atoms) a) (pos 0) (place-in q s m is a (Has-from_contains _ a c))

  -- what is not bounded lies out
  pub lies-out : (a : Attr) → Contains (attrs_of q.atoms) a → ¬ IsBounded q s a → LiesOut q m a
  lies-out a c free = by near
    where
      same : u q s m is a ≡ value_in q m a
      same = u-at q s m is a (Has-from_contains _ a c)

      by : ReachNoFarther (consts_of q.atoms) m.values.items (record { low = m.low; high = m.high }) → LiesOut q m a
      by (all_above f) = inl (All-contains (λ v. m.high <ℤ v) m.values.items (value_in q m a) f (Contains-from_has _ _ (has-at m.values.items (place_of (attrs_of q.atoms) a) (place-in q s m is a (Has-from_contains _ a c)))))
      by (constants l h) = elim (standing q s part a) [
        | enclosed low high i j g k ↦ absurd (free (bounded_between q s part a low high c i j g k))
        | too_high f ↦ inl (let o : m.high <ℤ u q s m is a = f m.high h in omega (arith, ints, o, same))
        | too_low f ↦ inr (let o : u q s m is a <ℤ m.low = f m.low l in omega (arith, ints, o, same))
      ]

  -- no constant lies between the sides of a link
  no-constant : (x y : Attr) → IsInequality q s x y → (k : ℤ) → Contains (consts_of q.atoms) k → value_in q m x <ℤ k → k <ℤ value_in q m y → ⊥
  no-constant x y i k c l h =
      let e = u-at q s m is x (Has-from_contains _ x i.across.left) in
      let f = u-at q s m is y (Has-from_contains _ y i.across.right) in
      i.needed (between (element.Const k) c
      (attr_lt_const q s part x k i.across.left c (omega (arith, ints, e, l)))
      (const_lt_attr q s part y k i.across.right c (omega (arith, ints, f, h))))

  -- the sides of a link that are not bounded lie beyond one end
  pub link-beyond : (x y : Attr) → IsInequality q s x y → (¬ IsBounded q s x) ⊎ (¬ IsBounded q s y) → LieBeyond q m x y
  link-beyond x y i free = elim (sides_are_bounded_together q whole.domains s is.part x y i) [
    | inl b ↦ absurd (elim free [ inl n ↦ n b.0 | inr n ↦ n b.1 ])
    | inr n ↦ by (lies-out x i.across.left n.0) (lies-out y i.across.right n.1) near
  ]
    where
      ends : m.low ≤ℤ m.high
      ends = is.motion.ends

      by : LiesOut q m x → LiesOut q m y → ReachNoFarther (consts_of q.atoms) m.values.items (record { low = m.low; high = m.high }) → LieBeyond q m x y
      by (inl h) g r = over h
      by (inr h) (inr g) r = under g
      by (inr h) (inl g) (constants l k) = absurd (no-constant x y i m.low l h (omega (arith, ints, g, ends)))
      by (inr h) (inl g) (all_above f) =
          let o : m.high <ℤ value_in q m x = All-contains (λ v. m.high <ℤ v) m.values.items (value_in q m x) f (Contains-from_has _ _ (has-at m.values.items (place_of (attrs_of q.atoms) x) (place-in q s m is x (Has-from_contains _ x i.across.left)))) in
          absurd (omega (arith, ints, h, o, ends))

module _ (q : QueryValue) (s : List Sign) (m : Motion) (is : IsMotionOf q s m) where
  abbrev at : Attr → ℤ
  at a = value_in q m a

  less : (x y : Attr) → IsInequality q s x y → at x <ℤ at y
  less x y i = link-less q s m is x y i

  under-cut : (y : Attr) → Contains (attrs_of q.atoms) y → m.upper_cut ≡ pos 1000000000000000000 → at y ≤ℤ m.upper_cut
  under-cut y c e = let n : at y ≤ℤ pos 250000000000000000 = (is.motion.far (place_of (attrs_of q.atoms) y) (pos 0) (place-in q s m is y (Has-from_contains _ y c))).high in omega (arith, ints, n, e)

  over-cut : (x : Attr) → Contains (attrs_of q.atoms) x → m.lower_cut ≡ pos 0 -ℤ pos 1000000000000000000 → m.lower_cut ≤ℤ at x
  over-cut x c e = let n : (pos 0 -ℤ pos 250000000000000000) ≤ℤ at x = (is.motion.far (place_of (attrs_of q.atoms) x) (pos 0) (place-in q s m is x (Has-from_contains _ x c))).low in omega (arith, ints, n, e)

  -- with no cuts a link keeps rows apart in one direction
  pub one-way : m.lower_cut ≡ pos 0 -ℤ pos 1000000000000000000 → m.upper_cut ≡ pos 1000000000000000000 → q.distinct ≡ false → (place : ℕ) (x y : Attr) → IsInequality q s x y → LieBeyond q m x y
      → (x.stream ≡ place) ⊎ (y.stream ≡ place) → PassesApart q s m place
  one-way l e d place x y i (over h) (inl o) = later d record { x = x; y = y; passes = passing.left i o (rise-above m is.motion (at x) (at y) (less x y i) h (under-cut y i.across.right e)) }
  one-way l e d place x y i (over h) (inr o) = earlier d record { x = x; y = y; passes = passing.right i o (rise-above m is.motion (at x) (at y) (less x y i) h (under-cut y i.across.right e)) }
  one-way l e d place x y i (under h) (inl o) = earlier d record { x = x; y = y; passes = passing.left i o (fall-below m is.motion (at x) (at y) (less x y i) h (over-cut x i.across.left l)) }
  one-way l e d place x y i (under h) (inr o) = later d record { x = x; y = y; passes = passing.right i o (fall-below m is.motion (at x) (at y) (less x y i) h (over-cut x i.across.left l)) }

  -- where all below the lower end moves back, links on both sides of a place do so in both
  pub two-ways : m.lower_cut ≡ m.low → m.upper_cut ≡ pos 1000000000000000000 → (place : ℕ) (links : List Link) → All (λ l. IsInequality q s l.left l.right) links
      → HasLeft q m links place → HasRight q m links place → PassesApart q s m place
  two-ways l e place links each x y =
      both
      record { x = x.link.left; y = x.link.right; passes = passing.left (is-link x.link x.named) x.is.here (rises x.link x.named x.is.beyond) }
      record { x = y.link.left; y = y.link.right; passes = passing.right (is-link y.link y.named) y.is.here (rises y.link y.named y.is.beyond) }
    where
      is-link : (k : Link) → Contains links k → IsInequality q s k.left k.right
      is-link k c = All-contains (λ (l : Link). IsInequality q s l.left l.right) links k each c

      rises : (k : Link) → Contains links k → LieBeyond q m k.left k.right → Rises m (at k.left) (at k.right)
      rises k c (over h) = rise-above m is.motion (at k.left) (at k.right) (less k.left k.right (is-link k c)) h (under-cut k.right (is-link k c).across.right e)
      rises k c (under h) = rise-below m is.motion (at k.left) (at k.right) (less k.left k.right (is-link k c)) h (omega (arith, ints, h, l))

  -- cut between two links on one side they do so, too
  pub cut-ways : (first second : Link) → m.upper_cut ≡ at first.right → m.lower_cut ≡ at first.right +ℤ pos 1 → at first.right <ℤ at second.left
      → (place : ℕ) → IsInequality q s first.left first.right → IsInequality q s second.left second.right → LieBeyond q m first.left first.right → LieBeyond q m second.left second.right
      → AreOnOneSide place first second → PassesApart q s m place
  cut-ways first second e l o place i j f g side = by side
    where
      rises : LieBeyond q m first.left first.right → Rises m (at first.left) (at first.right)
      rises (over h) = rise-above m is.motion (at first.left) (at first.right) (less first.left first.right i) h (omega (arith, ints, e))
      rises (under h) = rise-below m is.motion (at first.left) (at first.right) (less first.left first.right i) h (omega (arith, ints, l))

      falls : LieBeyond q m second.left second.right → Falls m (at second.left) (at second.right)
      falls (over h) = fall-above m is.motion (at second.left) (at second.right) (less second.left second.right j) h (omega (arith, ints, e, o))
      falls (under h) = fall-below m is.motion (at second.left) (at second.right) (less second.left second.right j) h (omega (arith, ints, l, o))

      by : AreOnOneSide place first second → PassesApart q s m place
      by (lefts a b) = both
          record { x = first.left; y = first.right; passes = passing.left i a (rises f) }
          record { x = second.left; y = second.right; passes = passing.left j b (falls g) }
      by (rights a b) = both
          record { x = second.left; y = second.right; passes = passing.right j b (falls g) }
          record { x = first.left; y = first.right; passes = passing.right i a (rises f) }
