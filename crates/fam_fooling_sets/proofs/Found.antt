-- What is found of motions that keep rows apart.
use Rattle.std.proofs.Common.{◌≡◌, ℕ, zero, suc, ◌+◌, ◌<◌, ◌≤◌, ◌⊎◌, length, inl, inr, List, [], ◌∷◌, None, true, false, refl, sym, ap, ◌∙◌, subst, arith, slice_index_or, ℤ, pos, ◌+ℤ◌, ◌<ℤ◌, int_lt, Contains}
use Rattle.std.specs.Prelude.{◌↔◌, IsTrue}
use Rattle.std.proofs.lemmas.Int.{ints}
use Rattle.sem_query.specs.declared.atom.Attr.{Attr}
use Rattle.sem_query.specs.declared.condition.Condition.TheVariants.{C3}
use Rattle.sem_query.specs.declared.part.Sign.{Sign}
use Rattle.sem_query.specs.declared.plan.Link.{Link}
use Rattle.sem_query.specs.Query.{QueryValue, attrs_of}
use Rattle.sem_query.specs.Order.{IsBounded}
use Rattle.sem_query.specs.Links.{IsInequality, IsMinRef, IsMaxRef, HasTwoRefs}
use Rattle.plan_constraints.specs.Nodes.{place_of}
use Rattle.plan_constraints.specs.Solutions.{Solves}
use Rattle.plan_closure.specs.Answers.{at_nodes}
use Rattle.plan_closure.specs.BoundsValue.{BoundsValue}
use Rattle.fam_fooling_sets.specs.declared.motion.Motion.{Motion}
use Rattle.fam_fooling_sets.specs.Laws.{AreLocalFor}
use Rattle.fam_fooling_sets.specs.Lowered.{IsBroken, IsWhole}
use Rattle.fam_fooling_sets.specs.Moving.{IsMotionOf}
use Rattle.fam_fooling_sets.specs.Passing.{value_in, PassesApart, LieBeyond, over, under, HasLeft, HasRight, AreOnOneSide, AreLinks, ArePartedLinks, IsMotionBy, IsSuited, FindsCut}
use Rattle.fam_fooling_sets.proofs.Cells.{nodes-at}
use Rattle.fam_fooling_sets.proofs.FromPart.{names-attr}
use Rattle.fam_fooling_sets.proofs.Beyond.{lies-out, link-beyond, one-way, two-ways, cut-ways}
use Rattle.fam_fooling_sets.proofs.Parting.{refs-tried}

-- the second test says whether both sides lie beyond an end, where the first fails
pub lie-by-right : (q : QueryValue) (m : Motion) (x y : Attr) (left right low high : ℤ) → left ≡ value_in q m x → right ≡ value_in q m y → low ≡ m.low → high ≡ m.high → int_lt high left ≡ false
    → IsTrue (int_lt right low) ↔ LieBeyond q m x y
lie-by-right q m x y left right low high e f g h n = (λ t. under (let l : right <ℤ low = grind (arith, ints, t) in omega (arith, ints, l, f, g)), back)
  where
    back : LieBeyond q m x y → int_lt right low ≡ true
    back (over k) = absurd (let l : high <ℤ left = omega (arith, ints, k, e, h) in grind (arith, ints, l, n))
    back (under k) = (let l : right <ℤ low = omega (arith, ints, k, f, g) in grind (arith, ints, l))

-- a reference is not bounded
pub ref-free : (q : QueryValue) (s : List Sign) (a : Attr) → IsBroken q s C3 a → ¬ IsBounded q s a
ref-free q s a b = elim b.breaks.0 [ inl r ↦ r.unbounded | inr r ↦ r.unbounded ]

-- the same motion with other cuts
abbrev pub recut : Motion → ℤ → ℤ → Motion
recut m lower upper = record { values = m.values; low = m.low; high = m.high; lower_cut = lower; upper_cut = upper; n = m.n }

pub is-recut : (q : QueryValue) (s : List Sign) (m : Motion) (lower upper : ℤ) → IsMotionOf q s m → IsMotionOf q s (recut m lower upper)
is-recut q s m lower upper is = record {
  within = is.within;
  part = is.part;
  motion = record { size = is.motion.size; few = is.motion.few; far = is.motion.far; low = is.motion.low; ends = is.motion.ends; high = is.motion.high };
  many = is.many;
  solves = is.solves;
  between = is.between;
}

module _ (q : QueryValue) (s : List Sign) (whole : IsWhole q) (a : Attr) (broken : IsBroken q s C3 a) (b : BoundsValue) (n : ℕ) (m : Motion) (by : IsMotionBy q s b n m) where
  -- a link with unbounded sides lies beyond an end
  pub beyond : (lower upper : ℤ) (x y : Attr) → IsInequality q s x y → (¬ IsBounded q s x) → LieBeyond q (recut m lower upper) x y
  beyond lower upper x y i free = link-beyond q s whole (recut m lower upper) (is-recut q s m lower upper by.motion) by.ends x y i (inl free)

  suited : (lower upper : ℤ) → PassesApart q s (recut m lower upper) a.stream → IsSuited q s a n (recut m lower upper)
  suited lower upper apart = record {
    motion = is-recut q s m lower upper by.motion;
    suits = record {
      out = lies-out q s whole (recut m lower upper) (is-recut q s m lower upper by.motion) by.ends a (names-attr q s a broken) (ref-free q s a broken);
      apart = apart;
    };
    size = by.size;
  }

  -- without DISTINCT a motion with no cuts suits
  pub plain-suits : q.distinct ≡ false → IsSuited q s a n m
  plain-suits d = elim broken.breaks.0 [
    | inl r ↦ by_link a r.other r.inequality (inl r.unbounded) (inl refl)
    | inr r ↦ by_link r.other a r.inequality (inr r.unbounded) (inr refl)
  ]
    where
      by_link : (x y : Attr) → IsInequality q s x y → (¬ IsBounded q s x) ⊎ (¬ IsBounded q s y) → (x.stream ≡ a.stream) ⊎ (y.stream ≡ a.stream) → IsSuited q s a n m
      by_link x y i free o = record {
        motion = by.motion;
        suits = record {
          out = lies-out q s whole m by.motion by.ends a (names-attr q s a broken) (ref-free q s a broken);
          apart = one-way q s m by.motion by.no_lower by.no_upper d a.stream x y i (link-beyond q s whole m by.motion by.ends x y i free) o;
        };
        size = by.size;
      }

  -- one in which all links rise does where there are links on both sides
  pub rising-suits : (lower : ℤ) → lower ≡ m.low → (links : List Link) → AreLinks q s links → HasLeft q (recut m lower m.upper_cut) links a.stream → HasRight q (recut m lower m.upper_cut) links a.stream
      → IsSuited q s a n (recut m lower m.upper_cut)
  rising-suits lower e links are x y =
      suited lower m.upper_cut (two-ways q s (recut m lower m.upper_cut) (is-recut q s m lower m.upper_cut by.motion) e by.no_upper a.stream links are.each x y)

  -- and one that is cut between two links on one side
  pub cut-suits : (lower upper : ℤ) (first second : Link) → upper ≡ value_in q m first.right → lower ≡ value_in q m first.right +ℤ pos 1
      → ((z : ℕ → ℤ) → Solves z b.constraints → z (suc (place_of (attrs_of q.atoms) first.right)) <ℤ z (suc (place_of (attrs_of q.atoms) second.left)))
      → IsInequality q s first.left first.right → IsInequality q s second.left second.right → LieBeyond q (recut m lower upper) first.left first.right → LieBeyond q (recut m lower upper) second.left second.right
      → AreOnOneSide a.stream first second → IsSuited q s a n (recut m lower upper)
  cut-suits lower upper first second e l less i j f g side =
      suited lower upper (cut-ways q s (recut m lower upper) (is-recut q s m lower upper by.motion) first second e l apart a.stream i j f g side)
    where
      apart : value_in q m first.right <ℤ value_in q m second.left
      apart =
          let o : at_nodes m.values.items (suc (place_of (attrs_of q.atoms) first.right)) <ℤ at_nodes m.values.items (suc (place_of (attrs_of q.atoms) second.left)) = less (at_nodes m.values.items) by.solves in
          let x = nodes-at m.values.items (place_of (attrs_of q.atoms) first.right) in
          let y = nodes-at m.values.items (place_of (attrs_of q.atoms) second.left) in
          omega (arith, ints, o, x, y)

  -- with DISTINCT one of the two is found
  pub never : (local : AreLocalFor q C3) (distinct : q.distinct ≡ true) (links : List Link) → AreLinks q s links → (lower upper : ℤ)
      → (HasLeft q (recut m lower upper) links a.stream → HasRight q (recut m lower upper) links a.stream → ⊥) → FindsCut q s links a n None → ⊥
  never local distinct links are lower upper apart none =
      let two : HasTwoRefs q s a.stream = broken.breaks.1 distinct in
      refs-tried q whole local s a broken tried two.first two.second two.here two.there two.two (λ r. apart (left two.first two.here r.0) (right two.second two.there r.1))
    where
      tried : (first second : Link) → IsInequality q s first.left first.right → IsInequality q s second.left second.right → ¬ ArePartedLinks q s a.stream first second
      tried first second i j = (none first (are.all first.left first.right i)).none second (are.all second.left second.right j)

      left : (x : Attr) → x.stream ≡ a.stream → IsMinRef q s x → HasLeft q (recut m lower upper) links a.stream
      left x e r = record { link = record { left = x; right = r.other }; named = are.all x r.other r.inequality; is = record { here = e; beyond = beyond lower upper x r.other r.inequality r.unbounded } }

      right : (y : Attr) → y.stream ≡ a.stream → IsMaxRef q s y → HasRight q (recut m lower upper) links a.stream
      right y e r = record {
        link = record { left = r.other; right = y };
        named = are.all r.other y r.inequality;
        is = record {
          here = e;
          beyond = link-beyond q s whole (recut m lower upper) (is-recut q s m lower upper by.motion) by.ends r.other y r.inequality (inr r.unbounded);
        };
      }

any-default : (links : List Link) (k : ℕ) (d e : Link) → k < length links → slice_index_or links k d ≡ slice_index_or links k e
any-default [] k d e l = absurd (omega (arith, l))
any-default (x ∷ links) zero d e l = refl
any-default (x ∷ links) (suc k) d e l = any-default links k d e (omega (arith, l))

-- each of the first i links passes, and so does the next one
pub each-more : (P : Link → Type 0) (links : List Link) (i : ℕ) (e : Link) → i < length links → ((k : ℕ) (d : Link) → k < i → P (slice_index_or links k d)) → P (slice_index_or links i e)
    → (k : ℕ) (d : Link) → k < i + 1 → P (slice_index_or links k d)
each-more P links i e l before now k d o = elim (last_or k i o) [
  | inl h ↦ before k d h
  | inr h ↦ subst P (any-default links i e d l ∙ ap (λ (j : ℕ). slice_index_or links j d) (sym h)) now
]
  where
    last_or : (k n : ℕ) → k < n + 1 → (k < n) ⊎ (k ≡ n)
    last_or k n l = grind (arith, l)

-- where all have been looked at, none passes
pub none-of : (P : Link → Type 0) (links : List Link) (i : ℕ) → length links ≤ i → ((k : ℕ) (d : Link) → k < i → ¬ P (slice_index_or links k d)) → (l : Link) → Contains links l → ¬ P l
none-of P links i e none l c = subst (λ z. ¬ P z) c.2 (none c.0 l (let o = c.1 in omega (arith, o, e)))

-- where all have been looked at, each does
pub each-of : (P : Link → Type 0) (links : List Link) (i : ℕ) → length links ≤ i → ((k : ℕ) (d : Link) → k < i → P (slice_index_or links k d)) → (l : Link) → Contains links l → P l
each-of P links i e all l c = subst P c.2 (all c.0 l (let o = c.1 in omega (arith, o, e)))
