-- When a bound follows, and when a comparison goes, by the answers of the closed system.
use Rattle.std.proofs.Common.{◌≡◌, ◌⊎◌, inl, inr, ◌↔◌, IsTrue, ℤ, pos, neg_ℤ, ◌+ℤ◌, ◌≤ℤ◌, List, [], ◌∷◌, ◌++◌, map, Bool, true, false, ◌&&◌, ◌||◌, Option, Some, None, refl, sym, ◌∙◌, subst, arith}
use Rattle.std.proofs.lemmas.Int.{ints}
use Rattle.std.specs.List.{Any}
use Rattle.sem_query.specs.declared.atom.Attr.{Attr}
use Rattle.sem_query.specs.declared.atom.Atom.{Atom}
use Rattle.sem_query.specs.declared.atom.Op.{Op}
use Rattle.sem_query.specs.declared.atom.Element.{Element}
use Rattle.sem_query.specs.declared.atom.Element.TheVariants as element
use Rattle.sem_query.proofs.Has.{Has, first, later, Has-nil, Has-from_contains, Contains-from_has, Has-append_left, Has-append_right, Has-append_cases, Has-map, Has-map_from}
use Rattle.sem_laws.proofs.Tests.{and-left, and-right, and-both, or-cases, or-left, or-right, not_both}
use Rattle.sem_whole.specs.System.{Difference, bounds_of, Bound}
use Rattle.sem_whole.specs.Links.{comparison, AreOfOne, Follows, ranges, link, Goes, bounds, less, greater}
use Rattle.sem_whole.specs.Ranges.{Range}
use Rattle.sem_whole.specs.Kept.{IsLowest, IsHighest, IsRange}
use Rattle.sem_whole.specs.Laws.{IsLeastBound}
use Rattle.plan_whole.specs.declared.links.ColumnLink.{ColumnLink}
use Rattle.plan_whole.specs.declared.links.ColumnBound.{ColumnBound}
use Rattle.plan_whole.specs.Closed.{apart, IsMet}
use Rattle.plan_whole.specs.Columns.{atom_of, difference_of, summed, AreAlike, FollowsFrom, FollowsByRanges, FollowsByLink, FollowsByOne}

least_at : (ds : List Difference) (x y : Element) (o : Option ℤ) (c : ℤ) → IsLeastBound ds x y o → Bound ds x y c → (u : ℤ) × (o ≡ Some u) × (u ≤ℤ c)
least_at ds x y None c least b = absurd (least c b)
least_at ds x y (Some u) c least b = (u, refl, least.1 c b)

least_there : (ds : List Difference) (x y : Element) (o : Option ℤ) (u : ℤ) → IsLeastBound ds x y o → o ≡ Some u → Bound ds x y u
least_there ds x y o u least e = (subst (IsLeastBound ds x y) e least).0

sum_parts : (o : Option ℤ) (by : ℤ) (p : Option ℤ) (limit : ℤ) → IsMet (summed o by p) limit → (u v : ℤ) × (o ≡ Some u) × (p ≡ Some v) × ((u +ℤ by +ℤ v) ≤ℤ limit)
sum_parts None by p limit s = absurd s
sum_parts (Some u) by None limit s = absurd s
sum_parts (Some u) by (Some v) limit s = (u, v, refl, refl, s)

sum_met : (o : Option ℤ) (by : ℤ) (p : Option ℤ) (limit u v : ℤ) → o ≡ Some u → p ≡ Some v → (u +ℤ by +ℤ v) ≤ℤ limit → IsMet (summed o by p) limit
sum_met o by p limit u v e f s = subst (λ o. IsMet (summed o by p) limit) (sym e) (subst (λ o. IsMet (summed (Some u) by o) limit) (sym f) s)

of_one : (a b : Attr) → a.stream ≡ b.stream → AreOfOne (element.Attr a) (element.Attr b)
of_one a b e = (a.stream, refl, sym e)

one_of : (a b : Attr) → AreOfOne (element.Attr a) (element.Attr b) → a.stream ≡ b.stream
one_of a b o = o.1 ∙ sym o.2

-- ---- one test and another

pub or_then : {P A : Type 0} (r : Bool) → (A → P) → IsTrue r ↔ A → r ≡ true → IsTrue r ↔ P
or_then r f i e = (λ h. f (i.0 h), λ p. e)

pub or_else : {P : Type 0} (r s : Bool) → IsTrue (r || s) ↔ P → r ≡ false → IsTrue s ↔ P
or_else r s f e = (λ h. f.0 (or-right r s h), λ p. elim (or-cases r s (f.1 p)) [ inl i ↦ absurd (not_both r i e) | inr i ↦ i ])

pub and_then : {P : Type 0} (r s : Bool) → IsTrue (r && s) ↔ P → r ≡ true → IsTrue s ↔ P
and_then r s f e = (λ h. f.0 (and-both r s e h), λ p. and-right r s (f.1 p))

pub and_else : {P A : Type 0} (r : Bool) → (P → A) → IsTrue r ↔ A → r ≡ false → IsTrue r ↔ P
and_else r f i e = (λ h. absurd (not_both r h e), λ p. i.1 (f p))

-- a bound follows from another where both streams are the same and the sum is within its limit
pub from_alike : (ds : List Difference) (d b : ColumnBound) → FollowsFrom ds (difference_of d) (difference_of b) → AreAlike d b
from_alike ds d b f = (one_of b.left d.left f.left, one_of d.right b.right f.right)

pub follows_from_told : (ds : List Difference) (d b : ColumnBound) (x y o : Option ℤ) (k s : Bool)
    → IsLeastBound ds (element.Attr b.left) (element.Attr d.left) x → IsLeastBound ds (element.Attr d.right) (element.Attr b.right) y
    → IsTrue k ↔ AreAlike d b → o ≡ summed x d.by y → IsTrue s ↔ IsMet o b.by
    → IsTrue (k && s) ↔ FollowsFrom ds (difference_of d) (difference_of b)
follows_from_told ds d b x y o k s least other ek eo es = (onto, from)
  where
    onto : IsTrue (k && s) → FollowsFrom ds (difference_of d) (difference_of b)
    onto h =
        let p = sum_parts x d.by y b.by (subst (λ o. IsMet o b.by) eo (es.0 (and-right k s h))) in
        let i : AreAlike d b = ek.0 (and-left k s h) in
        record {
          first = p.0;
          second = p.1;
          left = of_one b.left d.left i.0;
          left_bound = least_there ds (element.Attr b.left) (element.Attr d.left) x p.0 least p.2;
          right = of_one d.right b.right i.1;
          right_bound = least_there ds (element.Attr d.right) (element.Attr b.right) y p.1 other p.3;
          sum = p.4;
        }

    from : FollowsFrom ds (difference_of d) (difference_of b) → IsTrue (k && s)
    from f =
        let p = least_at ds (element.Attr b.left) (element.Attr d.left) x f.first least f.left_bound in
        let q = least_at ds (element.Attr d.right) (element.Attr b.right) y f.second other f.right_bound in
        let i = p.2 in
        let j = q.2 in
        let m = f.sum in
        and-both k s (ek.1 (from_alike ds d b f)) (es.1 (subst (λ o. IsMet o b.by) (sym eo) (sum_met x d.by y b.by p.0 q.0 p.1 q.1 (omega (arith, ints, i, j, m)))))

-- the ends of two ranges tell a bound
high_at : (ds : List Difference) (a : Attr) (o : Option ℤ) (k : ℤ) → IsHighest ds a o → Bound ds (element.Attr a) (element.Const k) (pos 0) → (h : ℤ) × (o ≡ Some h) × (h ≤ℤ k)
high_at ds a None k n b = absurd (n k b)
high_at ds a (Some h) k n b = (h, refl, n.1 k b)

low_at : (ds : List Difference) (a : Attr) (o : Option ℤ) (k : ℤ) → IsLowest ds a o → Bound ds (element.Const k) (element.Attr a) (pos 0) → (l : ℤ) × (o ≡ Some l) × (k ≤ℤ l)
low_at ds a None k n b = absurd (n k b)
low_at ds a (Some l) k n b = (l, refl, n.1 k b)

pub ranges_told : (ds : List Difference) (b : ColumnBound) (r s : Range) (t : Bool) → IsRange ds b.left r → IsRange ds b.right s → IsTrue t ↔ IsMet (apart r.hi s.lo) b.by
    → IsTrue t ↔ FollowsByRanges ds (difference_of b)
ranges_told ds b r s t x y e = (λ h. onto r.hi s.lo x.high y.low (e.0 h), λ f. e.1 (from f r.hi s.lo x.high y.low))
  where
    onto : (hi lo : Option ℤ) → IsHighest ds b.left hi → IsLowest ds b.right lo → IsMet (apart hi lo) b.by → FollowsByRanges ds (difference_of b)
    onto None lo h l m = absurd m
    onto (Some hi) None h l m = absurd m
    onto (Some hi) (Some lo) h l m = record { high = hi; low = lo; most = h.0; least = l.0; within = omega (arith, ints, m) }

    from : FollowsByRanges ds (difference_of b) → (hi lo : Option ℤ) → IsHighest ds b.left hi → IsLowest ds b.right lo → IsMet (apart hi lo) b.by
    from f hi lo h l =
        let p = high_at ds b.left hi f.high h f.most in
        let q = low_at ds b.right lo f.low l f.least in
        let i = p.2 in
        let j = q.2 in
        let k = f.within in
        let g : IsMet (apart (Some p.0) (Some q.0)) b.by = omega (arith, ints, i, j, k) in
        subst (λ hi. IsMet (apart hi lo) b.by) (sym p.1) (subst (λ lo. IsMet (apart (Some p.0) lo) b.by) (sym q.1) g)

-- from the bounds of a comparison by its operator
module _ (ds : List Difference) (x y : Attr) (b : Difference) where
  side : Attr → Attr → ℤ → Difference
  side u v c = record { left = element.Attr u; right = element.Attr v; by = c }

  module _ (t : Bool) (o : Op) (e : Difference) (only : (d : Difference) → Has (bounds_of o (element.Attr x) (element.Attr y)) d → e ≡ d) (has : Has (bounds_of o (element.Attr x) (element.Attr y)) e) where
    by_one : IsTrue t ↔ FollowsFrom ds e b → IsTrue t ↔ FollowsByLink ds (comparison (element.Attr x) o (element.Attr y)) b
    by_one i = (
      λ h. record { bound = e; among = has; follows = i.0 h },
      λ f. i.1 (subst (λ d. FollowsFrom ds d b) (sym (only f.bound f.among)) f.follows),
    )

  alone : (e d : Difference) → Has (e ∷ []) d → e ≡ d
  alone e d first = refl
  alone e d (later h) = Has-nil h

  pub by_lt : (t : Bool) → IsTrue t ↔ FollowsFrom ds (record { left = element.Attr x; right = element.Attr y; by = neg_ℤ (pos 1) }) b → IsTrue t ↔ FollowsByLink ds (comparison (element.Attr x) Op.Lt (element.Attr y)) b
  by_lt t i = by_one t Op.Lt (record { left = element.Attr x; right = element.Attr y; by = neg_ℤ (pos 1) }) (λ d h. alone _ d h) first i

  pub by_le : (t : Bool) → IsTrue t ↔ FollowsFrom ds (record { left = element.Attr x; right = element.Attr y; by = pos 0 }) b → IsTrue t ↔ FollowsByLink ds (comparison (element.Attr x) Op.Le (element.Attr y)) b
  by_le t i = by_one t Op.Le (record { left = element.Attr x; right = element.Attr y; by = pos 0 }) (λ d h. alone _ d h) first i

  pub by_gt : (t : Bool) → IsTrue t ↔ FollowsFrom ds (record { left = element.Attr y; right = element.Attr x; by = neg_ℤ (pos 1) }) b → IsTrue t ↔ FollowsByLink ds (comparison (element.Attr x) Op.Gt (element.Attr y)) b
  by_gt t i = by_one t Op.Gt (record { left = element.Attr y; right = element.Attr x; by = neg_ℤ (pos 1) }) (λ d h. alone _ d h) first i

  pub by_ge : (t : Bool) → IsTrue t ↔ FollowsFrom ds (record { left = element.Attr y; right = element.Attr x; by = pos 0 }) b → IsTrue t ↔ FollowsByLink ds (comparison (element.Attr x) Op.Ge (element.Attr y)) b
  by_ge t i = by_one t Op.Ge (record { left = element.Attr y; right = element.Attr x; by = pos 0 }) (λ d h. alone _ d h) first i

  two : (d : Difference) → Has (bounds_of Op.Eq (element.Attr x) (element.Attr y)) d → FollowsFrom ds d b
      → FollowsFrom ds (record { left = element.Attr x; right = element.Attr y; by = pos 0 }) b ⊎ FollowsFrom ds (record { left = element.Attr y; right = element.Attr x; by = pos 0 }) b
  two d first f = inl f
  two d (later first) f = inr f
  two d (later (later h)) f = Has-nil h

  pub eq_by : FollowsFrom ds (record { left = element.Attr x; right = element.Attr y; by = pos 0 }) b → FollowsByLink ds (comparison (element.Attr x) Op.Eq (element.Attr y)) b
  eq_by f = record { bound = _; among = first; follows = f }

  pub by_eq : (s t : Bool) → IsTrue s ↔ FollowsFrom ds (record { left = element.Attr x; right = element.Attr y; by = pos 0 }) b → IsTrue t ↔ FollowsFrom ds (record { left = element.Attr y; right = element.Attr x; by = pos 0 }) b
      → IsTrue (s || t) ↔ FollowsByLink ds (comparison (element.Attr x) Op.Eq (element.Attr y)) b
  by_eq s t i j = (
    λ h. elim (or-cases s t h) [ inl k ↦ record { bound = _; among = first; follows = i.0 k } | inr k ↦ record { bound = _; among = later first; follows = j.0 k } ],
    λ f. elim (two f.bound f.among f.follows) [ inl k ↦ or-left s t (i.1 k) | inr k ↦ or-right s t (j.1 k) ],
  )

  pub by_ne : IsTrue false ↔ FollowsByLink ds (comparison (element.Attr x) Op.Ne (element.Attr y)) b
  by_ne = (λ h. absurd cc, λ f. Has-nil f.among)

-- from one of the links
module _ (ds : List Difference) (kept rest : List ColumnLink) (b : ColumnBound) where
  abbrev FollowsAny : List ColumnLink → Type 0
  FollowsAny links = Any (λ l. FollowsByLink ds (atom_of l) (difference_of b)) links

  any_from : (links : List ColumnLink) → FollowsAny links → FollowsByOne ds links (difference_of b)
  any_from links a = (a.1, Has-from_contains links a.1 (a.0, a.2, a.3), a.4)

  any_if : (links : List ColumnLink) (l : ColumnLink) → Has links l → FollowsByLink ds (atom_of l) (difference_of b) → FollowsAny links
  any_if links l h f = let c = Contains-from_has links l h in (c.0, l, c.1, c.2, f)

  pub kept_one : FollowsAny kept → FollowsByOne ds (kept ++ rest) (difference_of b)
  kept_one a = let p = any_from kept a in (p.0, Has-append_left rest p.1, p.2)

  pub either_told : (s t : Bool) → IsTrue s ↔ FollowsAny kept → IsTrue t ↔ FollowsAny rest → IsTrue (s || t) ↔ FollowsByOne ds (kept ++ rest) (difference_of b)
  either_told s t es et = (
    (λ h. elim (or-cases s t h) [ inl i ↦ kept_one (es.0 i) | inr i ↦ (let p = any_from rest (et.0 i) in (p.0, Has-append_right kept p.1, p.2)) ]),
    (λ f. elim (Has-append_cases kept rest f.0 f.1) [ inl i ↦ or-left s t (es.1 (any_if kept f.0 i f.2)) | inr i ↦ or-right s t (et.1 (any_if rest f.0 i f.2)) ]),
  )

  pub by_ranges : FollowsByRanges ds (difference_of b) → Follows ds (map atom_of (kept ++ rest)) (element.Attr b.left) (element.Attr b.right) b.by
  by_ranges f = ranges f.high f.low f.most f.least f.within

  pub follows_told : (r s : Bool) → IsTrue r ↔ FollowsByRanges ds (difference_of b) → IsTrue s ↔ FollowsByOne ds (kept ++ rest) (difference_of b)
      → IsTrue (r || s) ↔ Follows ds (map atom_of (kept ++ rest)) (element.Attr b.left) (element.Attr b.right) b.by
  follows_told r s er es = (onto, from)
    where
      onto : IsTrue (r || s) → Follows ds (map atom_of (kept ++ rest)) (element.Attr b.left) (element.Attr b.right) b.by
      onto h = elim (or-cases r s h) [
        | inl i ↦ by_ranges (er.0 i)
        | inr i ↦ (let p : FollowsByOne ds (kept ++ rest) (difference_of b) = es.0 i in
            let f = p.2 in
            link (atom_of p.0) (Has-map atom_of p.1) f.bound f.among f.follows.first f.follows.second f.follows.left f.follows.left_bound f.follows.right f.follows.right_bound f.follows.sum)
      ]

      from : Follows ds (map atom_of (kept ++ rest)) (element.Attr b.left) (element.Attr b.right) b.by → IsTrue (r || s)
      from (ranges high low m l w) = or-left r s (er.1 record { high = high; low = low; most = m; least = l; within = w })
      from (link u h d k m n a f c g e) =
          let p : (l : ColumnLink) × Has (kept ++ rest) l × (atom_of l ≡ u) = Has-map_from atom_of (kept ++ rest) u h in
          let i : FollowsByLink ds (atom_of p.0) (difference_of b)
          = subst (λ u. FollowsByLink ds u (difference_of b)) (sym p.2) record { bound = d; among = k; follows = record { first = m; second = n; left = a; left_bound = f; right = c; right_bound = g; sum = e } } in
          or-right r s (es.1 (p.0, p.1, i))

-- a comparison goes by its operator
module _ (ds : List Difference) (ts : List Atom) (x y : Element) where
  alone_follows : (e d : Difference) → Has (e ∷ []) d → Follows ds ts e.left e.right e.by → Follows ds ts d.left d.right d.by
  alone_follows e d first f = f
  alone_follows e d (later h) f = Has-nil h

  pub goes_lt : (t : Bool) → IsTrue t ↔ Follows ds ts x y (neg_ℤ (pos 1)) → IsTrue t ↔ Goes ds ts (comparison x Op.Lt y)
  goes_lt t i = (λ h. bounds (λ e. absurd cc) (λ d k. alone_follows record { left = x; right = y; by = neg_ℤ (pos 1) } d k (i.0 h)), λ g. i.1 (back g))
    where
      back : Goes ds ts (comparison x Op.Lt y) → Follows ds ts x y (neg_ℤ (pos 1))
      back (bounds n f) = f record { left = x; right = y; by = neg_ℤ (pos 1) } first
      back (less e f) = absurd cc
      back (greater e f) = absurd cc

  pub goes_le : (t : Bool) → IsTrue t ↔ Follows ds ts x y (pos 0) → IsTrue t ↔ Goes ds ts (comparison x Op.Le y)
  goes_le t i = (λ h. bounds (λ e. absurd cc) (λ d k. alone_follows record { left = x; right = y; by = pos 0 } d k (i.0 h)), λ g. i.1 (back g))
    where
      back : Goes ds ts (comparison x Op.Le y) → Follows ds ts x y (pos 0)
      back (bounds n f) = f record { left = x; right = y; by = pos 0 } first
      back (less e f) = absurd cc
      back (greater e f) = absurd cc

  pub goes_gt : (t : Bool) → IsTrue t ↔ Follows ds ts y x (neg_ℤ (pos 1)) → IsTrue t ↔ Goes ds ts (comparison x Op.Gt y)
  goes_gt t i = (λ h. bounds (λ e. absurd cc) (λ d k. alone_follows record { left = y; right = x; by = neg_ℤ (pos 1) } d k (i.0 h)), λ g. i.1 (back g))
    where
      back : Goes ds ts (comparison x Op.Gt y) → Follows ds ts y x (neg_ℤ (pos 1))
      back (bounds n f) = f record { left = y; right = x; by = neg_ℤ (pos 1) } first
      back (less e f) = absurd cc
      back (greater e f) = absurd cc

  pub goes_ge : (t : Bool) → IsTrue t ↔ Follows ds ts y x (pos 0) → IsTrue t ↔ Goes ds ts (comparison x Op.Ge y)
  goes_ge t i = (λ h. bounds (λ e. absurd cc) (λ d k. alone_follows record { left = y; right = x; by = pos 0 } d k (i.0 h)), λ g. i.1 (back g))
    where
      back : Goes ds ts (comparison x Op.Ge y) → Follows ds ts y x (pos 0)
      back (bounds n f) = f record { left = y; right = x; by = pos 0 } first
      back (less e f) = absurd cc
      back (greater e f) = absurd cc

  pub eq_back : Goes ds ts (comparison x Op.Eq y) → Follows ds ts x y (pos 0)
  eq_back (bounds n f) = f record { left = x; right = y; by = pos 0 } first
  eq_back (less e f) = absurd cc
  eq_back (greater e f) = absurd cc

  pub ne_less : Follows ds ts x y (neg_ℤ (pos 1)) → Goes ds ts (comparison x Op.Ne y)
  ne_less f = less refl f

  pub goes_eq : (s t : Bool) → IsTrue s ↔ Follows ds ts x y (pos 0) → IsTrue t ↔ Follows ds ts y x (pos 0) → IsTrue (s && t) ↔ Goes ds ts (comparison x Op.Eq y)
  goes_eq s t i j = (λ h. bounds (λ e. absurd cc) (λ d k. both d k (i.0 (and-left s t h)) (j.0 (and-right s t h))), λ g. and-both s t (i.1 (back g)) (j.1 (forth g)))
    where
      both : (d : Difference) → Has (bounds_of Op.Eq x y) d → Follows ds ts x y (pos 0) → Follows ds ts y x (pos 0) → Follows ds ts d.left d.right d.by
      both d first f g = f
      both d (later first) f g = g
      both d (later (later h)) f g = Has-nil h

      back : Goes ds ts (comparison x Op.Eq y) → Follows ds ts x y (pos 0)
      back (bounds n f) = f record { left = x; right = y; by = pos 0 } first
      back (less e f) = absurd cc
      back (greater e f) = absurd cc

      forth : Goes ds ts (comparison x Op.Eq y) → Follows ds ts y x (pos 0)
      forth (bounds n f) = f record { left = y; right = x; by = pos 0 } (later first)
      forth (less e f) = absurd cc
      forth (greater e f) = absurd cc

  pub goes_ne : (s t : Bool) → IsTrue s ↔ Follows ds ts x y (neg_ℤ (pos 1)) → IsTrue t ↔ Follows ds ts y x (neg_ℤ (pos 1)) → IsTrue (s || t) ↔ Goes ds ts (comparison x Op.Ne y)
  goes_ne s t i j = (λ h. elim (or-cases s t h) [ inl k ↦ less refl (i.0 k) | inr k ↦ greater refl (j.0 k) ], back)
    where
      back : Goes ds ts (comparison x Op.Ne y) → IsTrue (s || t)
      back (bounds n f) = absurd (n refl)
      back (less e f) = or-left s t (i.1 f)
      back (greater e f) = or-right s t (j.1 f)
