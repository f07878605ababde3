-- What the least bounds between nodes tell of the system of a query.
use Rattle.std.proofs.Common.{◌≡◌, ◌≢◌, ℕ, suc, ◌+◌, ◌<◌, ◌≤◌, inl, inr, ◌⊎◌, ℤ, pos, neg_ℤ, ◌+ℤ◌, ◌≤ℤ◌, ◌<ℤ◌, List, [], ◌∷◌, length, Bool, true, false, cond, Option, Some, None, ◌↔◌, IsTrue, refl, sym, ◌∙◌, ap, subst, arith}
use Rattle.std.proofs.lemmas.Int.{ints}
use Rattle.std.proofs.lemmas.List.Elements.{All-contains}
use Rattle.sem_query.specs.declared.atom.Attr.{Attr}
use Rattle.sem_query.specs.declared.atom.Domain.{Domain}
use Rattle.sem_query.specs.declared.atom.Element.{Element}
use Rattle.sem_query.specs.declared.atom.Element.TheVariants as element
use Rattle.sem_query.specs.Query.{QueryValue, attr_eq, attrs_of, IsDomain, IsShort}
use Rattle.sem_query.specs.Assignment.{Assignment}
use Rattle.sem_query.proofs.Has.{Has, first, later, Contains-from_has}
use Rattle.sem_laws.proofs.Tests.{true_or_false, not_both, attr_eq-is, attr_eq-itself}
use Rattle.plan_constraints.specs.declared.constraint.Constraint.{Constraint}
use Rattle.plan_constraints.specs.Nodes.{place_of, has_node, nodes_of}
use Rattle.plan_constraints.specs.Solutions.{IsUpperAnswer, IsLowAnswer, IsHighAnswer}
use Rattle.plan_constraints.proofs.NodeFacts.{node_there, node_has, place_below, nodes_agree}
use Rattle.plan_constraints.proofs.OfDomains.{node_within}
use Rattle.sem_whole.specs.System.{Difference, system, Solves, Bound}
use Rattle.sem_whole.specs.Ranges.{Range}
use Rattle.sem_whole.specs.Kept.{IsRange}
use Rattle.sem_whole.specs.Laws.{IsLeastBound}
use Rattle.sem_whole.proofs.Nodes.{bounds_are_implied, ranges_are_told}
use Rattle.plan_whole.specs.declared.closed.Ends.{Ends}
use Rattle.plan_whole.specs.Closed.{closed_constraints, named_system, domain_ends, apart, ends_of, negated, bound_at, IsSmall, IsMet, IsModest, IsClosedSystem, IsSolvable}
use Rattle.plan_whole.proofs.Named.{named_among, range_named, bound_named, bound_all, solution}
use Rattle.plan_whole.proofs.Unnamed.{apart_least, mixed_left, mixed_right, range_unnamed}

-- ---- the least and the greatest value of a node

low_answer : (cs : List Constraint) (i : ℕ) (o : Option ℤ) → IsUpperAnswer cs 0 i o → IsLowAnswer cs i (negated o)
low_answer cs i None h = record {
  passed = λ low.
      let r = h.passed (neg_ℤ low) in
      let l : (neg_ℤ low +ℤ r.0 i) <ℤ r.0 0 = r.2 in
      let o : r.0 0 ≡ pos 0 = r.1.origin in
      (r.0, r.1, omega (arith, ints, l, o));
}
low_answer cs i (Some u) h = record {
  above = λ x v. let a : x 0 ≤ℤ (u +ℤ x i) = h.bound x v in let o : x 0 ≡ pos 0 = v.origin in omega (arith, ints, a, o);
  at = h.at;
  solves = h.solves;
  reached = (let a : h.at 0 ≡ u +ℤ h.at i = h.reached in let o : h.at 0 ≡ pos 0 = h.solves.origin in omega (arith, ints, a, o));
}

high_answer : (cs : List Constraint) (i : ℕ) (o : Option ℤ) → IsUpperAnswer cs i 0 o → IsHighAnswer cs i o
high_answer cs i None h = record {
  passed = λ high.
      let r = h.passed high in
      let l : (high +ℤ r.0 0) <ℤ r.0 i = r.2 in
      let o : r.0 0 ≡ pos 0 = r.1.origin in
      (r.0, r.1, omega (arith, ints, l, o));
}
high_answer cs i (Some u) h = record {
  below = λ x v. let a : x i ≤ℤ (u +ℤ x 0) = h.bound x v in let o : x 0 ≡ pos 0 = v.origin in omega (arith, ints, a, o);
  at = h.at;
  solves = h.solves;
  reached = (let a : h.at i ≡ u +ℤ h.at 0 = h.reached in let o : h.at 0 ≡ pos 0 = h.solves.origin in omega (arith, ints, a, o));
}

-- two columns that have one node are one
pub one_node : (xs : List Attr) (a b : Attr) → Has xs a → Has xs b → place_of xs a ≡ place_of xs b → attr_eq a b ≡ true
one_node xs a b h k e = by (attr_eq a b) refl
  where
    -- 1 at the column a, and 0 at all others
    at : Assignment
    at c = cond (attr_eq a c) (pos 1) (pos 0)

    same : at a ≡ at b
    same = sym ((nodes_agree xs at).each a h) ∙ ap (λ n. nodes_of xs at (suc n)) e ∙ (nodes_agree xs at).each b k

    by : (t : Bool) → attr_eq a b ≡ t → t ≡ true
    by true f = refl
    by false f = absurd (let g : cond (attr_eq a a) (pos 1) (pos 0) ≡ cond false (pos 1) (pos 0) = subst (λ t. at a ≡ cond t (pos 1) (pos 0)) f same in
        let m : pos 1 ≡ pos 0 = subst (λ t. cond t (pos 1) (pos 0) ≡ pos 0) (attr_eq-itself a) g in omega (arith, ints, m))

-- a bound follows where the least one is at most it
pub met_bound : (ds : List Difference) (x y : Element) (o : Option ℤ) (c : ℤ) (b : Bool) → IsLeastBound ds x y o → IsTrue b ↔ IsMet o c → IsTrue b ↔ Bound ds x y c
met_bound ds x y None c b least t = ((λ h. absurd (t.0 h)), (λ k. absurd (least c k)))
met_bound ds x y (Some u) c b least t = (
  (λ h. let i = t.0 h in λ v s. (let m = least.0 v s in omega (arith, ints, m, i))),
  (λ k. t.1 (least.1 c k)),
)

-- the ends of a domain have at most 15 digits
abbrev AreShort : List Domain → Type 0
AreShort ds = (d : Domain) → Has ds d → IsShort d.lo × IsShort d.hi

small_low : (ds : List Domain) (a : Attr) → AreShort ds → IsSmall (domain_ends ds a).lo
small_low [] a h = tt
small_low (d ∷ ds) a h = by (attr_eq d.attr a) (small_low ds a (λ e k. h e (later k)))
  where
    by : (b : Bool) → IsSmall (domain_ends ds a).lo → IsSmall (cond b (let e : Ends = record { lo = Some d.lo; hi = Some d.hi } in e) (domain_ends ds a)).lo
    by true k = (let i = (h d first).0.low in omega (arith, ints, i), let i = (h d first).0.high in omega (arith, ints, i))
    by false k = k

small_high : (ds : List Domain) (a : Attr) → AreShort ds → IsSmall (domain_ends ds a).hi
small_high [] a h = tt
small_high (d ∷ ds) a h = by (attr_eq d.attr a) (small_high ds a (λ e k. h e (later k)))
  where
    by : (b : Bool) → IsSmall (domain_ends ds a).hi → IsSmall (cond b (let e : Ends = record { lo = Some d.lo; hi = Some d.hi } in e) (domain_ends ds a)).hi
    by true k = (let i = (h d first).1.low in omega (arith, ints, i), let i = (h d first).1.high in omega (arith, ints, i))
    by false k = k

module _ (q : QueryValue) (bounds : List (Option ℤ)) (k : IsClosedSystem q bounds) where
  there : (a : Attr) → place_of (attrs_of q.atoms) a < length (attrs_of q.atoms) → Has (attrs_of q.atoms) a
  there a l = node_has (attrs_of q.atoms) a (node_within (attrs_of q.atoms) a l)

  not_there : (a : Attr) → length (attrs_of q.atoms) ≤ place_of (attrs_of q.atoms) a → Has (attrs_of q.atoms) a → ⊥
  not_there a l h = let m = place_below (attrs_of q.atoms) a h in omega (arith, l, m)

  some : (v : Assignment) × Solves (system q) v
  some = solution q k.within k.satisfiable

  -- the ends of a node are those of its column
  pub ends_told : (a : Attr) (e : Ends) (n : ℕ) → place_of (attrs_of q.atoms) a < length (attrs_of q.atoms) → n ≡ place_of (attrs_of q.atoms) a + 1
      → e.lo ≡ negated (bound_at bounds 0 n) → e.hi ≡ bound_at bounds n 0 → IsRange (system q) a (ends_of e)
  ends_told a e n l m lo hi =
      let s : n ≡ suc (place_of (attrs_of q.atoms) a) = omega (arith, m) in
      let low : IsLowAnswer (closed_constraints q) n e.lo = subst (IsLowAnswer (closed_constraints q) n) (sym lo) (low_answer (closed_constraints q) n (bound_at bounds 0 n) (k.told 0 n (omega arith) (omega (arith, l, m)) (omega (arith, m)))) in
      let high : IsHighAnswer (closed_constraints q) n e.hi = subst (IsHighAnswer (closed_constraints q) n) (sym hi) (high_answer (closed_constraints q) n (bound_at bounds n 0) (k.told n 0 (omega (arith, l, m)) (omega arith) (omega (arith, m)))) in
      range_named q k.within a (there a l) (ends_of e) (ranges_are_told (attrs_of q.atoms) (named_system q) (named_among q) a (Contains-from_has _ a (there a l)) e.lo e.hi
      (subst (λ n. IsLowAnswer (closed_constraints q) n e.lo) s low) (subst (λ n. IsHighAnswer (closed_constraints q) n e.hi) s high))

  pub domain_told : (a : Attr) → length (attrs_of q.atoms) ≤ place_of (attrs_of q.atoms) a → IsRange (system q) a (ends_of (domain_ends q.domains a))
  domain_told a l = range_unnamed q k.within a (not_there a l) some.0 some.1

  short : AreShort q.domains
  short e h = let i : IsDomain q e = All-contains (IsDomain q) q.domains e k.within.domains (Contains-from_has q.domains e h) in (i.low, i.high)

  pub domain_low : (a : Attr) → IsSmall (domain_ends q.domains a).lo
  domain_low a = small_low q.domains a short

  pub domain_high : (a : Attr) → IsSmall (domain_ends q.domains a).hi
  domain_high a = small_high q.domains a short

  pub above_itself : (a b : Attr) → attr_eq a b ≡ true → IsLeastBound (system q) (element.Attr a) (element.Attr b) (Some (pos 0))
  above_itself a b e =
      let f : a ≡ b = attr_eq-is a b e in (
        λ v s. (let g : v a ≡ v b = ap v f in omega (arith, ints, g)),
        λ c h. (let m = h some.0 some.1 in let g : some.0 a ≡ some.0 b = ap some.0 f in omega (arith, ints, m, g)),
      )

  upper_told : (a b : Attr) → Has (attrs_of q.atoms) a → Has (attrs_of q.atoms) b → (u : Option ℤ) → IsUpperAnswer (closed_constraints q) (suc (place_of (attrs_of q.atoms) a)) (suc (place_of (attrs_of q.atoms) b)) u
      → IsLeastBound (system q) (element.Attr a) (element.Attr b) u
  upper_told a b h i None n = λ c m.
      (let j = (bounds_are_implied (attrs_of q.atoms) (named_system q) (named_among q) (element.Attr a) (element.Attr b) c (Contains-from_has _ a h) (Contains-from_has _ b i)).0 (bound_named q k.within (element.Attr a) (element.Attr b) c h i m) in
      let p = n.passed c in
      let o = j.met p.0 p.1 in
      let l = p.2 in
      omega (arith, ints, o, l))
  upper_told a b h i (Some u) n = (
    bound_all q k.within (element.Attr a) (element.Attr b) u ((bounds_are_implied (attrs_of q.atoms) (named_system q) (named_among q) (element.Attr a) (element.Attr b) u (Contains-from_has _ a h) (Contains-from_has _ b i)).1
        record { met = λ x s. (let m = n.bound x s in omega (arith, ints, m)) }),
    λ c m.
        (let j = (bounds_are_implied (attrs_of q.atoms) (named_system q) (named_among q) (element.Attr a) (element.Attr b) c (Contains-from_has _ a h) (Contains-from_has _ b i)).0 (bound_named q k.within (element.Attr a) (element.Attr b) c h i m) in
        let o = j.met n.at n.solves in
        let r = n.reached in
        omega (arith, ints, o, r)),
  )

  pub above_named : (a b : Attr) (i j : ℕ) (u : Option ℤ) → place_of (attrs_of q.atoms) a < length (attrs_of q.atoms) → place_of (attrs_of q.atoms) b < length (attrs_of q.atoms)
      → attr_eq a b ≡ false → i ≡ place_of (attrs_of q.atoms) a + 1 → j ≡ place_of (attrs_of q.atoms) b + 1 → u ≡ bound_at bounds i j → IsLeastBound (system q) (element.Attr a) (element.Attr b) u
  above_named a b i j u l m differ e f g =
      let s : i ≡ suc (place_of (attrs_of q.atoms) a) = omega (arith, e) in
      let t : j ≡ suc (place_of (attrs_of q.atoms) b) = omega (arith, f) in
      let told : IsUpperAnswer (closed_constraints q) i j u = subst (IsUpperAnswer (closed_constraints q) i j) (sym g) (k.told i j (omega (arith, l, e)) (omega (arith, m, f)) (λ o. apart_nodes (omega (arith, e, f, o)))) in
      upper_told a b (there a l) (there b m) u (subst (λ j. IsUpperAnswer (closed_constraints q) (suc (place_of (attrs_of q.atoms) a)) j u) t (subst (λ i. IsUpperAnswer (closed_constraints q) i j u) s told))
    where
      apart_nodes : place_of (attrs_of q.atoms) a ≡ place_of (attrs_of q.atoms) b → ⊥
      apart_nodes o = not_both (attr_eq a b) (one_node (attrs_of q.atoms) a b (there a l) (there b m) o) differ

  pub above_apart : (a b : Attr) → attr_eq a b ≡ false → ((place_of (attrs_of q.atoms) a < length (attrs_of q.atoms)) × (place_of (attrs_of q.atoms) b < length (attrs_of q.atoms)) → ⊥)
      → (r s : Range) → IsRange (system q) a r → IsRange (system q) b s → IsLeastBound (system q) (element.Attr a) (element.Attr b) (apart r.hi s.lo)
  above_apart a b e n r s x y = apart_least q a b some.0 some.1 mixed r.hi s.lo x.high y.low
    where
      differ : a ≡ b → ⊥
      differ f = let g : attr_eq b b ≡ true = attr_eq-itself b in let h : attr_eq a b ≡ true = subst (λ z. attr_eq z b ≡ true) (sym f) g in not_both (attr_eq a b) h e

      mixed : (c : ℤ) → Bound (system q) (element.Attr a) (element.Attr b) c → (v w : Assignment) → Solves (system q) v → Solves (system q) w → w a ≤ℤ (c +ℤ v b)
      mixed c m v w o i = elim (true_or_false (has_node (attrs_of q.atoms) a)) [
        | inl t ↦ mixed_right q k.within b (λ h. n (place_below (attrs_of q.atoms) a (node_has (attrs_of q.atoms) a t), place_below (attrs_of q.atoms) b h)) a (λ f. differ (sym f)) c m v w o i
        | inr t ↦ mixed_left q k.within a (λ h. not_both (has_node (attrs_of q.atoms) a) (node_there (attrs_of q.atoms) a h) t) b differ c m v w o i
      ]

  -- the same where the attributes and the places are known by equations
  pub ends_read : (xs : List Attr) (p n : ℕ) (a : Attr) (e : Ends) → xs ≡ attrs_of q.atoms → p ≡ place_of xs a → p < length xs → n ≡ p + 1
      → e.lo ≡ negated (bound_at bounds 0 n) → e.hi ≡ bound_at bounds n 0 → IsRange (system q) a (ends_of e)
  ends_read xs p n a e same at l m lo hi =
      let f : p ≡ place_of (attrs_of q.atoms) a = subst (λ xs. p ≡ place_of xs a) same at in
      let g : p < length (attrs_of q.atoms) = subst (λ xs. p < length xs) same l in
      ends_told a e n (subst (λ p. p < length (attrs_of q.atoms)) f g) (subst (λ p. n ≡ p + 1) f m) lo hi

  -- and the bounds of a node below and above 0 are within limits
  pub small_read : (xs : List Attr) (i j : ℕ) → xs ≡ attrs_of q.atoms → i ≤ length xs → j ≤ length xs → i ≢ j → IsSmall (bound_at bounds i j)
  small_read xs i j same l m n = k.small i j (subst (λ xs. i ≤ length xs) same l) (subst (λ xs. j ≤ length xs) same m) n

  pub domain_read : (xs : List Attr) (ds : List Domain) (p : ℕ) (a : Attr) (e : Ends) → xs ≡ attrs_of q.atoms → ds ≡ q.domains → p ≡ place_of xs a → length xs ≤ p → e ≡ domain_ends ds a → IsRange (system q) a (ends_of e)
  domain_read xs ds p a e same own at l f =
      let g : length (attrs_of q.atoms) ≤ place_of (attrs_of q.atoms) a = subst (λ xs. length xs ≤ place_of xs a) same (subst (λ p. length xs ≤ p) at l) in
      subst (λ e. IsRange (system q) a (ends_of e)) (sym (f ∙ ap (λ ds. domain_ends ds a) own)) (domain_told a g)

  pub low_read : (ds : List Domain) (a : Attr) (e : Ends) → ds ≡ q.domains → e ≡ domain_ends ds a → IsSmall e.lo
  low_read ds a e own f = subst (λ e. IsSmall e.lo) (sym (f ∙ ap (λ ds. domain_ends ds a) own)) (domain_low a)

  pub high_read : (ds : List Domain) (a : Attr) (e : Ends) → ds ≡ q.domains → e ≡ domain_ends ds a → IsSmall e.hi
  high_read ds a e own f = subst (λ e. IsSmall e.hi) (sym (f ∙ ap (λ ds. domain_ends ds a) own)) (domain_high a)

  pub upper_read : (xs : List Attr) (l r i j : ℕ) (a b : Attr) (u : Option ℤ) → xs ≡ attrs_of q.atoms → l ≡ place_of xs a → r ≡ place_of xs b → l < length xs → r < length xs → attr_eq a b ≡ false → i ≡ l + 1 → j ≡ r + 1
      → u ≡ bound_at bounds i j → IsLeastBound (system q) (element.Attr a) (element.Attr b) u × IsModest u
  upper_read xs l r i j a b u same at beside m n differ e f h =
      let al : l ≡ place_of (attrs_of q.atoms) a = subst (λ xs. l ≡ place_of xs a) same at in
      let ar : r ≡ place_of (attrs_of q.atoms) b = subst (λ xs. r ≡ place_of xs b) same beside in
      let ml : place_of (attrs_of q.atoms) a < length (attrs_of q.atoms) = subst (λ p. p < length (attrs_of q.atoms)) al (subst (λ xs. l < length xs) same m) in
      let mr : place_of (attrs_of q.atoms) b < length (attrs_of q.atoms) = subst (λ p. p < length (attrs_of q.atoms)) ar (subst (λ xs. r < length xs) same n) in
      let ei : i ≡ place_of (attrs_of q.atoms) a + 1 = subst (λ p. i ≡ p + 1) al e in
      let ej : j ≡ place_of (attrs_of q.atoms) b + 1 = subst (λ p. j ≡ p + 1) ar f in (
        above_named a b i j u ml mr differ ei ej h,
        modest u (subst IsSmall (sym h) (k.small i j (omega (arith, ml, ei)) (omega (arith, mr, ej))
            (λ o. not_both (attr_eq a b) (one_node (attrs_of q.atoms) a b (there a ml) (there b mr) (omega (arith, ei, ej, o))) differ))),
      )
    where
      modest : (u : Option ℤ) → IsSmall u → IsModest u
      modest None h = tt
      modest (Some u) h = (let l = h.0 in omega (arith, ints, l), let l = h.1 in omega (arith, ints, l))

  pub apart_read : (xs : List Attr) (l r : ℕ) (a b : Attr) (x y : Ends) (o : Option ℤ) → xs ≡ attrs_of q.atoms → l ≡ place_of xs a → r ≡ place_of xs b → attr_eq a b ≡ false → ((l < length xs) × (r < length xs) → ⊥)
      → IsRange (system q) a (ends_of x) → IsRange (system q) b (ends_of y) → o ≡ apart x.hi y.lo → IsLeastBound (system q) (element.Attr a) (element.Attr b) o
  apart_read xs l r a b x y o same at beside differ n i j e =
      let al : l ≡ place_of (attrs_of q.atoms) a = subst (λ xs. l ≡ place_of xs a) same at in
      let ar : r ≡ place_of (attrs_of q.atoms) b = subst (λ xs. r ≡ place_of xs b) same beside in
      let m : (l < length (attrs_of q.atoms)) × (r < length (attrs_of q.atoms)) → ⊥ = subst (λ xs. (l < length xs) × (r < length xs) → ⊥) same n in
      subst (IsLeastBound (system q) (element.Attr a) (element.Attr b)) (sym e)
      (above_apart a b differ (λ k. m (subst (λ p. p < length (attrs_of q.atoms)) (sym al) k.0, subst (λ p. p < length (attrs_of q.atoms)) (sym ar) k.1)) (ends_of x) (ends_of y) i j)

  inside_or_not : (n m : ℕ) → (n < m) ⊎ (m ≤ n)
  inside_or_not n m = grind arith

  pub some_range : (a : Attr) → (r : Range) × IsRange (system q) a r
  some_range a = by (inside_or_not (place_of (attrs_of q.atoms) a) (length (attrs_of q.atoms)))
    where
      by : (place_of (attrs_of q.atoms) a < length (attrs_of q.atoms)) ⊎ (length (attrs_of q.atoms) ≤ place_of (attrs_of q.atoms) a) → (r : Range) × IsRange (system q) a r
      by (inl l) =
          let node : ℕ = place_of (attrs_of q.atoms) a + 1 in
          let e : Ends = record { lo = negated (bound_at bounds 0 node); hi = bound_at bounds node 0 } in (ends_of e, ends_told a e node l refl refl refl)
      by (inr m) = (ends_of (domain_ends q.domains a), domain_told a m)

  pub some_above : (a b : Attr) → (u : Option ℤ) × IsLeastBound (system q) (element.Attr a) (element.Attr b) u
  some_above a b = by (true_or_false (attr_eq a b)) (inside_or_not (place_of (attrs_of q.atoms) a) (length (attrs_of q.atoms))) (inside_or_not (place_of (attrs_of q.atoms) b) (length (attrs_of q.atoms)))
    where
      apart_by : attr_eq a b ≡ false → ((place_of (attrs_of q.atoms) a < length (attrs_of q.atoms)) × (place_of (attrs_of q.atoms) b < length (attrs_of q.atoms)) → ⊥)
          → (u : Option ℤ) × IsLeastBound (system q) (element.Attr a) (element.Attr b) u
      apart_by e n = (let r = some_range a in let s = some_range b in (apart r.0.hi s.0.lo, above_apart a b e n r.0 s.0 r.1 s.1))

      by : (attr_eq a b ≡ true) ⊎ (attr_eq a b ≡ false) → (place_of (attrs_of q.atoms) a < length (attrs_of q.atoms)) ⊎ (length (attrs_of q.atoms) ≤ place_of (attrs_of q.atoms) a)
          → (place_of (attrs_of q.atoms) b < length (attrs_of q.atoms)) ⊎ (length (attrs_of q.atoms) ≤ place_of (attrs_of q.atoms) b) → (u : Option ℤ) × IsLeastBound (system q) (element.Attr a) (element.Attr b) u
      by (inl e) i j = (Some (pos 0), above_itself a b e)
      by (inr e) (inl l) (inl m) =
          let i : ℕ = place_of (attrs_of q.atoms) a + 1 in
          let j : ℕ = place_of (attrs_of q.atoms) b + 1 in
          (bound_at bounds i j, above_named a b i j (bound_at bounds i j) l m e refl refl refl)
      by (inr e) (inr l) j = apart_by e (λ p. (let m = p.0 in omega (arith, l, m)))
      by (inr e) i (inr m) = apart_by e (λ p. (let l = p.1 in omega (arith, l, m)))

  pub is_solvable : IsSolvable q
  is_solvable = record { at = some.0; solves = some.1; range = some_range; above = some_above }
