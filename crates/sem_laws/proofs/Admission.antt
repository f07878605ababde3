-- A combination is in a part exactly where the part admits each of its rows and its links hold.
use Rattle.std.proofs.Common.{◌≡◌, ◌≢◌, ℕ, zero, suc, ◌+◌, ◌<◌, ◌⊎◌, inl, inr, List, [], ◌∷◌, map, length, cond, not, Bool, true, ◌&&◌, refl, sym, ap, ◌∙◌, subst, arith, nat_eq, nat_lt, ℤ, int_lt, ◌<ℤ◌, ◌≤ℤ◌}
use Rattle.std.proofs.lemmas.Int.{ints}
use Rattle.std.proofs.lemmas.Bool.Decides.{Decides-int_eq}
use Rattle.std.proofs.lemmas.List.Elements.{All-contains}
use Rattle.std.specs.List.{list_all}
use Rattle.std.specs.Ordering.{int_eq}
use Rattle.sem_query.specs.declared.atom.Element.TheVariants as element
use Rattle.sem_query.proofs.Has.{Has, Has-from_contains, Contains-from_has}
use Rattle.sem_query.proofs.Local.{pair_named}
use Rattle.sem_query.proofs.Kept.{kept_at, kept_if}
use Rattle.sem_query.proofs.Meets.{links_suffice}
use Rattle.sem_laws.proofs.Sums.{passes}
use Rattle.sem_laws.proofs.Tests.{and-left, and-right, and-both, true_or_false, all_at, all_if, nat_true}
use Rattle.sem_query.specs.declared.atom.Attr.{Attr}
use Rattle.sem_query.specs.declared.part.Pair.{Pair}
use Rattle.sem_query.specs.declared.atom.Element.{Element}
use Rattle.sem_query.specs.declared.part.Sign.{Sign}
use Rattle.sem_query.specs.Query.{QueryValue, attrs_of, attr_lt}
use Rattle.sem_query.specs.Assignment.{Assignment, compares, KeepsDomains}
use Rattle.sem_query.specs.Parts.{pairs, is_within, sign_at, InPart, IsPart}
use Rattle.sem_query.specs.Links.{IsEquality}
use Rattle.sem_query.specs.declared.plan.Dim.{Dim}
use Rattle.sem_query.specs.Meaning.{at_place, joined}
use Rattle.sem_query.specs.declared.plan.PartPlan.{PartPlan}
use Rattle.sem_query.specs.Plan.{IsPartPlan, IsDim, stream_at, link}
use Rattle.sem_laws.proofs.Queries.{IsQuery}
use Rattle.sem_query.specs.Admission.{alone, keeps_signs, keeps_local, in_range, admits}
use Rattle.sem_query.specs.Combinations.{linked}

-- a pair of the stream has its left column there
pub within-stream : (place : ℕ) (a : Attr) (x : Element) → is_within place a x ≡ true → a.stream ≡ place
within-stream place a (element.Attr b) h = nat_true _ _ (and-left (nat_eq a.stream place) (nat_eq b.stream place) h)
within-stream place a (element.Const k) h = nat_true _ _ h

-- the sign of such a pair reads one row
pub sign-alone : (vs : List (ℕ → ℤ)) (place : ℕ) (p : Pair) → is_within place p.left p.right ≡ true
    → sign_at (alone (at_place vs place)) p ≡ sign_at (joined vs) p
sign-alone vs place p h = right p.right h
  where
    left : alone (at_place vs place) p.left ≡ joined vs p.left
    left = ap (λ n. at_place vs n p.left.column) (sym (within-stream place p.left p.right h))

    right : (x : Element) → is_within place p.left x ≡ true → sign_at (alone (at_place vs place)) record { left = p.left; right = x } ≡ sign_at (joined vs) record { left = p.left; right = x }
    right (element.Attr b) f =
        let e : b.stream ≡ place = nat_true _ _ (and-right (nat_eq p.left.stream place) (nat_eq b.stream place) f) in
        let g : at_place vs place b.column ≡ at_place vs b.stream b.column = ap (λ n. at_place vs n b.column) (sym e) in
        rw (left, g) refl
    right (element.Const k) f = rw left refl

-- tests at all places, and at one of them
pub passes_at : (t : ℕ → (ℕ → ℤ) → Bool) (n : ℕ) (vs : List (ℕ → ℤ)) (i m : ℕ) → passes t n vs ≡ true → i < length vs → m ≡ n + i
    → t m (at_place vs i) ≡ true
passes_at t n [] i m h l e = absurd (omega (arith, l))
passes_at t n (v ∷ vs) zero m h l e = let f : n ≡ m = omega (arith, e) in subst (λ k. t k v ≡ true) f (and-left _ _ h)
passes_at t n (v ∷ vs) (suc i) m h l e = passes_at t (suc n) vs i m (and-right (t n v) _ h) (omega (arith, l)) (omega (arith, e))

pub passes_if : (t : ℕ → (ℕ → ℤ) → Bool) (n : ℕ) (vs : List (ℕ → ℤ))
    → ((i m : ℕ) → i < length vs → m ≡ n + i → t m (at_place vs i) ≡ true) → passes t n vs ≡ true
passes_if t n [] h = refl
passes_if t n (v ∷ vs) h =
    and-both _ _ (h 0 n (omega arith) (omega arith)) (passes_if t (suc n) vs (λ i m l e. h (suc i) m (omega (arith, l)) (omega (arith, e))))

pub range_if : (v : ℕ → ℤ) (d : Dim) → d.lo ≤ℤ v d.attr.column → v d.attr.column ≤ℤ d.hi → in_range v d ≡ true
range_if v d h k = range (v d.attr.column) d.lo d.hi h k
  where
    range : (x l u : ℤ) → l ≤ℤ x → x ≤ℤ u → (not (int_lt x l) && not (int_lt u x)) ≡ true
    range x l u h k = grind (arith, ints)

-- of two attributes of different streams one is first
pub one_first : (x y : Attr) → x.stream ≢ y.stream → (attr_lt x y ≡ true) ⊎ (attr_lt y x ≡ true)
one_first x y n = elim (true_or_false (nat_lt x.stream y.stream)) [
  | inl e ↦ inl (ap (λ b. cond b true (nat_eq x.stream y.stream && nat_lt x.column y.column)) e)
  | inr e ↦ inr (let f : nat_lt y.stream x.stream ≡ true = grind (arith, e, n) in ap (λ b. cond b true (nat_eq y.stream x.stream && nat_lt y.column x.column)) f)
]

pub equality_turned : (q : QueryValue) (s : List Sign) (x y : Attr) → IsEquality q s x y → IsEquality q s y x
equality_turned q s x y e = record {
  across = record { left = e.across.right; right = e.across.left; across = λ f. e.across.across (sym f) };
  equal = record { equal = λ v i. sym (e.equal.equal v i) };
}

-- each row is admitted, and the links hold
abbrev pub fits : QueryValue → PartPlan → List (ℕ → ℤ) → Bool
fits q part vs = passes (admits q part) 0 vs && linked part (joined vs)

module _ (q : QueryValue) (part : PartPlan) (plan : IsPartPlan q part) (some : IsPart q part.signs.items) (well : IsQuery q) (vs : List (ℕ → ℤ)) (whole : length vs ≡ length q.from) where
  same_kept : (place : ℕ) (v : Assignment)
      → keeps_signs place v (pairs q) (map (sign_at some.one) (pairs q)) ≡ keeps_signs place v (pairs q) part.signs.items
  same_kept place v = ap (keeps_signs place v (pairs q)) some.inside.signs

  abbrev InPartNow : Type 0
  InPartNow = InPart q part.signs.items (joined vs)

  signs_admitted : InPartNow → (place : ℕ) → keeps_signs place (alone (at_place vs place)) (pairs q) part.signs.items ≡ true
  signs_admitted h place =
      ap (keeps_signs place (alone (at_place vs place)) (pairs q)) (sym h.signs)
      ∙ kept_if place (alone (at_place vs place)) (joined vs) (pairs q) (λ p k e. sign-alone vs place p e)

  ranges_admitted : InPartNow → (place : ℕ) → place < length q.from
      → list_all (in_range (at_place vs place)) (stream_at part place).dims.items ≡ true
  ranges_admitted h place l = all_if (in_range (at_place vs place)) (stream_at part place).dims.items one
    where
      one : (d : Dim) → Has (stream_at part place).dims.items d → in_range (at_place vs place) d ≡ true
      one d k =
          let i : IsDim q part.signs.items place d
          = All-contains (IsDim q part.signs.items place) (stream_at part place).dims.items d (plan.streams place l).dims.each (Contains-from_has (stream_at part place).dims.items d k) in
          let e : joined vs d.attr ≡ at_place vs place d.attr.column = ap (λ n. at_place vs n d.attr.column) i.here in
          range_if (at_place vs place) d (subst (λ x. d.lo ≤ℤ x) e (i.low.above (joined vs) h)) (subst (λ x. x ≤ℤ d.hi) e (i.high.below (joined vs) h))

  all_linked : InPartNow → linked part (joined vs) ≡ true
  all_linked h = and-both _ _ (and-both _ _
      (all_if _ part.equal.items (λ l k. (Decides-int_eq _ _).1 (((plan.equal l.left l.right).0 (Contains-from_has part.equal.items l k)).1.equal.equal (joined vs) h)))
      (all_if _ part.less.items (λ l k. less_true _ _ (((plan.less l.left l.right).0 (Contains-from_has _ l k)).less.less (joined vs) h))))
      (ap (list_all (λ l. compares l.op (joined vs l.left) (joined vs l.right))) plan.soft)
    where
      less_true : (x y : ℤ) → x <ℤ y → int_lt x y ≡ true
      less_true x y h = grind (arith, ints)

  pub fits-if : InPartNow → fits q part vs ≡ true
  fits-if h = and-both _ _
      (passes_if (admits q part) 0 vs (λ i m l e.
      let f : i ≡ m = omega (arith, e) in
      subst (λ k. admits q part k (at_place vs i) ≡ true) f
      (and-both _ _ (and-both _ _ (signs_admitted h i) (ap (keeps_local i (alone (at_place vs i))) plan.local)) (ranges_admitted h i (omega (arith, l, whole))))))
      (all_linked h)

  signs_met : fits q part vs ≡ true → (place : ℕ) → keeps_signs place (joined vs) (pairs q) part.signs.items ≡ true
  signs_met h place =
      sym (same_kept place (joined vs)) ∙ kept_if place (joined vs) some.one (pairs q) one
    where
      one : (p : Pair) → Has (pairs q) p → is_within place p.left p.right ≡ true → sign_at (joined vs) p ≡ sign_at some.one p
      one p k e =
          let f : p.left.stream ≡ place = within-stream place p.left p.right e in
          let l : p.left.stream < length q.from
          = well.atoms p.left (Contains-from_has (attrs_of q.atoms) p.left (pair_named q p k).left) in
          let a : admits q part place (at_place vs place) ≡ true
          = passes_at (admits q part) 0 vs place place (and-left _ _ h) (omega (arith, whole, l, f)) (omega arith) in
          let s : keeps_signs place (alone (at_place vs place)) (pairs q) part.signs.items ≡ true = and-left _ _ (and-left _ _ a) in
          sym (sign-alone vs place p e) ∙ kept_at place (alone (at_place vs place)) some.one (pairs q) p (same_kept place _ ∙ s) k e

  pub fits-then : KeepsDomains q (joined vs) → fits q part vs ≡ true → InPartNow
  fits-then keeps h = (links_suffice q part.signs.items some (joined vs) keeps).1 record {
    signs = signs_met h;
    equal =
        λ x y e. elim (one_first x y e.across.across) [ inl l ↦ equal_from x y l e | inr l ↦ sym (equal_from y x l (equality_turned q part.signs.items x y e)) ];
    less =
        λ x y e. less_from _ _ (all_at _ part.less.items (link x y) (and-right (list_all (λ l. int_eq (joined vs l.left) (joined vs l.right)) part.equal.items) _ (and-left _ _ links)) (Has-from_contains _ _ ((plan.less x y).1 e)));
  }
    where
      equal_from : (x y : Attr) → attr_lt x y ≡ true → IsEquality q part.signs.items x y → joined vs x ≡ joined vs y
      equal_from x y l e =
          (Decides-int_eq _ _).0 (all_at (λ l. int_eq (joined vs l.left) (joined vs l.right)) part.equal.items (link x y) (and-left _ _ (and-left _ _ (and-right (passes (admits q part) 0 vs) _ h))) (Has-from_contains part.equal.items (link x y) ((plan.equal x y).1 (l, e))))

      links : linked part (joined vs) ≡ true
      links = and-right (passes (admits q part) 0 vs) _ h

      less_from : (x y : ℤ) → int_lt x y ≡ true → x <ℤ y
      less_from x y h = omega (arith, ints)
