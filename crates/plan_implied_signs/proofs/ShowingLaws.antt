-- What conditions and signs of a part say of the rows that it admits.
use Rattle.std.proofs.Common.{◌≡◌, ℕ, zero, suc, ◌<◌, ℤ, pos, ◌≤ℤ◌, ◌+ℤ◌, true, not, ◌||◌, List, [], ◌∷◌, length, get_or, slice_get, Option, Some, None, inl, inr, sym, ap, ap₂, ◌∙◌, subst, arith}
use Rattle.std.specs.Option.{IfSome}
use Rattle.std.specs.List.{list_all}
use Rattle.std.proofs.lemmas.Int.{ints}
use Rattle.sem_query.specs.declared.atom.Attr.{Attr}
use Rattle.sem_query.specs.declared.atom.Element.{Element}
use Rattle.sem_query.specs.declared.atom.Element.TheVariants as element
use Rattle.sem_query.specs.declared.atom.Op.{Op}
use Rattle.sem_query.specs.declared.part.Pair.{Pair}
use Rattle.sem_query.specs.declared.part.Sign.{Sign}
use Rattle.sem_query.specs.declared.plan.LocalCondition.{LocalCondition}
use Rattle.sem_query.specs.declared.plan.PartPlan.{PartPlan}
use Rattle.sem_query.specs.Assignment.{Assignment, value, compares}
use Rattle.sem_query.specs.Query.{QueryValue, attr_eq}
use Rattle.sem_query.specs.Parts.{pair, pairs, pair_eq, is_within, sign_at}
use Rattle.sem_query.specs.Plan.{dims_at}
use Rattle.sem_query.specs.Admission.{alone, sign_eq, in_range, keeps_signs, keeps_local}
use Rattle.sem_query.proofs.Once.{pair_same}
use Rattle.sem_laws.proofs.Tests.{and-left, and-right, or-cases, not_both, sign_eq-is, attr_eq-is}
use Rattle.plan_implied_signs.specs.declared.showing.Stated.{Stated}
use Rattle.plan_implied_signs.specs.Showing.{IsOver, Stands, keeps_condition, IsKnown, AreEqualIn, ShowsSign}

-- a condition on a column and an integer, over a pair of the column and another integer
pub over_integer : (a : Attr) (t : LocalCondition) (k m n : ℤ) → attr_eq t.left a ≡ true → t.right ≡ element.Const m → k +ℤ n ≡ m +ℤ t.by
    → IsOver (pair a (element.Const k)) t t.op n
over_integer a t k m n left right moved v =
    ap₂ (λ (b : Attr) (e : Element). compares t.op (v b.column) (value e (alone v) +ℤ t.by)) (attr_eq-is t.left a left) right
    ∙ ap (compares t.op (v a.column)) (sym moved)

-- a condition on two columns, over the pair of both the other way round
pub over_flipped : (a b c : Attr) (t : LocalCondition) (o : Op) (n : ℤ) → t.right ≡ element.Attr c → attr_eq t.left b ≡ true → attr_eq c a ≡ true
    → ((x y : ℤ) → compares t.op y (x +ℤ t.by) ≡ compares o x (y +ℤ n)) → IsOver (pair a (element.Attr b)) t o n
over_flipped a b c t o n right left other turned v =
    ap₂ (λ (d : Attr) (e : Element). compares t.op (v d.column) (value e (alone v) +ℤ t.by)) (attr_eq-is t.left b left) (right ∙ ap (λ (d : Attr). element.Attr d) (attr_eq-is c a other))
    ∙ turned (v a.column) (v b.column)

-- ends of ranges
pub below_ends : (x y h l k : ℤ) → l +ℤ k ≡ h → x ≤ℤ h → l ≤ℤ y → compares Op.Le x (y +ℤ k) ≡ true
below_ends x y h l k moved high low = grind (arith, ints, moved, high, low)

pub above_ends : (x y h l k : ℤ) → h +ℤ k ≡ l → l ≤ℤ x → y ≤ℤ h → compares Op.Ge x (y +ℤ k) ≡ true
above_ends x y h l k moved low high = grind (arith, ints, moved, low, high)

-- what stands where a list has no condition
abbrev pub no_condition : LocalCondition
no_condition = record { left = record { stream = 0; column = 0 }; op = Op.Lt; right = Element.Attr (record { stream = 0; column = 0 }); by = pos 0 }

-- a row that meets the conditions of a part meets each of them
pub kept_at : (place : ℕ) (w : Assignment) (ts : List LocalCondition) (i : ℕ) (d : LocalCondition) → i < length ts → keeps_local place w ts ≡ true → keeps_condition place w (get_or ts i d) ≡ true
kept_at place w [] i d within kept = absurd (omega (arith, within))
kept_at place w (t ∷ ts) zero d within kept = and-left (keeps_condition place w t) (keeps_local place w ts) kept
kept_at place w (t ∷ ts) (suc i) d within kept = kept_at place w ts i d (omega (arith, within)) (and-right (keeps_condition place w t) (keeps_local place w ts) kept)

-- the sign of a part at a pair of the stream
sign_kept : (place : ℕ) (w : Assignment) (ps : List Pair) (ss : List Sign) (i : ℕ) (p : Pair) (s : Sign) → keeps_signs place w ps ss ≡ true → slice_get ps i ≡ Some p → slice_get ss i ≡ Some s
    → is_within place p.left p.right ≡ true → sign_at w p ≡ s
sign_kept place w [] ss i p s kept at_i has within = absurd cc
sign_kept place w (r ∷ ps) [] i p s kept at_i has within = absurd cc
sign_kept place w (r ∷ ps) (t ∷ ss) zero p s kept at_i has within =
    let one : r ≡ p = cc in
    let two : t ≡ s = cc in
    elim (or-cases (not (is_within place r.left r.right)) (sign_eq (sign_at w r) t) (and-left _ (keeps_signs place w ps ss) kept)) [
      | inl other ↦ absurd (not_both (not (is_within place p.left p.right)) (subst (λ (x : Pair). not (is_within place x.left x.right) ≡ true) one other) (ap not within))
      | inr same ↦ ap (sign_at w) (sym one) ∙ sign_eq-is (sign_at w r) t same ∙ two
    ]
sign_kept place w (r ∷ ps) (t ∷ ss) (suc i) p s kept at_i has within =
    sign_kept place w ps ss i p s (and-right (not (is_within place r.left r.right) || sign_eq (sign_at w r) t) _ kept) at_i has within

pub own_shows : (q : QueryValue) (part : PartPlan) (place i : ℕ) (own p : Pair) (o : Option Sign) → slice_get (pairs q) i ≡ Some own → pair_eq own p ≡ true
    → is_within place own.left own.right ≡ true → o ≡ slice_get part.signs.items i → IfSome o (λ s. ShowsSign q part place p s)
own_shows q part place i own p None at_i same within is = tt
own_shows q part place i own p (Some s) at_i same within is = λ v h.
    ap (sign_at (alone v)) (sym (pair_same own p same))
    ∙ sign_kept place (alone v) (pairs q) part.signs.items i own s (and-left _ (keeps_local place (alone v) part.local) (and-left _ (list_all (in_range v) (dims_at part place)) h)) at_i (sym is) within

module _ (part : PartPlan) (place : ℕ) (ts : List LocalCondition) (i : ℕ) (d : LocalCondition) (are : ts ≡ part.local) (within : i < length ts) where
  -- a row that meets all conditions meets this one
  one_kept : (v : ℕ → ℤ) → keeps_local place (alone v) part.local ≡ true → keeps_condition place (alone v) (get_or ts i d) ≡ true
  one_kept v kept = kept_at place (alone v) ts i d within (subst (λ (us : List LocalCondition). keeps_local place (alone v) us ≡ true) (sym are) kept)

  -- what it says
  pub equal_kept : (a b : Attr) → ((v : ℕ → ℤ) → keeps_condition place (alone v) (get_or ts i d) ≡ true → v a.column ≡ v b.column) → AreEqualIn part place a b
  equal_kept a b says v kept = says v (one_kept v kept)

  pub high_kept : (a : Attr) (m : ℤ) → ((v : ℕ → ℤ) → keeps_condition place (alone v) (get_or ts i d) ≡ true → v a.column ≤ℤ m)
      → (v : ℕ → ℤ) → keeps_local place (alone v) part.local ≡ true → v a.column ≤ℤ m
  high_kept a m says v kept = says v (one_kept v kept)

  pub low_kept : (a : Attr) (m : ℤ) → ((v : ℕ → ℤ) → keeps_condition place (alone v) (get_or ts i d) ≡ true → m ≤ℤ v a.column)
      → (v : ℕ → ℤ) → keeps_local place (alone v) part.local ≡ true → m ≤ℤ v a.column
  low_kept a m says v kept = says v (one_kept v kept)

  pub stated_kept : (p : Pair) (o : Option Stated) → IfSome o (λ s. (v : ℕ → ℤ) → keeps_condition place (alone v) (get_or ts i d) ≡ true → Stands (alone v) p s.op s.by) → IsKnown part place p o
  stated_kept p None says v kept = tt
  stated_kept p (Some s) says v kept = says v (one_kept v kept)
