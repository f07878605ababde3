-- Whether a part is the first that has its box: told by one running number, the least above all numbers from which boxes begin.
use Rattle.std.proofs.Common.{◌≡◌, ℕ, zero, suc, ◌+◌, ◌<◌, ◌≤◌, nat_eq, nat_lt, not, Bool, true, false, List, [], ◌∷◌, ◌++◌, length, take, get_or, slice_get, Some, inl, inr, refl, sym, ap, ◌∙◌, subst, arith}
use Rattle.std.specs.List.{list_all}
use Rattle.std.proofs.lemmas.Bool.Decides.{nat_tests}
use Rattle.std.proofs.lemmas.List.{take_more}
use Rattle.std.proofs.lemmas.Option.{slice_get_within, slice_get-get_or, get_or_from_slice_get}
use Rattle.sem_query.specs.declared.plan.PartPlan.{PartPlan}
use Rattle.sem_query.specs.Query.{QueryValue}
use Rattle.sem_query.specs.Plan.{stream_at}
use Rattle.sem_query.proofs.Has.{Has, first, later, Has-append_cases, Has-append_left, Has-append_right, Contains-from_has}
use Rattle.sem_laws.proofs.Tests.{all_at, and-left, and-right, any_from, any_if, nat_true, not_both, same_bool, true_or_false}
use Rattle.sem_laws.proofs.OnePartFits.{has_cases}
use Rattle.exec_part_index.specs.Owners.{has_base, BeginBehind, takes_rows, AreOwners, EachTakes}

-- a part that takes rows is the first that has its box, and the query has several streams
pub first-has : (q : QueryValue) (plan : List PartPlan) (part : PartPlan) (place i : ℕ)
    → takes_rows q plan place i part ≡ true → has_base (take i plan) part place ≡ false
first-has q plan part place i h = turned (has_base (take i plan) part place) (and-right (nat_lt 1 (length q.from)) _ h)
  where
    turned : (b : Bool) → not b ≡ true → b ≡ false
    turned true h = absurd cc
    turned false h = refl

pub has-several : (q : QueryValue) (plan : List PartPlan) (part : PartPlan) (place i : ℕ)
    → takes_rows q plan place i part ≡ true → 1 < length q.from
has-several q plan part place i h = let t : nat_lt 1 (length q.from) ≡ true = and-left (nat_lt 1 (length q.from)) _ h in grind (arith, nat_tests)

-- a part has its box where it begins
pub begins-there : (plan : List PartPlan) (part other : PartPlan) (place : ℕ) → Has plan other → (stream_at other place).base ≡ (stream_at part place).base
    → has_base plan part place ≡ true
begins-there plan part other place h e =
    let k : nat_eq (stream_at other place).base (stream_at part place).base ≡ true = grind (arith, nat_tests, e) in
    any_if (λ (p : PartPlan). nat_eq (stream_at p place).base (stream_at part place).base) plan other h k

-- all boxes of these parts at a place begin below a number
abbrev pub AreBelow : List PartPlan → ℕ → ℕ → Type 0
AreBelow plan place n = (p : PartPlan) → Has plan p → (stream_at p place).base < n

-- the number is the least of which this is so
pub record IsNextBase (plan : List PartPlan) (place n : ℕ) : Type 0 where
  pub above : AreBelow plan place n
  pub least : (m : ℕ) → AreBelow plan place m → n ≤ m

-- one part more
pub next-more : (plan : List PartPlan) (place i next now : ℕ) (part : PartPlan) → slice_get plan i ≡ Some part → IsNextBase (take i plan) place next
    → next ≤ now → (stream_at part place).base < now → ((m : ℕ) → next ≤ m → (stream_at part place).base < m → now ≤ m) → IsNextBase (take (i + 1) plan) place now
next-more plan place i next now part at old up own low = subst (λ (ps : List PartPlan). IsNextBase ps place now) (sym more) record {
  above = λ p h. elim (Has-append_cases (take i plan) (part ∷ []) p h) [
    | inl k ↦ (let b = old.above p k in omega (arith, b, up))
    | inr k ↦ elim (has_cases part p [] k) [
      | inl e ↦ subst (λ (x : PartPlan). (stream_at x place).base < now) e own
      | inr n ↦ elim n [ ]
    ]
  ];
  least = λ m h. low m (old.least m (λ p k. h p (Has-append_left (part ∷ []) k))) (h part (Has-append_right (take i plan) first));
}
  where
    more : take (i + 1) plan ≡ take i plan ++ part ∷ []
    more =
        let l : i < length plan = slice_get_within plan i part at in
        take_more plan i part l ∙ ap (λ (p : PartPlan). take i plan ++ p ∷ []) (get_or_from_slice_get plan i part part at)

-- a box that begins below that number is one that an earlier part has
pub below-is : (places : ℕ) (plan : List PartPlan) → BeginBehind places plan → (place i next : ℕ) (part : PartPlan) → place < places → slice_get plan i ≡ Some part
    → IsNextBase (take i plan) place next → nat_lt (stream_at part place).base next ≡ has_base (take i plan) part place
below-is places plan behind place i next part l at old = same_bool _ _ there back
  where
    back : has_base (take i plan) part place ≡ true → nat_lt (stream_at part place).base next ≡ true
    back h =
        let m = any_from (λ (p : PartPlan). nat_eq (stream_at p place).base (stream_at part place).base) (take i plan) h in
        let e : (stream_at m.0 place).base ≡ (stream_at part place).base = nat_true _ _ m.2 in
        let b : (stream_at m.0 place).base < next = old.above m.0 m.1 in
        let c : (stream_at part place).base < next = omega (arith, b, e) in
        grind (arith, nat_tests, c)

    there : nat_lt (stream_at part place).base next ≡ true → has_base (take i plan) part place ≡ true
    there t = elim (true_or_false (has_base (take i plan) part place)) [
      | inl h ↦ h
      | inr h ↦ absurd (
          let below : (stream_at part place).base < next = grind (arith, nat_tests, t) in
          let n = old.least (stream_at part place).base (λ p k.
          let b = behind place i part p l at (Contains-from_has (take i plan) p k) h in
          elim (true_or_false (nat_eq (stream_at p place).base (stream_at part place).base)) [
            | inl e ↦ absurd (not_both (has_base (take i plan) part place) (any_if (λ (p : PartPlan). nat_eq (stream_at p place).base (stream_at part place).base) (take i plan) p k e) h)
            | inr e ↦ (let d : (stream_at p place).base < (stream_at part place).base = grind (arith, nat_tests, b, e) in d)
          ]) in
          omega (arith, below, n))
    ]

-- where all marks are set, each part takes rows
pub each-takes : (q : QueryValue) (plan : List PartPlan) (place : ℕ) (owns : List Bool) → AreOwners q plan place owns → list_all (λ own. own) owns ≡ true → EachTakes q plan place
each-takes q plan place owns are h i part at =
    let l : i < length owns = (let n = are.many in let k = slice_get_within plan i part at in omega (arith, n, k)) in
    let b : slice_get owns i ≡ Some (get_or owns i false) = slice_get-get_or owns i false l in
    sym (are.each i (get_or owns i false) b part at) ∙ all_at (λ own. own) owns (get_or owns i false) h (has-at owns i l)
  where
    has-at : (xs : List Bool) (i : ℕ) → i < length xs → Has xs (get_or xs i false)
    has-at [] i l = absurd (omega (arith, l))
    has-at (x ∷ xs) zero l = first
    has-at (x ∷ xs) (suc i) l = later (has-at xs i (omega (arith, l)))
