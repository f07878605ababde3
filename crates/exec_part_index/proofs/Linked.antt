-- Chains through parts of one bucket, and what they say of a row.
use Rattle.std.proofs.Common.{◌≡◌, ◌≢◌, ℕ, ◌+◌, ◌-◌, ◌<◌, ◌≤◌, nat_eq, true, false, ℤ, List, map, bit_and, length, set, get_or, slice_get, Some, inl, inr, sym, ap, ◌∙◌, subst, arith, length-set}
use Rattle.std.proofs.lemmas.Bool.Decides.{nat_tests}
use Rattle.std.proofs.lemmas.List.{get_or-map, get_or-set_same, get_or-set_other, get_or_default, length-map}
use Rattle.std.proofs.lemmas.Nat.{and_le_r}
use Rattle.std.proofs.lemmas.Option.{slice_get_within}
use Rattle.sem_query.specs.declared.plan.PartPlan.{PartPlan}
use Rattle.sem_query.specs.Query.{QueryValue}
use Rattle.sem_query.specs.Admission.{admits}
use Rattle.sem_laws.proofs.Tests.{not_both, true_or_false, false_if, nat_true}
use Rattle.exec_part_index.specs.declared.part_index.PartIndex.{PartIndex}
use Rattle.exec_part_index.specs.PartIndex.{buckets, row_code, row_bucket, IsNext, AreLinked, IsPartIndex}

-- the parts from n up to m do not admit the row
abbrev pub NoneAdmits : QueryValue → List PartPlan → ℕ → (ℕ → ℤ) → ℕ → ℕ → Type 0
NoneAdmits q parts pos v n m = (k : ℕ) (part : PartPlan) → n ≤ k → k < m → slice_get parts k ≡ Some part → admits q part pos v ≡ false

-- each part has a bucket
pub many_buckets : (q : QueryValue) (parts : List PartPlan) (pos : ℕ) (c : PartIndex) → IsPartIndex q parts pos c → length (buckets c) ≡ length parts
many_buckets q parts pos c are = length-map c.codes.items (λ code. bit_and code c.mask) ∙ are.many

module _ (q : QueryValue) (parts : List PartPlan) (pos : ℕ) (c : PartIndex) (are : IsPartIndex q parts pos c) (v : ℕ → ℤ) where
  -- a row that a part admits is of the part's bucket
  own_bucket : (k : ℕ) (part : PartPlan) → slice_get parts k ≡ Some part → admits q part pos v ≡ true → get_or (buckets c) k 0 ≡ row_bucket c v
  own_bucket k part at_k h =
      let f : ℕ → ℕ = λ code. bit_and code c.mask in
      let l = slice_get_within parts k part at_k in
      let m = are.many in
      get_or-map f c.codes.items k 0 0 (omega (arith, l, m)) ∙ ap f (sym (are.codes k part at_k v h))

  -- no part that the chain passes admits it
  pub passed_by : (n i : ℕ) → IsNext (buckets c) (row_bucket c v) n i → NoneAdmits q parts pos v n i
  passed_by n i next k part behind before at_k =
      false_if (admits q part pos v) (λ h. next.passed k behind before (own_bucket k part at_k h))

  -- and the part that it leads to is of the row's bucket, or there is none
  pub hit_within : (n i : ℕ) → IsNext (buckets c) (row_bucket c v) n i → i ≤ length parts
  hit_within n i next = let m = many_buckets q parts pos c are in let w = next.within in omega (arith, m, w)

  pub hit_there : (n i : ℕ) → IsNext (buckets c) (row_bucket c v) n i
      → i < length parts → get_or (buckets c) i 0 ≡ row_bucket c v
  hit_there n i next l = next.there (let m = many_buckets q parts pos c are in omega (arith, m, l))

-- the first part of the bucket of a row that has a code
pub first_linked : (c : PartIndex) (v : ℕ → ℤ) (code i : ℕ) → AreLinked (buckets c) c.mask 0 c.heads.items c.links.items → code ≡ row_code c.tested.items v → i ≡ get_or c.heads.items (bit_and code c.mask) i
    → IsNext (buckets c) (row_bucket c v) 0 i
first_linked c v code i joined same is =
    let b : ℕ = bit_and code c.mask in
    let low : b ≤ c.mask = and_le_r code c.mask in
    let many = joined.many in
    let own : get_or c.heads.items b 0 ≡ i = get_or_default c.heads.items b 0 i (omega (arith, many, low)) ∙ sym is in
    subst (λ n. IsNext (buckets c) (bit_and n c.mask) 0 i) same (subst (λ n. IsNext (buckets c) b 0 n) own (joined.first b low))

-- the next part of the bucket of a part
pub next_linked : (q : QueryValue) (parts : List PartPlan) (pos : ℕ) (c : PartIndex) → IsPartIndex q parts pos c → (i next : ℕ) → i < length parts → next ≡ get_or c.links.items i 0
    → IsNext (buckets c) (get_or (buckets c) i 0) (i + 1) next
next_linked q parts pos c are i next inside is =
    subst (IsNext (buckets c) (get_or (buckets c) i 0) (i + 1)) (sym is)
    (are.joined.next i (omega arith) (let m = many_buckets q parts pos c are in omega (arith, m, inside)))

-- the next part of a bucket, where one part more stands before
next_behind : (buckets : List ℕ) (b n i : ℕ) → get_or buckets n 0 ≢ b → IsNext buckets b (n + 1) i → IsNext buckets b n i
next_behind buckets b n i other next = record {
  behind = (let h = next.behind in omega (arith, h));
  within = next.within;
  passed = λ k low high. elim (true_or_false (nat_eq k n)) [
    | inl same ↦ subst (λ m. get_or buckets m 0 ≢ b) (sym (nat_true k n same)) other
    | inr apart ↦ next.passed k (grind (arith, nat_tests, low, apart)) high
  ];
  there = next.there;
}

-- a part is the first one of its bucket from itself on
next_here : (buckets : List ℕ) (b n : ℕ) → n < length buckets → get_or buckets n 0 ≡ b → IsNext buckets b n n
next_here buckets b n within is = record {
  behind = omega arith;
  within = omega (arith, within);
  passed = λ k low high. absurd (omega (arith, low, high));
  there = λ l. is;
}

-- one part more
pub joined_more : (buckets : List ℕ) (mask n b : ℕ) (heads links : List ℕ) → n < length buckets → get_or buckets n 0 ≡ b → b ≤ mask
    → AreLinked buckets mask (n + 1) heads links → AreLinked buckets mask n (set heads b n) (set links n (get_or heads b 0))
joined_more buckets mask n b heads links within is low are = record {
  many = length-set heads b n ∙ are.many;
  all = length-set links n (get_or heads b 0) ∙ are.all;
  first = λ o l. elim (true_or_false (nat_eq o b)) [
    | inl same ↦ subst (λ x. IsNext buckets x n (get_or (set heads b n) x 0)) (sym (nat_true o b same))
        (subst (λ i. IsNext buckets b n i) (sym (get_or-set_same heads b n 0 (let m = are.many in omega (arith, m, low)))) (next_here buckets b n within is))
    | inr apart ↦ (
        let other : o ≢ b = λ e. not_both (nat_eq o b) (grind (arith, nat_tests, e)) apart in
        subst (λ i. IsNext buckets o n i) (sym (get_or-set_other heads b o n 0 other))
        (next_behind buckets o n (get_or heads o 0) (λ e. other (sym e ∙ is)) (are.first o l)))
  ];
  next = λ k behind inside. elim (true_or_false (nat_eq k n)) [
    | inl same ↦ subst (λ x. IsNext buckets (get_or buckets x 0) (x + 1) (get_or (set links n (get_or heads b 0)) x 0)) (sym (nat_true k n same))
        (subst (λ i. IsNext buckets (get_or buckets n 0) (n + 1) i) (sym (get_or-set_same links n (get_or heads b 0) 0 (let a = are.all in omega (arith, a, within))))
        (subst (λ x. IsNext buckets x (n + 1) (get_or heads b 0)) (sym is) (are.first b low)))
    | inr apart ↦ (
        let other : k ≢ n = λ e. not_both (nat_eq k n) (grind (arith, nat_tests, e)) apart in
        subst (λ i. IsNext buckets (get_or buckets k 0) (k + 1) i) (sym (get_or-set_other links n k (get_or heads b 0) 0 other))
        (are.next k (grind (arith, nat_tests, behind, apart)) inside))
  ];
}

-- the buckets of codes
abbrev pub masked : List ℕ → ℕ → List ℕ
masked codes mask = map (λ code. bit_and code mask) codes

-- one part more, as the code takes it
pub joined_part : (codes : List ℕ) (mask i b o : ℕ) (heads links : List ℕ) → 0 < i → i ≤ length codes → b ≡ bit_and (get_or codes (i - 1) 0) mask → b ≤ mask → o ≡ get_or heads b o
    → AreLinked (masked codes mask) mask i heads links → AreLinked (masked codes mask) mask (i - 1) (set heads b (i - 1)) (set links (i - 1) o)
joined_part codes mask i b o heads links some within is low first are =
    let f : ℕ → ℕ = λ code. bit_and code mask in
    let l : length (masked codes mask) ≡ length codes = length-map codes f in
    let inside : i - 1 < length (masked codes mask) = omega (arith, l, some, within) in
    let next : i ≡ i - 1 + 1 = omega (arith, some) in
    let own : get_or heads b 0 ≡ o = get_or_default heads b 0 o (let m = are.many in omega (arith, m, low)) ∙ sym first in
    let bucket : get_or (masked codes mask) (i - 1) 0 ≡ b = get_or-map f codes (i - 1) 0 0 (omega (arith, some, within)) ∙ sym is in
    subst (λ x. AreLinked (masked codes mask) mask (i - 1) (set heads b (i - 1)) (set links (i - 1) x)) own
    (joined_more (masked codes mask) mask (i - 1) b heads links inside bucket low (subst (λ x. AreLinked (masked codes mask) mask x heads links) next are))
