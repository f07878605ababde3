-- The codes and the remaining conditions of the parts of a plan, as they are made.
use Rattle.std.proofs.Common.{◌≡◌, ℕ, ◌+◌, ◌<◌, ◌≤◌, ℤ, List, [], ◌∷◌, ◌++◌, drop, map, length, append_assoc, get_or, slice_get, Some, All, inl, inr, sym, ap, subst, ◌∙◌, arith, suc}
use Rattle.std.proofs.Math.Seq.{drop-cons}
use Rattle.std.proofs.lemmas.Bool.{cases_lt}
use Rattle.std.proofs.lemmas.List.{drop_all, get_or-map, get_or_past, length-map}
use Rattle.std.proofs.lemmas.Option.{slice_get_within}
use Rattle.arrayvec.specs.ArrayVec.{ArrayVec}
use Rattle.sem_query.specs.declared.part.Sign.{Sign}
use Rattle.sem_query.specs.declared.part.Pair.{Pair}
use Rattle.sem_query.specs.declared.plan.PartPlan.{PartPlan}
use Rattle.sem_query.specs.Query.{QueryValue}
use Rattle.exec_part_index.specs.declared.remaining.Remaining.{Remaining}
use Rattle.exec_part_index.specs.declared.span.Span.{Span}
use Rattle.exec_part_index.specs.declared.tests.Tested.{Tested}
use Rattle.exec_part_index.specs.PartIndex.{signs_at, code_after, row_code, HasCode, AsksOnly}
use Rattle.exec_part_index.specs.Remaining.{AreRemaining}
use Rattle.exec_part_index.specs.Showing.{shown_signs, AreShown}
use Rattle.exec_part_index.specs.Span.{no_span, in_span, IsSpan}

-- the codes of signs
abbrev pub coded : List (ArrayVec Sign) → List ℕ
coded signs = map (λ s. code_after 0 s.items) signs

-- one code more
pub codes_more : (signs : List (ArrayVec Sign)) (i : ℕ) (d : ArrayVec Sign) (codes more : List ℕ) (xs : List Sign) (o : ℕ) → i < length signs → xs ≡ (get_or signs i d).items → o ≡ code_after 0 xs
    → more ≡ codes ++ o ∷ [] → codes ++ coded (drop i signs) ≡ coded signs → more ++ coded (drop (i + 1) signs) ≡ coded signs
codes_more signs i d codes more xs o within at is all done =
    let later : suc i ≡ i + 1 = omega arith in
    let own : code_after 0 (get_or signs i d).items ≡ o = sym (is ∙ ap (λ (ss : List Sign). code_after 0 ss) at) in
    let rest : coded (drop i signs) ≡ o ∷ coded (drop (i + 1) signs)
    = ap coded (drop-cons signs i d within ∙ ap (λ (n : ℕ). get_or signs i d ∷ drop n signs) later) ∙ ap (λ (n : ℕ). n ∷ coded (drop (i + 1) signs)) own in
    ap (λ (ys : List ℕ). ys ++ coded (drop (i + 1) signs)) all
    ∙ append_assoc codes (o ∷ []) (coded (drop (i + 1) signs))
    ∙ ap (λ (ys : List ℕ). codes ++ ys) (sym rest)
    ∙ done

-- the code of a row, where no pair is left
pub code_done : (v : ℕ → ℤ) (tested : List Pair) (code i : ℕ) → length tested ≤ i → code_after code (signs_at v (drop i tested)) ≡ code_after 0 (signs_at v tested) → code ≡ row_code tested v
code_done v tested code i past is = sym (ap (λ (ps : List Pair). code_after code (signs_at v ps)) (drop_all i tested past)) ∙ is

module _ (q : QueryValue) (parts : List PartPlan) (place : ℕ) (t : Tested) (shown : AreShown q parts place t) (codes : List ℕ) (are : codes ≡ coded t.signs.items) where
  -- each part has a code
  pub many_codes : length codes ≡ length parts
  many_codes = ap length are ∙ length-map t.signs.items (λ s. code_after 0 s.items) ∙ shown.many

  -- that of the signs that it shows
  code_at : (k : ℕ) (part : PartPlan) → slice_get parts k ≡ Some part → get_or codes k 0 ≡ code_after 0 (shown_signs t k)
  code_at k part at_k =
      let l = slice_get_within parts k part at_k in
      let m = shown.many in
      ap (λ (xs : List ℕ). get_or xs k 0) are ∙ get_or-map (λ s. code_after 0 s.items) t.signs.items k (record { items = [] }) 0 (omega (arith, l, m))

  pub have_codes : (k : ℕ) (part : PartPlan) → slice_get parts k ≡ Some part → HasCode q part place t.pairs.items (get_or codes k 0)
  have_codes k part at_k = λ v h. ap (λ (ss : List Sign). code_after 0 ss) (shown.each k part at_k v h) ∙ sym (code_at k part at_k)

  pub ask_only : (r : Remaining) → AreRemaining q parts place t r → (k : ℕ) (part : PartPlan) → slice_get parts k ≡ Some part
      → AsksOnly q part place t.pairs.items (get_or codes k 0) (in_span r.conditions.items (get_or r.spans.items k no_span))
  ask_only r remain k part at_k =
      subst (λ code. AsksOnly q part place t.pairs.items code (in_span r.conditions.items (get_or r.spans.items k no_span))) (sym (code_at k part at_k)) (remain.asks k part at_k)

-- a span is within the list, also where there is none
pub spans_within : (n : ℕ) (spans : List Span) → All (IsSpan n) spans → (k : ℕ) → IsSpan n (get_or spans k no_span)
spans_within n spans all k = elim (cases_lt k (length spans)) [
  | inl less ↦ all k no_span less
  | inr above ↦ subst (IsSpan n) (sym (get_or_past spans k no_span above)) (omega arith, omega arith)
]
