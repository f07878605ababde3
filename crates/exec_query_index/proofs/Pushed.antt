-- One more column, behind others or before them.
use Rattle.std.proofs.Common.{◌≡◌, ℕ, zero, suc, ◌+◌, ◌<◌, cond, Bool, true, false, List, [], ◌∷◌, ◌++◌, length, get_or, Some, Option, sym, ap, ◌∙◌, subst, inl, inr, arith}
use Rattle.std.specs.List.{insert}
use Rattle.std.proofs.lemmas.Bool.{cases_lt}
use Rattle.std.proofs.lemmas.List.{get_or_append_left, length-append}
use Rattle.std.proofs.lemmas.Option.{slice_get_within, slice_get-get_or, get_or_from_slice_get}
use Rattle.std.proofs.Math.Seq.{get_or-append_seam}
use Rattle.exec_query_index.specs.declared.boxes.QueryBox.{QueryBox}
use Rattle.exec_query_index.specs.declared.column.Column.{Column}
use Rattle.exec_query_index.specs.Buckets.{IsColumn, AreColumns}

-- a list that may have one more
pub pushed : (boxes : List (Option QueryBox)) (b : Bool) (xs new : List Column) (own : Column) → new ≡ cond b (xs ++ own ∷ []) xs
    → AreColumns boxes xs → IsColumn boxes own → AreColumns boxes new
pushed boxes false xs new own e are is = subst (AreColumns boxes) (sym e) are
pushed boxes true xs new own e are is = subst (AreColumns boxes) (sym e) (λ i x there.
    elim (cases_lt i (length xs)) [
      | inl h ↦
          let at : get_or (xs ++ own ∷ []) i x ≡ x = get_or_from_slice_get (xs ++ own ∷ []) i x x there in
          are i x (slice_get-get_or xs i x h ∙ ap (λ (z : Column). Some z) (sym (get_or_append_left xs (own ∷ []) x i h) ∙ at))
      | inr h ↦
          let within : i < length (xs ++ own ∷ []) = slice_get_within (xs ++ own ∷ []) i x there in
          let all : length (xs ++ own ∷ []) ≡ length xs + 1 = length-append xs (own ∷ []) in
          let last : length xs ≡ i = omega arith in
          let at : get_or (xs ++ own ∷ []) i x ≡ x = get_or_from_slice_get (xs ++ own ∷ []) i x x there in
          let same : own ≡ x = sym (get_or-append_seam xs own [] x) ∙ ap (λ (k : ℕ). get_or (xs ++ own ∷ []) k x) last ∙ at in
          subst (IsColumn boxes) same is
    ])

-- a list with one more before the others
before : (boxes : List (Option QueryBox)) (xs : List Column) (own : Column) → AreColumns boxes xs → IsColumn boxes own → AreColumns boxes (own ∷ xs)
before boxes xs own are is zero x there = subst (IsColumn boxes) (get_or_from_slice_get (own ∷ xs) 0 x x there) is
before boxes xs own are is (suc i) x there =
    let within : suc i < length (own ∷ xs) = slice_get_within (own ∷ xs) (suc i) x there in
    are i x (slice_get-get_or xs i x (omega (arith, within)) ∙ ap (λ (z : Column). Some z) (get_or_from_slice_get (own ∷ xs) (suc i) x x there))

-- that may have it
pub put_before : (boxes : List (Option QueryBox)) (b : Bool) (xs new : List Column) (own : Column) → new ≡ cond b (insert xs 0 own) xs
    → AreColumns boxes xs → IsColumn boxes own → AreColumns boxes new
put_before boxes false xs new own e are is = subst (AreColumns boxes) (sym e) are
put_before boxes true xs new own e are is = subst (AreColumns boxes) (sym e) (before boxes xs own are is)
