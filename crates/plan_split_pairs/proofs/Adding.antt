-- Pairs that are added to a list, each once.
use Rattle.std.proofs.Common.{◌≡◌, ◌≤◌, ◌<◌, ℕ, Bool, true, false, not, cond, List, [], ◌∷◌, ◌++◌, filter, length, length-append, append-nil, append_assoc, refl, sym, ◌∙◌, ap, subst, arith, Option, None}
use Rattle.std.specs.Bool.{◌==◌}
use Rattle.std.proofs.lemmas.Bool.Decides.{nat_tests}
use Rattle.std.proofs.lemmas.List.Elements.{filter-append}
use Rattle.sem_query.specs.declared.atom.Element.TheVariants as element
use Rattle.sem_query.specs.declared.part.Pair.{Pair}
use Rattle.sem_query.specs.Parts.{pair_eq, each_once}
use Rattle.sem_query.proofs.Once.{listed, pair_same, once_more}
use Rattle.plan_split_pairs.specs.Listed.{IsOnce, Adds}

-- a pair that stands where a list has none
abbrev pub no_pair : Pair
no_pair = record { left = record { stream = 0; column = 0 }; right = element.Attr record { stream = 0; column = 0 } }

-- all but a pair
abbrev but : Pair → List Pair → List Pair
but x ps = filter (λ r. not (pair_eq x r)) ps

-- two thinnings may come in either order
swapped : (p q : Pair → Bool) (xs : List Pair) → filter p (filter q xs) ≡ filter q (filter p xs)
swapped p q [] = refl
swapped p q (y ∷ ys) = by (p y) (q y) refl refl (swapped p q ys)
  where
    P : List Pair
    P = filter p ys

    Q : List Pair
    Q = filter q ys

    by : (b c : Bool) → p y ≡ b → q y ≡ c → filter p Q ≡ filter q P → filter p (cond c (y ∷ Q) Q) ≡ filter q (cond b (y ∷ P) P)
    by true true e f h = ap (λ b. cond b (y ∷ filter p Q) (filter p Q)) e ∙ ap (λ l. y ∷ l) h ∙ sym (ap (λ b. cond b (y ∷ filter q P) (filter q P)) f)
    by true false e f h = h ∙ sym (ap (λ b. cond b (y ∷ filter q P) (filter q P)) f)
    by false true e f h = ap (λ b. cond b (y ∷ filter p Q) (filter p Q)) e ∙ h
    by false false e f h = h

-- the same one twice is one
twice : (p : Pair → Bool) (xs : List Pair) → filter p (filter p xs) ≡ filter p xs
twice p [] = refl
twice p (y ∷ ys) = by (p y) refl (twice p ys)
  where
    by : (b : Bool) → p y ≡ b → filter p (filter p ys) ≡ filter p ys → filter p (cond b (y ∷ filter p ys) (filter p ys)) ≡ cond b (y ∷ filter p ys) (filter p ys)
    by true e h = ap (λ b. cond b (y ∷ filter p (filter p ys)) (filter p (filter p ys))) e ∙ ap (λ l. y ∷ l) h
    by false e h = h

module _ (keep : Pair → Bool) where
  -- what stays of pairs without one that goes anyway
  without : (x : Pair) → keep x ≡ false → (ps : List Pair) → filter keep (but x ps) ≡ filter keep ps
  without x k [] = refl
  without x k (y ∷ ps) = by (pair_eq x y) refl (without x k ps)
    where
      gone : pair_eq x y ≡ true → filter keep ps ≡ filter keep (y ∷ ps)
      gone e =
          let g : keep y ≡ false = subst (λ z. keep z ≡ false) (pair_same x y e) k in
          sym (ap (λ b. cond b (y ∷ filter keep ps) (filter keep ps)) g)

      by : (b : Bool) → pair_eq x y ≡ b → filter keep (but x ps) ≡ filter keep ps → filter keep (cond (not b) (y ∷ but x ps) (but x ps)) ≡ filter keep (y ∷ ps)
      by true e h = h ∙ gone e
      by false e h = ap (λ l. cond (keep y) (y ∷ l) l) h

  -- thinning and listing each once may come in either order
  pub once_filter : (ps : List Pair) → each_once (filter keep ps) ≡ filter keep (each_once ps)
  once_filter [] = refl
  once_filter (x ∷ ps) = by (keep x) refl (once_filter ps)
    where
      E : List Pair
      E = each_once ps

      by : (b : Bool) → keep x ≡ b → each_once (filter keep ps) ≡ filter keep E
          → each_once (cond b (x ∷ filter keep ps) (filter keep ps)) ≡ cond b (x ∷ filter keep (but x E)) (filter keep (but x E))
      by true k h = ap (λ l. x ∷ but x l) h ∙ ap (λ l. x ∷ l) (sym (swapped keep (λ r. not (pair_eq x r)) E))
      by false k h = h ∙ sym (without x k E)

-- pairs behind some that are listed once
pub once_append : (xs ys : List Pair) → each_once (each_once xs ++ ys) ≡ each_once (xs ++ ys)
once_append [] ys = refl
once_append (x ∷ xs) ys = ap (λ l. x ∷ l) (moved ∙ ap (but x) (once_append xs ys))
  where
    E : List Pair
    E = each_once xs

    keep : Pair → Bool
    keep r = not (pair_eq x r)

    same : filter keep (but x E ++ ys) ≡ filter keep (E ++ ys)
    same = filter-append keep (but x E) ys ∙ ap (λ l. l ++ filter keep ys) (twice keep E) ∙ sym (filter-append keep E ys)

    moved : filter keep (each_once (but x E ++ ys)) ≡ filter keep (each_once (E ++ ys))
    moved = sym (once_filter keep (but x E ++ ys)) ∙ ap each_once same ∙ once_filter keep (E ++ ys)

-- no pair is listed twice
pub once_twice : (xs : List Pair) → IsOnce (each_once xs)
once_twice xs = ap each_once (sym (append-nil (each_once xs))) ∙ once_append xs [] ∙ ap each_once (append-nil xs)

-- some pairs and others begin with these pairs, each once
pub once_starts : (xs ys : List Pair) → (rest : List Pair) × (each_once (xs ++ ys) ≡ each_once xs ++ rest)
once_starts [] ys = (each_once ys, refl)
once_starts (x ∷ xs) ys =
    let r = once_starts xs ys in
    (but x r.0, ap (λ l. x ∷ but x l) r.1 ∙ ap (λ l. x ∷ l) (filter-append (λ s. not (pair_eq x s)) (each_once xs) r.0))

-- with more pairs there are no fewer
once_grows : (xs ys : List Pair) → length (each_once xs) ≤ length (each_once (xs ++ ys))
once_grows xs ys = let r = once_starts xs ys in let n = ap length r.1 ∙ length-append (each_once xs) r.0 in omega (arith, n)

-- ---- one pair

-- the test that a list is full
pub full_is : (n : ℕ) → (n == 114) ≡ true → n ≡ 114
full_is n h = grind (arith, nat_tests)

-- a pair that is listed is not added
pub listed_stays : (list : List Pair) (p : Pair) → IsOnce list → listed list p ≡ true → list ≡ each_once (list ++ p ∷ [])
listed_stays list p o h = sym (once_more list p ∙ ap (λ l. cond (listed l p) l (l ++ p ∷ [])) o ∙ ap (λ b. cond b list (list ++ p ∷ [])) h)

-- one that is not is added at the end
pub unlisted_comes : (list : List Pair) (p : Pair) → IsOnce list → listed list p ≡ false → list ++ p ∷ [] ≡ each_once (list ++ p ∷ [])
unlisted_comes list p o h = sym (once_more list p ∙ ap (λ l. cond (listed l p) l (l ++ p ∷ [])) o ∙ ap (λ b. cond b list (list ++ p ∷ [])) h)

-- ---- several, one after another

-- what comes of those that are left comes of all
pub adds_more : (list more rest after all : List Pair) → after ≡ each_once (list ++ more) → each_once (list ++ (more ++ rest)) ≡ all → each_once (after ++ rest) ≡ all
adds_more list more rest after all e h = ap (λ l. each_once (l ++ rest)) e ∙ once_append (list ++ more) rest ∙ ap each_once (append_assoc list more rest) ∙ h

pub adds_once : (list more after : List Pair) → after ≡ each_once (list ++ more) → IsOnce after
adds_once list more after e = subst IsOnce (sym e) (once_twice (list ++ more))

-- where some are too many all are
pub adds_full : (list more rest all : List Pair) → 114 < length (each_once (list ++ more)) → each_once (list ++ (more ++ rest)) ≡ all → 114 < length all
adds_full list more rest all l h =
    let g = once_grows (list ++ more) rest in
    let n = ap (λ z. length (each_once z)) (append_assoc list more rest) ∙ ap length h in
    omega (arith, g, n, l)

-- where there is no room for one there is none for all
pub adds_stop : (r : Option (Unit {0})) (before more after : List Pair) → r ≡ None → 114 < length (each_once (before ++ more)) → Adds r before more after
adds_stop r before more after e l = subst (λ z. Adds z before more after) (sym e) l
