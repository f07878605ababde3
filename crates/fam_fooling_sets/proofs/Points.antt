-- What holds of the point of a number, and rows one behind the other.
use Rattle.std.proofs.Common.{◌≡◌, ℕ, zero, suc, ◌+◌, ◌<◌, ◌≤◌, nat_eq, cond, Bool, true, false, ◌⊎◌, inl, inr, List, [], ◌∷◌, ◌++◌, length, slice_index_or, All, FitsSigned, w64, Option, None, Some, refl, sym, ap, ◌∙◌, subst, arith, ℤ, pos, negsuc, neg_ℤ, ◌+ℤ◌, ◌-ℤ◌, ◌≤ℤ◌, nat_abs, length-append}
use Rattle.std.proofs.lemmas.Int.{ints}
use Rattle.std.proofs.lemmas.List.{map-append}
use Rattle.arrayvec.specs.ArrayVec.{ArrayVec as Items}
use Rattle.sem_query.specs.Meaning.{Arrival}
use Rattle.plan_closure.specs.Answers.{IsSmall, IsNear, IsSolvedAt}
use Rattle.fam_fooling_sets.specs.declared.ground.Ground.{Ground}
use Rattle.fam_fooling_sets.specs.Shown.{rows_in, arrivals, asking_in}
use Rattle.fam_fooling_sets.specs.Members.{value_for, target_for, IsGround, IsFarWithin, IsMember, AreMembers, AddsRow}

pub abs-bound : (x : ℤ) (n : ℕ) → neg_ℤ (pos n) ≤ℤ x → x ≤ℤ pos n → nat_abs x ≤ n
abs-bound (pos m) n a b = omega (arith, ints, b)
abs-bound (negsuc m) n a b = omega (arith, ints, a)

-- values of numbers of 16 bits lie within 10^17 and 2^16
value-near : (low high : Option ℤ) (number : ℕ) → IsSmall low → IsSmall high → number < 65536 → nat_abs (value_for low high number) ≤ 100000000000065536
value-near (Some l) high number a b f = (let u = a.0 in let w = a.1 in abs-bound (l +ℤ pos number) 100000000000065536 (omega (arith, ints, u, w, f)) (omega (arith, ints, u, w, f)))
value-near None (Some h) number a b f = (let u = b.0 in let w = b.1 in abs-bound (h -ℤ pos number) 100000000000065536 (omega (arith, ints, u, w, f)) (omega (arith, ints, u, w, f)))
value-near None None number a b f = abs-bound (pos number) 100000000000065536 (omega (arith, ints, f)) (omega (arith, ints, f))

-- so they fit in 64 bits
pub value-fits : (low high : Option ℤ) (number : ℕ) → IsSmall low → IsSmall high → number < 65536 → FitsSigned w64 (value_for low high number)
value-fits low high number a b f = by (value_for low high number) (value-near low high number a b f)
  where
    by : (x : ℤ) → nat_abs x ≤ 100000000000065536 → FitsSigned w64 x
    by (pos m) l = record { sfits = omega (arith, l) }
    by (negsuc m) l = record { sfits = omega (arith, l) }

target-near : (node : ℕ) (value : ℤ) → nat_abs value ≤ 100000000000065536 → nat_abs (target_for node value) ≤ 100000000000065536
target-near node value f = by (nat_eq node 0)
  where
    by : (b : Bool) → nat_abs (cond b (pos 0) value) ≤ 100000000000065536
    by true = omega arith
    by false = f

near-far : (value x : ℤ) → nat_abs value ≤ 100000000000065536 → IsNear value x → IsFarWithin x
near-far value x f n = record {
  low = (let k : neg_ℤ (pos 100000000000000000 +ℤ pos (nat_abs value)) ≤ℤ x = n.low in omega (arith, ints, k, f));
  high = (let k : x ≤ℤ (pos 100000000000000000 +ℤ pos (nat_abs value)) = n.high in omega (arith, ints, k, f));
}

-- the values of a solution are far within 64 bits
pub values-far : (g : Ground) → IsGround g → (number : ℕ) → number < 65536 → (xs ys : List ℤ)
    → IsSolvedAt g.bounds.now.attrs g.bounds.now.constraints g.node (target_for g.node (value_for g.low g.high number)) xs → ys ≡ xs → All IsFarWithin ys
values-far g is number f xs ys s e =
    subst (λ (zs : List ℤ). All IsFarWithin zs) (sym e)
    (λ k d l. near-far (target_for g.node (value_for g.low g.high number)) _ (target-near g.node (value_for g.low g.high number) (value-near g.low g.high number is.low is.high f)) (s.near k d l))

pub values-many : (g : Ground) → IsGround g → (number : ℕ) (xs ys : List ℤ)
    → IsSolvedAt g.bounds.now.attrs g.bounds.now.constraints g.node (target_for g.node (value_for g.low g.high number)) xs → ys ≡ xs → length ys ≡ length g.attrs.now
values-many g is number xs ys s e = ap length e ∙ s.long ∙ is.attrs

-- ---- rows one behind the other

pub at-front : {X : Type 0} (xs ys : List X) (k : ℕ) (d : X) → k < length xs → slice_index_or (xs ++ ys) k d ≡ slice_index_or xs k d
at-front [] ys k d l = absurd (omega (arith, l))
at-front (x ∷ xs) ys zero d l = refl
at-front (x ∷ xs) ys (suc k) d l = at-front xs ys k d (omega (arith, l))

pub at-end : {X : Type 0} (xs : List X) (y : X) (k : ℕ) (d : X) → k ≡ length xs → slice_index_or (xs ++ y ∷ []) k d ≡ y
at-end [] y zero d e = refl
at-end [] y (suc k) d e = absurd (omega (arith, e))
at-end (x ∷ xs) y zero d e = absurd (omega (arith, e))
at-end (x ∷ xs) y (suc k) d e = at-end xs y k d (omega (arith, e))

pub longer : {X : Type 0} (xs : List X) (y : X) (n : ℕ) → length xs ≡ n → length (xs ++ y ∷ []) ≡ n + 1
longer xs y n e = length-append xs (y ∷ []) ∙ ap (λ (m : ℕ). m + 1) e

same-member : (g : Ground) (own k : ℕ) (xs ys row line : List ℤ) (asked told : List Arrival) → xs ≡ ys → row ≡ line → asked ≡ told → IsMember g own k xs row asked → IsMember g own k ys line told
same-member g own k xs ys row line asked told e o p m =
    subst (λ z. IsMember g own k ys line z) p (subst (λ (z : List ℤ). IsMember g own k ys z asked) o (subst (λ (z : List ℤ). IsMember g own k z row asked) e m))

-- one member more
pub members-more : (g : Ground) (own n : ℕ) (rows : List (Items ℤ)) (asking : List (Items (ℕ × Items ℤ))) (more_rows : List (Items ℤ)) (more_asking : List (Items (ℕ × Items ℤ)))
    → AreMembers g own n (rows_in rows) (asking_in asking) → AddsRow g own n rows asking more_rows more_asking → AreMembers g own (n + 1) (rows_in more_rows) (asking_in more_asking)
members-more g own n rows asking more_rows more_asking are a = record {
  all = are.all ++ a.made.xs ∷ [];
  solutions = longer are.all a.made.xs n are.solutions;
  many = ap length rows_more ∙ longer (rows_in rows) a.row.items n are.many;
  asked = ap length asking_more ∙ longer (asking_in asking) (arrivals a.asked.items) n are.asked;
  each = λ k l. by k (last_or k n l);
}
  where
    rows_more : rows_in more_rows ≡ rows_in rows ++ a.row.items ∷ []
    rows_more = ap rows_in a.rows_are ∙ map-append (λ (row : Items ℤ). row.items) rows (a.row ∷ [])

    asking_more : asking_in more_asking ≡ asking_in asking ++ arrivals a.asked.items ∷ []
    asking_more = ap asking_in a.asking_is ∙ map-append (λ (a : Items (ℕ × Items ℤ)). arrivals a.items) asking (a.asked ∷ [])

    last_or : (k n : ℕ) → k < n + 1 → (k < n) ⊎ (k ≡ n)
    last_or k n l = grind (arith, l)

    by : (k : ℕ) → (k < n) ⊎ (k ≡ n) → IsMember g own k (slice_index_or (are.all ++ a.made.xs ∷ []) k []) (slice_index_or (rows_in more_rows) k []) (slice_index_or (asking_in more_asking) k [])
    by k (inl l) =
        same-member g own k _ _ _ _ _ _
        (sym (at-front are.all (a.made.xs ∷ []) k [] (let e = are.solutions in omega (arith, e, l))))
        (sym (ap (λ (z : List (List ℤ)). slice_index_or z k []) rows_more ∙ at-front (rows_in rows) (a.row.items ∷ []) k [] (let e = are.many in omega (arith, e, l))))
        (sym (ap (λ (z : List (List Arrival)). slice_index_or z k []) asking_more ∙ at-front (asking_in asking) (arrivals a.asked.items ∷ []) k [] (let e = are.asked in omega (arith, e, l))))
        (are.each k l)
    by k (inr o) =
        same-member g own k _ _ _ _ _ _
        (sym (at-end are.all a.made.xs k [] (let e = are.solutions in omega (arith, e, o))))
        (sym (ap (λ (z : List (List ℤ)). slice_index_or z k []) rows_more ∙ at-end (rows_in rows) a.row.items k [] (let e = are.many in omega (arith, e, o))))
        (sym (ap (λ (z : List (List Arrival)). slice_index_or z k []) asking_more ∙ at-end (asking_in asking) (arrivals a.asked.items) k [] (let e = are.asked in omega (arith, e, o))))
        (subst (λ (m : ℕ). IsMember g own m a.made.xs a.row.items (arrivals a.asked.items)) (sym o) a.made.member)
