-- Slices: further comparisons choose among the combinations.
use Rattle.std.proofs.Common.{◌≡◌, ℕ, zero, suc, ◌+◌, ◌-◌, ◌*◌, min, ◌<◌, ◌⊎◌, inl, inr, List, [], ◌∷◌, ◌++◌, map, cond, Bool, true, false, ◌&&◌, refl, sym, ap, ◌∙◌, subst, arith, ℤ, pos, int_lt, ◌<ℤ◌, ◌≤ℤ◌, ◌+ℤ◌}
use Rattle.std.specs.List.{list_all}
use Rattle.std.proofs.lemmas.Int.{ints, by_lt_z}
use Rattle.sem_laws.proofs.Sums.{sums, sums_append, nested, nested_same, bit}
use Rattle.sem_laws.proofs.Tests.{and-left, and-right}
use Rattle.sem_laws.proofs.Counts.{times, times-answers, gives}
use Rattle.sem_laws.proofs.NewAnswers.{is_new}
use Rattle.sem_laws.proofs.Merge.{counts-stay}
use Rattle.sem_laws.proofs.Queries.{query_within}
use Rattle.sem_laws.proofs.Keeping.{rows-more-keep}
use Rattle.sem_query.specs.declared.atom.Atom.{Atom}
use Rattle.sem_query.specs.Query.{QueryValue, IsWithinLimits}
use Rattle.sem_query.specs.Assignment.{meets, holds, projected}
use Rattle.sem_query.specs.Meaning.{Arrival, rows, by_column, assignment_of, answers, new_answers}
use Rattle.sem_query.specs.Domains.{RowsKeep}
use Rattle.sem_query.specs.Tuples.{is_same}
use Rattle.sem_sharding.specs.Slices.{sliced, slices_answer, AreSlices, AreDisjointSlices, SlicesAnswerTogether, SlicesAnswer, BoundsSlice}
use Rattle.sem_sharding.proofs.Shares.{over, over-same}
use Rattle.sem_sharding.proofs.Together.{counted, counted-grows, times-new, over-minus}
use Rattle.sem_sharding.proofs.Parted.{add-up, add-up-distinct}
use Rattle.sem_sharding.proofs.ByKeys.{fits-counts}

all-append : {X : Type 0} (t : X → Bool) (xs ys : List X) → list_all t (xs ++ ys) ≡ (list_all t xs && list_all t ys)
all-append t [] ys = refl
all-append {X} t (x ∷ xs) ys = ap (λ b. t x && b) (all-append t xs ys) ∙ regroup (t x) (list_all t xs) (list_all t ys)
  where
    regroup : (a b c : Bool) → (a && (b && c)) ≡ ((a && b) && c)
    regroup true b c = refl
    regroup false b c = refl

-- the combinations of a slice are those that meet its comparisons
pub times-slice : (q : QueryValue) (z : List ℤ) (more : List Atom) (h : List Arrival)
    → times z (answers (sliced more q) h)
    ≡ nested (map (rows h) q.from) (λ c. bit (list_all (meets (assignment_of c)) more) * gives q z (map by_column c))
times-slice q z more h =
    times-answers (sliced more q) z h
    ∙ nested_same (map (rows h) q.from) (λ c. gives (sliced more q) z (map by_column c)) _ (λ c e.
    ap (λ b. bit b * bit (is_same z (projected q (assignment_of c)))) (all-append (meets (assignment_of c)) more q.atoms)
    ∙ regroup (list_all (meets (assignment_of c)) more) (holds q (assignment_of c)) (bit (is_same z (projected q (assignment_of c)))))
  where
    regroup : (a b : Bool) (n : ℕ) → bit (a && b) * n ≡ bit a * (bit b * n)
    regroup true b n = omega arith
    regroup false b n = omega arith

module _ (q : QueryValue) (within : IsWithinLimits q) (k : ℕ) (more : ℕ → List Atom) (each : (i : ℕ) → i < k → IsWithinLimits (sliced (more i) q)) where
  abbrev has : List Arrival → ℕ → List ℤ → ℕ
  has h i z = times z (answers (sliced (more i) q) h)

  slices-new : (n : ℕ) (h : List Arrival) (r : Arrival) (z : List ℤ)
      → times z (slices_answer q more n h r) ≡ over n (λ i. times z (new_answers (sliced (more i) q) h r))
  unfolding over sums
  slices-new zero h r z = refl
  slices-new (suc n) h r z =
      sums_append (λ t. bit (is_same z t)) (slices_answer q more n h r) (new_answers (sliced (more n) q) h r)
      ∙ ap (λ m. m + times z (new_answers (sliced (more n) q) h r)) (slices-new n h r z)

  slices-together : ((h : List Arrival) → RowsKeep q h → (z : List ℤ) → over k (λ i. counted q (has h i z)) ≡ counted q (times z (answers q h)))
      → SlicesAnswerTogether q k more
  slices-together adds h r keep keep_r =
      is_new q h r (slices_answer q more k h r) (λ z.
      slices-new k h r z
      ∙ over-same k _ _ (λ i l. times-new (sliced (more i) q) (query_within _ (each i l)) h r z)
      ∙ (over-minus k (λ i. counted q (has (h ++ r ∷ []) i z)) (λ i. counted q (has h i z)) (λ i l. counted-grows q _ _ (counts-stay (sliced (more i) q) (query_within _ (each i l)) h r z))).0
      ∙ ap (λ n. n - over k (λ i. counted q (has h i z))) (adds (h ++ r ∷ []) (rows-more-keep q h r keep keep_r) z)
      ∙ ap (λ n. counted q (times z (answers q (h ++ r ∷ []))) - n) (adds h keep z)
      ∙ sym (times-new q (query_within q within) h r z))

  abbrev meet : ℕ → List (List ℤ) → Bool
  meet i c = list_all (meets (assignment_of c)) (more i)

  pub plain-slices : q.distinct ≡ false → AreSlices q k more → SlicesAnswerTogether q k more
  plain-slices e are = slices-together (λ h keep z.
      ap (λ b. over k (λ i. cond b (min 1 (has h i z)) (has h i z))) e
      ∙ add-up q (query_within q within) h keep k meet (has h) (λ i z. times-slice q z (more i) h)
      (λ c m. are.some (assignment_of c) (fits-counts q c m)) (λ c m. are.one (assignment_of c) (fits-counts q c m)) z
      ∙ ap (λ b. cond b (min 1 (times z (answers q h))) (times z (answers q h))) (sym e))

  pub distinct-slices : q.distinct ≡ true → AreDisjointSlices q k more → SlicesAnswerTogether q k more
  distinct-slices e are = slices-together (λ h keep z.
      ap (λ b. over k (λ i. cond b (min 1 (has h i z)) (has h i z))) e
      ∙ add-up-distinct q (query_within q within) h keep k meet (has h) (λ i z. times-slice q z (more i) h)
      (λ c m. are.some (assignment_of c) (fits-counts q c m))
      (λ c d m n. are.one (assignment_of c) (assignment_of d) (fits-counts q c m) (fits-counts q d n)) z
      ∙ ap (λ b. cond b (min 1 (times z (answers q h))) (times z (answers q h))) (sym e))

pub slices-answer : SlicesAnswer
slices-answer q k more within each = (
  λ e are. plain-slices q within k more each e are,
  λ e are. distinct-slices q within k more each e are,
)

-- slices of the values of a column
module _ (bound : ℕ → ℤ) (ascending : (i : ℕ) → bound i ≤ℤ bound (suc i)) where
  ascend : (i n m : ℕ) → m ≡ n + i → bound i ≤ℤ bound m
  ascend i zero m e = let f : i ≡ m = omega (arith, e) in subst (λ t. bound i ≤ℤ bound t) f (omega (arith, ints))
  ascend i (suc n) m e =
      let f : suc (n + i) ≡ m = omega (arith, e) in
      subst (λ t. bound i ≤ℤ bound t) f (omega (arith, ints, ascend i n (n + i) refl, ascending (n + i)))

  in_one : (k : ℕ) (x : ℤ) → bound 0 <ℤ x → x ≤ℤ bound k → (i : ℕ) × (i < k) × (bound i <ℤ x) × (x ≤ℤ bound (suc i))
  in_one zero x l h = absurd (omega (arith, ints, l, h))
  in_one (suc k) x l h = by_lt_z (bound k) x (λ m. (k, omega arith, m, h)) (λ m. let r = in_one k x l (omega (arith, ints, m)) in (r.0, omega (arith, r.1), r.2, r.3))

  not_before : (x : ℤ) (i j : ℕ) → x ≤ℤ bound (suc i) → bound j <ℤ x → i < j → ⊥
  not_before x i j h l m =
      let a : bound (suc i) ≤ℤ bound j = ascend (suc i) (j - suc i) j (omega (arith, m)) in
      absurd (omega (arith, ints, a, h, l))

between-from : (a b : ℤ) (x : ℤ) → (int_lt a x && (int_lt x (b +ℤ pos 1) && true)) ≡ true → (a <ℤ x) × (x ≤ℤ b)
between-from a b x h =
    (low (int_lt a x) refl (and-left _ _ h), high (int_lt x (b +ℤ pos 1)) refl (and-left _ _ (and-right (int_lt a x) _ h)))
  where
    low : (t : Bool) → int_lt a x ≡ t → int_lt a x ≡ true → a <ℤ x
    low t e h = grind (arith, ints, h)

    high : (t : Bool) → int_lt x (b +ℤ pos 1) ≡ t → int_lt x (b +ℤ pos 1) ≡ true → x ≤ℤ b
    high t e h = let l : x <ℤ (b +ℤ pos 1) = grind (arith, ints, h) in omega (arith, ints, l)

between-if : (a b : ℤ) (x : ℤ) → a <ℤ x → x ≤ℤ b → (int_lt a x && (int_lt x (b +ℤ pos 1) && true)) ≡ true
between-if a b x l h =
    let m : x <ℤ (b +ℤ pos 1) = omega (arith, ints, h) in
    let e : int_lt a x ≡ true = grind (arith, ints, l) in
    let f : int_lt x (b +ℤ pos 1) ≡ true = grind (arith, ints, m) in
    rw (e, f) refl

three : (i j : ℕ) → ((i ≡ j) ⊎ ((i < j) ⊎ (j < i)))
three i j = grind arith

pub bounds-slice : BoundsSlice
bounds-slice q a k bound are = record {
  some = λ v f. (let s = in_one bound are.ascending k (v a) (are.around v f).0 (are.around v f).1 in
      (s.0, s.1, between-if (bound s.0) (bound (suc s.0)) (v a) s.2 s.3));
  one = λ v f i j li lj mi mj. one (v a) i j (between-from (bound i) (bound (suc i)) (v a) mi) (between-from (bound j) (bound (suc j)) (v a) mj);
}
  where
    one : (x : ℤ) (i j : ℕ) → (bound i <ℤ x) × (x ≤ℤ bound (suc i)) → (bound j <ℤ x) × (x ≤ℤ bound (suc j)) → i ≡ j
    one x i j m n = elim (three i j) [
      | inl e ↦ e
      | inr o ↦ elim o [
        | inl l ↦ absurd (not_before bound are.ascending x i j m.1 n.0 l)
        | inr l ↦ absurd (not_before bound are.ascending x j i n.1 m.0 l)
      ]
    ]
