-- Where each history may be replaced by one of at most so many rows, some evaluator has few states: it keeps the short history.
use Rattle.std.proofs.Common.{◌≡◌, inl, inr, ℕ, zero, suc, ◌+◌, ◌*◌, ◌^◌, ◌≤◌, ℤ, pos, negsuc, List, [], ◌∷◌, ◌++◌, map, length, refl, sym, ap, ◌∙◌, subst, arith, pow-suc, mul-le-mul}
use Rattle.std.proofs.Math.Nat.{pow-le-pow_left, pow-zero}
use Rattle.std.proofs.lemmas.Int.{ints}
use Rattle.std.proofs.lemmas.List.{length-map}
use Rattle.std.specs.List.{flat_map}
use Rattle.sem_query.specs.Query.{QueryValue}
use Rattle.sem_query.specs.Domains.{RowKeeps, RowsKeep}
use Rattle.sem_query.specs.Meaning.{Arrival, new_answers}
use Rattle.sem_query.proofs.Has.{Has, first, later, Has-nil, Has-map, Contains-from_has}
use Rattle.sem_laws.proofs.Keeping.{row-keeps, rows-keep, rows-more-keep}
use Rattle.sem_laws.proofs.OnePartFits.{has_cases}
use Rattle.sem_laws.proofs.Tests.{append-nothing}
use Rattle.sem_lower_bounds.specs.States.{Evaluator, after, IsWithin, AreWithin}
use Rattle.sem_lower_bounds.specs.Accepted.{HasPolynomiallyManyStates}
use Rattle.sem_lower_bounds.specs.Served.{HasFewStatesOn}
use Rattle.sem_lower_bounds.specs.Within.{IsRightOn}
use Rattle.sem_lower_bounds.proofs.FewStates.{polynomially-many-are-few}
use Rattle.sem_lower_bounds.proofs.Growth.{pow-mul}
use Rattle.sem_lower_bounds.proofs.Listed.{all_lists, length-all_lists, has-all_lists, length-pairs, has-pairs}
use Rattle.sem_lower_bounds.proofs.Pairing.{paired, parted, parted-paired}
use Rattle.sem_split_bounds.proofs.RowKeys.{integers_to, has_integers, length_integers}

-- what is asked of the short history of each history: few rows, of streams of FROM and of eight values, that keep to the domains and bounds to which the
-- history keeps, and after which each row is answered as after the history
pub record AreShort (q : QueryValue) (most : ℕ) (short : List Arrival → List Arrival) : Type 0 where
  pub size : (h : List Arrival) → length (short h) ≤ most
  pub stream : (h : List Arrival) (r : Arrival) → Has (short h) r → Has q.from r.stream
  pub width : (h : List Arrival) (r : Arrival) → Has (short h) r → length r.values ≡ 8
  pub keep : (h : List Arrival) → RowsKeep q h → RowsKeep q (short h)
  pub near : (bound : ℕ) (h : List Arrival) → AreWithin bound h → AreWithin bound (short h)
  pub alike : (h : List Arrival) → RowsKeep q h → (later : List Arrival) (r : Arrival) → RowsKeep q later → RowKeeps q r
      → new_answers q (short h ++ later) r ≡ new_answers q (h ++ later) r

-- ---- histories as numbers

-- a number for each, and each again from its number
record Numbered (A : Type 0) : Type 0 where
  code : A → ℕ
  of_code : ℕ → A
  same : (x : A) → of_code (code x) ≡ x

-- an integer: its side of 0, and how far it is
int_code : ℤ → ℕ
int_code (pos n) = paired 0 n
int_code (negsuc n) = paired 1 n

abbrev int_at : ℕ → ℕ → ℤ
int_at zero n = pos n
int_at (suc side) n = negsuc n

int_of : ℕ → ℤ
int_of m = int_at (parted m).0 (parted m).1

int-same : (z : ℤ) → int_of (int_code z) ≡ z
unfolding int_of int_code
int-same (pos n) = ap (λ (p : ℕ × ℕ). int_at p.0 p.1) (parted-paired 0 n)
int-same (negsuc n) = ap (λ (p : ℕ × ℕ). int_at p.0 p.1) (parted-paired 1 n)

module _ {A : Type 0} (n : Numbered A) where
  -- the elements of a list, paired up
  abbrev chain : List A → ℕ
  chain [] = 0
  chain (x ∷ xs) = paired (n.code x) (chain xs)

  -- the list of so many elements
  abbrev chain_of : ℕ → ℕ → List A
  chain_of zero m = []
  chain_of (suc k) m = n.of_code (parted m).0 ∷ chain_of k (parted m).1

  chain-same : (xs : List A) → chain_of (length xs) (chain xs) ≡ xs
  chain-same [] = refl
  chain-same (x ∷ xs) =
      ap (λ (p : ℕ × ℕ). n.of_code p.0 ∷ chain_of (length xs) p.1) (parted-paired (n.code x) (chain xs))
      ∙ ap (λ (y : A). y ∷ chain_of (length xs) (chain xs)) (n.same x)
      ∙ ap (λ (ys : List A). x ∷ ys) (chain-same xs)

  lists : Numbered (List A)
  lists = record {
    code = λ xs. paired (length xs) (chain xs);
    of_code = λ m. chain_of (parted m).0 (parted m).1;
    same = λ xs. ap (λ (p : ℕ × ℕ). chain_of p.0 p.1) (parted-paired (length xs) (chain xs)) ∙ chain-same xs;
  }

rows_numbered : Numbered (List ℤ)
rows_numbered = lists record { code = int_code; of_code = int_of; same = int-same }

arrivals_numbered : Numbered Arrival
arrivals_numbered = record {
  code = λ r. paired r.stream (rows_numbered.code r.values);
  of_code = λ m. record { stream = (parted m).0; values = rows_numbered.of_code (parted m).1 };
  same = λ r. ap (λ (p : ℕ × ℕ). record { stream = p.0; values = rows_numbered.of_code p.1 }) (parted-paired r.stream (rows_numbered.code r.values))
      ∙ ap (λ (row : List ℤ). record { stream = r.stream; values = row }) (rows_numbered.same r.values);
}

histories : Numbered (List Arrival)
histories = lists arrivals_numbered

-- ---- lists of at most so many letters

short_lists : {X : Type 0} → ℕ → List X → List (List X)
short_lists zero letters = [] ∷ []
short_lists (suc k) letters = [] ∷ flat_map (λ x. map (λ xs. x ∷ xs) (short_lists k letters)) letters

length_short : {X : Type 0} (k : ℕ) (letters : List X) → length (short_lists k letters) ≤ suc (length letters) ^ k
unfolding short_lists
length_short zero letters = omega (arith, pow-zero (suc (length letters)))
length_short {X} (suc k) letters =
    let m : ℕ = length letters in
    let p : ℕ = suc m ^ k in
    let e : length (flat_map (λ x. map (λ xs. x ∷ xs) (short_lists k letters)) letters) ≡ m * length (short_lists k letters) = length-pairs (λ (x : X) (xs : List X). x ∷ xs) letters (short_lists k letters) in
    let i : length (short_lists k letters) ≤ p = length_short k letters in
    let f : m * length (short_lists k letters) ≤ m * p = mul-le-mul {n₁ = m} {m₁ = length (short_lists k letters)} {n₂ = m} {m₂ = p} (omega arith) i in
    let o : 1 ≤ p = one_below k m in
    let g : suc m ^ suc k ≡ p * suc m = pow-suc (suc m) k in
    let d : p * suc m ≡ m * p + p = grind arith in
    omega (arith, e, f, o, g, d)
  where
    one_below : (k m : ℕ) → 1 ≤ suc m ^ k
    one_below zero m = omega (arith, pow-zero (suc m))
    one_below (suc k) m =
        let g : suc m ^ suc k ≡ suc m ^ k * suc m = pow-suc (suc m) k in
        let l : 1 * 1 ≤ suc m ^ k * suc m = mul-le-mul {n₁ = 1} {m₁ = 1} {n₂ = suc m ^ k} {m₂ = suc m} (one_below k m) (omega arith) in
        omega (arith, g, l)

has_short : {X : Type 0} (letters : List X) (k : ℕ) (xs : List X) → length xs ≤ k → ((x : X) → Has xs x → Has letters x) → Has (short_lists k letters) xs
unfolding short_lists
has_short letters zero [] l h = first
has_short letters zero (x ∷ xs) l h = absurd (omega (arith, l))
has_short letters (suc k) [] l h = first
has_short {X} letters (suc k) (x ∷ xs) l h =
    later (has-pairs (λ (y : X) (ys : List X). y ∷ ys) letters (short_lists k letters) x xs (h x first) (has_short letters k xs (omega (arith, l)) (λ y i. h y (later i))))

-- ---- rows within a bound

abbrev arrival : ℕ → List ℤ → Arrival
arrival s row = record { stream = s; values = row }

rows_to : QueryValue → ℕ → List Arrival
rows_to q bound = flat_map (λ s. map (arrival s) (all_lists 8 (integers_to bound))) q.from

length_rows : (q : QueryValue) (bound : ℕ) → length (rows_to q bound) ≡ length q.from * (suc bound + suc bound) ^ 8
unfolding rows_to
length_rows q bound =
    length-pairs arrival q.from (all_lists 8 (integers_to bound)) ∙ ap (λ (n : ℕ). length q.from * n) (length-all_lists 8 (integers_to bound) ∙ ap (λ (n : ℕ). n ^ 8) (length_integers bound))

value_to : (bound : ℕ) (row : List ℤ) → IsWithin bound row → (z : ℤ) → Has row z → Has (integers_to bound) z
value_to bound [] w z h = Has-nil h
value_to bound (y ∷ row) w z h = elim (has_cases y z row h) [
  | inl e ↦ subst (Has (integers_to bound)) e (let l = w.0 in has_integers bound y (omega (arith, ints, l)) (omega (arith, ints, l)))
  | inr k ↦ value_to bound row w.1 z k
]

row_to : (q : QueryValue) (bound : ℕ) (r : Arrival) → Has q.from r.stream → length r.values ≡ 8 → IsWithin bound r.values → Has (rows_to q bound) r
unfolding rows_to
row_to q bound r s l w =
    has-pairs arrival q.from (all_lists 8 (integers_to bound)) r.stream r.values s (has-all_lists (integers_to bound) 8 r.values l (value_to bound r.values w))

within_at : (bound : ℕ) (h : List Arrival) → AreWithin bound h → (r : Arrival) → Has h r → IsWithin bound r.values
within_at bound [] w r i = Has-nil i
within_at bound (o ∷ h) w r i = elim (has_cases o r h i) [ inl e ↦ subst (λ r. IsWithin bound r.values) e w.0 | inr k ↦ within_at bound h w.1 r k ]

within_more : (bound : ℕ) (h : List Arrival) (r : Arrival) → AreWithin bound h → IsWithin bound r.values → AreWithin bound (h ++ r ∷ [])
within_more bound [] r w i = (i, tt)
within_more bound (o ∷ h) r w i = (w.0, within_more bound h r w.1 i)

-- ---- the evaluator

module _ (q : QueryValue) (most : ℕ) (short : List Arrival → List Arrival) (are : AreShort q most short) where
  evaluator : Evaluator
  evaluator = record {
    start = histories.code [];
    step = λ s r. histories.code (short (histories.of_code s ++ r ∷ []));
    says = λ s r. new_answers q (histories.of_code s) r;
  }

  -- the history that is kept after one history and another
  run : List Arrival → List Arrival → List Arrival
  run g [] = g
  run g (r ∷ h) = run (short (g ++ r ∷ [])) h

  comes : (g h : List Arrival) → after evaluator (histories.code g) h ≡ histories.code (run g h)
  unfolding evaluator run
  comes g [] = refl
  comes g (r ∷ h) =
      ap (λ l. after evaluator (histories.code (short (l ++ r ∷ []))) h) (histories.same g) ∙ comes (short (g ++ r ∷ [])) h

  one_more : (g : List Arrival) (r : Arrival) (h : List Arrival) → (g ++ r ∷ []) ++ h ≡ g ++ r ∷ h
  one_more [] r h = refl
  one_more (x ∷ g) r h = ap (λ (l : List Arrival). x ∷ l) (one_more g r h)

  abbrev Same : List Arrival → List Arrival → Type 0
  Same g h = (ahead : List Arrival) (r : Arrival) → RowsKeep q ahead → RowKeeps q r → new_answers q (g ++ ahead) r ≡ new_answers q (h ++ ahead) r

  run_same : (h g done : List Arrival) → RowsKeep q g → RowsKeep q h → Same g done → Same (run g h) (done ++ h)
  unfolding run
  run_same [] g done kg kh same = λ ahead r ka kr. same ahead r ka kr ∙ ap (λ l. new_answers q (l ++ ahead) r) (sym (append-nothing done))
  run_same (o ∷ h) g done kg kh same =
      let ko : RowKeeps q o = row-keeps q (o ∷ h) kh o first in
      let kr : RowsKeep q h = rows-keep q h (λ r i. row-keeps q (o ∷ h) kh r (later i)) in
      let kg1 : RowsKeep q (g ++ o ∷ []) = rows-more-keep q g o kg ko in
      subst (Same (run (short (g ++ o ∷ [])) h)) (one_more done o h)
      (run_same h (short (g ++ o ∷ [])) (done ++ o ∷ []) (are.keep (g ++ o ∷ []) kg1) kr
      (λ ahead r ka kb. are.alike (g ++ o ∷ []) kg1 ahead r ka kb
      ∙ ap (λ l. new_answers q l r) (one_more g o ahead) ∙ same (o ∷ ahead) r (rows-keep q (o ∷ ahead) (λ p i. elim (has_cases o p ahead i) [ inl e ↦ subst (RowKeeps q) e ko | inr k ↦ row-keeps q ahead ka p k ])) kb
      ∙ ap (λ l. new_answers q l r) (sym (one_more done o ahead))))

  none_keep : RowsKeep q []
  none_keep = rows-keep q [] (λ r i. Has-nil i)

  right : IsRightOn (RowKeeps q) q evaluator
  unfolding evaluator
  right h r kh kr =
      ap (λ s. new_answers q (histories.of_code s) r) (comes [] h) ∙ ap (λ l. new_answers q l r) (histories.same (run [] h))
      ∙ ap (λ l. new_answers q l r) (sym (append-nothing (run [] h))) ∙ run_same h [] [] none_keep kh (λ ahead r ka kb. refl) [] r none_keep kr
      ∙ ap (λ l. new_answers q l r) (append-nothing h)

  -- what is kept has few rows, within the bound
  record Fits (bound : ℕ) (g : List Arrival) : Type 0 where
    size : length g ≤ most
    among : (r : Arrival) → Has g r → Has (rows_to q bound) r
    near : AreWithin bound g

  run_fits : (bound : ℕ) (h g : List Arrival) → Fits bound g → AreWithin bound h → Fits bound (run g h)
  unfolding run
  run_fits bound [] g f w = f
  run_fits bound (r ∷ h) g f w =
      let near : AreWithin bound (short (g ++ r ∷ [])) = are.near bound (g ++ r ∷ []) (within_more bound g r f.near w.0) in
      run_fits bound h (short (g ++ r ∷ [])) record {
        size = are.size (g ++ r ∷ []);
        among = λ o i. row_to q bound o (are.stream (g ++ r ∷ []) o i) (are.width (g ++ r ∷ []) o i) (within_at bound (short (g ++ r ∷ [])) near o i);
        near = near;
      } w.1

  states : ℕ → List ℕ
  states bound = map histories.code (short_lists most (rows_to q bound))

  state_among : (bound : ℕ) (h : List Arrival) → AreWithin bound h → Has (states bound) (after evaluator (histories.code []) h)
  unfolding states
  state_among bound h w =
      let f : Fits bound (run [] h) = run_fits bound h [] record { size = omega arith; among = λ r i. Has-nil i; near = tt } w in
      subst (Has (map histories.code (short_lists most (rows_to q bound)))) (sym (comes [] h))
      (Has-map histories.code (has_short (rows_to q bound) most (run [] h) f.size f.among))

  -- ---- they are polynomially many

  abbrev factor : ℕ
  factor = 2 * suc (length q.from)

  few_rows : (n bound : ℕ) → suc (length (rows_to q bound)) ≤ (factor * (n + bound + 1)) ^ 9
  few_rows n bound =
      let x : ℕ = factor * (n + bound + 1) in
      let s : ℕ = length q.from in
      let b : suc bound + suc bound ≤ x
      = (let m : 2 * (bound + 1) ≤ factor * (n + bound + 1) = mul-le-mul {n₁ = 2} {m₁ = bound + 1} {n₂ = factor} {m₂ = n + bound + 1} (omega arith) (omega arith) in omega (arith, m)) in
      let c : suc s ≤ x
      = (let m : suc s * 1 ≤ factor * (n + bound + 1) = mul-le-mul {n₁ = suc s} {m₁ = 1} {n₂ = factor} {m₂ = n + bound + 1} (omega arith) (omega arith) in omega (arith, m)) in
      let p : ℕ = (suc bound + suc bound) ^ 8 in
      let l : p ≤ x ^ 8 = pow-le-pow_left b 8 in
      let one : 1 ≤ p = positive 8 (suc bound + suc bound) (omega arith) in
      let e : length (rows_to q bound) ≡ s * p = length_rows q bound in
      let d : suc s * p ≡ s * p + p = grind arith in
      let m : p * suc s ≤ x ^ 8 * x = mul-le-mul {n₁ = p} {m₁ = suc s} {n₂ = x ^ 8} {m₂ = x} l c in
      let t : p * suc s ≡ suc s * p = grind arith in
      let g : x ^ 9 ≡ x ^ 8 * x = pow-suc x 8 in
      omega (arith, e, d, m, t, g, one)
    where
      positive : (k m : ℕ) → 1 ≤ m → 1 ≤ m ^ k
      positive zero m l = omega (arith, pow-zero m)
      positive (suc k) m l =
          let g : m ^ suc k ≡ m ^ k * m = pow-suc m k in
          let i : 1 * 1 ≤ m ^ k * m = mul-le-mul {n₁ = 1} {m₁ = 1} {n₂ = m ^ k} {m₂ = m} (positive k m l) l in
          omega (arith, g, i)

  few_states : (n bound : ℕ) → length (states bound) ≤ (factor * (n + bound + 1)) ^ (9 * most)
  unfolding states
  few_states n bound =
      let e : length (map histories.code (short_lists most (rows_to q bound))) ≡ length (short_lists most (rows_to q bound)) = length-map (short_lists most (rows_to q bound)) histories.code in
      let l : length (short_lists most (rows_to q bound)) ≤ suc (length (rows_to q bound)) ^ most = length_short most (rows_to q bound) in
      let m : suc (length (rows_to q bound)) ^ most ≤ ((factor * (n + bound + 1)) ^ 9) ^ most = pow-le-pow_left (few_rows n bound) most in
      let g : (factor * (n + bound + 1)) ^ (9 * most) ≡ ((factor * (n + bound + 1)) ^ 9) ^ most = pow-mul (factor * (n + bound + 1)) 9 most in
      omega (arith, e, l, m, g)

  polynomial : HasPolynomiallyManyStates evaluator
  unfolding evaluator
  polynomial = record {
    factor = factor;
    exponent = 9 * most;
    states = λ n bound. record {
      states = states bound;
      size = few_states n bound;
      all = λ h l w. Contains-from_has (states bound) (after evaluator (histories.code []) h) (state_among bound h w);
    };
  }

  few : HasFewStatesOn (RowKeeps q) evaluator
  few b =
      let o = polynomially-many-are-few evaluator polynomial b in
      record { n = o.n; most = o.most; states = record { states = o.states.states; size = o.states.size; all = λ h keep l w. o.states.all h l w }; few = o.few }

-- the evaluator's state is the number of a short history; its states after all histories within a bound are polynomially many
pub short-histories-are-few : (q : QueryValue) (most : ℕ) (short : List Arrival → List Arrival) → AreShort q most short
    → (e : Evaluator) × IsRightOn (RowKeeps q) q e × HasFewStatesOn (RowKeeps q) e
short-histories-are-few q most short are = (evaluator q most short are, right q most short are, few q most short are)
