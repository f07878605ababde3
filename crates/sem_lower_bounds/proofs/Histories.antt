-- Histories as numbers, and the evaluator that keeps them.
use Rattle.std.proofs.Common.{◌≡◌, ℕ, zero, suc, List, [], ◌∷◌, ◌++◌, length, refl, sym, ap, ◌∙◌, ℤ, pos, negsuc}
use Rattle.sem_query.specs.Query.{QueryValue}
use Rattle.sem_query.specs.Meaning.{Arrival, new_answers}
use Rattle.sem_lower_bounds.proofs.Pairing.{paired, parted, parted-paired}
use Rattle.sem_lower_bounds.specs.States.{Evaluator, after, WholeHistoriesAreRight}

-- a number for each, and each again from its number
record Numbered (A : Type 0) : Type 0 where
  code : A → ℕ
  of_code : ℕ → A
  same : (x : A) → of_code (code x) ≡ x

-- an integer: its side of 0, and how far it is
int_code : ℤ → ℕ
int_code (pos n) = paired 0 n
int_code (negsuc n) = paired 1 n

abbrev int_at : ℕ → ℕ → ℤ
int_at zero n = pos n
int_at (suc side) n = negsuc n

int_of : ℕ → ℤ
int_of m = int_at (parted m).0 (parted m).1

int-same : (z : ℤ) → int_of (int_code z) ≡ z
unfolding int_of int_code
int-same (pos n) = ap (λ (p : ℕ × ℕ). int_at p.0 p.1) (parted-paired 0 n)
int-same (negsuc n) = ap (λ (p : ℕ × ℕ). int_at p.0 p.1) (parted-paired 1 n)

module _ {A : Type 0} (n : Numbered A) where
  -- the elements of a list, paired up
  abbrev chain : List A → ℕ
  chain [] = 0
  chain (x ∷ xs) = paired (n.code x) (chain xs)

  -- the list of so many elements
  abbrev chain_of : ℕ → ℕ → List A
  chain_of zero m = []
  chain_of (suc k) m = n.of_code (parted m).0 ∷ chain_of k (parted m).1

  chain-same : (xs : List A) → chain_of (length xs) (chain xs) ≡ xs
  chain-same [] = refl
  chain-same (x ∷ xs) =
      ap (λ (p : ℕ × ℕ). n.of_code p.0 ∷ chain_of (length xs) p.1) (parted-paired (n.code x) (chain xs))
      ∙ ap (λ (y : A). y ∷ chain_of (length xs) (chain xs)) (n.same x)
      ∙ ap (λ (ys : List A). x ∷ ys) (chain-same xs)

  lists : Numbered (List A)
  lists = record {
    code = λ xs. paired (length xs) (chain xs);
    of_code = λ m. chain_of (parted m).0 (parted m).1;
    same = λ xs. ap (λ (p : ℕ × ℕ). chain_of p.0 p.1) (parted-paired (length xs) (chain xs)) ∙ chain-same xs;
  }

rows_numbered : Numbered (List ℤ)
rows_numbered = lists record { code = int_code; of_code = int_of; same = int-same }

arrivals_numbered : Numbered Arrival
arrivals_numbered = record {
  code = λ r. paired r.stream (rows_numbered.code r.values);
  of_code = λ m. record { stream = (parted m).0; values = rows_numbered.of_code (parted m).1 };
  same = λ r. ap (λ (p : ℕ × ℕ). record { stream = p.0; values = rows_numbered.of_code p.1 }) (parted-paired r.stream (rows_numbered.code r.values))
      ∙ ap (λ (row : List ℤ). record { stream = r.stream; values = row }) (rows_numbered.same r.values);
}

histories : Numbered (List Arrival)
histories = lists arrivals_numbered

keeper : QueryValue → Evaluator
keeper q = record {
  start = histories.code [];
  step = λ s r. histories.code (histories.of_code s ++ r ∷ []);
  says = λ s r. new_answers q (histories.of_code s) r;
}

one-more : (g : List Arrival) (r : Arrival) (h : List Arrival) → (g ++ r ∷ []) ++ h ≡ g ++ r ∷ h
one-more [] r h = refl
one-more (x ∷ g) r h = ap (λ (l : List Arrival). x ∷ l) (one-more g r h)

kept : (q : QueryValue) (g h : List Arrival) → after (keeper q) (histories.code g) h ≡ histories.code (g ++ h)
unfolding keeper
kept q g [] = ap histories.code (sym (nothing g))
  where
    nothing : (g : List Arrival) → g ++ [] ≡ g
    nothing [] = refl
    nothing (x ∷ g) = ap (λ (l : List Arrival). x ∷ l) (nothing g)
kept q g (r ∷ h) =
    ap (λ (l : List Arrival). after (keeper q) (histories.code (l ++ r ∷ [])) h) (histories.same g)
    ∙ kept q (g ++ r ∷ []) h
    ∙ ap histories.code (one-more g r h)

kept-all : (q : QueryValue) (h : List Arrival) → histories.of_code (after (keeper q) (keeper q).start h) ≡ h
unfolding keeper
kept-all q h = ap histories.of_code (kept q [] h) ∙ histories.same h

pub whole-histories-are-right : WholeHistoriesAreRight
unfolding keeper
whole-histories-are-right q = (
  keeper q,
  (λ g h e. sym (kept-all q g) ∙ ap histories.of_code e ∙ kept-all q h),
  (λ history r. ap (λ (h : List Arrival). new_answers q h r) (kept-all q history)),
)
