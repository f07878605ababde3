-- Texts of lists, by the first element and the others.
use Rattle.std.proofs.Common.{◌≡◌, ℕ, ◌-◌, ◌≤◌, List, [], ◌∷◌, ◌++◌, length, get_or, take, drop, codes, Option, Some, Result, refl, sym, ap, ◌∙◌, arith}
use Rattle.std.proofs.lemmas.List.{take_rest}
use Rattle.io_streams.specs.Sink.{SinkState, Writes}
use Rattle.adv_hints.specs.declared.candidates.Candidate.{Candidate}
use Rattle.adv_hints.specs.Candidates.{told_as}
use Rattle.adv_sentences.specs.Sentences.{listed, name_text, there_are, alike, alike_text, there_are_like}

listed_cons : {X : Type 0} (f : X → List ℕ) (lead : List ℕ) (xs : List X) (d : X) → 1 ≤ length xs → listed f lead xs ≡ lead ++ (f (get_or xs 0 d) ++ listed f (codes ", ") (drop 1 xs))
listed_cons f lead [] d h = absurd (omega arith)
listed_cons f lead (x ∷ xs) d h = refl

-- a list is written as its first element behind a text, and each other behind a comma
pub listed_first : {X : Type 0} (f : X → List ℕ) (lead : List ℕ) (xs : List X) (d : X) → 1 ≤ length xs → listed f lead xs ≡ lead ++ (f (get_or xs 0 d) ++ listed f (codes ", ") (take (length xs - 1) (drop 1 xs)))
listed_first f lead xs d h = rw take_rest (listed_cons f lead xs d h)

-- names, by the first and the others
pub names_first : (lead : List ℕ) (names : List (List ℕ)) (first : List ℕ) → 1 ≤ length names → first ≡ get_or names 0 first → listed name_text lead names ≡ lead ++ (first ++ listed name_text (codes ", ") (take (length names - 1) (drop 1 names)))
names_first lead names first h is = listed_first name_text lead names first h ∙ ap (λ (x : List ℕ). lead ++ (x ++ listed name_text (codes ", ") (take (length names - 1) (drop 1 names)))) (sym is)

-- candidates were written, the first and the others
pub candidates_written : {T E : Type 0} (r : Result T E) (a b : SinkState) (lead : List ℕ) (cs : List Candidate) (d : Candidate) → 1 ≤ length cs
    → Writes r a b (lead ++ (told_as (get_or cs 0 d) ++ listed told_as (codes ", ") (take (length cs - 1) (drop 1 cs)))) → Writes r a b (listed told_as lead cs)
candidates_written r a b lead cs d h w = rw (listed_first told_as lead cs d h) w

-- a name is there that the word may mean
pub like_found : (word : List ℕ) (names : List (List ℕ)) (name : List ℕ) → alike word names ≡ Some name → there_are_like word names ≡ there_are names ++ alike_text (Some name)
like_found word names name e = ap (λ (o : Option (List ℕ)). there_are names ++ alike_text o) e
