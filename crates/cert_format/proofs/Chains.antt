-- The words behind a keyword, and the numbers that they are.
use Rattle.std.proofs.Common.{◌≡◌, ℕ, ◌<◌, ◌≤◌, Bool, true, false, cond, ◌&&◌, ◌==◌, nat_lt, nat_le, List, [], ◌∷◌, ◌++◌, length, None, Some, Option, refl, ap, sym, ◌∙◌, arith, length-append}
use Rattle.std.specs.Borrow.{Bor}
use Rattle.std.specs.Option.{option_and_then, option_map, is_some}
use Rattle.std.proofs.lemmas.Bool.Decides.{nat_tests}
use Rattle.std.proofs.lemmas.List.Splits.{length-slice_split}
use Rattle.sql_text.specs.Lines.{parts_behind}
use Rattle.cert_format.specs.Spelling.{number_of, numbers_of, up_to, chain_of, split_of, against_of, leaf_of}

-- a word stands behind a space
pub some_behind : (behind : Option (Bor (List ℕ))) → is_some behind ≡ true → 0 < length (parts_behind 32 behind)
some_behind None h = cc
some_behind (Some rest) h = omega (arith, length-slice_split (λ b. b == 32) rest.now)

-- a leaf has no word behind it
pub no_leaf : (ws : List (List ℕ)) → 0 < length ws → leaf_of ws ≡ None
no_leaf [] h = absurd (omega arith)
no_leaf (word ∷ ws) h = refl

-- a split has one
pub no_split : (word : List ℕ) (ws : List (List ℕ)) → 0 < length ws → split_of (word ∷ ws) ≡ None
no_split word [] h = absurd (omega arith)
no_split word (other ∷ ws) h = refl

-- and so has a branch that a comparison closes
pub no_against : (word : List ℕ) (ws : List (List ℕ)) → 0 < length ws → against_of (word ∷ ws) ≡ None
no_against word [] h = absurd (omega arith)
no_against word (other ∷ ws) h = refl

no_more : (a : Bool) (x : Option (List ℕ)) → cond (a && false) x None ≡ None
no_more true x = refl
no_more false x = refl

up_to_long : (most : ℕ) (ns : List ℕ) → most < length ns → up_to most ns ≡ None
up_to_long most ns h = ap (λ t. cond (nat_lt 0 (length ns) && t) (Some ns) None) (longer (length ns) h) ∙ no_more (nat_lt 0 (length ns)) (Some ns)
  where
    longer : (n : ℕ) → most < n → nat_le n most ≡ false
    longer n h = grind (arith, nat_tests)

one_more : (most : ℕ) (ns : List ℕ) (a : Option ℕ) (b : Option (List ℕ)) → most ≤ length ns
    → option_and_then (up_to most) (option_map (λ vs. ns ++ vs) (option_and_then (λ n. option_map (λ vs. n ∷ vs) b) a)) ≡ None
one_more most ns None b h = refl
one_more most ns (Some n) None h = refl
one_more most ns (Some n) (Some vs) h = up_to_long most (ns ++ n ∷ vs) (omega (arith, length-append ns (n ∷ vs)))

-- words behind as many numbers as there may be
pub too_many : (most : ℕ) (all ws : List (List ℕ)) (ns : List ℕ) → numbers_of all ≡ option_map (λ vs. ns ++ vs) (numbers_of ws) → (length ns == most) ≡ true → 0 < length ws → None ≡ chain_of most all
too_many most all [] ns e full h = absurd (omega arith)
too_many most all (word ∷ ws) ns e full h = sym (ap (option_and_then (up_to most)) e ∙ one_more most ns (number_of word) (numbers_of ws) (as_long (length ns) full))
  where
    as_long : (n : ℕ) → (n == most) ≡ true → most ≤ n
    as_long n h = grind (arith, nat_tests)
