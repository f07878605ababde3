-- All lists of a length over some letters, and how many these are.
use Rattle.std.proofs.Common.{◌≡◌, ℕ, zero, suc, ◌+◌, ◌*◌, ◌^◌, List, [], ◌∷◌, ◌++◌, map, length, sym, ap, ◌∙◌, arith, length-append, pow-suc, mul_comm}
use Rattle.std.proofs.lemmas.List.{length-map}
use Rattle.std.proofs.Math.Nat.{pow-zero}
use Rattle.std.specs.List.{flat_map}
use Rattle.sem_query.proofs.Has.{Has, first, later, Has-map, Has-append_left, Has-append_right}

module _ {X Y Z : Type 0} (f : X → Y → Z) where
  pub length-pairs : (xs : List X) (ys : List Y) → length (flat_map (λ x. map (f x) ys) xs) ≡ length xs * length ys
  length-pairs [] ys = omega arith
  length-pairs (x ∷ xs) ys =
      let e : length (map (f x) ys ++ flat_map (λ z. map (f z) ys) xs) ≡ length (map (f x) ys) + length (flat_map (λ z. map (f z) ys) xs)
      = length-append (map (f x) ys) (flat_map (λ z. map (f z) ys) xs) in
      let g : suc (length xs) * length ys ≡ length xs * length ys + length ys = grind arith in
      omega (arith, e, g, length-map ys (f x), length-pairs xs ys)

  pub has-pairs : (xs : List X) (ys : List Y) (x : X) (y : Y) → Has xs x → Has ys y → Has (flat_map (λ x. map (f x) ys) xs) (f x y)
  has-pairs [] ys x y h k = elim h [ ]
  has-pairs (z ∷ xs) ys x y first k = Has-append_left (flat_map (λ w. map (f w) ys) xs) (Has-map (f x) k)
  has-pairs (z ∷ xs) ys x y (later h) k = Has-append_right (map (f z) ys) (has-pairs xs ys x y h k)

-- all lists of so many of these letters
pub all_lists : {X : Type 0} → ℕ → List X → List (List X)
all_lists zero letters = [] ∷ []
all_lists (suc k) letters = flat_map (λ x. map (λ xs. x ∷ xs) (all_lists k letters)) letters

pub length-all_lists : {X : Type 0} (k : ℕ) (letters : List X) → length (all_lists k letters) ≡ length letters ^ k
unfolding all_lists
length-all_lists zero letters = sym (pow-zero (length letters))
length-all_lists {X} (suc k) letters =
    length-pairs (λ (x : X) (xs : List X). x ∷ xs) letters (all_lists k letters)
    ∙ ap (λ (n : ℕ). length letters * n) (length-all_lists k letters)
    ∙ mul_comm (length letters) (length letters ^ k) ∙ sym (pow-suc (length letters) k)

pub has-all_lists : {X : Type 0} (letters : List X) (k : ℕ) (xs : List X) → length xs ≡ k → ((x : X) → Has xs x → Has letters x) → Has (all_lists k letters) xs
unfolding all_lists
has-all_lists letters zero [] e h = first
has-all_lists letters zero (x ∷ xs) e h = absurd (omega (arith, e))
has-all_lists letters (suc k) [] e h = absurd (omega (arith, e))
has-all_lists {X} letters (suc k) (x ∷ xs) e h =
    has-pairs (λ (y : X) (ys : List X). y ∷ ys) letters (all_lists k letters) x xs (h x first) (has-all_lists letters k xs (omega (arith, e)) (λ y i. h y (later i)))
