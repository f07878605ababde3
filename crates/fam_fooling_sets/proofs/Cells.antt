-- The value of a column, case by case.
use Rattle.std.proofs.Common.{◌≡◌, ℕ, zero, suc, ◌+◌, ◌<◌, ◌≤◌, cond, Bool, true, false, ◌⊎◌, inl, inr, List, [], ◌∷◌, ◌++◌, length, slice_index_or, All, FitsSigned, w64, refl, sym, ap, ◌∙◌, subst, arith, ℤ, pos, negsuc}
use Rattle.std.proofs.lemmas.Int.{ints}
use Rattle.sem_query.specs.declared.atom.Attr.{Attr}
use Rattle.sem_query.specs.Query.{attr_eq}
use Rattle.sem_query.specs.Cells.{upto}
use Rattle.plan_constraints.specs.Nodes.{has_node, place_of}
use Rattle.plan_constraints.proofs.OfDomains.{node_within, no_node_past}
use Rattle.plan_closure.specs.Answers.{at_nodes}
use Rattle.sem_laws.proofs.Tests.{true_or_false, attr_eq-is}
use Rattle.fam_fooling_sets.specs.Members.{cell_for, IsFarWithin}

pub nodes-at : (xs : List ℤ) (n : ℕ) → at_nodes xs (suc n) ≡ slice_index_or xs n (pos 0)
nodes-at [] n = refl
nodes-at (x ∷ xs) zero = refl
nodes-at (x ∷ xs) (suc n) = nodes-at xs n

-- what lies within 10^18 fits in 64 bits
pub far-fits : (x : ℤ) → IsFarWithin x → FitsSigned w64 x
far-fits (pos m) f = record { sfits = (let h = f.high in omega (arith, ints, h)) }
far-fits (negsuc m) f = record { sfits = (let l = f.low in omega (arith, ints, l)) }

node-fits : (xs : List ℤ) (n : ℕ) → All IsFarWithin xs → FitsSigned w64 (at_nodes xs (suc n))
node-fits xs n far = subst (FitsSigned w64) (sym (nodes-at xs n)) (by (before n (length xs)))
  where
    before : (x y : ℕ) → (x < y) ⊎ (y ≤ x)
    before x y = grind arith

    past : (ys : List ℤ) (m : ℕ) → length ys ≤ m → slice_index_or ys m (pos 0) ≡ pos 0
    past [] m l = refl
    past (y ∷ ys) zero l = absurd (omega (arith, l))
    past (y ∷ ys) (suc m) l = past ys m (omega (arith, l))

    by : (n < length xs) ⊎ (length xs ≤ n) → FitsSigned w64 (slice_index_or xs n (pos 0))
    by (inl l) = far-fits (slice_index_or xs n (pos 0)) (far n (pos 0) l)
    by (inr l) = subst (FitsSigned w64) (sym (past xs n l)) record { sfits = omega arith }

-- the value of a column fits in 64 bits
pub cell-fits : (attrs : List Attr) (xs : List ℤ) (named : Attr) (value : ℤ) (a : Attr) (blank : ℤ) → FitsSigned w64 value → All IsFarWithin xs → FitsSigned w64 blank
    → FitsSigned w64 (cell_for attrs xs named value a blank)
cell-fits attrs xs named value a blank v far b = one (attr_eq a named)
  where
    two : (t : Bool) → FitsSigned w64 (cond t (at_nodes xs (suc (place_of attrs a))) blank)
    two true = node-fits xs (place_of attrs a) far
    two false = b

    one : (t : Bool) → FitsSigned w64 (cond t value (cond (has_node attrs a) (at_nodes xs (suc (place_of attrs a))) blank))
    one true = v
    one false = two (has_node attrs a)

apart : (a b : Attr) → (a ≡ b → ⊥) → attr_eq a b ≡ false
apart a b n = elim (true_or_false (attr_eq a b)) [ inl e ↦ absurd (n (attr_eq-is a b e)) | inr e ↦ e ]

module _ (attrs : List Attr) (xs : List ℤ) (named : Attr) (value : ℤ) (a : Attr) (blank : ℤ) where
  pub cell-there : (place : ℕ) → (a ≡ named → ⊥) → place ≡ place_of attrs a → place < length xs → length xs ≡ length attrs
      → slice_index_or xs place (pos 0) ≡ cell_for attrs xs named value a blank
  cell-there place n p l m =
      let below : place_of attrs a < length attrs = omega (arith, p, l, m) in
      ap (λ (k : ℕ). slice_index_or xs k (pos 0)) p ∙ sym (nodes-at xs (place_of attrs a))
      ∙ sym (ap (λ b. cond b (at_nodes xs (suc (place_of attrs a))) blank) (node_within attrs a below))
      ∙ sym (ap (λ b. cond b value (cond (has_node attrs a) (at_nodes xs (suc (place_of attrs a))) blank)) (apart a named n))

  pub cell-past : (place : ℕ) → (a ≡ named → ⊥) → place ≡ place_of attrs a → length xs ≤ place → length xs ≡ length attrs
      → blank ≡ cell_for attrs xs named value a blank
  cell-past place n p l m =
      let past : length attrs ≤ place_of attrs a = omega (arith, p, l, m) in
      sym (ap (λ b. cond b (at_nodes xs (suc (place_of attrs a))) blank) (no_node_past attrs a past))
      ∙ sym (ap (λ b. cond b value (cond (has_node attrs a) (at_nodes xs (suc (place_of attrs a))) blank)) (apart a named n))

-- one more in a list that is listed up to a number
pub upto-next : {X : Type 0} (f : ℕ → X) (items : List X) (n m : ℕ) (x : X) → items ≡ upto f n → x ≡ f n → m ≡ n + 1 → items ++ x ∷ [] ≡ upto f m
upto-next f items n m x e o p =
    (λ j. e j ++ o j ∷ []) ∙ (let s : suc n ≡ m = omega (arith, p) in ap (upto f) s)
