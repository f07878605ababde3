-- The pairs that are tested at a place, and the signs that parts show at them.
use Rattle.std.specs.Prelude.{◌≡◌, ℕ, ◌<◌, false, List, [], ◌∷◌, map, length, slice_get, slice_index_or, Some}
use Rattle.arrayvec.specs.ArrayVec.{ArrayVec}
use Rattle.sem_query.specs.declared.part.Sign.{Sign}
use Rattle.sem_query.specs.declared.part.Pair.{Pair}
use Rattle.sem_query.specs.declared.plan.PartPlan.{PartPlan}
use Rattle.sem_query.specs.Query.{QueryValue}
use Rattle.sem_query.specs.Parts.{pairs, is_within}
use Rattle.plan_implied_signs.specs.declared.showing.Test.{Test}
use Rattle.exec_part_index.specs.declared.tests.Asking.{Asking}
use Rattle.exec_part_index.specs.declared.tests.Tested.{Tested}
use Rattle.exec_part_index.specs.PartIndex.{Shows}

-- how a row of the stream at a place is asked for the sign of a pair, where some pairs are tested
abbrev pub IsAsking : ℕ → List Pair → Pair → Asking → Type 0
IsAsking place tested p Asking.Elsewhere = is_within place p.left p.right ≡ false
IsAsking place tested p (Asking.Tested k) = slice_get tested k ≡ Some p
IsAsking place tested p Asking.Untested = Unit {0}

-- so is each of some pairs
abbrev pub AreAskings : List Pair → ℕ → List Pair → List Asking → Type 0
AreAskings ps place tested askings = (i : ℕ) (a : Asking) → slice_get askings i ≡ Some a → (p : Pair) → slice_get ps i ≡ Some p → IsAsking place tested p a

-- the signs that the part of a number shows
abbrev pub shown_signs : Tested → ℕ → List Sign
shown_signs t k = (slice_index_or t.signs.items k (record { items = [] })).items

-- each part has a sign for each tested pair, each row that it admits at a place has them, and it is known which pairs of the query are tested
pub record AreShown (q : QueryValue) (parts : List PartPlan) (place : ℕ) (t : Tested) : Type 0 where
  pub many : length t.signs.items ≡ length parts
  pub full : (k : ℕ) → k < length parts → length (shown_signs t k) ≡ length t.pairs.items
  pub each : (k : ℕ) (part : PartPlan) → slice_get parts k ≡ Some part → Shows q part place t.pairs.items (shown_signs t k)
  pub askings : AreAskings (pairs q) place t.pairs.items t.askings.items

-- the pairs that are tested
abbrev pub pairs_tested : List Test → List Pair
pairs_tested tests = map (λ t. t.pair) tests

-- there is a sign for each of these pairs, and each row that a part admits at a place has it
pub record IsShownBy (q : QueryValue) (place : ℕ) (ps : List Pair) (part : PartPlan) (signs : ArrayVec Sign) : Type 0 where
  pub many : length signs.items ≡ length ps
  pub shown : Shows q part place ps signs.items

-- these are such signs of the parts, in their order
abbrev pub AreSignsOf : QueryValue → ℕ → List Pair → List PartPlan → List (ArrayVec Sign) → Type 0
AreSignsOf q place ps [] [] = Unit {0}
AreSignsOf q place ps [] (signs ∷ all) = ⊥
AreSignsOf q place ps (part ∷ parts) [] = ⊥
AreSignsOf q place ps (part ∷ parts) (signs ∷ all) = IsShownBy q place ps part signs × AreSignsOf q place ps parts all
