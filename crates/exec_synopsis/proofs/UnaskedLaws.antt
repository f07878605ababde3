-- Pairs by which nothing is asked of a row have their signs, and conditions of other streams are met.
use Rattle.std.proofs.Common.{◌≡◌, ◌∙◌, ℕ, ℤ, Bool, true, false, not, List, [], ◌∷◌, refl, ap, ◌&&◌, ◌||◌}
use Rattle.std.specs.Prelude.{Option, Some, None, slice_get}
use Rattle.std.specs.List.{list_all}
use Rattle.sem_query.specs.declared.part.Pair.{Pair}
use Rattle.sem_query.specs.declared.part.Sign.{Sign}
use Rattle.sem_query.specs.declared.plan.LocalCondition.{LocalCondition}
use Rattle.sem_query.specs.declared.plan.PartPlan.{PartPlan}
use Rattle.sem_query.specs.Admission.{alone, sign_eq, in_range, meets_local, keeps_local}
use Rattle.sem_query.specs.Plan.{dims_at}
use Rattle.sem_query.specs.Assignment.{Assignment}
use Rattle.sem_query.specs.Parts.{sign_at, is_within}
use Rattle.sem_laws.proofs.Tests.{and-left, and-right}
use Rattle.exec_synopsis.specs.Joining.{asks_none}
use Rattle.exec_synopsis.specs.Preparing.{AreAsked, keeps_pair, keeps_tests, asks_nothing, ask_nothing}

nothing-asked : (place : ℕ) (v : Assignment) (p : Option Pair) (s : Option Sign) → asks_nothing place p s ≡ true → keeps_pair place v p s ≡ true
nothing-asked place v None s e = absurd cc
nothing-asked place v (Some p) None e = absurd cc
nothing-asked place v (Some p) (Some s) e = ap (λ b. b || sign_eq (sign_at v p) s) e

pub none-asked : (place : ℕ) (v : Assignment) (ps : List Pair) (ss : List Sign) (tests : List ℕ) → ask_nothing place ps ss tests ≡ true → keeps_tests place v ps ss tests ≡ true
none-asked place v ps ss [] e = refl
none-asked place v ps ss (i ∷ tests) e =
    λ k. nothing-asked place v (slice_get ps i) (slice_get ss i) (and-left _ _ e) k && none-asked place v ps ss tests (and-right _ _ e) k

-- conditions of other streams are met
none-of-place : (place : ℕ) (v : Assignment) (ts : List LocalCondition) → asks_none place ts ≡ true → keeps_local place v ts ≡ true
none-of-place place v [] e = refl
none-of-place place v (t ∷ ts) e =
    λ k. beside (not (is_within place t.left t.right)) (and-left _ _ e) k && none-of-place place v ts (and-right (not (is_within place t.left t.right)) _ e) k
  where
    beside : (b : Bool) → b ≡ true → (b || meets_local v t) ≡ true
    beside b h = ap (λ c. c || meets_local v t) h

-- where nothing else must be asked of the stream at a place, its rows in the ranges of the dims stand as they are asked
pub none-asked-else : (part : PartPlan) (place : ℕ) (asked : List LocalCondition) → AreAsked part asked → asks_none place asked ≡ true
    → (v : ℕ → ℤ) → list_all (in_range v) (dims_at part place) ≡ true → keeps_local place (alone v) part.local ≡ true
none-asked-else part place asked are none v inside = are place v inside ∙ none-of-place place (alone v) asked none
