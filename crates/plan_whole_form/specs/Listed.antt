-- Conditions, listed in turn.
use Rattle.std.specs.Prelude.{◌≡◌, ℕ, ◌<◌, ◌≤◌, ◌↔◌, List, ◌++◌, length}
use Rattle.std.specs.declared.option.Option.{Option}
use Rattle.std.specs.declared.option.Option.TheVariants.{Some}
use Rattle.sem_query.specs.declared.atom.Atom.{Atom}
use Rattle.sem_query.specs.Members.{Has}
use Rattle.sem_query.specs.Query.{QueryValue}
use Rattle.sem_query.specs.declared.plan.LocalCondition.{LocalCondition}
use Rattle.plan_whole_form.specs.Conditions.{IsUnlikeAt, IsAsked}

-- those that the first numbers give, by what each gives or that it gives none
pub record AreListed (P : ℕ → Option LocalCondition → Type 0) (n : ℕ) (ts : List LocalCondition) : Type 0 where
  pub few : length ts ≤ n
  pub each : (t : LocalCondition) → Has ts t → (c : ℕ) × (c < n) × P c (Some t)
  pub all : (c : ℕ) → c < n → (t : LocalCondition) → P c (Some t) → Has ts t

-- the comparisons `<>` of the stream at a place among some
pub record AreUnlikes (place : ℕ) (atoms : List Atom) (ts : List LocalCondition) : Type 0 where
  pub few : length ts ≤ length atoms
  pub each : (t : LocalCondition) → Has ts t → (s : Atom) × Has atoms s × IsUnlikeAt place s (Some t)
  pub all : (s : Atom) → Has atoms s → (t : LocalCondition) → IsUnlikeAt place s (Some t) → Has ts t

-- what has to be asked of the rows of the stream at a place stands behind all else
pub record IsWithStream (q : QueryValue) (place : ℕ) (old new : List LocalCondition) : Type 0 where
  pub more : List LocalCondition
  pub is : new ≡ old ++ more
  pub asked : (t : LocalCondition) → Has more t ↔ IsAsked q place t
