-- Fronts: the signs that the first split pairs of a query can have at once. With all pairs they are the split parts.
use Rattle.std.specs.Prelude.{◌≡◌, ◌≢◌, ℕ, ◌≤◌, false, nat_lt, ◌⊎◌, if◌then◌else◌, List, [], ◌∷◌, ◌++◌, map, take, length}
use Rattle.std.specs.List.{flat_map, list_any}
use Rattle.sem_query.specs.declared.part.Pair.{Pair}
use Rattle.sem_query.specs.declared.part.Sign.{Sign}
use Rattle.sem_query.specs.Query.{QueryValue, attrs_of, IsWithinLimits}
use Rattle.sem_query.specs.Assignment.{Assignment}
use Rattle.sem_query.specs.Members.{Has, Ascends}
use Rattle.sem_query.specs.Parts.{sign_at, signs_lt}
use Rattle.plan_constraints.specs.declared.constraint.Constraint.{Constraint}
use Rattle.plan_constraints.specs.Soft.{denies_itself}
use Rattle.plan_closure.specs.Shortest.{AreDistancesOf}
use Rattle.plan_split_pairs.specs.Pairs.{unlike_pairs, split_pairs}
use Rattle.sem_whole.specs.System.{atom_bounds, system, Solves}
use Rattle.sem_whole.specs.Signed.{all_said}
use Rattle.plan_whole.specs.Closed.{constraint_of, closed_constraints}
use Rattle.plan_split_parts.specs.declared.front.Front.{Front}
use Rattle.plan_split_parts.specs.Sifting.{Sifts}

-- the first split pairs, so many
abbrev pub first_pairs : QueryValue → ℕ → List Pair
first_pairs q n = take n (split_pairs q)

-- some solution of the system gives the first pairs these signs, and none of them that is of a `<>` the sign equal; no `<>` is of an element with
-- itself
pub record IsFront (q : QueryValue) (n : ℕ) (signs : List Sign) : Type 0 where
  pub one : Assignment
  pub solves : Solves (system q) one
  pub has : map (sign_at one) (first_pairs q n) ≡ signs
  pub unlike : (p : Pair) → Has (unlike_pairs q) p → Has (first_pairs q n) p → sign_at one p ≢ Sign.Eq
  pub undenied : list_any (λ t. denies_itself t) q.atoms ≡ false

-- the constraints of the system of a query, and then of the signs of the first pairs
abbrev pub front_constraints : QueryValue → ℕ → List Sign → List Constraint
front_constraints q n signs = closed_constraints q ++ map (constraint_of (attrs_of q.atoms)) (flat_map atom_bounds (all_said (first_pairs q n) signs))

-- the signs of a front, and the distances of its constraints
pub record IsFrontOf (q : QueryValue) (n : ℕ) (front : Front) : Type 0 where
  pub signs : IsFront q n front.signs.items
  pub distances : AreDistancesOf front.distances (length (attrs_of q.atoms)) (front_constraints q n front.signs.items)

-- the signs of fronts
abbrev pub fronts_of : List Front → List (List Sign)
fronts_of fronts = map (λ f. f.signs.items) fronts

-- all fronts of the first pairs, ascending; where those of `<>` are among these they are at most 4,096
pub record AreFronts (q : QueryValue) (n : ℕ) (fronts : List Front) : Type 0 where
  pub ascending : Ascends signs_lt (fronts_of fronts)
  pub each : (f : Front) → Has fronts f → IsFrontOf q n f
  pub all : (signs : List Sign) → IsFront q n signs → Has (fronts_of fronts) signs
  pub few : length (unlike_pairs q) ≤ n → length fronts ≤ 4096

-- the signs but less that the pair at a place is given: that of a `<>` is not given equal
abbrev pub signs_behind : QueryValue → ℕ → List Sign
signs_behind q n = if nat_lt n (length (unlike_pairs q)) then Sign.Gt ∷ [] else Sign.Eq ∷ Sign.Gt ∷ []

-- all of them
abbrev pub signs_at : QueryValue → ℕ → List Sign
signs_at q n = Sign.Lt ∷ signs_behind q n

-- signs of the first pairs with each sign of the next one
abbrev pub candidates : List Sign → List Sign → List (List Sign)
candidates more signs = map (λ s. signs ++ s ∷ []) more

-- of some candidates those that are fronts of the first pairs were added, in order
pub record Pushes (q : QueryValue) (n : ℕ) (from : List (List Sign)) (before after : List Front) : Type 0 where
  pub more : List (List Sign)
  pub sifted : Sifts (IsFront q n) from more
  pub added : fronts_of after ≡ fronts_of before ++ more
  pub each : (f : Front) → Has after f → Has before f ⊎ IsFrontOf q n f

-- the list is that of the split pairs of a query, at most 114, and so many are of `<>`
pub record AreSplitPairs (q : QueryValue) (list : List Pair) (count : ℕ) : Type 0 where
  pub limits : IsWithinLimits q
  pub pairs : list ≡ split_pairs q
  pub few : length list ≤ 114
  pub unlikes : count ≡ length (unlike_pairs q)
