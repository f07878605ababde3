-- The cells of an executor and its table: where each cell is saturated.
use Rattle.std.proofs.Common.{◌≡◌, ◌∙◌, ℕ, true, ℤ, List, Contains, slice_get, Some, ap, subst, arith, inl, inr}
use Rattle.std.proofs.lemmas.Option.{slice_get-get_or}
use Rattle.sem_query.proofs.Has.{Contains-from_has}
use Rattle.sem_query.specs.declared.plan.PartPlan.{PartPlan}
use Rattle.sem_query.specs.declared.plan.Plan.{Plan}
use Rattle.sem_query.specs.declared.plan.Plan.TheVariants as plan
use Rattle.sem_query.specs.Combinations.{Reading}
use Rattle.sem_query.specs.Query.{QueryValue}
use Rattle.sem_query.specs.Numbers.{parts_of}
use Rattle.sem_laws.specs.Closed.{IsDistinctPlan, IsClosed}
use Rattle.exec_saturation.specs.Known.{IsKnown, AreSaturated, none_yet}
use Rattle.sem_laws.proofs.Tests.{not_both}
use Rattle.exec_saturation.specs.declared.saturation.Saturation.{Saturation}
use Rattle.exec_saturation.specs.declared.saturation.Saturation.TheVariants as saturation
use Rattle.exec_query.specs.Executor.{ExecutorValue, parts_in, IsSound, with_saturation}
use Rattle.exec_query.specs.Standing.{KeepsWithin}
use Rattle.exec_query.specs.Bases.{StandsFrom}
use Rattle.exec_pool.specs.Extents.{PoolValue}
use Rattle.sem_query.specs.Bases.{Base}
use Rattle.sem_query.specs.Meaning.{Arrival}
use Rattle.exec_query.specs.CellSteps.{HasParts}
use Rattle.exec_query.proofs.Answered.{filter_plain}
use Rattle.exec_query.proofs.PlanFacts.{serving_in, has_parts}
use Rattle.exec_query.proofs.Inserting.{get_has}

-- with DISTINCT the parts of an executor are those of a query to which the laws of closed tables apply
pub distinct-plan : (e : ExecutorValue) → IsSound e → e.query.distinct ≡ true → IsDistinctPlan e.query (parts_in e)
distinct-plan e sound d = by e.plan (has_parts e.shared e.query e.plan (serving_in e sound))
  where
    by : (p : Plan) → HasParts e.query p → IsDistinctPlan e.query (parts_of p)
    by plan.Filter own = absurd (not_both _ d (filter_plain e.query own))
    by (plan.Parts parts numbers) own = record { limits = sound.limits; several = own.0; serving = own.1; distinct = d }

-- saturated cells stay so when the table grows
pub saturated-more : (known : Saturation) (q : QueryValue) (parts : List PartPlan) (read : Reading) (table more : List (List ℤ))
    → ((t : List ℤ) → Contains table t → Contains more t) → AreSaturated known q parts read table → AreSaturated known q parts read more
saturated-more known q parts read table more grow are n part there place i l m is c among some t found = grow t (are n part there place i l m is c among some t found)

-- where it is known of all cells, the table is closed over them
pub closed-all : (known : Saturation) (q : QueryValue) (parts : List PartPlan) (read : Reading) (table : List (List ℤ)) → known ≡ saturation.All
    → AreSaturated known q parts read table → IsClosed q parts read table
closed-all known q parts read table is are part k place i l m =
    let there : slice_get parts k.0 ≡ Some part = slice_get-get_or parts k.0 part k.1 ∙ ap (λ (p : PartPlan). Some p) k.2 in
    subst (λ (s : Saturation). AreSaturated s q parts read table) is are k.0 part there place i l m tt

-- where the table is closed over the cells, each of which anything is known is saturated
pub known-closed : (known : Saturation) (q : QueryValue) (parts : List PartPlan) (read : Reading) (table : List (List ℤ)) → IsClosed q parts read table
    → AreSaturated known q parts read table
known-closed known q parts read table closed n part there place i l m is = closed part (Contains-from_has parts part (get_has parts n part there)) place i l m

-- nothing is known where no cell was looked at
pub none-known : (q : QueryValue) (parts : List PartPlan) (read : Reading) (table : List (List ℤ)) → AreSaturated none_yet q parts read table
none-known q parts read table n part there place i l m is = absurd (none-before n place i is)
  where
    none-before : (n place i : ℕ) → IsKnown none_yet n place i → ⊥
    none-before n place i (inl l) = omega (arith, l)
    none-before n place i (inr (e, inl l)) = omega (arith, l)
    none-before n place i (inr (e, inr (f, l))) = omega (arith, l)

-- what is true of an executor is so whatever is known of its cells
pub sound-saturated : (e : ExecutorValue) (s : Saturation) → IsSound e → IsSound (with_saturation e s)
sound-saturated e s sound = record {
  limits = sound.limits;
  accepted = sound.accepted;
  pages = sound.pages;
  width = sound.width;
  capacity = sound.capacity;
  given = sound.given;
  entries = sound.entries;
  ascends = sound.ascends;
  tuples = sound.tuples;
}

pub within-saturated : (e : ExecutorValue) (s : Saturation) (pool : PoolValue) → KeepsWithin e pool → KeepsWithin (with_saturation e s) pool
within-saturated e s pool w = record {
  live = w.live;
  pages = w.pages;
  rest = w.rest;
  room = w.room;
  entries = w.entries;
  ascends = w.ascends;
}

pub stands-saturated : (e : ExecutorValue) (s : Saturation) (pool : PoolValue) (base : Base) (history : List Arrival) → StandsFrom e pool base history
    → StandsFrom (with_saturation e s) pool base history
stands-saturated e s pool base history h = record {
  live = h.live;
  size = h.size;
  cells = h.cells;
  rest = h.rest;
  given = h.given;
  rows = h.rows;
  tuples = h.tuples;
}
