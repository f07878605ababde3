-- A query of which a near part breaks a condition by its orders and equalities alone needs many states.
use Rattle.std.proofs.Common.{◌≡◌, ◌≢◌, ◌⊎◌, inl, inr, List, true, false, not, subst}
use Rattle.std.specs.Prelude.{IsFalse}
use Rattle.sem_query.specs.declared.atom.Atom.{Atom}
use Rattle.sem_query.specs.declared.atom.Op.{Op}
use Rattle.sem_query.specs.declared.condition.Condition.{Condition}
use Rattle.sem_query.specs.declared.condition.Condition.TheVariants.{C1, C2, C3}
use Rattle.sem_query.specs.Query.{QueryValue, IsWithinLimits, is_filter}
use Rattle.sem_query.proofs.Has.{Has, Has-filter_from, Has-filter_holds}
use Rattle.sem_laws.proofs.Tests.{true_or_false, not_both}
use Rattle.plan_split_pairs.specs.Pairs.{is_unlike}
use Rattle.sem_whole.specs.Whole.{WholeBreaks}
use Rattle.sem_lower_bounds.specs.States.{NeedsStates}
use Rattle.sem_lower_bounds.specs.Within.{written}
use Rattle.sem_lower_bounds.proofs.Formed.{formed}
use Rattle.sem_lower_bounds.proofs.Skipping.{written-decides-at}
use Rattle.sem_split_bounds.specs.Near.{near_pairs, near_query, orders, NearBreak, NearPartsNeedStates}
use Rattle.sem_split_bounds.proofs.Parts.{IsPart, IsBase, based, near_part}
use Rattle.sem_split_bounds.proofs.FreeSteps.{AreOfQuery, near_step_of_query}
use Rattle.sem_split_bounds.proofs.MovedFamilies.{open_column_needs, open_step_needs, both_sides_need}
use Rattle.sem_split_bounds.proofs.OpposedFamilies.{apart_need, beside_need}
use Rattle.sem_split_bounds.proofs.Telling.{NeedsNone, ColumnTells, TwoSidesTell, OneStepTells, BesideTells, OpposedTell}
use Rattle.sem_split_bounds.proofs.PartsTell.{breaks_need}
use Rattle.sem_split_bounds.proofs.PartsNeed.{distinct_breaks}

pub orders_from : (links : List Atom) (t : Atom) → Has (orders links) t → Has links t
orders_from links t h = Has-filter_from (λ t. not (is_unlike t.op)) links t h

-- none of them is `<>`
pub orders_hard : (links : List Atom) (t : Atom) → Has (orders links) t → t.op ≡ Op.Ne → ⊥
orders_hard links t h e = let f : false ≡ true = subst (λ o. not (is_unlike o) ≡ true) e (Has-filter_holds (λ t. not (is_unlike t.op)) links t h) in absurd cc

module _ (q : QueryValue) (within : IsWithinLimits q) (b : NearBreak q) where
  abbrev pub broken_part : IsPart q (near_pairs q) b.signs
  broken_part = near_part q within b.signs b.is

  -- what it breaks tells, by the first or the second condition or where one free difference is enough
  module _ (P : Type 0) (column : ColumnTells q (near_pairs q) b.signs P) (two_sides : TwoSidesTell q (near_pairs q) b.signs P) where
    near_tells : (c : Condition) → WholeBreaks (near_query q b.signs) (orders b.links) c b.attr → (c ≢ C3) ⊎ OneStepTells q (near_pairs q) b.signs P → ¬ P
    near_tells c w o =
        breaks_need q within (near_pairs q) b.signs broken_part P column b.links b.are (orders b.links) (orders_from b.links) (orders_hard b.links) two_sides c b.attr w o

    -- with DISTINCT by any condition, or without where one free difference is enough
    pub near_breaks : BesideTells q (near_pairs q) b.signs P → OpposedTell q (near_pairs q) b.signs P → (q.distinct ≡ false → OneStepTells q (near_pairs q) b.signs P)
        → (c : Condition) → WholeBreaks (near_query q b.signs) (orders b.links) c b.attr → ¬ P
    near_breaks beside opposed one c w = elim (true_or_false q.distinct) [
      | inl d ↦ by c w d
      | inr d ↦ near_tells c w (inr (one d))
    ]
      where
        by : (c : Condition) → WholeBreaks (near_query q b.signs) (orders b.links) c b.attr → q.distinct ≡ true → ¬ P
        by C1 w d = near_tells C1 w (inl (λ e. absurd cc))
        by C2 w d = near_tells C2 w (inl (λ e. absurd cc))
        by C3 w d = distinct_breaks q within (near_pairs q) b.signs broken_part P two_sides b.links b.are (orders b.links) (orders_from b.links) (orders_hard b.links) beside opposed d b.attr w

  near_needs : IsFalse (is_filter q) → NeedsStates (written q)
  near_needs joins = elim (true_or_false q.distinct) [
    | inl d ↦ near_breaks (NeedsNone q) (open_column_needs q within (near_pairs q) b.signs base joins) (both_sides_need q within (near_pairs q) b.signs base steps)
        (beside_need q within (near_pairs q) b.signs base steps d) (apart_need q within (near_pairs q) b.signs base steps d)
        (λ n. absurd (not_both q.distinct d n)) b.condition b.breaks
    | inr d ↦ near_tells (NeedsNone q) (open_column_needs q within (near_pairs q) b.signs base joins) (both_sides_need q within (near_pairs q) b.signs base steps)
        b.condition b.breaks (inr (λ x y s free. open_step_needs q within (near_pairs q) b.signs base d x y s (steps x y s free) free))
  ]
    where
      base : IsBase q (near_pairs q) b.signs
      base = based q (near_pairs q) b.signs broken_part

      steps : AreOfQuery q (near_pairs q) b.signs
      steps = near_step_of_query q within b.signs b.is

pub near-parts-need-states : NearPartsNeedStates
near-parts-need-states q within joins b = (written-decides-at q (formed q within)).1 (near_needs q within b joins)
