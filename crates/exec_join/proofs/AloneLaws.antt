-- Over two streams the one cell that is left at the first place of a walk tells all that the walk finds.
use Rattle.std.proofs.Common.{◌≡◌, ℕ, zero, suc, ◌<◌, ◌≤◌, List, [], ◌∷◌, ◌++◌, length, map, sym, ap, ◌∙◌, arith, ℤ, true, false, if◌then◌else◌}
use Rattle.std.specs.Prelude.{slice_index_or}
use Rattle.sem_query.specs.Boxes.{dim_size, box_size, AreNumbered}
use Rattle.sem_query.specs.declared.cell.Cell.{Cell}
use Rattle.sem_query.specs.declared.cell.Cell.TheVariants.{Empty, Present}
use Rattle.sem_query.specs.declared.plan.Dim.{Dim}
use Rattle.sem_query.specs.declared.plan.PartPlan.{PartPlan}
use Rattle.sem_query.specs.Combinations.{read_from}
use Rattle.sem_query.specs.Meaning.{by_column}
use Rattle.sem_query.specs.Parts.{pairs}
use Rattle.sem_query.specs.Probing.{found_beside}
use Rattle.sem_query.specs.Query.{QueryValue}
use Rattle.exec_ranges.specs.declared.binding.Binding.{Binding}
use Rattle.exec_ranges.specs.Lined.{AreFixed}
use Rattle.exec_ranges.specs.Narrowed.{narrowed_dims}
use Rattle.exec_ranges.specs.Values.{rows_in}
use Rattle.exec_join.specs.Choosing.{Setting, setting, start, both, chosen, meets, tuple, found}
use Rattle.exec_join.specs.Remaining.{as_found}
use Rattle.exec_join.specs.Walk.{walk}
use Rattle.exec_synopsis.specs.Premises.{IsWalked}
use Rattle.exec_synopsis.proofs.PlanLaws.{named}
use Rattle.exec_join.proofs.BreakLaws.{breaks, breaks-inequality}
use Rattle.exec_join.proofs.ExactLaws.{walk-is}
use Rattle.exec_join.proofs.JoinLaws.{both-rows, walk-one-cell}
use Rattle.exec_join.proofs.ModelLaws.{combinations-are}
use Rattle.exec_join.proofs.NothingLaws.{both-one, cell-first}

-- what is taken up for such a cell
pub one-numbered : (ds : List Dim) → box_size ds ≡ 1 → AreNumbered ds
one-numbered [] e = tt
one-numbered (d ∷ ds) e =
    let b = both-one (dim_size d) (box_size ds) e in
    (omega (arith, b.0), omega (arith, e), one-numbered ds b.1)

pub row-first : (arriving : ℕ) (known : List Binding) (values : List ℤ) (cell : Cell) → known ≡ start arriving → arriving ≡ 0 → known ++ chosen values cell ∷ [] ≡ both arriving values cell
row-first zero known values cell e z = ap (λ (cs : List Binding). cs ++ chosen values cell ∷ []) e
row-first (suc a) known values cell e z = absurd (omega (arith, z))

pub row-last : (arriving : ℕ) (known : List Binding) (values : List ℤ) (cell : Cell) → known ≡ start arriving → (arriving ≡ 0 → ⊥) → (known ++ chosen values cell ∷ []) ++ chosen [] Present ∷ [] ≡ both arriving values cell
row-last zero known values cell e z = absurd (z (omega arith))
row-last (suc a) known values cell e z = ap (λ (cs : List Binding). (cs ++ chosen values cell ∷ []) ++ chosen [] Present ∷ []) e

-- what it tells
pub refused : (w : Setting) (known : List Binding) → meets w known ≡ false → walk w 0 known ≡ []
unfolding walk
refused w known e = ap (λ b. if b then found w known ∷ [] else []) e

pub answered : (w : Setting) (arriving : ℕ) (values : List ℤ) (cell : Cell) → meets w (both arriving values cell) ≡ true
    → walk w 0 (both arriving values cell) ≡ as_found (tuple w (both arriving values cell)) (rows_in cell) ∷ []
unfolding walk
answered w arriving values cell e =
    ap (λ b. if b then found w (both arriving values cell) ∷ [] else []) e
    ∙ ap (λ n. as_found (tuple w (both arriving values cell)) n ∷ []) (both-rows arriving values cell)

module _ (q : QueryValue) (part : PartPlan) (walked : IsWalked q part) (arriving : ℕ) (row : List ℤ) (here : arriving < length part.streams.items) (more : length (start arriving) < length part.streams.items) (cells : ℕ) (within : walked.cells ≤ cells) (fixed : List Dim) (first : ℕ) (are : AreFixed part (length (start arriving)) (narrowed_dims (pairs q) part arriving row (start arriving)) fixed first) where
  pub alone : (contents : List Cell) → length part.streams.items ≡ 2 → (cell : Cell) → slice_index_or contents first Empty ≡ cell → (cell ≡ Empty → ⊥)
      → found_beside q part (read_from contents) arriving (by_column row) ≡ walk (setting (pairs q) q.select part arriving row (read_from contents)) 0 (both arriving (map (λ d. d.lo) fixed) cell)
  alone contents two cell is some =
      let w = setting (pairs q) q.select part arriving row (read_from contents) in
      sym (walk-is w (breaks w (named q part walked)) (breaks-inequality w (named q part walked)) ∙ combinations-are q part arriving row (read_from contents) here)
      ∙ ap (λ n. walk w n []) two
      ∙ walk-one-cell (pairs q) q.select part row (read_from contents) fixed cell are.one arriving (omega (arith, here, two)) (sym are.are)
      (cell-first q part walked arriving row here more cells within fixed first are contents ∙ is) some
