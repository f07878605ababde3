-- How many cells are kept.
use Rattle.std.proofs.Common.{◌≡◌, Bool, true, false, List, [], refl, ap, ◌∙◌}
use Rattle.sem_query.specs.declared.plan.PartPlan.{PartPlan}
use Rattle.sem_query.specs.declared.plan.Numbers.{Numbers}
use Rattle.sem_query.specs.Query.{QueryValue}
use Rattle.sem_query.specs.Sharing.{kept_boxes, sizes_in}
use Rattle.sem_laws.proofs.PlanBoxes.{count-of-boxes}
use Rattle.sem_forms.specs.Parts.{form_numbers}

-- a plan announces the cells of the boxes that are kept
pub cells_announced : (shared : Bool) (q : QueryValue) (parts : List PartPlan) (numbers : Numbers) → numbers ≡ form_numbers shared q parts → numbers.cells ≡ sizes_in (kept_boxes shared q parts)
cells_announced false q parts numbers e = ap (λ (n : Numbers). n.cells) e ∙ count-of-boxes parts
cells_announced true q parts numbers e = ap (λ (n : Numbers). n.cells) e

-- a filter keeps none
pub no_cells : (shared : Bool) (q : QueryValue) → sizes_in (kept_boxes shared q []) ≡ 0
no_cells false q = refl
no_cells true q = refl
