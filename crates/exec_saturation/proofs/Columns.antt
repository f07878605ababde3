-- The columns of a cell read as a row.
use Rattle.std.proofs.Common.{◌≡◌, cond, ℤ, List, [], ◌∷◌, refl, ap}
use Rattle.sem_query.specs.declared.atom.Attr.{Attr}
use Rattle.sem_query.specs.declared.plan.Dim.{Dim}
use Rattle.sem_query.specs.declared.plan.PartPlan.{PartPlan}
use Rattle.sem_query.specs.Query.{QueryValue}
use Rattle.sem_query.specs.Parts.{pairs}
use Rattle.sem_query.specs.Combinations.{is_tied, looked_up}
use Rattle.exec_ranges.specs.Values.{valued}

-- the value of a column by the pairs of a query
pub looked-up : (q : QueryValue) (part : PartPlan) (dims : List Dim) (xs : List ℤ) (z : ℤ) (a : Attr) → valued (pairs q) part dims xs z a ≡ looked_up (is_tied q part) dims xs z a
looked-up q part [] xs z a = refl
looked-up q part (d ∷ dims) [] z a = refl
looked-up q part (d ∷ dims) (x ∷ xs) z a = ap (λ v. cond (is_tied q part d.attr a) x v) (looked-up q part dims xs z a)
