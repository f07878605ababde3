-- Which rows a part admits: those that have its local signs, stand as else they are asked, and lie in the ranges of its dims.
use Rattle.std.specs.Prelude.{ℕ, ℤ, Bool, true, false, not, ◌&&◌, ◌||◌, List, [], ◌∷◌, ◌+ℤ◌, int_lt}
use Rattle.std.specs.List.{list_all}
use Rattle.sem_query.specs.declared.part.Sign.{Sign}
use Rattle.sem_query.specs.declared.part.Pair.{Pair}
use Rattle.sem_query.specs.declared.plan.Dim.{Dim}
use Rattle.sem_query.specs.declared.plan.LocalCondition.{LocalCondition}
use Rattle.sem_query.specs.declared.plan.PartPlan.{PartPlan}
use Rattle.sem_query.specs.Query.{QueryValue}
use Rattle.sem_query.specs.Assignment.{Assignment, value, compares}
use Rattle.sem_query.specs.Parts.{pairs, is_within, sign_at}
use Rattle.sem_query.specs.Plan.{dims_at}

-- one row read as an assignment, whatever its place of FROM
abbrev pub alone : (ℕ → ℤ) → Assignment
alone v a = v a.column

-- whether two signs are the same
abbrev pub sign_eq : Sign → Sign → Bool
sign_eq Sign.Lt Sign.Lt = true
sign_eq Sign.Eq Sign.Eq = true
sign_eq Sign.Gt Sign.Gt = true
sign_eq s t = false

-- the pairs whose columns are all of the stream at this place have these signs; a pair beyond the signs has any
abbrev pub keeps_signs : ℕ → Assignment → List Pair → List Sign → Bool
keeps_signs place v [] ss = true
keeps_signs place v (p ∷ ps) [] = true
keeps_signs place v (p ∷ ps) (s ∷ ss) = (not (is_within place p.left p.right) || sign_eq (sign_at v p) s) && keeps_signs place v ps ss

-- the column stands so to the other side, moved by the number
abbrev pub meets_local : Assignment → LocalCondition → Bool
meets_local v t = compares t.op (v t.left) (value t.right v +ℤ t.by)

-- all that is asked of the stream at this place
abbrev pub keeps_local : ℕ → Assignment → List LocalCondition → Bool
keeps_local place v ts = list_all (λ t. not (is_within place t.left t.right) || meets_local v t) ts

-- the value of the dim is within its range
abbrev pub in_range : (ℕ → ℤ) → Dim → Bool
in_range v d = not (int_lt (v d.attr.column) d.lo) && not (int_lt d.hi (v d.attr.column))

-- the part admits a row at a place of FROM, given by its values by column
abbrev pub admits : QueryValue → PartPlan → ℕ → (ℕ → ℤ) → Bool
admits q part place v =
    (keeps_signs place (alone v) (pairs q) part.signs.items && keeps_local place (alone v) part.local)
    && list_all (in_range v) (dims_at part place)
