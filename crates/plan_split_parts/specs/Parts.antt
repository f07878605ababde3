-- What the list of split parts answers.
use Rattle.std.specs.Prelude.{Result, Ok, Err}
use Rattle.plan_split_parts.specs.declared.error.PartsError.{PartsError}
use Rattle.plan_split_parts.specs.declared.error.PartsError.TheVariants as why

-- P holds where the answer is that there are too many parts
abbrev pub OnTooMany : {A : Type 0} → Result A PartsError → Type 0 → Type 0
OnTooMany (Ok x) P = Unit {0}
OnTooMany (Err why.TooManyParts) P = P
OnTooMany (Err why.Memory) P = Unit {0}
