-- A worked query with a soft comparison: refused in either form, it needs many states without DISTINCT, and with it few are enough.
use Rattle.std.specs.Prelude.{Bool, true, false, [], ◌∷◌}
use Rattle.std.specs.declared.option.Option.TheVariants.{Some}
use Rattle.sem_query.specs.declared.atom.Op.{Op}
use Rattle.sem_query.specs.declared.atom.Element.TheVariants as element
use Rattle.sem_query.specs.declared.condition.Condition.TheVariants.{C2}
use Rattle.sem_query.specs.Query.{QueryValue, IsWithinLimits}
use Rattle.sem_query.specs.Violation.{IsViolation}
use Rattle.sem_laws.specs.Cases.{atom}
use Rattle.sem_lower_bounds.specs.Cases.{s_a, s_b, t_c, b_is_five, above_five, over_two, at_first}
use Rattle.sem_lower_bounds.specs.States.{NeedsStates}

-- SELECT [DISTINCT] S.b FROM S, T WHERE S.b = 5 AND T.c > 5 AND S.a >= T.c
abbrev pub at_least : Bool → QueryValue
at_least distinct = over_two distinct s_b (b_is_five ∷ above_five t_c ∷ atom (element.Attr s_a) Op.Ge (element.Attr t_c) ∷ [])

-- with DISTINCT the greatest S.a and the least T.c would do: there a refusal does not tell
pub record SoftMayMislead : Type 0 where
  pub limits : (distinct : Bool) → IsWithinLimits (at_least distinct)
  pub refused : (distinct : Bool) → IsViolation (at_least distinct) (Some (at_first C2))
  pub needs : NeedsStates (at_least false)
  pub enough : ¬ NeedsStates (at_least true)
