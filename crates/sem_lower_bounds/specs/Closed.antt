-- A worked query with a domain: it is refused, and rows within the domain need few states all the same.
use Rattle.std.specs.Prelude.{false, [], ◌∷◌, pos}
use Rattle.std.specs.declared.option.Option.TheVariants.{None, Some}
use Rattle.sem_query.specs.declared.atom.Op.{Op}
use Rattle.sem_query.specs.declared.atom.Element.TheVariants as element
use Rattle.sem_query.specs.declared.condition.Condition.TheVariants.{C3}
use Rattle.sem_query.specs.Query.{QueryValue, IsWithinLimits}
use Rattle.sem_query.specs.Violation.{IsViolation}
use Rattle.sem_laws.specs.Cases.{atom}
use Rattle.sem_lower_bounds.specs.Cases.{s_a, t_c, at_first}
use Rattle.sem_lower_bounds.specs.Within.{written, NeedsStatesWithin}

-- SELECT T.c FROM S, T WHERE T.c < S.a, over S (a) and T (c IN 1..2)
abbrev pub under_closed : QueryValue
under_closed = record {
  distinct = false;
  from = 0 ∷ 1 ∷ [];
  select = t_c ∷ [];
  atoms = atom (element.Attr t_c) Op.Lt (element.Attr s_a) ∷ [];
  domains = record { attr = t_c; lo = pos 1; hi = pos 2 } ∷ [];
  compact = false;
}

-- it is refused, the written query is not, and so few states are enough: a refusal tells only of the written query
pub record DomainsMayMislead : Type 0 where
  pub limits : IsWithinLimits under_closed
  pub refused : IsViolation under_closed (Some (at_first C3))
  pub written_limits : IsWithinLimits (written under_closed)
  pub accepted : IsViolation (written under_closed) None
  pub enough : ¬ NeedsStatesWithin under_closed
