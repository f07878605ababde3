-- A worked query with DISTINCT that two soft comparisons refuse by the third condition: few states are enough for it.
use Rattle.std.specs.Prelude.{true, [], ◌∷◌, pos}
use Rattle.std.specs.declared.option.Option.TheVariants.{Some}
use Rattle.sem_query.specs.declared.atom.Attr.{Attr}
use Rattle.sem_query.specs.declared.atom.Op.{Op}
use Rattle.sem_query.specs.declared.atom.Element.TheVariants as element
use Rattle.sem_query.specs.declared.condition.Condition.TheVariants.{C3}
use Rattle.sem_query.specs.Query.{QueryValue, IsWithinLimits}
use Rattle.sem_query.specs.Violation.{IsViolation}
use Rattle.sem_laws.specs.Cases.{col, atom}
use Rattle.sem_lower_bounds.specs.Cases.{s_a, s_b, t_c, over_two}
use Rattle.sem_lower_bounds.specs.States.{NeedsStates}

-- the column S.e
abbrev pub s_e : Attr
s_e = col 0 2

-- SELECT DISTINCT S.e FROM S, T WHERE S.e = 1 AND S.a <> T.c AND S.b <> T.c
abbrev pub unlike_both : QueryValue
unlike_both = over_two true s_e (
    atom (element.Attr s_e) Op.Eq (element.Const (pos 1))
    ∷ atom (element.Attr s_a) Op.Ne (element.Attr t_c)
    ∷ atom (element.Attr s_b) Op.Ne (element.Attr t_c)
    ∷ []
    )

-- In its twentieth part T.c lies between S.a and S.b. What is enough to keep: whether 1 was printed, the values that all rows of S have in common
-- among S.a and S.b, and up to three different values of T.c.
pub record UnlikeMayMislead : Type 0 where
  pub limits : IsWithinLimits unlike_both
  pub refused : IsViolation unlike_both (Some record { part = 20; condition = C3; attr = s_a })
  pub enough : ¬ NeedsStates unlike_both
