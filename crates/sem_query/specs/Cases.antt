-- Worked queries, by which the definitions are tried.
use Rattle.std.specs.Prelude.{true, false, [], ◌∷◌, pos}
use Rattle.std.specs.declared.option.Option.TheVariants.{None, Some}
use Rattle.sem_query.specs.declared.atom.Element.TheVariants as element
use Rattle.sem_query.specs.declared.atom.Op.TheVariants as op
use Rattle.sem_query.specs.declared.condition.Condition.TheVariants.{C1}
use Rattle.sem_query.specs.Query.{QueryValue}
use Rattle.sem_query.specs.Violation.{IsViolation}

-- SELECT DISTINCT S.c FROM S WHERE S.a > 4 AND S.a < 7 AND S.b = 5
abbrev pub two_parts : QueryValue
two_parts = record {
  distinct = true;
  from = 0 ∷ [];
  select = record { stream = 0; column = 2 } ∷ [];
  atoms =
      record { left = element.Attr record { stream = 0; column = 0 }; op = op.Gt; right = element.Const (pos 4) }
      ∷ record { left = element.Attr record { stream = 0; column = 0 }; op = op.Lt; right = element.Const (pos 7) }
      ∷ record { left = element.Attr record { stream = 0; column = 1 }; op = op.Eq; right = element.Const (pos 5) }
      ∷ [];
  domains = [];
  compact = false;
}

-- both parts leave S.c unbounded, and the first is named
abbrev pub FirstPartIsNamed : Type 0
FirstPartIsNamed = IsViolation two_parts (Some record { part = 1; condition = C1; attr = record { stream = 0; column = 2 } })

-- SELECT DISTINCT T.d FROM S, T WHERE S.a > 5 AND S.a = S.b AND S.a < T.c AND T.d = 5
abbrev pub one_class : QueryValue
one_class = record {
  distinct = true;
  from = 0 ∷ 1 ∷ [];
  select = record { stream = 1; column = 1 } ∷ [];
  atoms =
      record { left = element.Attr record { stream = 0; column = 0 }; op = op.Gt; right = element.Const (pos 5) }
      ∷ record { left = element.Attr record { stream = 0; column = 0 }; op = op.Eq; right = element.Attr record { stream = 0; column = 1 } }
      ∷ record { left = element.Attr record { stream = 0; column = 0 }; op = op.Lt; right = element.Attr record { stream = 1; column = 0 } }
      ∷ record { left = element.Attr record { stream = 1; column = 1 }; op = op.Eq; right = element.Const (pos 5) }
      ∷ [];
  domains = [];
  compact = false;
}

-- S.a and S.b are two references and one class, and no condition is broken
abbrev pub ClassesAreCounted : Type 0
ClassesAreCounted = IsViolation one_class None
