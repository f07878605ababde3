-- The columns that a violation names.
use Rattle.std.proofs.Common.{List, Some, inl, inr}
use Rattle.std.proofs.lemmas.List.Elements.{All-contains}
use Rattle.sem_query.specs.declared.atom.Attr.{Attr}
use Rattle.sem_query.specs.declared.condition.Condition.{Condition}
use Rattle.sem_query.specs.declared.condition.Condition.TheVariants.{C1, C2, C3}
use Rattle.sem_query.specs.Query.{QueryValue}
use Rattle.sem_query.specs.Violation.{Failure, IsViolation, filter, first, Breaks}
use Rattle.sem_query.specs.declared.part.Sign.{Sign}
use Rattle.sql_catalog.specs.Streams.{Shape}
use Rattle.sql_parser.specs.Resolution.{IsColumnOf, HasNamed}
use Rattle.sql_parser.proofs.NamedAttrs.{attributes_are_named}

-- a column that breaks a condition is one of the query
broken_is_named : (streams : List Shape) (q : QueryValue) (s : List Sign) (c : Condition) (a : Attr) → HasNamed streams q → Breaks q s c a → IsColumnOf streams q.from a
broken_is_named streams q s C1 a h b = All-contains (IsColumnOf streams q.from) q.select a h.select b.0
broken_is_named streams q s C2 a h b = elim b.2 [
  | inl e ↦ attributes_are_named streams q h a e.across.left
  | inr e ↦ attributes_are_named streams q h a e.across.right
]
broken_is_named streams q s C3 a h b = elim b.0 [
  | inl m ↦ attributes_are_named streams q h a m.inequality.across.left
  | inr m ↦ attributes_are_named streams q h a m.inequality.across.right
]

pub violation_is_named : (streams : List Shape) (q : QueryValue) (f : Failure) → HasNamed streams q → IsViolation q (Some f) → IsColumnOf streams q.from f.attr
violation_is_named streams q f h (first other parts are fails) = broken_is_named streams q fails.0.signs f.condition f.attr h fails.0.breaks
violation_is_named streams q f h (filter is none) = cc
