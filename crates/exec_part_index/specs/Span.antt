-- Some conditions of a list.
use Rattle.std.specs.Prelude.{ℕ, ◌≤◌, List, slice_range}
use Rattle.sem_query.specs.declared.plan.LocalCondition.{LocalCondition}
use Rattle.exec_part_index.specs.declared.span.Span.{Span}

-- none of them
abbrev pub no_span : Span
no_span = record { from = 0; to = 0 }

-- those of a span
abbrev pub in_span : List LocalCondition → Span → List LocalCondition
in_span conditions s = slice_range conditions s.from s.to

-- a span lies within a list of this length
abbrev pub IsSpan : ℕ → Span → Type 0
IsSpan n s = (s.from ≤ s.to) × (s.to ≤ n)
