use Rattle.std.proofs.Common.{◌≡◌, All, take}
use Rattle.sem_query.specs.declared.atom.Attr.{Attr}
use Rattle.plan_conditions.proofs.lookup.has_stream.Given as goal

abbrev pub invariant-loop-a : goal.invariant-loop-a
invariant-loop-a l = All (λ (m : Attr). ¬ (m.stream ≡ l.stream)) (take l.a-index l.columns)
