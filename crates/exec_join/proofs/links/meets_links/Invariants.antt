use Rattle.sem_query.specs.Parts.{pairs}
use Rattle.std.proofs.Common.{◌≡◌, drop}
use Rattle.std.specs.List.{list_all}
use Rattle.std.specs.Ordering.{int_eq}
use Rattle.std.specs.Prelude.{int_lt}
use Rattle.sem_query.specs.Assignment.{compares}
use Rattle.exec_ranges.specs.Values.{value_in}
use Rattle.exec_join.proofs.links.meets_links.Given as goal

abbrev pub invariant-less : goal.invariant-less
invariant-less l = list_all (λ k. int_lt (value_in (pairs l.at.q.now) l.at.part.now l.at.arriving l.at.row.now.items l.known k.left) (value_in (pairs l.at.q.now) l.at.part.now l.at.arriving l.at.row.now.items l.known k.right)) l.at.part.now.less.items ≡ list_all (λ k. int_lt (value_in (pairs l.at.q.now) l.at.part.now l.at.arriving l.at.row.now.items l.known k.left) (value_in (pairs l.at.q.now) l.at.part.now l.at.arriving l.at.row.now.items l.known k.right)) (drop l.l-index l.l-items)

abbrev pub invariant-equal : goal.invariant-equal
invariant-equal l = list_all (λ k. int_eq (value_in (pairs l.at.q.now) l.at.part.now l.at.arriving l.at.row.now.items l.known k.left) (value_in (pairs l.at.q.now) l.at.part.now l.at.arriving l.at.row.now.items l.known k.right)) l.at.part.now.equal.items ≡ list_all (λ k. int_eq (value_in (pairs l.at.q.now) l.at.part.now l.at.arriving l.at.row.now.items l.known k.left) (value_in (pairs l.at.q.now) l.at.part.now l.at.arriving l.at.row.now.items l.known k.right)) (drop l.l-index l.l-items)

abbrev pub invariant-soft : goal.invariant-soft
invariant-soft l = list_all (λ k. compares k.op (value_in (pairs l.at.q.now) l.at.part.now l.at.arriving l.at.row.now.items l.known k.left) (value_in (pairs l.at.q.now) l.at.part.now l.at.arriving l.at.row.now.items l.known k.right)) l.at.part.now.soft.items ≡ list_all (λ k. compares k.op (value_in (pairs l.at.q.now) l.at.part.now l.at.arriving l.at.row.now.items l.known k.left) (value_in (pairs l.at.q.now) l.at.part.now l.at.arriving l.at.row.now.items l.known k.right)) (drop l.l-index l.l-items)
