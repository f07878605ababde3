use Rattle.std.proofs.Common.{◌≡◌, ℤ, List, arith, subst}
use Rattle.sem_query.specs.declared.part.Pair.{Pair}
use Rattle.sem_query.specs.Meaning.{by_column}
use Rattle.exec_part_index.specs.PartIndex.{row_code}
use Rattle.exec_part_index.proofs.Coded.{code_done}
use Rattle.exec_part_index.proofs.Linked.{first_linked}
use Rattle.exec_part_index.proofs.part_index.PartIndex.first.Goals as goal

pub returns-clause-code : goal.returns-clause-code
returns-clause-code c =
    let values = c.as_slice-values.result.now in
    subst (λ (xs : List ℤ). c.tests.code ≡ row_code c.args.self.now.tested.items (by_column xs)) c.as_slice-values.ensures.value
    (subst (λ (ps : List Pair). c.tests.code ≡ row_code ps (by_column values)) c.as_slice-tested.ensures.value
    (code_done (by_column values) c.as_slice-tested.result.now c.tests.code c.tests.pair-index (omega (arith, c.tests-test.false)) c.tests.invariant))

pub returns-clause-first : goal.returns-clause-first
returns-clause-first c = first_linked c.args.self.now (by_column c.args.row.now.items) c.tests.code c.index.result.now c.requires.joined (returns-clause-code c) c.index.ensures
