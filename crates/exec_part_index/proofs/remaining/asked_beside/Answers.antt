use Rattle.std.proofs.Common.{◌∙◌, List, sym, subst, arith}
use Rattle.sem_query.specs.declared.part.Pair.{Pair}
use Rattle.exec_part_index.specs.Showing.{AreAskings}
use Rattle.sem_query.specs.Parts.{pairs}
use Rattle.sem_query.specs.Admission.{alone}
use Rattle.exec_synopsis.specs.Preparing.{keeps_tests}
use Rattle.exec_part_index.proofs.RemainingLaws.{tests_more, tests_done, asked_more, asked_done}
use Rattle.exec_part_index.proofs.remaining.asked_beside.Goals as goal

pub tests-preserved : goal.tests-preserved
tests-preserved c =
    tests_more c.args.place c.args.tested.now.pairs.items c.args.shown.now (pairs c.args.q.now) c.as_slice-pairs.result.now c.args.part.now.signs.items c.as_slice-signs.result.now
    c.args.prepared.now.tests.items c.tests-test-items.result.now c.tests.list.items c.ask_number.new.list.items c.tests.test-index 0 (c.as_slice-pairs.ensures.value ∙ c.pairs.ensures) c.as_slice-signs.ensures.value c.tests-test-items.ensures c.tests-test.true
    c.in_ok-ask_number.ensures c.tests.invariant

pub asked-init : goal.asked-init
asked-init c =
    tests_done c.args.place c.args.tested.now.pairs.items c.args.shown.now (pairs c.args.q.now) c.args.part.now.signs.items c.args.prepared.now.tests.items c.tests-test-items.result.now
    c.tests.list.items c.args.prepared.now.asked.items c.tests.test-index c.tests-test-items.ensures (omega (arith, c.tests-test.false)) c.tests.invariant

pub asked-preserved : goal.asked-preserved
asked-preserved c =
    asked_more c.args.place c.args.tested.now.pairs.items c.args.shown.now (λ v. keeps_tests c.args.place (alone v) (pairs c.args.q.now) c.args.part.now.signs.items c.args.prepared.now.tests.items)
    c.args.prepared.now.asked.items c.asked-condition-items.result.now c.asked.list.items c.ask.new.list.items c.asked.condition-index _ c.of_condition.result c.asked-condition-items.ensures c.asked-test.true
    c.of_condition.ensures c.in_ok-ask.ensures c.asked.invariant

pub returns : goal.returns
returns c =
    asked_done c.args.place c.args.tested.now.pairs.items c.args.shown.now (λ v. keeps_tests c.args.place (alone v) (pairs c.args.q.now) c.args.part.now.signs.items c.args.prepared.now.tests.items)
    c.args.prepared.now.asked.items c.asked-condition-items.result.now c.asked.list.items c.asked.condition-index c.asked-condition-items.ensures (omega (arith, c.asked-test.false)) c.asked.invariant

pub ask_number-requires-clause-askings : goal.ask_number-requires-clause-askings
ask_number-requires-clause-askings c =
    subst (λ (ps : List Pair). AreAskings ps c.args.place c.args.tested.now.pairs.items c.args.tested.now.askings.items) (sym (c.as_slice-pairs.ensures.value ∙ c.pairs.ensures)) c.requires.askings
