use Rattle.std.proofs.Common.{◌∙◌, subst}
use Rattle.std.specs.Option.{IfSome}
use Rattle.sem_query.specs.Parts.{pairs}
use Rattle.exec_part_index.specs.Showing.{pairs_tested, AreSignsOf}
use Rattle.exec_part_index.proofs.TestsLaws.{all_shown, askings_over}
use Rattle.exec_part_index.proofs.tests.tested_by.Goals as goal

pub returns-in-Some-clause-shown : goal.returns-in-Some-clause-shown
returns-in-Some-clause-shown c =
    all_shown c.args.q.now c.args.place (pairs_tested c.args.tests.now) c.args.parts.now _ c.in_ok-pairs.ensures
    (subst (λ found. IfSome found (λ all. AreSignsOf c.args.q.now c.args.place (pairs_tested c.args.tests.now) c.args.parts.now all.items)) c.in-Some.is c.in_ok-signs.ensures)
    (askings_over c.as_slice-numbered.result.now (pairs c.args.q.now) c.args.place c.as_slice.result.now c.in_ok-pairs.pairs.items c.in_ok-askings.askings.items (c.as_slice-numbered.ensures.value ∙ c.pairs.ensures)
    c.as_slice.ensures.value c.in_ok-askings.ensures)
