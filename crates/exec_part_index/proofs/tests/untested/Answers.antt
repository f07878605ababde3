use Rattle.std.proofs.Common.{[]}
use Rattle.sem_query.specs.Parts.{pairs}
use Rattle.exec_part_index.proofs.TestsLaws.{all_shown, no_askings}
use Rattle.exec_part_index.proofs.tests.untested.Goals as goal

pub returns-clause-shown : goal.returns-clause-shown
returns-clause-shown c =
    all_shown c.args.q.now c.args.place [] c.args.parts.now _ c.new.ensures.items c.in_ok-signs.ensures
    (no_askings (pairs c.args.q.now) c.args.place c.new.result.items c.new-2.result.items c.new-2.ensures.items)
