use Rattle.std.proofs.Common.{◌&&◌, take}
use Rattle.sem_query.specs.Parts.{pairs}
use Rattle.sem_query.specs.Admission.{alone, keeps_local}
use Rattle.exec_synopsis.specs.Preparing.{keeps_tests}
use Rattle.exec_part_index.proofs.RemainingLaws.{MeetWhere}
use Rattle.exec_part_index.proofs.remaining.asked_beside.Given as goal

abbrev pub invariant-tests : goal.invariant-tests
invariant-tests l =
    MeetWhere l.place l.tested.pairs.items l.shown l.list.items (λ v. keeps_tests l.place (alone v) (pairs l.q) l.part.signs.items (take l.test-index l.prepared.tests.items))

abbrev pub invariant-asked : goal.invariant-asked
invariant-asked l =
    MeetWhere l.place l.tested.pairs.items l.shown l.list.items
    (λ v. keeps_tests l.place (alone v) (pairs l.q) l.part.signs.items l.prepared.tests.items && keeps_local l.place (alone v) (take l.condition-index l.prepared.asked.items))
