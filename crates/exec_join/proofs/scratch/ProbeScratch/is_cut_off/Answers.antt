use Rattle.std.proofs.Common.{◌<◌, length, ap, arith, inr, ◌≡◌}
use Rattle.sem_query.specs.Boxes.{box_size}
use Rattle.sem_query.specs.Plan.{dims_at}
use Rattle.exec_join.proofs.BesideLaws.{last-other, no-links}
use Rattle.exec_join.proofs.StepLaws.{tried-open}
use Rattle.exec_join.specs.Beside.{last_beside}
use Rattle.exec_join.specs.Costs.{tried_size}
use Rattle.exec_join.proofs.scratch.ProbeScratch.is_cut_off.Goals as goal

pub returns-clause-empty : goal.returns-clause-empty
returns-clause-empty g c t =
    let several : 2 < length c.args.part.now.streams.items = (let v = ap length c.as_slice.ensures.value in let f = c.if-as_slice-lt3.false in omega (arith, v, f)) in
    (several, c.leaves_nothing.ensures.empty t)

pub returns-clause-reads : goal.returns-clause-reads
returns-clause-reads g c =
    let part = c.args.part.now in
    let place = last_beside (length part.streams.items) c.args.arriving in
    let several : 2 < length part.streams.items = (let v = ap length c.as_slice.ensures.value in let f = c.if-as_slice-lt3.false in omega (arith, v, f)) in
    let none = no-links _ _ c.as_slice-2.ensures.value c.is_empty.result c.is_empty.ensures c.if-not-is_empty.false in
    let tried : tried_size part c.args.arriving place ≡ box_size (dims_at part place) = tried-open part c.args.arriving place none (last-other c.args.arriving (length part.streams.items) (omega (arith, several))) in
    let reads = c.leaves_nothing.ensures.reads in
    inr (several, none, omega (arith, tried, reads))
