use Rattle.std.proofs.Common.{refl, All, subst, ◌≡◌, ◌∙◌, ◌≤◌, length, false, arith, ap, sym}
use Rattle.exec_join.specs.Choosing.{setting}
use Rattle.exec_join.specs.Walk.{left}
use Rattle.exec_join.specs.Costs.{cost_left, reads, walk_reads}
use Rattle.exec_join.proofs.StartLaws.{left-start, reads-start, reads-few}
use Rattle.sem_query.specs.Meaning.{by_column}
use Rattle.sem_query.specs.Parts.{pairs}
use Rattle.sem_query.specs.Combinations.{Found}
use Rattle.exec_join.proofs.OneEach.{counts-are-one}
use Rattle.exec_join.proofs.UnderwayLaws.{start-placed}
use Rattle.exec_join.proofs.probe.Probe.new.Goals as goal

pub open-requires-clause-placed : goal.open-requires-clause-placed
open-requires-clause-placed c = start-placed c.args.q.now c.args.part.now _ (omega (arith, c.requires.here, c.requires.walked.plan.count)) c.clear.ensures c.clear-2.ensures c.clear-3.ensures refl c.requires.prepared (omega arith)

pub returns-clause-left : goal.returns-clause-left
returns-clause-left c read =
    c.open.ensures.left c.args.q.now.select read
    ∙ (λ k. left (setting (pairs c.args.q.now) c.args.q.now.select c.args.part.now c.args.pos c.args.row.now.items read) (c.clear.ensures k) (c.clear-2.ensures k) 0 false)
    ∙ left-start c.args.q.now c.args.part.now c.args.pos c.args.row.now.items read c.requires.walked (omega (arith, c.requires.here, c.requires.walked.plan.count))

pub returns-clause-reads : goal.returns-clause-reads
returns-clause-reads c =
    let few : length c.args.part.now.streams.items ≤ 4 = let f = c.as_slice-streams.ensures.fits in let v = ap length c.as_slice-streams.ensures.value in omega (arith, f, v) in
    let h = reads-start c.args.q.now c.args.part.now c.args.pos c.requires.walked (omega (arith, c.requires.here, c.requires.walked.plan.count)) few in
    let e = ap (λ ns. cost_left (reads c.args.part.now c.args.pos) (length c.args.part.now.streams.items) ns 0 false) c.clear-2.ensures in
    let m = c.open.ensures.reads in
    omega (arith, h, e, m)

pub returns-clause-ones : goal.returns-clause-ones
returns-clause-ones c read fitting distinct =
    subst (All (λ (f : Found). f.count ≡ 1)) (sym (returns-clause-left c read))
    (counts-are-one c.args.q.now c.args.part.now c.requires.walked read fitting c.args.pos (omega (arith, c.requires.here, c.requires.walked.plan.count)) (by_column c.args.row.now.items) distinct)

pub returns-clause-few : goal.returns-clause-few
returns-clause-few c =
    let h = reads-few c.args.q.now c.args.part.now c.args.pos c.requires.walked (omega (arith, c.requires.here, c.requires.walked.plan.count)) in
    let e = ap (λ ns. cost_left (reads c.args.part.now c.args.pos) (length c.args.part.now.streams.items) ns 0 false) c.clear-2.ensures in
    let m = c.open.ensures.reads in
    omega (arith, h, e, m)

pub returns-clause-whole : goal.returns-clause-whole
unfolding walk_reads
returns-clause-whole c =
    let e = ap (λ ns. cost_left (reads c.args.part.now c.args.pos) (length c.args.part.now.streams.items) ns 0 false) c.clear-2.ensures in
    let m = c.open.ensures.reads in
    omega (arith, e, m)

pub returns-clause-starts : goal.returns-clause-starts
returns-clause-starts c =
    let at = c.open.ensures.first c.clear.ensures in
    record { list = at.list; arriving = at.arriving; row = at.row; chosen = at.chosen; next = at.next; over = at.over }
