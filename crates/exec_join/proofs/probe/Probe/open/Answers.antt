use Rattle.sem_query.specs.Parts.{pairs}
use Rattle.std.proofs.Common.{◌∙◌, ℤ, Bor, length, ap, arith}
use Rattle.arrayvec.specs.ArrayVec.{ArrayVec}
use Rattle.sem_query.specs.Query.{QueryValue}
use Rattle.exec_join.specs.Costs.{reads, turns}
use Rattle.exec_join.proofs.UnderwayLaws.{laid-here, placed-underway, opened-underway, opened-left, opened-cost}
use Rattle.exec_join.proofs.probe.Probe.open.Goals as goal

pub returns-then-len-as_slice-clause-underway : goal.returns-then-len-as_slice-clause-underway
returns-then-len-as_slice-clause-underway c =
    let v = ap length c.as_slice.ensures.value in
    let n = c.len.ensures.value in
    placed-underway c.args.part.now c.pass_own.new.self c.pass_own.ensures.placed
    (λ o l. absurd (omega (arith, l, v, n, c.if-len-as_slice.true))) (λ o l m. absurd (omega (arith, l, v, n, c.if-len-as_slice.true)))

pub look-requires-clause-laid : goal.look-requires-clause-laid
look-requires-clause-laid c =
    let v = ap length c.as_slice.ensures.value in
    let n = c.len.ensures.value in
    laid-here c.args.q.now c.args.part.now c.requires.walked c.pass_own.new.self.arriving (length c.pass_own.new.self.room.now.chosen.items) c.pass_own.ensures.placed.here (omega (arith, v, n, c.if-len-as_slice.false))

pub returns-clause-underway : goal.returns-clause-underway
returns-clause-underway c = opened-underway c.args.part.now c.pass_own.new.self c.look.new.self c.look.ensures c.pass_own.ensures.placed

pub returns-clause-left : goal.returns-clause-left
returns-clause-left c select read = opened-left c.args.part.now c.pass_own.new.self c.look.new.self c.look.ensures select read ∙ c.pass_own.ensures.left select read

pub returns-clause-reads : goal.returns-clause-reads
returns-clause-reads c = let e = opened-cost c.args.part.now c.pass_own.new.self c.look.new.self c.look.ensures (reads c.args.part.now) in let m = c.pass_own.ensures.reads in omega (arith, e, m)

pub returns-clause-turns : goal.returns-clause-turns
returns-clause-turns c = let e = opened-cost c.args.part.now c.pass_own.new.self c.look.new.self c.look.ensures (turns c.args.part.now) in let m = c.pass_own.ensures.turns in omega (arith, e, m)

pub returns-then-len-as_slice-clause-first : goal.returns-then-len-as_slice-clause-first
returns-then-len-as_slice-clause-first c empty =
    let same = c.pass_own.ensures.same in
    record {
      list = ap (λ (q : Bor QueryValue). pairs q.now) same.query;
      arriving = same.arriving;
      row = ap (λ (r : Bor (ArrayVec ℤ)). r.now.items) same.row;
      chosen = c.pass_own.ensures.first empty;
      next = c.pass_own.ensures.start;
      over = c.pass_own.ensures.going;
    }

pub returns-clause-first : goal.returns-clause-first
returns-clause-first c empty =
    let same = c.pass_own.ensures.same in
    let opened = c.look.ensures in
    record {
      list = ap (λ (q : Bor QueryValue). pairs q.now) (opened.query ∙ same.query);
      arriving = opened.arriving ∙ same.arriving;
      row = ap (λ (r : Bor (ArrayVec ℤ)). r.now.items) (opened.row ∙ same.row);
      chosen = opened.chosen ∙ c.pass_own.ensures.first empty;
      next = opened.next ∙ c.pass_own.ensures.start;
      over = opened.over ∙ c.pass_own.ensures.going;
    }
