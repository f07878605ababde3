use Rattle.std.proofs.Common.{Some, None, sym, subst}
use Rattle.exec_query_index.specs.declared.boxes.QueryBox.{QueryBox}
use Rattle.exec_query.specs.Executor.{ExecutorValue}
use Rattle.exec_query.specs.Passing.{IsBoxFor}
use Rattle.exec_query.proofs.PassingOn.{box-refuses}
use Rattle.exec_query.proofs.executor.Executor.box_for.Goals as goal

pub returns-in-Some : goal.returns-in-Some
returns-in-Some c =
    subst (λ (x : ExecutorValue). IsBoxFor x.query x.plan c.args.stream (Some c.with_asked.result)) c.self.view_is
    (subst (λ (b : QueryBox). IsBoxFor c.self.inside.planned.query c.self.inside.planned.plan c.args.stream (Some b)) (sym c.with_asked.ensures)
    (box-refuses c.self.inside.planned.query c.self.inside.planned.plan c.self.inside.prefilter c.args.stream (Some c.in-Some.own) c.self.invariant.2 c.in-Some.ensures))

pub returns-in-None : goal.returns-in-None
returns-in-None c =
    subst (λ (x : ExecutorValue). IsBoxFor x.query x.plan c.args.stream None) c.self.view_is
    (box-refuses c.self.inside.planned.query c.self.inside.planned.plan c.self.inside.prefilter c.args.stream None c.self.invariant.2 c.in-None.ensures)
