use Rattle.std.proofs.Common.{◌≡◌, ◌*◌, ◌≤◌, ◌^◌, take}
use Rattle.std.specs.List.{sum_by}
use Rattle.exec_registry.specs.Live.{Live, plan_cells}
use Rattle.cmd_session.specs.Announced.{answers_of}
use Rattle.cmd_session.proofs.announced.announced_in.Given as goal

-- the sums over the live queries so far
abbrev pub invariant-loop-place : goal.invariant-loop-place
invariant-loop-place l = record {
  cells : l.all.cells ≡ sum_by (λ (x : Live). plan_cells x.executor.plan) (take l.place l.registry.live);
  answers : l.all.answers ≡ sum_by (λ (x : Live). answers_of x.executor.plan) (take l.place l.registry.live);
  few_cells : l.all.cells ≤ l.place * 2 ^ 32;
  few_answers : l.all.answers ≤ l.place * 2 ^ 32;
}
