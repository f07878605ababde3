use Rattle.std.proofs.Common.{◌≡◌, ℕ, ◌+◌, sym, ap, subst, arith}
use Rattle.exec_query.specs.Executor.{ExecutorValue, with_given}
use Rattle.exec_query.specs.Loading.{loaded_given}
use Rattle.exec_registry.specs.Counted.{run_to}
use Rattle.exec_registry.specs.Loaded.{LoadedAlone}
use Rattle.exec_registry.proofs.loading.load_given_at.Goals as goal

pub returns-clause-loads : goal.returns-clause-loads
returns-clause-loads c =
    let after : ExecutorValue = c.load_given_one-loads.new.executor in
    let count : c.given-runner.result + 0 ≡ after.given = (let v = c.given-runner.ensures.value in omega (arith, v)) in
    let is : with_given after (c.given-runner.result + 0) after.table.entries ≡ after = ap (λ (k : ℕ). with_given after k after.table.entries) count in
    subst (λ (e : ExecutorValue). LoadedAlone c.load_given_one-loads.result c.args.n (λ q shared plan base. loaded_given c.args.n base) (run_to 0 c.args.runner.now) e) (sym is)
    (subst (λ (e : ExecutorValue). LoadedAlone c.load_given_one-loads.result c.args.n (λ q shared plan base. loaded_given c.args.n base) e after) c.catch_up.ensures.executor c.load_given_one-loads.ensures)
