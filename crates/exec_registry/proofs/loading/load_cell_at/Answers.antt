use Rattle.std.proofs.Common.{◌≡◌, ℕ, ℤ, ◌+◌, sym, ap, subst, arith, to_z, of_z, w64, rules}
use Rattle.std.proofs.lemmas.Int.{to_z-of_z}
use Rattle.exec_query.specs.Executor.{ExecutorValue, with_given}
use Rattle.exec_query.specs.Loading.{loaded_cell}
use Rattle.exec_registry.specs.Live.{named, boxes_for}
use Rattle.exec_registry.specs.Counted.{run_to}
use Rattle.exec_registry.specs.Loaded.{LoadedOne}
use Rattle.exec_registry.proofs.loading.load_cell_at.Goals as goal

pub returns-clause-loads : goal.returns-clause-loads
returns-clause-loads g c = λ name.
    let after : ExecutorValue = c.load_cell_one-loads.new.executor in
    let count : c.given-runner.result + 0 ≡ after.given = (let v = c.given-runner.ensures.value in omega (arith, v)) in
    let is : with_given after (c.given-runner.result + 0) after.table.entries ≡ after = ap (λ (k : ℕ). with_given after k after.table.entries) count in
    let v : to_z w64 (of_z w64 c.args.v) ≡ c.args.v = to_z-of_z w64 c.args.v (search rules) in
    subst (λ (e : ExecutorValue). LoadedOne c.load_cell_one-loads.result 0 (λ q shared plan base. loaded_cell (boxes_for q shared plan) c.args.i c.args.v base) c.args.pool.now c.load_cell_one-loads.new.pool (named name (run_to 0 c.args.runner.now)) (named name e)) (sym is)
    (subst (λ (e : ExecutorValue). LoadedOne c.load_cell_one-loads.result 0 (λ q shared plan base. loaded_cell (boxes_for q shared plan) c.args.i c.args.v base) c.args.pool.now c.load_cell_one-loads.new.pool (named name e) (named name after)) c.catch_up.ensures.executor
    (subst (λ (z : ℤ). LoadedOne c.load_cell_one-loads.result 0 (λ q shared plan base. loaded_cell (boxes_for q shared plan) c.args.i z base) c.args.pool.now c.load_cell_one-loads.new.pool (named name c.catch_up.new.self.executor) (named name after)) v (c.load_cell_one-loads.ensures.loads name)))
