use Rattle.std.proofs.Common.{◌≡◌, ℤ, [], sym, ap, ◌∙◌, subst, arith, rules, w64}
use Rattle.std.proofs.lemmas.Int.{to_z-of_z}
use Rattle.sem_query.specs.Bases.{Base}
use Rattle.exec_query.specs.Executor as executor
use Rattle.exec_query.specs.Executor.{ExecutorValue, list_in, waiting_in}
use Rattle.exec_query.specs.Bases.{StandsFrom}
use Rattle.exec_query.specs.Loading.{loaded_cell, Loads}
use Rattle.exec_query.proofs.Closing.{sound-saturated}
use Rattle.exec_registry.proofs.Loads.{one_cell, saturated_as}
use Rattle.exec_registry.proofs.loading.load_cell_one.Goals as goal

pub returns-clause-loads : goal.returns-clause-loads
returns-clause-loads g c name =
    let e : ExecutorValue = c.args.executor.now in
    let later : ExecutorValue = c.load_cell.new.self in
    let same = c.load_cell.ensures.same in
    record {
      name = λ j. name;
      same = saturated_as e later _ same;
      only = λ live. c.load_cell.ensures.only;
      sound = λ s. subst (λ (x : ExecutorValue). executor.IsSound x) (sym same) (sound-saturated e _ s);
      kept = c.load_cell.ensures.kept;
      within = c.load_cell.ensures.within;
      quiet = λ none. ap waiting_in same ∙ none;
      given = λ m few h. (let n : later.given ≡ e.given = ap (λ (x : ExecutorValue). x.given) same in omega (arith, n, h));
      loads =
          subst (λ (z : ℤ). (base : Base) → StandsFrom e c.args.pool.now base [] → Loads c.load_cell.result (loaded_cell (list_in e) c.args.i z base) e c.args.pool.now later c.load_cell.new.pool)
          (to_z-of_z w64 c.args.v (search rules)) c.load_cell.ensures.loads;
    }

pub returns-clause-reads : goal.returns-clause-reads
returns-clause-reads g c = one_cell c.args.executor.now c.args.steps.now.reads c.load_cell.new.steps.reads c.plan-sound.ensures.sound c.load_cell.ensures.reads

pub returns-clause-writes : goal.returns-clause-writes
returns-clause-writes g c = one_cell c.args.executor.now c.args.steps.now.writes c.load_cell.new.steps.writes c.plan-sound.ensures.sound c.load_cell.ensures.writes
