use Rattle.std.proofs.Common.{ap, refl, [], arith}
use Rattle.exec_query.specs.Executor.{ExecutorValue, waiting_in}
use Rattle.exec_query.specs.Standing.{StandsFor}
use Rattle.exec_query.proofs.Standings.{standing-is-ready}
use Rattle.exec_registry.specs.Live.{named}
use Rattle.exec_registry.proofs.register.install.Goals as goal

pub returns-in-Ok-add_last : goal.returns-in-Ok-add_last
returns-in-Ok-add_last c =
    let e : ExecutorValue = c.in-Ok.executor in
    let value = c.in-Ok.ensures.value in
    let stands : StandsFor e c.args.pool.now [] = c.in-Ok.ensures.history c.args.pool.now c.requires.there c.requires.empty in (
      refl,
      record {
        live = named c.args.name e;
        new = record {
          named = refl;
          asked = ap (λ (x : ExecutorValue). x.query) value;
          sharing = ap (λ (x : ExecutorValue). x.shared) value;
          planned = ap (λ (x : ExecutorValue). x.plan) value;
          pages = ap (λ (x : ExecutorValue). x.extent) value;
          sound = c.plan-sound.ensures.sound;
          within = c.in-Ok.ensures.within c.args.pool.now c.requires.there c.requires.empty;
          given = ap (λ (x : ExecutorValue). x.given) value;
          stands = c.in-Ok.ensures.bases c.args.pool.now c.requires.there c.requires.empty;
          kept = (standing-is-ready e c.args.pool.now [] c.plan-sound.ensures.sound stands (omega arith)).kept;
          none = ap waiting_in value;
        };
        last = c.in-Ok-add_last.ensures.last;
      },
    )
