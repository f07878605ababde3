use Rattle.std.proofs.Common.{◌<◌, length, ◌∙◌, ap, subst, sym, arith}
use Rattle.exec_query.specs.Executor.{arrival}
use Rattle.exec_registry.specs.Registry.{GivenUpto, KeepQueries, RegistryValue, StandsFor}
use Rattle.exec_registry.proofs.Sparing.{spared, told_kept}
use Rattle.exec_registry.proofs.Whole.{rows_stand, rows_wait, rows_keep}
use Rattle.exec_registry.proofs.registry.Registry.row.Goals as goal

pub returns-clause-stands : goal.returns-clause-stands
returns-clause-stands g c = λ queries all.
    rows_stand (arrival c.args.stream c.args.row.now.items) c.self.inside.pool c.apply_to_all-self-inside.new.pool c.self.inside.live c.apply_to_all-self-inside.new.live queries c.apply_to_all-self-inside.ensures.taken
    (subst (λ (v : RegistryValue). StandsFor v queries) (sym c.self.view_is) all)

pub returns-clause-waits : goal.returns-clause-waits
returns-clause-waits g c = λ queries all.
    rows_wait (arrival c.args.stream c.args.row.now.items) c.self.inside.pool c.apply_to_all-self-inside.new.pool c.self.inside.live c.apply_to_all-self-inside.new.live queries c.apply_to_all-self-inside.ensures.taken
    (subst (λ (v : RegistryValue). StandsFor v queries) (sym c.self.view_is) all)

pub returns-clause-queries : goal.returns-clause-queries
returns-clause-queries g c =
    subst (λ (v : RegistryValue). KeepQueries v.live c.apply_to_all-self-inside.new.live) c.self.view_is
    (rows_keep (arrival c.args.stream c.args.row.now.items) c.self.inside.pool c.apply_to_all-self-inside.new.pool c.self.inside.live c.apply_to_all-self-inside.new.live c.apply_to_all-self-inside.ensures.taken)

pub returns-clause-within : goal.returns-clause-within
returns-clause-within g c = c.apply_to_all-self-inside.ensures.taken.sound.within

pub apply_to_all-self-inside-requires-clause-spared : goal.apply_to_all-self-inside-requires-clause-spared
apply_to_all-self-inside-requires-clause-spared g c =
    spared c.of-concerns.result.word c.self.inside.waiting (arrival c.args.stream c.args.row.now.items) c.self.inside.live c.of-concerns.ensures.may c.self.invariant.1

pub invariant_of-self : goal.invariant_of-self
invariant_of-self g c =
    let t = c.apply_to_all-self-inside.ensures.taken in (
      t.sound,
      c.apply_to_all-self-inside.ensures.waiting,
      told_kept c.of-concerns.new.self c.self.inside.live c.apply_to_all-self-inside.new.live t.size (λ i l a. (t.asked i l a).query) t.plans c.of-concerns.ensures.told,
    )

pub returns-clause-given : goal.returns-clause-given
returns-clause-given g c = λ n given k d a.
    let t = c.apply_to_all-self-inside.ensures.taken in
    let size = t.size in
    let here : k < length c.self.inside.live = omega (arith, a, size) in
    let more = t.given k d here in
    let was = subst (λ (v : RegistryValue). GivenUpto n v) (sym c.self.view_is) given k d here in
    omega (arith, more, was)

pub returns-clause-pages : goal.returns-clause-pages
returns-clause-pages g c = c.apply_to_all-self-inside.ensures.taken.pages ∙ ap (λ (v : RegistryValue). v.pool.pages) c.self.view_is
