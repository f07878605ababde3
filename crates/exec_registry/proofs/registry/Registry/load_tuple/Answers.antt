use Rattle.std.proofs.Common.{◌<◌, length, map, ap, ◌∙◌, sym, subst, arith}
use Rattle.sem_query.specs.Numbers.{parts_of}
use Rattle.exec_query.specs.Loading.{loaded_tuple}
use Rattle.exec_registry.specs.Live.{Live, LiveQuery}
use Rattle.exec_registry.specs.Registry.{RegistryValue, IsQuiet, GivenUpto, KeepQueries}
use Rattle.exec_registry.specs.Loaded.{LoadsAt}
use Rattle.exec_registry.proofs.Loads.{loaded_sound, loaded_silent, loaded_stands, loaded_quiet, loaded_upto, loaded_names, loaded_keep}
use Rattle.exec_registry.proofs.registry.Registry.load_tuple.Goals as goal

pub invariant_of-self : goal.invariant_of-self
invariant_of-self c =
    let there = subst (λ (v : RegistryValue). c.args.place < length v.live) (sym c.self.view_is) c.requires.there in (
      loaded_sound c.args.place c.load_tuple.result 0 (λ q shared plan base. loaded_tuple q (parts_of plan) c.args.t.now.items base) c.self.inside.pool c.self.inside.pool c.self.inside.live c.load_tuple.new.live c.self.invariant.0 there (c.load_tuple.ensures.each c.self.inside.pool),
      loaded_silent c.args.place c.load_tuple.result 0 (λ q shared plan base. loaded_tuple q (parts_of plan) c.args.t.now.items base) c.self.inside.pool c.self.inside.pool c.self.inside.live c.load_tuple.new.live c.self.invariant.0 there (c.load_tuple.ensures.each c.self.inside.pool) c.self.inside.waiting c.self.invariant.1,
      c.forget.ensures c.load_tuple.new.live,
    )

pub returns-clause-loads : goal.returns-clause-loads
returns-clause-loads c =
    let there = subst (λ (v : RegistryValue). c.args.place < length v.live) (sym c.self.view_is) c.requires.there in
    subst (λ (v : RegistryValue). LoadsAt c.load_tuple.result c.args.place (λ (q : LiveQuery). loaded_tuple q.query (parts_of q.plan) c.args.t.now.items q.base) v (let new : RegistryValue = record { pool = c.self.inside.pool; live = c.load_tuple.new.live } in new)) c.self.view_is
    (loaded_stands c.args.place c.load_tuple.result 0 (λ q shared plan base. loaded_tuple q (parts_of plan) c.args.t.now.items base) c.self.inside.pool c.self.inside.pool c.self.inside.live c.load_tuple.new.live c.self.invariant.0 there (c.load_tuple.ensures.each c.self.inside.pool))

pub returns-clause-quiet : goal.returns-clause-quiet
returns-clause-quiet c = λ quiet.
    let there = subst (λ (v : RegistryValue). c.args.place < length v.live) (sym c.self.view_is) c.requires.there in
    loaded_quiet c.args.place c.load_tuple.result 0 (λ q shared plan base. loaded_tuple q (parts_of plan) c.args.t.now.items base) c.self.inside.pool c.self.inside.pool c.self.inside.live c.load_tuple.new.live c.self.invariant.0 there (c.load_tuple.ensures.each c.self.inside.pool) (subst (λ (v : RegistryValue). IsQuiet v) (sym c.self.view_is) quiet)

pub returns-clause-given : goal.returns-clause-given
returns-clause-given c = λ m given.
    let there = subst (λ (v : RegistryValue). c.args.place < length v.live) (sym c.self.view_is) c.requires.there in
    loaded_upto c.args.place c.load_tuple.result 0 (λ q shared plan base. loaded_tuple q (parts_of plan) c.args.t.now.items base) c.self.inside.pool c.self.inside.pool c.self.inside.live c.load_tuple.new.live c.self.invariant.0 there (c.load_tuple.ensures.each c.self.inside.pool) m (omega arith) (subst (λ (v : RegistryValue). GivenUpto m v) (sym c.self.view_is) given)

pub returns-clause-names : goal.returns-clause-names
returns-clause-names c =
    let there = subst (λ (v : RegistryValue). c.args.place < length v.live) (sym c.self.view_is) c.requires.there in
    loaded_names c.args.place c.load_tuple.result 0 (λ q shared plan base. loaded_tuple q (parts_of plan) c.args.t.now.items base) c.self.inside.pool c.self.inside.pool c.self.inside.live c.load_tuple.new.live c.self.invariant.0 there (c.load_tuple.ensures.each c.self.inside.pool) ∙ ap (λ (v : RegistryValue). map (λ (l : Live). l.name) v.live) c.self.view_is

pub returns-clause-queries : goal.returns-clause-queries
returns-clause-queries c =
    let there = subst (λ (v : RegistryValue). c.args.place < length v.live) (sym c.self.view_is) c.requires.there in
    subst (λ (v : RegistryValue). KeepQueries v.live c.load_tuple.new.live) c.self.view_is (loaded_keep c.args.place c.load_tuple.result 0 (λ q shared plan base. loaded_tuple q (parts_of plan) c.args.t.now.items base) c.self.inside.pool c.self.inside.pool c.self.inside.live c.load_tuple.new.live c.self.invariant.0 there (c.load_tuple.ensures.each c.self.inside.pool))
