use Rattle.std.proofs.Common.{ℕ, ◌<◌, List, length, subst, sym, ap, arith}
use Rattle.std.specs.List.{flat_map}
use Rattle.io_streams.specs.Sink.{Wrote}
use Rattle.io_streams.proofs.Writing.{Wrote-nil}
use Rattle.exec_query.specs.Executor.{ExecutorValue}
use Rattle.exec_registry.specs.Registry.{GivenUpto, KeepQueries, RegistryValue, StandsFor, waiting_text}
use Rattle.exec_registry.proofs.Quiet.{none_text, quiet_after}
use Rattle.exec_registry.proofs.Sparing.{told_kept}
use Rattle.exec_registry.proofs.Whole.{written_sound, written_stands, written_keep}
use Rattle.exec_registry.proofs.registry.Registry.emit.Goals as goal

pub returns-then-self-eq0-clause-written : goal.returns-then-self-eq0-clause-written
returns-then-self-eq0-clause-written g c =
    subst (λ (v : RegistryValue). Wrote (g.O.Sink.seen c.args.out.now) (g.O.Sink.seen c.args.out.now) (flat_map waiting_text v.live)) c.self.view_is
    (subst (λ (t : List ℕ). Wrote (g.O.Sink.seen c.args.out.now) (g.O.Sink.seen c.args.out.now) t) (none_text c.self.inside.waiting c.self.inside.live c.self.invariant.1 c.if-self-eq0.true)
    (Wrote-nil (g.O.Sink.seen c.args.out.now)))

pub invariant_of-self : goal.invariant_of-self
invariant_of-self g c =
    let wrote = c.write_all.ensures.wrote in (
      written_sound c.self.inside.pool c.self.inside.live c.write_all.new.live c.self.invariant.0 wrote,
      quiet_after c.write_all.new.live (λ i l b. let size = wrote.size in (wrote.done i l (omega (arith, b, size)) (omega (arith, b, size))).none),
      told_kept c.self.inside.concerned c.self.inside.live c.write_all.new.live wrote.size
          (λ i l a. ap (λ (e : ExecutorValue). e.query) (wrote.done i l a a).same)
          (λ i l a. ap (λ (e : ExecutorValue). e.plan) (wrote.done i l a a).same) c.self.invariant.2,
    )

pub returns-clause-stands : goal.returns-clause-stands
returns-clause-stands g c = λ queries all.
    written_stands c.self.inside.pool c.self.inside.live c.write_all.new.live queries c.write_all.ensures.wrote
    (subst (λ (v : RegistryValue). StandsFor v queries) (sym c.self.view_is) all)

pub returns-clause-queries : goal.returns-clause-queries
returns-clause-queries g c =
    subst (λ (v : RegistryValue). KeepQueries v.live c.write_all.new.live) c.self.view_is
    (written_keep c.self.inside.live c.write_all.new.live c.write_all.ensures.wrote)

pub returns-clause-given : goal.returns-clause-given
returns-clause-given g c = λ n given k d a.
    let wrote = c.write_all.ensures.wrote in
    let size = wrote.size in
    let here : k < length c.self.inside.live = omega (arith, a, size) in
    let as_before = ap (λ (e : ExecutorValue). e.given) (wrote.done k d here here).same in
    let was = subst (λ (v : RegistryValue). GivenUpto n v) (sym c.self.view_is) given k d here in
    omega (arith, as_before, was)
