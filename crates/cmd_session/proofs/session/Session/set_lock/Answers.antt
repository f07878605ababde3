use Rattle.std.proofs.Common.{List, All, ap, sym, ◌∙◌, subst}
use Rattle.sql_parser.specs.Resolution.{HasNamed}
use Rattle.exec_registry.specs.Live.{Live}
use Rattle.io_row_reader.specs.Indexed.{IndexedValue}
use Rattle.sql_catalog.specs.Streams.{Shape}
use Rattle.cmd_session.specs.Session.{SessionValue, StandsFor}
use Rattle.cmd_session.proofs.Short.{IsShortLive}
use Rattle.cmd_session.proofs.Standing.{relocked}
use Rattle.cmd_session.proofs.session.Session.set_lock.Goals as goal

pub invariant_of-self : goal.invariant_of-self
invariant_of-self c =
    let streams = ap (λ (v : IndexedValue). v.streams) c.set_open.ensures in (
      record {
        within = c.self.invariant.0.within;
        limit = c.self.invariant.0.limit;
        given = c.self.invariant.0.given;
        named = subst (λ (x : List Shape). All (λ (l : Live). HasNamed x l.executor.query) c.self.inside.registry.live) (sym streams) c.self.invariant.0.named;
        short = subst (λ (x : List Shape). All (IsShortLive x) c.self.inside.registry.live) (sym streams) c.self.invariant.0.short;
      },
      ap (λ (v : IndexedValue). v.opened) c.set_open.ensures ∙ c.open_in.ensures,
    )

pub returns-clause-kept : goal.returns-clause-kept
returns-clause-kept c =
    ap (λ (v : IndexedValue). record {
      limit = c.self.inside.limit;
      streams = v.streams;
      registry = c.self.inside.registry;
      taken = c.self.inside.taken;
      lines = c.self.inside.lines;
      began = c.self.inside.began;
      lock = c.args.lock;
    }) c.set_open.ensures
    ∙ ap (λ (k : SessionValue). record k { lock = c.args.lock }) c.self.view_is

pub returns-clause-stands : goal.returns-clause-stands
returns-clause-stands c = λ s stands. subst (λ (k : SessionValue). StandsFor k (record s { lock = c.args.lock })) (sym (returns-clause-kept c)) (relocked c.args.self.now s c.args.lock stands)
