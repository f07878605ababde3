use Rattle.std.proofs.Common.{◌+◌, ◌≤◌, true, All, ap, ◌∙◌, subst, sym}
use Rattle.sql_parser.specs.Resolution.{HasNamed}
use Rattle.exec_registry.specs.Live.{Live}
use Rattle.exec_registry.specs.Passed.{passed}
use Rattle.exec_registry.specs.Registry.{GivenUpto, RegistryValue}
use Rattle.exec_registry.proofs.Passing.{passed_given, passed_keep}
use Rattle.cmd_session.specs.Session.{SessionValue}
use Rattle.cmd_session.proofs.CountedRow.{given_fits}
use Rattle.cmd_session.proofs.Explaining.{named_kept}
use Rattle.cmd_session.proofs.Short.{IsShortLive, short_kept}
use Rattle.cmd_session.proofs.session.Session.count.Goals as goal

pub pass-requires : goal.pass-requires
pass-requires c =
    let k : SessionValue = record { limit = c.self.inside.limit; streams = c.self.inside.catalog.streams; registry = c.self.inside.registry; taken = c.self.inside.taken; lines = c.self.inside.lines; began = c.self.inside.began; lock = c.self.inside.lock } in
    given_fits k c.args.rows c.self.invariant.0 (subst (λ (x : SessionValue). x.taken + c.args.rows ≤ x.limit) (sym c.self.view_is) c.requires.few)

pub invariant_of-self : goal.invariant_of-self
invariant_of-self c =
    let old = c.self.inside.registry in
    let is = c.pass.ensures in (
      record {
        within = subst (λ (k : SessionValue). k.taken + c.args.rows ≤ k.limit) (sym c.self.view_is) c.requires.few;
        limit = c.self.invariant.0.limit;
        given = subst (λ (r : RegistryValue). GivenUpto (c.self.inside.taken + c.args.rows) r) (sym is) (passed_given c.args.rows c.self.inside.taken old c.self.invariant.0.given);
        named = subst (λ (r : RegistryValue). All (λ (l : Live). HasNamed c.self.inside.catalog.streams l.executor.query) r.live) (sym is)
            (named_kept c.self.inside.catalog.streams old.live (passed c.args.rows old).live c.self.invariant.0.named (passed_keep c.args.rows old));
        short = subst (λ (r : RegistryValue). All (IsShortLive c.self.inside.catalog.streams) r.live) (sym is)
            (short_kept c.self.inside.catalog.streams old.live (passed c.args.rows old).live c.self.invariant.0.short (passed_keep c.args.rows old));
      },
      c.self.invariant.1,
    )

pub returns : goal.returns
returns c =
    ap (λ (r : RegistryValue). record {
      limit = c.self.inside.limit;
      streams = c.self.inside.catalog.streams;
      registry = r;
      taken = c.self.inside.taken + c.args.rows;
      lines = c.self.inside.lines + c.args.rows;
      began = true;
      lock = c.self.inside.lock;
    }) c.pass.ensures
    ∙ ap (λ (k : SessionValue). record k { taken = k.taken + c.args.rows; lines = k.lines + c.args.rows; began = true; registry = passed c.args.rows k.registry }) c.self.view_is
