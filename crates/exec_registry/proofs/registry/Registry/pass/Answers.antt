use Rattle.std.proofs.Common.{◌+◌, ◌≤◌, ◌^◌, List, All, map, sym, ap, ◌∙◌, subst}
use Rattle.std.proofs.lemmas.List.{length-map}
use Rattle.exec_registry.specs.Live.{Live}
use Rattle.exec_registry.specs.Passed.{given_more, passed}
use Rattle.exec_registry.specs.Registry.{RegistryValue, IsSound}
use Rattle.exec_registry.specs.Concerned.{IsTold}
use Rattle.exec_registry.specs.Waiting.{AreQuiet}
use Rattle.exec_registry.proofs.Passing.{more_at, passed_sound, quiet_more}
use Rattle.exec_registry.proofs.Sparing.{told_kept}
use Rattle.exec_registry.proofs.registry.Registry.pass.Goals as goal

pub returns : goal.returns
returns c = ap (λ (live : List Live). let v : RegistryValue = record { pool = c.self.inside.pool; live = live } in v) c.pass.ensures ∙ ap (passed c.args.rows) c.self.view_is

pub invariant_of-self : goal.invariant_of-self
invariant_of-self c =
    let old : RegistryValue = record { pool = c.self.inside.pool; live = c.self.inside.live } in
    let few = subst (λ (v : RegistryValue). All (λ (l : Live). l.executor.given + c.args.rows ≤ 2 ^ 40) v.live) (sym c.self.view_is) c.requires in
    subst (λ (live : List Live). IsSound c.self.inside.pool live × AreQuiet c.self.inside.waiting live × IsTold c.self.inside.concerned live) (sym c.pass.ensures)
    ((
      passed_sound c.args.rows old c.self.invariant.0 few,
      quiet_more c.args.rows c.self.inside.waiting c.self.inside.live c.self.invariant.1,
      told_kept c.self.inside.concerned c.self.inside.live (map (given_more c.args.rows) c.self.inside.live) (length-map c.self.inside.live (given_more c.args.rows))
          (λ i l a. ap (λ (x : Live). x.executor.query) (more_at c.args.rows c.self.inside.live i l a))
          (λ i l a. ap (λ (x : Live). x.executor.plan) (more_at c.args.rows c.self.inside.live i l a)) c.self.invariant.2,
    ))
