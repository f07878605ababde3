use Rattle.std.proofs.Common.{◌+◌, ◌%◌, ◌^◌, refl}
use Rattle.exec_registry.proofs.Passing.{pass_counted, pass_view}
use Rattle.exec_registry.proofs.queries.Queries.pass.Goals as goal

pub returns : goal.returns
returns c =
    pass_view c.self.inside.rows c.args.rows ((c.self.inside.rows + c.args.rows) % 2 ^ 64) c.self.inside.names.keys c.self.inside.runners.items c.args.self.now c.self.invariant.0 c.self.view_is
    c.requires refl

pub invariant_of-self : goal.invariant_of-self
invariant_of-self c = (
  c.self.invariant.0,
  pass_counted c.self.inside.rows c.args.rows ((c.self.inside.rows + c.args.rows) % 2 ^ 64) c.self.inside.names.keys c.self.inside.runners.items c.args.self.now c.self.invariant.0 c.self.view_is
      c.requires refl c.self.invariant.1,
)
