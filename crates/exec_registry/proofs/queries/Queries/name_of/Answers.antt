use Rattle.std.proofs.Common.{◌<◌, length, arith}
use Rattle.exec_registry.specs.Counted.{shown}
use Rattle.exec_registry.proofs.Shown.{size_run, sized}
use Rattle.exec_registry.proofs.SideBySide.{name_there, named_there}
use Rattle.exec_registry.proofs.queries.Queries.name_of.Goals as goal

pub unwrap-requires : goal.unwrap-requires
unwrap-requires c =
    let size = size_run c.self.inside.rows c.self.inside.names.keys c.self.inside.runners.items c.args.self.now c.self.invariant.0 c.self.view_is in
    let here : c.args.place < length c.self.inside.names.keys = omega (arith, size, c.self.invariant.0, c.requires) in
    c.get_index.ensures.found.1 here

pub returns : goal.returns
returns c = λ d.
    named_there c.unwrap.result.now c.self.inside.names.keys (shown c.self.inside.rows c.self.inside.runners.items) c.args.self.now c.args.place d
    (sized c.self.inside.rows c.self.inside.names.keys c.self.inside.runners.items c.self.invariant.0) c.self.view_is c.requires
    (name_there c.self.inside.names.keys c.args.place c.get_index.result c.unwrap.result c.get_index.ensures.key c.unwrap.ensures)
