use Rattle.std.proofs.Common.{List, ap, ◌∙◌}
use Rattle.std.specs.List.{position}
use Rattle.std.specs.Str.{bytes_eq}
use Rattle.exec_registry.specs.Live.{Live}
use Rattle.exec_registry.specs.Counted.{shown}
use Rattle.exec_registry.proofs.Shown.{sized}
use Rattle.exec_registry.proofs.SideBySide.{position_live}
use Rattle.exec_registry.proofs.queries.Queries.place_of.Goals as goal

pub returns : goal.returns
returns c = record {
  place =
      c.get_index_of.ensures.index ∙ position_live c.args.name.now c.self.inside.names.keys (shown c.self.inside.rows c.self.inside.runners.items) (sized c.self.inside.rows c.self.inside.names.keys c.self.inside.runners.items c.self.invariant.0)
      ∙ ap (λ (live : List Live). position (λ (l : Live). bytes_eq l.name c.args.name.now) live) c.self.view_is;
}
