use Rattle.std.proofs.Common.{List, ap, ◌∙◌}
use Rattle.std.specs.List.{list_any}
use Rattle.std.specs.Str.{bytes_eq}
use Rattle.exec_registry.specs.Live.{Live}
use Rattle.exec_registry.specs.Counted.{shown}
use Rattle.exec_registry.proofs.Shown.{sized}
use Rattle.exec_registry.proofs.SideBySide.{any_live}
use Rattle.exec_registry.proofs.queries.Queries.has.Goals as goal

pub returns : goal.returns
returns c =
    c.contains.ensures ∙ any_live c.args.name.now c.self.inside.names.keys (shown c.self.inside.rows c.self.inside.runners.items) (sized c.self.inside.rows c.self.inside.names.keys c.self.inside.runners.items c.self.invariant.0)
    ∙ ap (λ (live : List Live). list_any (λ (l : Live). bytes_eq l.name c.args.name.now) live) c.self.view_is
