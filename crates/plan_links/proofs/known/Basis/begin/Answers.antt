use Rattle.std.proofs.Common.{ap}
use Rattle.plan_links.specs.BasisValue.{BasisValue}
use Rattle.plan_links.proofs.Adding.{distances_start}
use Rattle.plan_links.proofs.known.Basis.begin.Goals as goal

pub returns : goal.returns
returns c = λ q is. distances_start q _ c.args.self.now.distances (ap (λ (v : BasisValue). v.distances) c.self.view_is) is.distances
