use Rattle.std.proofs.Common.{◌≡◌, drop}
use Rattle.cert_format.specs.Nodes.{nodes_of}
use Rattle.cert_checker.proofs.shown.first_shows.Given as goal

abbrev pub invariant-loop-line : goal.invariant-loop-line
invariant-loop-line l = nodes_of l.lines ≡ nodes_of (drop l.line-index l.lines)
