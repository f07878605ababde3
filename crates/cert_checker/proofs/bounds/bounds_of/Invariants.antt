use Rattle.std.proofs.Common.{◌≡◌, List, ◌++◌, drop}
use Rattle.cert_format.specs.declared.line.Path.{Path}
use Rattle.cert_format.specs.Nodes.{grouped}
use Rattle.cert_checker.proofs.Paths.{ReadSo}
use Rattle.cert_checker.proofs.bounds.bounds_of.Given as goal

abbrev pub invariant-loop-line : goal.invariant-loop-line
invariant-loop-line l = record {
  done : List Path;
  split : (grouped l.lines).paths ≡ done ++ (grouped (drop l.line-index l.lines)).paths;
  read : ReadSo l.attrs l.cs done l.first l.bounds;
}
