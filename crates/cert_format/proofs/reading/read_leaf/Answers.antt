use Rattle.std.proofs.Common.{ap, sym}
use Rattle.std.specs.Option.{is_some}
use Rattle.sql_text.specs.Lines.{parts_behind}
use Rattle.cert_format.proofs.Chains.{some_behind, no_leaf}
use Rattle.cert_format.proofs.reading.read_leaf.Goals as goal

pub returns-in-Some : goal.returns-in-Some
returns-in-Some c = sym (no_leaf (parts_behind 32 c.args.behind) (some_behind c.args.behind (ap is_some c.in-Some.is)))
