use Rattle.std.proofs.Common.{ap, sym, ◌∙◌}
use Rattle.std.specs.Option.{is_some}
use Rattle.sql_text.specs.Lines.{parts_behind}
use Rattle.cert_format.proofs.Chains.{some_behind, too_many}
use Rattle.cert_format.proofs.reading.read_numbers.Goals as goal

pub returns-then-is_full : goal.returns-then-is_full
returns-then-is_full g c =
    too_many g.row.MOST (parts_behind 32 c.args.text) (parts_behind 32 c.loop-rest.rest) c.loop-rest.numbers.items c.loop-rest.invariant.told (sym c.is_full.ensures.value ∙ c.if-is_full.true) (some_behind c.loop-rest.rest (ap is_some c.in-Some.is))
