use Rattle.std.proofs.Common.{◌∙◌, sym}
use Rattle.exec_synopsis.proofs.UnaskedLaws.{none-asked-else}
use Rattle.exec_synopsis.proofs.join_lookup.meets_all.Goals as goal

pub returns : goal.returns
returns c = λ told v inside. none-asked-else c.args.part.now c.args.place c.args.asked.now c.requires (sym c.asks_none.ensures ∙ told) v inside
