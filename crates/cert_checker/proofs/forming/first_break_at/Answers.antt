use Rattle.cert_checker.proofs.ByForm.{whole_leaf, split_leaf, whole_first, split_first}
use Rattle.cert_checker.proofs.forming.first_break_at.Goals as goal

pub form_break-requires-clause-closed : goal.form_break-requires-clause-closed
form_break-requires-clause-closed c = (whole_leaf c.args.q.now c.select-columns.ensures.limits c.args.shown c.args.pairs.now c.args.signs.now c.args.bounds.now c.requires.pairs c.requires.table c.in-Whole.is).closed

pub form_break-requires-in-Split-clause-signed : goal.form_break-requires-in-Split-clause-signed
form_break-requires-in-Split-clause-signed c = (split_leaf c.args.q.now c.select-columns.ensures.limits c.args.shown c.args.pairs.now c.args.signs.now c.args.bounds.now c.requires.pairs c.requires.table c.in-Split.is).signed

pub form_break-requires-in-Split-clause-closed : goal.form_break-requires-in-Split-clause-closed
form_break-requires-in-Split-clause-closed c = (split_leaf c.args.q.now c.select-columns.ensures.limits c.args.shown c.args.pairs.now c.args.signs.now c.args.bounds.now c.requires.pairs c.requires.table c.in-Split.is).closed

pub returns-in-Whole : goal.returns-in-Whole
returns-in-Whole c = whole_first c.args.q.now c.select-columns.ensures.limits c.args.shown c.args.pairs.now c.args.signs.now c.args.bounds.now c.requires.pairs c.requires.table c.in-Whole.is c.form_break.result c.form_break.ensures

pub returns-in-Split : goal.returns-in-Split
returns-in-Split c = split_first c.args.q.now c.select-columns.ensures.limits c.args.shown c.args.pairs.now c.args.signs.now c.args.bounds.now c.requires.pairs c.requires.table c.in-Split.is c.form_break-in-Split.result c.form_break-in-Split.ensures
