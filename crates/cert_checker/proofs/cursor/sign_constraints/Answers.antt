use Rattle.std.proofs.Common.{length, refl}
use Rattle.cert_checker.proofs.Standing.{sides_at, adds_sign}
use Rattle.cert_checker.proofs.cursor.sign_constraints.Goals as goal

pub of_sign-requires-clause-left : goal.of_sign-requires-clause-left
of_sign-requires-clause-left c = (sides_at c.args.q.now c.args.shown c.args.pairs.now (length c.args.signs.now) _ c.attrs-columns.ensures.limits c.requires.pairs c.requires.room).left

pub of_sign-requires-clause-right : goal.of_sign-requires-clause-right
of_sign-requires-clause-right c = (sides_at c.args.q.now c.args.shown c.args.pairs.now (length c.args.signs.now) _ c.attrs-columns.ensures.limits c.requires.pairs c.requires.room).right

pub returns : goal.returns
returns c = adds_sign c.args.q.now c.args.shown c.args.pairs.now c.args.signs.now c.args.sign _ (length c.args.signs.now) c.of_sign.result.items c.requires.pairs refl c.requires.room c.of_sign.ensures.value c.of_sign.ensures.within
