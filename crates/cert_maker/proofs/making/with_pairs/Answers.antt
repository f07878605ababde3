use Rattle.std.proofs.lemmas.Result.{err_from_is_err_and}
use Rattle.cert_maker.proofs.AtRoot.{made, not_made}
use Rattle.cert_maker.proofs.making.with_pairs.Goals as goal

pub returns-in_err-from_root : goal.returns-in_err-from_root
returns-in_err-from_root c =
    let p = err_from_is_err_and c.from_residual.result c.from_residual.ensures.1 in
    rw (p.1, p.2) (not_made c.in_err-from_root.field-0.0 c.args.shown c.args.q.now _ _ c.from_root.ensures.limits (rw c.new-certificate.ensures at c.in_err-from_root.ensures.walks))

pub returns : goal.returns
returns c = made c.args.shown c.args.q.now _ _ _ c.requires.pairs c.requires.few (rw c.new-certificate.ensures at c.in_ok-from_root.ensures.walks)
