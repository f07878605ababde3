use Rattle.std.proofs.Common.{arith, ap, refl, inl}
use Rattle.std.proofs.lemmas.Result.{err_from_is_err_and}
use Rattle.cert_format.specs.Certificate.{takes_path}
use Rattle.cert_format.specs.declared.line.Line.TheVariants as line
use Rattle.cert_maker.proofs.Lines.{last-append}
use Rattle.cert_maker.proofs.PathSteps.{leaf_broke, leaf_paths}
use Rattle.cert_maker.proofs.leaf.add_leaf.Goals as goal

pub returns-in_err-add : goal.returns-in_err-add
returns-in_err-add c =
    let p = err_from_is_err_and c.from_residual.result c.from_residual.ensures.1 in
    rw (p.1, p.2) (leaf_broke c.in_err-add.field-0.0 _ _ _ c.add.new.certificate _ _ _ c.in_err-add.ensures)

pub add_paths-requires-clause-takes : goal.add_paths-requires-clause-takes
add_paths-requires-clause-takes c = rw c.in_ok-add.ensures.1 (ap takes_path (last-append c.args.certificate.now line.Leaf))

pub returns : goal.returns
returns c = leaf_paths c.add_paths.result _ _ c.args.certificate.now c.add.new.certificate c.add_paths.new.certificate c.args.parts.now _ refl (omega arith) c.in_ok-add.ensures.0 c.in_ok-add.ensures.1 c.add_paths.ensures

pub returns-then-parts-eq-MOST_PARTS : goal.returns-then-parts-eq-MOST_PARTS
returns-then-parts-eq-MOST_PARTS c = inl c.if-parts-eq-MOST_PARTS.true
