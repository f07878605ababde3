use Rattle.io_streams.proofs.Writing.{BrokeOff-stop, BrokeOff-then}
use Rattle.adv_templates.specs.declared.template.Filling.TheVariants.{Number}
use Rattle.adv_templates.proofs.Sequences.{writes_after, broke_off, writes_as}
use Rattle.adv_templates.proofs.Holes.{filled_first}
use Rattle.adv_templates.proofs.template.+write_filled.Goals as goal

pub returns-in_err-write_all-in-len1-up : goal.returns-in_err-write_all-in-len1-up
returns-in_err-write_all-in-len1-up g t c =
    let before = rw (c.cut_at_hole.ensures.before) at c.in_err-write_all-in-len1-up.ensures in
    writes_as c.from_residual.result _ _ _ _ (filled_first c.args.template.now c.args.fillings.now (Number 0) c.in-len1-up.len_at_least) (broke_off _ _ _ _ c.from_residual.ensures.0 (BrokeOff-stop _ _ _ _ before))

pub returns-in_err-write_filling-in-len1-up : goal.returns-in_err-write_filling-in-len1-up
returns-in_err-write_filling-in-len1-up g t c =
    let before = rw (c.cut_at_hole.ensures.before) at c.in_ok-write_all-in-len1-up.ensures in
    writes_as c.from_residual-in_err-write_filling-in-len1-up.result _ _ _ _ (filled_first c.args.template.now c.args.fillings.now _ c.in-len1-up.len_at_least)
    (broke_off _ _ _ _ c.from_residual-in_err-write_filling-in-len1-up.ensures.0 (BrokeOff-then _ _ _ _ _ before (BrokeOff-stop _ _ _ _ c.in_err-write_filling-in-len1-up.ensures)))

pub returns-in_ok-write_filling-in-len1-up : goal.returns-in_ok-write_filling-in-len1-up
returns-in_ok-write_filling-in-len1-up g t c =
    let before = rw (c.cut_at_hole.ensures.before) at c.in_ok-write_all-in-len1-up.ensures in
    let behind = rw (c.cut_at_hole.ensures.behind) at c.write_filled.ensures in
    writes_as c.write_filled.result _ _ _ _ (filled_first c.args.template.now c.args.fillings.now _ c.in-len1-up.len_at_least)
    (writes_after _ _ _ _ _ _ before (writes_after _ _ _ _ _ _ c.in_ok-write_filling-in-len1-up.ensures behind))
