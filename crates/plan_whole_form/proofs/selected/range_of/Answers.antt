use Rattle.plan_whole_form.proofs.selected.range_of.Goals as goal

pub returns : goal.returns
returns c = (c.ends.result, c.ends.ensures.ends, c.dim_in.ensures)
