use Rattle.std.proofs.Common.{◌∙◌, map, refl, ap}
use Rattle.plan_whole_form.specs.Streams.{stream_of}
use Rattle.plan_whole_form.proofs.Assembling.{part_is}
use Rattle.plan_whole_form.proofs.whole.part_of.Goals as goal

pub returns : goal.returns
returns c =
    part_is c.args.closed.now c.query-query.ensures.formed c.query-query.ensures.solvable c.args.keeps.links.items c.args.keeps.streams.items c.in_ok-conditions.conditions.items c.requires.links c.requires.streams c.requires.sound
    c.in_ok-conditions.ensures.admitted _ refl refl (c.streams_of.ensures ∙ ap (map stream_of) c.as_slice.ensures.value) c.in_ok-conditions.ensures.asked c.selected_ranges.ensures
