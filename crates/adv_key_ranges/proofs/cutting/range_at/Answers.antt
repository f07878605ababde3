use Rattle.std.proofs.Common.{sym, subst, w64}
use Rattle.std.proofs.lemmas.Int.{to_z-of_z}
use Rattle.adv_mends.specs.declared.mend.Ends.{Ends}
use Rattle.adv_mends.specs.Mended.{AreEnds}
use Rattle.adv_key_ranges.specs.Cutting.{value_count}
use Rattle.adv_key_ranges.proofs.Ends.{few-ranges, range-ends, range-is}
use Rattle.adv_key_ranges.proofs.cutting.range_at.Goals as goal

pub returns-clause-range : goal.returns-clause-range
returns-clause-range c =
    rw (to_z-of_z w64 c.above.result (record { sfits = c.above.type_inv }), to_z-of_z w64 c.above-2.result (record { sfits = c.above-2.type_inv }))
    (range-is c.args.ends c.args.ranges c.args.number c.value_count-count.result c.begins-before.result c.begins-behind.result c.above.result c.above-2.result c.value_count-count.ensures.count
    c.begins-before.ensures.begins c.begins-behind.ensures.begins c.above.ensures c.above-2.ensures)

pub returns-clause-ends : goal.returns-clause-ends
returns-clause-ends c =
    subst (λ (e : Ends). AreEnds e) (sym (returns-clause-range c))
    (range-ends c.args.ends c.args.ranges c.args.number c.requires.ends c.requires.number (few-ranges c.args.ranges (value_count c.args.ends) c.requires.few))
