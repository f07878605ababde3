use Rattle.std.proofs.Common.{arith}
use Rattle.sem_query.proofs.NamedInOthers.{length-others, attrs_of_others, consts_of_others, attrs_with_right, consts_with_right}
use Rattle.adv_mends.proofs.writing.+named.Goals as goal

pub named-attrs-requires : goal.named-attrs-requires
named-attrs-requires t c =
    let some = c.in-len1-up.len_at_least in
    (omega (arith, length-others c.args.atoms.now some), (omega (arith, attrs_of_others c.args.atoms.now some), omega (arith, consts_of_others c.args.atoms.now some)))

pub put_element-requires : goal.put_element-requires
put_element-requires t c = (omega arith, (omega arith, (rw c.named-attrs.ensures.attrs (attrs_with_right _ _ _ c.in-len1-up.len_at_least c.requires.few_attrs), rw c.named-attrs.ensures.consts (consts_with_right _ _ _ c.in-len1-up.len_at_least c.requires.few_consts))))
