use Rattle.std.proofs.Common.{arith}
use Rattle.sem_query.proofs.NamedInOthers.{length-others, attrs_of_others, attrs_with_right}
use Rattle.sql_parser.proofs.domains.+attrs_compared.Goals as goal

pub attrs_compared-attrs-requires : goal.attrs_compared-attrs-requires
attrs_compared-attrs-requires t c =
    let some = c.in-len1-up.len_at_least in
    (omega (arith, length-others c.args.atoms.now some), omega (arith, attrs_of_others c.args.atoms.now some))

pub put_side-requires : goal.put_side-requires
put_side-requires t c = rw c.attrs_compared-attrs.ensures (attrs_with_right _ _ _ c.in-len1-up.len_at_least c.requires)
