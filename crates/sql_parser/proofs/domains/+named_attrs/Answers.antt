use Rattle.std.proofs.Common.{arith}
use Rattle.sql_parser.proofs.QueryDomains.{fewer_others, few_others}
use Rattle.sql_parser.proofs.domains.+named_attrs.Goals as goal

pub named_attrs-attrs-requires : goal.named_attrs-attrs-requires
named_attrs-attrs-requires t c =
    let some = c.in-len1-up.len_at_least in
    (omega (arith, fewer_others c.args.select.now some), omega (arith, few_others c.args.select.now c.args.atoms.now some))
