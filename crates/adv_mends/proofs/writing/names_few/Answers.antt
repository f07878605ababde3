use Rattle.std.proofs.Common.{arith}
use Rattle.adv_mends.proofs.FewNames.{few_attrs, few_consts}
use Rattle.adv_mends.proofs.writing.names_few.Goals as goal

pub named-attrs-requires : goal.named-attrs-requires
named-attrs-requires c = record { few_attrs = omega (arith, few_attrs c.args.atoms.now, c.requires); few_consts = omega (arith, few_consts c.args.atoms.now, c.requires) }
