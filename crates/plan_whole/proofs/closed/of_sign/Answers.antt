use Rattle.sem_query.specs.Query.{attrs_of}
use Rattle.plan_whole.proofs.Signing.{side_limit}
use Rattle.plan_whole.proofs.Within.{sign_within}
use Rattle.plan_whole.proofs.closed.of_sign.Goals as goal

pub of_comparison-requires-clause-right : goal.of_comparison-requires-clause-right
of_comparison-requires-clause-right c = side_limit (attrs_of c.args.q.now.atoms) c.args.pair.right c.requires.right

pub returns-clause-within : goal.returns-clause-within
returns-clause-within c = sign_within (attrs_of c.args.q.now.atoms) c.args.pair c.args.sign _ (rw (c.attrs.ensures.value, c.op_of.ensures) at c.of_comparison.ensures) c.requires.left c.requires.right
