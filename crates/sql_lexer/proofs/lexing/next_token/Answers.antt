use Rattle.std.proofs.Common.{Ok, None, ap, sym, arith}
use Rattle.std.proofs.lemmas.List.{drop_all}
use Rattle.sql_lexer.specs.Tokens.{tokens_from}
use Rattle.sql_lexer.proofs.Next.{blank_next}
use Rattle.sql_lexer.proofs.lexing.next_token.Goals as goal

pub loop-at-preserved : goal.loop-at-preserved
loop-at-preserved c = record {
  back = λ r next. c.loop-at.invariant.back r (blank_next c.args.line.now c.loop-at.at r c.loop-at-test.true (sym c.if-not-is_blank.ensures) next);
  inside = omega (arith, c.loop-at-test.true);
}

pub returns : goal.returns
returns c = c.loop-at.invariant.back (Ok None) (ap (tokens_from 0 c.loop-at.at) (drop_all c.loop-at.at c.args.line.now c.loop-at-test.false))
