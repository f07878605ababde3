use Rattle.std.proofs.Common.{◌≡◌, ◌∙◌, drop, Some, ap, sym}
use Rattle.sql_lexer.specs.Tokens.{longest}
use Rattle.sql_lexer.proofs.Next.{token_next}
use Rattle.sql_lexer.proofs.lexing.token_at.Goals as goal

pub returns-in-Some : goal.returns-in-Some
returns-in-Some c =
    let found : longest (drop c.args.at c.args.line.now) ≡ Some (c.in-Some.kind, c.in-Some.len) = ap longest (sym c.split_at.ensures.back) ∙ sym c.in-Some.ensures.longest in
    token_next c.args.line.now c.args.at c.in-Some.len c.in-Some.kind c.requires.inside c.requires.solid found c.in-Some.ensures.fits.0
