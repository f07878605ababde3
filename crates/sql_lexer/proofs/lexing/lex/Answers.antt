use Rattle.std.proofs.Common.{◌≡◌, ◌∙◌, ◌≤◌, arith, length, drop, sym, ap, ◌+◌, Some, None, List, ℕ}
use Rattle.std.proofs.lemmas.List.{drop_all}
use Rattle.sql_lexer.specs.declared.token.Token.{Token}
use Rattle.sql_lexer.specs.Tokens.{tokens_from, longest}
use Rattle.sql_lexer.proofs.TokenLists.{after, after_one, after_end, after_err, token_step, no_token_step}
use Rattle.sql_lexer.proofs.Standing.{tokens_stand}
use Rattle.sql_lexer.proofs.lexing.lex.Goals as goal

pub returns-in-None-clause-tokens : goal.returns-in-None-clause-tokens
returns-in-None-clause-tokens c =
    let none : longest (drop c.loop-at.at c.args.line.now) ≡ None = ap longest (sym c.split_at.ensures.back) ∙ sym c.in-None.ensures.longest in
    c.loop-at.invariant.told
    ∙ ap (after c.loop-at.tokens.items) (no_token_step c.args.line.now c.loop-at.at c.loop-at-test.true (sym c.if-is_blank.ensures) none)
    ∙ after_err c.loop-at.tokens.items c.loop-at.at

pub loop-at-preserved : goal.loop-at-preserved
loop-at-preserved c =
    let found : longest (drop c.loop-at.at c.args.line.now) ≡ Some (c.in-Some.kind, c.in-Some.len) = ap longest (sym c.split_at.ensures.back) ∙ sym c.in-Some.ensures.longest in
    record {
      told = c.loop-at.invariant.told
          ∙ ap (after c.loop-at.tokens.items) (token_step c.args.line.now c.loop-at.at c.in-Some.len c.in-Some.kind c.loop-at-test.true (sym c.if-is_blank.ensures) found c.in-Some.ensures.fits.0)
          ∙ sym (after_one c.loop-at.tokens.items _ _)
          ∙ ap (λ (ts : List Token). after ts (tokens_from 0 (c.loop-at.at + c.in-Some.len) (drop (c.loop-at.at + c.in-Some.len) c.args.line.now))) (sym c.push.ensures.items);
      room = omega (arith, ap length c.push.ensures.items, c.push.ensures.len, c.in-Some.ensures.fits.0, c.loop-at.invariant.room);
      inside = omega (arith, c.in-Some.ensures.fits.1, c.split_at.ensures.back_len);
    }

pub returns-clause-tokens : goal.returns-clause-tokens
returns-clause-tokens c =
    let past : length c.args.line.now ≤ c.loop-at.at = c.loop-at-test.false in
    c.loop-at.invariant.told
    ∙ ap (λ (bs : List ℕ). after c.loop-at.tokens.items (tokens_from 0 c.loop-at.at bs)) (drop_all c.loop-at.at c.args.line.now past)
    ∙ after_end c.loop-at.tokens.items

pub returns-clause-stand : goal.returns-clause-stand
returns-clause-stand c = tokens_stand c.args.line.now c.loop-at.tokens.items (returns-clause-tokens c)
