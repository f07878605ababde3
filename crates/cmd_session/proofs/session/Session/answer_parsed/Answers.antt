use Rattle.std.proofs.Common.{refl}
use Rattle.sql_printer.proofs.RoundTrip.{create_lines_fit}
use Rattle.cmd_session.specs.Request.{refused}
use Rattle.cmd_session.specs.Requests.{stated, statement_request}
use Rattle.cmd_session.proofs.Refused.{refusal_request}
use Rattle.cmd_session.proofs.session.Session.answer_parsed.Goals as goal

pub returns-in-Err-clause-reply : goal.returns-in-Err-clause-reply
returns-in-Err-clause-reply g c = λ s stands. record {
  request = refused c.parse_refusal.result;
  asks = rw c.parse_refusal.ensures (refusal_request s _ _ c.in-Err.ensures);
  does = c.refuse.ensures s stands;
}

pub returns-in-Ok-clause-reply : goal.returns-in-Ok-clause-reply
returns-in-Ok-clause-reply g c = λ s stands. record {
  request = statement_request s c.in-Ok.statement;
  asks = stated c.in-Ok.statement c.in-Ok.ensures.0 c.in-Ok.ensures.1 refl;
  does = c.answer_statement.ensures.reply s stands;
}

pub answer_statement-requires-clause-short : goal.answer_statement-requires-clause-short
answer_statement-requires-clause-short g c = create_lines_fit c.args.text.now c.in-Ok.statement c.in-Ok.ensures.0 c.in-Ok.ensures.1 c.requires
