use Rattle.std.proofs.Common.{refl}
use Rattle.sql_parser.specs.Outlines.{whole_of}
use Rattle.cmd_session.specs.Request.{refused}
use Rattle.cmd_session.specs.Requests.{stated, statement_request}
use Rattle.cmd_session.specs.ResumeLines.{statement_in}
use Rattle.cmd_session.proofs.Refused.{refusal_request}
use Rattle.cmd_session.proofs.session.Session.answer_text.Goals as goal

pub returns-in-Some-clause-reply : goal.returns-in-Some-clause-reply
returns-in-Some-clause-reply g c = λ s stands. record {
  request = statement_request s (statement_in c.in-Some.line);
  asks = stated (statement_in c.in-Some.line) c.in-Some.ensures.is c.in-Some.ensures.within refl;
  does = c.resume.ensures.reply s stands;
}

pub returns-in-Plain-clause-reply : goal.returns-in-Plain-clause-reply
returns-in-Plain-clause-reply g c = λ s stands. record {
  request = statement_request s (whole_of c.in-Plain.statement);
  asks = stated (whole_of c.in-Plain.statement) c.in-Plain.ensures.0 c.in-Plain.ensures.1 refl;
  does = c.answer_plain.ensures.reply s stands;
}

pub returns-in-Refused-clause-reply : goal.returns-in-Refused-clause-reply
returns-in-Refused-clause-reply g c = λ s stands. record {
  request = refused c.parse_refusal.result;
  asks = rw c.parse_refusal.ensures (refusal_request s _ _ c.in-Refused.ensures);
  does = c.refuse.ensures s stands;
}
