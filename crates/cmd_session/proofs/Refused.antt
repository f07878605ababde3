-- Texts that are no statement within the limits.
use Rattle.std.proofs.Common.{ℕ, List, refl}
use Rattle.sql_parser.specs.declared.parsing.ParseError.{ParseError}
use Rattle.sql_parser.specs.declared.parsing.ParseError.TheVariants as parse_errors
use Rattle.sql_parser.specs.Refusal.{IsRefusal}
use Rattle.sql_printer.proofs.RoundTrip.{faults_are_none}
use Rattle.cmd_session.specs.Request.{refused}
use Rattle.cmd_session.specs.Requests.{IsStatementRequest, outside, limited}
use Rattle.cmd_session.specs.State.{State}
use Rattle.sql_replies.specs.Words.{parse_refusal}

pub refusal_request : (s : State) (text : List ℕ) (error : ParseError) → IsRefusal text error → IsStatementRequest s text (refused (parse_refusal error))
refusal_request s text (parse_errors.Syntax at) fault = outside (λ t is. faults_are_none text at t fault is) refl
refusal_request s text (parse_errors.Limit what) passed = limited passed.0 what passed.1 passed.2 refl
