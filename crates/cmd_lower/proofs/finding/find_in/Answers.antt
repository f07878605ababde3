use Rattle.std.proofs.Common.{◌∙◌, Result, subst, sym}
use Rattle.sql_script.specs.declared.end.ScriptEnd.{ScriptEnd}
use Rattle.cmd_lower.specs.declared.finding.LowerFinding.{LowerFinding}
use Rattle.cmd_lower.specs.Found.{FindsFor}
use Rattle.cmd_lower.proofs.Found.{left-out-plain, plainly-shown, bounded-found, second-left, third-left, few-parts}
use Rattle.cmd_lower.proofs.finding.find_in.Goals as goal

pub returns-then-is_left_out : goal.returns-then-is_left_out
returns-then-is_left_out c =
    left-out-plain c.args.script.now c.args.form c.decide-decision.result c.decide-decision.ensures (sym c.is_left_out.ensures ∙ c.if-is_left_out.true) c.requires.plain
    (few-parts c.args.script.now.query c.args.parts.now c.requires.plain c.requires.parts c.requires.few)

pub find_decided-requires-clause-few : goal.find_decided-requires-clause-few
find_decided-requires-clause-few c = few-parts c.args.script.now.query c.args.parts.now c.requires.plain c.requires.parts c.requires.few

pub find_decided-requires-clause-reason : goal.find_decided-requires-clause-reason
find_decided-requires-clause-reason c =
    second-left c.args.script.now c.args.form c.decide-decision.result c.decide-decision.ensures (rw c.in-Err-C2.field-0-is at c.in-Err-C2.ensures) c.requires.plain

pub find_decided-requires-in-Err-C3-clause-few : goal.find_decided-requires-in-Err-C3-clause-few
find_decided-requires-in-Err-C3-clause-few c = few-parts c.args.script.now.query c.args.parts.now c.requires.plain c.requires.parts c.requires.few

pub find_decided-requires-in-Err-C3-clause-reason : goal.find_decided-requires-in-Err-C3-clause-reason
find_decided-requires-in-Err-C3-clause-reason c =
    third-left c.args.script.now c.args.form c.decide-decision.result c.decide-decision.ensures (rw c.in-Err-C3.field-0-is at c.in-Err-C3.ensures) c.requires.plain

pub returns-in-Ok : goal.returns-in-Ok
returns-in-Ok c =
    subst (λ (r : Result LowerFinding ScriptEnd). FindsFor r c.args.script.now c.args.form) (sym c.finding_of.ensures)
    (plainly-shown c.args.script.now c.args.form c.decide-decision.result c.in-Ok.rows c.decide-decision.ensures (sym c.is_left_out.ensures ∙ c.if-is_left_out.false) c.in-Ok.ensures
    c.requires.plain (few-parts c.args.script.now.query c.args.parts.now c.requires.plain c.requires.parts c.requires.few))

pub returns-in-Err-Bounded : goal.returns-in-Err-Bounded
returns-in-Err-Bounded c =
    bounded-found c.args.script.now c.args.form c.decide-decision.result c.decide-decision.ensures (rw c.in-Err-Bounded.field-0-is at c.in-Err-Bounded.ensures) c.requires.plain
    (few-parts c.args.script.now.query c.args.parts.now c.requires.plain c.requires.parts c.requires.few)
