use Rattle.std.proofs.Common.{◌∙◌, ◌++◌, ap, sym, append_assoc}
use Rattle.sql_printer.specs.PrintedParts.{operand_text, op_text}
use Rattle.sql_printer.proofs.WritesBehind.{writes_then, writes_stop}
use Rattle.sql_printer.proofs.printing.put_atom.Goals as goal

pub returns-in-Ok : goal.returns-in-Ok
returns-in-Ok g c = writes_then c.put_operand-in-Ok.result _ _ _ _ _ _ (ap (λ o. c.args.lead.now ++ (operand_text c.args.atom.now.left ++ (o ++ operand_text c.args.atom.now.right))) (sym c.op_text.ensures) ∙ sym (append_assoc c.args.lead.now (operand_text c.args.atom.now.left) (c.op_text.result.now ++ operand_text c.args.atom.now.right))) c.in-Ok.ensures c.put_operand-in-Ok.ensures

pub returns-in-Err : goal.returns-in-Err
returns-in-Err g c = writes_stop _ _ _ _ _ (sym (append_assoc c.args.lead.now (operand_text c.args.atom.now.left) (op_text c.args.atom.now.op ++ operand_text c.args.atom.now.right))) c.in-Err.ensures
