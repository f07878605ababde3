use Rattle.std.proofs.Common.{◌∙◌, ◌++◌, ap, sym, codes}
use Rattle.sql_printer.specs.PrintedParts.{names_text, atoms_text}
use Rattle.sql_printer.proofs.WritesBehind.{writes_then, writes_stop}
use Rattle.sql_printer.proofs.printing.put_streams.Goals as goal

pub returns-in-Ok : goal.returns-in-Ok
returns-in-Ok g c = writes_then c.put_atoms.result _ _ _ _ _ _ (ap (λ ns. names_text (codes " ") ns ++ atoms_text c.args.select.now.atoms.items) (sym c.as_slice.ensures.value) ∙ ap (λ ts. names_text (codes " ") c.as_slice.result.now ++ atoms_text ts) (sym c.as_slice-in-Ok.ensures.value)) c.in-Ok.ensures c.put_atoms.ensures

pub returns-in-Err : goal.returns-in-Err
returns-in-Err g c = writes_stop _ _ _ _ _ (ap (λ ns. names_text (codes " ") ns ++ atoms_text c.args.select.now.atoms.items) (sym c.as_slice.ensures.value)) c.in-Err.ensures
