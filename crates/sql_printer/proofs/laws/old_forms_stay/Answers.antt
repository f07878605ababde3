use Rattle.sql_printer.proofs.OldForms as forms
use Rattle.sql_printer.proofs.laws.old_forms_stay.Goals as goal

pub returns : goal.returns
returns c = forms.old_forms_stay
