use Rattle.std.proofs.Common.{[], ◌∷◌, ap, sym, ◌∙◌, refl, lit<}
use Rattle.std.proofs.lemmas.Fmt.{decimal-digits_value}
use Rattle.sql_text.proofs.ParsedValue.{own}
use Rattle.sql_printer.specs.Printed.{text_for}
use Rattle.sql_parser.specs.Syntax.{lexeme_as}
use Rattle.sql_printer.proofs.shortening.kind_text.Goals as goal

pub returns-in-Integer-clause-text : goal.returns-in-Integer-clause-text
returns-in-Integer-clause-text c = sym (ap (λ k. text_for (lexeme_as k [])) c.in-Integer.is ∙ decimal-digits_value own (48 ∷ []) refl (lit< tt) (λ e. refl) (lit< tt))
