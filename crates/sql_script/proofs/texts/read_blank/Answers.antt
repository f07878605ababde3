use Rattle.std.proofs.Common.{sym, subst}
use Rattle.sql_script.specs.Ends.{ReadsBlank}
use Rattle.sql_script.proofs.Behind.{behind}
use Rattle.sql_script.proofs.texts.read_blank.Goals as goal

pub returns-clause-blank : goal.returns-clause-blank
returns-clause-blank g c = λ source front given lines.
    let now = g.I.Source.seen c.next_text-answer.new.input in
    let reader = c.next_text-answer.new.reader in
    subst (λ r. ReadsBlank r source now given reader) (sym c.blank_end.ensures)
    (behind c.next_text-answer.result source now given reader (c.next_text-answer.ensures.gives source front given lines))
