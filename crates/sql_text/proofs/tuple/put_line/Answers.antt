use Rattle.std.proofs.Common.{◌++◌, ◌∷◌, [], ap, sym, ◌∙◌, append_assoc}
use Rattle.sql_text.specs.Tuple.{tuple_text}
use Rattle.sql_text.proofs.tuple.put_line.Goals as goal

pub returns-clause-text : goal.returns-clause-text
returns-clause-text c =
    c.put_name_before.ensures.text
    ∙ ap (λ l. c.args.name.now ++ l) c.put_values-end.ensures.text
    ∙ sym (append_assoc c.args.name.now (tuple_text c.args.values.now) (10 ∷ []))
