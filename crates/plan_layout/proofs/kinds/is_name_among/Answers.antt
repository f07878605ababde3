use Rattle.std.proofs.Common.{◌∙◌, ap}
use Rattle.std.specs.List.{list_any}
use Rattle.sem_query.specs.declared.atom.Attr.{Attr}
use Rattle.sem_query.specs.Query.{attr_eq}
use Rattle.plan_layout.specs.ColumnPlaces.{attr_at}
use Rattle.plan_layout.proofs.Tested.{and_told}
use Rattle.plan_layout.proofs.Referring.{among_told}
use Rattle.plan_layout.proofs.kinds.is_name_among.Goals as goal

pub returns-then-names_of : goal.returns-then-names_of
returns-then-names_of c =
    let w = among_told c.args.columns.now (attr_at c.args.q.now c.args.i) c.is_among.result (c.is_among.ensures ∙ ap (λ (z : Attr). list_any (λ b. attr_eq b z) c.args.columns.now) c.attr_at.ensures) in
    and_told c.names_of.result c.is_among.result c.names_of.ensures.0 c.if-names_of.true w.0 w.1
