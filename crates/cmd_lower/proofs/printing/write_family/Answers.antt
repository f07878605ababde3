use Rattle.std.proofs.Common.{◌∙◌, List, ℕ, ap, sym, subst, arith}
use Rattle.sql_parser.specs.Resolution.{IsColumnOf, column_named}
use Rattle.sql_script.specs.Script.{name_of}
use Rattle.cmd_lower.proofs.Written.{shown-family, shown-column, shown-taken, family-written, family-stopped}
use Rattle.cmd_lower.proofs.printing.write_family.Goals as goal

pub column_named-column-requires-clause-column : goal.column_named-column-requires-clause-column
column_named-column-requires-clause-column g c =
    subst (λ (f : List ℕ). IsColumnOf c.args.script.now.catalog f c.args.attr) (sym c.from.ensures.value)
    (shown-column c.args.script.now.catalog c.args.script.now.query c.requires.shown.0 c.args.n c.args.part c.args.condition c.args.attr c.args.family.now c.requires.named c.requires.shown.1)

pub write_behind-requires-clause-taken : goal.write_behind-requires-clause-taken
write_behind-requires-clause-taken g c = shown-taken c.args.script.now.catalog c.args.script.now.query c.requires.shown.0 c.args.n c.args.part c.args.condition c.args.attr c.args.family.now c.requires.shown.1

pub write_behind-requires-clause-many : goal.write_behind-requires-clause-many
write_behind-requires-clause-many g c = let is = shown-family c.args.script.now.catalog c.args.script.now.query c.requires.shown.0 c.args.n c.args.part c.args.condition c.args.attr c.args.family.now c.requires.shown.1 in is.many ∙ sym is.size

pub write_behind-requires-clause-few : goal.write_behind-requires-clause-few
write_behind-requires-clause-few g c = (let e = (shown-family c.args.script.now.catalog c.args.script.now.query c.requires.shown.0 c.args.n c.args.part c.args.condition c.args.attr c.args.family.now c.requires.shown.1).size in let l = c.ranges.n.fits in omega (arith, e, l))

pub returns-in-Ok : goal.returns-in-Ok
returns-in-Ok g c =
    family-written c.args.script.now.catalog c.args.script.now.query (name_of c.args.script.now.statement) c.name_of-name.result.now c.args.n c.args.part c.args.condition c.args.attr
    c.column_named-column.result c.args.family.now c.name_of-name.ensures
    (c.column_named-column.ensures ∙ ap (λ (f : List ℕ). column_named c.args.script.now.catalog f c.args.attr) c.from.ensures.value)
    (shown-family c.args.script.now.catalog c.args.script.now.query c.requires.shown.0 c.args.n c.args.part c.args.condition c.args.attr c.args.family.now c.requires.shown.1).size c.write_behind.result _ _ _ c.in-Ok.ensures c.write_behind.ensures

pub returns-in-Err : goal.returns-in-Err
returns-in-Err g c =
    family-stopped c.args.script.now.catalog c.args.script.now.query (name_of c.args.script.now.statement) c.name_of-name.result.now c.args.n c.args.part c.args.condition c.args.attr
    c.column_named-column.result c.args.family.now c.name_of-name.ensures
    (c.column_named-column.ensures ∙ ap (λ (f : List ℕ). column_named c.args.script.now.catalog f c.args.attr) c.from.ensures.value)
    (shown-family c.args.script.now.catalog c.args.script.now.query c.requires.shown.0 c.args.n c.args.part c.args.condition c.args.attr c.args.family.now c.requires.shown.1).size _ _ c.in-Err.ensures
