use Rattle.std.proofs.Common.{◌≡◌, ◌∙◌, rules, sym, ap, FitsSigned, w64}
use Rattle.std.proofs.lemmas.Int.{to_z-of_z}
use Rattle.sem_query.specs.declared.atom.Attr.{Attr}
use Rattle.sem_query.specs.Parts.{pairs}
use Rattle.sem_query.specs.Plan.{dims_at}
use Rattle.exec_synopsis.specs.Preparing.{class_of}
use Rattle.exec_ranges.specs.Values.{extreme_of, value_or}
use Rattle.exec_ranges.proofs.ValueLaws.{valued_at}
use Rattle.exec_saturation.proofs.Columns.{looked-up}
use Rattle.exec_saturation.proofs.cell_row.column_value.Goals as goal

pub returns : goal.returns
returns c =
    let fits : FitsSigned w64 c.value_or.result = search rules in
    let own : FitsSigned w64 c.extreme_of.result = search rules in
    let given = simp to_z-of_z at c.value_or.ensures in
    let a : Attr = record { stream = c.args.pos; column = c.args.column } in
    let class : c.class_of-class.result ≡ class_of (pairs c.args.q.now) c.args.part.now a
    = c.class_of-class.ensures ∙ ap (λ ps. class_of ps c.args.part.now a) (c.as_slice.ensures.value ∙ c.pairs.ensures) in
    rw to_z-of_z (
    given
    ∙ (λ k. value_or c.args.values.now (c.extreme_of.ensures k) (class k))
    ∙ sym (valued_at (pairs c.args.q.now) c.args.part.now (extreme_of c.args.held) a (dims_at c.args.part.now c.args.pos) c.args.values.now)
    ∙ looked-up c.args.q.now c.args.part.now (dims_at c.args.part.now c.args.pos) c.args.values.now (extreme_of c.args.held) a
    )
