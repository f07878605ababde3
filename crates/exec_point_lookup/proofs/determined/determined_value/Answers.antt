use Rattle.std.proofs.Common.{◌≡◌, ◌∙◌, arith, sym, rules, w64, to_z, of_z}
use Rattle.std.proofs.lemmas.Int.{to_z-of_z}
use Rattle.sem_query.specs.Meaning.{by_column}
use Rattle.exec_point_lookup.proofs.ByLink.{by_link}
use Rattle.exec_point_lookup.proofs.determined.determined_value.Goals as goal

pub returns-in-Some : goal.returns-in-Some
returns-in-Some c = λ v m.
    let told : v c.args.a ≡ by_column c.args.row.now c.in-Some.b.column
    = by_link c.args.part.now c.args.pos c.args.row.now c.args.a c.in-Some.b c.as_slice-link-items.result.now c.links.link-index _ c.as_slice-link-items.ensures.value (omega arith) c.in-Some.ensures.place c.in-Some.ensures.equal v m in
    let whole : to_z w64 (of_z w64 c.value_at-in-Some.result) ≡ c.value_at-in-Some.result = to_z-of_z w64 c.value_at-in-Some.result (search rules) in
    told ∙ sym c.value_at-in-Some.ensures ∙ sym whole
