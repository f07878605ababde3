use Rattle.sem_query.specs.Parts.{pairs}
use Rattle.sem_query.specs.declared.part.Pair.{Pair}
use Rattle.exec_synopsis.specs.Preparing.{class_of}
use Rattle.std.proofs.Common.{List, ◌≡◌, ◌∙◌, ◌==◌, rules, arith, sym, ap, false, Some, slice_get, FitsSigned, w64, if◌then◌else◌}
use Rattle.std.proofs.lemmas.Bool.Decides.{nat_tests}
use Rattle.std.proofs.lemmas.Int.{to_z-of_z}
use Rattle.std.proofs.lemmas.Option.{slice_get-get_or}
use Rattle.exec_ranges.specs.declared.binding.Binding.{Binding}
use Rattle.sem_query.specs.Meaning.{by_column}
use Rattle.sem_query.specs.Plan.{dims_at}
use Rattle.exec_ranges.specs.Values.{value_or, chosen_value, value_in}
use Rattle.exec_ranges.proofs.ValueLaws.{valued_at}
use Rattle.exec_ranges.proofs.values.value_in.Goals as goal

pub returns : goal.returns
unfolding value_in
returns c =
    let at = c.args.at.now in
    let fits : FitsSigned w64 c.value_or.result = search rules in
    let own : FitsSigned w64 c.extreme_of.result = search rules in
    let given = simp to_z-of_z at c.value_or.ensures in
    let other : (c.args.a.stream == at.arriving) ≡ false = (let n = c.if-a-at.false in grind (arith, nat_tests, n)) in
    let got = c.in-Some.ensures.lookup.3 in
    let there : slice_get c.args.known.now c.args.a.stream ≡ Some c.in-Some.chosen.now
    = ap (slice_get c.args.known.now) (sym c.from.ensures) ∙ slice_get-get_or c.args.known.now c.from.result c.in-Some.chosen.now got.0 ∙ ap (λ (b : Binding). Some b) (sym (got.1 c.in-Some.chosen.now)) in
    let place = c.class_of-place.ensures ∙ ap (λ (ps : List Pair). class_of ps at.part.now c.args.a) (c.as_slice-2.ensures.value ∙ c.pairs.ensures) in
    let told =
    given
    ∙ (λ k. value_or (c.as_slice-3.ensures.value k) (c.extreme_of.ensures k) (place k))
    ∙ sym (valued_at (pairs at.q.now) at.part.now _ c.args.a (dims_at at.part.now c.args.a.stream) _) in
    rw to_z-of_z (
    told
    ∙ sym (ap (chosen_value (pairs at.q.now) at.part.now c.args.a) there)
    ∙ sym (ap (λ b. if b then by_column at.row.now.items c.args.a.column else chosen_value (pairs at.q.now) at.part.now c.args.a (slice_get c.args.known.now c.args.a.stream)) other)
    )
