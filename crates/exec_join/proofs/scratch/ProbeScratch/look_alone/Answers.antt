use Rattle.sem_query.specs.Parts.{pairs}
use Rattle.std.proofs.Common.{◌≡◌, ◌∙◌, ◌∷◌, [], List, map, sym, ap}
use Rattle.sem_query.specs.declared.atom.Attr.{Attr}
use Rattle.exec_ranges.specs.declared.binding.Binding.{Binding}
use Rattle.exec_join.specs.Choosing.{setting, both, meets, tuple, tuple_of}
use Rattle.exec_join.specs.Remaining.{as_found}
use Rattle.exec_join.proofs.AloneLaws.{refused, answered}
use Rattle.exec_join.proofs.scratch.ProbeScratch.look_alone.Goals as goal

pub returns-then-not-meets_links-clause-found : goal.returns-then-not-meets_links-clause-found
returns-then-not-meets_links-clause-found c read =
    let at = c.args.at.now in
    let w = setting (pairs at.q.now) at.q.now.select at.part.now at.arriving at.row.now.items read in
    let known : List Binding = both at.arriving (map (λ d. d.lo) c.args.self.now.dims.items) c.args.cell in
    let same : known ≡ c.as_slice-known.result.now = sym (c.as_slice-known.ensures.value ∙ c.take_both.ensures) in
    refused w known (ap (meets w) same ∙ sym c.meets_links.ensures ∙ c.if-not-meets_links.true)

pub returns-clause-found : goal.returns-clause-found
returns-clause-found c read =
    let at = c.args.at.now in
    let w = setting (pairs at.q.now) at.q.now.select at.part.now at.arriving at.row.now.items read in
    let values = map (λ d. d.lo) c.args.self.now.dims.items in
    let known : List Binding = both at.arriving values c.args.cell in
    let same : known ≡ c.as_slice-known.result.now = sym (c.as_slice-known.ensures.value ∙ c.take_both.ensures) in
    let told : tuple w known ≡ c.tuple_of.new.tuple.items
    = ap (tuple w) same ∙ ap (λ (select : List Attr). tuple_of (pairs at.q.now) select at.part.now at.arriving at.row.now.items c.as_slice-known.result.now) (sym c.select.ensures.value) ∙ sym c.tuple_of.ensures in
    answered w at.arriving values c.args.cell (ap (meets w) same ∙ sym c.meets_links.ensures ∙ c.if-not-meets_links.false)
    ∙ (λ i. as_found (told i) (sym c.rows_in.ensures i) ∷ [])
