use Rattle.std.proofs.Common.{◌≡◌, ◌∙◌, get_or, Some, sym, ap, subst, arith}
use Rattle.std.proofs.lemmas.Option.{slice_get-get_or}
use Rattle.exec_part_index.specs.declared.part_index.PartIndex.{PartIndex}
use Rattle.exec_part_index.proofs.prepared.PreparedPlan.part_index.Goals as goal

pub returns : goal.returns
returns c =
    let all = c.args.self.now.part_index.items in
    let x = c.index.result.now in
    let many = c.requires.prepared.many in
    let here = c.requires.here in
    let is : x ≡ get_or all c.args.pos x = subst (λ n. x ≡ get_or all n x) c.from.ensures c.index.ensures in
    c.requires.prepared.part_index c.args.pos x (slice_get-get_or all c.args.pos x (omega (arith, many, here)) ∙ ap (λ (y : PartIndex). Some y) (sym is))
