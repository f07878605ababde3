use Rattle.std.proofs.Common.{◌≡◌, ◌∙◌, ◌<◌, length, get_or, Some, sym, ap, subst, arith}
use Rattle.std.proofs.lemmas.List.{get_or_default}
use Rattle.std.proofs.lemmas.Option.{slice_get-get_or}
use Rattle.sem_query.specs.declared.plan.PartPlan.{PartPlan}
use Rattle.exec_part_index.proofs.Shifting.{next_shifted}
use Rattle.exec_part_index.proofs.part_index.PartIndex.shift_at.Goals as goal

pub shift_between-requires : goal.shift_between-requires
shift_between-requires c =
    let n = c.index-next.result.now in
    let inside = c.requires.inside in
    let many = c.requires.links in
    let is : n ≡ get_or c.args.self.now.links.items c.args.i 0 = c.index-next.ensures ∙ sym (get_or_default c.args.self.now.links.items c.args.i 0 n (omega (arith, inside, many))) in
    let has = c.has_next_alike.ensures c.if-not-has_next_alike.false in
    c.prepared_of-prepared.ensures c.get-2.result.now
    (slice_get-get_or c.args.parts.now n c.get-2.result.now (subst (λ m. m < length c.args.parts.now) (sym is) has.within) ∙ ap (λ (p : PartPlan). Some p) (sym (c.get-2.ensures c.get-2.result.now)))

pub returns : goal.returns
returns c =
    let n = c.index-next.result.now in
    let inside = c.requires.inside in
    let many = c.requires.links in
    let is : n ≡ get_or c.args.self.now.links.items c.args.i 0 = c.index-next.ensures ∙ sym (get_or_default c.args.self.now.links.items c.args.i 0 n (omega (arith, inside, many))) in
    let has = c.has_next_alike.ensures c.if-not-has_next_alike.false in
    next_shifted c.args.parts.now c.args.place c.args.self.now.codes.items c.args.self.now.links.items c.args.self.now.spans.items c.args.i c.get.result.now c.get-2.result.now c.shift_between.result
    has (c.get.ensures c.get.result.now) (subst (λ m. c.get-2.result.now ≡ get_or c.args.parts.now m c.get-2.result.now) is (c.get-2.ensures c.get-2.result.now)) c.shift_between.ensures
