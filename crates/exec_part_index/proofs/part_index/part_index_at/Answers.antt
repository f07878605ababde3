use Rattle.std.proofs.Common.{◌≡◌, ◌∙◌, rules, ap, subst}
use Rattle.exec_part_index.specs.PartIndex.{AreLinked}
use Rattle.exec_part_index.proofs.Coded.{coded, many_codes, have_codes, ask_only, spans_within}
use Rattle.exec_part_index.proofs.Linked.{masked}
use Rattle.exec_part_index.proofs.part_index.part_index_at.Goals as goal

pub returns : goal.returns
returns c =
    let t = c.in_ok-tested.tested in
    let r = c.in_ok-remaining.remaining in
    let shown = c.in_ok-tested.ensures.shown in
    let codes = c.in_ok-codes.codes.items in
    let are : codes ≡ coded t.signs.items = c.in_ok-codes.ensures.codes ∙ ap coded c.as_slice.ensures.value in
    record {
      many = many_codes c.args.q.now c.args.parts.now c.args.place t shown codes are;
      codes = have_codes c.args.q.now c.args.parts.now c.args.place t shown codes are;
      within = spans_within _ r.spans.items c.in_ok-remaining.ensures.within;
      asks = ask_only c.args.q.now c.args.parts.now c.args.place t shown codes are r c.in_ok-remaining.ensures;
      joined = subst (λ xs. AreLinked (masked xs c.mask_for-mask.result) c.mask_for-mask.result 0 c.in_ok-heads.field-0.heads.items c.in_ok-heads.field-0.links.items) c.as_slice-3.ensures.value c.in_ok-heads.ensures;
      owners = c.in_ok-owns.ensures;
      each = search rules;
      entries = search rules;
    }
