use Rattle.std.proofs.Common.{length, ap, sym, subst, ◌∙◌, arith}
use Rattle.io_row_reader.proofs.FieldsAhead.{fields_begin}
use Rattle.io_row_reader.proofs.PairsAhead.{ReadsNext, is_pair, next_last, next_more, no_pair, one_read, two_read}
use Rattle.io_row_reader.proofs.row_ahead.read_fields_at.Goals as goal
use Rattle.io_row_reader.proofs.row_ahead.read_fields_at.Goals.{then-len-width, else-len-width, in-Some, in_default+in-Some-short_amount_at}

pub fields-init : goal.fields-init
fields-init c = record {
  front = fields_begin c.args.text.now c.args.start c.args.row.now.items (omega (arith, c.requires.room)) c.requires.empty;
  lacks = omega (arith, c.requires.some, ap length c.requires.empty);
  near = omega arith;
}

pub returns-then-len-width-2 : goal.returns-then-len-width-2
returns-then-len-width-2 c =
    let i = c.fields.invariant in
    let text = c.args.text.now in
    let old = c.fields.row.items in
    let new = c.match-pair.row.items in
    let next : ReadsNext text c.fields.place c.match-pair.end c.args.width old new = elim c.match-pair.branch [
      | in-Some w ↦ elim c.if-len-width.branch [
        | then-len-width v ↦
            let are = is_pair text c.fields.place v.pair_at-pair.result w.in-Some.pair v.pair_at-pair.ensures (sym v.pair-is ∙ w.in-Some.is) in
            subst (λ n. ReadsNext text c.fields.place n c.args.width old new) (sym w.end-is)
            (two_read text c.fields.place c.args.width w.in-Some.pair.comma w.in-Some.pair.len _ _ old w.push.new.self.items new are (omega (arith, v.if-len-width.true, c.len.ensures.value)) w.push.ensures.items
            (ap (λ r. r.items) w.row-is ∙ w.push-in-Some.ensures.items))
        | else-len-width v ↦ absurd (no_pair w.in-Some.pair (sym v.pair-is ∙ w.in-Some.is))
      ]
      | in_default+in-Some-short_amount_at w ↦
          let d = w.in-Some-short_amount_at in
          subst (λ n. ReadsNext text c.fields.place n c.args.width old new) (sym w.end-is)
          (one_read text c.fields.place c.args.width d.digits d.amount old new d.ensures.digits d.ensures.some d.ensures.few d.ensures.within d.ensures.amount d.ensures.small i.lacks (ap (λ r. r.items) w.row-is ∙ w.push-in-Some-short_amount_at.ensures.items))
    ] in (
      next_last text c.args.start c.fields.place c.match-pair.end old new c.requires.ended i.front next.adds,
      omega (arith, c.len-in-fields.ensures.value, c.if-len-width-2.true),
      omega (arith, c.requires.room, i.near, next.near, c.len-in-fields.ensures.value, c.if-len-width-2.true),
    )

pub fields-preserved : goal.fields-preserved
fields-preserved c =
    let i = c.fields.invariant in
    let text = c.args.text.now in
    let old = c.fields.row.items in
    let new = c.match-pair.row.items in
    let next : ReadsNext text c.fields.place c.match-pair.end c.args.width old new = elim c.match-pair.branch [
      | in-Some w ↦ elim c.if-len-width.branch [
        | then-len-width v ↦
            let are = is_pair text c.fields.place v.pair_at-pair.result w.in-Some.pair v.pair_at-pair.ensures (sym v.pair-is ∙ w.in-Some.is) in
            subst (λ n. ReadsNext text c.fields.place n c.args.width old new) (sym w.end-is)
            (two_read text c.fields.place c.args.width w.in-Some.pair.comma w.in-Some.pair.len _ _ old w.push.new.self.items new are (omega (arith, v.if-len-width.true, c.len.ensures.value)) w.push.ensures.items
            (ap (λ r. r.items) w.row-is ∙ w.push-in-Some.ensures.items))
        | else-len-width v ↦ absurd (no_pair w.in-Some.pair (sym v.pair-is ∙ w.in-Some.is))
      ]
      | in_default+in-Some-short_amount_at w ↦
          let d = w.in-Some-short_amount_at in
          subst (λ n. ReadsNext text c.fields.place n c.args.width old new) (sym w.end-is)
          (one_read text c.fields.place c.args.width d.digits d.amount old new d.ensures.digits d.ensures.some d.ensures.few d.ensures.within d.ensures.amount d.ensures.small i.lacks (ap (λ r. r.items) w.row-is ∙ w.push-in-Some-short_amount_at.ensures.items))
    ] in
    record {
      front = next_more text c.args.start c.fields.place c.match-pair.end old new c.requires.ended i.front next.adds c.if-text-end-ne44.false;
      lacks = omega (arith, next.few, c.len-in-fields.ensures.value, c.if-len-width-2.false);
      near = omega (arith, i.near, next.near);
    }
