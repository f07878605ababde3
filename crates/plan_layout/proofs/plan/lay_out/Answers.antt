use Rattle.std.proofs.Common.{◌≡◌, ◌≤◌, Bool, true, false, length, subst, sym, arith, List}
use Rattle.sem_query.specs.declared.part.Sign.{Sign}
use Rattle.sem_query.specs.Query.{is_filter}
use Rattle.sem_query.specs.Parts.{AreParts, sign_lists}
use Rattle.plan_layout.specs.Boxed.{boxed}
use Rattle.plan_layout.specs.Shared.{shared}
use Rattle.plan_layout.specs.Layout.{IsLayout}
use Rattle.plan_layout.proofs.Planning.{plain_whole, shared_whole, layout_told, not_drafted, few_drafts}
use Rattle.plan_layout.proofs.plan.lay_out.Goals as goal

pub returns-in-Ok-with_shared : goal.returns-in-Ok-with_shared
returns-in-Ok-with_shared c =
    let f : is_filter c.args.q.now ≡ false = cc (c.is_filter.ensures, c.if-is_filter.false) in
    let l : length c.in-Ok.draft.parts.items ≤ 4096 = few_drafts c.args.parts.now c.in-Ok.draft.parts.items c.requires.few c.in-Ok.ensures.1 in
    let m = c.in-Ok-with_shared.ensures.parts.size in
    subst (λ (b : Bool). IsLayout b c.args.q.now c.planned.result) (sym c.if-shared.true)
    (layout_told true c.args.q.now c.in-Ok-with_shared.draft (shared c.args.q.now (boxed c.args.q.now 0 c.in-Ok.draft.parts.items))
    (shared_whole c.args.q.now c.in-Ok.draft c.in-Ok.ensures.0 (subst (λ (z : List (List Sign)). AreParts c.args.q.now z) (sym c.in-Ok.ensures.1) c.requires.parts) c.in-Ok-with_shared.draft
    c.in-Ok-with_shared.ensures)
    f c.in-Ok.ensures.2 (omega (arith, l, m)) c.planned.result c.planned.ensures)

pub returns-in-Ok-2 : goal.returns-in-Ok-2
returns-in-Ok-2 c =
    let f : is_filter c.args.q.now ≡ false = cc (c.is_filter.ensures, c.if-is_filter.false) in
    subst (λ (b : Bool). IsLayout b c.args.q.now c.planned-in-Ok-2.result) (sym c.if-shared.false)
    (layout_told false c.args.q.now c.in-Ok.draft (boxed c.args.q.now 0 c.in-Ok.draft.parts.items)
    (plain_whole c.args.q.now c.in-Ok.draft c.in-Ok.ensures.0 (subst (λ (z : List (List Sign)). AreParts c.args.q.now z) (sym c.in-Ok.ensures.1) c.requires.parts))
    f c.in-Ok.ensures.2 (few_drafts c.args.parts.now c.in-Ok.draft.parts.items c.requires.few c.in-Ok.ensures.1) c.planned-in-Ok-2.result c.planned-in-Ok-2.ensures)

pub returns-in-Err : goal.returns-in-Err
returns-in-Err c =
    let f : is_filter c.args.q.now ≡ false = cc (c.is_filter.ensures, c.if-is_filter.false) in
    not_drafted c.args.shared c.args.q.now (sign_lists c.args.parts.now) c.in-Err.why f c.in-Err.ensures
