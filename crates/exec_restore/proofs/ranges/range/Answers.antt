use Rattle.std.proofs.Common.{◌≡◌, pos, List, Some, None, slice_get, sym, ◌∙◌, ap}
use Rattle.std.specs.Option.{unwrap_or}
use Rattle.sem_query.specs.declared.part.Pair.{Pair}
use Rattle.sem_query.specs.declared.plan.Dim.{Dim}
use Rattle.sem_query.specs.Parts.{pairs}
use Rattle.sem_query.specs.Plan.{dims_at}
use Rattle.exec_synopsis.specs.Preparing.{class_of}
use Rattle.exec_restore.proofs.RangeLaws.{range-some, range-none}
use Rattle.exec_restore.proofs.ranges.range.Goals as goal

pub returns-in-Some : goal.returns-in-Some
returns-in-Some c =
    let listed : c.as_slice.result.now ≡ pairs c.args.q.now = c.as_slice.ensures.value ∙ c.pairs.ensures in
    let class : class_of (pairs c.args.q.now) c.args.part.now c.args.a ≡ Some c.in-Some.class
    = sym (ap (λ (ps : List Pair). class_of ps c.args.part.now c.args.a) listed) ∙ sym c.in-Some.ensures in
    let none : Dim = record { attr = c.args.a; lo = pos 0; hi = pos 0 } in
    c.unwrap_or.ensures
    ∙ ap (λ o. unwrap_or o none) (c.dim_at.ensures ∙ ap (λ (dims : List Dim). slice_get dims c.in-Some.class) (c.dims_at.ensures.value ∙ ap (dims_at c.args.part.now) c.from.ensures))
    ∙ range-some c.args.q.now c.args.part.now c.args.a c.in-Some.class none class

pub returns-in-None : goal.returns-in-None
returns-in-None c =
    let listed : c.as_slice.result.now ≡ pairs c.args.q.now = c.as_slice.ensures.value ∙ c.pairs.ensures in
    let class : class_of (pairs c.args.q.now) c.args.part.now c.args.a ≡ None
    = sym (ap (λ (ps : List Pair). class_of ps c.args.part.now c.args.a) listed) ∙ sym c.in-None.ensures in
    range-none c.args.q.now c.args.part.now c.args.a class
