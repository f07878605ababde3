use Rattle.sem_query.specs.Parts.{pairs}
use Rattle.std.proofs.Common.{◌≡◌, ◌+◌, ◌*◌, ◌∙◌, length, None, sym, ap}
use Rattle.exec_ranges.specs.Values.{value_in}
use Rattle.exec_synopsis.specs.Narrowing.{binding_column}
use Rattle.exec_join.proofs.AlongLaws.{left-whole, all-longer, one-longer}
use Rattle.exec_join.proofs.along.longer_line.Goals as goal

pub returns-in_default : goal.returns-in_default
returns-in_default c =
    let at = c.args.at.now in
    let none : binding_column at.arriving (length c.args.known.now) c.args.dim.attr at.part.now.equal.items ≡ None
    = ap (binding_column at.arriving (length c.args.known.now) c.args.dim.attr) (sym c.as_slice.ensures.value) ∙ sym c.binding_column.ensures ∙ c.in_default.is in
    let values = value_in (pairs at.q.now) at.part.now at.arriving at.row.now.items c.args.known.now in
    all-longer _ c.args.dim c.args.line _ _ (left-whole at.arriving (length c.args.known.now) at.part.now.equal.items at.part.now.less.items values c.args.dim c.requires.free none) c.requires.full c.requires.some
    (c.may_grow.ensures c.if-not-may_grow.false) (ap (λ n. c.args.line.first * n) c.dim_size-size.ensures) (ap (λ n. c.args.line.count * n) c.dim_size-size.ensures)

pub returns : goal.returns
returns c =
    one-longer _ c.args.dim c.args.line c.in-Some-bound_place.place _ _ c.in-Some-bound_place.ensures.2 c.in-Some-bound_place.ensures.0 c.in-Some-bound_place.ensures.1 c.requires.some
    (ap (λ n. c.args.line.first * n + c.in-Some-bound_place.place) c.dim_size-size.ensures) (ap (λ n. c.args.line.stride * n) c.dim_size-size.ensures)
