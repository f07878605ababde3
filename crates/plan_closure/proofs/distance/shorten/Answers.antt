use Rattle.std.proofs.Common.{◌≡◌, ◌≢◌, ℕ, ◌+◌, ◌*◌, ◌<◌, ◌+ℤ◌, get_or, length, Some, None, sym, ◌∙◌, ap, subst, arith, IsTrue, to_z, of_z, w64}
use Rattle.std.proofs.lemmas.Int.{ints}
use Rattle.plan_closure.specs.Answers.{IsSmall}
use Rattle.plan_closure.specs.Shortest.{bound_of, no_distance, between, Undercuts, IsColumn, Lowers}
use Rattle.plan_closure.proofs.Lowering.{row_none, row_high, row_apart, row_lowered, row_stays}
use Rattle.plan_closure.proofs.distance.shorten.Goals as goal
use Rattle.plan_closure.proofs.distance.shorten.Goals.{in-Some+then-is_below, in-Some+else-is_below, in_default}

pub lead-requires-clause-apart : goal.lead-requires-clause-apart
lead-requires-clause-apart c =
    let raw : bound_of (get_or c.loop-i.table (13 * c.loop-i.i + c.from-left.result) no_distance) ≡ Some c.in-Some.before = sym (ap bound_of c.at-from.ensures) ∙ sym c.bound_of.ensures ∙ c.in-Some.is in
    let is : between c.loop-i.table c.loop-i.i c.args.c.left ≡ Some c.in-Some.before = rw c.from-left.ensures at raw in
    let s : IsSmall (Some c.in-Some.before) = subst IsSmall (sym (ap bound_of (c.loop-i.invariant.2 (13 * c.loop-i.i + c.args.c.left) (omega arith))) ∙ is) (c.requires.small c.loop-i.i c.args.c.left c.loop-i-test.true c.requires.left) in
    let exact : to_z w64 (of_z w64 c.total-head.result) ≡ c.in-Some.before +ℤ c.args.c.bound = omega (arith, ints, c.total-head.ensures, s.0, s.1, c.requires.low, c.requires.high) in
    let low : Undercuts (between c.loop-i.table c.loop-i.i c.args.c.right) (c.in-Some.before +ℤ c.args.c.bound) = rw (c.at-to.ensures, c.from-right.ensures, exact) at (c.is_below.ensures.0 c.if-is_below.true) in
    λ e. row_apart c.args.nodes (omega arith) c.args.table.now c.args.c c.requires.left c.requires.right c.requires.closed c.requires.agrees c.loop-i.table c.loop-i.i c.loop-i-test.true c.loop-i.invariant.1 c.loop-i.invariant.2 c.in-Some.before is low (e ∙ c.from-right.ensures)

pub lead-requires-clause-head_low : goal.lead-requires-clause-head_low
lead-requires-clause-head_low c =
    let raw : bound_of (get_or c.loop-i.table (13 * c.loop-i.i + c.from-left.result) no_distance) ≡ Some c.in-Some.before = sym (ap bound_of c.at-from.ensures) ∙ sym c.bound_of.ensures ∙ c.in-Some.is in
    let is : between c.loop-i.table c.loop-i.i c.args.c.left ≡ Some c.in-Some.before = rw c.from-left.ensures at raw in
    let s : IsSmall (Some c.in-Some.before) = subst IsSmall (sym (ap bound_of (c.loop-i.invariant.2 (13 * c.loop-i.i + c.args.c.left) (omega arith))) ∙ is) (c.requires.small c.loop-i.i c.args.c.left c.loop-i-test.true c.requires.left) in
    let exact : to_z w64 (of_z w64 c.total-head.result) ≡ c.in-Some.before +ℤ c.args.c.bound = omega (arith, ints, c.total-head.ensures, s.0, s.1, c.requires.low, c.requires.high) in
    omega (arith, ints, exact, s.0, c.requires.low)

pub lead-requires-clause-head_high : goal.lead-requires-clause-head_high
lead-requires-clause-head_high c =
    let raw : bound_of (get_or c.loop-i.table (13 * c.loop-i.i + c.from-left.result) no_distance) ≡ Some c.in-Some.before = sym (ap bound_of c.at-from.ensures) ∙ sym c.bound_of.ensures ∙ c.in-Some.is in
    let is : between c.loop-i.table c.loop-i.i c.args.c.left ≡ Some c.in-Some.before = rw c.from-left.ensures at raw in
    let s : IsSmall (Some c.in-Some.before) = subst IsSmall (sym (ap bound_of (c.loop-i.invariant.2 (13 * c.loop-i.i + c.args.c.left) (omega arith))) ∙ is) (c.requires.small c.loop-i.i c.args.c.left c.loop-i-test.true c.requires.left) in
    let exact : to_z w64 (of_z w64 c.total-head.result) ≡ c.in-Some.before +ℤ c.args.c.bound = omega (arith, ints, c.total-head.ensures, s.0, s.1, c.requires.low, c.requires.high) in
    omega (arith, ints, exact, s.1, c.requires.high)

pub loop-i-preserved : goal.loop-i-preserved
loop-i-preserved c = elim c.match-bound_of.branch [
  | in-Some+then-is_below w ↦
      let raw : bound_of (get_or c.loop-i.table (13 * c.loop-i.i + c.from-left.result) no_distance) ≡ Some w.in-Some.before = sym (ap bound_of c.at-from.ensures) ∙ sym c.bound_of.ensures ∙ w.in-Some.is in
      let is : between c.loop-i.table c.loop-i.i c.args.c.left ≡ Some w.in-Some.before = rw c.from-left.ensures at raw in
      let s : IsSmall (Some w.in-Some.before) = subst IsSmall (sym (ap bound_of (c.loop-i.invariant.2 (13 * c.loop-i.i + c.args.c.left) (omega arith))) ∙ is) (c.requires.small c.loop-i.i c.args.c.left c.loop-i-test.true c.requires.left) in
      let exact : to_z w64 (of_z w64 w.total-head.result) ≡ w.in-Some.before +ℤ c.args.c.bound = omega (arith, ints, w.total-head.ensures, s.0, s.1, c.requires.low, c.requires.high) in
      let low : Undercuts (between c.loop-i.table c.loop-i.i c.args.c.right) (w.in-Some.before +ℤ c.args.c.bound) = rw (c.at-to.ensures, c.from-right.ensures, exact) at (w.is_below.ensures.0 w.if-is_below.true) in
      let b : to_z w64 (of_z w64 c.args.c.bound) ≡ c.args.c.bound = omega (arith, ints, c.requires.low, c.requires.high) in
      let apart : c.loop-i.i ≢ c.args.c.right = row_apart c.args.nodes (omega arith) c.args.table.now c.args.c c.requires.left c.requires.right c.requires.closed c.requires.agrees c.loop-i.table c.loop-i.i c.loop-i-test.true c.loop-i.invariant.1 c.loop-i.invariant.2 w.in-Some.before is low in
      let columns : (j : ℕ) → j < c.args.nodes → IsColumn (between c.args.table.now) c.args.c.left c.args.c.right c.args.c.bound c.lowered-columns.result.items j = rw (c.from-left.ensures, c.from-right.ensures, b) at c.lowered-columns.ensures.others in
      let led : Lowers c.loop-i.table c.loop-i.i c.args.c.right c.lowered-columns.result.items (length c.lowered-columns.result.items) (w.in-Some.before +ℤ c.args.c.bound) c.match-bound_of.table = rw w.table-is (rw (c.from-right.ensures, w.as_slice.ensures.value, exact) at w.lead.ensures) in (
        c.match-bound_of.array_long,
        row_lowered c.args.nodes (omega arith) c.args.table.now c.args.c c.requires.left c.requires.right c.requires.closed c.requires.agrees c.loop-i.table c.loop-i.i c.loop-i-test.true c.loop-i.invariant.1 c.loop-i.invariant.2 c.match-bound_of.table c.lowered-columns.result.items w.in-Some.before is c.loop-i.invariant.3 columns led,
        λ k g. led.later k (omega arith) ∙ c.loop-i.invariant.2 k (omega arith),
        λ j lj. row_stays c.loop-i.table c.match-bound_of.table c.loop-i.i c.args.c.right c.lowered-columns.result.items (length c.lowered-columns.result.items) _ j apart lj led ∙ c.loop-i.invariant.3 j lj,
      )
  | in-Some+else-is_below w ↦
      let raw : bound_of (get_or c.loop-i.table (13 * c.loop-i.i + c.from-left.result) no_distance) ≡ Some w.in-Some.before = sym (ap bound_of c.at-from.ensures) ∙ sym c.bound_of.ensures ∙ w.in-Some.is in
      let is : between c.loop-i.table c.loop-i.i c.args.c.left ≡ Some w.in-Some.before = rw c.from-left.ensures at raw in
      let s : IsSmall (Some w.in-Some.before) = subst IsSmall (sym (ap bound_of (c.loop-i.invariant.2 (13 * c.loop-i.i + c.args.c.left) (omega arith))) ∙ is) (c.requires.small c.loop-i.i c.args.c.left c.loop-i-test.true c.requires.left) in
      let exact : to_z w64 (of_z w64 w.total-head.result) ≡ w.in-Some.before +ℤ c.args.c.bound = omega (arith, ints, w.total-head.ensures, s.0, s.1, c.requires.low, c.requires.high) in
      let high : Undercuts (between c.loop-i.table c.loop-i.i c.args.c.right) (w.in-Some.before +ℤ c.args.c.bound) → IsTrue w.is_below.result = rw (c.at-to.ensures, c.from-right.ensures, exact) at w.is_below.ensures.1 in (
        c.match-bound_of.array_long,
        rw w.table-is (row_high c.args.nodes (omega arith) c.args.table.now c.args.c c.requires.left c.requires.right c.requires.closed c.requires.agrees c.loop-i.table c.loop-i.i c.loop-i-test.true c.loop-i.invariant.1 c.loop-i.invariant.2 w.in-Some.before is (λ h. let y = high h in let n = w.if-is_below.false in cc)),
        λ k g. rw w.table-is (c.loop-i.invariant.2 k (omega arith)),
        rw w.table-is c.loop-i.invariant.3,
      )
  | in_default w ↦
      let raw : bound_of (get_or c.loop-i.table (13 * c.loop-i.i + c.from-left.result) no_distance) ≡ None = sym (ap bound_of c.at-from.ensures) ∙ sym c.bound_of.ensures ∙ w.in_default.is in
      let is : between c.loop-i.table c.loop-i.i c.args.c.left ≡ None = rw c.from-left.ensures at raw in (
        c.match-bound_of.array_long,
        rw w.table-is (row_none c.args.nodes (omega arith) c.args.table.now c.args.c c.requires.left c.requires.right c.requires.closed c.requires.agrees c.loop-i.table c.loop-i.i c.loop-i-test.true c.loop-i.invariant.1 c.loop-i.invariant.2 is),
        λ k g. rw w.table-is (c.loop-i.invariant.2 k (omega arith)),
        rw w.table-is c.loop-i.invariant.3,
      )
]

pub returns : goal.returns
returns c = λ i j li lj. c.loop-i.invariant.1 i j (omega (arith, li, c.loop-i-test.false)) lj
