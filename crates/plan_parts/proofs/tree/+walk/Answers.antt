use Rattle.std.proofs.Common.{◌≡◌, ◌∙◌, arith, ◌+◌, ◌++◌, ◌∷◌, [], length, length-append, ap, refl}
use Rattle.sem_query.specs.declared.part.Sign.{Sign}
use Rattle.plan_constraints.specs.PartConstraints.{AddsSign}
use Rattle.plan_constraints.proofs.Joined.{allows_each}
use Rattle.plan_parts.proofs.Steps.{room_next, known_at, not_feasible, before_added}
use Rattle.plan_constraints.proofs.Softly.{next_refutes}
use Rattle.plan_parts.proofs.Walks.{nothing, leaf, followed}
use Rattle.plan_parts.proofs.tree.+walk.Goals as goal

pub branch-returns-then-next_fails : goal.branch-returns-then-next_fails
branch-returns-then-next_fails t c =
    let b = c.requires.before in
    nothing _ _ _ (room_next _ _ _ _ c.args.sign b c.requires.room) c.requires.few (next_refutes _ _ _ _ refl (rw c.next_fails.ensures at c.if-next_fails.true))

pub greater-returns-then-next_fails : goal.greater-returns-then-next_fails
greater-returns-then-next_fails t c =
    let b = c.requires.before in
    nothing _ _ _ (room_next _ _ _ _ Sign.Gt b c.requires.room) c.requires.few (next_refutes _ _ _ _ refl (rw (c.next_fails.ensures, c.as_slice.ensures.value) at c.if-next_fails.true))

pub branch-returns-then-not-allows_each : goal.branch-returns-then-not-allows_each
branch-returns-then-not-allows_each t c =
    let b = c.requires.before in
    let f = (c.allows_each.ensures _ _ b.known.distances).1 in
    nothing _ _ _ (room_next _ _ _ _ c.args.sign b c.requires.room) c.requires.few (not_feasible _ _ _ _ _ _ b c.next_constraints.ensures (λ s. let y = f (allows_each _ _ s) in cc))

pub branch-allows_each-requires-clause-known : goal.branch-allows_each-requires-clause-known
branch-allows_each-requires-clause-known t c = known_at _ _ _ _ c.requires.before

pub deeper-add_all-requires-clause-known : goal.deeper-add_all-requires-clause-known
deeper-add_all-requires-clause-known t c = known_at _ _ _ _ c.requires.before

pub deeper-returns-then-not-satisfiable : goal.deeper-returns-then-not-satisfiable
deeper-returns-then-not-satisfiable t c =
    let b = c.requires.before in
    let a : AddsSign c.args.q.now c.args.signs.items c.args.sign c.next_constraints.result.now = rw c.as_slice.ensures.value at c.next_constraints.ensures in
    let h = c.add_all.ensures _ _ b.known.distances in
    nothing _ _ _ (room_next _ _ _ _ c.args.sign b c.requires.room) c.requires.few (not_feasible _ _ _ _ _ _ b a (λ s. let y = (c.satisfiable.ensures _ _ h).1 s in cc))

pub deeper-walk-requires : goal.deeper-walk-requires
deeper-walk-requires t c =
    let b = c.requires.before in
    let a : AddsSign c.args.q.now c.args.signs.items c.args.sign c.next_constraints.result.now = rw c.as_slice.ensures.value at c.next_constraints.ensures in
    let h = c.add_all.ensures _ _ b.known.distances in
    let n : length (c.args.signs.items ++ c.args.sign ∷ []) ≡ length c.args.signs.items + 1 = length-append c.args.signs.items (c.args.sign ∷ []) in
    let m : length c.push.new.self.items ≡ length c.args.signs.items + 1 = ap length c.push.ensures.items ∙ n in
    (omega (arith, m, c.requires.room), (c.requires.fails, (rw c.push.ensures.items (before_added _ _ _ _ _ _ b a c.requires.room c.requires.agrees _ h ((c.satisfiable.ensures _ _ h).0 c.if-not-satisfiable.false)), c.requires.few)))

pub walk-returns-then-len-choices : goal.walk-returns-then-len-choices
walk-returns-then-len-choices t c =
    followed _ _ _ _ _ _ c.follow.ensures.follow
    (leaf c.add_part.result c.args.q.now c.args.choices.now c.args.distances.now c.follow.new.signs.items _ c.args.parts.now.items c.add_part.new.parts.items c.follow.ensures.before
    (omega (arith, c.if-len-choices.true, c.len.ensures.value)) refl c.add_part.ensures)

pub walk-returns : goal.walk-returns
walk-returns t c = followed _ _ _ _ _ _ c.follow.ensures.follow c.branches.ensures
