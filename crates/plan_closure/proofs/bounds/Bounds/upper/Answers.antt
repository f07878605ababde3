use Rattle.std.proofs.Common.{◌≡◌, ◌<◌, pos, neg_ℤ, ◌≤ℤ◌, arith, ap, sym, to_z, of_z}
use Rattle.std.proofs.lemmas.Int.{ints}
use mir.Syntax.{w128}
use Rattle.plan_closure.specs.BoundsValue.{BoundsValue}
use Rattle.plan_closure.specs.Entries.{AreModest}
use Rattle.plan_constraints.specs.Solutions.{IsSatisfiable}
use Rattle.plan_closure.proofs.Upper.{tight_if_satisfiable, upper_some, upper_none, modest_entry}
use Rattle.plan_closure.proofs.bounds.Bounds.upper.Goals as goal

pub returns-in-Some-clause-answer : goal.returns-in-Some-clause-answer
returns-in-Some-clause-answer c =
    let e : c.self.inside.closure.attrs ≡ c.args.self.now.attrs = ap (λ (v : BoundsValue). v.attrs) c.self.view_is in
    let h = c.self.invariant.closure in
    let few : c.self.inside.closure.attrs < 13 = h.few in
    let s : IsSatisfiable c.self.inside.constraints.items = rw (← c.self.view_is) at c.requires.satisfiable in
    let t = tight_if_satisfiable _ _ _ _ h.settled s in
    let m : AreModest c.in-Some.entry = modest_entry _ (omega arith) _ _ t h.modest c.args.i c.args.j (omega arith) (omega arith) c.in-Some.entry (sym c.in-Some.ensures) in
    let lo : neg_ℤ (pos 100000000000000000) ≤ℤ c.in-Some.entry.bound = m.low in
    let hi : c.in-Some.entry.bound ≤ℤ pos 100000000000000000 = m.high in
    let b : to_z w128 (of_z w128 c.from.result) ≡ c.in-Some.entry.bound = omega (arith, ints, c.from.ensures) in
    rw (← c.self.view_is, b) (upper_some _ (omega arith) _ _ t h.modest c.args.i c.args.j (omega arith) (omega arith) c.in-Some.entry (sym c.in-Some.ensures))

pub returns-in-Some-clause-small : goal.returns-in-Some-clause-small
returns-in-Some-clause-small c =
    let e : c.self.inside.closure.attrs ≡ c.args.self.now.attrs = ap (λ (v : BoundsValue). v.attrs) c.self.view_is in
    let h = c.self.invariant.closure in
    let few : c.self.inside.closure.attrs < 13 = h.few in
    let s : IsSatisfiable c.self.inside.constraints.items = rw (← c.self.view_is) at c.requires.satisfiable in
    let t = tight_if_satisfiable _ _ _ _ h.settled s in
    let m : AreModest c.in-Some.entry = modest_entry _ (omega arith) _ _ t h.modest c.args.i c.args.j (omega arith) (omega arith) c.in-Some.entry (sym c.in-Some.ensures) in
    let lo : neg_ℤ (pos 100000000000000000) ≤ℤ c.in-Some.entry.bound = m.low in
    let hi : c.in-Some.entry.bound ≤ℤ pos 100000000000000000 = m.high in
    (omega (arith, ints, c.from.ensures), omega (arith, ints, c.from.ensures))

pub returns-in-None-clause-answer : goal.returns-in-None-clause-answer
returns-in-None-clause-answer c =
    let e : c.self.inside.closure.attrs ≡ c.args.self.now.attrs = ap (λ (v : BoundsValue). v.attrs) c.self.view_is in
    let h = c.self.invariant.closure in
    let few : c.self.inside.closure.attrs < 13 = h.few in
    let s : IsSatisfiable c.self.inside.constraints.items = rw (← c.self.view_is) at c.requires.satisfiable in
    let t = tight_if_satisfiable _ _ _ _ h.settled s in
    rw (← c.self.view_is) (upper_none _ (omega arith) _ _ t h.modest c.args.i c.args.j (omega arith) (omega arith) (sym c.in-None.ensures))
