use Rattle.std.proofs.Common.{rules, ◌≡◌, true, false, to_z, of_z}
use Rattle.std.specs.Int.{w128}
use Rattle.plan_links.proofs.InPartFacts.{satisfiable}
use Rattle.fam_fooling_sets.proofs.Found.{plain-suits, rising-suits, never}
use Rattle.fam_fooling_sets.proofs.searching.find_motion.Goals as goal
use Rattle.fam_fooling_sets.proofs.searching.find_motion.Goals.{else-has_left-via-then-has_left+else-has_right, else-has_left-via-else-has_left}

pub motion_of-motion-requires-clause-satisfiable : goal.motion_of-motion-requires-clause-satisfiable
motion_of-motion-requires-clause-satisfiable c = satisfiable c.args.q.now c.args.p.now.signs.items c.args.bounds.now c.requires.known

pub returns-then-not-distinct : goal.returns-then-not-distinct
returns-then-not-distinct c =
    let d : c.args.q.now.distinct ≡ false = search rules in
    plain-suits c.args.q.now c.args.p.now.signs.items c.requires.whole c.args.attr c.requires.broken c.args.bounds.now c.args.n c.motion_of-motion.result c.motion_of-motion.ensures d

pub returns-then-has_right : goal.returns-then-has_right
returns-then-has_right c =
    let low : to_z w128 (of_z w128 c.motion_of-motion.result.low) ≡ c.motion_of-motion.result.low = search rules in
    rising-suits c.args.q.now c.args.p.now.signs.items c.requires.whole c.args.attr c.requires.broken c.args.bounds.now c.args.n c.motion_of-motion.result c.motion_of-motion.ensures _ low
    c.args.links.now c.requires.links (c.has_left.ensures.0 c.if-has_left.true) (c.has_right.ensures.0 c.if-has_right.true)

pub unreachable-requires : goal.unreachable-requires
unreachable-requires c =
    let d : c.args.q.now.distinct ≡ true = search rules in
    never c.args.q.now c.args.p.now.signs.items c.requires.whole c.args.attr c.requires.broken c.args.bounds.now c.args.n c.motion_of-motion.result c.motion_of-motion.ensures c.requires.local d
    c.args.links.now c.requires.links _ _
    (λ x y. elim c.else-has_left.branch [
      | else-has_left-via-then-has_left+else-has_right w ↦ (let t : w.has_right.result ≡ true = w.has_right.ensures.1 y in let f : w.has_right.result ≡ false = w.if-has_right.false in absurd cc)
      | else-has_left-via-else-has_left w ↦ (let t : c.has_left.result ≡ true = c.has_left.ensures.1 x in let f : c.has_left.result ≡ false = w.if-has_left.false in absurd cc)
    ])
    c.in-None.ensures
