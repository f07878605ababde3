use Rattle.std.proofs.Common.{rules, ◌≡◌, true, false, to_z, of_z, pos, ◌+ℤ◌}
use Rattle.std.specs.Int.{w128}
use Rattle.fam_fooling_sets.specs.Passing.{value_in}
use Rattle.fam_fooling_sets.proofs.Tightened.{some-not}
use Rattle.fam_fooling_sets.proofs.Found.{beyond, cut-suits}
use Rattle.fam_fooling_sets.proofs.searching.cut_between.Goals as goal
use Rattle.fam_fooling_sets.proofs.searching.cut_between.Goals.{else-lie_beyond-via-then-lie_beyond+else-lie_beyond-2, else-lie_beyond-via-else-lie_beyond}

pub returns-in-None : goal.returns-in-None
returns-in-None c = λ w.
    some-not c.args.q.now c.args.p.now.signs.items c.args.bounds.now c.requires.known c.args.first.right c.args.second.left c.requires.first.across.right c.requires.second.across.left c.in-None.ensures w.some

pub returns-then-lie_beyond-2 : goal.returns-then-lie_beyond-2
returns-then-lie_beyond-2 c =
    let up : to_z w128 (of_z w128 c.value_in-cut.result) ≡ value_in c.args.q.now c.motion_of-motion.result c.args.first.right = search rules in
    let low : to_z w128 (of_z w128 (to_z w128 (of_z w128 c.value_in-cut.result) +ℤ pos 1)) ≡ value_in c.args.q.now c.motion_of-motion.result c.args.first.right +ℤ pos 1 = search rules in
    cut-suits c.args.q.now c.args.p.now.signs.items c.requires.whole c.args.attr c.requires.broken c.in-Some.tighter c.args.n c.motion_of-motion.result c.motion_of-motion.ensures _ _ c.args.first c.args.second up low
    c.in-Some.ensures.2 c.requires.first c.requires.second (c.lie_beyond.ensures.0 c.if-lie_beyond.true) (c.lie_beyond-then-lie_beyond.ensures.0 c.if-lie_beyond-2.true)
    (c.are_on_one_side.ensures.0 (search rules))

pub returns-else-lie_beyond : goal.returns-else-lie_beyond
returns-else-lie_beyond c = λ p. elim c.else-lie_beyond.branch [
  | else-lie_beyond-via-then-lie_beyond+else-lie_beyond-2 w ↦ (
      let t : w.lie_beyond-then-lie_beyond.result ≡ true = w.lie_beyond-then-lie_beyond.ensures.1
      (beyond c.args.q.now c.args.p.now.signs.items c.requires.whole c.args.attr c.requires.broken c.in-Some.tighter c.args.n c.motion_of-motion.result c.motion_of-motion.ensures _ _ c.args.second.left c.args.second.right c.requires.second p.high) in
      let f : w.lie_beyond-then-lie_beyond.result ≡ false = w.if-lie_beyond-2.false in absurd cc)
  | else-lie_beyond-via-else-lie_beyond w ↦ (
      let t : c.lie_beyond.result ≡ true = c.lie_beyond.ensures.1
      (beyond c.args.q.now c.args.p.now.signs.items c.requires.whole c.args.attr c.requires.broken c.in-Some.tighter c.args.n c.motion_of-motion.result c.motion_of-motion.ensures _ _ c.args.first.left c.args.first.right c.requires.first p.low) in
      let f : c.lie_beyond.result ≡ false = w.if-lie_beyond.false in absurd cc)
]
