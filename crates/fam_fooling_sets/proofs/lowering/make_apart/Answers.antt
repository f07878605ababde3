use Rattle.std.proofs.Common.{ap, ap₂, sym, subst, ℕ, List, slice_index_or}
use Rattle.sem_query.specs.declared.condition.Condition.TheVariants.{C3}
use Rattle.fam_fooling_sets.specs.Passing.{AreLinks}
use Rattle.fam_fooling_sets.specs.Shown.{rows_in}
use Rattle.fam_fooling_sets.proofs.Motions.{links-are, motion-for}
use Rattle.fam_fooling_sets.proofs.FromMotion.{apart-family}
use Rattle.fam_fooling_sets.proofs.FromPart.{names-attr, stands-in}
use Rattle.fam_fooling_sets.proofs.lowering.make_apart.Goals as goal

pub find_motion-motion-requires-clause-links : goal.find_motion-motion-requires-clause-links
find_motion-motion-requires-clause-links c =
    subst (AreLinks c.args.q.now c.args.p.now.signs.items) (sym c.as_slice.ensures.value) record {
      each = links-are c.args.q.now c.args.p.now.signs.items c.refs-refs.result.less.items (λ x y. (c.refs-refs.ensures.refs.less x y).0);
      all = λ x y. (c.refs-refs.ensures.refs.less x y).1;
    }

pub fill_moved-requires-clause-motion : goal.fill_moved-requires-clause-motion
fill_moved-requires-clause-motion c =
    motion-for c.args.q.now c.args.p.now.signs.items c.args.attr c.ground_of-ground.result c.find_motion-motion.result c.ground_of-ground.ensures.ground c.find_motion-motion.ensures.motion
    (names-attr c.args.q.now c.args.p.now.signs.items c.args.attr c.requires.broken) c.args.blanks.now c.ground_of-ground.ensures.blanks c.requires.blanks
    (stands-in c.args.q.now c.args.p.now.signs.items C3 c.args.attr c.requires.broken c.requires.local)

pub returns-in-Ok : goal.returns-in-Ok
returns-in-Ok c =
    apart-family c.args.q.now c.args.p.now.signs.items c.args.attr c.requires.broken c.requires.whole c.requires.local c.ground_of-ground.result c.ground_of-ground.ensures.ground
    c.find_motion-motion.result c.find_motion-motion.ensures.motion c.find_motion-motion.ensures.suits c.args.n c.find_motion-motion.ensures.size _ (rows_in c.args.blanks.now) (ap rows_in c.ground_of-ground.ensures.blanks) c.requires.blanks
    (ap₂ (λ (xs : List ℕ) (i : ℕ). slice_index_or xs i 0) c.from.ensures.value c.from-in-Ok.ensures)
    c.in-Ok.ensures
