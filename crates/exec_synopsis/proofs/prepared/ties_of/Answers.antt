use Rattle.std.proofs.Common.{◌≡◌, ◌∙◌, ◌+◌, ◌++◌, ◌∷◌, [], refl, sym, ap, subst, length, arith}
use Rattle.sem_query.specs.declared.atom.Element.{Element}
use Rattle.sem_query.specs.declared.part.Sign.{Sign}
use Rattle.exec_synopsis.proofs.PrepareLaws.{ties-past, ties-all, ties-push, ties-skip, pushed-length, TiesSoFar}
use Rattle.exec_synopsis.proofs.prepared.ties_of.Goals as goal
use Rattle.exec_synopsis.proofs.prepared.ties_of.Goals.{in-Some, in-None}

pub pairs-preserved : goal.pairs-preserved
pairs-preserved c = elim c.match-tie_of.branch [
  | in-Some w ↦
      let more : c.match-tie_of.ties.items ≡ c.pairs.ties.items ++ w.in-Some.tie ∷ [] = ap (λ t. t.items) w.ties-is ∙ w.push.ensures.items in
      let longer = pushed-length c.pairs.ties.items w.in-Some.tie c.match-tie_of.ties.items (length c.pairs.ties.items) more refl in
      record {
        few = omega (arith, longer, c.pairs.invariant.few);
        so_far = ties-push c.args.pairs.now c.args.signs.now c.pairs.ties.items c.pairs.i c.pairs.invariant.so_far (record { left = record { stream = 0; column = 0 }; right = Element.Attr (record { stream = 0; column = 0 }) }) Sign.Lt c.pairs-test.true c.if-i-signs.false w.in-Some.tie c.match-tie_of.ties.items w.in-Some.ensures more;
      }
  | in-None w ↦
      let same : c.match-tie_of.ties.items ≡ c.pairs.ties.items = ap (λ t. t.items) w.ties-is in
      record {
        few = (let l = ap length same in omega (arith, l, c.pairs.invariant.few));
        so_far = subst (λ ts. TiesSoFar c.args.pairs.now c.args.signs.now ts (c.pairs.i + 1)) (sym same)
            (ties-skip c.args.pairs.now c.args.signs.now c.pairs.ties.items c.pairs.i c.pairs.invariant.so_far (record { left = record { stream = 0; column = 0 }; right = Element.Attr (record { stream = 0; column = 0 }) }) Sign.Lt c.pairs-test.true c.if-i-signs.false w.in-None.ensures);
      }
]

pub returns-then-i-signs : goal.returns-then-i-signs
returns-then-i-signs c = ties-past c.args.pairs.now c.args.signs.now c.pairs.ties.items c.pairs.i c.pairs.invariant.so_far c.if-i-signs.true

pub returns : goal.returns
returns c = ties-all c.args.pairs.now c.args.signs.now c.pairs.ties.items c.pairs.i c.pairs.invariant.so_far (omega (arith, c.pairs-test.false))
