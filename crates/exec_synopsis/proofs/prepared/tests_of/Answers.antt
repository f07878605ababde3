use Rattle.std.proofs.Common.{◌≡◌, ◌∙◌, ◌+◌, ◌<◌, refl, sym, ap, length, get_or, arith, subst, ◌++◌, ◌∷◌, []}
use Rattle.sem_query.specs.Plan.{dims_at}
use Rattle.sem_query.specs.declared.atom.Element.{Element}
use Rattle.sem_query.specs.declared.part.Sign.{Sign}
use Rattle.exec_synopsis.proofs.PrepareLaws.{tests-past, tests-push, tests-skip, tests-all, pushed-length, SoFar}
use Rattle.exec_synopsis.proofs.prepared.tests_of.Goals as goal
use Rattle.exec_synopsis.proofs.prepared.tests_of.Goals.{then-not-is_implied, else-not-is_implied}

pub pairs-preserved : goal.pairs-preserved
pairs-preserved c = elim c.if-not-is_implied.branch [
  | then-not-is_implied w ↦
      let more : c.if-not-is_implied.tests.items ≡ c.pairs.tests.items ++ c.pairs.i ∷ [] = ap (λ t. t.items) w.tests-is ∙ w.push.ensures.items in
      let there : c.pairs.i < length c.args.part.now.signs.items = (let v = ap length c.as_slice-signs.ensures.value in omega (arith, v, c.if-i-signs.false)) in
      let longer = pushed-length c.pairs.tests.items c.pairs.i c.if-not-is_implied.tests.items (length c.pairs.tests.items) more refl in
      record {
        few = omega (arith, longer, c.pairs.invariant.few);
        so_far = tests-push c.args.pairs.now c.args.part.now c.pairs.tests.items c.pairs.i c.pairs.invariant.so_far _ (record { left = record { stream = 0; column = 0 }; right = Element.Attr (record { stream = 0; column = 0 }) }) _ Sign.Lt c.pairs-test.true there refl refl c.if-not-is_implied.tests.items more;
      }
  | else-not-is_implied w ↦
      let same : c.if-not-is_implied.tests.items ≡ c.pairs.tests.items = ap (λ t. t.items) w.tests-is in
      let there : c.pairs.i < length c.args.part.now.signs.items = (let v = ap length c.as_slice-signs.ensures.value in omega (arith, v, c.if-i-signs.false)) in
      record {
        few = (let l = ap length same in omega (arith, l, c.pairs.invariant.few));
        so_far = subst (λ ts. SoFar c.args.pairs.now c.args.part.now ts (c.pairs.i + 1)) (sym same)
            (tests-skip c.args.pairs.now c.args.part.now c.pairs.tests.items c.pairs.i c.pairs.invariant.so_far _ (record { left = record { stream = 0; column = 0 }; right = Element.Attr (record { stream = 0; column = 0 }) }) _ Sign.Lt c.pairs-test.true there refl (ap (λ ss. get_or ss c.pairs.i Sign.Lt) c.as_slice-signs.ensures.value)
            c.dims_at.result.now (c.dims_at.ensures.value ∙ ap (dims_at c.args.part.now) c.from.ensures) (c.is_implied.ensures w.if-not-is_implied.false));
      }
]

pub returns-then-i-signs : goal.returns-then-i-signs
returns-then-i-signs c =
    tests-past c.args.pairs.now c.args.part.now c.pairs.tests.items c.pairs.i c.pairs.invariant.so_far
    (let v = ap length c.as_slice-signs.ensures.value in omega (arith, v, c.if-i-signs.true))

pub returns : goal.returns
returns c = tests-all c.args.pairs.now c.args.part.now c.pairs.tests.items c.pairs.i c.pairs.invariant.so_far (omega (arith, c.pairs-test.false))
