use Rattle.std.proofs.Common.{◌≡◌, [], ap, ◌∙◌, subst, arith}
use Rattle.std.proofs.lemmas.List.{get_or_default}
use Rattle.sem_query.specs.declared.plan.Kind.{Kind}
use Rattle.plan_forms.specs.Equated.{IsFound, dims_of}
use Rattle.plan_forms.proofs.Equalities.{equals_next}
use Rattle.plan_forms.proofs.equating.add_equals.Goals as goal

pub later-preserved : goal.later-preserved
later-preserved c =
    let dims : c.as_slice.result.now ≡ dims_of c.args.streams.now c.later.place
    = c.as_slice.ensures.value ∙ ap (λ s. s.dims.items) (get_or_default c.args.streams.now c.later.place c.index-streams-place.result record { dims = record { items = [] }; kind = Kind.Present } c.later-test.true) in (
      (let l = c.later.invariant.0 in omega (arith, l)),
      equals_next c.args.closed.now c.args.streams.now c.requires.classes c.args.list.now.items c.later.list.items c.add_equal.new.list.items c.args.a c.args.from c.later.place c.first_equal-found.result c.later.invariant.0
          c.requires.behind c.later.invariant.1 (subst (λ ds. IsFound c.args.closed.now c.args.a ds c.first_equal-found.result) dims c.first_equal-found.ensures) c.add_equal.ensures,
    )
