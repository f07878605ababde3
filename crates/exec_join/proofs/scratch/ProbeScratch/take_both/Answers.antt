use Rattle.std.proofs.Common.{◌≡◌, ◌∙◌, ◌++◌, ◌∷◌, [], List, ℤ, map, sym, ap, subst}
use Rattle.sem_query.specs.Boxes.{values_at, AreNumbered}
use Rattle.sem_query.specs.declared.cell.Cell.TheVariants.{Present}
use Rattle.sem_query.specs.declared.plan.Dim.{Dim}
use Rattle.exec_ranges.proofs.LeastLaws.{least-values}
use Rattle.exec_join.specs.Choosing.{chosen}
use Rattle.exec_join.proofs.AloneLaws.{one-numbered, row-first, row-last}
use Rattle.exec_join.proofs.scratch.ProbeScratch.take_both.Goals as goal

pub push-requires-clause-sound : goal.push-requires-clause-sound
push-requires-clause-sound c = subst AreNumbered (sym c.as_slice.ensures.value) (one-numbered c.args.self.now.dims.items c.requires.one)

pub returns-then-arriving-eq0 : goal.returns-then-arriving-eq0
returns-then-arriving-eq0 c =
    let dims = c.args.self.now.dims.items in
    let least : values_at c.as_slice.result.now 0 ≡ map (λ d. d.lo) dims = ap (λ (ds : List Dim). values_at ds 0) c.as_slice.ensures.value ∙ least-values dims c.requires.one in
    c.push.ensures.items ∙ ap (λ (vs : List ℤ). c.args.self.now.chosen.items ++ chosen vs c.args.cell ∷ []) least
    ∙ row-first c.args.arriving c.args.self.now.chosen.items (map (λ d. d.lo) dims) c.args.cell c.requires.chosen c.if-arriving-eq0.true

pub returns : goal.returns
returns c =
    let dims = c.args.self.now.dims.items in
    let least : values_at c.as_slice.result.now 0 ≡ map (λ d. d.lo) dims = ap (λ (ds : List Dim). values_at ds 0) c.as_slice.ensures.value ∙ least-values dims c.requires.one in
    c.push_own.ensures.items
    ∙ ap (λ cs. cs ++ chosen [] Present ∷ []) (c.push.ensures.items ∙ ap (λ (vs : List ℤ). c.args.self.now.chosen.items ++ chosen vs c.args.cell ∷ []) least)
    ∙ row-last c.args.arriving c.args.self.now.chosen.items (map (λ d. d.lo) dims) c.args.cell c.requires.chosen c.if-arriving-eq0.false
