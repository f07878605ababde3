use Rattle.std.proofs.Common.{◌≡◌, ◌∙◌, ◌+◌, List, true, sym, ap, subst, arith, take, length}
use Rattle.std.specs.List.{list_all}
use Rattle.std.proofs.lemmas.List.{take_all}
use Rattle.std.proofs.lemmas.List.Folds.{list_all_more}
use Rattle.sem_laws.proofs.Tests.{and-left, and-right}
use Rattle.exec_filter.specs.declared.prefilter.ColumnInterval.{ColumnInterval}
use Rattle.exec_filter.specs.Prefilter.{is_within}
use Rattle.exec_filter.proofs.passing.box_of.Goals as goal

pub loop-range-preserved : goal.loop-range-preserved
loop-range-preserved c = λ v first h.
    let value = c.as_slice-range-items.ensures.value in
    let seen = subst (λ (xs : List ColumnInterval). list_all (is_within v) (take (c.loop-range.range-index + 1) xs) ≡ true) (sym value) h in
    let both = sym (list_all_more (is_within v) c.as_slice-range-items.result.now c.loop-range.range-index _ (omega (arith, c.loop-range-test.true))) ∙ seen in
    c.put-in-loop-range.ensures v
    (c.loop-range.invariant v first (subst (λ (xs : List ColumnInterval). list_all (is_within v) (take c.loop-range.range-index xs) ≡ true) value (and-left _ _ both)))
    (and-right _ _ both)

pub returns : goal.returns
returns c = λ v lets.
    let value = c.as_slice-range-items.ensures.value in
    let many = ap (λ (xs : List ColumnInterval). length xs) value in
    let all = take_all c.loop-range.range-index c.args.stream_filter.now.others.items (omega (arith, many, c.loop-range-test.false)) in
    c.loop-range.invariant v (and-left _ _ lets) (ap (λ (xs : List ColumnInterval). list_all (is_within v) xs) all ∙ and-right _ _ lets)
