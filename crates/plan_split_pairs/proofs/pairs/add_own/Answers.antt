use Rattle.std.proofs.Common.{◌≡◌, ◌<◌, ◌+◌, ◌∙◌, ◌++◌, length, get_or, drop, ap, subst}
use Rattle.std.proofs.lemmas.List.{drop_more}
use Rattle.std.proofs.lemmas.List.{take_rest}
use Rattle.sem_query.specs.Query.{attrs_of}
use Rattle.sem_query.specs.Parts.{each_once}
use Rattle.plan_split_pairs.specs.Pairs.{column_pairs, own_pairs}
use Rattle.plan_split_pairs.proofs.Adding.{adds_more, adds_once, adds_full, adds_stop}
use Rattle.plan_split_pairs.proofs.pairs.add_own.Goals as goal

pub returns-in_err-add_each : goal.returns-in_err-add_each
returns-in_err-add_each c =
    let q = c.args.q.now in
    let attrs = c.attrs-attrs.result.now in
    let list = c.loop-i.list.items in
    let a = get_or attrs c.loop-i.i record { stream = 0; column = 0 } in
    let rest = drop (c.loop-i.i + 1) attrs in
    let left = subst (λ xs. each_once (list ++ own_pairs q xs) ≡ each_once (c.args.list.now.items ++ own_pairs q (attrs_of q.atoms))) (drop_more attrs c.loop-i.i record { stream = 0; column = 0 } c.loop-i-test.true) c.loop-i.invariant.left in
    let is : c.as_slice.result.now ≡ column_pairs q a rest = c.as_slice.ensures.value ∙ c.column_pairs-pairs.ensures ∙ ap (column_pairs q a) (take_rest attrs (c.loop-i.i + 1)) in
    adds_stop c.from_residual.result c.args.list.now.items (own_pairs q (attrs_of q.atoms)) _ c.from_residual.ensures
    (adds_full list (column_pairs q a rest) (own_pairs q rest) _ (subst (λ m. 114 < length (each_once (list ++ m))) is c.in_err-add_each.ensures) left)

pub loop-i-preserved : goal.loop-i-preserved
loop-i-preserved c =
    let q = c.args.q.now in
    let attrs = c.attrs-attrs.result.now in
    let list = c.loop-i.list.items in
    let after = c.add_each.new.list.items in
    let a = get_or attrs c.loop-i.i record { stream = 0; column = 0 } in
    let rest = drop (c.loop-i.i + 1) attrs in
    let left = subst (λ xs. each_once (list ++ own_pairs q xs) ≡ each_once (c.args.list.now.items ++ own_pairs q (attrs_of q.atoms))) (drop_more attrs c.loop-i.i record { stream = 0; column = 0 } c.loop-i-test.true) c.loop-i.invariant.left in
    let is : c.as_slice.result.now ≡ column_pairs q a rest = c.as_slice.ensures.value ∙ c.column_pairs-pairs.ensures ∙ ap (column_pairs q a) (take_rest attrs (c.loop-i.i + 1)) in
    let e = subst (λ m. after ≡ each_once (list ++ m)) is c.in_ok-add_each.ensures in
    record {
      once = adds_once list (column_pairs q a rest) after e;
      left = adds_more list (column_pairs q a rest) (own_pairs q rest) after _ e left;
    }
