use Rattle.std.proofs.Common.{◌≡◌, ◌<◌, ◌++◌, length, sym, subst, ◌∙◌, ap}
use Rattle.std.specs.List.{flat_map}
use Rattle.sem_query.specs.Query.{attrs_of}
use Rattle.sem_query.specs.Parts.{each_once}
use Rattle.plan_split_pairs.specs.Listed.{IsOnce}
use Rattle.plan_split_pairs.specs.Pairs.{unlike_pair, own_pairs, split_pairs, HasManyPairs}
use Rattle.plan_split_pairs.proofs.Adding.{once_twice, once_append}
use Rattle.plan_split_pairs.proofs.Room.{answers_none}
use Rattle.plan_split_pairs.proofs.pairs.form_pairs.Goals as goal

pub add_own-requires-clause-once : goal.add_own-requires-clause-once
add_own-requires-clause-once c = subst IsOnce (sym c.unlike_pairs-list.ensures.value) (once_twice (flat_map unlike_pair c.args.q.now.atoms))

pub returns-in_err-add_own : goal.returns-in_err-add_own
returns-in_err-add_own c =
    let us = flat_map unlike_pair c.args.q.now.atoms in
    let own = own_pairs c.args.q.now (attrs_of c.args.q.now.atoms) in
    answers_none c.from_residual.result (HasManyPairs c.args.q.now) (λ l. l.items ≡ split_pairs c.args.q.now) c.from_residual.ensures
    (subst (λ l. 114 < length l) (ap (λ l. each_once (l ++ own)) c.unlike_pairs-list.ensures.value ∙ once_append us own) c.in_err-add_own.ensures)

pub returns : goal.returns
returns c =
    let us = flat_map unlike_pair c.args.q.now.atoms in
    let own = own_pairs c.args.q.now (attrs_of c.args.q.now.atoms) in
    c.in_ok-add_own.ensures ∙ ap (λ l. each_once (l ++ own)) c.unlike_pairs-list.ensures.value ∙ once_append us own
