use Rattle.std.proofs.Common.{◌≡◌, refl, ap, ◌∙◌, map}
use Rattle.sem_query.specs.Query.{QueryValue}
use Rattle.sem_query.specs.Groups.{group_of}
use Rattle.sem_query.specs.Parts.{pairs, all_pairs}
use Rattle.sem_query.proofs.FewPairs.{few_all, few_joined}
use Rattle.sem_query.proofs.query.Query.new.Goals as goal

-- the pairs of a query are all of its comparisons
listed_as : (q : QueryValue) → all_pairs q.atoms ≡ pairs q
unfolding pairs
listed_as q = refl

pub add_pairs-requires : goal.add_pairs-requires
add_pairs-requires c =
    rw (c.as_slice.ensures.value, c.as_slice-2.ensures.value, c.named-attrs.ensures.attrs, c.named-attrs.ensures.consts, c.soft_pairs-named_pairs.ensures) (few_all _ c.requires)

pub each_once-pair_list-requires : goal.each_once-pair_list-requires
each_once-pair_list-requires c =
    rw (c.as_slice-3.ensures.value, c.add_pairs.ensures, c.as_slice.ensures.value, c.as_slice-2.ensures.value, c.named-attrs.ensures.attrs, c.named-attrs.ensures.consts, c.soft_pairs-named_pairs.ensures) (few_joined _ c.requires)

pub invariant_of-result : goal.invariant_of-result
invariant_of-result c =
    let q : QueryValue = record { distinct = c.args.distinct; from = c.args.from.now; select = c.args.select.now; atoms = c.args.atoms.now; domains = c.args.domains.now; compact = c.args.compact } in
    let listed : c.each_once-pair_list.result.items ≡ pairs q =
    c.each_once-pair_list.ensures
    ∙ rw (c.as_slice-3.ensures.value, c.add_pairs.ensures, c.as_slice.ensures.value, c.as_slice-2.ensures.value, c.named-attrs.ensures.attrs, c.named-attrs.ensures.consts, c.soft_pairs-named_pairs.ensures) (listed_as q) in
    let grouped : c.groups-groups.result.items ≡ map (group_of q.atoms) c.named-attrs.result.0.items =
    c.groups-groups.ensures ∙ ap (map (group_of q.atoms)) c.as_slice-4.ensures.value in
    rw (c.copied.ensures, c.copied-2.ensures, c.copied-3.ensures, c.copied-4.ensures) (c.requires, c.named-attrs.ensures, grouped, listed)
