use Rattle.cert_maker.proofs.AtNode.{node_root}
use Rattle.cert_maker.proofs.Walks.{against}
use Rattle.cert_maker.proofs.tree.from_root.Goals as goal

pub returns-in-Some-clause-walks : goal.returns-in-Some-clause-walks
returns-in-Some-clause-walks c = against _ _ _ c.add.result c.in-Some.number _ _ _ c.root_against.ensures.limits c.in-Some.ensures.against c.requires.few c.add.ensures

pub walk-requires-clause-node : goal.walk-requires-clause-node
walk-requires-clause-node c =
    let b = c.root-bounds.ensures in
    rw (c.as_slice.ensures.value, c.new-signs.ensures) (node_root _ _ _ _ c.requires.pairs c.requires.few_pairs b.limits c.in-None.ensures.against b.attrs b.constraints b.within b.few)
