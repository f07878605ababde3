use Rattle.std.proofs.Common.{sym, ◌∙◌, ap₂}
use Rattle.sem_query.specs.Query.{attr_eq}
use Rattle.sem_query.specs.Groups.{group_of}
use Rattle.sem_query.proofs.GroupTable.{alone_in}
use Rattle.sem_query.proofs.groups.are_of_one_group.Goals as goal

pub returns : goal.returns
returns c =
    let alone = alone_in c.args.atoms.now c.args.attrs.now c.requires.attrs in
    c.is_same.ensures
    ∙ ap₂ attr_eq (c.group_among.ensures (group_of c.args.atoms.now) (sym c.requires.table) (alone c.args.left)) (c.group_among-2.ensures (group_of c.args.atoms.now) (sym c.requires.table) (alone c.args.right))
