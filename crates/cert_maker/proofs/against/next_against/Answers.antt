use Rattle.std.proofs.Common.{◌∙◌, sym}
use Rattle.cert_checker.specs.Shown.{branching_of}
use Rattle.cert_maker.proofs.Closing.{placed, next_named, next_none}
use Rattle.cert_maker.proofs.AtNode.{node_atoms, few_atoms}
use Rattle.cert_maker.proofs.against.next_against.Goals as goal

pub number-requires : goal.number-requires
number-requires c = placed (branching_of c.args.branches.now.shown c.args.branches.now.query.now) c.atoms.result.now (c.atoms.ensures.value ∙ sym (node_atoms _ _ _ _ _ c.requires.node c.requires.room)) _ c.in-Some.place (few_atoms c.args.branches.now.query.now c.atoms.result.now c.atoms.ensures.value c.atoms.ensures.limits) c.in-Some.ensures

pub returns-in-Some : goal.returns-in-Some
returns-in-Some c =
    next_named (branching_of c.args.branches.now.shown c.args.branches.now.query.now) c.atoms.result.now (c.atoms.ensures.value ∙ sym (node_atoms _ _ _ _ _ c.requires.node c.requires.room)) c.args.branches.now.pairs.now c.args.signs.now c.args.sign _ c.in-Some.place _ c.requires.node.pairs c.requires.room c.in-Some.ensures c.number.ensures

pub returns-in-None : goal.returns-in-None
returns-in-None c =
    next_none (branching_of c.args.branches.now.shown c.args.branches.now.query.now) c.atoms.result.now (c.atoms.ensures.value ∙ sym (node_atoms _ _ _ _ _ c.requires.node c.requires.room)) c.args.branches.now.pairs.now c.args.signs.now c.args.sign _ c.requires.node.pairs c.requires.room c.requires.node.agree c.in-None.ensures
