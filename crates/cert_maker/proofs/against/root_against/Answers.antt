use Rattle.cert_checker.specs.Shown.{branching_of}
use Rattle.cert_maker.proofs.Closing.{placed, root_named, root_none}
use Rattle.cert_maker.proofs.against.root_against.Goals as goal

pub number-requires : goal.number-requires
number-requires c = placed (branching_of c.args.shown c.args.q.now) c.closing_atoms.result.now c.closing_atoms.ensures.value _ c.in-Some.place c.closing_atoms.ensures.few c.in-Some.ensures

pub returns-in-Some-clause-against : goal.returns-in-Some-clause-against
returns-in-Some-clause-against c = root_named (branching_of c.args.shown c.args.q.now) c.closing_atoms.result.now c.closing_atoms.ensures.value c.in-Some.place _ c.in-Some.ensures c.number.ensures

pub returns-in-None-clause-against : goal.returns-in-None-clause-against
returns-in-None-clause-against c = root_none (branching_of c.args.shown c.args.q.now) c.closing_atoms.result.now c.closing_atoms.ensures.value c.in-None.ensures
