use Rattle.std.proofs.Common.{subst}
use Rattle.plan_forms.specs.Fitting.{AreCheaperParts}
use Rattle.plan_forms.proofs.Cheaper.{none_whole, is_whole}
use Rattle.plan_forms.proofs.whole.cheaper.Goals as goal

pub returns-in-Some : goal.returns-in-Some
returns-in-Some c =
    let h = subst (AreCheaperParts c.args.q.now c.args.whole.part) c.in-Some.is c.in_ok-parts.ensures in
    (none_whole c.args.q.now c.args.whole c.requires.fitted h.0, h.1)

pub returns-in-None : goal.returns-in-None
returns-in-None c =
    let h = subst (AreCheaperParts c.args.q.now c.args.whole.part) c.in-None.is c.in_ok-parts.ensures in
    is_whole c.args.q.now c.args.whole c.requires.fitted c.requires.compact c.requires.plain h
