use Rattle.adv_key_decision.proofs.OneClass.{one-class, same-number}
use Rattle.adv_key_decision.proofs.grouping.are_one_class.Goals as goal

pub returns-in-Some-class_of : goal.returns-in-Some-class_of
returns-in-Some-class_of c =
    let n = same-number c.in-Some.left c.in-Some-class_of.right in
    one-class c.args.q.now c.args.a c.args.b _ _ c.in-Some.ensures c.in-Some-class_of.ensures _ n.0 n.1

pub returns-in-None-class_of : goal.returns-in-None-class_of
returns-in-None-class_of c = ((λ h. cc), (λ w. absurd (c.in-None-class_of.ensures w.1)))

pub returns-in-None : goal.returns-in-None
returns-in-None c = ((λ h. cc), (λ w. absurd (c.in-None.ensures w.0)))
