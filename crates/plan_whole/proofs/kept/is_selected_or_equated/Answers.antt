use Rattle.std.proofs.Common.{◌↔◌, ◌∙◌, inl, IsTrue, subst}
use Rattle.std.specs.List.{Any}
use Rattle.sem_whole.specs.System.{system, AreOneClass}
use Rattle.plan_whole.proofs.Following.{or_then, or_else}
use Rattle.plan_whole.proofs.Asking.{either_named}
use Rattle.plan_whole.proofs.kept.is_selected_or_equated.Goals as goal

pub returns-then-is_class_of_one : goal.returns-then-is_class_of_one
returns-then-is_class_of_one c =
    or_then c.is_class_of_one.result (λ h. inl h)
    (subst (λ xs. IsTrue c.is_class_of_one.result ↔ Any (AreOneClass (system c.args.closed.now) c.args.a) xs) (c.select-select.ensures.value ∙ c.query.ensures.select) c.is_class_of_one.ensures) c.if-is_class_of_one.true

pub returns-else-is_class_of_one : goal.returns-else-is_class_of_one
returns-else-is_class_of_one c =
    or_else c.is_class_of_one.result c.is_equated.result
    (either_named c.args.closed.now c.args.links.now c.args.a c.is_class_of_one.result c.is_equated.result
    (subst (λ xs. IsTrue c.is_class_of_one.result ↔ Any (AreOneClass (system c.args.closed.now) c.args.a) xs) (c.select-select.ensures.value ∙ c.query.ensures.select) c.is_class_of_one.ensures)
    c.is_equated.ensures)
    c.if-is_class_of_one.false
