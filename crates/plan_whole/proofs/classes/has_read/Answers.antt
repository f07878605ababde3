use Rattle.std.proofs.Common.{◌↔◌, ◌∙◌, IsTrue, subst}
use Rattle.std.specs.List.{Any}
use Rattle.sem_whole.specs.System.{system, AreOneClass}
use Rattle.plan_whole.proofs.Following.{or_then, or_else}
use Rattle.plan_whole.proofs.Classing.{read_told, selected_read}
use Rattle.plan_whole.proofs.classes.has_read.Goals as goal

pub returns-then-selected : goal.returns-then-selected
returns-then-selected c =
    or_then c.is_class_of_one-selected.result (selected_read c.args.closed.now c.args.links.now c.args.a)
    (subst (λ xs. IsTrue c.is_class_of_one-selected.result ↔ Any (AreOneClass (system c.args.closed.now) c.args.a) xs) (c.select.ensures.value ∙ c.query.ensures.select) c.is_class_of_one-selected.ensures) c.if-selected.true

pub returns-else-selected : goal.returns-else-selected
returns-else-selected c =
    or_else c.is_class_of_one-selected.result c.is_side_of_one-linked.result
    (read_told c.args.closed.now c.args.links.now c.args.a c.is_class_of_one-selected.result c.is_side_of_one-linked.result
    (subst (λ xs. IsTrue c.is_class_of_one-selected.result ↔ Any (AreOneClass (system c.args.closed.now) c.args.a) xs) (c.select.ensures.value ∙ c.query.ensures.select) c.is_class_of_one-selected.ensures)
    c.is_side_of_one-linked.ensures)
    c.if-selected.false
