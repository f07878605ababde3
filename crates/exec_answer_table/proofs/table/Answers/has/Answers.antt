use Rattle.std.proofs.Common.{◌&&◌, ℕ, length, nat_eq, ap, ◌∙◌, [], ◌∷◌}
use Rattle.exec_answer_table.specs.Entries.{entry_of, has}
use Rattle.exec_answer_table.proofs.table.Answers.has.Goals as goal

pub returns-then-self : goal.returns-then-self
unfolding has
returns-then-self c =
    let alone = c.self.invariant c.if-self.true in
    let is = rw (c.as_slice.ensures.value, c.as_slice-then-self.ensures.value) at c.is_only.ensures in
    rw (← c.self.view_is)
    (rw c.if-self.true
    (is ∙ ap (λ (n : ℕ). nat_eq (length c.args.t.now.items) n && has c.args.t.now.items (entry_of c.self.inside.lone.tuple.items 0 ∷ [])) alone.1))
