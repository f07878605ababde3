use Rattle.std.proofs.Common.{◌≡◌, true, length, map, nat_eq, sym, ap, ◌∙◌, List}
use Rattle.sem_query.specs.Meaning.{by_column}
use Rattle.exec_answer_table.specs.Entries.{Entry, TableValue, with_entries, Fits}
use Rattle.exec_answer_table.specs.Lone.{table_with}
use Rattle.exec_answer_table.proofs.FirstEntry.{none_of, none_listed, room_first, first_upto}
use Rattle.exec_answer_table.proofs.table.Answers.add_columns_upto.Goals as goal

pub invariant_of-self : goal.invariant_of-self
invariant_of-self c =
    let v : TableValue = table_with c.self.inside.lone c.self.inside.listed in
    let none : nat_eq (length v.entries) 0 ≡ true = ap (λ (x : TableValue). nat_eq (length x.entries) 0) c.self.view_is ∙ sym c.is_empty.ensures ∙ c.if-is_empty.true in
    let fits : Fits (map (by_column c.args.row.now) c.args.columns.now) v = rw (← c.self.view_is) at c.requires.room in
    λ there. (
      none_listed c.self.inside.lone c.self.inside.listed c.self.invariant none,
      ap length c.put_columns.ensures ∙ c.requires.width ∙ sym (ap (λ (x : TableValue). x.width) c.self.view_is),
      room_first (map (by_column c.args.row.now) c.args.columns.now) v (none_of v.entries none) fits,
    )

pub returns-then-is_empty : goal.returns-then-is_empty
returns-then-is_empty c =
    let v : TableValue = table_with c.self.inside.lone c.self.inside.listed in
    let none : nat_eq (length v.entries) 0 ≡ true = ap (λ (x : TableValue). nat_eq (length x.entries) 0) c.self.view_is ∙ sym c.is_empty.ensures ∙ c.if-is_empty.true in
    rw (← c.self.view_is)
    (rw (c.put_columns.ensures, c.sum_upto-self-inside.ensures)
    (ap (λ (es : List Entry). with_entries c.self.inside.listed es)
    (first_upto (map (by_column c.args.row.now) c.args.columns.now) c.args.n c.args.most v.entries (none_of v.entries none))))
