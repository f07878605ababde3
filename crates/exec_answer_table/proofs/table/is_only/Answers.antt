use Rattle.std.proofs.Common.{◌≡◌, ◌&&◌, Bool, true, false, length, nat_eq, sym, ap₂, ◌∙◌, arith}
use Rattle.std.proofs.lemmas.Bool.Decides.{nat_tests}
use Rattle.std.specs.declared.cmp.Ordering.{Ordering}
use Rattle.exec_answer_table.specs.Entries.{has, has_at}
use Rattle.exec_answer_table.proofs.table.is_only.Goals as goal

pub returns-in-Less : goal.returns-in-Less
unfolding has
returns-in-Less c =
    let same = c.if-t-only.false in
    let wide : nat_eq (length c.args.t.now) (length c.args.only.now) ≡ true = grind (arith, nat_tests) in
    sym (ap₂ (λ (a : Bool) (o : Ordering). a && has_at o false) wide (sym c.compare.ensures ∙ c.in-Less.is))

pub returns-in-Equal : goal.returns-in-Equal
unfolding has
returns-in-Equal c =
    let same = c.if-t-only.false in
    let wide : nat_eq (length c.args.t.now) (length c.args.only.now) ≡ true = grind (arith, nat_tests) in
    sym (ap₂ (λ (a : Bool) (o : Ordering). a && has_at o false) wide (sym c.compare.ensures ∙ c.in-Equal.is))

pub returns-in-Greater : goal.returns-in-Greater
unfolding has
returns-in-Greater c =
    let same = c.if-t-only.false in
    let wide : nat_eq (length c.args.t.now) (length c.args.only.now) ≡ true = grind (arith, nat_tests) in
    sym (ap₂ (λ (a : Bool) (o : Ordering). a && has_at o false) wide (sym c.compare.ensures ∙ c.in-Greater.is))
