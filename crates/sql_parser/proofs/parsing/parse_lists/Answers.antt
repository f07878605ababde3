use Rattle.std.proofs.Common.{◌≡◌, ◌∙◌, sym, subst, None}
use Rattle.sql_parser.specs.declared.tree.Statement.{Statement}
use Rattle.sql_parser.specs.Limits.{limit_of}
use Rattle.sql_parser.specs.Syntax.{IsStatement}
use Rattle.sql_parser.proofs.PlainRead.{draft_judged, outline_ends}
use Rattle.sql_parser.proofs.parsing.parse_lists.Goals as goal

pub returns-then-not-is_end : goal.returns-then-not-is_end
returns-then-not-is_end c = outline_ends c.args.line.now c.in-Ok.outline c.in-Ok.ensures.0 (sym c.if-not-is_end.ensures)

pub returns-in-Some : goal.returns-in-Some
returns-in-Some c =
    let j = draft_judged c.args.line.now c.in-Ok.outline c.read_draft.new.draft c.in-Ok.ensures (sym c.if-not-is_end.ensures) in
    (j.statement, j.is, sym j.limit ∙ sym c.limit_passed.ensures ∙ c.in-Some.is)

pub returns-in-None : goal.returns-in-None
returns-in-None c =
    let j = draft_judged c.args.line.now c.in-Ok.outline c.read_draft.new.draft c.in-Ok.ensures (sym c.if-not-is_end.ensures) in
    let none : limit_of j.statement ≡ None = sym j.limit ∙ sym c.limit_passed.ensures ∙ c.in-None.is in
    let P : Statement → Type 0 = λ s. IsStatement c.args.line.now s × (limit_of s ≡ None) in
    subst P (sym (c.finish.ensures ∙ j.same none)) (j.is, none)
