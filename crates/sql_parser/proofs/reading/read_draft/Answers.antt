use Rattle.std.proofs.Common.{◌≡◌, ◌∙◌, ◌≤◌, ℕ, length, ap, sym, subst, arith, Some, None}
use Rattle.std.specs.Prelude.{slice_range}
use Rattle.std.proofs.lemmas.List.{drop_all}
use Rattle.sql_lexer.specs.declared.token.Token.{Token}
use Rattle.sql_lexer.specs.Tokens.{tokens_from}
use Rattle.sql_parser.specs.declared.draft.Draft.{Draft}
use Rattle.sql_parser.specs.declared.outline.Outline.{Outline}
use Rattle.sql_parser.specs.DraftSteps.{drafted}
use Rattle.sql_parser.specs.Outlines.{outlined}
use Rattle.sql_parser.specs.Steps.{step_of}
use Rattle.sql_parser.specs.Syntax.{IsFault}
use Rattle.sql_parser.proofs.Outlining.{Drafted, drafted_none, drafted_more, drafted_all, outlined_stuck, outlined_stops, token_there, none_there}
use Rattle.sql_parser.proofs.reading.read_draft.Goals as goal

pub loop-outline-init : goal.loop-outline-init
loop-outline-init c =
    let P : Outline → Type 0 = λ o. Drafted c.args.line.now 0 o c.args.draft.now in
    record {
      so_far = subst P (sym c.start-outline.ensures) (drafted_none c.args.line.now c.args.draft.now c.requires.none);
      inside = omega arith;
    }

pub returns-in-Err : goal.returns-in-Err
returns-in-Err c = outlined_stuck c.args.line.now c.loop-outline.place c.in-Err.fault.at c.loop-outline.outline c.in-Err.ensures c.loop-outline.invariant.so_far.0

pub returns-in-Ok-None : goal.returns-in-Ok-None
returns-in-Ok-None c =
    let line = c.args.line.now in
    let place = c.loop-outline.place in
    drafted_all line place c.loop-outline.outline c.loop-outline.draft (none_there line place c.in-Ok-None.field-0 c.in-Ok-None.field-0-is c.in-Ok-None.ensures) c.loop-outline.invariant.so_far

pub returns-in-None : goal.returns-in-None
returns-in-None c =
    let line = c.args.line.now in
    let place = c.loop-outline.place in
    let t : Token = c.in-Ok-Some.token in
    let o : Outline = c.loop-outline.outline in
    let P : ℕ → Type 0 = λ at. IsFault line at in
    let none : step_of o.state t.kind (slice_range line t.from t.to) ≡ None = ap (step_of o.state t.kind) (sym c.text_at.ensures) ∙ sym c.in-None.ensures in
    let n = token_there line place c.in-Ok-Some.field-0 t c.in-Ok-Some.field-0-is c.in-Ok-Some.ensures in
    subst P (sym c.fault_or.ensures) (outlined_stops line place t o n.1 none c.loop-outline.invariant.so_far.0)

pub loop-outline-preserved : goal.loop-outline-preserved
loop-outline-preserved c =
    let line = c.args.line.now in
    let place = c.loop-outline.place in
    let t : Token = c.in-Ok-Some.token in
    let o : Outline = c.loop-outline.outline in
    let to = c.in-Some.to in
    let a = c.in-Some.action in
    let leads : step_of o.state t.kind (slice_range line t.from t.to) ≡ Some (to, a) = ap (step_of o.state t.kind) (sym c.text_at.ensures) ∙ sym c.in-Some.ensures in
    let n = token_there line place c.in-Ok-Some.field-0 t c.in-Ok-Some.field-0-is c.in-Ok-Some.ensures in
    let kept : c.take.new.self ≡ drafted a (slice_range line t.from t.to) c.loop-outline.draft = c.take.ensures ∙ ap (λ w. drafted a w c.loop-outline.draft) c.text_at-in-Some.ensures in
    let P : Outline → Type 0 = λ x. Drafted line t.to x c.take.new.self in
    let Q : Draft → Type 0 = λ x. Drafted line t.to (outlined line t to a o) x in
    record {
      so_far = subst P (sym c.take-in-Some.ensures) (subst Q (sym kept) (drafted_more line place t to a o c.loop-outline.draft n.0 n.1 leads c.loop-outline.invariant.so_far));
      inside = n.0.inside;
    }

pub returns : goal.returns
returns c =
    let line = c.args.line.now in
    let place = c.loop-outline.place in
    let past : length line ≤ place = omega (arith, c.loop-outline-test.false, c.from.ensures) in
    drafted_all line place c.loop-outline.outline c.loop-outline.draft (ap (tokens_from 0 place) (drop_all place line past)) c.loop-outline.invariant.so_far
