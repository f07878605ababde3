-- What an outline tells of its line.
use Rattle.std.proofs.Common.{◌≡◌, ℕ, Bool, true, false, cond, List, length, Option, Some, None, Result, Ok, ap, sym, ◌∙◌, subst, refl, inr}
use Rattle.std.specs.List.{list_any}
use Rattle.sql_lexer.specs.declared.token.Token.{Token}
use Rattle.sql_lexer.specs.Tokens.{tokens}
use Rattle.sql_lexer.proofs.Standing.{tokens_stand}
use Rattle.sql_parser.specs.declared.draft.Draft.{Draft}
use Rattle.sql_parser.specs.declared.draft.Form.{Form}
use Rattle.sql_parser.specs.declared.draft.Form.TheVariants as forms
use Rattle.sql_parser.specs.declared.head.Head.{Head}
use Rattle.sql_parser.specs.declared.outline.Outline.{Outline}
use Rattle.sql_parser.specs.declared.parsing.What.TheVariants as limits
use Rattle.sql_parser.specs.declared.parsing.ParseError.TheVariants.{Limit}
use Rattle.sql_parser.specs.declared.plain.PlainStatement.{PlainStatement}
use Rattle.sql_parser.specs.declared.plain.PlainStatement.TheVariants as plain
use Rattle.sql_parser.specs.declared.plain.PlainReading.TheVariants.{Refused}
use Rattle.sql_parser.specs.declared.transitions.State.{State}
use Rattle.sql_parser.specs.declared.transitions.State.TheVariants.{Start}
use Rattle.sql_parser.specs.declared.tree.Statement.{Statement}
use Rattle.sql_parser.specs.declared.tree.Statement.TheVariants.{CreateStream, CreateQuery, ResumeTuple, Lock}
use Rattle.sql_parser.specs.DraftLimits.{is_long_token, is_wide_token, limit_by, limit_in_values, limit_with}
use Rattle.sql_parser.specs.DraftSteps.{statement_by, statement_of}
use Rattle.sql_parser.specs.Limits.{limit_of}
use Rattle.sql_parser.specs.Outlines.{head_in, IsOutline, IsDraft, whole_of, unless_wide, reading_by, reading_in, IsReading}
use Rattle.sql_parser.specs.Reading.{Parts, no_parts, finished, walk, may_end}
use Rattle.sql_parser.specs.Syntax.{lexemes, IsStatement, IsFault, IsFaultOf}
use Rattle.sql_parser.specs.Grammar.{Lexeme}
use Rattle.sql_parser.proofs.Again.{spelled_read}
use Rattle.sql_parser.proofs.Verdict.{ends_early}
use Rattle.sql_parser.proofs.Within.{judged}

same_lexed : (o : Result (List Token) ℕ) (ts us : List Token) → o ≡ Ok ts → o ≡ Ok us → ts ≡ us
same_lexed o ts us e f = cc

same_found : (r q : Result (State × Parts) (List Lexeme)) (m n : State × Parts) → r ≡ q → r ≡ Ok m → q ≡ Ok n → m ≡ n
same_found r q m n e f g = cc

same_some : (o : Option Statement) (s t : Statement) → o ≡ Some s → o ≡ Some t → s ≡ t
same_some o s t e f = cc

-- a line is one statement at most
pub one_statement : (line : List ℕ) (s t : Statement) → IsStatement line s → IsStatement line t → s ≡ t
one_statement line s t a b =
    let same = same_lexed (tokens line) a.its_tokens b.its_tokens a.lexed b.lexed in
    let x = spelled_read (lexemes line a.its_tokens) s a.spelled in
    let y = spelled_read (lexemes line b.its_tokens) t b.spelled in
    let there = same_found (walk Start no_parts (lexemes line a.its_tokens)) (walk Start no_parts (lexemes line b.its_tokens)) (x.to, x.parts) (y.to, y.parts) (ap (λ ts. walk Start no_parts (lexemes line ts)) same) x.read y.read in
    same_some (finished x.to x.parts) s t x.finished_there (ap (λ (m : State × Parts). finished m.0 m.1) there ∙ y.finished_there)

-- whether a statement has lists
abbrev has_lists : Statement → Bool
has_lists (CreateStream name columns) = true
has_lists (CreateQuery name select shared) = true
has_lists (ResumeTuple name values) = true
has_lists (Lock k streams) = true
has_lists _ = false

plain_has_none : (s : PlainStatement) → has_lists (whole_of s) ≡ false
plain_has_none (plain.Explain name) = refl
plain_has_none (plain.DropQuery name) = refl
plain_has_none plain.Checkpoint = refl
plain_has_none (plain.ResumeRows rows) = refl
plain_has_none (plain.ResumeGiven name rows) = refl
plain_has_none (plain.ResumeCell name index content) = refl
plain_has_none (plain.Unlock key) = refl

-- a statement with lists is none without
listed_apart : (line : List ℕ) (whole j : Statement) → has_lists whole ≡ true → IsStatement line j → (limit_of j ≡ None → whole ≡ j) → (s : PlainStatement) → IsStatement line (whole_of s) → limit_of (whole_of s) ≡ None → ⊥
listed_apart line whole j lists is same s says within =
    let one : whole_of s ≡ j = one_statement line (whole_of s) j says is in
    let all : whole_of s ≡ whole = one ∙ sym (same (sym (ap limit_of one) ∙ within)) in
    let bad : false ≡ true = sym (plain_has_none s) ∙ ap has_lists all ∙ lists in
    cc

plain_there : (line : List ℕ) (s : PlainStatement) (j : Statement) → IsStatement line j → None ≡ limit_of j → (limit_of j ≡ None → whole_of s ≡ j) → IsStatement line (whole_of s) × (limit_of (whole_of s) ≡ None)
plain_there line s j is e same =
    let P : Statement → Type 0 = λ x. IsStatement line x × (limit_of x ≡ None) in
    subst P (sym (same (sym e))) (is, sym e)

wide_there : (line : List ℕ) (wide : Bool) (s : PlainStatement) (j : Statement) → IsStatement line j → limit_in_values wide false ≡ limit_of j → (limit_of j ≡ None → whole_of s ≡ j) → IsReading line (unless_wide wide s)
wide_there line true s j is e same = (j, is, sym e)
wide_there line false s j is e same = plain_there line s j is e same

reading_judged : (line : List ℕ) (wide : Bool) (m : Form) (d : Draft) (j : Statement) → IsStatement line j → limit_by wide m d ≡ limit_of j → (limit_of j ≡ None → statement_by m d ≡ j) → IsReading line (reading_by wide m (head_in d))
reading_judged line wide forms.Explain d j is e same = plain_there line (plain.Explain d.name) j is e same
reading_judged line wide forms.Drop d j is e same = plain_there line (plain.DropQuery d.name) j is e same
reading_judged line wide forms.Checkpoint d j is e same = plain_there line plain.Checkpoint j is e same
reading_judged line wide forms.Rows d j is e same = wide_there line wide (plain.ResumeRows d.count) j is e same
reading_judged line wide forms.Given d j is e same = wide_there line wide (plain.ResumeGiven d.name d.count) j is e same
reading_judged line wide forms.Cell d j is e same = wide_there line wide (plain.ResumeCell d.name d.index d.count) j is e same
reading_judged line wide forms.Unlock d j is e same = wide_there line wide (plain.Unlock d.count) j is e same
reading_judged line wide forms.Stream d j is e same = listed_apart line (statement_by forms.Stream d) j refl is same
reading_judged line wide forms.Query d j is e same = listed_apart line (statement_by forms.Query d) j refl is same
reading_judged line wide forms.Tuple d j is e same = listed_apart line (statement_by forms.Tuple d) j refl is same
reading_judged line wide forms.Lock d j is e same = listed_apart line (statement_by forms.Lock d) j refl is same

reading_whole : (line : List ℕ) (long wide : Bool) (d : Draft) (j : Statement) → IsStatement line j → cond long (Some limits.Name) (limit_by wide d.form d) ≡ limit_of j → (limit_of j ≡ None → statement_by d.form d ≡ j) → IsReading line (cond long (Refused (Limit limits.Name)) (reading_by wide d.form (head_in d)))
reading_whole line true wide d j is e same = (j, is, sym e)
reading_whole line false wide d j is e same = reading_judged line wide d.form d j is e same

-- a line that may end where its outline does is what the outline says
pub outline_read : (line : List ℕ) (o : Outline) → IsOutline line o → may_end o.state ≡ true → IsReading line (reading_in o)
outline_read line o i ends =
    let j = judged line i.its_tokens o.state i.draft i.lexed (tokens_stand line i.its_tokens i.lexed) i.read ends in
    let long = list_any is_long_token i.its_tokens in
    let wide = list_any (is_wide_token line) i.its_tokens in
    let H : Head → Type 0 = λ h. IsReading line (cond long (Refused (Limit limits.Name)) (reading_by wide h.form h)) in
    let W : Bool → Type 0 = λ b. IsReading line (cond long (Refused (Limit limits.Name)) (reading_by b o.head.form o.head)) in
    let L : Bool → Type 0 = λ b. IsReading line (cond b (Refused (Limit limits.Name)) (reading_by o.wide o.head.form o.head)) in
    subst L (sym i.long) (subst W (sym i.wide) (subst H (sym i.head) (reading_whole line long wide i.draft j.statement j.is j.limit j.same)))

-- a line that may not end where its outline does is outside the grammar at its end
pub outline_ends : (line : List ℕ) (o : Outline) → IsOutline line o → may_end o.state ≡ false → IsFault line (length line)
outline_ends line o i never =
    let P : Result (List Token) ℕ → Type 0 = λ r. IsFaultOf line r (length line) in
    subst P (sym i.lexed) (inr (ends_early line i.its_tokens o.state i.read.parts i.read.read never))

-- what a draft tells of its line, which may end where its outline does
pub record DraftJudged (line : List ℕ) (o : Outline) (d : Draft) : Type 0 where
  pub statement : Statement
  pub is : IsStatement line statement
  pub limit : limit_with o.long o.wide d ≡ limit_of statement
  pub same : limit_of statement ≡ None → statement_of d ≡ statement

pub draft_judged : (line : List ℕ) (o : Outline) (d : Draft) → IsDraft line o d → may_end o.state ≡ true → DraftJudged line o d
draft_judged line o d p ends =
    let i = p.0 in
    let j = judged line i.its_tokens o.state i.draft i.lexed (tokens_stand line i.its_tokens i.lexed) i.read ends in
    record {
      statement = j.statement;
      is = j.is;
      limit = ap (λ b. limit_with b o.wide d) i.long
          ∙ ap (λ b. limit_with (list_any is_long_token i.its_tokens) b d) i.wide
          ∙ ap (λ x. limit_with (list_any is_long_token i.its_tokens) (list_any (is_wide_token line) i.its_tokens) x) (sym p.1)
          ∙ j.limit;
      same = λ none. ap statement_of (sym p.1) ∙ j.same none;
    }
