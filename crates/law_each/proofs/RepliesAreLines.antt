-- Each reply is lines, none of which is empty or has a `;`.
use Rattle.std.proofs.Common.{◌≡◌, ℕ, ◌+◌, Bool, true, false, cond, List, [], ◌∷◌, ◌++◌, map, flat_map, codes, decimal, pos, refl, sym, subst, arith}
use Rattle.std.specs.List.{AllByRecursion}
use Rattle.std.specs.Str.{bytes_eq}
use Rattle.std.proofs.lemmas.List.Elements.{recursion_from_All}
use Rattle.std.proofs.lemmas.Slice.Eq.{bytes_eq-Decides}
use Rattle.sql_explain.specs.Text.{explain_text}
use Rattle.sem_query.specs.Meaning.{Arrival}
use Rattle.sem_query.specs.Query.{QueryValue}
use Rattle.sem_query.specs.Verdict.{Verdict}
use Rattle.sem_query.specs.Verdict as verdicts
use Rattle.sem_query.specs.declared.condition.Condition.{Condition}
use Rattle.sem_query.specs.declared.condition.Condition.TheVariants.{C1, C2, C3}
use Rattle.sem_query.specs.declared.decision.Which.{Which}
use Rattle.sem_query.specs.declared.decision.Which.TheVariants.{Parts, Cells, Answers, Work}
use Rattle.sem_query.specs.declared.plan.Numbers.{Numbers}
use Rattle.sem_query.specs.declared.plan.Plan.{Plan}
use Rattle.sem_query.specs.declared.plan.Plan.TheVariants as plans
use Rattle.sql_parser.specs.declared.tree.Statement.TheVariants.{ResumeRows}
use Rattle.sql_printer.specs.Printed.{printed_form}
use Rattle.sql_parser.specs.Naming.{column_text}
use Rattle.sql_parser.specs.Resolution.{column_named}
use Rattle.exec_registry.specs.Live.{LiveQuery, answers_of, base_in}
use Rattle.sql_replies.specs.Texts.{condition_text, numbers_text, plan_text, verdict_text, which_text, word_text}
use Rattle.sql_replies.specs.declared.refusal.Refusal.{Refusal}
use Rattle.sql_replies.specs.declared.refusal.Refusal.TheVariants.{LineTooLong, Locked, Syntax, Limit, Duplicate, TooMany, UnknownStream, UnknownColumn, SelfJoin, UnknownQuery, Late, Arity, Value, Domain, RowLimit}
use Rattle.sql_catalog.specs.Streams.{Shape}
use Rattle.cmd_session.specs.Answer.{Answer}
use Rattle.cmd_session.specs.Answers.{IsAnswer, IsDecided, Settles, accepted, rejected}
use Rattle.cmd_session.specs.Checkpoint.{checkpoint_lines, kept_lines, query_line, stream_line}
use Rattle.cmd_session.specs.Replies.{answers_to, explained_text, reply_by, reply_to}
use Rattle.cmd_session.specs.Request.{Request, silent, created, asked, explained, dropped, taken, saved, resumed, based, locked, unlocked, refused}
use Rattle.cmd_session.specs.State.{State}
use Rattle.sql_text.specs.Name.{is_name}
use Rattle.sql_text.specs.Tuple.{tuple_line}
use Rattle.law_resume.specs.Restores.{IsRestorable}
use Rattle.law_resume.proofs.Reached.{reached_states_are_restorable}
use Rattle.law_each.specs.ComesApart.{IsReplyLine, IsLines, RepliesAreLines}
use Rattle.law_each.proofs.Inner.{Inner, name_inner, decimal_inner, no_lines, all_both, lines_all, lines_each, pieces_line}
use Rattle.law_each.proofs.PlanLines.{HasInnerNames, answer_is, attr_inner, catalog_inner, create_line_is, explained_are, kept_lines_are, rows_line_is, stream_line_is}
use Rattle.law_each.proofs.ReplyNames.{TellsName, asks_tell}

-- the names of a state are names
pub record HasNames (s : State) : Type 0 where
  pub streams : AllByRecursion HasInnerNames s.streams
  pub queries : AllByRecursion (λ (q : LiveQuery). is_name q.name ≡ true) s.queries

word_inner : (word : Refusal) → Inner (word_text word)
word_inner LineTooLong = refl
word_inner Locked = refl
word_inner Syntax = refl
word_inner Limit = refl
word_inner Duplicate = refl
word_inner TooMany = refl
word_inner UnknownStream = refl
word_inner UnknownColumn = refl
word_inner SelfJoin = refl
word_inner UnknownQuery = refl
word_inner Late = refl
word_inner Arity = refl
word_inner Value = refl
word_inner Domain = refl
word_inner RowLimit = refl

condition_inner : (c : Condition) → Inner (condition_text c)
condition_inner C1 = refl
condition_inner C2 = refl
condition_inner C3 = refl

which_inner : (which : Which) → Inner (which_text which)
which_inner Parts = refl
which_inner Cells = refl
which_inner Answers = refl
which_inner Work = refl

-- an error
error_is : (n : ℕ) (word : Refusal) → IsLines (codes "error " ++ decimal (n + 1) ++ 32 ∷ word_text word ++ 10 ∷ [])
error_is n word = pieces_line (codes "error ") (decimal (n + 1) ∷ (32 ∷ word_text word) ∷ []) (omega arith) refl (decimal_inner (n + 1), (word_inner word, tt))

-- a query that is accepted, or refused
numbers_are : (name : List ℕ) (n : Numbers) → Inner name → IsLines (numbers_text name n)
numbers_are name n h =
    pieces_line (codes "ok query ")
    (name ∷ codes " parts " ∷ decimal n.parts ∷ codes " cells " ∷ decimal n.cells ∷ codes " answers " ∷ decimal n.answers ∷ codes " work " ∷ decimal n.work ∷ []) (omega arith) refl
    (h, (refl, (decimal_inner n.parts, (refl, (decimal_inner n.cells, (refl, (decimal_inner n.answers, (refl, (decimal_inner n.work, tt)))))))))

accepted_are : (name : List ℕ) (plan : Plan) → Inner name → IsLines (plan_text name plan)
accepted_are name plans.Filter h = pieces_line (codes "ok query ") (name ∷ codes " filter" ∷ []) (omega arith) refl (h, (refl, tt))
accepted_are name (plans.Parts ps numbers) h = numbers_are name numbers h

refused_are : (streams : List Shape) (name : List ℕ) (q : QueryValue) (verdict : Verdict) → AllByRecursion HasInnerNames streams → Inner name → IsLines (verdict_text streams name q verdict)
refused_are streams name q verdicts.filter names h = no_lines
refused_are streams name q (verdicts.violation f) names h =
    pieces_line (codes "refused ")
    (name ∷ codes " part " ∷ decimal f.part ∷ (32 ∷ condition_text f.condition) ∷ (32 ∷ column_text (column_named streams q.from f.attr)) ∷ []) (omega arith) refl
    (h, (refl, (decimal_inner f.part, (condition_inner f.condition, (attr_inner streams names q.from f.attr, tt)))))
refused_are streams name q (verdicts.limit which) names h = pieces_line (codes "refused ") (name ∷ codes " limit " ∷ which_text which ∷ []) (omega arith) refl (h, (refl, (which_inner which, tt)))
refused_are streams name q verdicts.pool names h = pieces_line (codes "refused ") (name ∷ codes " limit pool" ∷ []) (omega arith) refl (h, (refl, tt))
refused_are streams name q (verdicts.accepted numbers) names h = no_lines

-- answers to a row
answers_are : (r : Arrival) (queries : List LiveQuery) → AllByRecursion (λ (q : LiveQuery). is_name q.name ≡ true) queries → IsLines (flat_map (answers_to r) queries)
answers_are r queries h = lines_each (λ (q : LiveQuery). is_name q.name ≡ true) (answers_to r)
    (λ q named. (let n = name_inner q.name named in lines_all (tuple_line q.name) (λ values. answer_is q.name values n.0 n.1) (answers_of r q))) queries h

-- how a query runs
explain_are : (streams : List Shape) (name : List ℕ) (queries : List LiveQuery) → AllByRecursion HasInnerNames streams → AllByRecursion (λ (q : LiveQuery). is_name q.name ≡ true) queries → IsLines (explained_text streams name queries)
explain_are streams name [] names h = no_lines
explain_are streams name (q ∷ queries) names h = by (bytes_eq q.name name) refl (explain_are streams name queries names h.1)
  where
    by : (b : Bool) → bytes_eq q.name name ≡ b → IsLines (explained_text streams name queries) → IsLines (cond b (explain_text streams name q.query q.plan) (explained_text streams name queries))
    by true e others = explained_are streams names name q.query q.plan (subst Inner ((bytes_eq-Decides q.name name).0 e) (name_inner q.name h.0).1)
    by false e others = others

-- a checkpoint
queries_are : (streams : List Shape) (queries : List LiveQuery) → AllByRecursion HasInnerNames streams → AllByRecursion (λ (q : LiveQuery). is_name q.name ≡ true) queries → AllByRecursion IsReplyLine (map (query_line streams) queries)
queries_are streams [] names h = tt
queries_are streams (q ∷ queries) names h = (create_line_is streams names q.name q.query q.shared (name_inner q.name h.0).1, queries_are streams queries names h.1)

streams_are : (streams : List Shape) → AllByRecursion HasInnerNames streams → AllByRecursion IsReplyLine (map stream_line streams)
streams_are [] names = tt
streams_are (s ∷ streams) names = (stream_line_is s names.0, streams_are streams names.1)

kept_are : (queries : List LiveQuery) → AllByRecursion (λ (q : LiveQuery). is_name q.name ≡ true) queries → AllByRecursion IsReplyLine (flat_map kept_lines queries)
kept_are [] h = tt
kept_are (q ∷ queries) h = all_both IsReplyLine (kept_lines q) (flat_map kept_lines queries) (kept_lines_are q.name q.query.distinct (base_in q) (name_inner q.name h.0).1) (kept_are queries h.1)

checkpoint_is : (s : State) → HasNames s → IsLines (reply_by s saved)
checkpoint_is s h = record {
  parts = checkpoint_lines s;
  are = all_both IsReplyLine (map stream_line s.streams ++ map (query_line s.streams) s.queries) (printed_form (ResumeRows (pos s.taken)) ∷ flat_map kept_lines s.queries) (all_both IsReplyLine (map stream_line s.streams) (map (query_line s.streams) s.queries) (streams_are s.streams h.streams) (queries_are s.streams s.queries h.streams h.queries))
      (rows_line_is s.taken, kept_are s.queries h.queries);
  whole = refl;
}

settled : (s : State) (line : List ℕ) (answer : Answer) → HasNames s → IsAnswer s line answer → IsLines (reply_to s answer)
settled s line answer h is = by is.request (asks_tell s line is.request is.asks) is.settles
  where
    decides : (name : List ℕ) (q : QueryValue) (shared : Bool) (free : ℕ) → is_name name ≡ true → IsDecided name q shared free answer → IsLines (reply_to s answer)
    decides name q shared free n (accepted plan of verdict e) = subst (λ x. IsLines (reply_to s x)) (sym e) (accepted_are name plan (name_inner name n).1)
    decides name q shared free n (rejected verdict of refuses e) = subst (λ x. IsLines (reply_to s x)) (sym e) (refused_are s.streams name q verdict h.streams (name_inner name n).1)

    by : (request : Request) → TellsName request → Settles s request answer → IsLines (reply_to s answer)
    by silent n e = subst (λ x. IsLines (reply_to s x)) (sym e) no_lines
    by (created name columns) n e = subst (λ x. IsLines (reply_to s x)) (sym e) (pieces_line (codes "ok stream ") (name ∷ []) (omega arith) refl ((name_inner name n).1, tt))
    by (asked name q shared) n e = decides name q shared _ n e
    by (explained name) n e = subst (λ x. IsLines (reply_to s x)) (sym e) (explain_are s.streams name s.queries h.streams h.queries)
    by (dropped name) n e = subst (λ x. IsLines (reply_to s x)) (sym e) (pieces_line (codes "ok drop ") (name ∷ []) (omega arith) refl ((name_inner name n).1, tt))
    by (taken stream values) n e = subst (λ x. IsLines (reply_to s x)) (sym e) (answers_are (record { stream = stream; values = values }) s.queries h.queries)
    by saved n e = subst (λ x. IsLines (reply_to s x)) (sym e) (checkpoint_is s h)
    by (resumed count) n e = subst (λ x. IsLines (reply_to s x)) (sym e) no_lines
    by (based name base) n e = subst (λ x. IsLines (reply_to s x)) (sym e) no_lines
    by (locked lock) n e = subst (λ x. IsLines (reply_to s x)) (sym e) (pieces_line (codes "ok lock") [] (omega arith) refl tt)
    by unlocked n e = subst (λ x. IsLines (reply_to s x)) (sym e) (pieces_line (codes "ok unlock") [] (omega arith) refl tt)
    by (refused word) n e = subst (λ x. IsLines (reply_to s x)) (sym e) (error_is s.lines word)

names_in : (streams : List Shape) (n : ℕ) (queries : List LiveQuery) → AllByRecursion (IsRestorable streams n) queries → AllByRecursion (λ (q : LiveQuery). is_name q.name ≡ true) queries
names_in streams n [] h = tt
names_in streams n (q ∷ queries) h = (h.0.short.name, names_in streams n queries h.1)

pub replies_are_lines : RepliesAreLines
replies_are_lines limit small s is line answer of =
    let all = reached_states_are_restorable limit small s is in
    settled s line answer (record { streams = catalog_inner s.streams all.1; queries = names_in s.streams s.taken s.queries (recursion_from_All (IsRestorable s.streams s.taken) s.queries all.2) }) of
