-- The lines that create live queries again lead to these queries.
use Rattle.std.proofs.Common.{◌≡◌, ℕ, suc, ◌+◌, ◌<◌, ◌≤◌, Bool, true, false, cond, not, ◌||◌, nat_lt, nat_le, List, [], ◌∷◌, ◌++◌, map, flat_map, length, Option, None, Err, refl, sym, ap, ◌∙◌, subst, arith, append_assoc, append-nil, length-append, codes, IsTrue, All, inl, inr}
use Rattle.std.specs.List.{list_any, sum_by, AllByRecursion}
use Rattle.std.specs.Str.{bytes_eq}
use Rattle.std.specs.declared.result.Result.{Result}
use Rattle.std.proofs.lemmas.Bool.Decides.{nat_tests}
use Rattle.std.proofs.lemmas.List.{map-append, length-map}
use Rattle.std.proofs.lemmas.List.Elements.{All-head, All-tail}
use Rattle.std.proofs.lemmas.List.Sums.{sum_by-append, sum_by-cons}
use Rattle.sql_text.specs.Name.{is_name}
use Rattle.sql_text.specs.Value.{fits_i64}
use Rattle.sql_text.specs.declared.key.Key.{Key}
use Rattle.sql_text.specs.declared.key.Key.TheVariants.{CreateKey, QueryKey, SharedKey, AsKey}
use Rattle.sem_query.specs.declared.plan.Plan.{Plan}
use Rattle.sem_query.specs.declared.plan.Plan.TheVariants as plans
use Rattle.sem_query.specs.declared.plan.Numbers.{Numbers}
use Rattle.sem_query.specs.declared.decision.Which.{Which}
use Rattle.sem_query.specs.Query.{QueryValue}
use Rattle.sem_query.specs.Numbers.{pages_of, page_count, numbers_of}
use Rattle.sem_query.specs.Verdict as verdicts
use Rattle.sem_query.specs.Verdict.{first_above, verdict_after, verdict_by}
use Rattle.sem_laws.proofs.PlanTests.{not-true}
use Rattle.sem_laws.proofs.Tests.{and-left, and-right, or-false}
use Rattle.sql_catalog.specs.Streams.{Shape, IsCatalog, all_differ}
use Rattle.sem_forms.specs.Parts.{form_numbers, of_filter, of_plan}
use Rattle.sem_forms.specs.Forms.{IsFormPlan, IsFormVerdict}
use Rattle.sem_forms.specs.Forms as forms
use Rattle.sem_forms.proofs.OnePart.{one_part_numbers}
use Rattle.exec_query.specs.Executor.{IsAccepted}
use Rattle.sql_parser.specs.declared.tree.Statement.{Statement}
use Rattle.sql_parser.specs.declared.tree.SelectAst.{SelectAst}
use Rattle.sql_parser.specs.declared.resolution.ResolveError.{ResolveError}
use Rattle.sql_parser.specs.Grammar.{Lexeme, word, number, key, comma, point, opening, closing, less, equal, greater, less_equal, greater_equal, unequal, semicolon, shared_tokens, compact_tokens, select_tokens, tokens_with, no_words, capitals, statement_tokens}
use Rattle.sql_parser.specs.Limits.{word_in, number_in, names_of, limit_of, is_wide}
use Rattle.sql_parser.specs.Resolution.{resolved, named_select}
use Rattle.sql_parser.specs.Syntax.{IsStatement}
use Rattle.sql_parser.proofs.Compact.{are_names, all_with, numbers_without}
use Rattle.sql_parser.proofs.Resolved.{resolves_back}
use Rattle.sql_parser.proofs.Within.{all_fit}
use Rattle.sql_printer.specs.Printed.{printed_form, short_form, spaced_by, joins, joins_short}
use Rattle.sql_printer.proofs.ReadBack.{printed_statement, short_statement}
use Rattle.sql_printer.proofs.ShortApart.{query_apart}
use Rattle.sql_printer.proofs.Spaced.{IsSound}
use Rattle.exec_registry.specs.Live.{LiveQuery, names, free_pages}
use Rattle.sql_replies.specs.declared.refusal.Refusal.TheVariants.{Duplicate, TooMany}
use Rattle.cmd_session.specs.Request.{asked}
use Rattle.cmd_session.specs.Requests.{is_live, query_named, found_request, statement_request, IsRequest}
use Rattle.cmd_session.specs.Answer.{Answer, registered}
use Rattle.cmd_session.specs.Answers.{acceptance, accepted}
use Rattle.cmd_session.specs.Checkpoint.{query_line}
use Rattle.cmd_session.specs.State.{State}
use Rattle.law_resume.specs.Restores.{LeadsTo, IsRestorable, anew, QueriesAreRestored}
use Rattle.law_resume.proofs.PrintedLines.{IsStatementText, line_text}
use Rattle.law_resume.proofs.Creating.{creation, IsCreatable, creatable}
use Rattle.law_resume.proofs.Leading.{line_asks, no_line, one_line, joined}

-- names are names and integers fit, so the tokens are those of a line
or_left : (a b : Bool) → (a || b) ≡ false → a ≡ false
or_left a b h = (or-false a b h).0

or_right : (a b : Bool) → (a || b) ≡ false → b ≡ false
or_right a b h = (or-false a b h).1

is_fit : (b : Bool) → not b ≡ false → b ≡ true
is_fit true h = refl
is_fit false h = absurd cc

tokens_sound : (ls : List Lexeme) → All (λ n. IsTrue (is_name n)) (flat_map word_in ls) → list_any is_wide (flat_map number_in ls) ≡ false → AllByRecursion IsSound ls
tokens_sound [] n z = tt
tokens_sound (word w ∷ ls) n z = (n 0 w (omega arith), tokens_sound ls (λ i d lt. n (suc i) d (omega (arith, lt))) z)
tokens_sound (number k ∷ ls) n z = (is_fit (fits_i64 k) (or_left (is_wide k) _ z), tokens_sound ls n (or_right (is_wide k) _ z))
tokens_sound (key k ∷ ls) n z = (tt, tokens_sound ls n z)
tokens_sound (comma ∷ ls) n z = (tt, tokens_sound ls n z)
tokens_sound (point ∷ ls) n z = (tt, tokens_sound ls n z)
tokens_sound (opening ∷ ls) n z = (tt, tokens_sound ls n z)
tokens_sound (closing ∷ ls) n z = (tt, tokens_sound ls n z)
tokens_sound (less ∷ ls) n z = (tt, tokens_sound ls n z)
tokens_sound (equal ∷ ls) n z = (tt, tokens_sound ls n z)
tokens_sound (greater ∷ ls) n z = (tt, tokens_sound ls n z)
tokens_sound (less_equal ∷ ls) n z = (tt, tokens_sound ls n z)
tokens_sound (greater_equal ∷ ls) n z = (tt, tokens_sound ls n z)
tokens_sound (unequal ∷ ls) n z = (tt, tokens_sound ls n z)
tokens_sound (semicolon ∷ ls) n z = (tt, tokens_sound ls n z)

statement_sound : (x : Statement) → All (λ n. IsTrue (is_name n)) (names_of x) → limit_of x ≡ None → AllByRecursion IsSound (statement_tokens x)
statement_sound x names within = all_with IsSound capitals x are_names (tokens_sound (tokens_with no_words x) names (ap (list_any is_wide) (numbers_without x) ∙ all_fit x within))

-- the line is a statement line, in either form
module _ (close : Lexeme → Lexeme → Bool) (keys : (k : Key) → close (key CreateKey) (key k) ≡ false) (words : (w : List ℕ) → close (key CreateKey) (word w) ≡ false) where
  creation_text : (shared compact : Bool) (ls : List Lexeme)
      → AllByRecursion IsSound (key CreateKey ∷ shared_tokens shared ++ compact_tokens (word (codes "COMPACT") ∷ []) compact ++ key QueryKey ∷ ls)
      → IsStatementText (spaced_by close (key CreateKey ∷ shared_tokens shared ++ compact_tokens (word (codes "COMPACT") ∷ []) compact ++ key QueryKey ∷ ls))
  creation_text true true ls h = line_text close CreateKey (key SharedKey) (word (codes "COMPACT") ∷ key QueryKey ∷ ls) tt (keys SharedKey) tt h
  creation_text true false ls h = line_text close CreateKey (key SharedKey) (key QueryKey ∷ ls) tt (keys SharedKey) tt h
  creation_text false true ls h = line_text close CreateKey (word (codes "COMPACT")) (key QueryKey ∷ ls) tt (words (codes "COMPACT")) tt h
  creation_text false false ls h = line_text close CreateKey (key QueryKey) ls tt (keys QueryKey) tt h

-- the line that creates a query again is such a line, and says its statement
pub record IsCreation (x : Statement) (line : List ℕ) : Type 0 where
  pub text : IsStatementText line
  pub is : IsStatement line x

one_of_two : (b : Bool) (x : Statement) → IsCreation x (printed_form x) → IsCreation x (short_form x) → IsCreation x (cond b (printed_form x) (short_form x))
one_of_two true x p q = p
one_of_two false x p q = q

creates : (streams : List Shape) (q : LiveQuery) → IsCreatable streams q → IsCreation (creation streams q) (query_line streams q)
creates streams q c =
    let x : Statement = creation streams q in
    let s : SelectAst = named_select streams q.query in
    let sound : AllByRecursion IsSound (statement_tokens x) = statement_sound x c.names c.within in
    let ls : List Lexeme = word q.name ∷ key AsKey ∷ select_tokens s in
    one_of_two (nat_le (length (printed_form x)) 1024) x
    (record { text = creation_text joins (λ k. refl) (λ w. refl) q.shared s.compact ls sound; is = printed_statement x c.whole sound })
    (record { text = creation_text joins_short (λ k. refl) (λ w. refl) q.shared s.compact ls sound; is = short_statement x c.whole sound (query_apart q.name s q.shared sound) })

-- its verdict: it is accepted, since its pages are free
enough : (a b : ℕ) → a ≤ b → nat_lt b a ≡ false
enough a b h = grind (arith, nat_tests)

decided_by : (n : Numbers) (free : ℕ) → first_above n ≡ None → page_count n.cells ≤ free → verdicts.accepted n ≡ verdict_by n free
decided_by n free none fits =
    sym (ap (λ (o : Option Which). verdict_after o n free) none ∙ ap (λ b. cond b verdicts.pool (verdicts.accepted n)) (enough (page_count n.cells) free fits))

verdict_again : (shared : Bool) (q : QueryValue) (p : Plan) (free : ℕ) → IsAccepted shared q p → pages_of p ≤ free → IsFormVerdict shared q free (acceptance p)
verdict_again shared q plans.Filter free a fits = forms.parts (inl a.plan) (of_filter a.plan refl)
verdict_again shared q (plans.Parts ps n) free a fits = by a.plan.1
  where
    -- by these numbers, which are its own
    again : (own : Numbers) → n ≡ own → verdicts.accepted n ≡ verdict_by own free
    again own e = decided_by n free a.within fits ∙ ap (λ (m : Numbers). verdict_by m free) e

    by : IsFormPlan shared q ps → IsFormVerdict shared q free (verdicts.accepted n)
    by (forms.whole c part whole follow e) =
        forms.whole a.plan.0 c part whole follow (again (numbers_of q (part ∷ [])) (a.plan.2 ∙ ap (form_numbers shared q) e ∙ one_part_numbers shared q part))
    by (forms.parts none is) =
        let met = a.met a.plan.0 none in
        forms.parts (inr none) (of_plan a.plan.0 met.0 met.1 ps is (again (form_numbers shared q ps) a.plan.2))

-- no name before is its own
no_later : (p : List ℕ → Bool) (before : List (List ℕ)) (n : List ℕ) (rest : List (List ℕ)) → list_any p (before ++ n ∷ rest) ≡ false → p n ≡ false
no_later p [] n rest h = (or-false (p n) (list_any p rest) h).0
no_later p (m ∷ before) n rest h = no_later p before n rest (or-false (p m) (list_any p (before ++ n ∷ rest)) h).1

pub not_among : (before : List (List ℕ)) (n : List ℕ) (rest : List (List ℕ)) → all_differ (before ++ n ∷ rest) ≡ true → is_live before n ≡ false
not_among [] n rest h = refl
not_among (m ∷ before) n rest h =
    let others : Bool = list_any (bytes_eq m) (before ++ n ∷ rest) in
    ap (λ b. b || is_live before n) (no_later (bytes_eq m) before n rest (not-true others (and-left (not others) (all_differ (before ++ n ∷ rest)) h)))
    ∙ not_among before n rest (and-right (not others) (all_differ (before ++ n ∷ rest)) h)

below : (n : ℕ) → n < 64 → nat_le 64 n ≡ false
below n h = grind (arith, nat_tests)

abbrev pages_in : List LiveQuery → ℕ
pages_in queries = sum_by (λ (q : LiveQuery). pages_of q.plan) queries

module _ (s : State) (taken : ℕ) (unlocked : s.lock ≡ None) (catalog : IsCatalog s.streams) where
  -- these live queries are there, after so many lines
  abbrev having : List LiveQuery → ℕ → State
  having queries n = record s { queries = queries; lines = s.lines + n }

  one_query : (done : List LiveQuery) (q : LiveQuery) (rest : List (List ℕ)) (n : ℕ) → IsRestorable s.streams taken q → all_differ (names done ++ q.name ∷ rest) ≡ true → length done < 64 → pages_in done + pages_of q.plan ≤ s.pages
      → LeadsTo (having done n) (query_line s.streams q ∷ []) (having (done ++ anew q ∷ []) (n + 1))
  one_query done q rest n is differ few fits =
      let now : State = having done n in
      let x : Statement = creation s.streams q in
      let line : List ℕ = query_line s.streams q in
      let can : IsCreatable s.streams q = creatable s.streams catalog q is.short.name is.sound.limits is.named in
      let c : IsCreation x line = creates s.streams q can in
      let asks : IsRequest now line (statement_request now x) = line_asks now x line unlocked c.text c.is can.within is.short.created in
      let same : statement_request now x ≡ asked q.name q.query q.shared
      = ap (λ b. found_request q.name q.shared (cond b (Err Duplicate) (cond (nat_le 64 (length (names done))) (Err TooMany) (query_named (resolved s.streams (named_select s.streams q.query)))))) (not_among (names done) q.name rest differ)
      ∙ ap (λ b. found_request q.name q.shared (cond b (Err TooMany) (query_named (resolved s.streams (named_select s.streams q.query))))) (ap (nat_le 64) (length-map done (λ (l : LiveQuery). l.name)) ∙ below (length done) few)
      ∙ ap (λ (r : Result QueryValue ResolveError). found_request q.name q.shared (query_named r)) (resolves_back s.streams q.query catalog is.sound.limits is.named) in
      let answer : Answer = registered q.name q.query q.shared q.plan in
      let verdict : IsFormVerdict q.shared q.query (free_pages s.pages done) (acceptance q.plan) = verdict_again q.shared q.query q.plan (free_pages s.pages done) is.sound.accepted (omega (arith, fits)) in
      let count : s.lines + n + 1 ≡ s.lines + (n + 1) = omega arith in
      one_line now (having (done ++ anew q ∷ []) (n + 1)) line answer c.text.whole refl
      (record { request = asked q.name q.query q.shared; asks = subst (IsRequest now line) same asks; settles = accepted q.plan is.sound.accepted.plan verdict refl })
      (λ j. record s { queries = done ++ anew q ∷ []; lines = count j })

  all_queries : (done rest : List LiveQuery) (n : ℕ) → All (IsRestorable s.streams taken) rest → all_differ (names done ++ names rest) ≡ true → length done + length rest ≤ 64 → pages_in done + pages_in rest ≤ s.pages
      → LeadsTo (having done n) (map (query_line s.streams) rest) (having (done ++ map anew rest) (n + length rest))
  all_queries done [] n is differ few fits =
      let same : done ≡ done ++ [] = sym (append-nil done) in
      let count : n ≡ n + 0 = omega arith in
      let to : having done n ≡ having (done ++ []) (n + 0) = λ j. having (same j) (count j) in
      subst (LeadsTo (having done n) []) to (no_line (having done n))
  all_queries done (q ∷ rest) n is differ few fits =
      let next : List LiveQuery = done ++ anew q ∷ [] in
      let l : length next ≡ length done + 1 = length-append done (anew q ∷ []) in
      let pages : pages_in (q ∷ rest) ≡ pages_of q.plan + pages_in rest = sum_by-cons (λ (x : LiveQuery). pages_of x.plan) q rest in
      let own : pages_in (anew q ∷ []) ≡ pages_of q.plan + 0 = sum_by-cons (λ (x : LiveQuery). pages_of x.plan) (anew q) [] in
      let more : pages_in next ≡ pages_in done + pages_in (anew q ∷ []) = sum_by-append (λ (x : LiveQuery). pages_of x.plan) done (anew q ∷ []) in
      let named : names next ++ names rest ≡ names done ++ q.name ∷ names rest
      = ap (λ (ns : List (List ℕ)). ns ++ names rest) (map-append (λ (x : LiveQuery). x.name) done (anew q ∷ [])) ∙ append_assoc (names done) (q.name ∷ []) (names rest) in
      let one : LeadsTo (having done n) (query_line s.streams q ∷ []) (having next (n + 1))
      = one_query done q (names rest) n (All-head (IsRestorable s.streams taken) q rest is) differ (omega (arith, few)) (omega (arith, fits, pages)) in
      let others : LeadsTo (having next (n + 1)) (map (query_line s.streams) rest) (having (next ++ map anew rest) (n + 1 + length rest))
      = all_queries next rest (n + 1) (All-tail (IsRestorable s.streams taken) q rest is) (ap all_differ named ∙ differ) (omega (arith, few, l)) (omega (arith, fits, pages, own, more)) in
      let e : next ++ map anew rest ≡ done ++ anew q ∷ map anew rest = append_assoc done (anew q ∷ []) (map anew rest) in
      let count : n + 1 + length rest ≡ n + suc (length rest) = omega arith in
      let to : having (next ++ map anew rest) (n + 1 + length rest) ≡ having (done ++ anew q ∷ map anew rest) (n + suc (length rest)) = λ j. having (e j) (count j) in
      subst (LeadsTo (having done n) (map (query_line s.streams) (q ∷ rest))) to
      (joined (having done n) (having next (n + 1)) (having (next ++ map anew rest) (n + 1 + length rest)) (query_line s.streams q ∷ []) (map (query_line s.streams) rest) one others)

pub queries_are_restored : QueriesAreRestored
queries_are_restored s taken queries none unlocked catalog is fit =
    let count : s.lines + 0 ≡ s.lines = omega arith in
    let from : having s taken unlocked catalog [] 0 ≡ s = λ j. record s { queries = sym none j; lines = count j } in
    let nothing : pages_in [] ≡ 0 = refl in
    let few = fit.few in
    let pages = fit.pages in
    let zero : s.lines + (0 + length queries) ≡ s.lines + length queries = omega arith in
    subst (λ n. LeadsTo s (map (query_line s.streams) queries) (record s { queries = map anew queries; lines = n })) zero
    (subst (λ (x : State). LeadsTo x (map (query_line s.streams) queries) (record s { queries = map anew queries; lines = s.lines + (0 + length queries) })) from
    (all_queries s taken unlocked catalog [] queries 0 is fit.differ (omega (arith, few)) (omega (arith, nothing, pages))))
