-- The lines of a checkpoint lead to a state that keeps the same.
use Rattle.std.proofs.Common.{◌≡◌, ℕ, ◌+◌, ◌≤◌, ◌^◌, true, false, cond, int_lt, pos, nat_abs, List, [], ◌∷◌, ◌++◌, map, flat_map, length, Some, None, refl, sym, ap, ◌∙◌, subst, arith, append_assoc, length-append, All}
use Rattle.std.specs.Str.{bytes_eq}
use Rattle.std.proofs.lemmas.Bool.Decides.{nat_tests}
use Rattle.std.proofs.lemmas.Int.{ints}
use Rattle.std.proofs.lemmas.List.{map-append}
use Rattle.std.proofs.lemmas.List.Elements.{All-head, All-tail}
use Rattle.sql_text.specs.Value.{fits_i64}
use Rattle.sem_query.specs.Numbers.{parts_of}
use Rattle.sem_query.specs.Bases.{Base}
use Rattle.sem_laws.proofs.Bases.{bases-keep-on}
use Rattle.sem_laws.proofs.Tests.{or-false}
use Rattle.sql_catalog.specs.Streams.{IsCatalog, all_differ}
use Rattle.sql_parser.specs.declared.tree.Statement.{Statement}
use Rattle.sql_parser.specs.declared.tree.Statement.TheVariants.{ResumeRows}
use Rattle.sql_parser.proofs.Taken.{same_name}
use Rattle.sql_printer.specs.Printed.{printed_form}
use Rattle.exec_registry.specs.Live.{LiveQuery, names, boxes_of, base_in}
use Rattle.sql_replies.specs.declared.refusal.Refusal.TheVariants.{Value, RowLimit}
use Rattle.cmd_session.specs.Request.{resumed, refused}
use Rattle.cmd_session.specs.Requests.{is_live, live_named, statement_request, IsRequest}
use Rattle.cmd_session.specs.Answer.{plain}
use Rattle.cmd_session.specs.Checkpoint.{stream_line, query_line, kept_lines, checkpoint_lines}
use Rattle.cmd_session.specs.State.{State, initial, from_base, set_base}
use Rattle.cmd_session.specs.Restoring.{IsAlike, AreAllAlike}
use Rattle.law_resume.specs.Sound.{IsSoundState}
use Rattle.law_resume.specs.Continuing.{IsResumed}
use Rattle.law_resume.specs.Restores.{LeadsTo, IsRestorable, FitTogether, anew, Restores, CheckpointRestores, CheckpointGoesOn}
use Rattle.law_resume.proofs.Widths.{rows_within}
use Rattle.law_resume.proofs.Leading.{line_asks, no_line, one_line, joined}
use Rattle.law_resume.proofs.ToldLines.{IsTold, rows_told}
use Rattle.law_resume.proofs.StreamLines.{streams_are_restored}
use Rattle.law_resume.proofs.QueryLines.{not_among, queries_are_restored}
use Rattle.law_resume.proofs.KeptLines.{kept_is_restored}
use Rattle.law_resume.proofs.Resumed.{resumed_continues_alike}

-- a live query that goes on from what was kept of it
abbrev restored : LiveQuery → LiveQuery
restored q = from_base (base_in q) (anew q)

-- the live query of a name, behind others that have other names
named_there : (name : List ℕ) (before : List LiveQuery) (q : LiveQuery) (rest : List LiveQuery) → is_live (names before) name ≡ false → q.name ≡ name → live_named name (before ++ q ∷ rest) ≡ Some q
named_there name [] q rest h e = ap (λ b. cond b (Some q) (live_named name rest)) (same_name q.name name e)
named_there name (p ∷ before) q rest h e =
    let both = or-false (bytes_eq p.name name) (is_live (names before) name) h in
    ap (λ b. cond b (Some p) (live_named name (before ++ q ∷ rest))) both.0 ∙ named_there name before q rest both.1 e

set_there : (name : List ℕ) (base : Base) (before : List LiveQuery) (q : LiveQuery) (rest : List LiveQuery) → is_live (names before) name ≡ false → q.name ≡ name
    → set_base name base (before ++ q ∷ rest) ≡ before ++ from_base base q ∷ rest
set_there name base [] q rest h e = ap (λ b. cond b (from_base base q ∷ rest) (q ∷ set_base name base rest)) (same_name q.name name e)
set_there name base (p ∷ before) q rest h e =
    let both = or-false (bytes_eq p.name name) (is_live (names before) name) h in
    ap (λ b. cond b (from_base base p ∷ before ++ q ∷ rest) (p ∷ set_base name base (before ++ q ∷ rest))) both.0 ∙ ap (λ qs. p ∷ qs) (set_there name base before q rest both.1 e)

small : (n : ℕ) → n ≤ 2 ^ 40 → fits_i64 (pos n) ≡ true
small n h = grind (arith, nat_tests)

not_negative : (n : ℕ) → int_lt (pos n) (pos 0) ≡ false
not_negative n = grind (arith, ints)

not_above : (n most : ℕ) → n ≤ most → int_lt (pos most) (pos n) ≡ false
not_above n most h = grind (arith, ints)

module _ (s : State) (none : s.lock ≡ None) (sound : IsSoundState s) (catalog : IsCatalog s.streams) (is : All (IsRestorable s.streams s.taken) s.queries) (together : FitTogether s.pages s.queries) where
  -- with the streams, these live queries, and so many rows and lines
  abbrev with_queries : ℕ → List LiveQuery → ℕ → State
  with_queries taken queries n = record { limit = s.limit; pages = s.pages; streams = s.streams; queries = queries; taken = taken; lines = n; began = false; lock = None }

  -- the number of rows
  few : s.taken ≤ 2 ^ 40
  few = (let within = sound.within in let limit = sound.limit in omega (arith, within, limit))

  rows_line : (n : ℕ) → LeadsTo (with_queries 0 (map anew s.queries) n) (printed_form (ResumeRows (pos s.taken)) ∷ []) (with_queries s.taken (map anew s.queries) (n + 1))
  rows_line n =
      let now : State = with_queries 0 (map anew s.queries) n in
      let x : Statement = ResumeRows (pos s.taken) in
      let told : IsTold x = rows_told (pos s.taken) (small s.taken few) in
      let asks : IsRequest now (printed_form x) (statement_request now x) = line_asks now x (printed_form x) refl told.text told.is told.within (rows_within s.taken few) in
      let same : statement_request now x ≡ resumed s.taken
      = ap (λ b. cond b (refused Value) (cond (int_lt (pos s.limit) (pos s.taken)) (refused RowLimit) (resumed (nat_abs (pos s.taken))))) (not_negative s.taken)
      ∙ ap (λ b. cond b (refused RowLimit) (resumed (nat_abs (pos s.taken)))) (not_above s.taken s.limit sound.within) in
      one_line now (with_queries s.taken (map anew s.queries) (n + 1)) (printed_form x) (plain (resumed s.taken)) told.text.whole refl
      (record { request = resumed s.taken; asks = subst (IsRequest now (printed_form x)) same asks; settles = refl })
      refl

  -- what each live query keeps
  all_kept : (done rest : List LiveQuery) (n : ℕ) → All (IsRestorable s.streams s.taken) rest → all_differ (names done ++ names rest) ≡ true
      → LeadsTo (with_queries s.taken (done ++ map anew rest) n) (flat_map kept_lines rest) (with_queries s.taken (done ++ map restored rest) (n + length (flat_map kept_lines rest)))
  all_kept done [] n own differ =
      let count : n ≡ n + 0 = omega arith in
      let to : with_queries s.taken (done ++ []) n ≡ with_queries s.taken (done ++ []) (n + 0) = λ j. with_queries s.taken (done ++ []) (count j) in
      subst (LeadsTo (with_queries s.taken (done ++ []) n) []) to (no_line (with_queries s.taken (done ++ []) n))
  all_kept done (q ∷ rest) n own differ =
      let r : IsRestorable s.streams s.taken q = All-head (IsRestorable s.streams s.taken) q rest own in
      let now : State = with_queries s.taken (done ++ anew q ∷ map anew rest) n in
      let next : List LiveQuery = done ++ restored q ∷ [] in
      let here : List (List ℕ) = kept_lines q in
      let others : List (List ℕ) = flat_map kept_lines rest in
      let apart : is_live (names done) q.name ≡ false = not_among (names done) q.name (names rest) differ in
      let set : set_base q.name (base_in q) (done ++ anew q ∷ map anew rest) ≡ next ++ map anew rest
      = set_there q.name (base_in q) done (anew q) (map anew rest) apart refl ∙ sym (append_assoc done (restored q ∷ []) (map anew rest)) in
      let first : LeadsTo now here (record now { queries = set_base q.name (base_in q) (done ++ anew q ∷ map anew rest); lines = n + length here })
      = kept_is_restored now q refl refl (named_there q.name done (anew q) (map anew rest) apart refl) r.sound r.short r.given r.tuples in
      let one : LeadsTo now here (with_queries s.taken (next ++ map anew rest) (n + length here)) = subst (λ qs. LeadsTo now here (with_queries s.taken qs (n + length here))) set first in
      let named : names next ++ names rest ≡ names done ++ q.name ∷ names rest
      = ap (λ (ns : List (List ℕ)). ns ++ names rest) (map-append (λ (x : LiveQuery). x.name) done (restored q ∷ [])) ∙ append_assoc (names done) (q.name ∷ []) (names rest) in
      let more : LeadsTo (with_queries s.taken (next ++ map anew rest) (n + length here)) others (with_queries s.taken (next ++ map restored rest) (n + length here + length others))
      = all_kept next rest (n + length here) (All-tail (IsRestorable s.streams s.taken) q rest own) (ap all_differ named ∙ differ) in
      let e : next ++ map restored rest ≡ done ++ restored q ∷ map restored rest = append_assoc done (restored q ∷ []) (map restored rest) in
      let count : n + length here + length others ≡ n + length (here ++ others) = (let k = length-append here others in omega (arith, k)) in
      let to : with_queries s.taken (next ++ map restored rest) (n + length here + length others) ≡ with_queries s.taken (done ++ restored q ∷ map restored rest) (n + length (here ++ others))
      = λ j. with_queries s.taken (e j) (count j) in
      subst (LeadsTo now (here ++ others)) to
      (joined now (with_queries s.taken (next ++ map anew rest) (n + length here)) (with_queries s.taken (next ++ map restored rest) (n + length here + length others)) here others one more)

  -- the live queries are alike
  one_alike : (q : LiveQuery) → IsRestorable s.streams s.taken q → IsAlike (restored q) q
  one_alike q r = record { name = refl; query = refl; shared = refl; plan = refl; kept = (bases-keep-on q.query (parts_of q.plan) (boxes_of q) (base_in q) r.sound.whole).none }

  all_alike : (qs : List LiveQuery) → All (IsRestorable s.streams s.taken) qs → AreAllAlike (map restored qs) qs
  all_alike [] own = tt
  all_alike (q ∷ qs) own = (one_alike q (All-head (IsRestorable s.streams s.taken) q qs own), all_alike qs (All-tail (IsRestorable s.streams s.taken) q qs own))

  restores : Restores s
  restores =
      let n : ℕ = length s.streams in
      let m : ℕ = n + length s.queries in
      let k : ℕ = m + 1 + length (flat_map kept_lines s.queries) in
      let streams : LeadsTo (initial s.limit s.pages) (map stream_line s.streams) (with_queries 0 [] n) = streams_are_restored s.limit s.pages s.streams catalog in
      let queries : LeadsTo (with_queries 0 [] n) (map (query_line s.streams) s.queries) (with_queries 0 (map anew s.queries) m)
      = queries_are_restored (with_queries 0 [] n) s.taken s.queries refl refl catalog is together in
      let rows : LeadsTo (with_queries 0 (map anew s.queries) m) (printed_form (ResumeRows (pos s.taken)) ∷ []) (with_queries s.taken (map anew s.queries) (m + 1)) = rows_line m in
      let kept : LeadsTo (with_queries s.taken (map anew s.queries) (m + 1)) (flat_map kept_lines s.queries) (with_queries s.taken (map restored s.queries) k)
      = all_kept [] s.queries (m + 1) is together.differ in
      let created = joined (initial s.limit s.pages) (with_queries 0 [] n) (with_queries 0 (map anew s.queries) m) (map stream_line s.streams) (map (query_line s.streams) s.queries) streams queries in
      let told = joined (with_queries 0 (map anew s.queries) m) (with_queries s.taken (map anew s.queries) (m + 1)) (with_queries s.taken (map restored s.queries) k)
      (printed_form (ResumeRows (pos s.taken)) ∷ []) (flat_map kept_lines s.queries) rows kept in
      record {
        state = with_queries s.taken (map restored s.queries) k;
        leads = joined (initial s.limit s.pages) (with_queries 0 (map anew s.queries) m) (with_queries s.taken (map restored s.queries) k)
            (map stream_line s.streams ++ map (query_line s.streams) s.queries) (printed_form (ResumeRows (pos s.taken)) ∷ flat_map kept_lines s.queries) created told;
        alike = record { limit = refl; pages = refl; streams = refl; taken = refl; queries = all_alike s.queries is; lock = sym none };
        quiet = refl;
      }

pub checkpoint_restores : CheckpointRestores
checkpoint_restores s none sound catalog is together = restores s none sound catalog is together

pub checkpoint_goes_on : CheckpointGoesOn
checkpoint_goes_on s none sound catalog is together =
    let r : Restores s = checkpoint_restores s none sound catalog is together in
    let from : IsResumed r.state = record { limit = s.limit; pages = s.pages; lines = checkpoint_lines s; answers = r.leads.answers; answered = r.leads.answered; is = r.leads.is; quiet = r.quiet } in
    let both = resumed_continues_alike s r.state sound from r.alike in
    (r, both.0, both.1)
