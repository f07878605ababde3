-- Line by line, what `advise` knows of a script stands for the state of a session.
use Rattle.std.proofs.Common.{◌≡◌, ℕ, suc, ◌+◌, ◌-◌, ◌≤◌, ◌<◌, ℤ, Bool, true, false, not, cond, if◌then◌else◌, nat_lt, List, [], ◌∷◌, ◌++◌, map, length, Option, Some, None, Result, Ok, Err, refl, ap, sym, ◌∙◌, subst, arith}
use Rattle.std.proofs.lemmas.Bool.Decides.{nat_tests}
use Rattle.std.proofs.lemmas.List.Folds.{fold-map}
use Rattle.std.specs.List.{position, position_or_len, sum}
use Rattle.std.specs.Option.{option_map}
use Rattle.std.specs.Result.{result_map_both}
use Rattle.std.specs.Str.{bytes_eq}
use Rattle.arrayvec.specs.ArrayVec.{ArrayVec}
use Rattle.sem_query.specs.Meaning.{Arrival}
use Rattle.sem_query.specs.Numbers.{pages_of}
use Rattle.sem_query.specs.Query.{QueryValue}
use Rattle.sql_parser.specs.LineKind.{stripped, kind_of_line}
use Rattle.exec_registry.specs.Live as registry
use Rattle.exec_registry.specs.Live.{LiveQuery, with_row, newly, names}
use Rattle.sql_replies.specs.declared.refusal.Refusal.{Refusal}
use Rattle.sql_replies.specs.declared.refusal.Refusal.TheVariants as words
use Rattle.sql_catalog.specs.Streams.{Shape, with_stream}
use Rattle.sql_catalog.specs.declared.column.ColumnDef.{ColumnDef}
use Rattle.adv_diagnosis.specs.declared.fault.Asks.{Asks}
use Rattle.adv_diagnosis.specs.declared.fault.Asks.TheVariants as asks
use Rattle.adv_diagnosis.specs.declared.fault.Fault.{Fault}
use Rattle.adv_diagnosis.specs.declared.fault.Fault.TheVariants as faults
use Rattle.adv_diagnosis.specs.FaultWords.{word_of}
use Rattle.adv_diagnosis.specs.Asked.{IsAsked}
use Rattle.adv_diagnosis.specs.Locked.{IsLockedAsked}
use Rattle.cmd_advise.specs.declared.state.StandingLock.{StandingLock}
use Rattle.cmd_advise.specs.State as advice
use Rattle.cmd_advise.specs.State.{free_pages, pages_for, is_accepted}
use Rattle.cmd_advise.specs.Finding as finding
use Rattle.cmd_advise.specs.Finding.{Finding, fine, fault, query, IsFinding, ComesOf, IsAdvised, after, is_row_kind, advised}
use Rattle.law_resume.specs.Continuing.{IsResumeLine}
use Rattle.law_resume.specs.Restores.{is_refused}
use Rattle.cmd_session.specs.Lock.{Lock}
use Rattle.cmd_session.specs.Request.{Request, silent, created, asked, explained, dropped, taken, saved, resumed, based, locked, unlocked, refused}
use Rattle.cmd_session.specs.Requests as session
use Rattle.cmd_session.specs.Requests.{opened_by, IsRequest}
use Rattle.cmd_session.specs.Answer.{Answer, plain, registered, decided}
use Rattle.cmd_session.specs.Answers.{Settles, IsDecided, IsAnswer}
use Rattle.cmd_session.specs.State.{State, live_names, next_of, has_room, one_line_more}
use Rattle.law_advice.specs.Laws.{IsAnsweredBy, IsTakenOrLate, IsExplained, IsToldBy}
use Rattle.law_advice.proofs.Agreement.{finds_answers}
use Rattle.law_advice.proofs.Locking.{finds_locked_answers}
use Rattle.law_advice.proofs.Judged.{IsSettled, registers, refuses, settled}
use Rattle.law_advice.proofs.Found.{row-line, row-line-locked, never-late, other-saved, stream-added, locked-no-stream, locked-no-other}

-- the pages of a live query
abbrev pub pages_at : LiveQuery → ℕ
pages_at q = pages_of q.plan

-- no lock stands on either side, or the same one
abbrev pub SameLock : Option StandingLock → List Shape → Option Lock → Type 0
SameLock None streams lock = lock ≡ None
SameLock (Some l) streams lock = (opened : Option (List ℕ)) × (opened_by streams l.streams.items ≡ Ok opened) × (lock ≡ Some (record { key = l.key; opened = opened }))

-- what the lines of a script have made for `advise`, and in a session that took so many rows at most
pub record Stands (limit rows : ℕ) (a : advice.State) (s : State) : Type 0 where
  pub streams : a.streams ≡ s.streams
  pub live : a.live ≡ live_names s
  pub pages : a.pages ≡ map pages_at s.queries
  pub lock : SameLock a.lock s.streams s.lock
  pub most : s.limit ≡ limit
  pub room : s.pages ≡ 16384
  pub taken : s.taken ≤ rows

-- whether a finding counts against the script
abbrev pub is_bad : advice.State → Finding → Bool
is_bad a (fine k) = false
is_bad a (fault wrong) = true
is_bad a (query q) = not (is_accepted (free_pages a) q.advice.judgement)

-- 1 for a row line
abbrev pub one_if : Bool → ℕ
one_if b = cond b 1 0

abbrev pub row_count : List ℕ → ℕ
row_count line = one_if (is_row_kind (kind_of_line (stripped line)))

-- the same of both behind a line
pub record Goes (limit rows : ℕ) (a : advice.State) (s : State) (line : List ℕ) (f : Finding) (answer : Answer) : Type 0 where
  pub stands : Stands limit (rows + row_count line) (after a line f) (next_of s answer)
  pub bad : is_bad a f ≡ is_refused answer

same-free : (pages : List ℕ) (all : ℕ) (queries : List LiveQuery) → pages ≡ map pages_at queries → all ≡ 16384 → 16384 - sum pages ≡ registry.free_pages all queries
same-free pages all queries e is =
    ap (λ ps. 16384 - sum ps) e ∙ ap (λ n. 16384 - n) (fold-map (λ (n k : ℕ). n + k) pages_at 0 queries) ∙ ap (λ n. registry.free_pages n queries) (sym is)

-- a query that is added behind the others
map-push : {X : Type 0} (g : LiveQuery → X) (queries : List LiveQuery) (q : LiveQuery) → map g queries ++ g q ∷ [] ≡ map g (queries ++ q ∷ [])
map-push g [] q = refl
map-push g (p ∷ queries) q = ap (λ l. g p ∷ l) (map-push g queries q)

-- a row changes neither names nor plans
map-row : {X : Type 0} (g : LiveQuery → X) (r : Arrival) → ((q : LiveQuery) → g (with_row r q) ≡ g q) → (queries : List LiveQuery) → map g queries ≡ map g (map (with_row r) queries)
map-row g r f [] = refl
map-row g r f (q ∷ queries) = ap (λ x. x ∷ map g queries) (sym (f q)) ∙ ap (λ l. g (with_row r q) ∷ l) (map-row g r f queries)

module _ (p : List ℕ → Bool) where
  first-place : (x : List ℕ) (xs : List (List ℕ)) → p x ≡ true → position p (x ∷ xs) ≡ Some 0
  first-place x xs e =
      let none : position_or_len p (x ∷ xs) ≡ 0 = ap (λ b. cond (not b) (1 + position_or_len p xs) 0) e in
      let some : nat_lt 0 (length (x ∷ xs)) ≡ true = grind (arith, nat_tests) in
      ap (λ n. cond (nat_lt n (length (x ∷ xs))) (Some n) None) none ∙ ap (λ b. cond b (Some 0) None) some

  later-place : (x : List ℕ) (xs : List (List ℕ)) → p x ≡ false → position p (x ∷ xs) ≡ option_map (λ n. suc n) (position p xs)
  later-place x xs e =
      let more : position_or_len p (x ∷ xs) ≡ 1 + position_or_len p xs = ap (λ b. cond (not b) (1 + position_or_len p xs) 0) e in
      let next : 1 + position_or_len p xs ≡ suc (position_or_len p xs) = omega arith in
      ap (λ n. cond (nat_lt n (length (x ∷ xs))) (Some n) None) (more ∙ next) ∙ both (position_or_len p xs) (length xs)
    where
      by : (n : ℕ) (b c : Bool) → b ≡ c → cond b (Some (suc n)) None ≡ option_map (λ m. suc m) (cond c (Some n) None)
      by n true true h = refl
      by n true false h = cc
      by n false true h = cc
      by n false false h = refl

      both : (n m : ℕ) → cond (nat_lt (suc n) (suc m)) (Some (suc n)) None ≡ option_map (λ k. suc k) (cond (nat_lt n m) (Some n) None)
      both n m = by n (nat_lt (suc n) (suc m)) (nat_lt n m) (grind (arith, nat_tests))

without-later : {X : Type 0} (o : Option ℕ) (x : X) (xs : List X) → advice.without (option_map (λ n. suc n) o) (x ∷ xs) ≡ x ∷ advice.without o xs
without-later None x xs = refl
without-later (Some n) x xs = refl

-- the first query of a name goes with its pages
goes-first : {X : Type 0} (g : LiveQuery → X) (name : List ℕ) (queries : List LiveQuery) → advice.without (position (λ other. bytes_eq other name) (names queries)) (map g queries) ≡ map g (registry.without name queries)
goes-first g name [] = refl
goes-first g name (q ∷ queries) = by (goes-first g name queries) (bytes_eq q.name name) refl
  where
    by : advice.without (position (λ other. bytes_eq other name) (names queries)) (map g queries) ≡ map g (registry.without name queries) → (b : Bool) → bytes_eq q.name name ≡ b → advice.without (position (λ other. bytes_eq other name) (names (q ∷ queries))) (map g (q ∷ queries)) ≡ map g (cond b queries (q ∷ registry.without name queries))
    by rest true e = ap (λ o. advice.without o (map g (q ∷ queries))) (first-place (λ other. bytes_eq other name) q.name (names queries) e)
    by rest false e = ap (λ o. advice.without o (map g (q ∷ queries))) (later-place (λ other. bytes_eq other name) q.name (names queries) e)
        ∙ without-later (position (λ other. bytes_eq other name) (names queries)) (g q) (map g queries)
        ∙ ap (λ l. g q ∷ l) rest

-- one more row may be taken
room : (s : State) (limit rows : ℕ) → s.limit ≡ limit → s.taken ≤ rows → rows + 1 ≤ limit → has_room s ≡ true
room s limit rows e t l = grind (arith, nat_tests)

kind-counts : (b : Bool) → b ≡ true → one_if b ≡ 1
kind-counts true e = refl
kind-counts false e = cc

-- a line
module _ (limit rows : ℕ) (a : advice.State) (s : State) (line : List ℕ) (h : Stands limit rows a s) where
  goes : (f g : Finding) (answer other : Answer) → f ≡ g → answer ≡ other → Goes limit rows a s line g other → Goes limit rows a s line f answer
  goes f g answer other e i w = subst (λ x. Goes limit rows a s line x answer) (sym e) (subst (λ x. Goes limit rows a s line g x) (sym i) w)

  more : s.taken ≤ rows + row_count line
  more = omega (arith, h.taken)

  one-line : Stands limit (rows + row_count line) (advice.one_line_more a) (one_line_more s)
  one-line = record { streams = h.streams; live = h.live; pages = h.pages; lock = h.lock; most = h.most; room = h.room; taken = more }

  fault-goes : (wrong : Fault) (word : Refusal) → Goes limit rows a s line (fault wrong) (plain (refused word))
  fault-goes wrong word = record { stands = record { streams = h.streams; live = h.live; pages = h.pages; lock = h.lock; most = h.most; room = h.room; taken = more }; bad = refl }

  row-taken : (stream : ℕ) (values : List ℤ) → is_row_kind (kind_of_line (stripped line)) ≡ true → Goes limit rows a s line (fine asks.Row) (plain (taken stream values))
  row-taken stream values k =
      let one : row_count line ≡ 1 = kind-counts (is_row_kind (kind_of_line (stripped line))) k in
      let r : Arrival = record { stream = stream; values = values } in
      record {
        stands = record {
          streams = h.streams;
          live = h.live ∙ map-row (λ (q : LiveQuery). q.name) r (λ q. refl) s.queries;
          pages = h.pages ∙ map-row pages_at r (λ q. refl) s.queries;
          lock = h.lock;
          most = h.most;
          room = h.room;
          taken = omega (arith, h.taken, one);
        };
        bad = refl;
      }

  row-goes : (request : Request) (answer : Answer) → IsTakenOrLate request → (request ≡ refused words.RowLimit → ⊥) → Settles s request answer → is_row_kind (kind_of_line (stripped line)) ≡ true
      → Goes limit rows a s line (fine asks.Row) answer
  row-goes silent answer t n q k = absurd t
  row-goes (created name columns) answer t n q k = absurd t
  row-goes (asked name wanted shared) answer t n q k = absurd t
  row-goes (explained name) answer t n q k = absurd t
  row-goes (dropped name) answer t n q k = absurd t
  row-goes (taken stream values) answer t n q k = goes (fine asks.Row) (fine asks.Row) answer (plain (taken stream values)) refl q (row-taken stream values k)
  row-goes saved answer t n q k = absurd t
  row-goes (resumed m) answer t n q k = absurd t
  row-goes (based name base) answer t n q k = absurd t
  row-goes (locked lock) answer t n q k = absurd t
  row-goes unlocked answer t n q k = absurd t
  row-goes (refused word) answer t n q k = absurd (n (ap refused t))

  explain-goes : (request : Request) (answer : Answer) → IsExplained request → Settles s request answer → Goes limit rows a s line (fine asks.Explain) answer
  explain-goes silent answer t q = absurd t
  explain-goes (created name columns) answer t q = absurd t
  explain-goes (asked name wanted shared) answer t q = absurd t
  explain-goes (explained name) answer t q = goes (fine asks.Explain) (fine asks.Explain) answer (plain (explained name)) refl q (record { stands = one-line; bad = refl })
  explain-goes (dropped name) answer t q = absurd t
  explain-goes (taken stream values) answer t q = absurd t
  explain-goes saved answer t q = absurd t
  explain-goes (resumed m) answer t q = absurd t
  explain-goes (based name base) answer t q = absurd t
  explain-goes (locked lock) answer t q = absurd t
  explain-goes unlocked answer t q = absurd t
  explain-goes (refused word) answer t q = absurd t

  query-goes : (name : List ℕ) (q : QueryValue) (shared : Bool) (f : Finding) (answer : Answer) → IsAdvised a name q shared f → IsDecided name q shared (registry.free_pages s.pages s.queries) answer → Goes limit rows a s line f answer
  query-goes name q shared f answer p d = by (settled name q shared (free_pages a) p.advice.judgement answer p.right.judgement decided-here)
    where
      decided-here : IsDecided name q shared (free_pages a) answer
      decided-here = subst (λ n. IsDecided name q shared n answer) (sym (same-free a.pages s.pages s.queries h.pages h.room)) d

      by : IsSettled name q shared (free_pages a) p.advice.judgement answer → Goes limit rows a s line f answer
      by (registers plan e sure pages) = goes f (query (advised a name q p.advice)) answer (registered name q shared plan) p.is e (record {
        stands = subst (λ (b : Bool).
            Stands limit (rows + row_count line)
            (if b
            then record a { live = a.live ++ name ∷ []; pages = a.pages ++ pages_for p.advice.judgement ∷ []; lines = a.lines + 1; accepted = a.accepted + 1 }
            else record a { lines = a.lines + 1; refused = a.refused + 1 })
            (next_of s (registered name q shared plan)))
            (sym sure)
            (record {
              streams = h.streams;
              live = ap (λ l. l ++ name ∷ []) h.live ∙ map-push (λ (live : LiveQuery). live.name) s.queries (newly name q shared plan);
              pages = ap (λ l. l ++ pages_for p.advice.judgement ∷ []) h.pages ∙ ap (λ n. map pages_at s.queries ++ n ∷ []) pages ∙ map-push pages_at s.queries (newly name q shared plan);
              lock = h.lock;
              most = h.most;
              room = h.room;
              taken = more;
            });
        bad = ap not sure;
      })
      by (refuses verdict e gone) = goes f (query (advised a name q p.advice)) answer (decided name q verdict) p.is e (record {
        stands = subst (λ (b : Bool).
            Stands limit (rows + row_count line)
            (if b
            then record a { live = a.live ++ name ∷ []; pages = a.pages ++ pages_for p.advice.judgement ∷ []; lines = a.lines + 1; accepted = a.accepted + 1 }
            else record a { lines = a.lines + 1; refused = a.refused + 1 })
            (next_of s (decided name q verdict)))
            (sym gone)
            (record { streams = h.streams; live = h.live; pages = h.pages; lock = h.lock; most = h.most; room = h.room; taken = more });
        bad = ap not gone;
      })

  drop-goes : (name : List ℕ) → Goes limit rows a s line (fine (asks.Drop name)) (plain (dropped name))
  drop-goes name = record {
    stands = record {
      streams = h.streams;
      live = ap (λ l. advice.without (position (λ other. bytes_eq other name) l) l) h.live ∙ goes-first (λ (q : LiveQuery). q.name) name s.queries;
      pages = ap (λ l. advice.without (position (λ other. bytes_eq other name) l) a.pages) h.live ∙ ap (λ l. advice.without (position (λ other. bytes_eq other name) (names s.queries)) l) h.pages ∙ goes-first pages_at name s.queries;
      lock = h.lock;
      most = h.most;
      room = h.room;
      taken = more;
    };
    bad = refl;
  }

  -- what else must be known of a line, by what is found for it
  abbrev Facts : Option StandingLock → Result Asks Fault → Request → Type 0
  Facts lock (Err wrong) request = Unit {0}
  Facts lock (Ok asks.Nothing) request = Unit {0}
  Facts lock (Ok asks.Row) request = (is_row_kind (kind_of_line (stripped line)) ≡ true) × (request ≡ refused words.RowLimit → ⊥)
  Facts lock (Ok (asks.Stream name columns)) request =
      (lock ≡ None) × (s.lock ≡ None) × (with_stream s.streams (record { name = name; columns = columns.items }) ≡ s.streams ++ record { name = name; columns = columns.items } ∷ [])
  Facts lock (Ok (asks.Query name q shared)) request = Unit {0}
  Facts lock (Ok asks.Explain) request = Unit {0}
  Facts lock (Ok (asks.Drop name)) request = Unit {0}
  Facts lock (Ok asks.Other) request = request ≡ saved
  Facts lock (Ok (asks.Lock key streams)) request = Unit {0}
  Facts lock (Ok asks.Unlock) request = Unit {0}

  stream-goes : (name : List ℕ) (columns : ArrayVec ColumnDef) → a.lock ≡ None → s.lock ≡ None → with_stream s.streams (record { name = name; columns = columns.items }) ≡ s.streams ++ record { name = name; columns = columns.items } ∷ []
      → Goes limit rows a s line (fine (asks.Stream name columns)) (plain (created name columns.items))
  stream-goes name columns idle open_now added = record {
    stands = record {
      streams = ap (λ l. with_stream l (record { name = name; columns = columns.items })) h.streams ∙ added;
      live = h.live;
      pages = h.pages;
      lock = subst (λ l. SameLock l (s.streams ++ record { name = name; columns = columns.items } ∷ []) s.lock) (sym idle) open_now;
      most = h.most;
      room = h.room;
      taken = more;
    };
    bad = refl;
  }

  by-found : (result : Result Asks Fault) (f : Finding) (request : Request) (answer : Answer) → ComesOf a result f → IsAnsweredBy s.streams (result_map_both (λ x. x) word_of result) request → Settles s request answer
      → Facts a.lock result request → Goes limit rows a s line f answer
  by-found (Err wrong) f request answer c p q k = goes f (fault wrong) answer (plain (refused (word_of wrong))) c (subst (λ r. Settles s r answer) p q) (fault-goes wrong (word_of wrong))
  by-found (Ok asks.Nothing) f request answer c p q k = goes f (fine asks.Nothing) answer (plain silent) c (subst (λ r. Settles s r answer) p q) (record { stands = one-line; bad = refl })
  by-found (Ok asks.Row) f request answer c p q k = goes f (fine asks.Row) answer answer c refl (row-goes request answer p k.1 q k.0)
  by-found (Ok (asks.Stream name columns)) f request answer c p q k =
      goes f (fine (asks.Stream name columns)) answer (plain (created name columns.items)) c (subst (λ r. Settles s r answer) p q) (stream-goes name columns k.0 k.1 k.2)
  by-found (Ok (asks.Query name wanted shared)) f request answer c p q k = query-goes name wanted shared f answer c (subst (λ r. Settles s r answer) p q)
  by-found (Ok asks.Explain) f request answer c p q k = goes f (fine asks.Explain) answer answer c refl (explain-goes request answer p q)
  by-found (Ok (asks.Drop name)) f request answer c p q k = goes f (fine (asks.Drop name)) answer (plain (dropped name)) c (subst (λ r. Settles s r answer) p q) (drop-goes name)
  by-found (Ok asks.Other) f request answer c p q k = goes f (fine asks.Other) answer (plain saved) c (subst (λ r. Settles s r answer) k q) (record { stands = one-line; bad = refl })
  by-found (Ok (asks.Lock key streams)) f request answer c p q k = goes f (fine (asks.Lock key streams)) answer (plain (locked (record { key = key; opened = p.opened }))) c (subst (λ r. Settles s r answer) p.is q) (record {
    stands = record { streams = h.streams; live = h.live; pages = h.pages; lock = (p.opened, p.found, refl); most = h.most; room = h.room; taken = more };
    bad = refl;
  })
  by-found (Ok asks.Unlock) f request answer c p q k = goes f (fine asks.Unlock) answer (plain unlocked) c (subst (λ r. Settles s r answer) p q) (record {
    stands = record { streams = h.streams; live = h.live; pages = h.pages; lock = refl; most = h.most; room = h.room; taken = more };
    bad = refl;
  })

  roomy : rows + row_count line ≤ limit → is_row_kind (kind_of_line (stripped line)) ≡ true → has_room s ≡ true
  roomy few k =
      let one : row_count line ≡ 1 = kind-counts (is_row_kind (kind_of_line (stripped line))) k in
      room s limit rows h.most h.taken (omega (arith, few, one))

  facts-open : rows + row_count line ≤ limit → (¬ IsResumeLine line) → s.lock ≡ None → (result : Result Asks Fault) (request : Request) → IsAsked s.streams (live_names s) line (result_map_both (λ x. x) word_of result)
      → IsRequest s line request → Facts None result request
  facts-open few none idle (Err wrong) request p q = tt
  facts-open few none idle (Ok asks.Nothing) request p q = tt
  facts-open few none idle (Ok asks.Row) request p q =
      let k : is_row_kind (kind_of_line (stripped line)) ≡ true = row-line s.streams (live_names s) line p in
      (k, never-late s line request (roomy few k) k q)
  facts-open few none idle (Ok (asks.Stream name columns)) request p q = (refl, idle, stream-added s.streams (live_names s) line name columns p)
  facts-open few none idle (Ok (asks.Query name wanted shared)) request p q = tt
  facts-open few none idle (Ok asks.Explain) request p q = tt
  facts-open few none idle (Ok (asks.Drop name)) request p q = tt
  facts-open few none idle (Ok asks.Other) request p q = other-saved s (live_names s) line request idle none p q
  facts-open few none idle (Ok (asks.Lock key streams)) request p q = tt
  facts-open few none idle (Ok asks.Unlock) request p q = tt

  facts-locked : rows + row_count line ≤ limit → (l : StandingLock) (result : Result Asks Fault) (request : Request) → IsLockedAsked s.streams l.key l.streams.items line (result_map_both (λ x. x) word_of result)
      → IsRequest s line request → Facts (Some l) result request
  facts-locked few l (Err wrong) request p q = tt
  facts-locked few l (Ok asks.Nothing) request p q = tt
  facts-locked few l (Ok asks.Row) request p q =
      let k : is_row_kind (kind_of_line (stripped line)) ≡ true = row-line-locked s.streams l.key l.streams.items line p in
      (k, never-late s line request (roomy few k) k q)
  facts-locked few l (Ok (asks.Stream name columns)) request p q = absurd (locked-no-stream s.streams l.key l.streams.items line name columns p)
  facts-locked few l (Ok (asks.Query name wanted shared)) request p q = tt
  facts-locked few l (Ok asks.Explain) request p q = tt
  facts-locked few l (Ok (asks.Drop name)) request p q = tt
  facts-locked few l (Ok asks.Other) request p q = absurd (locked-no-other s.streams l.key l.streams.items line p)
  facts-locked few l (Ok (asks.Lock key streams)) request p q = tt
  facts-locked few l (Ok asks.Unlock) request p q = tt

  -- what is found for a line agrees with what it asks for
  agree : rows + row_count line ≤ limit → (¬ IsResumeLine line) → (lock : Option StandingLock) (streams : List Shape) (names : List (List ℕ)) (result : Result Asks Fault) (request : Request) → streams ≡ s.streams → names ≡ live_names s
      → SameLock lock s.streams s.lock → finding.FoundBehind streams names lock line result → IsRequest s line request
      → IsAnsweredBy s.streams (result_map_both (λ x. x) word_of result) request × Facts lock result request
  agree few none None streams names result request e i same found q =
      let p : IsAsked s.streams (live_names s) line (result_map_both (λ x. x) word_of result) =
      subst (λ (z : List Shape). IsAsked z (live_names s) line (result_map_both (λ x. x) word_of result)) e
      (subst (λ (z : List (List ℕ)). IsAsked streams z line (result_map_both (λ x. x) word_of result)) i found.asked) in
      (finds_answers s same line (result_map_both (λ x. x) word_of result) request p q, facts-open few none same result request p q)
  agree few none (Some l) streams names result request e i same found q =
      let p : IsLockedAsked s.streams l.key l.streams.items line (result_map_both (λ x. x) word_of result) =
      subst (λ (z : List Shape). IsLockedAsked z l.key l.streams.items line (result_map_both (λ x. x) word_of result)) e found.asked in
      let told : IsToldBy s l.key l.streams.items = record { opened = same.0; found = same.1; stands = same.2 } in
      (finds_locked_answers s l.key l.streams.items told line (result_map_both (λ x. x) word_of result) request p q, facts-locked few l result request p q)

  long-goes : (f : Finding) (request : Request) (answer : Answer) → 1024 < length line → f ≡ fault faults.LineTooLong → IsRequest s line request → Settles s request answer → Goes limit rows a s line f answer
  long-goes f request answer l e (session.too_long m q) p = goes f (fault faults.LineTooLong) answer (plain (refused words.LineTooLong)) e (subst (λ r. Settles s r answer) q p) (fault-goes faults.LineTooLong words.LineTooLong)
  long-goes f request answer l e (session.barred m n q) p = absurd (omega (arith, l, m))
  long-goes f request answer l e (session.fits m lets q) p = absurd (omega (arith, l, m))

  pub step : rows + row_count line ≤ limit → (¬ IsResumeLine line) → (f : Finding) (answer : Answer) → IsFinding a line f → IsAnswer s line answer → Goes limit rows a s line f answer
  step few none f answer (finding.too_long l e) i = long-goes f i.request answer l e i.asks i.settles
  step few none f answer (finding.fits l result found c) i =
      let both = agree few none a.lock a.streams a.live result i.request h.streams h.live h.lock found i.asks in
      by-found result f i.request answer c both.0 i.settles both.1
