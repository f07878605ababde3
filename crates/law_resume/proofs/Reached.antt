-- The states that lines lead to from the first one.
use Rattle.std.proofs.Common.{◌≡◌, ℕ, suc, ◌+◌, ◌<◌, ◌≤◌, ◌^◌, Bool, true, false, cond, not, ◌&&◌, ◌||◌, List, [], ◌∷◌, ◌++◌, map, length, Option, Some, None, refl, sym, ap, ap₂, ◌∙◌, subst, arith, length-append}
use Rattle.std.specs.List.{list_any, sum_by, AllByRecursion}
use Rattle.std.specs.Str.{bytes_eq}
use Rattle.std.proofs.lemmas.List.{length-map, map-append}
use Rattle.std.proofs.lemmas.List.Elements.{All-nil, All-from_recursion}
use Rattle.std.proofs.lemmas.List.Sums.{sum_by-append, sum_by-cons}
use Rattle.sem_query.specs.Query.{QueryValue}
use Rattle.sem_query.specs.Meaning.{Arrival}
use Rattle.sem_query.specs.Numbers.{pages_of}
use Rattle.sem_query.specs.Bases.{Base}
use Rattle.sem_laws.proofs.PlanTests.{not-true}
use Rattle.sem_laws.proofs.Tests.{and-left, and-right, or-false}
use Rattle.sql_text.specs.Blank.{trimmed}
use Rattle.sql_catalog.specs.Streams.{Shape, IsShape, KeepsDomains, all_differ}
use Rattle.exec_registry.specs.Live.{LiveQuery, names, newly, with_row, without, free_pages}
use Rattle.cmd_session.specs.Request.{Request, silent, created, asked, explained, dropped, taken, saved, resumed, based, locked, unlocked, refused}
use Rattle.cmd_session.specs.Requests.{is_live, live_named, IsRequest, fits}
use Rattle.cmd_session.specs.Lock.{Lock, Lets}
use Rattle.cmd_session.specs.Answer.{Answer, plain}
use Rattle.cmd_session.specs.Answers.{IsDecided, accepted, rejected, Settles, IsAnswer}
use Rattle.cmd_session.specs.State.{State, initial, from_base, set_base, one_line_more, next_by, next_of, after}
use Rattle.cmd_session.specs.Replies.{AreAnswers}
use Rattle.cmd_session.specs.declared.outcome.LineOutcome.{LineOutcome}
use Rattle.cmd_session.specs.declared.outcome.LineOutcome.TheVariants as outcomes
use Rattle.cmd_session.specs.Session.{SessionValue, StandsFor, Gives, Does}
use Rattle.io_streams.specs.Sink.{Wrote, BrokeOff}
use Rattle.law_resume.proofs.Leading.{answers_joined, after_joined}
use Rattle.law_resume.specs.Sound.{IsSoundIn}
use Rattle.law_resume.specs.Restores.{IsRestorable}
use Rattle.law_resume.specs.Reached.{IsReached, SessionsStandForReached, ReachedStatesAreRestorable, CheckpointOfReached, ReachedCheckpointsAreShort, ReachedCheckpointsHaveFewLines}
use Rattle.cmd_session.proofs.FewLines.{few_lines}
use Rattle.law_resume.proofs.ReachedQueries.{IsReachedIn, sound_in, restorable, reached_with_more, reached_upto, reached_after_row, reached_on_base, reached_anew, accepted_by}
use Rattle.law_resume.proofs.ReachedRanges.{Fits}
use Rattle.law_resume.proofs.ReachedRequests.{IsReachedState, IsNewQuery, IsBaseFor, IsRight, named_holds, asks_right}
use Rattle.law_resume.proofs.Restored.{checkpoint_goes_on}
use Rattle.law_resume.proofs.ShortLines.{checkpoint_lines_are_short}

-- what holds of each is kept where each changes
all_still : (P Q : LiveQuery → Type 0) (f : LiveQuery → LiveQuery) → ((q : LiveQuery) → P q → Q (f q)) → (qs : List LiveQuery) → AllByRecursion P qs → AllByRecursion Q (map f qs)
all_still P Q f g [] h = tt
all_still P Q f g (q ∷ qs) h = (g q h.0, all_still P Q f g qs h.1)

all_more : (P Q : LiveQuery → Type 0) → ((q : LiveQuery) → P q → Q q) → (qs : List LiveQuery) → AllByRecursion P qs → AllByRecursion Q qs
all_more P Q g [] h = tt
all_more P Q g (q ∷ qs) h = (g q h.0, all_more P Q g qs h.1)

all_push : (P : LiveQuery → Type 0) (qs : List LiveQuery) (n : LiveQuery) → AllByRecursion P qs → P n → AllByRecursion P (qs ++ n ∷ [])
all_push P [] n h k = (k, tt)
all_push P (q ∷ qs) n h k = (h.0, all_push P qs n h.1 k)

abbrev pages_in : List LiveQuery → ℕ
pages_in queries = sum_by (λ (q : LiveQuery). pages_of q.plan) queries

-- names and pages stay where each live query stays the same but for what is kept of it
names_still : (f : LiveQuery → LiveQuery) → ((q : LiveQuery) → (f q).name ≡ q.name) → (qs : List LiveQuery) → names (map f qs) ≡ names qs
names_still f e [] = refl
names_still f e (q ∷ qs) = ap₂ (λ (n : List ℕ) (ns : List (List ℕ)). n ∷ ns) (e q) (names_still f e qs)

pages_still : (f : LiveQuery → LiveQuery) → ((q : LiveQuery) → pages_of (f q).plan ≡ pages_of q.plan) → (qs : List LiveQuery) → pages_in (map f qs) ≡ pages_in qs
pages_still f e [] = refl
pages_still f e (q ∷ qs) =
    sum_by-cons (λ (x : LiveQuery). pages_of x.plan) (f q) (map f qs) ∙ ap₂ (λ (m n : ℕ). m + n) (e q) (pages_still f e qs) ∙ sym (sum_by-cons (λ (x : LiveQuery). pages_of x.plan) q qs)

-- the same where one goes on from another base
names_set : (name : List ℕ) (base : Base) (qs : List LiveQuery) → names (set_base name base qs) ≡ names qs
names_set name base [] = refl
names_set name base (q ∷ qs) = by (bytes_eq q.name name) (names_set name base qs)
  where
    by : (c : Bool) → names (set_base name base qs) ≡ names qs → names (cond c (from_base base q ∷ qs) (q ∷ set_base name base qs)) ≡ names (q ∷ qs)
    by true e = refl
    by false e = ap (λ (ns : List (List ℕ)). q.name ∷ ns) e

length_set : (name : List ℕ) (base : Base) (qs : List LiveQuery) → length (set_base name base qs) ≡ length qs
length_set name base qs = sym (length-map (set_base name base qs) (λ (q : LiveQuery). q.name)) ∙ ap length (names_set name base qs) ∙ length-map qs (λ (q : LiveQuery). q.name)

pages_set : (name : List ℕ) (base : Base) (qs : List LiveQuery) → pages_in (set_base name base qs) ≡ pages_in qs
pages_set name base [] = refl
pages_set name base (q ∷ qs) = by (bytes_eq q.name name) (pages_set name base qs)
  where
    by : (c : Bool) → pages_in (set_base name base qs) ≡ pages_in qs → pages_in (cond c (from_base base q ∷ qs) (q ∷ set_base name base qs)) ≡ pages_in (q ∷ qs)
    by true e = sum_by-cons (λ (x : LiveQuery). pages_of x.plan) (from_base base q) qs ∙ sym (sum_by-cons (λ (x : LiveQuery). pages_of x.plan) q qs)
    by false e =
        sum_by-cons (λ (x : LiveQuery). pages_of x.plan) q (set_base name base qs) ∙ ap (λ (n : ℕ). pages_of q.plan + n) e ∙ sym (sum_by-cons (λ (x : LiveQuery). pages_of x.plan) q qs)

set_holds : (P : LiveQuery → Type 0) (name : List ℕ) (base : Base) (live : LiveQuery) → P (from_base base live) → (qs : List LiveQuery) → AllByRecursion P qs → live_named name qs ≡ Some live
    → AllByRecursion P (set_base name base qs)
set_holds P name base live new [] all e = absurd cc
set_holds P name base live new (q ∷ qs) all e = by (bytes_eq q.name name) e (set_holds P name base live new qs all.1)
  where
    by : (c : Bool) → cond c (Some q) (live_named name qs) ≡ Some live → (live_named name qs ≡ Some live → AllByRecursion P (set_base name base qs))
        → AllByRecursion P (cond c (from_base base q ∷ qs) (q ∷ set_base name base qs))
    by true f rest = (let same : q ≡ live = cc in (subst (λ (x : LiveQuery). P (from_base base x)) (sym same) new, all.1))
    by false f rest = (all.0, rest f)

-- and where one is dropped
drop_holds : (P : LiveQuery → Type 0) (name : List ℕ) (qs : List LiveQuery) → AllByRecursion P qs → AllByRecursion P (without name qs)
drop_holds P name [] h = tt
drop_holds P name (q ∷ qs) h = by (bytes_eq q.name name) (drop_holds P name qs h.1)
  where
    by : (c : Bool) → AllByRecursion P (without name qs) → AllByRecursion P (cond c qs (q ∷ without name qs))
    by true rest = h.1
    by false rest = (h.0, rest)

drop_length : (name : List ℕ) (qs : List LiveQuery) → length (without name qs) ≤ length qs
drop_length name [] = omega arith
drop_length name (q ∷ qs) = by (bytes_eq q.name name) (drop_length name qs)
  where
    by : (c : Bool) → length (without name qs) ≤ length qs → length (cond c qs (q ∷ without name qs)) ≤ suc (length qs)
    by true h = omega arith
    by false h = omega (arith, h)

drop_pages : (name : List ℕ) (qs : List LiveQuery) → pages_in (without name qs) ≤ pages_in qs
drop_pages name [] = omega arith
drop_pages name (q ∷ qs) = by (bytes_eq q.name name) (drop_pages name qs)
  where
    whole : pages_in (q ∷ qs) ≡ pages_of q.plan + pages_in qs
    whole = sum_by-cons (λ (x : LiveQuery). pages_of x.plan) q qs

    by : (c : Bool) → pages_in (without name qs) ≤ pages_in qs → pages_in (cond c qs (q ∷ without name qs)) ≤ pages_in (q ∷ qs)
    by true h = omega (arith, whole)
    by false h = (let part : pages_in (q ∷ without name qs) ≡ pages_of q.plan + pages_in (without name qs) = sum_by-cons (λ (x : LiveQuery). pages_of x.plan) q (without name qs) in omega (arith, h, whole, part))

none_left : (p : List ℕ → Bool) (name : List ℕ) (qs : List LiveQuery) → list_any p (names qs) ≡ false → list_any p (names (without name qs)) ≡ false
none_left p name [] h = refl
none_left p name (q ∷ qs) h = by (bytes_eq q.name name) (none_left p name qs both.1)
  where
    both : (p q.name ≡ false) × (list_any p (names qs) ≡ false)
    both = or-false (p q.name) (list_any p (names qs)) h

    by : (c : Bool) → list_any p (names (without name qs)) ≡ false → list_any p (names (cond c qs (q ∷ without name qs))) ≡ false
    by true rest = both.1
    by false rest = ap₂ (λ a b. a || b) both.0 rest

drop_differ : (name : List ℕ) (qs : List LiveQuery) → all_differ (names qs) ≡ true → all_differ (names (without name qs)) ≡ true
drop_differ name [] h = refl
drop_differ name (q ∷ qs) h = by (bytes_eq q.name name) (drop_differ name qs rest)
  where
    own : list_any (bytes_eq q.name) (names qs) ≡ false
    own = not-true (list_any (bytes_eq q.name) (names qs)) (and-left (not (list_any (bytes_eq q.name) (names qs))) (all_differ (names qs)) h)

    rest : all_differ (names qs) ≡ true
    rest = and-right (not (list_any (bytes_eq q.name) (names qs))) (all_differ (names qs)) h

    by : (c : Bool) → all_differ (names (without name qs)) ≡ true → all_differ (names (cond c qs (q ∷ without name qs))) ≡ true
    by true k = rest
    by false k = ap₂ (λ a b. not a && b) (none_left (bytes_eq q.name) name qs own) k

-- and where one with a new name is added
none_more : (p : List ℕ → Bool) (ns : List (List ℕ)) (n : List ℕ) → list_any p ns ≡ false → p n ≡ false → list_any p (ns ++ n ∷ []) ≡ false
none_more p [] n h k = ap (λ b. b || false) k
none_more p (m ∷ ns) n h k = (let both = or-false (p m) (list_any p ns) h in ap₂ (λ a b. a || b) both.0 (none_more p ns n both.1 k))

differ_more : (ns : List (List ℕ)) (n : List ℕ) → all_differ ns ≡ true → is_live ns n ≡ false → all_differ (ns ++ n ∷ []) ≡ true
differ_more [] n h new = refl
differ_more (m ∷ ns) n h new =
    let own = not-true (list_any (bytes_eq m) ns) (and-left (not (list_any (bytes_eq m) ns)) (all_differ ns) h) in
    let both = or-false (bytes_eq m n) (is_live ns n) new in
    ap₂ (λ a b. not a && b) (none_more (bytes_eq m) ns n own both.0) (differ_more ns n (and-right (not (list_any (bytes_eq m) ns)) (all_differ ns) h) both.1)

-- after a line that asks for this
line_more : (s : State) → IsReachedState s → IsReachedState (one_line_more s)
line_more s r = record { limit = r.limit; within = r.within; catalog = r.catalog; queries = r.queries; few = r.few; differ = r.differ; pages = r.pages }

after_row : (s : State) (row : Arrival) → KeepsDomains s.streams row.stream row.values → s.taken < s.limit → AllByRecursion Fits row.values → IsReachedState s
    → IsReachedState (next_by s (taken row.stream row.values))
after_row s row keeps room fit r =
    let small = r.limit in
    let few = r.few in
    let pages = r.pages in
    let size : length (map (with_row row) s.queries) ≡ length s.queries = length-map s.queries (with_row row) in
    let same : pages_in (map (with_row row) s.queries) ≡ pages_in s.queries = pages_still (with_row row) (λ q. refl) s.queries in
    record {
      limit = r.limit;
      within = omega (arith, room);
      catalog = r.catalog;
      queries = all_still (IsReachedIn s.streams s.taken) (IsReachedIn s.streams (s.taken + 1)) (with_row row) (λ q h. reached_after_row s.streams s.taken q row (omega (arith, room, small)) keeps fit h) s.queries r.queries;
      few = omega (arith, size, few);
      differ = ap all_differ (names_still (with_row row) (λ q. refl) s.queries) ∙ r.differ;
      pages = omega (arith, same, pages);
    }

after_base : (s : State) (name : List ℕ) (base : Base) → IsBaseFor s name base → IsReachedState s → IsReachedState (next_by s (based name base))
after_base s name base b r =
    let few = r.few in
    let pages = r.pages in
    let size = length_set name base s.queries in
    let same = pages_set name base s.queries in
    let own : IsReachedIn s.streams s.taken b.live = named_holds (IsReachedIn s.streams s.taken) name s.queries b.live r.queries b.named in
    record {
      limit = r.limit;
      within = r.within;
      catalog = r.catalog;
      queries = set_holds (IsReachedIn s.streams s.taken) name base b.live (reached_on_base s.streams s.taken b.live base own b.kept b.given) s.queries r.queries b.named;
      few = omega (arith, size, few);
      differ = ap all_differ (names_set name base s.queries) ∙ r.differ;
      pages = omega (arith, same, pages);
    }

after_plain : (s : State) (x : Request) → IsRight s x → IsReachedState s → IsReachedState (next_by s x)
after_plain s silent k r = line_more s r
after_plain s (created name columns) k r =
    (let more : List Shape = record { name = name; columns = columns } ∷ [] in
    record {
      limit = r.limit;
      within = r.within;
      catalog = k;
      queries = all_more (IsReachedIn s.streams s.taken) (IsReachedIn (s.streams ++ more) s.taken) (λ q h. reached_with_more s.streams more s.taken q h) s.queries r.queries;
      few = r.few;
      differ = r.differ;
      pages = r.pages;
    })
after_plain s (asked name query shared) k r = line_more s r
after_plain s (explained name) k r = line_more s r
after_plain s (dropped name) k r =
    (let few = r.few in
    let pages = r.pages in
    let l = drop_length name s.queries in
    let p = drop_pages name s.queries in
    record {
      limit = r.limit;
      within = r.within;
      catalog = r.catalog;
      queries = drop_holds (IsReachedIn s.streams s.taken) name s.queries r.queries;
      few = omega (arith, l, few);
      differ = drop_differ name s.queries r.differ;
      pages = omega (arith, p, pages);
    })
after_plain s (taken stream values) k r = after_row s (record { stream = stream; values = values }) k.0 k.1 k.2 r
after_plain s saved k r = line_more s r
after_plain s (resumed n) k r =
    (let none = k.0 in
    record {
      limit = r.limit;
      within = k.1;
      catalog = r.catalog;
      queries = all_more (IsReachedIn s.streams s.taken) (IsReachedIn s.streams n) (λ q h. reached_upto s.streams s.taken n q (omega (arith, none)) h) s.queries r.queries;
      few = r.few;
      differ = r.differ;
      pages = r.pages;
    })
after_plain s (based name base) k r = after_base s name base k r
after_plain s (locked lock) k r = record { limit = r.limit; within = r.within; catalog = r.catalog; queries = r.queries; few = r.few; differ = r.differ; pages = r.pages }
after_plain s unlocked k r = record { limit = r.limit; within = r.within; catalog = r.catalog; queries = r.queries; few = r.few; differ = r.differ; pages = r.pages }
after_plain s (refused word) k r = line_more s r

after_told : (s : State) (x : Request) (answer : Answer) → IsRight s x → answer ≡ plain x → IsReachedState s → IsReachedState (next_of s answer)
after_told s x answer k e r = subst (λ (a : Answer). IsReachedState (next_of s a)) (sym e) (after_plain s x k r)

-- after a verdict on a query
after_verdict : (s : State) (name : List ℕ) (query : QueryValue) (shared : Bool) (answer : Answer) → IsNewQuery s name query shared → IsDecided name query shared (free_pages s.pages s.queries) answer
    → IsReachedState s → IsReachedState (next_of s answer)
after_verdict s name query shared answer k (accepted plan is v e) r =
    let one = accepted_by shared query plan (free_pages s.pages s.queries) is v in
    let fits = one.1 in
    let n : LiveQuery = newly name query shared plan in
    let room = k.room in
    let pages = r.pages in
    let l : length (s.queries ++ n ∷ []) ≡ length s.queries + 1 = length-append s.queries (n ∷ []) in
    let more : pages_in (s.queries ++ n ∷ []) ≡ pages_in s.queries + pages_in (n ∷ []) = sum_by-append (λ (x : LiveQuery). pages_of x.plan) s.queries (n ∷ []) in
    let own : pages_in (n ∷ []) ≡ pages_of plan + 0 = sum_by-cons (λ (x : LiveQuery). pages_of x.plan) n [] in
    subst (λ (a : Answer). IsReachedState (next_of s a)) (sym e)
    (record {
      limit = r.limit;
      within = r.within;
      catalog = r.catalog;
      queries = all_push (IsReachedIn s.streams s.taken) s.queries n r.queries
          (reached_anew s.streams s.taken name query shared plan k.query.own k.query.limits k.query.named k.query.line one.0);
      few = omega (arith, l, room);
      differ = ap all_differ (map-append (λ (x : LiveQuery). x.name) s.queries (n ∷ [])) ∙ differ_more (names s.queries) name r.differ k.new;
      pages = omega (arith, fits, pages, more, own);
    })
after_verdict s name query shared answer k (rejected verdict v refuses e) r = subst (λ (a : Answer). IsReachedState (next_of s a)) (sym e) (line_more s r)

after_settled : (s : State) (x : Request) (answer : Answer) → IsRight s x → Settles s x answer → IsReachedState s → IsReachedState (next_of s answer)
after_settled s silent answer k e r = after_told s silent answer k e r
after_settled s (created name columns) answer k e r = after_told s (created name columns) answer k e r
after_settled s (asked name query shared) answer k e r = after_verdict s name query shared answer k e r
after_settled s (explained name) answer k e r = after_told s (explained name) answer k e r
after_settled s (dropped name) answer k e r = after_told s (dropped name) answer k e r
after_settled s (taken stream values) answer k e r = after_told s (taken stream values) answer k e r
after_settled s saved answer k e r = after_told s saved answer k e r
after_settled s (resumed n) answer k e r = after_told s (resumed n) answer k e r
after_settled s (based name base) answer k e r = after_told s (based name base) answer k e r
after_settled s (locked lock) answer k e r = after_told s (locked lock) answer k e r
after_settled s unlocked answer k e r = after_told s unlocked answer k e r
after_settled s (refused word) answer k e r = after_told s (refused word) answer k e r

-- after lines
after_line : (s : State) (line : List ℕ) (answer : Answer) → IsAnswer s line answer → IsReachedState s → IsReachedState (next_of s answer)
after_line s line answer is r = after_settled s is.request answer (asks_right s r line is.request is.asks) is.settles r

after_lines : (s : State) (lines : List (List ℕ)) (answers : List Answer) → AreAnswers s lines answers → IsReachedState s → IsReachedState (after s answers)
unfolding after
after_lines s [] [] is r = r
after_lines s [] (answer ∷ others) is r = absurd is
after_lines s (line ∷ lines) [] is r = absurd is
after_lines s (line ∷ lines) (answer ∷ others) is r = after_lines (next_of s answer) lines others is.1 (after_line s line answer is.0 r)

first_is_reached : (limit pages : ℕ) → limit ≤ 2 ^ 40 → IsReachedState (initial limit pages)
first_is_reached limit pages small = record {
  limit = small;
  within = omega arith;
  catalog = record { few = omega arith; shapes = All-nil IsShape; differ = refl };
  queries = tt;
  few = omega arith;
  differ = refl;
  pages = omega arith;
}

state_is_reached : (limit : ℕ) → limit ≤ 2 ^ 40 → (s : State) → IsReached limit s → IsReachedState s
state_is_reached limit small s is = subst IsReachedState is.is (after_lines (initial limit is.pages) is.lines is.answers is.answered (first_is_reached limit is.pages small))

-- after one line more
after_given : (limit : ℕ) (s : State) (line : List ℕ) (request : Request) (new : SessionValue) (P : List ℕ → Type 0) → IsReached limit s → IsRequest s line request → Gives s request new P
    → (t : State) × IsReached limit t × StandsFor new t
unfolding after
after_given limit s line request new P is asks gives =
    let one : IsAnswer s line gives.answer = record { request = request; asks = asks; settles = gives.settles } in
    let there : AreAnswers (after (initial limit is.pages) is.answers) (line ∷ []) (gives.answer ∷ [])
    = subst (λ (x : State). AreAnswers x (line ∷ []) (gives.answer ∷ [])) (sym is.is) (one, tt) in (
      next_of s gives.answer,
      record {
        pages = is.pages;
        lines = is.lines ++ line ∷ [];
        answers = is.answers ++ gives.answer ∷ [];
        answered = answers_joined (initial limit is.pages) is.lines (line ∷ []) is.answers (gives.answer ∷ []) is.answered there;
        is = after_joined (initial limit is.pages) is.answers (gives.answer ∷ []) ∙ ap (λ (x : State). next_of x gives.answer) is.is;
      },
      gives.stands,
    )

-- an empty line asks for nothing, whatever lock stands
empty_let : (lock : Option Lock) (streams : List Shape) → Lets lock streams []
unfolding trimmed
empty_let None streams = tt
empty_let (Some lock) streams = tt

empty_asks : (s : State) → IsRequest s [] silent
unfolding trimmed
empty_asks s = fits (omega arith) (empty_let s.lock s.streams) refl

pub sessions_stand_for_reached : SessionsStandForReached
sessions_stand_for_reached limit s line outcome new written now is answered = by outcome answered.does
  where
    by : (o : LineOutcome) → Does o s answered.request new written now → (t : State) × IsReached limit t × StandsFor new t
    by outcomes.Done does = after_given limit s line answered.request new (Wrote written now) is answered.asks does
    by outcomes.WriteFault does = after_given limit s line answered.request new (BrokeOff written now) is answered.asks does
    by outcomes.Memory does = after_given limit s [] silent new (λ reply. reply ≡ []) is (empty_asks s) (record { answer = plain silent; settles = refl; stands = does.1; reply = refl })

pub reached_states_are_restorable : ReachedStatesAreRestorable
reached_states_are_restorable limit small s is =
    let r : IsReachedState s = state_is_reached limit small s is in
    let within = r.within in
    let most = r.limit in
    let few : s.taken ≤ 2 ^ 40 = omega (arith, within, most) in (
      record {
        limit = r.limit;
        within = r.within;
        queries = All-from_recursion (IsSoundIn s.streams s.taken) s.queries (all_more (IsReachedIn s.streams s.taken) (IsSoundIn s.streams s.taken) (sound_in s.streams s.taken) s.queries r.queries);
      },
      r.catalog,
      All-from_recursion (IsRestorable s.streams s.taken) s.queries (all_more (IsReachedIn s.streams s.taken) (IsRestorable s.streams s.taken) (restorable s.streams s.taken few) s.queries r.queries),
      record { few = r.few; differ = r.differ; pages = r.pages },
    )

pub checkpoint_of_reached : CheckpointOfReached
checkpoint_of_reached limit small s is none =
    let all = reached_states_are_restorable limit small s is in
    checkpoint_goes_on s none all.0 all.1 all.2 all.3

pub reached_checkpoints_are_short : ReachedCheckpointsAreShort
reached_checkpoints_are_short limit small s is =
    let all = reached_states_are_restorable limit small s is in
    let within = all.0.within in
    let most = all.0.limit in
    checkpoint_lines_are_short s all.1 (omega (arith, within, most)) (λ i d l. (all.2 i d l).sound) (λ i d l. (all.2 i d l).short)

pub reached_checkpoints_have_few_lines : ReachedCheckpointsHaveFewLines
reached_checkpoints_have_few_lines limit small s is =
    let all = reached_states_are_restorable limit small s is in
    few_lines s all.1.few all.3.few (λ i d l. (all.2 i d l).sound)
