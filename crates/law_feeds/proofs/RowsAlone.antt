-- What feeds for rows alone leave as it was.
use Rattle.std.proofs.Common.{◌≡◌, ◌≢◌, ◌⊎◌, ℕ, zero, suc, ℤ, ◌+◌, ◌<◌, ◌≤◌, ◌^◌, List, [], ◌∷◌, ◌++◌, map, length, length-append, append_assoc, append-nil, Option, Some, None, inl, inr, refl, sym, ap, ◌∙◌, subst, arith, IsTrue, All, slice_index_or}
use Rattle.sem_query.specs.Meaning.{Arrival}
use Rattle.exec_registry.specs.Live.{LiveQuery}
use Rattle.io_row_reader.specs.Open.{is_open}
use Rattle.sql_catalog.specs.Streams.{Shape}
use Rattle.cmd_session.specs.Answer.{Answer, plain}
use Rattle.cmd_session.specs.Answers.{IsAnswer, Settles}
use Rattle.cmd_session.specs.Lock.{Lock, open_in}
use Rattle.cmd_session.specs.Replies.{reply_to}
use Rattle.cmd_session.specs.Request.{silent, taken, unlocked, refused}
use Rattle.cmd_session.specs.State.{State, one_line_more, next_of, after}
use Rattle.cmd_session.specs.Events.{Event, line, fault}
use Rattle.cmd_session.proofs.OneAnswer.{one_answer}
use Rattle.law_lock.specs.Kept.{row_in, rows_in, with_rows, HaveRows, IsKept}
use Rattle.law_lock.specs.Lets.{IsLetRequest, nothing, row, unlocks, refuses}
use Rattle.law_lock.proofs.Classes.{lines_are_few_kinds}
use Rattle.law_lock.proofs.Keeping.{IsLetAnswer, idle, rowed, let_answer, lock_keeps}
use Rattle.law_lock.proofs.Told.{replies_are_short}
use Rattle.cmd_feeds.specs.Gates.{shut, gate, gate_of, gates_in, under}
use Rattle.cmd_feeds.specs.FeedsText.{AreEvents, state_behind}
use Rattle.cmd_feeds.specs.FeedsRead.{line_count}
use Rattle.law_feeds.specs.RowsAlone.{lock_behind, IsFed, FeedsKeep, AreEventsExchanged, AreToldAlike, FeedLinesAreExchanged, AreShortReplies, FeedRepliesAreShort}

-- a lock stands, and no number opens it
record IsShut (o : Option Lock) : Type 0 where
  pub lock : Lock
  pub stands : o ≡ Some lock
  pub none : lock.key ≡ None

-- the lock of each feed is such a one
gates_shut : (lock : Option Lock) (streams : List Shape) (words : List (List ℕ)) (place : ℕ) → IsShut (slice_index_or (map (gate_of lock streams) words) place (Some shut))
gates_shut lock streams [] place = record { lock = shut; stands = refl; none = refl }
gates_shut lock streams (word ∷ words) zero = record { lock = _; stands = refl; none = refl }
gates_shut lock streams (word ∷ words) (suc place) = gates_shut lock streams words place

gate_shut : (s : State) (words : List (List ℕ)) (number : ℕ) → IsShut (gate (gates_in s words) number)
gate_shut s words zero = record { lock = shut; stands = refl; none = refl }
gate_shut s words (suc place) = gates_shut s.lock s.streams words place

-- no line unlocks it
none_unlocks : (s : State) (lock : Lock) (text : List ℕ) (answer : Answer) → s.lock ≡ Some lock → lock.key ≡ None → IsAnswer s text answer → answer ≢ plain unlocked
none_unlocks s lock text answer e key is same = by (lines_are_few_kinds s lock text is.request e is.asks)
  where
    by : IsLetRequest lock text is.request → ⊥
    by (nothing p) = (let a : plain silent ≡ plain unlocked = sym (subst (λ r. Settles s r answer) p is.settles) ∙ same in cc)
    by (row stream values opens p) = (let a : plain (taken stream values) ≡ plain unlocked = sym (subst (λ r. Settles s r answer) p is.settles) ∙ same in cc)
    by (unlocks number k u p) = (let a : Some number ≡ None = sym k ∙ key in cc)
    by (refuses word p) = (let a : plain (refused word) ≡ plain unlocked = sym (subst (λ r. Settles s r answer) p is.settles) ∙ same in cc)

-- what one line does
record OneFed (lock : Lock) (s t : State) (answer : Answer) : Type 0 where
  pub kept : IsKept lock s t (row_in answer)
  pub lines : t.lines ≡ s.lines + 1
  pub few : length (row_in answer) ≤ 1
  pub apart : answer ≢ plain unlocked

one_more : (s : State) (lock : Lock) (answer : Answer) → IsLetAnswer lock answer → (next_of s answer).lines ≡ s.lines + 1
one_more s lock answer (idle none next) = ap (λ (t : State). t.lines) (next s)
one_more s lock answer (rowed stream values opens is) = ap (λ (x : Answer). (next_of s x).lines) is

one_fed : (s : State) (lock : Lock) (text : List ℕ) (answer : Answer) → s.lock ≡ Some lock → lock.key ≡ None → IsAnswer s text answer → OneFed lock s (next_of s answer) answer
unfolding after
one_fed s lock text answer e key is =
    let apart = none_unlocks s lock text answer e key is in
    let keeps = lock_keeps s lock (text ∷ []) (answer ∷ []) e (is, tt) (apart, tt) in
    record {
      kept = subst (IsKept lock s (next_of s answer)) (append-nil (row_in answer)) keeps.0;
      lines = one_more s lock answer (let_answer s lock text answer e is apart);
      few = omega (arith, keeps.1, ap length (append-nil (row_in answer)));
      apart = apart;
    }

-- rows after rows
rows_more : (rows more : List Arrival) (qs ps rs : List LiveQuery) → HaveRows rows qs ps → HaveRows more ps rs → HaveRows (rows ++ more) qs rs
rows_more rows more [] [] [] h k = tt
rows_more rows more [] [] (r ∷ rs) h k = absurd k
rows_more rows more [] (p ∷ ps) rs h k = absurd h
rows_more rows more (q ∷ qs) [] rs h k = absurd h
rows_more rows more (q ∷ qs) (p ∷ ps) [] h k = absurd k
rows_more rows more (q ∷ qs) (p ∷ ps) (r ∷ rs) h k =
    (k.0 ∙ ap (with_rows more) h.0 ∙ ap (λ (l : List Arrival). record q { history = l }) (append_assoc q.history rows more), rows_more rows more qs ps rs h.1 k.1)

rows_none : (queries : List LiveQuery) → HaveRows [] queries queries
rows_none [] = tt
rows_none (q ∷ queries) = (ap (λ (h : List Arrival). record q { history = h }) (sym (append-nil q.history)), rows_none queries)

-- one line and then others
fed_more : (g : Option Lock) (gs : List (Option Lock)) (s t : State) (number : ℕ) (text : List ℕ) (answer : Answer) (events : List Event) (others : List Answer) (o : IsShut (gate (g ∷ gs) number))
    → OneFed o.lock (under (g ∷ gs) number s) (next_of (under (g ∷ gs) number s) answer) answer → IsFed (g ∷ gs) (next_of (under (g ∷ gs) number s) answer) t events others
    → IsFed (g ∷ gs) s t (line number text ∷ events) (answer ∷ others)
fed_more g gs s t number text answer events others o one rest =
    let k = one.kept in
    record {
      limit = rest.limit ∙ k.limit;
      streams = rest.streams ∙ k.streams;
      queries = rows_more (row_in answer) (rows_in others) s.queries (next_of (under (g ∷ gs) number s) answer).queries t.queries k.queries rest.queries;
      pages = rest.pages ∙ k.pages;
      size = rest.size ∙ k.size;
      taken = omega (arith, rest.taken, k.taken, length-append (row_in answer) (rows_in others));
      lines = omega (arith, rest.lines, one.lines);
      stands = rest.stands ∙ ap (λ l. lock_behind (g ∷ gs) l events) k.stays;
      none = (one.apart, rest.none);
      opens = (subst (λ (l : Option Lock). All (λ (r : Arrival). IsTrue (is_open (open_in l) r.stream)) (row_in answer)) (sym o.stands) k.opens, rest.opens);
      few = omega (arith, rest.few, one.few, length-append (row_in answer) (rows_in others));
    }

fed : (g : Option Lock) (gs : List (Option Lock)) → ((number : ℕ) → IsShut (gate (g ∷ gs) number)) → (s : State) (events : List Event) (answers : List Answer) → AreEvents (g ∷ gs) s events answers
    → IsFed (g ∷ gs) s (state_behind (g ∷ gs) s events answers) events answers
fed g gs are s [] [] p =
    record { limit = refl; streams = refl; queries = rows_none s.queries; pages = refl; size = refl; taken = omega arith; lines = omega arith; stands = refl; none = tt; opens = tt; few = omega arith }
fed g gs are s [] (answer ∷ others) p = absurd p
fed g gs are s (line number text ∷ events) [] p = absurd p
fed g gs are s (line number text ∷ events) (answer ∷ others) p =
    let u = under (g ∷ gs) number s in
    let o = are number in
    fed_more g gs s (state_behind (g ∷ gs) (next_of u answer) events others) number text answer events others o (one_fed u o.lock text answer o.stands o.none p.0) (fed g gs are (next_of u answer) events others p.1)
fed g gs are s (fault number ∷ events) answers p =
    let rest = fed g gs are s events answers p in
    record {
      limit = rest.limit;
      streams = rest.streams;
      queries = rest.queries;
      pages = rest.pages;
      size = rest.size;
      taken = rest.taken;
      lines = rest.lines;
      stands = rest.stands;
      none = rest.none;
      opens = rest.opens;
      few = rest.few;
    }

pub feeds_keep : FeedsKeep
feeds_keep s [] events answers some p = absurd (some refl)
feeds_keep s (word ∷ words) events answers some p = fed (gate_of s.lock s.streams word) (gates_in s words) (gate_shut s (word ∷ words)) s events answers p

-- Lines that are exchanged.

no_row : (stream : ℕ) (values : List ℤ) (answer : Answer) → answer ≡ plain (taken stream values) → row_in answer ≡ [] → ⊥
no_row stream values answer e none = (let one : row_in (plain (taken stream values)) ≡ [] = subst (λ x. row_in x ≡ []) e none in cc)

idle_next : (s : State) (lock : Lock) (answer : Answer) → IsLetAnswer lock answer → row_in answer ≡ [] → next_of s answer ≡ one_line_more s
idle_next s lock answer (idle none next) e = next s
idle_next s lock answer (rowed stream values opens is) e = absurd (no_row stream values answer is e)

-- a line that is no row, under the lock of its feed
idle_fed : (s : State) (o : IsShut s.lock) (text : List ℕ) (answer : Answer) → IsAnswer s text answer → row_in answer ≡ [] → next_of s answer ≡ one_line_more s
idle_fed s o text answer is none = idle_next s o.lock answer (let_answer s o.lock text answer o.stands is (none_unlocks s o.lock text answer o.stands o.none is)) none

same_answer : (s : State) (text other : List ℕ) (x y : Answer) → IsAnswer s text x → IsAnswer s other y → text ≡ other → x ≡ y
same_answer s text other x y p q e = one_answer s other x y (subst (λ t. IsAnswer s t x) e p) q

exchanged_next : (s : State) (o : IsShut s.lock) (text other : List ℕ) (x y : Answer) → IsAnswer s text x → IsAnswer s other y → (text ≡ other) ⊎ ((row_in x ≡ []) × (row_in y ≡ [])) → next_of s x ≡ next_of s y
exchanged_next s o text other x y p q (inl e) = ap (next_of s) (same_answer s text other x y p q e)
exchanged_next s o text other x y p q (inr none) = idle_fed s o text x p none.0 ∙ sym (idle_fed s o other y q none.1)

abbrev Alike : List (Option Lock) → State → List Event → List Event → List Answer → List Answer → Type 0
Alike gates s events others xs ys = (state_behind gates s events xs ≡ state_behind gates s others ys) × AreToldAlike gates s s events others xs ys

-- one line and then others
alike_more : (g : Option Lock) (gs : List (Option Lock)) (s : State) (number place : ℕ) (text other : List ℕ) (events others : List Event) (x y : Answer) (xs ys : List Answer) → number ≡ place
    → IsAnswer (under (g ∷ gs) number s) text x → IsAnswer (under (g ∷ gs) place s) other y → next_of (under (g ∷ gs) number s) x ≡ next_of (under (g ∷ gs) place s) y
    → Alike (g ∷ gs) (next_of (under (g ∷ gs) number s) x) events others xs ys → Alike (g ∷ gs) s (line number text ∷ events) (line place other ∷ others) (x ∷ xs) (y ∷ ys)
alike_more g gs s number place text other events others x y xs ys e p q next rest = (
  rest.0 ∙ ap (λ t. state_behind (g ∷ gs) t others ys) next,
  (replied, subst (λ t. AreToldAlike (g ∷ gs) (next_of (under (g ∷ gs) number s) x) t events others xs ys) next rest.1),
)
  where
    replied : text ≡ other → reply_to (under (g ∷ gs) number s) x ≡ reply_to (under (g ∷ gs) place s) y
    replied l =
        let there : IsAnswer (under (g ∷ gs) number s) other y = subst (λ n. IsAnswer (under (g ∷ gs) n s) other y) (sym e) q in
        ap (reply_to (under (g ∷ gs) number s)) (same_answer (under (g ∷ gs) number s) text other x y p there l) ∙ ap (λ n. reply_to (under (g ∷ gs) n s) y) e

alike : (g : Option Lock) (gs : List (Option Lock)) → ((number : ℕ) → IsShut (gate (g ∷ gs) number)) → (s : State) (events others : List Event) (xs ys : List Answer)
    → AreEvents (g ∷ gs) s events xs → AreEvents (g ∷ gs) s others ys → AreEventsExchanged events others xs ys → Alike (g ∷ gs) s events others xs ys
alike g gs are s [] [] [] [] p q x = (refl, tt)
alike g gs are s [] [] [] (b ∷ ys) p q x = absurd x
alike g gs are s [] [] (a ∷ xs) ys p q x = absurd p
alike g gs are s [] (line place other ∷ others) [] ys p q x = absurd x
alike g gs are s [] (line place other ∷ others) (a ∷ xs) ys p q x = absurd p
alike g gs are s [] (fault place ∷ others) [] ys p q x = absurd x
alike g gs are s [] (fault place ∷ others) (a ∷ xs) ys p q x = absurd p
alike g gs are s (line number text ∷ events) others [] ys p q x = absurd p
alike g gs are s (line number text ∷ events) [] (a ∷ xs) [] p q x = absurd x
alike g gs are s (line number text ∷ events) [] (a ∷ xs) (b ∷ ys) p q x = absurd q
alike g gs are s (line number text ∷ events) (line place other ∷ others) (a ∷ xs) [] p q x = absurd q
alike g gs are s (line number text ∷ events) (line place other ∷ others) (a ∷ xs) (b ∷ ys) p q x =
    let u = under (g ∷ gs) number s in
    let there : IsAnswer u other b = subst (λ n. IsAnswer (under (g ∷ gs) n s) other b) (sym x.0) q.0 in
    let here : next_of u a ≡ next_of u b = exchanged_next u (are number) text other a b p.0 there x.1 in
    let next : next_of u a ≡ next_of (under (g ∷ gs) place s) b = here ∙ ap (λ n. next_of (under (g ∷ gs) n s) b) x.0 in
    alike_more g gs s number place text other events others a b xs ys x.0 p.0 q.0 next (alike g gs are (next_of u a) events others xs ys p.1 (subst (λ t. AreEvents (g ∷ gs) t others ys) (sym next) q.1) x.2)
alike g gs are s (line number text ∷ events) (fault place ∷ others) (a ∷ xs) [] p q x = absurd x
alike g gs are s (line number text ∷ events) (fault place ∷ others) (a ∷ xs) (b ∷ ys) p q x = absurd x
alike g gs are s (fault number ∷ events) [] xs ys p q x = absurd x
alike g gs are s (fault number ∷ events) (line place other ∷ others) xs ys p q x = absurd x
alike g gs are s (fault number ∷ events) (fault place ∷ others) xs ys p q x = (let rest = alike g gs are s events others xs ys p q x.1 in (rest.0, rest.1))

pub feed_lines_are_exchanged : FeedLinesAreExchanged
feed_lines_are_exchanged s [] events others xs ys some p q x = absurd (some refl)
feed_lines_are_exchanged s (word ∷ words) events others xs ys some p q x = alike (gate_of s.lock s.streams word) (gates_in s words) (gate_shut s (word ∷ words)) s events others xs ys p q x

-- Replies.

short : (g : Option Lock) (gs : List (Option Lock)) → ((number : ℕ) → IsShut (gate (g ∷ gs) number)) → (s : State) (events : List Event) (answers : List Answer) → s.lines + line_count events + 1 < 2 ^ 64
    → AreEvents (g ∷ gs) s events answers → AreShortReplies (g ∷ gs) s events answers
short g gs are s [] answers few p = tt
short g gs are s (line number text ∷ events) [] few p = absurd p
short g gs are s (line number text ∷ events) (answer ∷ others) few p =
    let u = under (g ∷ gs) number s in
    let o = are number in
    let one = one_fed u o.lock text answer o.stands o.none p.0 in
    (replies_are_short u o.lock text answer o.stands (omega (arith, few)) p.0, short g gs are (next_of u answer) events others (omega (arith, few, one.lines)) p.1)
short g gs are s (fault number ∷ events) answers few p = short g gs are s events answers few p

pub feed_replies_are_short : FeedRepliesAreShort
feed_replies_are_short s [] events answers some few p = absurd (some refl)
feed_replies_are_short s (word ∷ words) events answers some few p = short (gate_of s.lock s.streams word) (gates_in s words) (gate_shut s (word ∷ words)) s events answers few p
