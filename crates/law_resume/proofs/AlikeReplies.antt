-- The replies to a line in states that are alike.
use Rattle.std.proofs.Common.{◌≡◌, ℕ, ◌-◌, ◌≤◌, ◌^◌, Bool, cond, List, [], ◌∷◌, refl, sym, ap, ◌∙◌, subst, arith}
use Rattle.std.specs.Str.{bytes_eq}
use Rattle.sem_query.specs.Numbers.{pages_of}
use Rattle.sem_query.specs.Query.{QueryValue}
use Rattle.sql_catalog.specs.Streams.{Shape}
use Rattle.sql_explain.specs.Text.{explain_text}
use Rattle.exec_registry.specs.Live.{LiveQuery, free_pages}
use Rattle.exec_snapshot.specs.Lines.{text_of_lines}
use Rattle.cmd_session.proofs.Alike.{one_checkpoint}
use Rattle.cmd_session.specs.Request.{Request, silent, created, asked, explained, dropped, taken, saved, resumed, based, locked, unlocked, refused}
use Rattle.cmd_session.specs.Answer.{Answer, plain}
use Rattle.cmd_session.specs.Answers.{IsDecided, accepted, rejected, Settles}
use Rattle.cmd_session.specs.Restoring.{IsAlike, AreAllAlike, AreAlike}
use Rattle.cmd_session.specs.Replies.{explained_text}
use Rattle.sql_replies.specs.Texts.{verdict_text}
use Rattle.cmd_session.specs.State.{State}
use Rattle.law_resume.specs.Continuing.{unnumbered_by, unnumbered_reply}
use Rattle.law_resume.proofs.Pairs.{Pairs, all_are_alike, same_map, same_sum, all_answered}
use Rattle.law_resume.proofs.AlikeRequests.{IsPlainIn, AskAlike}

-- two states are alike, and their live queries are the same or sound
pub record AreSoundAlike (s t : State) : Type 0 where
  pub limit : s.limit ≡ t.limit
  pub pages : s.pages ≡ t.pages
  pub streams : s.streams ≡ t.streams
  pub taken : s.taken ≡ t.taken
  pub pairs : Pairs s.streams s.taken s.queries t.queries
  pub small : s.limit ≤ 2 ^ 40
  pub within : s.taken ≤ s.limit
  pub lock : s.lock ≡ t.lock

pub queries_alike : (s t : State) → AreSoundAlike s t → AreAllAlike s.queries t.queries
queries_alike s t a = all_are_alike s.streams s.taken s.queries t.queries a.pairs

pub states_alike : (s t : State) → AreSoundAlike s t → AreAlike s t
states_alike s t a = record { limit = a.limit; pages = a.pages; streams = a.streams; taken = a.taken; queries = queries_alike s t a; lock = a.lock }

pub ask_alike : (s t : State) → AreSoundAlike s t → AskAlike s t
ask_alike s t a = record {
  limit = a.limit;
  streams = a.streams;
  taken = a.taken;
  named = same_map (λ (q : LiveQuery). q.name) (λ q p e. e.name) s.queries t.queries (queries_alike s t a);
  lock = a.lock;
}

-- as many pages are free
same_pages : (s t : State) → AreSoundAlike s t → free_pages s.pages s.queries ≡ free_pages t.pages t.queries
same_pages s t a =
    ap (λ n. s.pages - n) (same_sum (λ (q : LiveQuery). pages_of q.plan) (λ q p e. ap pages_of e.plan) s.queries t.queries (queries_alike s t a))
    ∙ ap (λ n. free_pages n t.queries) a.pages

-- a request comes to the same
pub settles_alike : (s t : State) (r : Request) (answer : Answer) → AreSoundAlike s t → Settles s r answer → Settles t r answer
settles_alike s t silent answer a e = e
settles_alike s t (created name columns) answer a e = e
settles_alike s t (asked name query shared) answer a e = subst (λ n. IsDecided name query shared n answer) (same_pages s t a) e
settles_alike s t (explained name) answer a e = e
settles_alike s t (dropped name) answer a e = e
settles_alike s t (taken stream values) answer a e = e
settles_alike s t saved answer a e = e
settles_alike s t (resumed n) answer a e = e
settles_alike s t (based name base) answer a e = e
settles_alike s t (locked lock) answer a e = e
settles_alike s t unlocked answer a e = e
settles_alike s t (refused word) answer a e = e

-- a query is explained the same
explained_alike : (streams : List Shape) (name : List ℕ) (qs ps : List LiveQuery) → AreAllAlike qs ps → explained_text streams name qs ≡ explained_text streams name ps
explained_alike streams name [] [] h = refl
explained_alike streams name [] (p ∷ ps) h = absurd h
explained_alike streams name (q ∷ qs) [] h = absurd h
explained_alike streams name (q ∷ qs) (p ∷ ps) h =
    let a : IsAlike q p = h.0 in
    let rest = explained_alike streams name qs ps h.1 in
    λ j. cond (bytes_eq (a.name j) name) (explain_text streams name (a.query j) (a.plan j)) (rest j)

-- the reply to what is asked is the same, but for the number of a refused line
plain_reply_alike : (s t : State) (r : Request) → AreSoundAlike s t → IsPlainIn s r → unnumbered_by s r ≡ unnumbered_by t r
plain_reply_alike s t silent a p = refl
plain_reply_alike s t (created name columns) a p = refl
plain_reply_alike s t (asked name query shared) a p = refl
plain_reply_alike s t (explained name) a p =
    explained_alike s.streams name s.queries t.queries (queries_alike s t a) ∙ ap (λ (x : List Shape). explained_text x name t.queries) a.streams
plain_reply_alike s t (dropped name) a p = refl
plain_reply_alike s t (taken stream values) a p =
    (let small = a.small in
    let within = a.within in
    all_answered s.streams s.taken (record { stream = stream; values = values }) (omega (arith, small, within)) p.0 s.queries t.queries a.pairs)
plain_reply_alike s t saved a p = ap text_of_lines (one_checkpoint s t (states_alike s t a))
plain_reply_alike s t (resumed n) a p = absurd p
plain_reply_alike s t (based name base) a p = absurd p
plain_reply_alike s t (locked lock) a p = refl
plain_reply_alike s t unlocked a p = refl
plain_reply_alike s t (refused word) a p = refl

told_alike : (s t : State) (r : Request) (answer : Answer) → AreSoundAlike s t → IsPlainIn s r → answer ≡ plain r → unnumbered_reply s answer ≡ unnumbered_reply t answer
told_alike s t r answer a p e = ap (unnumbered_reply s) e ∙ plain_reply_alike s t r a p ∙ sym (ap (unnumbered_reply t) e)

decided_alike : (s t : State) (name : List ℕ) (query : QueryValue) (shared : Bool) (free : ℕ) (answer : Answer) → AreSoundAlike s t → IsDecided name query shared free answer
    → unnumbered_reply s answer ≡ unnumbered_reply t answer
decided_alike s t name query shared free answer a (accepted plan is v e) = ap (unnumbered_reply s) e ∙ sym (ap (unnumbered_reply t) e)
decided_alike s t name query shared free answer a (rejected verdict v r e) =
    ap (unnumbered_reply s) e ∙ ap (λ (x : List Shape). verdict_text x name query verdict) a.streams ∙ sym (ap (unnumbered_reply t) e)

pub replies_alike : (s t : State) (r : Request) (answer : Answer) → AreSoundAlike s t → IsPlainIn s r → Settles s r answer → unnumbered_reply s answer ≡ unnumbered_reply t answer
replies_alike s t silent answer a p e = told_alike s t silent answer a p e
replies_alike s t (created name columns) answer a p e = told_alike s t (created name columns) answer a p e
replies_alike s t (asked name query shared) answer a p e = decided_alike s t name query shared (free_pages s.pages s.queries) answer a e
replies_alike s t (explained name) answer a p e = told_alike s t (explained name) answer a p e
replies_alike s t (dropped name) answer a p e = told_alike s t (dropped name) answer a p e
replies_alike s t (taken stream values) answer a p e = told_alike s t (taken stream values) answer a p e
replies_alike s t saved answer a p e = told_alike s t saved answer a p e
replies_alike s t (resumed n) answer a p e = absurd p
replies_alike s t (based name base) answer a p e = absurd p
replies_alike s t (locked lock) answer a p e = told_alike s t (locked lock) answer a p e
replies_alike s t unlocked answer a p e = told_alike s t unlocked answer a p e
replies_alike s t (refused word) answer a p e = told_alike s t (refused word) answer a p e
