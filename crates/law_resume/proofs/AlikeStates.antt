-- States that are alike are alike after a line.
use Rattle.std.proofs.Common.{◌≡◌, ℕ, ◌+◌, Bool, List, [], ◌∷◌, ◌++◌, sym, ap, subst, arith, refl, Option, Some, None}
use Rattle.sem_query.specs.Query.{QueryValue}
use Rattle.sql_catalog.specs.Streams.{Shape}
use Rattle.exec_registry.specs.Live.{newly, free_pages}
use Rattle.cmd_session.specs.Request.{Request, silent, created, asked, explained, dropped, taken, saved, resumed, based, locked, unlocked, refused}
use Rattle.cmd_session.specs.Lock.{Lock}
use Rattle.cmd_session.specs.Answer.{Answer, plain}
use Rattle.cmd_session.specs.Answers.{IsDecided, accepted, rejected, Settles}
use Rattle.cmd_session.specs.State.{State, one_line_more, next_by, next_of}
use Rattle.law_resume.proofs.Pairs.{more_rows, more_streams, one_dropped, one_created}
use Rattle.law_resume.proofs.AlikeRequests.{IsPlainIn}
use Rattle.law_resume.proofs.AlikeReplies.{AreSoundAlike}

same_but_lines : (s t : State) → AreSoundAlike s t → AreSoundAlike (one_line_more s) (one_line_more t)
same_but_lines s t a = record { limit = a.limit; pages = a.pages; streams = a.streams; taken = a.taken; pairs = a.pairs; small = a.small; within = a.within; lock = a.lock }

with_lock : (s t : State) (lock : Option Lock) → AreSoundAlike s t → AreSoundAlike (record s { lock = lock; lines = s.lines + 1 }) (record t { lock = lock; lines = t.lines + 1 })
with_lock s t lock a = record { limit = a.limit; pages = a.pages; streams = a.streams; taken = a.taken; pairs = a.pairs; small = a.small; within = a.within; lock = refl }

-- after a line that asks for this
plain_next : (s t : State) (r : Request) → AreSoundAlike s t → IsPlainIn s r → AreSoundAlike (next_by s r) (next_by t r)
plain_next s t silent a p = same_but_lines s t a
plain_next s t (created name columns) a p =
    (let more : List Shape = record { name = name; columns = columns } ∷ [] in
    record {
      limit = a.limit;
      pages = a.pages;
      streams = ap (λ (x : List Shape). x ++ more) a.streams;
      taken = a.taken;
      pairs = more_streams s.streams more s.taken s.queries t.queries a.pairs;
      small = a.small;
      within = a.within;
      lock = a.lock;
    })
plain_next s t (asked name query shared) a p = same_but_lines s t a
plain_next s t (explained name) a p = same_but_lines s t a
plain_next s t (dropped name) a p =
    record { limit = a.limit; pages = a.pages; streams = a.streams; taken = a.taken; pairs = one_dropped s.streams s.taken name s.queries t.queries a.pairs; small = a.small; within = a.within; lock = a.lock }
plain_next s t (taken stream values) a p =
    (let room = p.1 in
    record {
      limit = a.limit;
      pages = a.pages;
      streams = a.streams;
      taken = ap (λ n. n + 1) a.taken;
      pairs = more_rows s.streams s.taken (record { stream = stream; values = values }) p.0 s.queries t.queries a.pairs;
      small = a.small;
      within = omega (arith, room);
      lock = a.lock;
    })
plain_next s t saved a p = same_but_lines s t a
plain_next s t (resumed n) a p = absurd p
plain_next s t (based name base) a p = absurd p
plain_next s t (locked lock) a p = with_lock s t (Some lock) a
plain_next s t unlocked a p = with_lock s t None a
plain_next s t (refused word) a p = same_but_lines s t a

told_next : (s t : State) (r : Request) (answer : Answer) → AreSoundAlike s t → IsPlainIn s r → answer ≡ plain r → AreSoundAlike (next_of s answer) (next_of t answer)
told_next s t r answer a p e = subst (λ x. AreSoundAlike (next_of s x) (next_of t x)) (sym e) (plain_next s t r a p)

-- after a verdict on a query
decided_next : (s t : State) (name : List ℕ) (query : QueryValue) (shared : Bool) (free : ℕ) (answer : Answer) → AreSoundAlike s t → IsDecided name query shared free answer
    → AreSoundAlike (next_of s answer) (next_of t answer)
decided_next s t name query shared free answer a (accepted plan is v e) =
    subst (λ x. AreSoundAlike (next_of s x) (next_of t x)) (sym e)
    (record {
      limit = a.limit;
      pages = a.pages;
      streams = a.streams;
      taken = a.taken;
      pairs = one_created s.streams s.taken (newly name query shared plan) s.queries t.queries a.pairs;
      small = a.small;
      within = a.within;
      lock = a.lock;
    })
decided_next s t name query shared free answer a (rejected verdict v r e) = subst (λ x. AreSoundAlike (next_of s x) (next_of t x)) (sym e) (same_but_lines s t a)

pub next_alike : (s t : State) (r : Request) (answer : Answer) → AreSoundAlike s t → IsPlainIn s r → Settles s r answer → AreSoundAlike (next_of s answer) (next_of t answer)
next_alike s t silent answer a p e = told_next s t silent answer a p e
next_alike s t (created name columns) answer a p e = told_next s t (created name columns) answer a p e
next_alike s t (asked name query shared) answer a p e = decided_next s t name query shared (free_pages s.pages s.queries) answer a e
next_alike s t (explained name) answer a p e = told_next s t (explained name) answer a p e
next_alike s t (dropped name) answer a p e = told_next s t (dropped name) answer a p e
next_alike s t (taken stream values) answer a p e = told_next s t (taken stream values) answer a p e
next_alike s t saved answer a p e = told_next s t saved answer a p e
next_alike s t (resumed n) answer a p e = absurd p
next_alike s t (based name base) answer a p e = absurd p
next_alike s t (locked lock) answer a p e = told_next s t (locked lock) answer a p e
next_alike s t unlocked answer a p e = told_next s t unlocked answer a p e
next_alike s t (refused word) answer a p e = told_next s t (refused word) answer a p e
