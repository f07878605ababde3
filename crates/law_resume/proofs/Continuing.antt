-- Lines that are given to states that are alike.
use Rattle.std.proofs.Common.{◌≡◌, ℕ, Bool, true, false, List, [], ◌∷◌, refl, sym, subst, All}
use Rattle.sql_catalog.specs.Streams.{Shape}
use Rattle.cmd_session.specs.Request.{silent, created, asked, explained, dropped, taken, saved, resumed, based, locked, unlocked, refused}
use Rattle.cmd_session.specs.Answer.{Answer, plain, registered, decided}
use Rattle.cmd_session.specs.Answers.{IsAnswer}
use Rattle.cmd_session.specs.State.{State, next_of, after}
use Rattle.cmd_session.specs.Replies.{AreAnswers}
use Rattle.cmd_session.specs.Restoring.{AreAlike}
use Rattle.law_resume.specs.Sound.{IsSoundIn, IsSoundState}
use Rattle.law_resume.specs.Continuing.{IsResumeLine, takes_row, NoneResumesBeforeRows, unnumbered_reply, unnumbered_replies, ContinuesAlike}
use Rattle.law_resume.proofs.Pairs.{pairs_of}
use Rattle.law_resume.proofs.AlikeRequests.{HaveBegun, asks_alike, asks_plainly}
use Rattle.law_resume.proofs.AlikeReplies.{AreSoundAlike, states_alike, ask_alike, settles_alike, replies_alike}
use Rattle.law_resume.proofs.AlikeStates.{next_alike}

-- what a line does
record StepsAlike (s t : State) (line : List ℕ) (answer : Answer) : Type 0 where
  pub answered : IsAnswer t line answer
  pub replied : unnumbered_reply s answer ≡ unnumbered_reply t answer
  pub next : AreSoundAlike (next_of s answer) (next_of t answer)

steps_alike : (s t : State) (line : List ℕ) (answer : Answer) → AreSoundAlike s t → (IsResumeLine line → HaveBegun s t) → IsAnswer s line answer → StepsAlike s t line answer
steps_alike s t line answer a b is =
    let calm = asks_plainly s line is.request (λ r. (b r).left) is.asks in
    record {
      answered = record { request = is.request; asks = asks_alike s t line is.request (ask_alike s t a) b is.asks; settles = settles_alike s t is.request answer a is.settles };
      replied = replies_alike s t is.request answer a calm is.settles;
      next = next_alike s t is.request answer a calm is.settles;
    }

-- a row line that was taken stays known
begun_after : (s : State) (answer : Answer) → s.began ≡ true → (next_of s answer).began ≡ true
begun_after s (plain silent) b = b
begun_after s (plain (created name columns)) b = b
begun_after s (plain (asked name query shared)) b = b
begun_after s (plain (explained name)) b = b
begun_after s (plain (dropped name)) b = b
begun_after s (plain (taken stream values)) b = refl
begun_after s (plain saved) b = b
begun_after s (plain (resumed n)) b = b
begun_after s (plain (based name base)) b = b
begun_after s (plain (locked lock)) b = b
begun_after s (plain unlocked) b = b
begun_after s (plain (refused word)) b = b
begun_after s (registered name query shared plan) b = b
begun_after s (decided name query verdict) b = b

begun_by_row : (s : State) (answer : Answer) → takes_row answer ≡ true → (next_of s answer).began ≡ true
begun_by_row s (plain silent) e = absurd cc
begun_by_row s (plain (created name columns)) e = absurd cc
begun_by_row s (plain (asked name query shared)) e = absurd cc
begun_by_row s (plain (explained name)) e = absurd cc
begun_by_row s (plain (dropped name)) e = absurd cc
begun_by_row s (plain (taken stream values)) e = refl
begun_by_row s (plain saved) e = absurd cc
begun_by_row s (plain (resumed n)) e = absurd cc
begun_by_row s (plain (based name base)) e = absurd cc
begun_by_row s (plain (locked lock)) e = absurd cc
begun_by_row s (plain unlocked) e = absurd cc
begun_by_row s (plain (refused word)) e = absurd cc
begun_by_row s (registered name query shared plan) e = absurd cc
begun_by_row s (decided name query verdict) e = absurd cc

-- what lines do
pub record GoesOnAlike (s t : State) (lines : List (List ℕ)) (answers : List Answer) : Type 0 where
  pub answered : AreAnswers t lines answers
  pub replied : unnumbered_replies s answers ≡ unnumbered_replies t answers
  pub next : AreAlike (after s answers) (after t answers)

none_left : (s t : State) → AreSoundAlike s t → GoesOnAlike s t [] []
unfolding after unnumbered_replies
none_left s t a = record { answered = tt; replied = refl; next = states_alike s t a }

one_more : (s t : State) (line : List ℕ) (lines : List (List ℕ)) (answer : Answer) (others : List Answer) → StepsAlike s t line answer
    → GoesOnAlike (next_of s answer) (next_of t answer) lines others → GoesOnAlike s t (line ∷ lines) (answer ∷ others)
unfolding after unnumbered_replies
one_more s t line lines answer others step rest =
    let first = step.replied in
    let last = rest.replied in
    record { answered = (step.answered, rest.answered); replied = (λ j. first j ∷ last j); next = rest.next }

-- after a row line was taken, all lines go on alike
all_after_rows : (s t : State) (lines : List (List ℕ)) (answers : List Answer) → AreSoundAlike s t → HaveBegun s t → AreAnswers s lines answers → GoesOnAlike s t lines answers
all_after_rows s t [] [] a b is = none_left s t a
all_after_rows s t [] (answer ∷ others) a b is = absurd is
all_after_rows s t (line ∷ lines) [] a b is = absurd is
all_after_rows s t (line ∷ lines) (answer ∷ others) a b is =
    let step = steps_alike s t line answer a (λ r. b) is.0 in
    one_more s t line lines answer others step
    (all_after_rows (next_of s answer) (next_of t answer) lines others step.next (record { left = begun_after s answer b.left; right = begun_after t answer b.right }) is.1)

-- and before, those that are no RESUME lines
pub all_go_on : (s t : State) (lines : List (List ℕ)) (answers : List Answer) → AreSoundAlike s t → NoneResumesBeforeRows lines answers → AreAnswers s lines answers → GoesOnAlike s t lines answers
all_go_on s t [] [] a n is = none_left s t a
all_go_on s t [] (answer ∷ others) a n is = absurd is
all_go_on s t (line ∷ lines) [] a n is = absurd is
all_go_on s t (line ∷ lines) (answer ∷ others) a n is =
    let step = steps_alike s t line answer a (λ r. absurd (n.0 r)) is.0 in
    one_more s t line lines answer others step
    (by (takes_row answer) refl step.next (λ e. all_go_on (next_of s answer) (next_of t answer) lines others step.next (n.1 e) is.1))
  where
    by : (b : Bool) → takes_row answer ≡ b → AreSoundAlike (next_of s answer) (next_of t answer)
        → (takes_row answer ≡ false → GoesOnAlike (next_of s answer) (next_of t answer) lines others) → GoesOnAlike (next_of s answer) (next_of t answer) lines others
    by true e next rest = all_after_rows (next_of s answer) (next_of t answer) lines others next (record { left = begun_by_row s answer e; right = begun_by_row t answer e }) is.1
    by false e next rest = rest e

sound_alike : (s t : State) → IsSoundState s → IsSoundState t → AreAlike s t → AreSoundAlike s t
sound_alike s t p q a =
    let own : All (IsSoundIn s.streams s.taken) t.queries
    = subst (λ (x : List Shape). All (IsSoundIn x s.taken) t.queries) (sym a.streams) (subst (λ n. All (IsSoundIn t.streams n) t.queries) (sym a.taken) q.queries) in
    record {
      limit = a.limit;
      pages = a.pages;
      streams = a.streams;
      taken = a.taken;
      pairs = pairs_of s.streams s.taken s.queries t.queries a.queries p.queries own;
      small = p.limit;
      within = p.within;
      lock = a.lock;
    }

pub continues_alike : ContinuesAlike
continues_alike s t p q a lines answers n is =
    let goes = all_go_on s t lines answers (sound_alike s t p q a) n is in
    (goes.answered, goes.replied, goes.next)
