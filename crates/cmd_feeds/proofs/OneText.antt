-- Feeds have one text, and that over one feed is a session's.
use Rattle.std.proofs.Common.{◌≡◌, ℕ, List, [], ◌∷◌, ◌++◌, map, refl, sym, ap, ◌∙◌, subst, false}
use Rattle.sql_text.specs.Lines.{lines}
use Rattle.cmd_session.specs.Answer.{Answer}
use Rattle.std.specs.declared.option.Option.{Option}
use Rattle.cmd_session.specs.Lock.{Lock}
use Rattle.cmd_session.specs.State.{State, empty, next_of}
use Rattle.cmd_session.specs.Replies.{reply_to, replies, AreAnswers}
use Rattle.cmd_session.proofs.OneAnswer.{one_answer}
use Rattle.cmd_session.specs.Events.{Event, line, fault}
use Rattle.cmd_feeds.specs.Gates.{under}
use Rattle.cmd_feeds.specs.Turns.{turns}
use Rattle.cmd_feeds.specs.FeedsText.{AreEvents, event_replies}
use Rattle.cmd_feeds.specs.Laws.{HasOneFeedsText, OneFeedIsASession}
use Rattle.cmd_feeds.proofs.Turns.{one-feed}

one-list : (gates : List (Option Lock)) (s : State) (events : List Event) (xs ys : List Answer) → AreEvents gates s events xs → AreEvents gates s events ys → xs ≡ ys
one-list gates s [] [] [] p q = refl
one-list gates s [] [] (b ∷ ys) p q = absurd q
one-list gates s [] (a ∷ xs) ys p q = absurd p
one-list gates s (line number text ∷ events) [] ys p q = absurd p
one-list gates s (line number text ∷ events) (a ∷ xs) [] p q = absurd q
one-list gates s (line number text ∷ events) (a ∷ xs) (b ∷ ys) p q =
    let same : a ≡ b = one_answer (under gates number s) text a b p.0 q.0 in
    let rest : AreEvents gates (next_of (under gates number s) a) events ys = subst (λ x. AreEvents gates (next_of (under gates number s) x) events ys) (sym same) q.1 in
    let tail : xs ≡ ys = one-list gates (next_of (under gates number s) a) events xs ys p.1 rest in
    ap (λ x. x ∷ xs) same ∙ ap (λ l. b ∷ l) tail
one-list gates s (fault number ∷ events) xs ys p q = one-list gates s events xs ys p q

pub one-feeds-text : HasOneFeedsText
one-feeds-text limit feeds written other p q =
    p.replied ∙ ap (event_replies [] (empty limit) (turns feeds)) (one-list [] (empty limit) (turns feeds) p.answers q.answers p.are q.are) ∙ sym q.replied

-- the events are lines alone
are-lines : (s : State) (texts : List (List ℕ)) (answers : List Answer) → AreEvents [] s (map (line 1) texts) answers → AreAnswers s texts answers
are-lines s [] [] p = tt
are-lines s [] (a ∷ answers) p = absurd p
are-lines s (t ∷ texts) [] p = absurd p
are-lines s (t ∷ texts) (a ∷ answers) p = (p.0, are-lines (next_of s a) texts answers p.1)

replies-lines : (s : State) (texts : List (List ℕ)) (answers : List Answer) → AreAnswers s texts answers → event_replies [] s (map (line 1) texts) answers ≡ replies s answers
unfolding replies
replies-lines s [] [] p = refl
replies-lines s [] (a ∷ answers) p = absurd p
replies-lines s (t ∷ texts) [] p = absurd p
replies-lines s (t ∷ texts) (a ∷ answers) p = ap (λ l. reply_to s a ++ l) (replies-lines (next_of s a) texts answers p.1)

pub one-feed-is-a-session : OneFeedIsASession
one-feed-is-a-session limit text written p =
    let same = one-feed (record { lines = lines text; failed = false }) refl in
    let answered = are-lines (empty limit) (lines text) p.answers (subst (λ es. AreEvents [] (empty limit) es p.answers) same p.are) in
    record {
      answers = p.answers;
      answered = answered;
      replied = p.replied ∙ ap (λ es. event_replies [] (empty limit) es p.answers) same ∙ replies-lines (empty limit) (lines text) p.answers answered;
    }
