-- Texts that are fed one after another.
use Rattle.std.proofs.Common.{◌≡◌, ℕ, List, [], ◌∷◌, ◌++◌, length, drop, sym, ap, ◌∙◌, subst, append_assoc, append-nil}
use Rattle.std.proofs.Math.Seq.{drop-length, drop-append_seam}
use Rattle.std.proofs.lemmas.List.{append_cancel_left}
use Rattle.sql_text.specs.Lines.{lines}
use Rattle.sql_text.proofs.LinesInPieces.{cuts_at_line_end}
use Rattle.cmd_session.specs.State.{State, initial, after}
use Rattle.cmd_session.specs.Replies.{replies, AreAnswers}
use Rattle.cmd_session.specs.Session.{SessionValue, StandsFor}
use Rattle.cmd_session.proofs.LineRuns.{after-append, replies-append, AreAnswers-append}
use Rattle.lib_session.specs.Fed.{FedTo, FedAll}
use Rattle.lib_session.specs.Laws.{RestIsFedLater, FeedsInPieces, RepliesAreToTheText, RepliesAreSessionText}

-- all lines of a text that was fed whole were answered
all_answered : (s : State) (text held now : List ℕ) (new : SessionValue) (p : FedAll s text held now new) → lines text ≡ p.answered
all_answered s text held now new p = p.whole ∙ ap (λ (r : List ℕ). p.answered ++ lines r) (drop-length text) ∙ append-nil p.answered

pub rest_is_fed_later : RestIsFedLater
rest_is_fed_later s text taken between new held held' replied replied' p then =
    let q = then (after s p.answers) p.stands in
    let rest = drop taken text in
    record {
      answered = p.answered ++ q.answered;
      whole = p.whole ∙ ap (λ (l : List (List ℕ)). p.answered ++ l) (all_answered (after s p.answers) rest held' (held' ++ replied') new q)
          ∙ sym (ap (λ (r : List ℕ). (p.answered ++ q.answered) ++ lines r) (drop-length text) ∙ append-nil (p.answered ++ q.answered));
      answers = p.answers ++ q.answers;
      are = AreAnswers-append s p.answered q.answered p.answers q.answers p.are q.are;
      written =
          ap (λ (l : List ℕ). l ++ replied') (append_cancel_left held replied (replies s p.answers) p.written)
          ∙ ap (λ (l : List ℕ). replies s p.answers ++ l) (append_cancel_left held' replied' (replies (after s p.answers) q.answers) q.written)
          ∙ sym (replies-append s p.answers q.answers);
      stands = subst (λ (u : State). StandsFor new u) (sym (after-append s p.answers q.answers)) q.stands;
    }

-- a text that ends with LF was taken of a longer one
front_fed : (s : State) (front rest held now : List ℕ) (new : SessionValue) → FedAll s (front ++ 10 ∷ []) held now new → FedTo s (front ++ 10 ∷ rest) (length (front ++ 10 ∷ [])) held now new
front_fed s front rest held now new p =
    let behind : drop (length (front ++ 10 ∷ [])) (front ++ 10 ∷ rest) ≡ rest = ap (λ (t : List ℕ). drop (length (front ++ 10 ∷ [])) t) (sym (append_assoc front (10 ∷ []) rest)) ∙ drop-append_seam (front ++ 10 ∷ []) rest in
    record {
      answered = p.answered;
      whole = cuts_at_line_end front rest ∙ ap (λ (l : List (List ℕ)). l ++ lines rest) (all_answered s (front ++ 10 ∷ []) held now new p) ∙ sym (ap (λ (r : List ℕ). p.answered ++ lines r) behind);
      answers = p.answers;
      are = p.are;
      written = p.written;
      stands = p.stands;
    }

pub feeds_in_pieces : FeedsInPieces
feeds_in_pieces s front rest between new held held' replied replied' p then =
    let behind : drop (length (front ++ 10 ∷ [])) (front ++ 10 ∷ rest) ≡ rest = ap (λ (t : List ℕ). drop (length (front ++ 10 ∷ [])) t) (sym (append_assoc front (10 ∷ []) rest)) ∙ drop-append_seam (front ++ 10 ∷ []) rest in
    rest_is_fed_later s (front ++ 10 ∷ rest) (length (front ++ 10 ∷ [])) between new held held' replied replied' (front_fed s front rest held (held ++ replied) between p)
    (λ s' stands. subst (λ (t : List ℕ). FedAll s' t held' (held' ++ replied') new) (sym behind) (then s' stands))

pub replies_are_to_the_text : RepliesAreToTheText
replies_are_to_the_text limit pages text new replied p =
    let from : State = initial limit pages in
    record {
      answers = p.answers;
      answered = subst (λ (ls : List (List ℕ)). AreAnswers from ls p.answers) (sym (all_answered from text [] replied new p)) p.are;
      replied = p.written;
    }

pub replies_are_session_text : RepliesAreSessionText
replies_are_session_text limit text new replied p = replies_are_to_the_text limit 16384 text new replied p
