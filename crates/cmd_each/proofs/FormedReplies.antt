-- Replies in a form, to lines that are answered one after another.
use Rattle.std.proofs.Common.{◌≡◌, ℕ, List, [], ◌∷◌, ◌++◌, map, refl, sym, ap, ◌∙◌, append_assoc}
use Rattle.cmd_session.specs.Answer.{Answer}
use Rattle.cmd_session.specs.State.{State, next_of, after}
use Rattle.cmd_session.specs.Replies.{reply_to}
use Rattle.cmd_each.specs.Each.{formed}
use Rattle.cmd_each.specs.Exchange.{exchanged}
use Rattle.cmd_each.specs.OneLine.{closed, joined, without_feed}
use Rattle.cmd_each.proofs.Exchanging.{map-more}

pub formed-append : (form : List ℕ → List ℕ) (s : State) (front others : List Answer) → formed form s (front ++ others) ≡ formed form s front ++ formed form (after s front) others
unfolding after formed
formed-append form s [] others = refl
formed-append form s (x ∷ front) others = ap (λ l. form (reply_to s x) ++ l) (formed-append form (next_of s x) front others) ∙ sym (append_assoc (form (reply_to s x)) _ _)

pub joined-closed : (reply : List ℕ) → map exchanged (closed reply) ≡ joined reply
joined-closed reply = map-more (without_feed reply) (59 ∷ [])
