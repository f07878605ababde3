-- Events with what each comes to, each reply in a form.
use Rattle.std.proofs.Common.{◌≡◌, ℕ, List, [], ◌∷◌, ◌++◌, refl, sym, ap, ◌∙◌, append_assoc, append-nil}
use Rattle.cmd_session.specs.State.{State, next_of}
use Rattle.cmd_session.specs.Replies.{reply_to}
use Rattle.cmd_session.proofs.ToldEvents.{Told, line, fault, answers_of, next, reply, at, at-append, OnlyLines}
use Rattle.cmd_each.specs.Each.{formed}

-- what is written at the events, in this form
unfoldable pub told_as : (List ℕ → List ℕ) → State → List Told → List ℕ
told_as form s [] = []
told_as form s (t ∷ ts) = form (reply s t) ++ told_as form (next s t) ts

pub told-none : (form : List ℕ → List ℕ) (s : State) → told_as form s [] ≡ []
unfolding told_as
told-none form s = refl

pub told-cons : (form : List ℕ → List ℕ) (s : State) (t : Told) (others : List Told) → told_as form s (t ∷ others) ≡ form (reply s t) ++ told_as form (next s t) others
unfolding told_as
told-cons form s t others = refl

pub told-append : (form : List ℕ → List ℕ) (s : State) (front others : List Told) → told_as form s (front ++ others) ≡ told_as form s front ++ told_as form (at s front) others
unfolding at told_as
told-append form s [] others = refl
told-append form s (t ∷ front) others = ap (λ l. form (reply s t) ++ l) (told-append form (next s t) front others) ∙ sym (append_assoc (form (reply s t)) _ _)

pub told-push : (form : List ℕ → List ℕ) (s : State) (answered pending : List Told) (t : Told)
    → told_as form (at s answered) (pending ++ t ∷ []) ≡ told_as form (at s answered) pending ++ form (reply (at s (answered ++ pending)) t)
told-push form s answered pending t =
    told-append form (at s answered) pending (t ∷ [])
    ∙ ap (λ l. told_as form (at s answered) pending ++ l)
    (told-cons form (at (at s answered) pending) t [] ∙ ap (λ l. form (reply (at (at s answered) pending) t) ++ l) (told-none form (next (at (at s answered) pending) t))
    ∙ append-nil (form (reply (at (at s answered) pending) t)) ∙ ap (λ u. form (reply u t)) (at-append s answered pending))

pub only-told : (form : List ℕ → List ℕ) (s : State) (ts : List Told) → OnlyLines ts → told_as form s ts ≡ formed form s (answers_of ts)
unfolding told_as formed
only-told form s [] p = refl
only-told form s (line number text answer ∷ ts) p = ap (λ l. form (reply_to s answer) ++ l) (only-told form (next_of s answer) ts p.1)
only-told form s (fault number ∷ ts) p = absurd p
