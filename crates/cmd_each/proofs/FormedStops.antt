-- The first event whose text is not whole below, where replies are written in a form.
use Rattle.std.proofs.Common.{◌≡◌, ℕ, ◌+◌, ◌<◌, ◌⊎◌, inl, inr, List, [], ◌∷◌, ◌++◌, length, refl, sym, ap, ◌∙◌, subst, append_assoc, append-nil, length-append, arith}
use Rattle.std.specs.Io.KnownBytes.{Appends}
use Rattle.io_streams.specs.Sink.{SinkState}
use Rattle.cmd_session.specs.State.{State}
use Rattle.cmd_session.proofs.Passing.{Passed}
use Rattle.cmd_session.proofs.ToldEvents.{Told, next, reply, at, at-append}
use Rattle.cmd_each.proofs.FormedTold.{told_as, told-none, told-cons, told-append}

compare : (q r a b : List ℕ) → q ++ r ≡ a ++ b → ((more : List ℕ) × (q ≡ a ++ more) × (more ++ r ≡ b)) ⊎ ((rest : List ℕ) × (a ≡ q ++ rest))
compare q r [] b e = inl (q, refl, e)
compare [] r (x ∷ a) b e = inr (x ∷ a, refl)
compare (y ∷ q) r (x ∷ a) b e =
    let tails : q ++ r ≡ a ++ b = cc in
    let heads : y ≡ x = cc in
    elim (compare q r a b tails) [
      | inl h ↦ inl (h.0, ap (λ l. y ∷ l) h.1 ∙ ap (λ c. c ∷ (a ++ h.0)) heads, h.2)
      | inr h ↦ inr (h.0, ap (λ l. x ∷ l) h.1 ∙ ap (λ c. c ∷ (q ++ h.0)) (sym heads))
    ]

-- A front of the texts of events ends in the text of one of them.
pub record Located (form : List ℕ → List ℕ) (s : State) (told : List Told) (front : List ℕ) : Type 0 where
  pub answered : List Told
  pub here : Told
  pub others : List Told
  pub part : List ℕ
  pub rest : List ℕ
  pub whole : told ≡ answered ++ here ∷ others
  pub text : front ≡ told_as form s answered ++ part
  pub begun : form (reply (at s answered) here) ≡ part ++ rest

in_first : (form : List ℕ → List ℕ) (s : State) (t : Told) (others : List Told) (front rest : List ℕ) → form (reply s t) ≡ front ++ rest → Located form s (t ∷ others) front
unfolding told_as at
in_first form s t others front rest e = record { answered = []; here = t; others = others; part = front; rest = rest; whole = refl; text = refl; begun = e }

later : (form : List ℕ → List ℕ) (s : State) (t : Told) (others : List Told) (front more : List ℕ) → front ≡ form (reply s t) ++ more → Located form (next s t) others more → Located form s (t ∷ others) front
unfolding told_as at
later form s t others front more e h = record {
  answered = t ∷ h.answered;
  here = h.here;
  others = h.others;
  part = h.part;
  rest = h.rest;
  whole = ap (λ l. t ∷ l) h.whole;
  text = e ∙ ap (λ l. form (reply s t) ++ l) h.text ∙ sym (append_assoc (form (reply s t)) (told_as form (next s t) h.answered) h.part);
  begun = h.begun;
}

no-more : (more r : List ℕ) → more ++ r ≡ [] → more ≡ []
no-more [] r e = refl
no-more (x ∷ more) r e = absurd (omega (arith, ap length e))

pub locate : (form : List ℕ → List ℕ) (s : State) (t : Told) (others : List Told) (front held : List ℕ) → front ++ held ≡ told_as form s (t ∷ others) → Located form s (t ∷ others) front
locate form s t [] front held e =
    elim (compare front held (form (reply s t)) [] (e ∙ told-cons form s t [] ∙ ap (λ l. form (reply s t) ++ l) (told-none form (next s t)))) [
      | inl h ↦ in_first form s t [] front [] (sym (h.1 ∙ ap (λ l. form (reply s t) ++ l) (no-more h.0 held h.2) ∙ append-nil (form (reply s t))) ∙ sym (append-nil front))
      | inr h ↦ in_first form s t [] front h.0 h.1
    ]
locate form s t (other ∷ others) front held e =
    elim (compare front held (form (reply s t)) (told_as form (next s t) (other ∷ others)) (e ∙ told-cons form s t (other ∷ others))) [
      | inl h ↦ later form s t (other ∷ others) front h.0 h.1 (locate form (next s t) other others h.0 held h.2)
      | inr h ↦ in_first form s t (other ∷ others) front h.0 h.1
    ]

-- All texts before that of one of the pending events were written, and a front of that one.
pub record Stopped (form : List ℕ → List ℕ) (s : State) (answered pending : List Told) (before now : SinkState) : Type 0 where
  pub done : List Told
  pub here : Told
  pub others : List Told
  pub whole : pending ≡ done ++ here ∷ others
  pub front : List ℕ
  pub rest : List ℕ
  pub part : form (reply (at s (answered ++ done)) here) ≡ front ++ rest
  pub written : Appends before.written now.written (told_as form s (answered ++ done) ++ front)

-- Some event is not whole below, or a front of what is held is left.
pub stopped : (form : List ℕ → List ℕ) (s : State) (answered pending : List Told) (before now : SinkState) (rest : List ℕ) → 0 < length rest + length pending
    → Passed before.written now.written (told_as form s answered) (told_as form (at s answered) pending) rest → Stopped form s answered pending before now
stopped form s answered [] before now rest some p = absurd (omega (arith, some, ap length (p.whole ∙ told-none form (at s answered)), length-append p.passed rest))
stopped form s answered (first ∷ others) before now rest some p =
    let found = locate form (at s answered) first others p.passed rest p.whole in
    record {
      done = found.answered;
      here = found.here;
      others = found.others;
      whole = found.whole;
      front = found.part;
      rest = found.rest;
      part = ap (λ u. form (reply u found.here)) (sym (at-append s answered found.answered)) ∙ found.begun;
      written = subst (Appends before.written now.written)
          (ap (λ l. told_as form s answered ++ l) found.text ∙ sym (append_assoc (told_as form s answered) _ found.part) ∙ ap (λ l. l ++ found.part) (sym (told-append form s answered found.answered))) p.written;
    }
