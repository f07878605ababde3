-- The first event whose text is not whole below.
use Rattle.std.proofs.Common.{◌≡◌, ℕ, ◌+◌, ◌<◌, ◌⊎◌, inl, inr, List, [], ◌∷◌, ◌++◌, length, refl, sym, ap, ◌∙◌, subst, append_assoc, append-nil, length-append, arith}
use Rattle.std.specs.Io.KnownBytes.{Appends}
use Rattle.io_streams.specs.Sink.{SinkState}
use Rattle.cmd_session.specs.State.{State}
use Rattle.cmd_session.proofs.Passing.{Passed}
use Rattle.cmd_session.proofs.ToldEvents.{Told, next, reply, at, replied, at-append, replied-none, replied-cons, replied-append}

compare : (q r a b : List ℕ) → q ++ r ≡ a ++ b → ((more : List ℕ) × (q ≡ a ++ more) × (more ++ r ≡ b)) ⊎ ((rest : List ℕ) × (a ≡ q ++ rest))
compare q r [] b e = inl (q, refl, e)
compare [] r (x ∷ a) b e = inr (x ∷ a, refl)
compare (y ∷ q) r (x ∷ a) b e =
    let tails : q ++ r ≡ a ++ b = cc in
    let heads : y ≡ x = cc in
    elim (compare q r a b tails) [
      | inl h ↦ inl (h.0, ap (λ l. y ∷ l) h.1 ∙ ap (λ c. c ∷ (a ++ h.0)) heads, h.2)
      | inr h ↦ inr (h.0, ap (λ l. x ∷ l) h.1 ∙ ap (λ c. c ∷ (q ++ h.0)) (sym heads))
    ]

-- A front of the texts of events ends in the text of one of them.
pub record Located (s : State) (told : List Told) (front : List ℕ) : Type 0 where
  pub answered : List Told
  pub here : Told
  pub others : List Told
  pub part : List ℕ
  pub rest : List ℕ
  pub whole : told ≡ answered ++ here ∷ others
  pub text : front ≡ replied s answered ++ part
  pub begun : reply (at s answered) here ≡ part ++ rest

in_first : (s : State) (t : Told) (others : List Told) (front rest : List ℕ) → reply s t ≡ front ++ rest → Located s (t ∷ others) front
unfolding replied at
in_first s t others front rest e = record { answered = []; here = t; others = others; part = front; rest = rest; whole = refl; text = refl; begun = e }

later : (s : State) (t : Told) (others : List Told) (front more : List ℕ) → front ≡ reply s t ++ more → Located (next s t) others more → Located s (t ∷ others) front
unfolding replied at
later s t others front more e h = record {
  answered = t ∷ h.answered;
  here = h.here;
  others = h.others;
  part = h.part;
  rest = h.rest;
  whole = ap (λ l. t ∷ l) h.whole;
  text = e ∙ ap (λ l. reply s t ++ l) h.text ∙ sym (append_assoc (reply s t) (replied (next s t) h.answered) h.part);
  begun = h.begun;
}

no-more : (more r : List ℕ) → more ++ r ≡ [] → more ≡ []
no-more [] r e = refl
no-more (x ∷ more) r e = absurd (omega (arith, ap length e))

pub locate : (s : State) (t : Told) (others : List Told) (front held : List ℕ) → front ++ held ≡ replied s (t ∷ others) → Located s (t ∷ others) front
locate s t [] front held e =
    elim (compare front held (reply s t) [] (e ∙ replied-cons s t [] ∙ ap (λ l. reply s t ++ l) (replied-none (next s t)))) [
      | inl h ↦ in_first s t [] front [] (sym (h.1 ∙ ap (λ l. reply s t ++ l) (no-more h.0 held h.2) ∙ append-nil (reply s t)) ∙ sym (append-nil front))
      | inr h ↦ in_first s t [] front h.0 h.1
    ]
locate s t (other ∷ others) front held e =
    elim (compare front held (reply s t) (replied (next s t) (other ∷ others)) (e ∙ replied-cons s t (other ∷ others))) [
      | inl h ↦ later s t (other ∷ others) front h.0 h.1 (locate (next s t) other others h.0 held h.2)
      | inr h ↦ in_first s t (other ∷ others) front h.0 h.1
    ]

-- All texts before that of one of the pending events were written, and a front of that one.
pub record Stopped (s : State) (answered pending : List Told) (before now : SinkState) : Type 0 where
  pub done : List Told
  pub here : Told
  pub others : List Told
  pub whole : pending ≡ done ++ here ∷ others
  pub front : List ℕ
  pub rest : List ℕ
  pub part : reply (at s (answered ++ done)) here ≡ front ++ rest
  pub written : Appends before.written now.written (replied s (answered ++ done) ++ front)

-- Some event is not whole below, or a front of what is held is left.
pub stopped : (s : State) (answered pending : List Told) (before now : SinkState) (rest : List ℕ) → 0 < length rest + length pending
    → Passed before.written now.written (replied s answered) (replied (at s answered) pending) rest → Stopped s answered pending before now
stopped s answered [] before now rest some p = absurd (omega (arith, some, ap length (p.whole ∙ replied-none (at s answered)), length-append p.passed rest))
stopped s answered (first ∷ others) before now rest some p =
    let found = locate (at s answered) first others p.passed rest p.whole in
    record {
      done = found.answered;
      here = found.here;
      others = found.others;
      whole = found.whole;
      front = found.part;
      rest = found.rest;
      part = ap (λ u. reply u found.here) (sym (at-append s answered found.answered)) ∙ found.begun;
      written = subst (Appends before.written now.written)
          (ap (λ l. replied s answered ++ l) found.text ∙ sym (append_assoc (replied s answered) _ found.part) ∙ ap (λ l. l ++ found.part) (sym (replied-append s answered found.answered))) p.written;
    }
