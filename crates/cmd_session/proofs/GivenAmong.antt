-- Which lines one source gave among the events of all, and how little of its bytes lies beyond them.
use Rattle.std.proofs.Common.{◌≡◌, ℕ, ◌<◌, ◌≤◌, ◌⊎◌, inl, inr, Bool, true, false, List, [], ◌∷◌, ◌++◌, length, refl, sym, ap, ◌∙◌, subst, append_assoc, append-nil, length-append, arith}
use Rattle.io_streams.specs.Source.{SourceState}
use Rattle.io_line_reader.specs.Reading.{Reading, fresh, IsBuffered}
use Rattle.io_line_reader.specs.Texts.{text_of, IsNear}
use Rattle.io_line_reader.specs.GivenLines.{GivenLines}
use Rattle.io_line_reader.proofs.GivenLines.{Step, step-buffered, given-none, given-line, near-line}
use Rattle.io_line_reader.proofs.TextLines.{length-text_of-append}
use Rattle.cmd_session.specs.Events.{Event, lines_of, IsClose}
use Rattle.cmd_session.specs.Events as events
use Rattle.cmd_session.proofs.ToldEvents.{lines_of-append, lines_of-here}

-- Little lies beyond the lines up to an event: beyond its line, where it is one of this source, and else beyond the lines before it.
pub data NearAt (number : ℕ) (e : Event) (text : List ℕ) (before : List (List ℕ)) (last : ℕ) : Type 0 where
  own : (l : List ℕ) → lines_of number (e ∷ []) ≡ l ∷ [] → IsNear text (before ++ l ∷ []) last → NearAt number e text before last
  other : lines_of number (e ∷ []) ≡ [] → IsClose text before last → NearAt number e text before last

-- The source of this number gave its lines among the events, out of the bytes that were taken. What of these lies beyond them came by its last
-- read: so where events are pending, little lies beyond the first of those.
pub record Given (number : ℕ) (source now : SourceState) (reader : Reading) (answered pending : List Event) : Type 0 where
  pub front : List ℕ
  pub given : GivenLines source now reader front (lines_of number (answered ++ pending))
  pub near : (first : Event) (others : List Event) → pending ≡ first ∷ others → NearAt number first (front ++ reader.ahead) (lines_of number answered) now.last
  -- a source that gave no line was not read
  pub unread : lines_of number (answered ++ pending) ≡ [] → reader.ahead ≡ []

-- nothing was taken
pub given-begins : (number : ℕ) (source : SourceState) (reader : Reading) → reader ≡ fresh → Given number source source reader [] []
given-begins number source reader new = record {
  front = [];
  given = subst (λ r. GivenLines source source r [] []) (sym new) (given-none source);
  near = λ first others e. cc;
  unread = λ _. ap (λ (r : Reading). r.ahead) new;
}

pub near-close : (number : ℕ) (e : Event) (text : List ℕ) (before : List (List ℕ)) (last : ℕ) → NearAt number e text before last → IsClose text (before ++ lines_of number (e ∷ [])) last
near-close number e text before last (own l one near) =
    subst (λ ls. IsClose text (before ++ ls) last) (sym one) (record { within = near.within; recent = inr near.recent })
near-close number e text before last (other none close) = subst (λ ls. IsClose text ls last) (sym (ap (λ ls. before ++ ls) none ∙ append-nil before)) close

pub close-longer : (text : List ℕ) (front more : List (List ℕ)) (last : ℕ) → IsClose text front last → IsClose text (front ++ more) last
close-longer text front more last close =
    let longer = length-text_of-append front more in
    record {
      within = omega (arith, close.within, longer);
      recent = elim close.recent [
        | inl none ↦ inl (omega (arith, none, longer))
        | inr few ↦ inr (omega (arith, few, longer))
      ];
    }

-- little lies beyond the lines up to one of the pending events
pub given-close : (number : ℕ) (source now : SourceState) (reader : Reading) (answered pending done : List Event) (here : Event) (others : List Event) → (g : Given number source now reader answered pending)
    → pending ≡ done ++ here ∷ others → IsClose (g.front ++ reader.ahead) (lines_of number (answered ++ (done ++ here ∷ []))) now.last
given-close number source now reader answered pending [] here others g e =
    subst (λ ls. IsClose (g.front ++ reader.ahead) ls now.last) (sym (lines_of-append number answered (here ∷ []))) (near-close number here (g.front ++ reader.ahead) (lines_of number answered) now.last (g.near here others e))
given-close number source now reader answered pending (x ∷ done) here others g e =
    let text = g.front ++ reader.ahead in
    let close = near-close number x text (lines_of number answered) now.last (g.near x (done ++ here ∷ others) e) in
    let more = close-longer text (lines_of number answered ++ lines_of number (x ∷ [])) (lines_of number (done ++ here ∷ [])) now.last close in
    let listed : (lines_of number answered ++ lines_of number (x ∷ [])) ++ lines_of number (done ++ here ∷ []) ≡ lines_of number (answered ++ (x ∷ (done ++ here ∷ []))) =
    append_assoc (lines_of number answered) (lines_of number (x ∷ [])) (lines_of number (done ++ here ∷ []))
    ∙ ap (λ ls. lines_of number answered ++ ls) (sym (lines_of-append number (x ∷ []) (done ++ here ∷ [])))
    ∙ sym (lines_of-append number answered (x ∷ (done ++ here ∷ []))) in
    subst (λ ls. IsClose text ls now.last) listed more

-- all events came to stand below
pub given-sunk : (number : ℕ) (source now : SourceState) (reader : Reading) (answered pending : List Event) → Given number source now reader answered pending → Given number source now reader (answered ++ pending) []
given-sunk number source now reader answered pending g = record {
  front = g.front;
  given = subst (λ es. GivenLines source now reader g.front (lines_of number es)) (sym (append-nil (answered ++ pending))) g.given;
  near = λ first others e. cc;
  unread = λ none. g.unread (ap (lines_of number) (sym (append-nil (answered ++ pending))) ∙ none);
}

-- the lines among events and one event more
lines_of-push : (number : ℕ) (answered pending : List Event) (e : Event) → lines_of number (answered ++ (pending ++ e ∷ [])) ≡ lines_of number (answered ++ pending) ++ lines_of number (e ∷ [])
lines_of-push number answered pending e = ap (lines_of number) (sym (append_assoc answered pending (e ∷ []))) ∙ lines_of-append number (answered ++ pending) (e ∷ [])

-- what is ahead of a reader is nothing, or fewer bytes than the last read gave
few-ahead : (source now : SourceState) (reader : Reading) (front : List ℕ) (given : List (List ℕ)) → GivenLines source now reader front given → (given ≡ [] → reader.ahead ≡ []) → (reader.ahead ≡ []) ⊎ (length reader.ahead < now.last)
few-ahead source now reader front [] g unread = inl (unread refl)
few-ahead source now reader front (line ∷ given) g unread = by_end reader.ended refl
  where
    by_end : (b : Bool) → reader.ended ≡ b → (reader.ahead ≡ []) ⊎ (length reader.ahead < now.last)
    by_end true over = inl (g.over over).0
    by_end false unended = inr (g.strict unended (omega arith))

-- so few bytes lie beyond lines that are no shorter than what they came out of
close-beyond : (front ahead : List ℕ) (given : List (List ℕ)) (last : ℕ) → length front ≤ length (text_of given) → length ahead ≤ 4096 → (ahead ≡ []) ⊎ (length ahead < last) → IsClose (front ++ ahead) given last
close-beyond front ahead given last size most few = record {
  within = omega (arith, size, most, length-append front ahead);
  recent = elim few [
    | inl none ↦ inl (omega (arith, size, ap length none, length-append front ahead))
    | inr less ↦ inr (omega (arith, size, less, length-append front ahead))
  ];
}

-- an event more that is no line of this source
pub given-other : (number : ℕ) (source now : SourceState) (reader : Reading) (answered pending : List Event) (e : Event) → lines_of number (e ∷ []) ≡ [] → Given number source now reader answered pending
    → Given number source now reader answered (pending ++ e ∷ [])
given-other number source now reader answered pending e none g = record {
  front = g.front;
  given = subst (GivenLines source now reader g.front) (sym (lines_of-push number answered pending e ∙ ap (λ ls. lines_of number (answered ++ pending) ++ ls) none ∙ append-nil (lines_of number (answered ++ pending)))) g.given;
  near = by_pending pending g;
  unread = λ empty. g.unread (sym (lines_of-push number answered pending e ∙ ap (λ ls. lines_of number (answered ++ pending) ++ ls) none ∙ append-nil (lines_of number (answered ++ pending))) ∙ empty);
}
  where
    by_pending : (p : List Event) → (h : Given number source now reader answered p) → (first : Event) (others : List Event) → p ++ e ∷ [] ≡ first ∷ others → NearAt number first (h.front ++ reader.ahead) (lines_of number answered) now.last
    by_pending [] h first others same =
        let heads : e ≡ first = cc in
        let size : length h.front ≤ length (text_of (lines_of number answered)) = omega (arith, h.given.size, ap (λ (es : List Event). length (text_of (lines_of number es))) (append-nil answered)) in
        subst (λ x. NearAt number x (h.front ++ reader.ahead) (lines_of number answered) now.last) heads
        (other none (close-beyond h.front reader.ahead (lines_of number answered) now.last size h.given.ahead (few-ahead source now reader h.front (lines_of number (answered ++ [])) h.given h.unread)))
    by_pending (x ∷ p) h first others same =
        let heads : x ≡ first = cc in
        subst (λ y. NearAt number y (h.front ++ reader.ahead) (lines_of number answered) now.last) heads (h.near x p refl)

-- one line more is some line
one_more : (given : List (List ℕ)) (line : List ℕ) → given ++ line ∷ [] ≡ [] → ⊥
one_more given line none = omega (arith, ap length none, length-append given (line ∷ []))

-- a line more that lay whole in what was read
pub given-buffered : (number : ℕ) (source now : SourceState) (old new : Reading) (answered pending : List Event) → Given number source now old answered pending → IsBuffered old new
    → Given number source now new answered (pending ++ events.line number new.line ∷ [])
given-buffered number source now old new answered pending g b =
    let step = step-buffered old new now b in
    let e = events.line number new.line in
    let one : lines_of number (e ∷ []) ≡ new.line ∷ [] = lines_of-here number new.line [] in
    let text = (g.front ++ step.given) ++ new.ahead in
    let same : g.front ++ old.ahead ≡ text = sym (append_assoc g.front step.given new.ahead ∙ ap (λ l. g.front ++ l) (sym step.whole ∙ append-nil old.ahead)) in
    record {
      front = g.front ++ step.given;
      given = subst (GivenLines source now new (g.front ++ step.given)) (sym (lines_of-push number answered pending e ∙ ap (λ ls. lines_of number (answered ++ pending) ++ ls) one))
          (given-line false old new source now now g.front (lines_of number (answered ++ pending)) g.given step);
      near = by_pending pending text (λ first others at. subst (λ t. NearAt number first t (lines_of number answered) now.last) same (g.near first others at))
          (near-line false old new source now now g.front (lines_of number (answered ++ pending)) g.given step) one;
      unread = λ none. absurd (one_more (lines_of number (answered ++ pending)) new.line (sym (lines_of-push number answered pending e ∙ ap (λ ls. lines_of number (answered ++ pending) ++ ls) one) ∙ none));
    }
  where
    by_pending : (p : List Event) (text : List ℕ) → ((first : Event) (others : List Event) → p ≡ first ∷ others → NearAt number first text (lines_of number answered) now.last)
        → IsNear text (lines_of number (answered ++ p) ++ new.line ∷ []) now.last → lines_of number (events.line number new.line ∷ []) ≡ new.line ∷ []
        → (first : Event) (others : List Event) → p ++ events.line number new.line ∷ [] ≡ first ∷ others → NearAt number first text (lines_of number answered) now.last
    by_pending [] text kept here one first others same =
        let heads : events.line number new.line ≡ first = cc in
        subst (λ x. NearAt number x text (lines_of number answered) now.last) heads
        (own new.line one (subst (λ (es : List Event). IsNear text (lines_of number es ++ new.line ∷ []) now.last) (append-nil answered) here))
    by_pending (x ∷ p) text kept here one first others same =
        let heads : x ≡ first = cc in
        subst (λ y. NearAt number y text (lines_of number answered) now.last) heads (kept x p refl)

-- a line more for which the source was read, before which all events came to stand below
pub given-read : (long : Bool) (number : ℕ) (source now now' : SourceState) (old new : Reading) (answered pending : List Event) → Given number source now old answered pending → (step : Step long old new now now')
    → Given number source now' new (answered ++ pending) (events.line number step.line ∷ [])
given-read long number source now now' old new answered pending g step =
    let all = answered ++ pending in
    let e = events.line number step.line in
    let one : lines_of number (e ∷ []) ≡ step.line ∷ [] = lines_of-here number step.line [] in
    record {
      front = g.front ++ step.given;
      given = subst (GivenLines source now' new (g.front ++ step.given)) (sym (lines_of-append number all (e ∷ []) ∙ ap (λ ls. lines_of number all ++ ls) one))
          (given-line long old new source now now' g.front (lines_of number all) g.given step);
      near = λ first others same.
          let heads : e ≡ first = cc in
          subst (λ x. NearAt number x ((g.front ++ step.given) ++ new.ahead) (lines_of number all) now'.last) heads
          (own step.line one (near-line long old new source now now' g.front (lines_of number all) g.given step));
      unread = λ none. absurd (one_more (lines_of number all) step.line (sym (lines_of-append number all (e ∷ []) ∙ ap (λ ls. lines_of number all ++ ls) one) ∙ none));
    }
