-- Texts that are written one after another.
use Rattle.std.proofs.Common.{◌≡◌, ℕ, ◌+◌, ◌-◌, ◌<◌, ◌≤◌, get_or, arith, List, [], ◌∷◌, ◌++◌, length, take, drop, refl, sym, ap, ◌∙◌, append_assoc}
use Rattle.std.proofs.lemmas.List.{take-append-drop, take_rest, drop_more}
use Rattle.std.proofs.lemmas.List.Concat.{flat_map-append}
use Rattle.std.specs.List.{flat_map}
use Rattle.std.specs.Io.KnownBytes.{Keeps}
use Rattle.std.proofs.KnownBytes.{Appends-trans, Appends-nil, Appends-kept}
use Rattle.io_streams.specs.Counts.{Rose}
use Rattle.io_streams.specs.Sink.{SinkState, IsLater, Wrote, BrokeOff}

IsLater-refl : (a : SinkState) → IsLater a a
IsLater-refl a = record { faults = omega arith; below = refl; passed = omega arith }

IsLater-trans : (a b c : SinkState) → IsLater a b → IsLater b c → IsLater a c
IsLater-trans a b c p q = record {
  faults = omega (arith, p.faults, q.faults);
  below = q.below ∙ p.below;
  passed = omega (arith, p.passed, q.passed);
}

-- nothing was written
pub Wrote-nil : (a : SinkState) → Wrote a a []
Wrote-nil a = record { bytes = Appends-nil a.written; later = IsLater-refl a }

pub Wrote-trans : (a b c : SinkState) (s t : List ℕ) → Wrote a b s → Wrote b c t → Wrote a c (s ++ t)
Wrote-trans a b c s t p q = record { bytes = Appends-trans a.written b.written c.written s t p.bytes q.bytes; later = IsLater-trans a b c p.later q.later }

-- a count that rose after a moment rose after an earlier one
pub Rose-earlier : (f g h : ℕ) → f ≤ g → Rose g h → Rose f h
Rose-earlier f g h le rose = omega arith

-- a text was written, and then the next one broke off
pub BrokeOff-then : (a b c : SinkState) (s t : List ℕ) → Wrote a b s → BrokeOff b c t → BrokeOff a c (s ++ t)
BrokeOff-then a b c s t p q = record {
  front = s ++ q.front;
  rest = q.rest;
  whole = ap (λ l. s ++ l) q.whole ∙ sym (append_assoc s q.front q.rest);
  wrote = Wrote-trans a b c s q.front p q.wrote;
  rose = Rose-earlier a.faults b.faults c.faults p.later.faults q.rose;
}

-- a text broke off, so a longer one did
pub BrokeOff-stop : (a b : SinkState) (s t : List ℕ) → BrokeOff a b s → BrokeOff a b (s ++ t)
BrokeOff-stop a b s t p = record {
  front = p.front;
  rest = p.rest ++ t;
  whole = ap (λ l. l ++ t) p.whole ∙ append_assoc p.front p.rest t;
  wrote = p.wrote;
  rose = p.rose;
}

-- part of a text is written, and the rest is left
pub record Underway (before after : SinkState) (text rest : List ℕ) : Type 0 where
  pub front : List ℕ
  pub whole : text ≡ front ++ rest
  pub wrote : Wrote before after front

-- after `rest = &rest[n..]`
pub Underway-more : (a b c : SinkState) (text rest : List ℕ) (n : ℕ) → Underway a b text rest → Wrote b c (take n rest) → Underway a c text (take (length rest - n) (drop n rest))
Underway-more a b c text rest n u w = rw take_rest record {
  front = u.front ++ take n rest;
  whole = u.whole ∙ ap (λ l. u.front ++ l) (sym (take-append-drop n rest)) ∙ sym (append_assoc u.front (take n rest) (drop n rest));
  wrote = Wrote-trans a b c u.front (take n rest) u.wrote w;
}

-- the items up to one of them, this one, and the others
pub flat_map-at : {X : Type 0} (f : X → List ℕ) (xs : List X) (i : ℕ) (d : X) → i < length xs → flat_map f xs ≡ flat_map f (take i xs) ++ (f (get_or xs i d) ++ flat_map f (drop (i + 1) xs))
flat_map-at f xs i d lt =
    ap (flat_map f) (sym (take-append-drop i xs)) ∙ flat_map-append f (take i xs) (drop i xs)
    ∙ ap (λ l. flat_map f (take i xs) ++ flat_map f l) (drop_more xs i d lt)

-- the texts of the items were written up to one of them, and this one broke off
pub BrokeOff-at : {X : Type 0} (f : X → List ℕ) (xs : List X) (i : ℕ) (d : X) (a b c : SinkState) → i < length xs → Wrote a b (flat_map f (take i xs)) → BrokeOff b c (f (get_or xs i d)) → BrokeOff a c (flat_map f xs)
BrokeOff-at f xs i d a b c lt p q = rw (flat_map-at f xs i d lt) (BrokeOff-then a b c _ _ p (BrokeOff-stop b c _ _ q))

-- of two fronts of one text the shorter begins the longer
pub front-of : (x y held text : List ℕ) → y ++ held ≡ x ++ text → length x ≤ length y → (more : List ℕ) × (y ≡ x ++ more) × (more ++ held ≡ text)
front-of [] y held text e le = (y, refl, e)
front-of (a ∷ x) [] held text e le = absurd (omega arith)
front-of (a ∷ x) (b ∷ y) held text e le =
    let tails : y ++ held ≡ x ++ text = cc in
    let heads : b ≡ a = cc in
    let h = front-of x y held text tails (omega arith) in
    (h.0, ap (λ l. b ∷ l) h.1 ∙ ap (λ c. c ∷ (x ++ h.0)) heads, h.2)
