-- A reply that goes to a sink as one line.
use Rattle.std.proofs.Common.{◌≡◌, ◌≢◌, ℕ, zero, suc, ◌<◌, ◌≤◌, Bool, true, false, cond, List, [], ◌∷◌, ◌++◌, length, take, drop, slice_index, refl, sym, ap, ◌∙◌, subst, append_assoc, append-nil, take-append-drop, arith, None, Some, All, ◌⊎◌, inl, inr}
use Rattle.std.specs.declared.option.Option.{Option}
use Rattle.std.specs.Io.KnownBytes.{Keeps, Appends}
use Rattle.std.proofs.KnownBytes.{Appends-trans}
use Rattle.std.proofs.lemmas.List.{length-take-le, take_at}
use Rattle.std.proofs.lemmas.List.Elements.{All-take}
use Rattle.std.proofs.lemmas.Slice.Eq.{bytes_eq-Decides}
use Rattle.io_streams.specs.Sink.{SinkState, IsLater, WritesSome}
use Rattle.io_streams.specs.declared.sink.WriteAnswer.{WriteAnswer}
use Rattle.io_streams.specs.declared.sink.WriteAnswer.TheVariants.{Took, Failed}
use Rattle.cmd_each.specs.declared.one_line.Last.{Last}
use Rattle.cmd_each.specs.declared.one_line.Last.TheVariants.{Nothing, Passed, Held}
use Rattle.cmd_each.specs.Exchange.{names}
use Rattle.cmd_each.specs.OneLine.{HoldsNone, IsUpToFeed, ends_in_feed, is_told, begins, told_by, one_line_seen}
use Rattle.cmd_each.proofs.Exchanging.{taken-twice}
use Rattle.cmd_each.proofs.LastBytes.{ends-other, ends-plain}

pub begins-whole : (told more : List ℕ) → begins (Some told) (told ++ more) ≡ true
begins-whole told more = (bytes_eq-Decides _ _).1 (take_at told more (length told) refl)

pub begins-more : (base : Option (List ℕ)) (bytes : List ℕ) → begins base bytes ≡ true → (told more : List ℕ) × (base ≡ Some told) × (bytes ≡ told ++ more)
begins-more None bytes e = cc
begins-more (Some told) bytes e =
    (told, drop (length told) bytes, refl, sym (take-append-drop (length told) bytes) ∙ ap (λ l. l ++ drop (length told) bytes) ((bytes_eq-Decides _ _).0 e))

-- bytes begin what they are followed by
pub begins-longer : (base : Option (List ℕ)) (bytes more : List ℕ) → begins base bytes ≡ true → begins base (bytes ++ more) ≡ true
begins-longer base bytes more e =
    let h = begins-more base bytes e in
    let whole : begins (Some h.0) ((h.0 ++ h.1) ++ more) ≡ true = ap (begins (Some h.0)) (append_assoc h.0 h.1 more) ∙ begins-whole h.0 (h.1 ++ more) in
    subst (λ l. begins base (l ++ more) ≡ true) (sym h.3) (subst (λ (b : Option (List ℕ)). begins b ((h.0 ++ h.1) ++ more) ≡ true) (sym h.2) whole)

told-begins : (base : Option (List ℕ)) (bytes : List ℕ) → is_told base bytes ≡ true → begins base bytes ≡ true
told-begins None bytes e = e
told-begins (Some told) bytes e =
    let same : told ≡ bytes = (bytes_eq-Decides _ _).0 e in
    subst (λ l. begins (Some told) l ≡ true) (append-nil told ∙ same) (begins-whole told [])

-- either nothing is told, or the bytes below are, behind those that stood there first
View : Option (List ℕ) → Option (List ℕ) → List ℕ → List ℕ → Type 0
View base told bytes shown = (told ≡ None) ⊎ ((told ≡ Some shown) × (begins base bytes ≡ true))

none-view : (base : Option (List ℕ)) (last : Last) (bytes : List ℕ) → HoldsNone last → View base (told_by base last (Some bytes)) bytes bytes
unfolding View
none-view base Nothing bytes none = by (is_told base bytes) refl
  where
    by : (b : Bool) → is_told base bytes ≡ b → (cond b (Some bytes) None ≡ None) ⊎ ((cond b (Some bytes) None ≡ Some bytes) × (begins base bytes ≡ true))
    by true e = inr (refl, told-begins base bytes e)
    by false e = inl refl
none-view base Passed bytes none = by (begins base bytes) (ends_in_feed bytes) refl
  where
    by : (b fed : Bool) → begins base bytes ≡ b → (cond b (cond fed None (Some bytes)) None ≡ None) ⊎ ((cond b (cond fed None (Some bytes)) None ≡ Some bytes) × (begins base bytes ≡ true))
    by true true e = inl refl
    by true false e = inr (refl, e)
    by false fed e = inl refl
none-view base (Held b) bytes none = absurd none

held-view : (base : Option (List ℕ)) (byte : ℕ) (bytes : List ℕ) → View base (told_by base (Held byte) (Some bytes)) bytes (bytes ++ byte ∷ [])
unfolding View
held-view base byte bytes = by (begins base bytes) refl
  where
    by : (b : Bool) → begins base bytes ≡ b → (cond b (Some (bytes ++ byte ∷ [])) None ≡ None) ⊎ ((cond b (Some (bytes ++ byte ∷ [])) None ≡ Some (bytes ++ byte ∷ [])) × (begins base bytes ≡ true))
    by true e = inr (refl, e)
    by false e = inl refl

-- what is shown is followed by a text in what is shown then
view-appends : (base told told' : Option (List ℕ)) (bytes shown shown' text : List ℕ) → View base told bytes shown → (begins base bytes ≡ true → (told' ≡ Some shown') × (shown' ≡ shown ++ text)) → Appends told told' text
unfolding View
view-appends base told told' bytes shown shown' text (inl none) f = rw none tt
view-appends base told told' bytes shown shown' text (inr some) f = let h = f some.1 in rw (some.0, h.0) h.1

held-told : (base : Option (List ℕ)) (byte : ℕ) (bytes : List ℕ) → begins base bytes ≡ true → told_by base (Held byte) (Some bytes) ≡ Some (bytes ++ byte ∷ [])
held-told base byte bytes e = ap (λ (x : Bool). cond x (Some (bytes ++ byte ∷ [])) None) e

passed-told : (base : Option (List ℕ)) (bytes : List ℕ) → begins base bytes ≡ true → ends_in_feed bytes ≡ false → told_by base Passed (Some bytes) ≡ Some bytes
passed-told base bytes e f = ap (λ (x : Bool). cond x (cond (ends_in_feed bytes) None (Some bytes)) None) e ∙ ap (λ (x : Bool). cond x None (Some bytes)) f

one-later : (base : Option (List ℕ)) (low : ℕ) (last last' : Last) (before after : SinkState) (name : ℕ) → IsLater before after → IsLater (one_line_seen base low last before name) (one_line_seen base low last' after name)
one-later base low last last' before after name l = record { faults = l.faults; below = ap (λ n. names name n low) l.below; passed = l.passed }

first-byte : (piece : List ℕ) → 0 < length piece → take 1 piece ≡ slice_index piece 0 ∷ []
first-byte [] some = absurd (omega (arith, some))
first-byte (b ∷ piece) some = refl

-- an LF that comes first is held back
pub holds-feed : (base : Option (List ℕ)) (low : ℕ) (last : Last) (below : SinkState) (name : ℕ) (piece : List ℕ) → HoldsNone last → IsUpToFeed piece 0 → 0 < length piece
    → WritesSome (Took 1) piece (one_line_seen base low last below name) (one_line_seen base low (Held 10) below name)
holds-feed base low last below name piece none up some =
    (omega arith, omega (arith, some), record { bytes = by_known below.written; later = one-later base low last (Held 10) below below name (record { faults = omega arith; below = refl; passed = omega arith }) })
  where
    first : take 1 piece ≡ 10 ∷ []
    first = first-byte piece some ∙ ap (λ b. b ∷ []) (up.feed some)

    by_known : (w : Option (List ℕ)) → Appends (told_by base last w) (told_by base (Held 10) w) (take 1 piece)
    by_known None = tt
    by_known (Some t) = view-appends base _ _ t t (t ++ 10 ∷ []) (take 1 piece) (none-view base last t none) (λ e. (held-told base 10 t e, ap (λ l. t ++ l) (sym first)))

-- bytes without an LF are passed on
pub passes-plain : (base : Option (List ℕ)) (low : ℕ) (last : Last) (below below' : SinkState) (name : ℕ) (piece : List ℕ) (count n : ℕ) → HoldsNone last → IsUpToFeed piece count → WritesSome (Took n) (take count piece) below below'
    → WritesSome (Took n) piece (one_line_seen base low last below name) (one_line_seen base low Passed below' name)
passes-plain base low last below below' name piece count n none up w =
    let size : length (take count piece) ≡ count = length-take-le count piece up.within in
    let some : 0 < length (take n (take count piece)) = omega (arith, length-take-le n (take count piece) w.1, w.0) in
    let same : take n (take count piece) ≡ take n piece = taken-twice n count piece (omega (arith, w.1, size)) in (
      w.0,
      omega (arith, w.1, size, up.within),
      record {
        bytes = by_known below.written below'.written (subst (Appends below.written below'.written) same w.2.bytes) (subst (λ l. 0 < length l) same some) (subst (λ l. All (λ b. b ≢ 10) l) same (All-take (λ b. b ≢ 10) n (take count piece) up.plain));
        later = one-later base low last Passed below below' name w.2.later;
      },
    )
  where
    by_known : (a b : Option (List ℕ)) → Appends a b (take n piece) → 0 < length (take n piece) → All (λ b. b ≢ 10) (take n piece) → Appends (told_by base last a) (told_by base Passed b) (take n piece)
    by_known None b p some plain = tt
    by_known (Some t) None p some plain = absurd p
    by_known (Some t) (Some t') p some plain =
        view-appends base _ _ t t t' (take n piece) (none-view base last t none)
        (λ e. (passed-told base t' (ap (begins base) p ∙ begins-longer base t (take n piece) e) (ap ends_in_feed p ∙ ends-plain t (take n piece) some plain), p))

-- one byte was passed on
one-byte : (n b : ℕ) → 0 < n → n ≤ length (b ∷ []) → take n (b ∷ []) ≡ b ∷ []
one-byte zero b some few = absurd (omega (arith, some))
one-byte (suc zero) b some few = refl
one-byte (suc (suc n)) b some few = absurd (omega (arith, few))

byte-below : (b n : ℕ) (below below' : SinkState) → WritesSome (Took n) (b ∷ []) below below' → Appends below.written below'.written (b ∷ [])
byte-below b n below below' w = subst (Appends below.written below'.written) (one-byte n b w.0 w.1) w.2.bytes

-- another byte that was held back was passed on
behind-other : (base : Option (List ℕ)) (b : ℕ) → b ≢ 10 → (x y : Option (List ℕ)) → Appends x y (b ∷ []) → Appends (told_by base (Held b) x) (told_by base Passed y) []
behind-other base b differ None y p = tt
behind-other base b differ (Some t) None p = absurd p
behind-other base b differ (Some t) (Some t') p =
    view-appends base _ _ t (t ++ b ∷ []) t' [] (held-view base b t)
    (λ e. (passed-told base t' (ap (begins base) p ∙ begins-longer base t (b ∷ []) e) (ap ends_in_feed p ∙ ends-other t b differ), p ∙ sym (append-nil (t ++ b ∷ []))))

kept-behind : (a m c : Option (List ℕ)) → Appends a m [] → Keeps m c → Keeps a c
kept-behind None m c p k = tt
kept-behind (Some x) None c p k = absurd p
kept-behind (Some x) (Some y) None p k = absurd k
kept-behind (Some x) (Some y) (Some z) p k = k ∙ p ∙ append-nil x

later-behind : (a b c : SinkState) → IsLater a b → IsLater b c → IsLater a c
later-behind a b c p q = record { faults = omega (arith, p.faults, q.faults); below = q.below ∙ p.below; passed = omega (arith, p.passed, q.passed) }

writes-behind : (r : WriteAnswer) (piece : List ℕ) (a m c : SinkState) → Appends a.written m.written [] → IsLater a m → WritesSome r piece m c → WritesSome r piece a c
writes-behind (Took n) piece a m c same later w = (w.0, w.1, record { bytes = Appends-trans a.written m.written c.written [] (take n piece) same w.2.bytes; later = later-behind a m c later w.2.later })
writes-behind Failed piece a m c same later w = (omega (arith, w.0, later.faults), kept-behind a.written m.written c.written same w.1, later-behind a m c later w.2)

pub passes-other : (base : Option (List ℕ)) (low : ℕ) (r : WriteAnswer) (below below' : SinkState) (name : ℕ) (b n : ℕ) (piece : List ℕ) (now : SinkState) → b ≢ 10 → WritesSome (Took n) (b ∷ []) below below'
    → WritesSome r piece (one_line_seen base low Passed below' name) now → WritesSome r piece (one_line_seen base low (Held b) below name) now
passes-other base low r below below' name b n piece now differ w more =
    writes-behind r piece (one_line_seen base low (Held b) below name) (one_line_seen base low Passed below' name) now (behind-other base b differ below.written below'.written (byte-below b n below below' w))
    (one-later base low (Held b) Passed below below' name w.2.later) more
