-- Parts of a buffer.
use Rattle.std.proofs.Common.{◌≡◌, ℕ, ◌+◌, ◌-◌, ◌<◌, ◌≤◌, ◌≢◌, get_or, List, [], ◌∷◌, ◌++◌, length, take, drop, refl, sym, ap, ◌∙◌, subst, arith, append_assoc, length-drop, length-append, zero, suc, Bool, true, false}
use Rattle.std.proofs.lemmas.List.{take-append-drop, drop-take, drop-drop, drop_more, length-take, take_all}
use Rattle.std.proofs.lemmas.List.Elements.{All-append, All-take}
use Rattle.std.proofs.Math.Seq.{take-append_seam}
use Rattle.std.specs.List.{slice_range}
use Rattle.io_line_reader.specs.Reading.{IsPlain}

pub length-range : (bytes : List ℕ) (a f : ℕ) → f ≤ length bytes → length (slice_range bytes a f) ≡ f - a
length-range bytes a f le = omega (arith, length-take (f - a) (drop a bytes), length-drop a bytes)

below-range : (bytes : List ℕ) (a f n : ℕ) → n < length (slice_range bytes a f) → n < f - a
below-range bytes a f n lt = omega (arith, length-take (f - a) (drop a bytes))

-- a list at a byte
pub cut-at : (bytes : List ℕ) (n b : ℕ) → n < length bytes → get_or bytes n 0 ≡ b → bytes ≡ take n bytes ++ b ∷ drop (n + 1) bytes
cut-at bytes n b lt e = sym (take-append-drop n bytes) ∙ ap (λ l. take n bytes ++ l) (drop_more bytes n 0 lt ∙ ap (λ x. x ∷ drop (n + 1) bytes) e)

pub range-later : (bytes : List ℕ) (a f n : ℕ) → n < length (slice_range bytes a f) → slice_range bytes (a + (n + 1)) f ≡ drop (n + 1) (slice_range bytes a f)
range-later bytes a f n lt =
    let m = f - (a + (n + 1)) in
    let whole : f - a ≡ n + 1 + m = omega (arith, below-range bytes a f n lt) in
    sym (ap (λ k. drop (n + 1) (take k (drop a bytes))) whole ∙ drop-take (n + 1) m (drop a bytes) ∙ ap (take m) (drop-drop (n + 1) a bytes))

pub take-within : (xs : List ℕ) (n k : ℕ) → n ≤ k → take n (take k xs) ≡ take n xs
take-within xs zero k le = refl
take-within [] (suc n) zero le = refl
take-within [] (suc n) (suc k) le = refl
take-within (x ∷ xs) (suc n) zero le = absurd (omega arith)
take-within (x ∷ xs) (suc n) (suc k) le = ap (λ l. x ∷ l) (take-within xs n k (omega arith))

pub range-front : (bytes : List ℕ) (a f n : ℕ) → n < length (slice_range bytes a f) → slice_range bytes a (a + n) ≡ take n (slice_range bytes a f)
range-front bytes a f n lt =
    let same : a + n - a ≡ n = omega arith in
    ap (λ k. take k (drop a bytes)) same ∙ sym (take-within (drop a bytes) n (f - a) (omega (arith, below-range bytes a f n lt)))

-- the line that begins in front of a buffer and ends in it
pub fed-line : (begun rest front later : List ℕ) (n : ℕ) → n < length rest → get_or rest n 0 ≡ 10 → front ≡ take n rest → later ≡ drop (n + 1) rest → begun ++ rest ≡ ((begun ++ front) ++ 10 ∷ []) ++ later
fed-line begun rest front later n lt e f l =
    rw (f, l) (ap (λ r. begun ++ r) (cut-at rest n 10 lt e) ∙ sym (append_assoc begun (take n rest) (10 ∷ drop (n + 1) rest)) ∙ sym (append_assoc (begun ++ take n rest) (10 ∷ []) (drop (n + 1) rest)))

pub plain-more : (begun rest : List ℕ) → IsPlain begun → IsPlain rest → IsPlain (begun ++ rest)
plain-more begun rest p q = All-append (λ b. b ≢ 10) begun rest p q

pub range-none : (bytes : List ℕ) (a f : ℕ) → a ≡ f → slice_range bytes a f ≡ []
range-none bytes a f e =
    let same : f - a ≡ 0 = omega arith in
    ap (λ k. take k (drop a bytes)) same

pub short-range : (bytes : List ℕ) (a f : ℕ) → length (slice_range bytes a f) ≤ f - a
short-range bytes a f = omega (arith, length-take (f - a) (drop a bytes))

pub not-true : (b : Bool) → (b ≡ true → ⊥) → b ≡ false
not-true true h = absurd (h refl)
not-true false h = refl

pub empty-list : (xs : List ℕ) → length xs ≡ 0 → xs ≡ []
empty-list [] e = refl
empty-list (x ∷ xs) e = absurd (omega arith)

pub later-plain : (b : ℕ) (bytes : List ℕ) → IsPlain (b ∷ bytes) → IsPlain bytes
later-plain b bytes plain = λ k d lt. plain (suc k) d (omega arith)

-- an LF does not stand in a front that has none
pub plain-front : (n : ℕ) (line rest : List ℕ) → IsPlain (take n (line ++ 10 ∷ rest)) → n ≤ length line
plain-front zero line rest plain = omega arith
plain-front (suc n) [] rest plain = absurd (plain 0 0 (omega arith) refl)
plain-front (suc n) (b ∷ line) rest plain =
    let shorter = plain-front n line rest (later-plain b (take n (line ++ 10 ∷ rest)) plain) in
    omega arith

-- where a long front has no LF, a line that lies whole is longer
pub long-line : (bytes line rest : List ℕ) (n : ℕ) → IsPlain (take n bytes) → 1024 < n → bytes ≡ line ++ 10 ∷ rest → 1024 < length line
long-line bytes line rest n plain lt e =
    let longer : n ≤ length line = plain-front n line rest (subst (λ l. IsPlain (take n l)) e plain) in
    omega arith

-- where there is no LF, no line lies whole
pub no-whole-line : (bytes line rest : List ℕ) → IsPlain bytes → bytes ≡ line ++ 10 ∷ rest → 1024 < length line
no-whole-line bytes line rest plain e =
    let all : IsPlain (take (length bytes) bytes) = subst IsPlain (sym (take_all (length bytes) bytes (omega arith))) plain in
    let longer : length bytes ≤ length line = plain-front (length bytes) line rest (subst (λ l. IsPlain (take (length bytes) l)) e all) in
    absurd (omega (arith, longer, ap length e, length-append line (10 ∷ rest)))

-- what has an LF is not without one
pub not-plain : (line rest : List ℕ) → IsPlain (line ++ 10 ∷ rest) → ⊥
not-plain [] rest plain = plain 0 0 (omega arith) refl
not-plain (b ∷ line) rest plain = not-plain line rest (later-plain b (line ++ 10 ∷ rest) plain)

-- the front of what has no LF
pub plain-begin : (front rest whole : List ℕ) → IsPlain whole → front ++ rest ≡ whole → IsPlain front
plain-begin front rest whole plain e =
    subst IsPlain (take-append_seam front rest) (All-take (λ b. b ≢ 10) (length front) (front ++ rest) (subst IsPlain (sym e) plain))
