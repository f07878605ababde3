-- The first place at which LF stands, from the list of all such places.
use Rattle.std.proofs.Common.{◌≡◌, ℕ, zero, suc, ◌+◌, ◌-◌, ◌<◌, ◌≤◌, ◌==◌, Bool, true, false, cond, List, [], ◌∷◌, length, take, get_or, slice_index, MatchOption, Option, Some, None, refl, sym, ◌∙◌, subst, inl, inr, arith}
use Rattle.std.proofs.lemmas.List.{get_or-take, get_or_default, length-take, take_all}
use Rattle.std.proofs.lemmas.Bool.{cases_eq}
use Rattle.std.proofs.lemmas.Bool.Decides.{nat_tests}
use Rattle.memchr.specs.Find.{Nowhere, NoneBefore, Passes, is_byte, places, places_from}
use Rattle.io_line_reader.specs.Reading.{IsPlain}

module _ (test : ℕ → Bool) (hay : List ℕ) where
  -- what the first place of a list of places says, from i up to an end
  abbrev Leads : ℕ → ℕ → List ℕ → Type 0
  Leads i end [] = Nowhere (Passes test hay) i end
  Leads i end (k ∷ ks) = NoneBefore (Passes test hay) i end k × Passes test hay k

  passes_not : (b : Bool) → b ≡ false → b ≡ true → ⊥
  passes_not b f t = let e : true ≡ false = sym t ∙ f in cc

  later_nowhere : (i j : ℕ) → test (slice_index hay i) ≡ false → Nowhere (Passes test hay) (i + 1) j → Nowhere (Passes test hay) i j
  later_nowhere i j fails h = λ k low high passes. elim (cases_eq k i) [
    | inl e ↦ passes_not (test (slice_index hay i)) fails (subst (λ (n : ℕ). test (slice_index hay n) ≡ true) e passes)
    | inr other ↦ h k (omega (arith, low, other)) high passes
  ]

  later : (i end : ℕ) (ks : List ℕ) → test (slice_index hay i) ≡ false → Leads (i + 1) end ks → Leads i end ks
  later i end [] fails h = later_nowhere i end fails h
  later i end (k ∷ ks) fails h = (record { low = omega (arith, h.0.low); high = h.0.high; before = later_nowhere i k fails h.0.before }, h.1)

  end : (i n : ℕ) → i + 1 + n ≡ i + suc n
  end i n = omega arith

  leads : (i n : ℕ) → Leads i (i + n) (places_from test hay i n)
  unfolding places_from
  leads i zero = λ k low high passes. absurd (omega (arith, low, high))
  leads i (suc n) = by (test (slice_index hay i)) refl (subst (λ (m : ℕ). Leads (i + 1) m (places_from test hay (i + 1) n)) (end i n) (leads (i + 1) n))
    where
      by : (o : Bool) → test (slice_index hay i) ≡ o → Leads (i + 1) (i + suc n) (places_from test hay (i + 1) n)
          → Leads i (i + suc n) (cond o (i ∷ places_from test hay (i + 1) n) (places_from test hay (i + 1) n))
      by true e h = (record { low = omega arith; high = omega arith; before = λ k low high passes. absurd (omega (arith, low, high)) }, e)
      by false e h = later i (i + suc n) (places_from test hay (i + 1) n) e h

is_10 : (b : ℕ) → (b == 10) ≡ true → b ≡ 10
is_10 b h = grind (arith, nat_tests)

test_10 : (b : ℕ) → b ≡ 10 → (b == 10) ≡ true
test_10 b h = grind (arith, nat_tests)

-- no byte of a front is LF, where no place in it passes
plain_front : (bytes : List ℕ) (n : ℕ) → n ≤ length bytes → Nowhere (Passes (is_byte 10) bytes) 0 n → IsPlain (take n bytes)
plain_front bytes n few h = λ k d room e.
    let low : k < n = omega (arith, room, length-take n bytes) in
    let here : get_or (take n bytes) k d ≡ get_or bytes k 0 = get_or-take n bytes k d low ∙ get_or_default bytes k d 0 (omega (arith, low, few)) in
    h k (omega arith) low (test_10 (get_or bytes k 0) (sym here ∙ e))

-- the first of all places, as `feed_place` says it
pub place_found : (bytes : List ℕ) (o : Option ℕ) (all rest : List ℕ) → all ≡ places (is_byte 10) bytes → MatchOption o ((all ≡ []) × (rest ≡ [])) (λ n. all ≡ n ∷ rest)
    → MatchOption o (IsPlain bytes) (λ n. (n < length bytes) × (slice_index bytes n ≡ 10) × IsPlain (take n bytes))
place_found bytes o all rest is h = by o h
  where
    size : 0 + (length bytes - 0) ≡ length bytes
    size = omega arith

    lead : Leads (is_byte 10) bytes 0 (length bytes) all
    lead = subst (λ (ks : List ℕ). Leads (is_byte 10) bytes 0 (length bytes) ks) (sym is)
        (subst (λ (m : ℕ). Leads (is_byte 10) bytes 0 m (places (is_byte 10) bytes)) size (leads (is_byte 10) bytes 0 (length bytes - 0)))

    by : (o : Option ℕ) → MatchOption o ((all ≡ []) × (rest ≡ [])) (λ n. all ≡ n ∷ rest)
        → MatchOption o (IsPlain bytes) (λ n. (n < length bytes) × (slice_index bytes n ≡ 10) × IsPlain (take n bytes))
    by None e = subst (λ (t : List ℕ). IsPlain t) (take_all (length bytes) bytes (omega arith))
        (plain_front bytes (length bytes) (omega arith) (subst (λ (ks : List ℕ). Leads (is_byte 10) bytes 0 (length bytes) ks) e.0 lead))
    by (Some n) e =
        let l = subst (λ (ks : List ℕ). Leads (is_byte 10) bytes 0 (length bytes) ks) e lead in
        (l.0.high, is_10 (slice_index bytes n) l.1, plain_front bytes n (omega (arith, l.0.high)) l.0.before)
