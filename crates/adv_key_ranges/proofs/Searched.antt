-- Numbers of ranges, one after another.
use Rattle.std.proofs.Common.{◌≡◌, ℕ, ◌+◌, ◌<◌, ◌≤◌, ◌⊎◌, inl, inr, Bool, true, false, List, nat_eq, refl, subst, sym, arith}
use Rattle.std.proofs.lemmas.Bool.Decides.{nat_tests}
use Rattle.sem_query.specs.declared.atom.Attr.{Attr}
use Rattle.sem_query.specs.Query.{QueryValue}
use Rattle.adv_mends.specs.declared.mend.Ends.{Ends}
use Rattle.adv_key_ranges.specs.Least.{IsAcceptedAt, AreAllAccepted, IsNoneUpTo}

-- it is accepted in the first ranges
pub record AcceptedUpTo (shared : Bool) (q : QueryValue) (columns : List Attr) (ends : Ends) (k i : ℕ) : Type 0 where
  pub each : (j : ℕ) → j < i → IsAcceptedAt shared q columns ends k j

last_or_before : (i j : ℕ) → j < i + 1 → (j < i) ⊎ (j ≡ i)
last_or_before i j l = by (nat_eq j i) refl where
  by : (t : Bool) → nat_eq j i ≡ t → (j < i) ⊎ (j ≡ i)
  by true e = inr (grind (arith, nat_tests))
  by false e = inl (grind (arith, nat_tests))

pub accepted-more : (shared : Bool) (q : QueryValue) (columns : List Attr) (ends : Ends) (k i : ℕ) → AcceptedUpTo shared q columns ends k i → IsAcceptedAt shared q columns ends k i → AcceptedUpTo shared q columns ends k (i + 1)
accepted-more shared q columns ends k i h is = record {
  each = λ j l. elim (last_or_before i j l) [
    | inl m ↦ h.each j m
    | inr e ↦ subst (λ (z : ℕ). IsAcceptedAt shared q columns ends k z) (sym e) is
  ];
}

-- no smaller number is one
pub record NoneYet (shared : Bool) (q : QueryValue) (columns : List Attr) (ends : Ends) (m : ℕ) : Type 0 where
  pub none : IsNoneUpTo shared q columns ends m

up_to_last : (m j : ℕ) → j ≤ m + 1 → (j ≤ m) ⊎ (j ≡ m + 1)
up_to_last m j l = by (nat_eq j (m + 1)) refl where
  by : (t : Bool) → nat_eq j (m + 1) ≡ t → (j ≤ m) ⊎ (j ≡ m + 1)
  by true e = inr (grind (arith, nat_tests))
  by false e = inl (grind (arith, nat_tests))

pub none-more : (shared : Bool) (q : QueryValue) (columns : List Attr) (ends : Ends) (m : ℕ) → NoneYet shared q columns ends m → ¬ AreAllAccepted shared q columns ends (m + 1) → NoneYet shared q columns ends (m + 1)
none-more shared q columns ends m h n = record {
  none = λ j p l a. elim (up_to_last m j l) [
    | inl k ↦ h.none j p k a
    | inr e ↦ n (subst (λ (z : ℕ). AreAllAccepted shared q columns ends z) e a)
  ];
}
