-- The choice that broadcasts every stream, by which all exact choices begin.
use Rattle.std.proofs.Common.{◌≡◌, ℕ, zero, suc, ◌<◌, inl, inr, List, [], ◌∷◌, length, slice_index_or, Contains, Option, None, Some, refl, sym, ap, ◌∙◌, subst, arith}
use Rattle.std.specs.Prelude.{replicate}
use Rattle.adv_key_choices.specs.declared.choice.Choice.{Choice}
use Rattle.adv_key_choices.specs.declared.choice.KeyedQuery.{KeyedQuery}
use Rattle.adv_key_choices.specs.Choices.{keys_in, IsExact}
use Rattle.adv_key_choices.specs.Extending.{none_chosen, AddsExact, AreExactUpTo}

-- a list of 16 of which each element is none
all-none : (xs : List (Option ℕ)) (n : ℕ) → length xs ≡ n → ((s : ℕ) → slice_index_or xs s None ≡ None) → xs ≡ replicate n None
all-none [] zero e f = refl
all-none [] (suc n) e f = absurd (omega (arith, e))
all-none (x ∷ xs) zero e f = absurd (omega (arith, e))
all-none (x ∷ xs) (suc n) e f = ap (λ (y : Option ℕ). y ∷ xs) (f 0) ∙ ap (λ (ys : List (Option ℕ)). None ∷ ys) (all-none xs n (omega (arith, e)) (λ s. f (suc s)))

abbrev nones : ℕ → List (Option ℕ)
nones n = replicate n None

none-there : (n s : ℕ) → slice_index_or (nones n) s None ≡ None
none-there zero s = refl
none-there (suc n) zero = refl
none-there (suc n) (suc s) = none-there n s

module _ (queries : List KeyedQuery) (widths : List ℕ) (list : List Choice) where
  no-key : (c : Choice) → c ≡ none_chosen → (s column : ℕ) → keys_in c s ≡ Some column → {R : Type 0} → R
  no-key c e s column f =
      let g : None ≡ Some column = sym (none-there 16 s) ∙ sym (ap (λ (z : Choice). keys_in z s) e) ∙ f in
      absurd cc

  none-at : (c : Choice) → ((s column : ℕ) → keys_in c s ≡ Some column → s < 0) → (s : ℕ) (o : Option ℕ) → keys_in c s ≡ o → keys_in c s ≡ None
  none-at c f s None e = e
  none-at c f s (Some column) e = absurd (omega (arith, f s column e))

  pub started : AddsExact queries none_chosen [] list → AreExactUpTo queries widths 0 list
  started a = record {
    each = λ c h. elim (a.each c h) [
      | inl k ↦ absurd (omega (arith, k.1))
      | inr w ↦ record {
        choice = record { room = ap (λ (z : Choice). length z.keys) w.0; inside = λ s column e. no-key c w.0 s column e };
        later = λ s column e. no-key c w.0 s column e;
        exact = subst (IsExact queries) (sym w.0) w.1;
      }
    ];
    all = λ c h. (let e : c ≡ none_chosen = ap (λ (ks : List (Option ℕ)). record { keys = ks }) (all-none c.keys 16 h.choice.room (λ s. none-at c h.later s (keys_in c s) refl)) in
        subst (Contains list) (sym e) (a.added (subst (IsExact queries) e h.exact)));
  }
