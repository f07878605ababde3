-- Which sign vectors stand at some signs of the tree or behind them.
use Rattle.std.proofs.Common.{◌≡◌, ◌<◌, Bool, true, false, cond, ◌⊎◌, inl, inr, refl, sym, ◌∙◌, ap, arith, Option, Some, None, List, [], ◌∷◌, ◌++◌, length}
use Rattle.sem_query.specs.declared.part.Sign.{Sign}
use Rattle.sem_query.specs.Parts.{sign_lt, signs_lt}
use Rattle.sem_query.proofs.Split.{StartsWith}
use Rattle.cert_checker.specs.Reading.{advanced, following}

-- whether a sign vector stands at some signs or behind them: at the first place at which they differ it has the greater one
abbrev pub reaches : Option (List Sign) → List Sign → Bool
reaches None s = false
reaches (Some []) s = true
reaches (Some (t ∷ ts)) [] = false
reaches (Some (t ∷ ts)) (c ∷ s) = cond (sign_lt c t) false (cond (sign_lt t c) true (reaches (Some ts) s))

-- one sign more, and that the first, leaves out no longer sign vector
pub reaches_deeper : (t s : List Sign) → length t < length s → reaches (Some (t ++ Sign.Lt ∷ [])) s ≡ reaches (Some t) s
reaches_deeper [] [] l = absurd (omega arith)
reaches_deeper [] (Sign.Lt ∷ s) l = refl
reaches_deeper [] (Sign.Eq ∷ s) l = refl
reaches_deeper [] (Sign.Gt ∷ s) l = refl
reaches_deeper (t ∷ ts) [] l = absurd (omega arith)
reaches_deeper (t ∷ ts) (c ∷ s) l = ap (λ b. cond (sign_lt c t) false (cond (sign_lt t c) true b)) (reaches_deeper ts s (omega arith))

-- what advanced signs are reached by, by the first sign of each
reaches_advanced : (c t : Sign) (o : Option (List Sign)) (s : List Sign) → reaches (advanced t o) (c ∷ s) ≡ cond (sign_lt c t) false (cond (sign_lt t c) true (reaches o s))
reaches_advanced c t (Some ts) s = refl
reaches_advanced Sign.Lt Sign.Lt None s = refl
reaches_advanced Sign.Lt Sign.Eq None s = refl
reaches_advanced Sign.Lt Sign.Gt None s = refl
reaches_advanced Sign.Eq Sign.Lt None s = refl
reaches_advanced Sign.Eq Sign.Eq None s = refl
reaches_advanced Sign.Eq Sign.Gt None s = refl
reaches_advanced Sign.Gt Sign.Lt None s = refl
reaches_advanced Sign.Gt Sign.Eq None s = refl
reaches_advanced Sign.Gt Sign.Gt None s = refl

reaches_advanced-nil : (t : Sign) (o : Option (List Sign)) → reaches (advanced t o) [] ≡ false
reaches_advanced-nil t (Some ts) = refl
reaches_advanced-nil Sign.Lt None = refl
reaches_advanced-nil Sign.Eq None = refl
reaches_advanced-nil Sign.Gt None = refl

sign_self : (s : Sign) → sign_lt s s ≡ false
sign_self Sign.Lt = refl
sign_self Sign.Eq = refl
sign_self Sign.Gt = refl

sign_same : (c t : Sign) → sign_lt c t ≡ false → sign_lt t c ≡ false → c ≡ t
sign_same Sign.Lt Sign.Lt h k = refl
sign_same Sign.Lt Sign.Eq h k = cc
sign_same Sign.Lt Sign.Gt h k = cc
sign_same Sign.Eq Sign.Lt h k = cc
sign_same Sign.Eq Sign.Eq h k = refl
sign_same Sign.Eq Sign.Gt h k = cc
sign_same Sign.Gt Sign.Lt h k = cc
sign_same Sign.Gt Sign.Eq h k = cc
sign_same Sign.Gt Sign.Gt h k = refl

reaches_more : (b d x y : Bool) → (x ≡ true → y ≡ true) → cond b false (cond d true x) ≡ true → cond b false (cond d true y) ≡ true
reaches_more true d x y f h = h
reaches_more false true x y f h = refl
reaches_more false false x y f h = f h

-- what stands behind all that begins with some signs stands at them or behind
pub reaches_earlier : (t s : List Sign) → reaches (following t) s ≡ true → reaches (Some t) s ≡ true
reaches_earlier [] s h = refl
reaches_earlier (t ∷ ts) [] h = sym (reaches_advanced-nil t (following ts)) ∙ h
reaches_earlier (t ∷ ts) (c ∷ s) h = reaches_more (sign_lt c t) (sign_lt t c) (reaches (following ts) s) (reaches (Some ts) s) (reaches_earlier ts s) (sym (reaches_advanced c t (following ts) s) ∙ h)

-- what stands at some signs or behind begins with them, or stands behind all that does
pub starts_or_behind : (t s : List Sign) → reaches (Some t) s ≡ true → StartsWith t s ⊎ (reaches (following t) s ≡ true)
starts_or_behind [] s h = inl record { rest = s; is = refl }
starts_or_behind (t ∷ ts) [] h = absurd cc
starts_or_behind (t ∷ ts) (c ∷ s) h = go (sign_lt c t) (sign_lt t c) refl refl h (starts_or_behind ts s)
  where
    front : c ≡ t → StartsWith ts s → StartsWith (t ∷ ts) (c ∷ s)
    front e w = let f : s ≡ ts ++ w.rest = w.is in record { rest = w.rest; is = cc }

    behind : cond (sign_lt c t) false (cond (sign_lt t c) true (reaches (following ts) s)) ≡ true → StartsWith (t ∷ ts) (c ∷ s) ⊎ (reaches (advanced t (following ts)) (c ∷ s) ≡ true)
    behind e = inr (reaches_advanced c t (following ts) s ∙ e)

    go : (b d : Bool) → sign_lt c t ≡ b → sign_lt t c ≡ d → cond b false (cond d true (reaches (Some ts) s)) ≡ true → (reaches (Some ts) s ≡ true → StartsWith ts s ⊎ (reaches (following ts) s ≡ true)) → StartsWith (t ∷ ts) (c ∷ s) ⊎ (reaches (advanced t (following ts)) (c ∷ s) ≡ true)
    go true d e f k r = absurd cc
    go false true e f k r = behind (rw (e, f) refl)
    go false false e f k r = elim (r k) [
      | inl w ↦ inl (front (sign_same c t e f) w)
      | inr z ↦ behind (rw (e, f) z)
    ]

-- what begins with some signs stands at them
pub reaches_own : (t r : List Sign) → reaches (Some t) (t ++ r) ≡ true
reaches_own [] r = refl
reaches_own (t ∷ ts) r = rw sign_self (reaches_own ts r)

below_from_reaches : (b d x y : Bool) → (x ≡ true → y ≡ true) → cond b false (cond d true x) ≡ true → cond d true (cond b false y) ≡ true
below_from_reaches true d x y f h = absurd cc
below_from_reaches false true x y f h = refl
below_from_reaches false false x y f h = f h

-- a sign vector is less than each of its length that stands behind it
pub below_behind : (t s : List Sign) → length t ≡ length s → reaches (following t) s ≡ true → signs_lt t s ≡ true
below_behind [] s l h = absurd cc
below_behind (t ∷ ts) [] l h = absurd (omega arith)
below_behind (t ∷ ts) (c ∷ s) l h = below_from_reaches (sign_lt c t) (sign_lt t c) (reaches (following ts) s) (signs_lt ts s) (below_behind ts s (omega arith)) (sym (reaches_advanced c t (following ts) s) ∙ h)
