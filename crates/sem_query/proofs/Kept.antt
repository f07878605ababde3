-- Signs that are kept at the pairs of one stream.
use Rattle.std.proofs.Common.{◌≡◌, ℕ, List, [], ◌∷◌, map, Bool, true, false, not, ◌&&◌, ◌||◌, refl}
use Rattle.sem_query.specs.declared.part.Pair.{Pair}
use Rattle.sem_query.specs.declared.part.Sign.{Sign}
use Rattle.sem_query.specs.Assignment.{Assignment}
use Rattle.sem_query.specs.Parts.{sign_at, is_within}
use Rattle.sem_query.specs.Admission.{sign_eq, keeps_signs}
use Rattle.sem_query.proofs.Has.{Has, first, later}

both_left : (a b : Bool) → (a && b) ≡ true → a ≡ true
both_left true b h = refl
both_left false b h = absurd cc

both_right : (a b : Bool) → (a && b) ≡ true → b ≡ true
both_right true b h = h
both_right false b h = absurd cc

both : (a b : Bool) → a ≡ true → b ≡ true → (a && b) ≡ true
both a b h k = rw h k

pub signs_same : (s t : Sign) → sign_eq s t ≡ true → s ≡ t
signs_same Sign.Lt Sign.Lt h = refl
signs_same Sign.Lt Sign.Eq h = absurd cc
signs_same Sign.Lt Sign.Gt h = absurd cc
signs_same Sign.Eq Sign.Lt h = absurd cc
signs_same Sign.Eq Sign.Eq h = refl
signs_same Sign.Eq Sign.Gt h = absurd cc
signs_same Sign.Gt Sign.Lt h = absurd cc
signs_same Sign.Gt Sign.Eq h = absurd cc
signs_same Sign.Gt Sign.Gt h = refl

sign_itself : (s : Sign) → sign_eq s s ≡ true
sign_itself Sign.Lt = refl
sign_itself Sign.Eq = refl
sign_itself Sign.Gt = refl

-- a pair of the stream has its sign
pub kept_at : (place : ℕ) (v w : Assignment) (ps : List Pair) (p : Pair) → keeps_signs place v ps (map (sign_at w) ps) ≡ true
    → Has ps p → is_within place p.left p.right ≡ true → sign_at v p ≡ sign_at w p
kept_at place v w [] p h k e = elim k [ ]
kept_at place v w (p ∷ ps) p' h first e = here (is_within place p.left p.right) e (both_left _ _ h)
  where
    here : (b : Bool) → b ≡ true → (not b || sign_eq (sign_at v p) (sign_at w p)) ≡ true → sign_at v p ≡ sign_at w p
    here true e g = signs_same _ _ g
    here false e g = absurd cc
kept_at place v w (o ∷ ps) p h (later k) e =
    kept_at place v w ps p (both_right (not (is_within place o.left o.right) || sign_eq (sign_at v o) (sign_at w o)) _ h) k e

-- where each pair of the stream has its sign, the signs are kept
pub kept_if : (place : ℕ) (v w : Assignment) (ps : List Pair)
    → ((p : Pair) → Has ps p → is_within place p.left p.right ≡ true → sign_at v p ≡ sign_at w p)
    → keeps_signs place v ps (map (sign_at w) ps) ≡ true
kept_if place v w [] h = refl
kept_if place v w (p ∷ ps) h = both _ _ (by (is_within place p.left p.right) (h p first)) (kept_if place v w ps (λ o k. h o (later k)))
  where
    by : (b : Bool) → (b ≡ true → sign_at v p ≡ sign_at w p) → (not b || sign_eq (sign_at v p) (sign_at w p)) ≡ true
    by true f = rw (f refl) (sign_itself (sign_at w p))
    by false f = refl
