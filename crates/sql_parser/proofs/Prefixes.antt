-- The front of a text of which each byte passes a test.
use Rattle.std.proofs.Common.{◌≡◌, ℕ, suc, ◌+◌, Bool, true, false, cond, ◌&&◌, List, [], ◌∷◌, ◌++◌, length, refl, ap, ◌∙◌, one-add}
use Rattle.std.specs.List.{list_all, prefix_len}

-- the bytes go on with none that passes the test
abbrev pub StopsFor : (ℕ → Bool) → List ℕ → Type 0
StopsFor p [] = Unit {0}
StopsFor p (c ∷ rest) = p c ≡ false

pub and_left : (a b : Bool) → (a && b) ≡ true → a ≡ true
and_left true b h = refl
and_left false b h = h

pub and_right : (a b : Bool) → (a && b) ≡ true → b ≡ true
and_right true b h = h
and_right false b h = cc

prefix_step : (p : ℕ → Bool) (b : ℕ) (t rest : List ℕ) (o : Bool) → p b ≡ o → (p b && list_all p t) ≡ true → prefix_len p (t ++ rest) ≡ length t → prefix_len p ((b ∷ t) ++ rest) ≡ suc (length t)
prefix_step p b t rest o e h ih = ap (λ x. cond x (1 + prefix_len p (t ++ rest)) 0) (and_left (p b) (list_all p t) h) ∙ ap (λ n. 1 + n) ih ∙ one-add (length t)

pub prefix_stops : (p : ℕ → Bool) (t rest : List ℕ) → list_all p t ≡ true → StopsFor p rest → prefix_len p (t ++ rest) ≡ length t
prefix_stops p [] [] h s = refl
prefix_stops p [] (c ∷ rest) h s = ap (λ b. cond b (1 + prefix_len p rest) 0) s
prefix_stops p (b ∷ t) rest h s = prefix_step p b t rest (p b) refl h (prefix_stops p t rest (and_right (p b) (list_all p t) h) s)
