-- The longest front of a text whose bytes pass a test.
use Rattle.std.proofs.Common.{◌≡◌, ℕ, ◌+◌, Bool, true, false, cond, ◌&&◌, List, [], ◌∷◌, ◌++◌, length, take, drop, refl, ap, sym, ◌∙◌, subst, one-add}
use Rattle.std.specs.List.{list_all, prefix_len}

-- the bytes go on with none that passes the test
abbrev pub StopsFor : (ℕ → Bool) → List ℕ → Type 0
StopsFor p [] = Unit {0}
StopsFor p (b ∷ bs) = p b ≡ false

pub and_left : (a b : Bool) → (a && b) ≡ true → a ≡ true
and_left true b h = refl
and_left false b h = h

pub and_right : (a b : Bool) → (a && b) ≡ true → b ≡ true
and_right true b h = h
and_right false b h = cc

pub and_both : (a b : Bool) → a ≡ true → b ≡ true → (a && b) ≡ true
and_both true b h k = k
and_both false b h k = h

-- each byte of the front passes
pub front_passes : (p : ℕ → Bool) (bs : List ℕ) → list_all p (take (prefix_len p bs) bs) ≡ true
front_passes p [] = refl
front_passes p (b ∷ bs) = by (p b) refl (front_passes p bs)
  where
    by : (o : Bool) → p b ≡ o → list_all p (take (prefix_len p bs) bs) ≡ true → list_all p (take (cond o (1 + prefix_len p bs) 0) (b ∷ bs)) ≡ true
    by false e ih = refl
    by true e ih = ap (λ n. list_all p (take n (b ∷ bs))) (one-add (prefix_len p bs)) ∙ ap (λ t. t && list_all p (take (prefix_len p bs) bs)) e ∙ ih

-- what stands behind the front does not pass
pub stops_behind : (p : ℕ → Bool) (bs : List ℕ) → StopsFor p (drop (prefix_len p bs) bs)
stops_behind p [] = tt
stops_behind p (b ∷ bs) = by (p b) refl (stops_behind p bs)
  where
    by : (o : Bool) → p b ≡ o → StopsFor p (drop (prefix_len p bs) bs) → StopsFor p (drop (cond o (1 + prefix_len p bs) 0) (b ∷ bs))
    by false e ih = e
    by true e ih = let P : ℕ → Type 0 = λ n. StopsFor p (drop n (b ∷ bs)) in subst P (sym (one-add (prefix_len p bs))) ih

-- bytes that pass, where the next one does not, are the front
pub front_stops : (p : ℕ → Bool) (bs rest : List ℕ) → list_all p bs ≡ true → StopsFor p rest → prefix_len p (bs ++ rest) ≡ length bs
front_stops p [] [] h s = refl
front_stops p [] (c ∷ rest) h s = ap (λ b. cond b (1 + prefix_len p rest) 0) s
front_stops p (b ∷ bs) rest h s =
    ap (λ x. cond x (1 + prefix_len p (bs ++ rest)) 0) (and_left (p b) (list_all p bs) h)
    ∙ ap (λ n. 1 + n) (front_stops p bs rest (and_right (p b) (list_all p bs) h) s)
    ∙ one-add (length bs)

-- bytes that pass one test pass a weaker one
pub all_weaker : (p q : ℕ → Bool) → ((b : ℕ) → p b ≡ true → q b ≡ true) → (bs : List ℕ) → list_all p bs ≡ true → list_all q bs ≡ true
all_weaker p q f [] h = refl
all_weaker p q f (b ∷ bs) h = and_both (q b) (list_all q bs) (f b (and_left (p b) (list_all p bs) h)) (all_weaker p q f bs (and_right (p b) (list_all p bs) h))
