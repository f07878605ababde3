-- Sums over products of choices, each as often as it stands for rows.
use Rattle.std.proofs.Common.{◌≡◌, ℕ, suc, ◌*◌, List, [], ◌∷◌, map, refl, sym, ap, ◌∙◌, arith, ℤ}
use Rattle.sem_laws.proofs.Sums.{sums, sums_same, sums_times, sums_map, nested, nested_same}
use Rattle.sem_query.specs.Meaning.{by_column}
use Rattle.sem_query.specs.Combinations.{Choice, times_of}

abbrev pub View : Type 0
View = ℕ → ℤ

unfoldable pub W : List (List Choice) → (List View → ℕ) → ℕ
W [] f = f []
W (l ∷ ls) f = sums (λ p. p.times * W ls (λ vs. f (p.values ∷ vs))) l

abbrev pub values_of : List Choice → List View
values_of chosen = map (λ c. c.values) chosen

weighted : (ls : List (List Choice)) (f : List View → ℕ) (k : ℕ) → nested ls (λ c. (k * times_of c) * f (values_of c)) ≡ k * W ls f
unfolding W nested
weighted [] f k = omega arith
weighted (l ∷ ls) f k =
    sums_same _ _ l (λ x. nested_same ls _ (λ c. ((k * x.times) * times_of c) * f (x.values ∷ values_of c)) (λ c e. regroup k x.times (times_of c) (f (x.values ∷ values_of c)))
    ∙ weighted ls (λ vs. f (x.values ∷ vs)) (k * x.times) ∙ outwards k x.times (W ls (λ vs. f (x.values ∷ vs))))
    ∙ sums_times k (λ p. p.times * W ls (λ vs. f (p.values ∷ vs))) l
  where
    regroup : (k a b c : ℕ) → (k * (a * b)) * c ≡ ((k * a) * b) * c
    regroup k a b c = omega arith

    outwards : (k a b : ℕ) → (k * a) * b ≡ k * (a * b)
    outwards k a b = omega arith

-- the sum over the product, weighted by the times
pub W-nested : (ls : List (List Choice)) (f : List View → ℕ) → nested ls (λ c. times_of c * f (values_of c)) ≡ W ls f
W-nested ls f = nested_same ls _ _ (λ c e. omega arith) ∙ weighted ls f 1 ∙ omega arith

-- rows, each once
pub W-rows : (ls : List (List (List ℤ))) (f : List View → ℕ)
    → nested ls (λ c. f (map by_column c)) ≡ W (map (map (λ r. let c : Choice = record { values = by_column r; times = 1 } in c)) ls) f
unfolding W nested
W-rows [] f = refl
W-rows (l ∷ ls) f =
    sums_same _ _ l (λ x. W-rows ls (λ vs. f (by_column x ∷ vs)) ∙ omega arith)
    ∙ sym (sums_map _ (λ r. let c : Choice = record { values = by_column r; times = 1 } in c) l)

module _ (R : ℕ → View → View → Type 0) (same_R : (n : ℕ) (v : View) → R n v v) where
  abbrev pub Agrees : ℕ → List View → List View → Type 0
  Agrees n [] [] = Unit {0}
  Agrees n [] (w ∷ ws) = ⊥
  Agrees n (v ∷ vs) [] = ⊥
  Agrees n (v ∷ vs) (w ∷ ws) = R n v w × Agrees (suc n) vs ws

  abbrev pub Respects : ℕ → (List View → ℕ) → Type 0
  Respects n f = (vs ws : List View) → Agrees n vs ws → f vs ≡ f ws

  abbrev pub Alike : ℕ → List Choice → List Choice → Type 0
  Alike n A B =
      (g : View → ℕ) → ((v w : View) → R n v w → g v ≡ g w) → sums (λ p. p.times * g p.values) A ≡ sums (λ p. p.times * g p.values) B

  abbrev pub AllAlike : ℕ → List (List Choice) → List (List Choice) → Type 0
  AllAlike n [] [] = Unit {0}
  AllAlike n [] (B ∷ Bs) = ⊥
  AllAlike n (A ∷ As) [] = ⊥
  AllAlike n (A ∷ As) (B ∷ Bs) = Alike n A B × AllAlike (suc n) As Bs

  agrees_itself : (n : ℕ) (vs : List View) → Agrees n vs vs
  agrees_itself n [] = tt
  agrees_itself n (v ∷ vs) = (same_R n v, agrees_itself (suc n) vs)

  W_same : (As : List (List Choice)) (f g : List View → ℕ) → ((vs : List View) → f vs ≡ g vs) → W As f ≡ W As g
  unfolding W
  W_same [] f g h = h []
  W_same (A ∷ As) f g h =
      sums_same _ _ A (λ p. ap (λ (y : ℕ). p.times * y) (W_same As (λ vs. f (p.values ∷ vs)) (λ vs. g (p.values ∷ vs)) (λ vs. h (p.values ∷ vs))))

  pub W_alike : (n : ℕ) (As Bs : List (List Choice)) (f : List View → ℕ) → AllAlike n As Bs → Respects n f → W As f ≡ W Bs f
  unfolding W
  W_alike n [] [] f a r = refl
  W_alike n [] (B ∷ Bs) f a r = absurd a
  W_alike n (A ∷ As) [] f a r = absurd a
  W_alike n (A ∷ As) (B ∷ Bs) f a r =
      let tail : (v : View) → W As (λ vs. f (v ∷ vs)) ≡ W Bs (λ vs. f (v ∷ vs))
      = λ v. W_alike (suc n) As Bs (λ vs. f (v ∷ vs)) a.1 (λ vs ws h. r (v ∷ vs) (v ∷ ws) (same_R n v, h)) in
      sums_same _ _ A (λ p. ap (λ (y : ℕ). p.times * y) (tail p.values))
      ∙ a.0 (λ v. W Bs (λ vs. f (v ∷ vs))) (λ v w h. W_same Bs _ _ (λ vs. r (v ∷ vs) (w ∷ vs) (h, agrees_itself (suc n) vs)))
