-- The order of signs of one length, and of these with more behind them.
use Rattle.std.proofs.Common.{◌≡◌, ℕ, suc, Bool, true, false, cond, nat_lt, List, [], ◌∷◌, ◌++◌, length, refl, sym, ◌∙◌, ap, subst, arith}
use Rattle.std.specs.List.{flat_map}
use Rattle.sem_query.specs.declared.part.Sign.{Sign}
use Rattle.sem_query.specs.Query.{QueryValue}
use Rattle.sem_query.specs.Parts.{sign_lt, signs_lt}
use Rattle.sem_query.proofs.Has.{Has, first, later, Has-nil, Has-map_from, Has-flat_map_from}
use Rattle.sem_query.proofs.Split.{ascends_joined}
use Rattle.sem_query.proofs.Unique.{Ascends, none, more}
use Rattle.plan_split_pairs.specs.Pairs.{unlike_pairs}
use Rattle.plan_split_parts.specs.Fronts.{signs_at, candidates}

-- what stands behind signs of one length does not matter where these differ
pub lt_longer : (xs ys us vs : List Sign) → length xs ≡ length ys → signs_lt xs ys ≡ true → signs_lt (xs ++ us) (ys ++ vs) ≡ true
lt_longer [] [] us vs e h = absurd cc
lt_longer [] (y ∷ ys) us vs e h = absurd cc
lt_longer (x ∷ xs) [] us vs e h = absurd cc
lt_longer (x ∷ xs) (y ∷ ys) us vs e h = by (sign_lt x y) (sign_lt y x) h (lt_longer xs ys us vs (omega (arith, n)))
  where
    n : suc (length xs) ≡ suc (length ys)
    n = e

    by : (b c : Bool) → cond b true (cond c false (signs_lt xs ys)) ≡ true → (signs_lt xs ys ≡ true → signs_lt (xs ++ us) (ys ++ vs) ≡ true) → cond b true (cond c false (signs_lt (xs ++ us) (ys ++ vs))) ≡ true
    by true c k f = refl
    by false true k f = absurd cc
    by false false k f = f k

itself : (s : Sign) → sign_lt s s ≡ false
itself Sign.Lt = refl
itself Sign.Eq = refl
itself Sign.Gt = refl

-- behind the same signs the next one decides
pub lt_behind : (xs : List Sign) (s t : Sign) → sign_lt s t ≡ true → signs_lt (xs ++ s ∷ []) (xs ++ t ∷ []) ≡ true
lt_behind [] s t h = ap (λ b. cond b true (cond (sign_lt t s) false false)) h
lt_behind (x ∷ xs) s t h = ap (λ b. cond b true (cond b false (signs_lt (xs ++ s ∷ []) (xs ++ t ∷ [])))) (itself x) ∙ lt_behind xs s t h

single : (x : List Sign) → Ascends signs_lt (x ∷ [])
single x = more (λ y h. Has-nil h) none

-- the candidates behind the same signs ascend
pub candidates_ascend : (q : QueryValue) (n : ℕ) (xs : List Sign) → Ascends signs_lt (candidates (signs_at q n) xs)
candidates_ascend q n xs = by (nat_lt n (length (unlike_pairs q)))
  where
    less_than : (y : List Sign) → Has ((xs ++ Sign.Eq ∷ []) ∷ (xs ++ Sign.Gt ∷ []) ∷ []) y → signs_lt (xs ++ Sign.Lt ∷ []) y ≡ true
    less_than y first = lt_behind xs Sign.Lt Sign.Eq refl
    less_than y (later first) = lt_behind xs Sign.Lt Sign.Gt refl
    less_than y (later (later h)) = Has-nil h

    less_than_greater : (s : Sign) → sign_lt s Sign.Gt ≡ true → (y : List Sign) → Has ((xs ++ Sign.Gt ∷ []) ∷ []) y → signs_lt (xs ++ s ∷ []) y ≡ true
    less_than_greater s e y first = lt_behind xs s Sign.Gt e
    less_than_greater s e y (later h) = Has-nil h

    by : (b : Bool) → Ascends signs_lt (candidates (Sign.Lt ∷ cond b (Sign.Gt ∷ []) (Sign.Eq ∷ Sign.Gt ∷ [])) xs)
    by true = more (less_than_greater Sign.Lt refl) (single (xs ++ Sign.Gt ∷ []))
    by false = more less_than (more (less_than_greater Sign.Eq refl) (single (xs ++ Sign.Gt ∷ [])))

-- those behind ascending signs of one length ascend
pub all_ascend : (q : QueryValue) (n : ℕ) (fs : List (List Sign)) → ((f : List Sign) → Has fs f → length f ≡ n) → Ascends signs_lt fs
    → Ascends signs_lt (flat_map (candidates (signs_at q n)) fs)
all_ascend q n [] l a = none
all_ascend q n (f ∷ fs) l (more p a) =
    ascends_joined (candidates (signs_at q n) f) (flat_map (candidates (signs_at q n)) fs) (candidates_ascend q n f) (all_ascend q n fs (λ g h. l g (later h)) a)
    (λ x y h k.
    (let r = Has-map_from (λ s. f ++ s ∷ []) (signs_at q n) x h in
    let g = Has-flat_map_from (candidates (signs_at q n)) fs y k in
    let t = Has-map_from (λ s. g.0 ++ s ∷ []) (signs_at q n) y g.2 in
    let o = lt_longer f g.0 (r.0 ∷ []) (t.0 ∷ []) (l f first ∙ sym (l g.0 (later g.1))) (p g.0 g.1) in
    subst (λ z. signs_lt z y ≡ true) r.2 (subst (λ z. signs_lt (f ++ r.0 ∷ []) z ≡ true) t.2 o)))
