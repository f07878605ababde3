-- Tables that grow by one element at the end, and what rows in their ranges do not have to be asked.
use Rattle.std.proofs.Common.{◌≡◌, ℕ, zero, suc, ◌<◌, ◌≤◌, Bool, true, false, not, List, [], ◌∷◌, ◌++◌, length, drop, get_or, refl, sym, ap, ◌∙◌, subst, arith, length-append, ◌+◌, ℤ, ◌≤ℤ◌, int_lt, ◌&&◌, ◌||◌}
use Rattle.std.specs.Prelude.{Option, Some, None, slice_get, slice_index_or}
use Rattle.std.specs.List.{list_all, list_any}
use Rattle.std.proofs.lemmas.Int.{ints}
use Rattle.std.proofs.lemmas.List.{drop_more, drop_all}
use Rattle.sem_query.specs.declared.atom.Attr.{Attr}
use Rattle.sem_query.specs.declared.part.Pair.{Pair}
use Rattle.sem_query.specs.declared.part.Sign.{Sign}
use Rattle.sem_query.specs.declared.plan.Dim.{Dim}
use Rattle.sem_query.specs.declared.plan.LocalCondition.{LocalCondition}
use Rattle.sem_query.specs.declared.plan.PartPlan.{PartPlan}
use Rattle.sem_laws.proofs.Admission.{within-stream}
use Rattle.sem_query.specs.Parts.{sign_at, is_within, pairs}
use Rattle.sem_query.specs.Plan.{dims_at}
use Rattle.sem_query.specs.Query.{QueryValue}
use Rattle.sem_query.specs.Admission.{admits, alone, sign_eq, keeps_signs, meets_local, keeps_local, in_range}
use Rattle.sem_query.specs.Combinations.{ties, any_ties}
use Rattle.exec_synopsis.specs.declared.prepared.Tie.{Tie}
use Rattle.exec_synopsis.specs.Preparing.{AreTests, AreAsked, keeps_pair, keeps_tests, joins}
use Rattle.exec_synopsis.proofs.Lookups.{some-is, none-is, get-there}
use Rattle.exec_synopsis.proofs.SignLaws.{kept_past, kept_all, kept_step, tied_past, tied_all, tied_step}

module _ {X : Type 0} where
  pub pushed-get : (P : ℕ → X → Type 0) (xs : List X) (x : X) → ((i : ℕ) (y : X) → slice_get xs i ≡ Some y → P i y) → P (length xs) x
      → (i : ℕ) (y : X) → slice_get (xs ++ x ∷ []) i ≡ Some y → P i y
  pushed-get P [] x h p zero y e = subst (P 0) (some-is x y e) p
  pushed-get P [] x h p (suc i) y e = absurd (none-is y e)
  pushed-get P (z ∷ xs) x h p zero y e = h zero y e
  pushed-get P (z ∷ xs) x h p (suc i) y e = pushed-get (λ n w. P (suc n) w) xs x (λ n w g. h (suc n) w g) p i y e

  pub pushed-or : (P : ℕ → X → Type 0) (o : X) (xs : List X) (x : X) → ((i : ℕ) → P i o) → ((i : ℕ) → P i (slice_index_or xs i o)) → P (length xs) x
      → (i : ℕ) → P i (slice_index_or (xs ++ x ∷ []) i o)
  pushed-or P o [] x d h p zero = p
  pushed-or P o [] x d h p (suc i) = d (suc i)
  pushed-or P o (z ∷ xs) x d h p zero = h zero
  pushed-or P o (z ∷ xs) x d h p (suc i) = pushed-or (λ n. P (suc n)) o xs x (λ n. d (suc n)) (λ n. h (suc n)) p i

pub pushed-length : {X : Type 0} (xs : List X) (x : X) (ys : List X) (n : ℕ) → ys ≡ xs ++ x ∷ [] → length xs ≡ n → length ys ≡ n + 1
pushed-length xs x ys n e f = let a = ap length e in let b = length-append xs (x ∷ []) in omega (arith, a, b, f)

and-apart : (a b c : Bool) → (a && (b && c)) ≡ ((a && b) && c)
and-apart true b c = refl
and-apart false b c = refl

and-true : (a : Bool) → (a && true) ≡ a
and-true true = refl
and-true false = refl

all-pushed : {X : Type 0} (p : X → Bool) (xs : List X) (x : X) → list_all p (xs ++ x ∷ []) ≡ (list_all p xs && p x)
all-pushed p [] x = and-true (p x)
all-pushed p (y ∷ xs) x = ap (λ b. p y && b) (all-pushed p xs x) ∙ and-apart (p y) (list_all p xs) (p x)

-- the pairs from number i on are still to be asked
abbrev pub SoFar : List Pair → PartPlan → List ℕ → ℕ → Type 0
SoFar ps part tests i =
    (place : ℕ) (v : ℕ → ℤ) → list_all (in_range v) (dims_at part place) ≡ true
    → keeps_signs place (alone v) ps part.signs.items
    ≡ (keeps_tests place (alone v) ps part.signs.items tests && keeps_signs place (alone v) (drop i ps) (drop i part.signs.items))

module _ (ps : List Pair) (part : PartPlan) (tests : List ℕ) (i : ℕ) (so_far : SoFar ps part tests i) where
  abbrev asked : ℕ → (ℕ → ℤ) → ℕ → Bool
  asked place v k = keeps_pair place (alone v) (slice_get ps k) (slice_get part.signs.items k)

  -- no sign is left
  pub tests-past : length part.signs.items ≤ i → AreTests ps part tests
  tests-past m place v h =
      so_far place v h
      ∙ ap (λ b. keeps_tests place (alone v) ps part.signs.items tests && b) (kept_past place (alone v) ps part.signs.items i m)
      ∙ and-true (keeps_tests place (alone v) ps part.signs.items tests)

  -- all pairs were asked
  pub tests-all : length ps ≤ i → AreTests ps part tests
  tests-all l place v h = so_far place v h ∙ ap (λ b. keeps_tests place (alone v) ps part.signs.items tests && b) (kept_all place (alone v) ps part.signs.items i l) ∙ and-true (keeps_tests place (alone v) ps part.signs.items tests)

  module _ (p o : Pair) (s t : Sign) (l : i < length ps) (m : i < length part.signs.items) (e : p ≡ get_or ps i o) (f : s ≡ get_or part.signs.items i t) where
    one-pair : (place : ℕ) (v : ℕ → ℤ) → asked place v i ≡ (not (is_within place p.left p.right) || sign_eq (sign_at (alone v) p) s)
    one-pair place v = λ k. keeps_pair place (alone v) ((get-there ps i o l ∙ ap Some (sym e)) k) ((get-there part.signs.items i t m ∙ ap Some (sym f)) k)

    next-pair : (place : ℕ) (v : ℕ → ℤ) → keeps_signs place (alone v) (drop i ps) (drop i part.signs.items) ≡ (asked place v i && keeps_signs place (alone v) (drop (i + 1) ps) (drop (i + 1) part.signs.items))
    next-pair place v =
        kept_step place (alone v) ps part.signs.items i o t l m
        ∙ ap (λ b. b && keeps_signs place (alone v) (drop (i + 1) ps) (drop (i + 1) part.signs.items))
        ((λ k. not (is_within place (sym e k).left (sym e k).right) || sign_eq (sign_at (alone v) (sym e k)) (sym f k)) ∙ sym (one-pair place v))

    -- the pair is to be tested
    pub tests-push : (more : List ℕ) → more ≡ tests ++ i ∷ [] → SoFar ps part more (i + 1)
    tests-push more g place v h =
        so_far place v h
        ∙ ap (λ b. keeps_tests place (alone v) ps part.signs.items tests && b) (next-pair place v)
        ∙ and-apart (keeps_tests place (alone v) ps part.signs.items tests) (asked place v i) (keeps_signs place (alone v) (drop (i + 1) ps) (drop (i + 1) part.signs.items))
        ∙ ap (λ b. b && keeps_signs place (alone v) (drop (i + 1) ps) (drop (i + 1) part.signs.items)) (sym (all-pushed (asked place v) tests i) ∙ ap (λ ts. keeps_tests place (alone v) ps part.signs.items ts) (sym g))

    -- its sign follows from the ranges
    pub tests-skip : (dims : List Dim) → dims ≡ dims_at part p.left.stream → ((v : ℕ → ℤ) → list_all (in_range v) dims ≡ true → sign_at (alone v) p ≡ s) → SoFar ps part tests (i + 1)
    tests-skip dims d g place v h =
        so_far place v h
        ∙ ap (λ b. keeps_tests place (alone v) ps part.signs.items tests && b)
        (next-pair place v ∙ ap (λ b. b && keeps_signs place (alone v) (drop (i + 1) ps) (drop (i + 1) part.signs.items)) (one-pair place v ∙ by (is_within place p.left p.right) refl))
      where
        same : (x : Sign) → sign_eq x x ≡ true
        same Sign.Lt = refl
        same Sign.Eq = refl
        same Sign.Gt = refl

        by : (b : Bool) → is_within place p.left p.right ≡ b → (not b || sign_eq (sign_at (alone v) p) s) ≡ true
        by false q = refl
        by true q =
            let here : p.left.stream ≡ place = within-stream place p.left p.right q in
            let inside : list_all (in_range v) dims ≡ true = ap (list_all (in_range v)) (d ∙ ap (dims_at part) here) ∙ h in
            ap (λ x. sign_eq x s) (g v inside) ∙ same s

-- the conditions from number i on are still to be asked
abbrev pub SoAsked : PartPlan → List LocalCondition → ℕ → Type 0
SoAsked part asked i =
    (place : ℕ) (v : ℕ → ℤ) → list_all (in_range v) (dims_at part place) ≡ true
    → keeps_local place (alone v) part.local ≡ (keeps_local place (alone v) asked && keeps_local place (alone v) (drop i part.local))

module _ (part : PartPlan) (asked : List LocalCondition) (i : ℕ) (so_far : SoAsked part asked i) where
  -- all were asked
  pub asked-all : length part.local ≤ i → AreAsked part asked
  asked-all l place v h =
      so_far place v h ∙ ap (λ ts. keeps_local place (alone v) asked && keeps_local place (alone v) ts) (drop_all i part.local l) ∙ and-true (keeps_local place (alone v) asked)

  module _ (t o : LocalCondition) (l : i < length part.local) (is : t ≡ get_or part.local i o) where
    -- what the condition says of the stream at a place
    abbrev says : ℕ → (ℕ → ℤ) → Bool
    says place v = not (is_within place t.left t.right) || meets_local (alone v) t

    next-condition : (place : ℕ) (v : ℕ → ℤ) → keeps_local place (alone v) (drop i part.local) ≡ (says place v && keeps_local place (alone v) (drop (i + 1) part.local))
    next-condition place v = ap (keeps_local place (alone v)) (drop_more part.local i o l ∙ ap (λ (u : LocalCondition). u ∷ drop (i + 1) part.local) (sym is))

    -- it is to be asked
    pub asked-push : (more : List LocalCondition) → more ≡ asked ++ t ∷ [] → SoAsked part more (i + 1)
    asked-push more e place v h =
        so_far place v h
        ∙ ap (λ b. keeps_local place (alone v) asked && b) (next-condition place v)
        ∙ and-apart (keeps_local place (alone v) asked) (says place v) (keeps_local place (alone v) (drop (i + 1) part.local))
        ∙ ap (λ b. b && keeps_local place (alone v) (drop (i + 1) part.local))
        (sym (all-pushed (λ (u : LocalCondition). not (is_within place u.left u.right) || meets_local (alone v) u) asked t) ∙ ap (keeps_local place (alone v)) (sym e))

    -- it follows from the ranges
    pub asked-skip : (dims : List Dim) → dims ≡ dims_at part t.left.stream → ((v : ℕ → ℤ) → list_all (in_range v) dims ≡ true → meets_local (alone v) t ≡ true) → SoAsked part asked (i + 1)
    asked-skip dims d g place v h =
        so_far place v h
        ∙ ap (λ b. keeps_local place (alone v) asked && b)
        (next-condition place v ∙ ap (λ b. b && keeps_local place (alone v) (drop (i + 1) part.local)) (by (is_within place t.left t.right) refl))
      where
        by : (b : Bool) → is_within place t.left t.right ≡ b → (not b || meets_local (alone v) t) ≡ true
        by false q = refl
        by true q =
            let here : t.left.stream ≡ place = within-stream place t.left t.right q in
            g v (ap (list_all (in_range v)) (d ∙ ap (dims_at part) here) ∙ h)

or-apart : (a b c : Bool) → (a || (b || c)) ≡ ((a || b) || c)
or-apart true b c = refl
or-apart false b c = refl

any-pushed : {X : Type 0} (p : X → Bool) (xs : List X) (x : X) → list_any p (xs ++ x ∷ []) ≡ (list_any p xs || p x)
any-pushed p [] x = by (p x)
  where
    by : (t : Bool) → (t || false) ≡ (false || t)
    by true = refl
    by false = refl
any-pushed p (y ∷ xs) x = ap (λ b. p y || b) (any-pushed p xs x) ∙ or-apart (p y) (list_any p xs) (p x)

or-false : (a : Bool) → (a || false) ≡ a
or-false true = refl
or-false false = refl

-- the ties of the pairs from number i on are still to be listed
abbrev pub TiesSoFar : List Pair → List Sign → List Tie → ℕ → Type 0
TiesSoFar ps ss listed i = (a b : Attr) → (list_any (joins a b) listed || any_ties a b (drop i ps) (drop i ss)) ≡ any_ties a b ps ss

module _ (ps : List Pair) (ss : List Sign) (listed : List Tie) (i : ℕ) (so_far : TiesSoFar ps ss listed i) where
  pub ties-past : length ss ≤ i → (a b : Attr) → list_any (joins a b) listed ≡ any_ties a b ps ss
  ties-past l a b = sym (or-false (list_any (joins a b) listed)) ∙ ap (λ t. list_any (joins a b) listed || t) (sym (tied_past ps ss i a b l)) ∙ so_far a b

  pub ties-all : length ps ≤ i → (a b : Attr) → list_any (joins a b) listed ≡ any_ties a b ps ss
  ties-all l a b = sym (or-false (list_any (joins a b) listed)) ∙ ap (λ t. list_any (joins a b) listed || t) (sym (tied_all ps ss i a b l)) ∙ so_far a b

  module _ (p : Pair) (s : Sign) (l : i < length ps) (m : i < length ss) where
    pub ties-push : (t : Tie) (more : List Tie) → ((a b : Attr) → ties a b (get_or ps i p) (get_or ss i s) ≡ joins a b t) → more ≡ listed ++ t ∷ [] → TiesSoFar ps ss more (i + 1)
    ties-push t more g e a b =
        ap (λ ts. list_any (joins a b) ts || any_ties a b (drop (i + 1) ps) (drop (i + 1) ss)) e
        ∙ ap (λ c. c || any_ties a b (drop (i + 1) ps) (drop (i + 1) ss)) (any-pushed (joins a b) listed t)
        ∙ sym (or-apart (list_any (joins a b) listed) (joins a b t) (any_ties a b (drop (i + 1) ps) (drop (i + 1) ss)))
        ∙ ap (λ c. list_any (joins a b) listed || (c || any_ties a b (drop (i + 1) ps) (drop (i + 1) ss))) (sym (g a b))
        ∙ ap (λ c. list_any (joins a b) listed || c) (sym (tied_step ps ss i a b p s l m))
        ∙ so_far a b

    pub ties-skip : ((a b : Attr) → ties a b (get_or ps i p) (get_or ss i s) ≡ false) → TiesSoFar ps ss listed (i + 1)
    ties-skip g a b =
        ap (λ c. list_any (joins a b) listed || (c || any_ties a b (drop (i + 1) ps) (drop (i + 1) ss))) (sym (g a b))
        ∙ ap (λ c. list_any (joins a b) listed || c) (sym (tied_step ps ss i a b p s l m))
        ∙ so_far a b
