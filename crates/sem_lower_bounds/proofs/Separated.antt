-- Histories that are all answered differently later lead to different states.
use Rattle.std.proofs.Common.{◌≡◌, ℕ, suc, ◌*◌, ◌≤◌, ◌^◌, List, [], ◌∷◌, ◌++◌, length, Bool, refl, sym, ap, ◌∙◌, arith}
use Rattle.sem_query.specs.Query.{QueryValue}
use Rattle.sem_query.specs.Meaning.{Arrival}
use Rattle.sem_lower_bounds.specs.States.{Evaluator, after, IsRight, HasStates, AreWithin, HasFewFor, HasFewStates, NeedsStates, AnsweredAlike}
use Rattle.sem_query.proofs.Has.{Has-from_contains}
use Rattle.sem_lower_bounds.proofs.Pigeons.{states-needed}

after-append : (e : Evaluator) (s : ℕ) (g h : List Arrival) → after e s (g ++ h) ≡ after e (after e s g) h
after-append e s [] h = refl
after-append e s (r ∷ g) h = after-append e (e.step s r) g h

-- two histories that lead to one state are answered alike
alike : (q : QueryValue) (e : Evaluator) → IsRight q e → (g h : List Arrival) → after e e.start g ≡ after e e.start h → AnsweredAlike q g h
alike q e right g h same later r =
    sym (right (g ++ later) r)
    ∙ ap (λ s. e.says s r) (after-append e e.start g later ∙ ap (λ s. after e s later) same ∙ sym (after-append e e.start h later))
    ∙ right (h ++ later) r

-- for one number n and one bound: each evaluator that is right has at least 2^n states after at most n rows with values within the bound
abbrev pub NeedsAt : QueryValue → ℕ → ℕ → Type 0
NeedsAt q n bound = (e : Evaluator) → IsRight q e → (most : ℕ) → HasStates e n bound most → 2 ^ n ≤ most

-- a history of at most n rows for each list of n bits, and different ones are answered differently later
pub record Separates (q : QueryValue) (n bound : ℕ) (h : List Bool → List Arrival) : Type 0 where
  pub few : (bs : List Bool) → length bs ≡ n → length (h bs) ≤ n
  pub small : (bs : List Bool) → length bs ≡ n → AreWithin bound (h bs)
  pub apart : (xs ys : List Bool) → length xs ≡ n → length ys ≡ n → AnsweredAlike q (h xs) (h ys) → xs ≡ ys

pub separated-needs : (q : QueryValue) (n bound : ℕ) (h : List Bool → List Arrival) → Separates q n bound h → NeedsAt q n bound
separated-needs q n bound h a e right most has =
    let k : 2 ^ n ≤ length has.states = states-needed n (λ bs. after e e.start (h bs)) has.states
    (λ bs l. Has-from_contains has.states (after e e.start (h bs)) (has.all (h bs) (a.few bs l) (a.small bs l)))
    (λ xs ys l m same. a.apart xs ys l m (alike q e right (h xs) (h ys) same)) in
    omega (arith, k, has.size)

pub needs-all : (q : QueryValue) (b : ℕ) → ((n : ℕ) → NeedsAt q n (b * suc n)) → NeedsStates q
needs-all q b f none = none b (λ e right n most has. f n e right most has)

-- what has a right evaluator of few states does not need many
pub few-refute : (q : QueryValue) (e : Evaluator) → IsRight q e → HasFewStates e → ¬ NeedsStates q
few-refute q e right few needs = needs (λ b all. (
    let o : HasFewFor e b = few b in
    let m : 2 ^ o.n ≤ o.most = all e right o.n o.most o.states in
    omega (arith, m, o.few)))
