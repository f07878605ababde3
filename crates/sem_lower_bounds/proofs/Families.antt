-- A family of assignments whose mixtures fail makes histories that are told apart.
use Rattle.std.proofs.Common.{◌≡◌, ◌≢◌, ℕ, suc, ◌+◌, ◌*◌, min, ◌<◌, ◌≤◌, inl, inr, List, [], ◌∷◌, ◌++◌, ◌==◌, map, length, cond, Bool, true, false, refl, sym, ap, ◌∙◌, subst, arith, nat_eq, ℤ, AllPairs, slice_index_or, Contains}
use Rattle.sem_query.proofs.Has.{Has, first, later, Contains-from_has}
use Rattle.sem_laws.proofs.Sums.{sums, sums_same, sums_zero, sums_append, nested}
use Rattle.sem_laws.proofs.Tests.{true_or_false}
use Rattle.sem_laws.proofs.Counts.{times, times-answers, gives}
use Rattle.sem_laws.proofs.Interleaving.{ended}
use Rattle.sem_query.specs.Query.{QueryValue}
use Rattle.sem_query.specs.Assignment.{Assignment, projected, Holds}
use Rattle.sem_query.specs.Meaning.{Arrival, rows, by_column, answers}
use Rattle.sem_lower_bounds.specs.States.{AnsweredAlike, AreWithin, NeedsStates}
use Rattle.sem_lower_bounds.proofs.Formed.{IsFormed}
use Rattle.sem_lower_bounds.proofs.Bits.{weigh, weigh-same, told-upward, told-downward, told-alone, told-but-one}
use Rattle.sem_lower_bounds.proofs.Separated.{NeedsAt, separated-needs, needs-all}
use Rattle.sem_lower_bounds.proofs.Ranges.{size, IsNear, row-within, picked-within}
use Rattle.sem_lower_bounds.proofs.Tallies.{counted, tally, tallies-alike}
use Rattle.sem_lower_bounds.proofs.OneLong.{row_of, chosen, picked, few-picked, beside, combined, sums-chosen, rows-own, rows-append, rows-first, Differ, Stands, laid, stands, nested-layout}
use Rattle.sem_lower_bounds.proofs.Mixing.{score, score-itself, gives-score}

differ-from : (from : List ℕ) → AllPairs (λ x y. x ≢ y) from → Differ from
differ-from [] d = tt
differ-from (s ∷ from) d = (
  (λ t k e. let c : Contains from t = Contains-from_has from t k in
      let n : s ≢ slice_index_or from c.0 t = d 0 (suc c.0) t (omega arith) (omega (arith, c.1)) in n (sym e ∙ sym c.2)),
  differ-from from (λ i j e a b. d (suc i) (suc j) e (omega (arith, a)) (omega (arith, b))),
)

-- a list without a member leaves no combination
nested-empty : {X : Type 0} (ls : List (List X)) (f : List X → ℕ) → Has ls [] → nested ls f ≡ 0
unfolding sums nested
nested-empty [] f h = elim h [ ]
nested-empty (l ∷ ls) f first = refl
nested-empty (l ∷ ls) f (later k) = sums_same _ (λ x. 0) l (λ x. nested-empty ls (λ c. f (x ∷ c)) k) ∙ sums_zero l

-- with rows of one stream alone, another has none
empty-list : (h : List Arrival) (long : List (List ℤ)) (place n : ℕ) (from : List ℕ) → 1 < length from → Stands h long place n from
    → Has (map (rows h) from) []
empty-list h long place n [] l st = absurd (omega (arith, l))
empty-list h long place n (s ∷ []) l st = absurd (omega (arith, l))
empty-list h long place n (s ∷ t ∷ from) l st = elim (true_or_false (nat_eq n place)) [
  | inl e ↦ later (at (rows h t) (st.1.0 ∙ ap (λ b. cond b long []) (next n place e)))
  | inr e ↦ at (rows h s) (st.0 ∙ ap (λ b. cond b long []) e)
]
  where
    next : (n place : ℕ) → nat_eq n place ≡ true → nat_eq (suc n) place ≡ false
    next n place e = grind (arith, e)

    at : {ls : List (List (List ℤ))} (x : List (List ℤ)) → x ≡ [] → Has (x ∷ ls) []
    at {ls} x e = subst (λ y. Has (x ∷ ls) y) e first

-- assignments that satisfy the condition, each with its rows at one place of FROM
pub record IsFamily (q : QueryValue) (place : ℕ) (w : ℕ → Assignment) : Type 0 where
  pub at : place < length q.from
  pub each : (i : ℕ) → Holds q (w i)

-- the rows of the first assignments at one place arrive, and then those of one of the others at all other places
module _ (q : QueryValue) (within : IsFormed q) (place : ℕ) (at : place < length q.from) (w g : ℕ → Assignment) where
  -- bit j of the list says whether the row of assignment j arrives
  abbrev pub history : List Bool → List Arrival
  history bs = picked (slice_index_or q.from place 0) (λ j. row_of (w j) place) 0 bs

  few_rows : (n : ℕ) (bs : List Bool) → length bs ≡ n → length (history bs) ≤ n
  few_rows n bs e = let l : length (history bs) ≤ length bs = few-picked (slice_index_or q.from place 0) (λ j. row_of (w j) place) 0 bs in omega (arith, e, l)

  small_rows : (n : ℕ) (u : Assignment) (c : ℕ) → IsNear u c n w → (bs : List Bool) → length bs ≡ n → AreWithin ((size place u + c) * suc n) (history bs)
  small_rows n u c near bs e =
      picked-within ((size place u + c) * suc n) (slice_index_or q.from place 0) (λ j. row_of (w j) place) 0 bs
      (λ j l. row-within place u c n w near j (omega (arith, l, e)))

  -- the rows of the other assignment i at all other places
  abbrev rest : ℕ → List Arrival
  rest i = beside (g i) place 0 q.from

  abbrev tuple : ℕ → List ℤ
  tuple i = projected q (g i)

  -- how often its tuple has then been found
  abbrev found : ℕ → List Bool → ℕ
  found i bs = weigh (λ j. score q place (w j) (g i)) 0 bs

  all_differ : Differ q.from
  all_differ = differ-from q.from within.different

  stands_here : (bs : List Bool) → Stands (history bs) (chosen (λ j. row_of (w j) place) 0 bs) place 0 q.from
  stands_here bs = stands (λ j. row_of (w j) place) bs place 0 place q.from (omega arith) at all_differ

  -- over any history whose rows are those of one list at the place
  over : (h : List Arrival) (long : List (List ℤ)) (i : ℕ) → Stands h long place 0 q.from
      → times (tuple i) (answers q (h ++ rest i)) ≡ sums (λ x. gives q (tuple i) (map by_column (combined x (g i) place 0 q.from))) long
  over h long i st =
      times-answers q (tuple i) (h ++ rest i)
      ∙ ap (λ ls. nested ls (λ c. gives q (tuple i) (map by_column c))) (laid h long (g i) place 0 q.from all_differ st)
      ∙ nested-layout long (g i) place 0 place q.from (λ c. gives q (tuple i) (map by_column c)) (omega arith) at

  found-is : (i : ℕ) (bs : List Bool) → sums (λ x. gives q (tuple i) (map by_column (combined x (g i) place 0 q.from))) (chosen (λ j. row_of (w j) place) 0 bs) ≡ found i bs
  found-is i bs =
      sums-chosen (λ x. gives q (tuple i) (map by_column (combined x (g i) place 0 q.from))) (λ j. row_of (w j) place) 0 bs
      ∙ weigh-same _ (λ j. score q place (w j) (g i)) 0 bs (λ j. gives-score q within place (w j) (g i))

  tally-then : (i : ℕ) (bs : List Bool) → tally q (tuple i) (history bs ++ rest i) ≡ counted q.distinct (found i bs)
  tally-then i bs = ap (counted q.distinct) (over (history bs) (chosen (λ j. row_of (w j) place) 0 bs) i (stands_here bs) ∙ found-is i bs)

  counted-none : (b : Bool) → counted b 0 ≡ 0
  counted-none true = refl
  counted-none false = refl

  tally-before : 1 < length q.from → (i : ℕ) (bs : List Bool) → tally q (tuple i) (history bs) ≡ 0
  tally-before l i bs =
      ap (counted q.distinct) (times-answers q (tuple i) (history bs)
      ∙ nested-empty (map (rows (history bs)) q.from) (λ c. gives q (tuple i) (map by_column c)) (empty-list (history bs) _ place 0 q.from l (stands_here bs)))
      ∙ counted-none q.distinct

  -- over two streams or more: histories that are answered alike have found alike
  found-alike : 1 < length q.from → (xs ys : List Bool) → AnsweredAlike q (history xs) (history ys) → (i : ℕ)
      → counted q.distinct (found i xs) ≡ counted q.distinct (found i ys)
  found-alike l xs ys a i =
      sym (tally-then i xs)
      ∙ (let e : tally q (tuple i) (history xs ++ rest i) + tally q (tuple i) (history ys) ≡ tally q (tuple i) (history ys ++ rest i) + tally q (tuple i) (history xs)
      = tallies-alike q within (history xs) (history ys) (rest i) (tuple i) a in
      let same : tally q (tuple i) (history xs ++ rest i) ≡ tally q (tuple i) (history ys ++ rest i) = omega (arith, e, tally-before l i xs, tally-before l i ys) in same)
      ∙ tally-then i ys

  plain : q.distinct ≡ false → (n : ℕ) (m : ℕ) → counted q.distinct n ≡ counted q.distinct m → n ≡ m
  plain e n m h = sym (ap (λ b. counted b n) e) ∙ h ∙ ap (λ b. counted b m) e

  -- without DISTINCT it is enough that what is found tells the lists of bits apart
  pub counts-need : 1 < length q.from → q.distinct ≡ false → (u : Assignment) (c : ℕ) → ((n : ℕ) → IsNear u c n w)
      → ((xs ys : List Bool) → length xs ≡ length ys → ((i : ℕ) → found i xs ≡ found i ys) → xs ≡ ys) → NeedsStates q
  counts-need l d u c near told = needs-all q (size place u + c) (λ n. separated-needs q n ((size place u + c) * suc n) history record {
    few = few_rows n;
    small = small_rows n u c (near n);
    apart = λ xs ys e f a. told xs ys (e ∙ sym f) (λ i. plain d _ _ (found-alike l xs ys a i));
  })

  -- without DISTINCT it is also enough that each row is found by all others and not by its own
  pub others-need : 1 < length q.from → q.distinct ≡ false → (u : Assignment) (c : ℕ) → ((n : ℕ) → IsNear u c n w)
      → ((i : ℕ) → score q place (w i) (g i) ≡ 0) → ((i j : ℕ) → i ≢ j → score q place (w j) (g i) ≡ 1) → NeedsStates q
  others-need l d u c near none one = counts-need l d u c near (λ xs ys e h. told-but-one (λ j i. score q place (w j) (g i)) none one 0 xs ys e (λ i k. h i))

module _ (q : QueryValue) (within : IsFormed q) (place : ℕ) (w : ℕ → Assignment) (family : IsFamily q place w) where
  -- what comes, the tuple of each assignment, and how often it is then found
  abbrev came : List Bool → List Arrival
  came = history q within place family.at w w

  abbrev own : ℕ → List ℤ
  own i = projected q (w i)

  abbrev finds : ℕ → List Bool → ℕ
  finds i bs = weigh (λ j. score q place (w j) (w i)) 0 bs

  abbrev Up : Type 0
  Up = (i j : ℕ) → i < j → score q place (w j) (w i) ≡ 0

  abbrev Down : Type 0
  Down = (i j : ℕ) → j < i → score q place (w j) (w i) ≡ 0

  one : (i : ℕ) → score q place (w i) (w i) ≡ 1
  one i = score-itself q place (w i) (family.each i)

  least : q.distinct ≡ true → (n : ℕ) (m : ℕ) → counted q.distinct n ≡ counted q.distinct m → min 1 n ≡ min 1 m
  least e n m h = sym (ap (λ b. counted b n) e) ∙ h ∙ ap (λ b. counted b m) e

  -- without DISTINCT one direction is enough
  pub upward-needs : 1 < length q.from → q.distinct ≡ false → (u : Assignment) (c : ℕ) → ((n : ℕ) → IsNear u c n w) → Up → NeedsStates q
  upward-needs l d u c near up =
      counts-need q within place family.at w w l d u c near (λ xs ys e h. told-upward (λ j i. score q place (w j) (w i)) one up 0 xs ys e (λ i k. h i))

  pub downward-needs : 1 < length q.from → q.distinct ≡ false → (u : Assignment) (c : ℕ) → ((n : ℕ) → IsNear u c n w) → Down → NeedsStates q
  downward-needs l d u c near down =
      counts-need q within place family.at w w l d u c near (λ xs ys e h. told-downward (λ j i. score q place (w j) (w i)) one down 0 xs ys e (λ i k. h i))

  -- the mixtures of the first n assignments score nothing
  abbrev pub UpTo : ℕ → Type 0
  UpTo n = (i j : ℕ) → i < j → j < n → score q place (w j) (w i) ≡ 0

  abbrev pub DownTo : ℕ → Type 0
  DownTo n = (i j : ℕ) → j < i → i < n → score q place (w j) (w i) ≡ 0

  -- with DISTINCT both directions are wanted
  pub sets-need : 1 < length q.from → q.distinct ≡ true → (n : ℕ) (u : Assignment) (c : ℕ) → IsNear u c n w → UpTo n → DownTo n → NeedsAt q n ((size place u + c) * suc n)
  sets-need l d n u c near up down = separated-needs q n ((size place u + c) * suc n) came record {
    few = few_rows q within place family.at w w n;
    small = small_rows q within place family.at w w n u c near;
    apart = λ xs ys e f a. told-alone (λ j i. score q place (w j) (w i)) n one up down 0 xs ys (e ∙ sym f) (omega (arith, e))
        (λ i k o. least d _ _ (found-alike q within place family.at w w l xs ys a i));
  }

  -- and serve whatever is selected
  pub alone-needs : 1 < length q.from → (u : Assignment) (c : ℕ) → ((n : ℕ) → IsNear u c n w) → Up → Down → NeedsStates q
  alone-needs l u c near up down = elim (true_or_false q.distinct) [
    | inl d ↦ needs-all q (size place u + c) (λ n. sets-need l d n u c (near n) (λ i j o m. up i j o) (λ i j o m. down i j o))
    | inr d ↦ upward-needs l d u c near up
  ]

  -- one stream
  single-stands : (h : List Arrival) (from : List ℕ) (n : ℕ) → length from ≡ 1 → place ≡ n → Stands h (rows h (slice_index_or from 0 0)) place n from
  single-stands h [] n l e = tt
  single-stands h (s ∷ []) n l e = (same (nat_eq n place) (here n place e), tt)
    where
      here : (n place : ℕ) → place ≡ n → nat_eq n place ≡ true
      here n place e = grind (arith, e)

      same : (b : Bool) → b ≡ true → rows h s ≡ cond b (rows h s) []
      same true f = refl
      same false f = absurd cc
  single-stands h (s ∷ t ∷ from) n l e = absurd (omega (arith, l))

  single-rest : (u : Assignment) (from : List ℕ) (n : ℕ) → length from ≡ 1 → place ≡ n → beside u place n from ≡ []
  single-rest u [] n l e = refl
  single-rest u (s ∷ []) n l e = same (nat_eq n place) (here n place e)
    where
      here : (n place : ℕ) → place ≡ n → nat_eq n place ≡ true
      here n place e = grind (arith, e)

      same : (b : Bool) → b ≡ true → cond {A = List Arrival} b [] (record { stream = s; values = row_of u n } ∷ []) ≡ []
      same true f = refl
      same false f = absurd cc
  single-rest u (s ∷ t ∷ from) n l e = absurd (omega (arith, l))

  module _ (alone : length q.from ≡ 1) where
    at_first : place ≡ 0
    at_first = omega (arith, alone, family.at)

    -- the row of assignment i itself
    abbrev last : ℕ → Arrival
    last i = record { stream = slice_index_or q.from 0 0; values = row_of (w i) place }

    times-single : (h : List Arrival) (i : ℕ) → times (own i) (answers q h) ≡ sums (λ x. gives q (own i) (map by_column (combined x (w i) place 0 q.from))) (rows h (slice_index_or q.from 0 0))
    times-single h i =
        ap (λ l. times (own i) (answers q l)) (sym (ended h) ∙ ap (λ l. h ++ l) (sym (single-rest (w i) q.from 0 alone at_first)))
        ∙ over q within place family.at w w h (rows h (slice_index_or q.from 0 0)) i (single-stands h q.from 0 alone at_first)

    times-now : (bs : List Bool) (i : ℕ) → times (own i) (answers q (came bs)) ≡ finds i bs
    times-now bs i =
        times-single (came bs) i
        ∙ ap (sums (λ x. gives q (own i) (map by_column (combined x (w i) place 0 q.from))))
        (ap (λ (k : ℕ). rows (came bs) (slice_index_or q.from k 0)) (sym at_first) ∙ rows-own (slice_index_or q.from place 0) (λ j. row_of (w j) place) 0 bs)
        ∙ found-is q within place family.at w w i bs

    times-next : (bs : List Bool) (i : ℕ) → times (own i) (answers q (came bs ++ last i ∷ [])) ≡ times (own i) (answers q (came bs)) + 1
    unfolding sums
    times-next bs i =
        times-single (came bs ++ last i ∷ []) i
        ∙ ap (sums G) (rows-append (came bs) (last i ∷ []) s0 ∙ ap (λ l. rows (came bs) s0 ++ l) (rows-first (last i) [] s0 true (itself s0)))
        ∙ sums_append G (rows (came bs) s0) (row_of (w i) place ∷ [])
        ∙ (let e : G (row_of (w i) place) ≡ 1 = gives-score q within place (w i) (w i) ∙ one i in
        let f : times (own i) (answers q (came bs)) ≡ sums G (rows (came bs) s0) = times-single (came bs) i in
        let g : sums G (rows (came bs) s0) + (G (row_of (w i) place) + 0) ≡ times (own i) (answers q (came bs)) + 1 = omega (arith, e, f) in g)
      where
        s0 : ℕ
        s0 = slice_index_or q.from 0 0

        G : List ℤ → ℕ
        G x = gives q (own i) (map by_column (combined x (w i) place 0 q.from))

        itself : (s : ℕ) → (s == s) ≡ true
        itself s = grind arith

    pub single-needs : q.distinct ≡ true → (u : Assignment) (c : ℕ) → ((n : ℕ) → IsNear u c n w) → Up → Down → NeedsStates q
    single-needs d u c near up down = needs-all q (size place u + c) (λ n. separated-needs q n ((size place u + c) * suc n) came record {
      few = few_rows q within place family.at w w n;
      small = small_rows q within place family.at w w n u c (near n);
      apart = λ xs ys g h a. told-alone (λ j i. score q place (w j) (w i)) n one (λ i j o m. up i j o) (λ i j o m. down i j o) 0 xs ys (g ∙ sym h) (omega (arith, g)) (λ i k o.
          let e : tally q (own i) (came xs ++ last i ∷ []) + tally q (own i) (came ys) ≡ tally q (own i) (came ys ++ last i ∷ []) + tally q (own i) (came xs)
          = tallies-alike q within (came xs) (came ys) (last i ∷ []) (own i) a in
          let f : min 1 (finds i ys) ≡ min 1 (finds i xs) = omega (arith, e, full xs i, full ys i, now xs i, now ys i) in
          sym f);
    })
      where
        now : (bs : List Bool) (i : ℕ) → tally q (own i) (came bs) ≡ min 1 (finds i bs)
        now bs i = ap (counted q.distinct) (times-now bs i) ∙ ap (λ b. counted b (finds i bs)) d

        one_at_least : (n m : ℕ) → n ≡ m + 1 → min 1 n ≡ 1
        one_at_least n m e = omega (arith, e)

        full : (bs : List Bool) (i : ℕ) → tally q (own i) (came bs ++ last i ∷ []) ≡ 1
        full bs i =
            ap (λ b. counted b (times (own i) (answers q (came bs ++ last i ∷ [])))) d
            ∙ one_at_least _ _ (times-next bs i)
