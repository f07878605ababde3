-- Without DISTINCT a free difference between two streams is enough, be it of the query or the sign of a `<>`.
use Rattle.std.proofs.Common.{◌≡◌, ◌≢◌, ℕ, zero, suc, ◌+◌, ◌*◌, ◌<◌, ◌≤◌, ◌⊎◌, inl, inr, List, [], ◌∷◌, length, not, cond, Bool, true, false, refl, sym, ap, ◌∙◌, arith, nat_eq, nat_abs, ℤ, pos, neg_ℤ, ◌+ℤ◌, ◌-ℤ◌, ◌<ℤ◌, int_lt, int_eq}
use Rattle.std.specs.Prelude.{IsFalse}
use Rattle.std.specs.List.{flat_map, list_all}
use Rattle.std.proofs.lemmas.Int.{ints}
use Rattle.sem_query.specs.declared.atom.Atom.{Atom}
use Rattle.sem_query.specs.declared.atom.Attr.{Attr}
use Rattle.sem_query.specs.declared.atom.Element.{Element}
use Rattle.sem_query.specs.declared.atom.Element.TheVariants as element
use Rattle.sem_query.specs.declared.atom.Op.{Op}
use Rattle.sem_query.specs.declared.part.Pair.{Pair}
use Rattle.sem_query.specs.declared.part.Sign.{Sign}
use Rattle.sem_query.specs.Groups.{same_group}
use Rattle.sem_query.specs.Parts.{same_stream}
use Rattle.sem_query.specs.Query.{QueryValue, IsWithinLimits, is_filter}
use Rattle.sem_query.specs.Assignment.{Assignment, value, compares, meets, holds, projected}
use Rattle.sem_query.specs.Tuples.{is_same}
use Rattle.sem_query.proofs.Has.{Has, first, later, Has-append_left, Contains-from_has, same_map}
use Rattle.sem_query.proofs.Holding.{Holds-each}
use Rattle.sem_laws.proofs.Sums.{bit}
use Rattle.sem_laws.proofs.Tests.{and-left, nat_true, true_or_false, false_if, not_both}
use Rattle.plan_split_pairs.specs.Pairs.{split_pairs}
use Rattle.plan_split_pairs.specs.SplitParts.{IsSplitPart}
use Rattle.sem_whole.specs.System.{Difference, system, Solves}
use Rattle.sem_forms.specs.Split.{part_query}
use Rattle.sem_lower_bounds.specs.States.{NeedsStates}
use Rattle.sem_lower_bounds.specs.Within.{as_comparisons, written}
use Rattle.sem_lower_bounds.proofs.Mixing.{score, score-fails, score-itself, mixed-here, mixed-other}
use Rattle.sem_lower_bounds.proofs.OneLong.{mixed}
use Rattle.sem_lower_bounds.proofs.Ranges.{IsNear}
use Rattle.sem_lower_bounds.proofs.TwoLinks.{times_more}
use Rattle.sem_split_bounds.proofs.Paths.{Step, step_leads, leads_bound, here}
use Rattle.sem_split_bounds.proofs.Ends.{Free, up, down, top_over, bottom_under}
use Rattle.sem_split_bounds.proofs.Reach.{raised_with, lowered_with}
use Rattle.sem_split_bounds.proofs.Motions.{moved, moved_solves, moved_near, two_blocks, blocks_first, blocks_neither, blocks_ahead, blocks_behind}
use Rattle.sem_split_bounds.proofs.Parts.{based, split_part}
use Rattle.sem_split_bounds.proofs.PartSolutions.{base_solves, solution_written}
use Rattle.sem_split_bounds.proofs.Spacing.{spread_of, spread_over}
use Rattle.sem_split_bounds.proofs.Between.{no_integer, same_column, pair_sides, from_pair}
use Rattle.sem_split_bounds.proofs.MovedFamilies.{written_formed, open_step_needs, open_column_needs, place_of, two_places}
use Rattle.sem_split_bounds.proofs.FreeSteps.{IsPairOf, part_step_named, step_source}
use Rattle.sem_split_bounds.proofs.TwoQuestions.{two-need}

-- ---- the order of two integers

record SameOrder (x y v w : ℤ) : Type 0 where
  less : int_lt x y ≡ int_lt v w
  even : int_eq x y ≡ int_eq v w
  more : int_lt y x ≡ int_lt w v

compares_alike : (o : Op) (x y v w : ℤ) → SameOrder x y v w → compares o x y ≡ compares o v w
compares_alike Op.Lt x y v w s = s.less
compares_alike Op.Eq x y v w s = s.even
compares_alike Op.Gt x y v w s = s.more
compares_alike Op.Le x y v w s = ap not s.more
compares_alike Op.Ge x y v w s = ap not s.less
compares_alike Op.Ne x y v w s = ap not s.even

both_less : (x y v w : ℤ) → x <ℤ y → v <ℤ w → SameOrder x y v w
both_less x y v w h k = record { less = grind (arith, ints, h, k); even = grind (arith, ints, h, k); more = grind (arith, ints, h, k) }

both_more : (x y v w : ℤ) → y <ℤ x → w <ℤ v → SameOrder x y v w
both_more x y v w h k = record { less = grind (arith, ints, h, k); even = grind (arith, ints, h, k); more = grind (arith, ints, h, k) }

-- farther from 0 than so much
abbrev IsFar : ℕ → ℤ → Type 0
IsFar m z = (pos m <ℤ z) ⊎ (z <ℤ neg_ℤ (pos m))

both_even : (x y v w : ℤ) → x ≡ y → v ≡ w → SameOrder x y v w
both_even x y v w h k = record { less = grind (arith, ints, h, k); even = grind (arith, ints, h, k); more = grind (arith, ints, h, k) }

data Order (x y : ℤ) : Type 0 where
  less : x <ℤ y → Order x y
  even : x ≡ y → Order x y
  more : y <ℤ x → Order x y

order : (x y : ℤ) → Order x y
order x y = elim (true_or_false (int_lt x y)) [
  | inl l ↦ less (grind (arith, ints, l))
  | inr n ↦ elim (true_or_false (int_lt y x)) [
    | inl l ↦ more (grind (arith, ints, l))
    | inr m ↦ even (grind (arith, ints, n, m))
  ]
]

apart_alike : (x y v w : ℤ) → x -ℤ y ≡ v -ℤ w → SameOrder x y v w
apart_alike x y v w e = by (order x y)
  where
    by : Order x y → SameOrder x y v w
    by (less l) = both_less x y v w l (omega (arith, ints, e, l))
    by (even l) = both_even x y v w l (omega (arith, ints, e, l))
    by (more l) = both_more x y v w l (omega (arith, ints, e, l))

-- the same is added to both, on both sides
shifted_alike : (x y a b c d : ℤ) → a -ℤ b ≡ c -ℤ d → SameOrder (x +ℤ a) (y +ℤ b) (x +ℤ c) (y +ℤ d)
shifted_alike x y a b c d e = apart_alike (x +ℤ a) (y +ℤ b) (x +ℤ c) (y +ℤ d) (omega (arith, ints, e))

-- what is added is far apart, and nearly the same
far_alike : (s : ℕ) (x y a b c d : ℤ) → nat_abs x ≤ s → nat_abs y ≤ s → IsFar (4 * s) (a -ℤ b) → nat_abs ((a -ℤ b) -ℤ (c -ℤ d)) ≤ 2 * s → SameOrder (x +ℤ a) (y +ℤ b) (x +ℤ c) (y +ℤ d)
far_alike s x y a b c d h k (inl f) n = both_more (x +ℤ a) (y +ℤ b) (x +ℤ c) (y +ℤ d) (omega (arith, ints, h, k, f, n)) (omega (arith, ints, h, k, f, n))
far_alike s x y a b c d h k (inr f) n = both_less (x +ℤ a) (y +ℤ b) (x +ℤ c) (y +ℤ d) (omega (arith, ints, h, k, f, n)) (omega (arith, ints, h, k, f, n))

-- what is added to a side: at the place the one, elsewhere the other, if it is moved
abbrev added : Bool → Bool → ℤ → ℤ → ℤ
added b c k l = cond b (cond c k (pos 0)) (cond c l (pos 0))

far_back : (m : ℕ) (k l : ℤ) → IsFar m (k -ℤ l) → IsFar m (l -ℤ k)
far_back m k l (inl f) = inr (omega (arith, ints, f))
far_back m k l (inr f) = inl (omega (arith, ints, f))

far_none : (m : ℕ) (k : ℤ) → IsFar m k → IsFar m (k -ℤ pos 0)
far_none m k (inl f) = inl (omega (arith, ints, f))
far_none m k (inr f) = inr (omega (arith, ints, f))

sides_alike : (s : ℕ) (x y k l g : ℤ) (b c d e : Bool) → nat_abs x ≤ s → nat_abs y ≤ s → nat_abs g ≤ 2 * s → IsFar (4 * s) l → IsFar (4 * s) (k -ℤ l)
    → SameOrder (x +ℤ added b c k l) (y +ℤ added d e k l) (x +ℤ added b c k (l -ℤ g)) (y +ℤ added d e k (l -ℤ g))
sides_alike s x y k l g true c true e h i j f n = shifted_alike x y (cond c k (pos 0)) (cond e k (pos 0)) (cond c k (pos 0)) (cond e k (pos 0)) refl
sides_alike s x y k l g true c false false h i j f n = shifted_alike x y (cond c k (pos 0)) (pos 0) (cond c k (pos 0)) (pos 0) refl
sides_alike s x y k l g true true false true h i j f n = far_alike s x y k l k (l -ℤ g) h i n (omega (arith, ints, j))
sides_alike s x y k l g true false false true h i j f n = far_alike s x y (pos 0) l (pos 0) (l -ℤ g) h i (far_back (4 * s) l (pos 0) (far_none (4 * s) l f)) (omega (arith, ints, j))
sides_alike s x y k l g false false true e h i j f n = shifted_alike x y (pos 0) (cond e k (pos 0)) (pos 0) (cond e k (pos 0)) refl
sides_alike s x y k l g false true true true h i j f n = far_alike s x y l k (l -ℤ g) k h i (far_back (4 * s) k l n) (omega (arith, ints, j))
sides_alike s x y k l g false true true false h i j f n = far_alike s x y l (pos 0) (l -ℤ g) (pos 0) h i (far_none (4 * s) l f) (omega (arith, ints, j))
sides_alike s x y k l g false false false false h i j f n = shifted_alike x y (pos 0) (pos 0) (pos 0) (pos 0) refl
sides_alike s x y k l g false true false true h i j f n = shifted_alike x y l l (l -ℤ g) (l -ℤ g) (omega (arith, ints))
sides_alike s x y k l g false true false false h i j f n = far_alike s x y l (pos 0) (l -ℤ g) (pos 0) h i (far_none (4 * s) l f) (omega (arith, ints, j))
sides_alike s x y k l g false false false true h i j f n = far_alike s x y (pos 0) l (pos 0) (l -ℤ g) h i (far_back (4 * s) l (pos 0) (far_none (4 * s) l f)) (omega (arith, ints, j))

-- ---- a mixture of two moved assignments

abbrev shifted : Assignment → (Attr → Bool) → ℤ → Assignment
shifted u f k = moved u (two_blocks f f k k)

record Side (place : ℕ) (u : Assignment) (f : Attr → Bool) (x : Element) : Type 0 where
  near : Bool
  moves : Bool
  is : (k l : ℤ) → value x (mixed place (shifted u f k) (shifted u f l)) ≡ value x u +ℤ added near moves k l

side : (place : ℕ) (u : Assignment) (f : Attr → Bool) (x : Element) → Side place u f x
unfolding two_blocks
side place u f (element.Attr a) = record { near = nat_eq a.stream place; moves = f a; is = λ k l. at (nat_eq a.stream place) (f a) (u a) k l }
  where
    at : (b c : Bool) (z k l : ℤ) → cond b (z +ℤ cond c k (cond c k (pos 0))) (z +ℤ cond c l (cond c l (pos 0))) ≡ z +ℤ added b c k l
    at true true z k l = refl
    at true false z k l = refl
    at false true z k l = refl
    at false false z k l = refl
side place u f (element.Const c) = record { near = false; moves = false; is = λ k l. omega (arith, ints) }

same_tests : (t u : Atom → Bool) (ts : List Atom) → ((x : Atom) → Has ts x → t x ≡ u x) → list_all t ts ≡ list_all u ts
same_tests t u [] h = refl
same_tests t u (x ∷ xs) h = let e : t x ≡ u x = h x first in let f : list_all t xs ≡ list_all u xs = same_tests t u xs (λ y k. h y (later k)) in rw (e, f) refl

-- two assignments that order the sides of each comparison alike score alike
pub same_score : (q : QueryValue) (place : ℕ) (w g h : Assignment) → ((t : Atom) → Has q.atoms t → meets (mixed place w g) t ≡ meets (mixed place w h) t)
    → ((a : Attr) → Has q.select a → g a ≡ h a) → score q place w g ≡ score q place w h
same_score q place w g h alike same =
    ap (λ b. bit b * bit (is_same (projected q g) (projected q (mixed place w g)))) (same_tests (meets (mixed place w g)) (meets (mixed place w h)) q.atoms alike)
    ∙ ap (λ p. bit (holds q (mixed place w h)) * bit (is_same p (projected q (mixed place w g)))) (same_map g h q.select same)
    ∙ ap (λ p. bit (holds q (mixed place w h)) * bit (is_same (projected q h) p))
    (same_map (mixed place w g) (mixed place w h) q.select (λ a k. ap (λ z. cond (nat_eq a.stream place) (w a) z) (same a k)))

-- ---- steps

steps_apart : (s : ℕ) (i j : ℕ) → i < j → pos (4 * s) <ℤ (pos (suc j * suc (4 * s)) -ℤ pos (suc i * suc (4 * s)))
steps_apart s i j l = let m = times_more (suc (4 * s)) (suc i) (suc j) (omega (arith, l)) in omega (arith, ints, m)

step_far : (s i : ℕ) → pos (4 * s) <ℤ pos (suc i * suc (4 * s))
step_far s i = let m = times_more (suc (4 * s)) 0 (suc i) (omega arith) in omega (arith, ints, m)

either_less : (i j : ℕ) → i ≢ j → (i < j) ⊎ (j < i)
either_less zero zero n = absurd (n refl)
either_less zero (suc j) n = inl (omega arith)
either_less (suc i) zero n = inr (omega arith)
either_less (suc i) (suc j) n = elim (either_less i j (λ e. n (ap suc e))) [ inl l ↦ inl (omega (arith, l)) | inr l ↦ inr (omega (arith, l)) ]

near_by_steps : (x z k d n j : ℕ) → x ≤ z + (k + k) → k ≤ suc j * d → j < n → x ≤ z + (2 * d) * n
near_by_steps x z k d n j h s l =
    let g : j * d + d ≤ n * d = times_more d j n l in
    let e : (2 * d) * n ≡ n * d + n * d = twice d n in
    let f : suc j * d ≡ j * d + d = more j d in
    omega (arith, h, s, g, e, f)
  where
    twice : (d n : ℕ) → (2 * d) * n ≡ n * d + n * d
    twice d n = grind arith

    more : (j d : ℕ) → suc j * d ≡ j * d + d
    more j d = grind arith

-- a comparison `<>` of equal sides fails
unlike_fails : (o : Op) (x y : ℤ) → o ≡ Op.Ne → x ≡ y → compares o x y ≡ false
unlike_fails o x y e h = ap (λ o. compares o x y) e ∙ at x y h
  where
    at : (x y : ℤ) → x ≡ y → compares Op.Ne x y ≡ false
    at x y h = grind (arith, ints, h)

module _ (q : QueryValue) (within : IsWithinLimits q) (ss : List Sign) (is : IsSplitPart q ss) where
  abbrev ds : List Difference
  ds = system (part_query q ss)

  -- a `<>` of the query between two columns
  record Unlike (x y : Attr) : Type 0 where
    of : Atom
    among : Has q.atoms of
    unlike : of.op ≡ Op.Ne
    sides : ((of.left ≡ element.Attr x) × (of.right ≡ element.Attr y)) ⊎ ((of.left ≡ element.Attr y) × (of.right ≡ element.Attr x))

  turned_sides : (x y : Attr) → Unlike y x → Unlike x y
  turned_sides x y u = record { of = u.of; among = u.among; unlike = u.unlike; sides = elim u.sides [ inl s ↦ inr s | inr s ↦ inl s ] }

  -- a split pair of two streams comes from one
  pair_unlike : (p : Pair) → Has (split_pairs q) p → (a b : Attr) → IsPairOf p a b → a.stream ≢ b.stream → Unlike a b
  pair_unlike p h a b i apart = elim (from_pair q within (split_pairs q) ss (split_part q within ss is) p h) [
    | inl t ↦ elim (pair_sides t.0.left t.0.right p t.3) [
      | inl s ↦ record { of = t.0; among = t.1; unlike = t.2; sides = inl (s.0 ∙ ap (λ c. element.Attr c) i.0, s.1 ∙ i.1) }
      | inr s ↦ record { of = t.0; among = t.1; unlike = t.2; sides = inr (s.1 ∙ i.1, s.0 ∙ ap (λ c. element.Attr c) i.0) }
    ]
    | inr o ↦ elim o [
      | inl k ↦ absurd (no_integer b k.0 (sym i.1 ∙ k.1))
      | inr c ↦ absurd (apart (ap (λ a. a.stream) (sym i.0) ∙ nat_true p.left.stream c.0.stream (and-left (same_stream p.left c.0) (same_group q.atoms p.left c.0) c.2)
          ∙ ap (λ a. a.stream) (same_column c.0 b (sym c.1 ∙ i.1))))
    ]
  ]

  -- a difference between streams is one of the query, or the sign of one of its `<>`
  step_or_unlike : (x y : Attr) → Step ds x y → Step (system q) x y ⊎ Unlike x y
  step_or_unlike x y s = elim (step_source q within (split_pairs q) ss (split_part q within ss is) x y s) [
    | inl o ↦ inl o
    | inr p ↦ inr (elim p.2 [
      | inl e ↦ pair_unlike p.0 p.1 x y e s.across
      | inr e ↦ turned_sides x y (pair_unlike p.0 p.1 y x e (λ f. s.across (sym f)))
    ])
  ]

  -- ---- two questions to each number

  abbrev s : ℕ
  s = spread_of is.one (written q).atoms

  module _ (plain : q.distinct ≡ false) (x y : Attr) (apart : x.stream ≢ y.stream) (here_x : x.stream < length q.from) (two : 1 < length q.from) (u : Unlike x y)
      (f : Attr → Bool) (has_x : f x ≡ true) (has_y : f y ≡ true) (still : (a : Attr) → Has q.select a → f a ≡ false)
      (k : ℕ → ℤ) (solves : (i : ℕ) → Solves ds (shifted is.one f (k i))) (far : (i : ℕ) → IsFar (4 * s) (k i)) (far_each : (i j : ℕ) → i ≢ j → IsFar (4 * s) (k j -ℤ k i))
      (steps : (i : ℕ) → nat_abs (k i) ≤ suc i * suc (4 * s)) where
    abbrev gap : ℤ
    gap = is.one y -ℤ is.one x

    abbrev first_asked : ℕ → Assignment
    first_asked i = shifted is.one f (k i)

    abbrev second_asked : ℕ → Assignment
    second_asked i = shifted is.one f (k i -ℤ gap)

    written_has : (t : Atom) → Has q.atoms t → Has (written q).atoms t
    written_has t h = Has-append_left (flat_map as_comparisons q.domains) h

    gap_small : nat_abs gap ≤ 2 * s
    gap_small =
        let o = spread_over is.one (written q).atoms u.of (written_has u.of u.among) in
        elim u.sides [
          | inl e ↦ (let a : value u.of.left is.one ≡ is.one x = ap (λ z. value z is.one) e.0 in let b : value u.of.right is.one ≡ is.one y = ap (λ z. value z is.one) e.1 in omega (arith, ints, o.0, o.1, a, b))
          | inr e ↦ (let a : value u.of.left is.one ≡ is.one y = ap (λ z. value z is.one) e.0 in let b : value u.of.right is.one ≡ is.one x = ap (λ z. value z is.one) e.1 in omega (arith, ints, o.0, o.1, a, b))
        ]

    near : (n : ℕ) → IsNear is.one (2 * suc (4 * s)) n first_asked
    near n = record {
      near = λ j l a. near_by_steps (nat_abs (first_asked j a)) (nat_abs (is.one a)) (nat_abs (k j)) (suc (4 * s)) n j (moved_near is.one f f (k j) (k j) a) (steps j) l;
    }

    off : (i j : ℕ) → i ≢ j → score (written q) x.stream (first_asked j) (first_asked i) ≡ score (written q) x.stream (first_asked j) (second_asked i)
    off i j n = same_score (written q) x.stream (first_asked j) (first_asked i) (second_asked i) alike same
      where
        alike : (t : Atom) → Has (written q).atoms t → meets (mixed x.stream (first_asked j) (first_asked i)) t ≡ meets (mixed x.stream (first_asked j) (second_asked i)) t
        alike t h =
            let l = side x.stream is.one f t.left in
            let r = side x.stream is.one f t.right in
            let o = spread_over is.one (written q).atoms t h in
            ap (λ z. compares t.op z (value t.right (mixed x.stream (first_asked j) (first_asked i)))) (l.is (k j) (k i))
            ∙ ap (λ z. compares t.op (value t.left is.one +ℤ added l.near l.moves (k j) (k i)) z) (r.is (k j) (k i))
            ∙ compares_alike t.op _ _ _ _
            (sides_alike s (value t.left is.one) (value t.right is.one) (k j) (k i) gap l.near l.moves r.near r.moves o.0 o.1 gap_small (far i) (far_each i j n))
            ∙ sym (ap (λ z. compares t.op z (value t.right (mixed x.stream (first_asked j) (second_asked i)))) (l.is (k j) (k i -ℤ gap))
            ∙ ap (λ z. compares t.op (value t.left is.one +ℤ added l.near l.moves (k j) (k i -ℤ gap)) z) (r.is (k j) (k i -ℤ gap)))

        same : (a : Attr) → Has q.select a → first_asked i a ≡ second_asked i a
        same a h = let d = blocks_neither f f (k i) (k i) a (still a h) (still a h) in let e = blocks_neither f f (k i -ℤ gap) (k i -ℤ gap) a (still a h) (still a h) in omega (arith, ints, d, e)

    none : (i : ℕ) → score (written q) x.stream (first_asked i) (second_asked i) ≡ 0
    none i = score-fails (written q) x.stream (first_asked i) (second_asked i) (false_if (holds (written q) m) (λ h.
        not_both (meets m u.of) (Holds-each (written q) m h u.of (written_has u.of u.among)) (unlike_fails u.of.op (value u.of.left m) (value u.of.right m) u.unlike equal)))
      where
        m : Assignment
        m = mixed x.stream (first_asked i) (second_asked i)

        at_x : m x ≡ is.one x +ℤ k i
        at_x = mixed-here x.stream (first_asked i) (second_asked i) x refl ∙ ap (λ z. is.one x +ℤ z) (blocks_first f f (k i) (k i) x has_x)

        at_y : m y ≡ is.one y +ℤ (k i -ℤ gap)
        at_y = mixed-other x.stream (first_asked i) (second_asked i) y (λ e. apart (sym e)) ∙ ap (λ z. is.one y +ℤ z) (blocks_first f f (k i -ℤ gap) (k i -ℤ gap) y has_y)

        meet : m x ≡ m y
        meet = omega (arith, ints, at_x, at_y)

        equal : value u.of.left m ≡ value u.of.right m
        equal = elim u.sides [
          | inl e ↦ ap (λ z. value z m) e.0 ∙ meet ∙ sym (ap (λ z. value z m) e.1)
          | inr e ↦ ap (λ z. value z m) e.0 ∙ sym meet ∙ sym (ap (λ z. value z m) e.1)
        ]

    level_needs : NeedsStates (written q)
    level_needs = two-need (written q) (written_formed q within) x.stream here_x first_asked first_asked second_asked two plain is.one (2 * suc (4 * s)) near
        (λ i. score-itself (written q) x.stream (first_asked i) (solution_written q within ss is (first_asked i) (solves i))) none off

  -- without DISTINCT one difference is enough
  pub counted_step_needs : IsFalse (is_filter q) → q.distinct ≡ false → (x y : Attr) → Step ds x y → Free ds x y → NeedsStates (written q)
  counted_step_needs joins d x y t free n = elim (step_or_unlike x y t) [
    | inl o ↦ open_step_needs q within (split_pairs q) ss (based q (split_pairs q) ss (split_part q within ss is)) d x y t o free n
    | inr u ↦ by u free
  ]
    where
      named : x.stream < length q.from
      named = place_of q within x (part_step_named q within (split_pairs q) ss (split_part q within ss is) x y t).0

      two : 1 < length q.from
      two = two_places x.stream y.stream (length q.from) t.across named (place_of q within y (part_step_named q within (split_pairs q) ss (split_part q within ss is) x y t).1)

      by : Unlike x y → Free ds x y → ⊥
      by u (up h) = raised_with (part_query q ss) x h (λ f.
          level_needs d x y t.across named two u f.0 (f.1.all x here) (f.1.all y (step_leads ds x y t))
          (λ a i. false_if (f.0 a) (λ e. open_column_needs q within (split_pairs q) ss (based q (split_pairs q) ss (split_part q within ss is)) joins a (Contains-from_has q.select a i)
          (inl (top_over ds x a (pos 0) (leads_bound (part_query q ss) x a (f.1.only a e)) h)) n))
          (λ i. pos (suc i * suc (4 * s)))
          (λ i. moved_solves ds is.one (two_blocks f.0 f.0 (pos (suc i * suc (4 * s))) (pos (suc i * suc (4 * s)))) (base_solves q within (split_pairs q) ss (based q (split_pairs q) ss (split_part q within ss is)))
          (blocks_ahead ds f.0 f.0 (pos (suc i * suc (4 * s))) (pos (suc i * suc (4 * s))) f.1.ahead f.1.ahead (omega (arith, ints)) (omega (arith, ints))))
          (λ i. inl (step_far s i))
          (λ i j o. elim (either_less i j o) [ inl l ↦ inl (steps_apart s i j l) | inr l ↦ inr (let m = steps_apart s j i l in omega (arith, ints, m)) ])
          (λ i. omega (arith, ints)) n)
      by u (down h) = lowered_with (part_query q ss) y h (λ f.
          level_needs d x y t.across named two u f.0 (f.1.all x (step_leads ds x y t)) (f.1.all y here)
          (λ a i. false_if (f.0 a) (λ e. open_column_needs q within (split_pairs q) ss (based q (split_pairs q) ss (split_part q within ss is)) joins a (Contains-from_has q.select a i)
          (inr (bottom_under ds a y (pos 0) (leads_bound (part_query q ss) a y (f.1.only a e)) h)) n))
          (λ i. neg_ℤ (pos (suc i * suc (4 * s))))
          (λ i. moved_solves ds is.one (two_blocks f.0 f.0 (neg_ℤ (pos (suc i * suc (4 * s)))) (neg_ℤ (pos (suc i * suc (4 * s))))) (base_solves q within (split_pairs q) ss (based q (split_pairs q) ss (split_part q within ss is)))
          (blocks_behind ds f.0 f.0 (neg_ℤ (pos (suc i * suc (4 * s)))) (neg_ℤ (pos (suc i * suc (4 * s)))) f.1.behind f.1.behind (omega (arith, ints)) (omega (arith, ints))))
          (λ i. inr (let m = step_far s i in omega (arith, ints, m)))
          (λ i j o. elim (either_less i j o) [ inl l ↦ inr (let m = steps_apart s i j l in omega (arith, ints, m)) | inr l ↦ inl (let m = steps_apart s j i l in omega (arith, ints, m)) ])
          (λ i. omega (arith, ints)) n)
