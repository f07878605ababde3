-- Two histories after which all cells keep the same, however the rows are led to them: a value of T.c is common to the rows of one of them alone.
use Rattle.std.proofs.Common.{◌≡◌, ◌≢◌, ℕ, zero, suc, ◌+◌, ◌<◌, ◌≤◌, ◌⊎◌, inl, inr, ℤ, pos, negsuc, neg_ℤ, ◌+ℤ◌, ◌≤ℤ◌, ◌==◌, ◌<ℤ◌, int_lt, nat_abs, nat_eq, List, [], ◌∷◌, map, filter, cond, if◌then◌else◌, Bool, true, false, not, ◌&&◌, refl, sym, ap, ◌∙◌, arith, slice_index_or}
use Rattle.std.proofs.lemmas.Bool.Decides.{nat_tests}
use Rattle.std.proofs.lemmas.Int.{ints}
use Rattle.std.specs.Ordering.{int_eq}
use Rattle.sem_query.specs.declared.cell.Cell.{Cell}
use Rattle.sem_query.specs.declared.plan.Kind.{Kind}
use Rattle.sem_query.specs.Assignment.{projected}
use Rattle.sem_query.specs.Cells.{least, greatest, content}
use Rattle.sem_query.specs.Meaning.{Arrival, by_column, assignment_of, new_answers}
use Rattle.sem_query.specs.Tuples.{sorted, new_tuples}
use Rattle.sem_lower_bounds.specs.Unlike.{unlike_both}
use Rattle.sem_split_bounds.specs.Cells.{IsCoarse, led_rows, AreCellsAlike, CellsDoNotTell}

-- rows of S with 1 at S.e, and of T
abbrev row_s : ℕ → ℕ → List ℤ
row_s a b = pos a ∷ pos b ∷ pos 1 ∷ []

abbrev row_t : ℕ → List ℤ
row_t c = pos c ∷ []

at_least : (k : ℕ) (c : ℤ) → nat_abs c ≤ k → neg_ℤ (pos k) ≤ℤ c
at_least k (pos n) l = omega (arith, ints)
at_least k (negsuc n) l = omega (arith, ints, l)

at_most : (k : ℕ) (c : ℤ) → nat_abs c ≤ k → c ≤ℤ pos k
at_most k (pos n) l = omega (arith, ints, l)
at_most k (negsuc n) l = omega (arith, ints)

is_less : (x y : ℤ) → x <ℤ y → int_lt x y ≡ true
is_less x y h = grind (arith, ints, h)

is_no_less : (x y : ℤ) → y ≤ℤ x → int_lt x y ≡ false
is_no_less x y h = grind (arith, ints, h)

-- integers that are further apart than what is added to one of them
less : (k : ℕ) (c : ℤ) → nat_abs c ≤ k → (x y z w : ℤ) → (x +ℤ pos k) <ℤ y → (z +ℤ pos k) <ℤ w → int_lt x (y +ℤ c) ≡ int_lt z (w +ℤ c)
less k c l x y z w f g =
    let low = at_least k c l in
    is_less x (y +ℤ c) (omega (arith, ints, f, low)) ∙ sym (is_less z (w +ℤ c) (omega (arith, ints, g, low)))

more : (k : ℕ) (c : ℤ) → nat_abs c ≤ k → (x y z w : ℤ) → (y +ℤ pos k) <ℤ x → (w +ℤ pos k) <ℤ z → int_lt x (y +ℤ c) ≡ int_lt z (w +ℤ c)
more k c l x y z w f g =
    let high = at_most k c l in
    is_no_less x (y +ℤ c) (omega (arith, ints, f, high)) ∙ sym (is_no_less z (w +ℤ c) (omega (arith, ints, g, high)))

level : (c x z : ℤ) → int_lt x (x +ℤ c) ≡ int_lt z (z +ℤ c)
level c x z = grind (arith, ints)

beyond : (k : ℕ) (c : ℤ) → nat_abs c ≤ k → (x z : ℤ) → pos k <ℤ x → pos k <ℤ z → int_lt x c ≡ int_lt z c
beyond k c l x z f g =
    let high = at_most k c l in
    is_no_less x c (omega (arith, ints, f, high)) ∙ sym (is_no_less z c (omega (arith, ints, g, high)))

-- the columns behind the second are 1 and 0
behind_most : (j : ℕ) → slice_index_or (pos 1 ∷ []) j (pos 0) ≤ℤ pos 1
behind_most zero = omega (arith, ints)
behind_most (suc j) = omega (arith, ints)

-- the columns stand far apart in ascending order
pub record IsFar (k a b : ℕ) : Type 0 where
  pub low : pos (suc k) <ℤ pos a
  pub high : (pos a +ℤ pos k) <ℤ pos b

far_order : (k a b x y : ℕ) → IsFar k a b → IsFar k x y → (i j : ℕ) (c : ℤ) → nat_abs c ≤ k
    → int_lt (by_column (row_s a b) i) (by_column (row_s a b) j +ℤ c) ≡ int_lt (by_column (row_s x y) i) (by_column (row_s x y) j +ℤ c)
far_order k a b x y f g zero zero c l = level c (pos a) (pos x)
far_order k a b x y f g (suc zero) (suc zero) c l = level c (pos b) (pos y)
far_order k a b x y f g zero (suc zero) c l = less k c l (pos a) (pos b) (pos x) (pos y) f.high g.high
far_order k a b x y f g (suc zero) zero c l = more k c l (pos b) (pos a) (pos y) (pos x) f.high g.high
far_order k a b x y f g zero (suc (suc j)) c l =
    let d = slice_index_or (pos 1 ∷ []) j (pos 0) in let m = behind_most j in let p = f.low in let q = g.low in
    more k c l (pos a) d (pos x) d (omega (arith, ints, m, p)) (omega (arith, ints, m, q))
far_order k a b x y f g (suc zero) (suc (suc j)) c l =
    let d = slice_index_or (pos 1 ∷ []) j (pos 0) in let m = behind_most j in let p = f.low in let q = g.low in let r = f.high in let s = g.high in
    more k c l (pos b) d (pos y) d (omega (arith, ints, m, p, r)) (omega (arith, ints, m, q, s))
far_order k a b x y f g (suc (suc i)) zero c l =
    let d = slice_index_or (pos 1 ∷ []) i (pos 0) in let m = behind_most i in let p = f.low in let q = g.low in
    less k c l d (pos a) d (pos x) (omega (arith, ints, m, p)) (omega (arith, ints, m, q))
far_order k a b x y f g (suc (suc i)) (suc zero) c l =
    let d = slice_index_or (pos 1 ∷ []) i (pos 0) in let m = behind_most i in let p = f.low in let q = g.low in let r = f.high in let s = g.high in
    less k c l d (pos b) d (pos y) (omega (arith, ints, m, p, r)) (omega (arith, ints, m, q, s))
far_order k a b x y f g (suc (suc i)) (suc (suc j)) c l = refl

far_place : (k a b x y : ℕ) → IsFar k a b → IsFar k x y → (i : ℕ) (c : ℤ) → nat_abs c ≤ k
    → int_lt (by_column (row_s a b) i) c ≡ int_lt (by_column (row_s x y) i) c
far_place k a b x y f g zero c l = let p = f.low in let q = g.low in beyond k c l (pos a) (pos x) (omega (arith, ints, p)) (omega (arith, ints, q))
far_place k a b x y f g (suc zero) c l =
    let p = f.low in let q = g.low in let r = f.high in let s = g.high in
    beyond k c l (pos b) (pos y) (omega (arith, ints, p, r)) (omega (arith, ints, q, s))
far_place k a b x y f g (suc (suc i)) c l = refl

-- so such rows are led to one cell
led_alike : (k : ℕ) (leads : (ℕ → ℤ) → ℕ) → IsCoarse k leads → (a b x y : ℕ) → IsFar k a b → IsFar k x y → leads (by_column (row_s a b)) ≡ leads (by_column (row_s x y))
led_alike k leads coarse a b x y f g = coarse (by_column (row_s a b)) (by_column (row_s x y)) (far_order k a b x y f g) (far_place k a b x y f g)

-- what is left of three
abbrev left_of : {X : Type 0} → Bool → Bool → Bool → X → X → X → List X
left_of a b c x y z =
    let last = cond c (z ∷ []) [] in
    let two = cond b (y ∷ last) last in
    cond a (x ∷ two) two

-- the cells: the first column and those behind the second are alike in both, and of the second the least and the greatest
abbrev firsts : ℕ → List ℤ
firsts m = row_s m (m + m + m)

abbrev lasts : ℕ → List ℤ
lasts m = row_s (m + m + m) (m + m + m + m)

abbrev common_two : ℕ → List ℤ
common_two m = row_s (m + m) (m + m + m)

abbrev other_two : ℕ → List ℤ
other_two m = row_s (m + m) (m + m + m + m)

abbrev lesser : ℤ → ℤ → ℤ
lesser x z = if int_lt x z then x else z

abbrev greater : ℤ → ℤ → ℤ
greater x z = if int_lt z x then x else z

lesser_is : (x z : ℤ) → z ≤ℤ x → lesser x z ≡ z
lesser_is x z h = ap (λ (b : Bool). if b then x else z) (is_no_less x z h)

greater_is : (x z : ℤ) → z ≤ℤ x → greater x z ≡ x
greater_is x z h = grind (arith, ints, h)

third_to_fourth : (m : ℕ) → pos (m + m + m) ≤ℤ pos (m + m + m + m)
third_to_fourth m = omega (arith, ints)

least_steps : (x y z : ℤ) → z ≤ℤ x → z ≤ℤ y → lesser y (lesser x z) ≡ z
least_steps x y z h k = ap (lesser y) (lesser_is x z h) ∙ lesser_is y z k

greatest_steps : (x y z : ℤ) → z ≤ℤ x → x ≤ℤ y → greater y (greater x z) ≡ y
greatest_steps x y z h k = ap (greater y) (greater_is x z h) ∙ greater_is y x k

least_alike : (m stream column : ℕ) → least (record { stream = stream; column = column }) (by_column (firsts m) column) (common_two m ∷ lasts m ∷ [])
    ≡ least (record { stream = stream; column = column }) (by_column (firsts m) column) (other_two m ∷ lasts m ∷ [])
least_alike m s zero = refl
least_alike m s (suc zero) =
    let u = pos (m + m + m) in let w = pos (m + m + m + m) in
    least_steps u w u (omega (arith, ints)) (third_to_fourth m) ∙ sym (least_steps w w u (third_to_fourth m) (third_to_fourth m))
least_alike m s (suc (suc c)) = refl

greatest_alike : (m stream column : ℕ) → greatest (record { stream = stream; column = column }) (by_column (firsts m) column) (common_two m ∷ lasts m ∷ [])
    ≡ greatest (record { stream = stream; column = column }) (by_column (firsts m) column) (other_two m ∷ lasts m ∷ [])
greatest_alike m s zero = refl
greatest_alike m s (suc zero) =
    let u = pos (m + m + m) in let w = pos (m + m + m + m) in
    greatest_steps u w u (omega (arith, ints)) (third_to_fourth m) ∙ sym (greatest_steps w w u (third_to_fourth m) (omega (arith, ints)))
greatest_alike m s (suc (suc c)) = refl

content_alike : (m : ℕ) (kind : Kind) → content kind (firsts m ∷ common_two m ∷ lasts m ∷ []) ≡ content kind (firsts m ∷ other_two m ∷ lasts m ∷ [])
content_alike m Kind.Count = refl
content_alike m Kind.Present = refl
content_alike m (Kind.Least a) = ap Cell.Extreme (least_alike m a.stream a.column)
content_alike m (Kind.Greatest a) = ap Cell.Extreme (greatest_alike m a.stream a.column)

-- three rows that are led alike stand in the cell together or not at all
same_left : (kind : Kind) (b : Bool) (x y z v : List ℤ) → content kind (x ∷ y ∷ z ∷ []) ≡ content kind (x ∷ v ∷ z ∷ [])
    → content kind (left_of b b b x y z) ≡ content kind (left_of b b b x v z)
same_left kind true x y z v e = e
same_left kind false x y z v e = refl

-- the histories, and the row that they answer differently
abbrev arrives : ℕ → List ℤ → Arrival
arrives stream row = record { stream = stream; values = row }

abbrev history : ℕ → List ℤ → List Arrival
history m second = arrives 0 (firsts m) ∷ arrives 0 second ∷ arrives 0 (lasts m) ∷ []

cells_alike : (k m : ℕ) (leads : (ℕ → ℤ) → ℕ) → IsCoarse k leads → suc k < m → AreCellsAlike leads (history m (common_two m)) (history m (other_two m))
cells_alike k m leads coarse h (suc s) cell kind = nothing_there (common_two m) ∙ sym (nothing_there (other_two m))
  where
    elsewhere : (0 == suc s) ≡ false
    elsewhere = grind (arith, nat_tests)

    nothing_there : (second : List ℤ) → content kind (led_rows leads (history m second) (suc s) cell) ≡ Cell.Empty
    nothing_there second = λ i. content kind (filter (λ row. nat_eq (leads (by_column row)) cell)
        (map (λ r. r.values) (left_of (elsewhere i) (elsewhere i) (elsewhere i) (arrives 0 (firsts m)) (arrives 0 second) (arrives 0 (lasts m)))))
cells_alike k m leads coarse h zero cell kind =
    let far_first : IsFar k m (m + m + m) = record { low = omega (arith, ints, h); high = omega (arith, ints, h) } in
    let far_common : IsFar k (m + m) (m + m + m) = record { low = omega (arith, ints, h); high = omega (arith, ints, h) } in
    let far_other : IsFar k (m + m) (m + m + m + m) = record { low = omega (arith, ints, h); high = omega (arith, ints, h) } in
    let far_last : IsFar k (m + m + m) (m + m + m + m) = record { low = omega (arith, ints, h); high = omega (arith, ints, h) } in
    let at = λ (row : List ℤ). nat_eq (leads (by_column row)) cell in
    let common : at (common_two m) ≡ at (firsts m) = ap (λ (n : ℕ). nat_eq n cell) (led_alike k leads coarse _ _ _ _ far_common far_first) in
    let other : at (other_two m) ≡ at (firsts m) = ap (λ (n : ℕ). nat_eq n cell) (led_alike k leads coarse _ _ _ _ far_other far_first) in
    let last : at (lasts m) ≡ at (firsts m) = ap (λ (n : ℕ). nat_eq n cell) (led_alike k leads coarse _ _ _ _ far_last far_first) in
    (λ i. content kind (left_of (at (firsts m)) (common i) (last i) (firsts m) (common_two m) (lasts m)))
    ∙ same_left kind (at (firsts m)) (firsts m) (common_two m) (lasts m) (other_two m) (content_alike m kind)
    ∙ (λ i. content kind (left_of (at (firsts m)) (sym other i) (sym last i) (firsts m) (other_two m) (lasts m)))

-- whether a row of S answers to a value of T.c
abbrev answers_to : ℕ → ℕ → ℕ → Bool
answers_to a b c = not (int_eq (pos a) (pos c)) && (not (int_eq (pos b) (pos c)) && true)

equal : (c : ℕ) → int_eq (pos c) (pos c) ≡ true
equal c = grind (arith, nat_tests)

unequal : (a c : ℕ) → (a < c) ⊎ (c < a) → int_eq (pos a) (pos c) ≡ false
unequal a c h = grind (arith, nat_tests, h)

silent_left : (b c : ℕ) → answers_to c b c ≡ false
silent_left b c = ap (λ (x : Bool). not x && (not (int_eq (pos b) (pos c)) && true)) (equal c)

silent_right : (a c : ℕ) → answers_to a c c ≡ false
silent_right a c = ap (λ (x : Bool). not (int_eq (pos a) (pos c)) && (not x && true)) (equal c) ∙ by (not (int_eq (pos a) (pos c)))
  where
    by : (x : Bool) → (x && false) ≡ false
    by true = refl
    by false = refl

answers : (a b c : ℕ) → a < c → c < b → answers_to a b c ≡ true
answers a b c f g = λ i. not (unequal a c (inl f) i) && (not (unequal b c (inr g) i) && true)

-- what is answered to a value of T.c, by the rows that answer to it
abbrev told : Bool → Bool → Bool → List (List ℤ)
told a b c = sorted (new_tuples [] (left_of a b c (pos 1 ∷ []) (pos 1 ∷ []) (pos 1 ∷ [])))

selected_left : (a b c : Bool) (x y z : List (List ℤ)) → map (λ rows. projected unlike_both (assignment_of rows)) (left_of a b c x y z)
    ≡ left_of a b c (projected unlike_both (assignment_of x)) (projected unlike_both (assignment_of y)) (projected unlike_both (assignment_of z))
selected_left true true true x y z = refl
selected_left true true false x y z = refl
selected_left true false true x y z = refl
selected_left true false false x y z = refl
selected_left false true true x y z = refl
selected_left false true false x y z = refl
selected_left false false true x y z = refl
selected_left false false false x y z = refl

answered : (m a b c : ℕ) → new_answers unlike_both (history m (row_s a b)) (arrives 1 (row_t c))
    ≡ told (answers_to m (m + m + m) c) (answers_to a b c) (answers_to (m + m + m) (m + m + m + m) c)
unfolding new_answers
answered m a b c =
    ap (λ (tuples : List (List ℤ)). sorted (new_tuples [] tuples)) (selected_left (answers_to m (m + m + m) c) (answers_to a b c) (answers_to (m + m + m) (m + m + m + m) c)
    (firsts m ∷ row_t c ∷ []) (row_s a b ∷ row_t c ∷ []) (lasts m ∷ row_t c ∷ []))

answers_differ : (m : ℕ) → 0 < m → new_answers unlike_both (history m (common_two m)) (arrives 1 (row_t (m + m + m))) ≢ new_answers unlike_both (history m (other_two m)) (arrives 1 (row_t (m + m + m)))
answers_differ m h e =
    let c = m + m + m in
    let first = silent_right m c in
    let last = silent_left (m + m + m + m) c in
    let common : told (answers_to m c c) (answers_to (m + m) c c) (answers_to c (m + m + m + m) c) ≡ [] = λ i. told (first i) (silent_right (m + m) c i) (last i) in
    let other : told (answers_to m c c) (answers_to (m + m) (m + m + m + m) c) (answers_to c (m + m + m + m) c) ≡ (pos 1 ∷ []) ∷ [] =
    λ i. told (first i) (answers (m + m) (m + m + m + m) c (omega (arith, h)) (omega (arith, h)) i) (last i) in
    let absent : [] ≡ (pos 1 ∷ []) ∷ [] = sym common ∙ sym (answered m (m + m) c c) ∙ e ∙ answered m (m + m) (m + m + m + m) c ∙ other in
    absurd cc

pub cells-do-not-tell : CellsDoNotTell
cells-do-not-tell k leads coarse = record {
  one = history (suc (suc k)) (common_two (suc (suc k)));
  other = history (suc (suc k)) (other_two (suc (suc k)));
  next = arrives 1 (row_t (suc (suc k) + suc (suc k) + suc (suc k)));
  alike = cells_alike k (suc (suc k)) leads coarse (omega arith);
  differ = answers_differ (suc (suc k)) (omega arith);
}
