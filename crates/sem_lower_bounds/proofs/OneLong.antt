-- The nested product of the chosen rows of one stream and one row of each other.
use Rattle.std.proofs.Common.{◌≡◌, ◌≢◌, ℕ, zero, suc, ◌+◌, ◌<◌, ◌≤◌, List, [], ◌∷◌, ◌++◌, map, filter, length, cond, Bool, true, false, ◌==◌, refl, sym, ap, ◌∙◌, subst, arith, nat_eq, ℤ, slice_index_or}
use Rattle.std.proofs.lemmas.List.{map-append}
use Rattle.std.proofs.lemmas.List.Elements.{filter-append}
use Rattle.sem_query.proofs.Has.{Has, first, later, same_map}
use Rattle.sem_query.specs.declared.atom.Attr.{Attr}
use Rattle.sem_query.specs.Assignment.{Assignment}
use Rattle.sem_query.specs.Meaning.{Arrival, rows, by_column, at_place, joined}
use Rattle.sem_laws.proofs.Sums.{sums, sums_same, nested}
use Rattle.sem_laws.proofs.Tests.{append-nothing}
use Rattle.sem_lower_bounds.proofs.Bits.{weigh}

-- the row of a place of FROM in an assignment
abbrev pub row_of : Assignment → ℕ → List ℤ
row_of w place =
    w record { stream = place; column = 0 } ∷ w record { stream = place; column = 1 } ∷ w record { stream = place; column = 2 } ∷ w record { stream = place; column = 3 }
    ∷ w record { stream = place; column = 4 } ∷ w record { stream = place; column = 5 } ∷ w record { stream = place; column = 6 } ∷ w record { stream = place; column = 7 } ∷ []

-- the rows whose bit is true
abbrev pub chosen : (ℕ → List ℤ) → ℕ → List Bool → List (List ℤ)
chosen row k [] = []
chosen row k (b ∷ bs) = cond b (row k ∷ chosen row (suc k) bs) (chosen row (suc k) bs)

-- those rows as they arrive at a stream
abbrev pub picked : ℕ → (ℕ → List ℤ) → ℕ → List Bool → List Arrival
picked stream row k [] = []
picked stream row k (b ∷ bs) = cond b (record { stream = stream; values = row k } ∷ picked stream row (suc k) bs) (picked stream row (suc k) bs)

pub few-picked : (stream : ℕ) (row : ℕ → List ℤ) (k : ℕ) (bs : List Bool) → length (picked stream row k bs) ≤ length bs
few-picked stream row k [] = omega arith
few-picked stream row k (true ∷ bs) = let l : length (picked stream row (suc k) bs) ≤ length bs = few-picked stream row (suc k) bs in omega (arith, l)
few-picked stream row k (false ∷ bs) = let l : length (picked stream row (suc k) bs) ≤ length bs = few-picked stream row (suc k) bs in omega (arith, l)

-- the rows of an assignment, from a place of FROM on, but for one place
abbrev pub beside : Assignment → ℕ → ℕ → List ℕ → List Arrival
beside w place n [] = []
beside w place n (s ∷ from) = cond (nat_eq n place) (beside w place (suc n) from) (record { stream = s; values = row_of w n } ∷ beside w place (suc n) from)

-- the lists of the nested product
abbrev pub layout : List (List ℤ) → Assignment → ℕ → ℕ → List ℕ → List (List (List ℤ))
layout long w place n [] = []
layout long w place n (s ∷ from) = cond (nat_eq n place) long (row_of w n ∷ []) ∷ layout long w place (suc n) from

-- one of its combinations
abbrev pub combined : List ℤ → Assignment → ℕ → ℕ → List ℕ → List (List ℤ)
combined x w place n [] = []
combined x w place n (s ∷ from) = cond (nat_eq n place) x (row_of w n) ∷ combined x w place (suc n) from

pub sums-chosen : (f : List ℤ → ℕ) (row : ℕ → List ℤ) (k : ℕ) (bs : List Bool) → sums f (chosen row k bs) ≡ weigh (λ j. f (row j)) k bs
unfolding sums
sums-chosen f row k [] = refl
sums-chosen f row k (true ∷ bs) = omega (arith, sums-chosen f row (suc k) bs)
sums-chosen f row k (false ∷ bs) = omega (arith, sums-chosen f row (suc k) bs)

pub rows-append : (g h : List Arrival) (s : ℕ) → rows (g ++ h) s ≡ rows g s ++ rows h s
rows-append g h s = ap (map (λ t. t.values)) (filter-append _ g h) ∙ map-append _ _ _

pub rows-first : (r : Arrival) (h : List Arrival) (s : ℕ) (b : Bool) → (r.stream == s) ≡ b → rows (r ∷ h) s ≡ cond b (r.values ∷ rows h s) (rows h s)
rows-first r h s b e = subst (λ c. rows (r ∷ h) s ≡ cond c (r.values ∷ rows h s) (rows h s)) e (by (r.stream == s) refl)
  where
    by : (c : Bool) → (r.stream == s) ≡ c → map (λ t. t.values) (cond c (r ∷ filter (λ t. t.stream == s) h) (filter (λ t. t.stream == s) h)) ≡ cond c (r.values ∷ rows h s) (rows h s)
    by true f = refl
    by false f = refl

same_stream : (s : ℕ) → (s == s) ≡ true
same_stream s = grind arith

other_stream : (s t : ℕ) → s ≢ t → (s == t) ≡ false
other_stream s t h = grind (arith, h)

pub rows-own : (s : ℕ) (row : ℕ → List ℤ) (k : ℕ) (bs : List Bool) → rows (picked s row k bs) s ≡ chosen row k bs
rows-own s row k [] = refl
rows-own s row k (true ∷ bs) =
    rows-first record { stream = s; values = row k } (picked s row (suc k) bs) s true (same_stream s) ∙ ap (λ l. row k ∷ l) (rows-own s row (suc k) bs)
rows-own s row k (false ∷ bs) = rows-own s row (suc k) bs

pub rows-other : (s t : ℕ) (row : ℕ → List ℤ) (k : ℕ) (bs : List Bool) → s ≢ t → rows (picked s row k bs) t ≡ []
rows-other s t row k [] n = refl
rows-other s t row k (true ∷ bs) n =
    rows-first record { stream = s; values = row k } (picked s row (suc k) bs) t false (other_stream s t n) ∙ rows-other s t row (suc k) bs n
rows-other s t row k (false ∷ bs) n = rows-other s t row (suc k) bs n

-- a stream is none of these
abbrev pub Missing : ℕ → List ℕ → Type 0
Missing s from = (t : ℕ) → Has from t → t ≢ s

-- no stream stands twice
abbrev pub Differ : List ℕ → Type 0
Differ [] = Unit {0}
Differ (s ∷ from) = Missing s from × Differ from

beside-missing : (w : Assignment) (place n s : ℕ) (from : List ℕ) → Missing s from → rows (beside w place n from) s ≡ []
beside-missing w place n s [] m = refl
beside-missing w place n s (t ∷ from) m = by (nat_eq n place) (beside-missing w place (suc n) s from (λ u k. m u (later k)))
  where
    by : (b : Bool) → rows (beside w place (suc n) from) s ≡ []
        → rows (cond b (beside w place (suc n) from) (record { stream = t; values = row_of w n } ∷ beside w place (suc n) from)) s ≡ []
    by true e = e
    by false e = rows-first record { stream = t; values = row_of w n } (beside w place (suc n) from) s false (other_stream t s (m t first)) ∙ e

-- of these streams, from a place on, the history has rows at one place alone
abbrev pub Stands : List Arrival → List (List ℤ) → ℕ → ℕ → List ℕ → Type 0
Stands h long place n [] = Unit {0}
Stands h long place n (s ∷ from) = (rows h s ≡ cond (nat_eq n place) long []) × Stands h long place (suc n) from

-- the complete streams are the lists of the nested product
pub laid : (h : List Arrival) (long : List (List ℤ)) (w : Assignment) (place n : ℕ) (from : List ℕ) → Differ from → Stands h long place n from
    → map (rows (h ++ beside w place n from)) from ≡ layout long w place n from
laid h long w place n [] d st = refl
laid h long w place n (s ∷ from) d st = both (rows-append h (beside w place n (s ∷ from)) s ∙ own (nat_eq n place) st.0) (same_map _ _ from tail ∙ laid h long w place (suc n) from d.1 st.1)
  where
    both : {x y : List (List ℤ)} {xs ys : List (List (List ℤ))} → x ≡ y → xs ≡ ys → (x ∷ xs) ≡ (y ∷ ys)
    both e f = cc

    B : List Arrival
    B = beside w place (suc n) from

    own : (b : Bool) → rows h s ≡ cond b long []
        → rows h s ++ rows (cond b B (record { stream = s; values = row_of w n } ∷ B)) s ≡ cond b long (row_of w n ∷ [])
    own true e = ap (λ l. l ++ rows B s) e ∙ ap (λ l. long ++ l) (beside-missing w place (suc n) s from d.0) ∙ append-nothing long
    own false e =
        ap (λ l. l ++ rows (record { stream = s; values = row_of w n } ∷ B) s) e
        ∙ rows-first record { stream = s; values = row_of w n } B s true (same_stream s) ∙ ap (λ l. row_of w n ∷ l) (beside-missing w place (suc n) s from d.0)

    skip : (t : ℕ) (b : Bool) → s ≢ t → rows (cond b B (record { stream = s; values = row_of w n } ∷ B)) t ≡ rows B t
    skip t true m = refl
    skip t false m = rows-first record { stream = s; values = row_of w n } B t false (other_stream s t m)

    tail : (t : ℕ) → Has from t → rows (h ++ beside w place n (s ∷ from)) t ≡ rows (h ++ B) t
    tail t k =
        rows-append h (beside w place n (s ∷ from)) t ∙ ap (λ l. rows h t ++ l) (skip t (nat_eq n place) (λ e. d.0 t k (sym e))) ∙ sym (rows-append h B t)

place_here : (n place : ℕ) → place ≡ n → nat_eq n place ≡ true
place_here n place e = grind (arith, e)

place_past : (n place : ℕ) → place < n → nat_eq n place ≡ false
place_past n place e = grind (arith, e)

place_ahead : (n i place : ℕ) → place ≡ n + suc i → nat_eq n place ≡ false
place_ahead n i place e = grind (arith, e)

has_at : (from : List ℕ) (i : ℕ) → i < length from → Has from (slice_index_or from i 0)
has_at [] i h = absurd (omega (arith, h))
has_at (s ∷ from) zero h = first
has_at (s ∷ from) (suc i) h = later (has_at from i (omega (arith, h)))

-- rows of one stream alone
stands-past : (s : ℕ) (row_of : ℕ → List ℤ) (bs : List Bool) (place n : ℕ) (from : List ℕ) → place < n → Missing s from
    → Stands (picked s row_of 0 bs) (chosen row_of 0 bs) place n from
stands-past s row_of bs place n [] l m = tt
stands-past s row_of bs place n (t ∷ from) l m = (
  rows-other s t row_of 0 bs (λ e. m t first (sym e)) ∙ sym (ap (λ b. cond b (chosen row_of 0 bs) []) (place_past n place l)),
  stands-past s row_of bs place (suc n) from (omega (arith, l)) (λ u k. m u (later k)),
)

pub stands : (row_of : ℕ → List ℤ) (bs : List Bool) (place n i : ℕ) (from : List ℕ) → place ≡ n + i → i < length from → Differ from
    → Stands (picked (slice_index_or from i 0) row_of 0 bs) (chosen row_of 0 bs) place n from
stands row_of bs place n i [] e l d = tt
stands row_of bs place n zero (s ∷ from) e l d = (
  rows-own s row_of 0 bs ∙ sym (ap (λ b. cond b (chosen row_of 0 bs) []) (place_here n place (omega (arith, e)))),
  stands-past s row_of bs place (suc n) from (omega (arith, e)) d.0,
)
stands row_of bs place n (suc i) (s ∷ from) e l d = (
  rows-other (slice_index_or from i 0) s row_of 0 bs (d.0 (slice_index_or from i 0) (has_at from i (omega (arith, l)))) ∙ sym (ap (λ b. cond b (chosen row_of 0 bs) []) (place_ahead n i place e)),
  stands row_of bs place (suc n) i from (omega (arith, e)) (omega (arith, l)) d.1,
)

-- the product over the lists is the sum over the one long list
nested-past : (long : List (List ℤ)) (x : List ℤ) (w : Assignment) (place n : ℕ) (from : List ℕ) (f : List (List ℤ) → ℕ) → place < n
    → nested (layout long w place n from) f ≡ f (combined x w place n from)
unfolding sums nested
nested-past long x w place n [] f l = refl
nested-past long x w place n (s ∷ from) f l = by (nat_eq n place) (place_past n place l) (nested-past long x w place (suc n) from (λ c. f (row_of w n ∷ c)) (omega (arith, l)))
  where
    by : (b : Bool) → b ≡ false → nested (layout long w place (suc n) from) (λ c. f (row_of w n ∷ c)) ≡ f (row_of w n ∷ combined x w place (suc n) from)
        → nested (cond b long (row_of w n ∷ []) ∷ layout long w place (suc n) from) f ≡ f (cond b x (row_of w n) ∷ combined x w place (suc n) from)
    by true e h = absurd cc
    by false e h = omega (arith, h)

pub nested-layout : (long : List (List ℤ)) (w : Assignment) (place n i : ℕ) (from : List ℕ) (f : List (List ℤ) → ℕ) → place ≡ n + i → i < length from
    → nested (layout long w place n from) f ≡ sums (λ x. f (combined x w place n from)) long
unfolding sums nested
nested-layout long w place n i [] f e l = absurd (omega (arith, l))
nested-layout long w place n zero (s ∷ from) f e l = by (nat_eq n place) (place_here n place (omega (arith, e)))
  where
    by : (b : Bool) → b ≡ true → nested (cond b long (row_of w n ∷ []) ∷ layout long w place (suc n) from) f ≡ sums (λ x. f (cond b x (row_of w n) ∷ combined x w place (suc n) from)) long
    by true g = sums_same _ _ long (λ x. nested-past long x w place (suc n) from (λ c. f (x ∷ c)) (omega (arith, e)))
    by false g = absurd cc
nested-layout long w place n (suc i) (s ∷ from) f e l = by (nat_eq n place) (place_ahead n i place e) (nested-layout long w place (suc n) i from (λ c. f (row_of w n ∷ c)) (omega (arith, e)) (omega (arith, l)))
  where
    by : (b : Bool) → b ≡ false → nested (layout long w place (suc n) from) (λ c. f (row_of w n ∷ c)) ≡ sums (λ x. f (row_of w n ∷ combined x w place (suc n) from)) long
        → nested (cond b long (row_of w n ∷ []) ∷ layout long w place (suc n) from) f ≡ sums (λ x. f (cond b x (row_of w n) ∷ combined x w place (suc n) from)) long
    by true g h = absurd cc
    by false g h = omega (arith, h)

-- a row of an assignment has its values
column_of : (w : Assignment) (place c : ℕ) → c < 8 → by_column (row_of w place) c ≡ w record { stream = place; column = c }
column_of w place zero l = refl
column_of w place (suc zero) l = refl
column_of w place (suc (suc zero)) l = refl
column_of w place (suc (suc (suc zero))) l = refl
column_of w place (suc (suc (suc (suc zero)))) l = refl
column_of w place (suc (suc (suc (suc (suc zero))))) l = refl
column_of w place (suc (suc (suc (suc (suc (suc zero)))))) l = refl
column_of w place (suc (suc (suc (suc (suc (suc (suc zero))))))) l = refl
column_of w place (suc (suc (suc (suc (suc (suc (suc (suc c)))))))) l = absurd (omega (arith, l))

at-combined : (x : List ℤ) (w : Assignment) (place n i m : ℕ) (from : List ℕ) → i < length from → m ≡ n + i
    → at_place (map by_column (combined x w place n from)) i ≡ by_column (cond (nat_eq m place) x (row_of w m))
at-combined x w place n i m [] l e = absurd (omega (arith, l))
at-combined x w place n zero m (s ∷ from) l e = let f : n ≡ m = omega (arith, e) in ap (λ k. by_column (cond (nat_eq k place) x (row_of w k))) f
at-combined x w place n (suc i) m (s ∷ from) l e = at-combined x w place (suc n) i m from (omega (arith, l)) (omega (arith, e))

-- the values of v on the columns of one place, and those of u on all others
abbrev pub mixed : ℕ → Assignment → Assignment → Assignment
mixed place v u a = cond (nat_eq a.stream place) (v a) (u a)

-- such a combination, read as an assignment, is a mixed one
pub combined-is : (v u : Assignment) (place : ℕ) (from : List ℕ) (a : Attr) → a.stream < length from → a.column < 8
    → joined (map by_column (combined (row_of v place) u place 0 from)) a ≡ mixed place v u a
combined-is v u place from a l c =
    ap (λ f. f a.column) (at-combined (row_of v place) u place 0 a.stream a.stream from l (omega arith))
    ∙ by (nat_eq a.stream place) refl
  where
    by : (b : Bool) → nat_eq a.stream place ≡ b → by_column (cond b (row_of v place) (row_of u a.stream)) a.column ≡ cond b (v a) (u a)
    by true e = let g : place ≡ a.stream = grind (arith, e) in column_of v place a.column c ∙ ap (λ k. v record { stream = k; column = a.column }) g
    by false e = column_of u a.stream a.column c
