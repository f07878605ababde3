-- Two histories of which each can give a row in place of each row of the other, in each combination, are answered alike for good.
use Rattle.std.proofs.Common.{◌≡◌, ℕ, zero, suc, ◌+◌, ◌*◌, min, ◌<◌, inl, inr, ℤ, nat_eq, List, [], ◌∷◌, ◌++◌, map, filter, length, not, slice_index_or, Bool, true, false, if◌then◌else◌, refl, sym, ap, ◌∙◌, subst, arith}
use Rattle.sem_query.specs.declared.atom.Attr.{Attr}
use Rattle.sem_query.specs.Query.{QueryValue, IsWithinLimits}
use Rattle.std.specs.List.{list_any}
use Rattle.sem_query.specs.Assignment.{Assignment, holds, Holds, KeepsDomains, projected}
use Rattle.sem_query.specs.Domains.{RowKeeps, RowsKeep}
use Rattle.sem_query.specs.Meaning.{Arrival, rows, product, by_column, at_place, assignment_of, answers, new_answers}
use Rattle.sem_query.specs.Tuples.{is_same}
use Rattle.sem_query.proofs.Has.{Has, first, Has-nil, Has-map, Has-map_from, Has-append_left, Has-append_right, Has-append_cases, Has-filter, Has-filter_from, Has-filter_holds, Has-flat_map, Has-flat_map_from}
use Rattle.sem_laws.proofs.Tests.{nat_true, any_from, any_if, same_bool}
use Rattle.sem_laws.proofs.OnePartFits.{has_cases}
use Rattle.sem_laws.proofs.Queries.{query_within}
use Rattle.sem_laws.proofs.Sums.{bit}
use Rattle.sem_laws.proofs.Counts.{times}
use Rattle.sem_laws.proofs.Order.{any-times, times-any, same-itself, same-is}
use Rattle.sem_laws.proofs.Keeping.{history-keeps, combination-keeps, row-keeps, rows-keep, rows-more-keep}
use Rattle.sem_laws.proofs.Merge.{rows-append}
use Rattle.sem_laws.proofs.NewAnswers.{times-new-distinct, is_new}
use Rattle.sem_lower_bounds.proofs.Possible.{Possible, possible, followed}

-- the assignment with the values of a row at a place
abbrev pub replaced : ℕ → (ℕ → ℤ) → Assignment → Assignment
replaced place w v a = if nat_eq a.stream place then w a.column else v a

-- with them it satisfies the query within its domains, and has the same tuple
pub record Serves (q : QueryValue) (place : ℕ) (v : Assignment) (w : ℕ → ℤ) : Type 0 where
  pub holds : Holds q (replaced place w v)
  pub domains : KeepsDomains q (replaced place w v)
  pub tuple : projected q (replaced place w v) ≡ projected q v

-- for each row of h in an assignment that satisfies the query within its domains some row of g serves
abbrev pub Covers : QueryValue → List Arrival → List Arrival → Type 0
Covers q h g =
    (place : ℕ) → place < length q.from → (row : List ℤ) → Has (rows h (slice_index_or q.from place 0)) row
    → (v : Assignment) → Holds q v → KeepsDomains q v → ((a : Attr) → a.stream ≡ place → v a ≡ by_column row a.column)
    → Possible ((other : List ℤ) × Has (rows g (slice_index_or q.from place 0)) other × Serves q place v (by_column other))

-- the values at the place of a row of a combination
here_at : (pre c : List (List ℤ)) (x : List ℤ) (place column : ℕ) → place ≡ length pre → at_place (map by_column (pre ++ x ∷ c)) place column ≡ by_column x column
here_at [] c x zero k e = refl
here_at [] c x (suc place) k e = absurd (omega (arith, e))
here_at (z ∷ pre) c x zero k e = absurd (omega (arith, e))
here_at (z ∷ pre) c x (suc place) k e = here_at pre c x place k (omega (arith, e))

-- those elsewhere
else_at : (pre c : List (List ℤ)) (x y : List ℤ) (place column : ℕ) → (place ≡ length pre → ⊥)
    → at_place (map by_column (pre ++ x ∷ c)) place column ≡ at_place (map by_column (pre ++ y ∷ c)) place column
else_at [] c x y zero k n = absurd (n refl)
else_at [] c x y (suc place) k n = refl
else_at (z ∷ pre) c x y zero k n = refl
else_at (z ∷ pre) c x y (suc place) k n = else_at pre c x y place k (λ e. n (ap suc e))

-- a row in the place of another of a combination
put : (pre c : List (List ℤ)) (x y : List ℤ) (a : Attr) → replaced (length pre) (by_column y) (assignment_of (pre ++ x ∷ c)) a ≡ assignment_of (pre ++ y ∷ c) a
put pre c x y a = by (nat_eq a.stream (length pre)) refl
  where
    by : (b : Bool) → nat_eq a.stream (length pre) ≡ b → (if b then by_column y a.column else assignment_of (pre ++ x ∷ c) a) ≡ assignment_of (pre ++ y ∷ c) a
    by true e = sym (here_at pre c y a.stream a.column (nat_true a.stream (length pre) e))
    by false e = else_at pre c x y a.stream a.column (λ f. grind (arith, e, f))

after_put : (pre c : List (List ℤ)) (y : List ℤ) → (pre ++ y ∷ []) ++ c ≡ pre ++ y ∷ c
after_put [] c y = refl
after_put (z ∷ pre) c y = ap (λ (l : List (List ℤ)). z ∷ l) (after_put pre c y)

put_length : (pre : List (List ℤ)) (y : List ℤ) → length (pre ++ y ∷ []) ≡ suc (length pre)
put_length [] y = refl
put_length (z ∷ pre) y = ap suc (put_length pre y)

decided : (n : ℕ) → Possible (0 < n) → 0 < n
decided zero p = absurd (p (λ l. omega (arith, l)))
decided (suc n) p = omega arith

has_times : (z : List ℤ) (ts : List (List ℤ)) → 0 < times z ts → Has ts z
has_times z ts l = let r = any_from (is_same z) ts (times-any z ts l) in subst (Has ts) (sym (same-is z r.0 r.2)) r.1

times_has : (z : List ℤ) (ts : List (List ℤ)) → Has ts z → 0 < times z ts
times_has z ts h = any-times z ts (any_if (is_same z) ts z h (same-itself z))

one_or_none : (m n : ℕ) → (0 < m → 0 < n) → (0 < n → 0 < m) → min 1 m ≡ min 1 n
one_or_none zero zero f g = refl
one_or_none zero (suc n) f g = absurd (omega (arith, g (omega arith)))
one_or_none (suc m) zero f g = absurd (omega (arith, f (omega arith)))
one_or_none (suc m) (suc n) f g = omega arith

module _ (q : QueryValue) where
  -- it satisfies the query within its domains and has the tuple
  record Gives (z : List ℤ) (v : Assignment) : Type 0 where
    holds : Holds q v
    domains : KeepsDomains q v
    tuple : projected q v ≡ z

  gives_over : (z : List ℤ) (place : ℕ) (v : Assignment) (w : ℕ → ℤ) → Gives z v → Serves q place v w → Gives z (replaced place w v)
  gives_over z place v w g s = record { holds = s.holds; domains = s.domains; tuple = s.tuple ∙ g.tuple }

  -- row by row from the left
  exchanged : (g h : List Arrival) → Covers q g h → (z : List ℤ) (from : List ℕ) (pre c : List (List ℤ))
      → length pre + length from ≡ length q.from
      → ((i place : ℕ) → place ≡ length pre + i → i < length from → slice_index_or q.from place 0 ≡ slice_index_or from i 0)
      → Has (product (map (rows g) from)) c → Gives z (assignment_of (pre ++ c))
      → Possible ((d : List (List ℤ)) × Has (product (map (rows h) from)) d × Gives z (assignment_of (pre ++ d)))
  exchanged g h gh z [] pre c l at i v = elim (has_cases [] c [] i) [
    | inl e ↦ possible ([], first, subst (λ c. Gives z (assignment_of (pre ++ c))) (sym e) v)
    | inr k ↦ Has-nil k
  ]
  exchanged g h gh z (s ∷ from) pre c l at i v =
      let m = Has-flat_map_from (λ x. map (λ o. x ∷ o) (product (map (rows g) from))) (rows g s) c i in
      let o = Has-map_from (λ o. m.0 ∷ o) (product (map (rows g) from)) c m.2 in
      let e : slice_index_or q.from (length pre) 0 ≡ s = at 0 (length pre) (omega arith) (omega arith) in
      let u : Gives z (assignment_of (pre ++ m.0 ∷ o.0)) = subst (λ c. Gives z (assignment_of (pre ++ c))) (sym o.2) v in
      followed (gh (length pre) (omega (arith, l)) m.0 (subst (λ s. Has (rows g s) m.0) (sym e) m.1) (assignment_of (pre ++ m.0 ∷ o.0)) u.holds u.domains
      (λ a f. here_at pre o.0 m.0 a.stream a.column f)) (λ r.
      let same : replaced (length pre) (by_column r.0) (assignment_of (pre ++ m.0 ∷ o.0)) ≡ assignment_of ((pre ++ r.0 ∷ []) ++ o.0)
      = (λ j a. put pre o.0 m.0 r.0 a j) ∙ ap assignment_of (sym (after_put pre o.0 r.0)) in
      followed (exchanged g h gh z from (pre ++ r.0 ∷ []) o.0
      (let f = put_length pre r.0 in omega (arith, l, f))
      (λ j place f k. at (suc j) place (let n = put_length pre r.0 in omega (arith, f, n)) (omega (arith, k)))
      o.1
      (subst (Gives z) same (gives_over z (length pre) (assignment_of (pre ++ m.0 ∷ o.0)) (by_column r.0) u r.2))) (λ t. possible (
        r.0 ∷ t.0,
        Has-flat_map (λ x. map (λ o. x ∷ o) (product (map (rows h) from))) (rows h s) r.0 (r.0 ∷ t.0) (subst (λ s. Has (rows h s) r.0) e r.1) (Has-map (λ o. r.0 ∷ o) t.1),
        subst (λ c. Gives z (assignment_of c)) (after_put pre t.0 r.0) t.2,
      )))

  -- a row that both histories have serves itself
  covers_more : (g h ahead : List Arrival) → Covers q g h → Covers q (g ++ ahead) (h ++ ahead)
  covers_more g h ahead gh place l row i v holds keeps at =
      elim (Has-append_cases (rows g s) (rows ahead s) row (subst (λ xs. Has xs row) (rows-append g ahead s) i)) [
        | inl k ↦ followed (gh place l row k v holds keeps at) (λ r. possible (r.0, subst (λ xs. Has xs r.0) (sym (rows-append h ahead s)) (Has-append_left (rows ahead s) r.1), r.2))
        | inr k ↦ possible (
          row,
          subst (λ xs. Has xs row) (sym (rows-append h ahead s)) (Has-append_right (rows h s) k),
          record {
            holds = subst (Holds q) same holds;
            domains = subst (KeepsDomains q) same keeps;
            tuple = ap (projected q) (sym same);
          },
        )
      ]
    where
      s : ℕ
      s = slice_index_or q.from place 0

      by : (a : Attr) (b : Bool) → nat_eq a.stream place ≡ b → v a ≡ (if b then by_column row a.column else v a)
      by a true e = at a (nat_true a.stream place e)
      by a false e = refl

      same : v ≡ replaced place (by_column row) v
      same = λ j a. by a (nat_eq a.stream place) refl j

  module _ (within : IsWithinLimits q) where
    found : (g h : List Arrival) → RowsKeep q g → Covers q g h → (z : List ℤ) → Has (answers q g) z → Possible (Has (answers q h) z)
    found g h keep gh z i =
        let m = Has-map_from (λ c. projected q (assignment_of c)) (filter (λ c. holds q (assignment_of c)) (product (map (rows g) q.from))) z i in
        let k : Has (product (map (rows g) q.from)) m.0 = Has-filter_from (λ c. holds q (assignment_of c)) (product (map (rows g) q.from)) m.0 m.1 in
        let v : Gives z (assignment_of m.0) = record {
          holds = Has-filter_holds (λ c. holds q (assignment_of c)) (product (map (rows g) q.from)) m.0 m.1;
          domains = combination-keeps q (query_within q within) (rows g) (history-keeps q g keep) m.0 k;
          tuple = m.2;
        } in
        followed (exchanged g h gh z q.from [] m.0 (omega arith) (λ i place e l. ap (λ n. slice_index_or q.from n 0) (let f : place ≡ i = omega (arith, e) in f)) k v) (λ r. possible
        (subst (Has (answers q h)) r.2.tuple (Has-map (λ c. projected q (assignment_of c)) (Has-filter (λ c. holds q (assignment_of c)) r.2.holds r.1))))

    found_times : (g h : List Arrival) → RowsKeep q g → Covers q g h → (z : List ℤ) → 0 < times z (answers q g) → 0 < times z (answers q h)
    found_times g h keep gh z l = decided (times z (answers q h)) (followed (found g h keep gh z (has_times z (answers q g) l)) (λ i. possible (times_has z (answers q h) i)))

    found_same : (g h : List Arrival) → RowsKeep q g → RowsKeep q h → Covers q g h → Covers q h g → (z : List ℤ)
        → list_any (is_same z) (answers q g) ≡ list_any (is_same z) (answers q h)
    found_same g h keep_g keep_h gh hg z =
        same_bool _ _
        (λ e. times-any z (answers q h) (found_times g h keep_g gh z (any-times z (answers q g) e)))
        (λ e. times-any z (answers q g) (found_times h g keep_h hg z (any-times z (answers q h) e)))

    new_same : q.distinct ≡ true → (g h : List Arrival) (r : Arrival) → RowsKeep q g → RowsKeep q h → RowKeeps q r → Covers q g h → Covers q h g
        → new_answers q g r ≡ new_answers q h r
    new_same d g h r keep_g keep_h keep_r gh hg = sym (is_new q g r (new_answers q g r) (λ z. refl)) ∙ is_new q h r (new_answers q g r) each
      where
        more_g : RowsKeep q (g ++ r ∷ [])
        more_g = rows-more-keep q g r keep_g keep_r

        more_h : RowsKeep q (h ++ r ∷ [])
        more_h = rows-more-keep q h r keep_h keep_r

        each : (z : List ℤ) → times z (new_answers q g r) ≡ times z (new_answers q h r)
        each z =
            times-new-distinct q g r z d
            ∙ ap (λ b. bit (not b) * min 1 (times z (answers q (g ++ r ∷ [])))) (found_same g h keep_g keep_h gh hg z)
            ∙ ap (λ n. bit (not (list_any (is_same z) (answers q h))) * n) (one_or_none _ _
            (found_times (g ++ r ∷ []) (h ++ r ∷ []) more_g (covers_more g h (r ∷ []) gh) z)
            (found_times (h ++ r ∷ []) (g ++ r ∷ []) more_h (covers_more h g (r ∷ []) hg) z))
            ∙ sym (times-new-distinct q h r z d)

all_keep : (q : QueryValue) (g ahead : List Arrival) → RowsKeep q g → RowsKeep q ahead → RowsKeep q (g ++ ahead)
all_keep q g ahead i j = rows-keep q (g ++ ahead) (λ r k. elim (Has-append_cases g ahead r k) [ inl m ↦ row-keeps q g i r m | inr m ↦ row-keeps q ahead j r m ])

pub covered-alike : (q : QueryValue) → IsWithinLimits q → q.distinct ≡ true → (g h : List Arrival) → RowsKeep q g → RowsKeep q h → Covers q g h → Covers q h g
    → (later : List Arrival) (r : Arrival) → RowsKeep q later → RowKeeps q r → new_answers q (g ++ later) r ≡ new_answers q (h ++ later) r
covered-alike q within d g h keep_g keep_h gh hg ahead r keep_l keep_r =
    new_same q within d (g ++ ahead) (h ++ ahead) r (all_keep q g ahead keep_g keep_l) (all_keep q h ahead keep_h keep_l) keep_r
    (covers_more q g h ahead gh) (covers_more q h g ahead hg)
