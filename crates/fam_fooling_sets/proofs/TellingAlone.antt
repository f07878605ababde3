-- Over one stream with DISTINCT, rows that are made from assignments of one part tell each set of them.
use Rattle.std.proofs.Common.{◌≡◌, ℕ, zero, suc, ◌*◌, ◌<◌, min, ◌⊎◌, inl, inr, List, [], ◌∷◌, ◌++◌, map, filter, length, not, Bool, true, false, refl, sym, ap, ◌∙◌, subst, arith, ℤ, pos, slice_index_or, Contains}
use Rattle.std.specs.List.{list_any}
use Rattle.std.proofs.lemmas.List.{length-map, map-append}
use Rattle.sem_query.specs.declared.atom.Attr.{Attr}
use Rattle.sem_query.specs.declared.condition.Condition.TheVariants.{C1}
use Rattle.sem_query.specs.Query.{QueryValue, attrs_of, IsWithinLimits}
use Rattle.sem_query.specs.Tuples.{is_same}
use Rattle.sem_query.specs.Assignment.{Assignment, Holds, holds, projected}
use Rattle.sem_query.specs.Meaning.{Arrival, rows, product, by_column, assignment_of, answers, new_answers}
use Rattle.sem_query.proofs.Has.{Has, first, Contains-from_has, Has-map, Has-filter, Has-map_from, Has-filter_from, Has-append_cases, Has-append_right}
use Rattle.sem_laws.proofs.Queries.{query_within}
use Rattle.sem_laws.proofs.Tests.{filter-passes, true_or_false, not_both, any_from, any_if}
use Rattle.sem_laws.proofs.OnePartFits.{has_cases}
use Rattle.sem_laws.proofs.Sums.{sums, bit}
use Rattle.sem_laws.proofs.Counts.{times}
use Rattle.sem_laws.proofs.Order.{same-itself, same-is, any-times, times-any}
use Rattle.sem_laws.proofs.NewAnswers.{times-new-distinct}
use Rattle.fam_fooling_sets.specs.Family.{alone, FamilyValue, marked, row_at, as_arrival, history_of, place_in, Shows, value as by_value, each}
use Rattle.fam_motions.specs.Apart.{Differ}
use Rattle.fam_fooling_sets.specs.Making.{HasSolutions}
use Rattle.fam_fooling_sets.specs.Laws.{FamiliesTellAlone}
use Rattle.fam_fooling_sets.proofs.Telling.{product-at, product-has, marked-from, marked-has, rows-own, at-row, holds-same, projected-at, satisfying}

times-none : (z : List ℤ) → times z [] ≡ 0
unfolding sums
times-none z = refl

-- a list in which no tuple stands
no-tuples : (ts : List (List ℤ)) → ((z : List ℤ) → times z ts ≡ 0) → ts ≡ []
no-tuples [] h = refl
no-tuples (t ∷ ts) h = absurd (
    let p = any-times t (t ∷ ts) (any_if (is_same t) (t ∷ ts) t first (same-itself t)) in
    let e = h t in omega (arith, p, e))

module _ (q : QueryValue) (within : IsWithinLimits q) (one : length q.from ≡ 1) (f : FamilyValue) (a : Attr) (there : a.stream < length q.from) (stream : f.stream ≡ slice_index_or q.from a.stream 0) where
  lists-at : (h : List Arrival) (place : ℕ) (e : List (List ℤ)) → place < length q.from → slice_index_or (map (rows h) q.from) place e ≡ rows h (slice_index_or q.from place 0)
  lists-at h place e l = get-map q.from place e l
    where
      get-map : (from : List ℕ) (place : ℕ) (e : List (List ℤ)) → place < length from → slice_index_or (map (rows h) from) place e ≡ rows h (slice_index_or from place 0)
      get-map [] place e l = absurd (omega (arith, l))
      get-map (x ∷ from) zero e l = refl
      get-map (x ∷ from) (suc place) e l = get-map from place e (omega (arith, l))

  here-only : (place : ℕ) → place < length q.from → a.stream ≡ place
  here-only place l = omega (arith, one, there, l)

  -- an answer over some rows is that of one of them
  record Of (xs : List (List ℤ)) (t : List ℤ) : Type 0 where
    pub row : List ℤ
    pub among : Has xs row
    pub satisfies : Holds q (assignment_of (row ∷ []))
    pub tuple : projected q (assignment_of (row ∷ [])) ≡ t

  answer-of : (xs : List (List ℤ)) (t : List ℤ) → Has (answers q (map (as_arrival f) xs)) t → Of xs t
  answer-of xs t k =
      let h = map (as_arrival f) xs in
      let m = Has-map_from (λ c. projected q (assignment_of c)) (filter (λ c. holds q (assignment_of c)) (product (map (rows h) q.from))) t k in
      let p = product-at (map (rows h) q.from) m.0 (Has-filter_from (λ c. holds q (assignment_of c)) (product (map (rows h) q.from)) m.0 m.1) in
      let c : (x : List ℤ) × (m.0 ≡ x ∷ []) = single m.0 (let s = p.size in let l = length-map q.from (rows h) in omega (arith, s, l, one)) in
      let own : Has (rows h f.stream) (slice_index_or m.0 a.stream [])
      = subst (λ ys. Has ys (slice_index_or m.0 a.stream [])) (lists-at h a.stream [] there ∙ ap (rows h) (sym stream)) (p.at a.stream [] [] (let l = length-map q.from (rows h) in omega (arith, l, there))) in
      let zero-here : a.stream ≡ 0 = omega (arith, one, there) in
      let x-is : slice_index_or m.0 a.stream [] ≡ c.0 = ap (λ (n : ℕ). slice_index_or m.0 n []) zero-here ∙ ap (λ (z : List (List ℤ)). slice_index_or z 0 []) c.1 in
      record {
        row = c.0;
        among = subst (λ x. Has xs x) x-is (subst (λ ys. Has ys (slice_index_or m.0 a.stream [])) (rows-own f xs) own);
        satisfies = subst (λ z. Holds q (assignment_of z)) c.1 (filter-passes (λ c. holds q (assignment_of c)) (product (map (rows h) q.from)) m.0 m.1);
        tuple = ap (λ z. projected q (assignment_of z)) (sym c.1) ∙ m.2;
      }
    where
      single : (c : List (List ℤ)) → length c ≡ 1 → (x : List ℤ) × (c ≡ x ∷ [])
      single [] e = absurd (omega (arith, e))
      single (x ∷ []) e = (x, refl)
      single (x ∷ y ∷ c) e = absurd (omega (arith, e))

  of-answer : (xs : List (List ℤ)) (x : List ℤ) → Has xs x → Holds q (assignment_of (x ∷ [])) → Has (answers q (map (as_arrival f) xs)) (projected q (assignment_of (x ∷ [])))
  of-answer xs x k good =
      let h = map (as_arrival f) xs in
      Has-map (λ c. projected q (assignment_of c)) (Has-filter (λ c. holds q (assignment_of c)) good (product-has (map (rows h) q.from) (x ∷ []) record {
        size = (let l = length-map q.from (rows h) in omega (arith, l, one));
        at = λ place d e l.
            let w : place < length q.from = (let s = length-map q.from (rows h) in omega (arith, s, l)) in
            let z : place ≡ 0 = omega (arith, w, one) in
            let s : slice_index_or q.from place 0 ≡ f.stream = ap (λ (n : ℕ). slice_index_or q.from n 0) (sym (here-only place w)) ∙ sym stream in
            subst (λ ys. Has ys (slice_index_or (x ∷ []) place d)) (sym (lists-at h place e w ∙ ap (rows h) s ∙ rows-own f xs))
            (subst (λ (n : ℕ). Has xs (slice_index_or (x ∷ []) n d)) (sym z) k);
      }))

  module _ (d : q.distinct ≡ true) (n : ℕ) (size : length f.rows ≡ n) (chosen : Contains q.select a) (made : HasSolutions q a.stream n f) (apart : Differ n made.at a) (marks : List Bool) (i : ℕ) (below : i < n) where
    abbrev h : List Arrival
    h = history_of f marks

    abbrev r : Arrival
    r = as_arrival f (row_at f i)

    more : h ++ r ∷ [] ≡ map (as_arrival f) (marked marks f.rows ++ row_at f i ∷ [])
    more = sym (map-append (as_arrival f) (marked marks f.rows) (row_at f i ∷ []))

    -- a row of the family is read as its assignment
    reads : (j : ℕ) → j < n → (b : Attr) → Contains (attrs_of q.atoms) b ⊎ Contains q.select b → assignment_of (row_at f j ∷ []) b ≡ made.at j b
    reads j l b read =
        let k : b.stream < length q.from = elim read [ inl c ↦ (query_within q within).atoms b c | inr c ↦ (query_within q within).select b c ] in
        let z : b.stream ≡ 0 = omega (arith, k, one) in
        at-row (row_at f j ∷ []) b.stream b.column (omega (arith, z))
        ∙ ap (λ (m : ℕ). by_column (slice_index_or (row_at f j ∷ []) m []) b.column) z
        ∙ (made.rows j l).here b (sym (here-only b.stream k)) read

    good : (j : ℕ) → j < n → Holds q (assignment_of (row_at f j ∷ []))
    good j l = holds-same q (made.at j) (assignment_of (row_at f j ∷ [])) (λ b k. sym (reads j l b (inl (Contains-from_has (attrs_of q.atoms) b k)))) (made.holds j l)

    counts : (z : List ℤ) → times z (new_answers q h r) ≡ bit (not (list_any (is_same z) (answers q h))) * min 1 (times z (answers q (h ++ r ∷ [])))
    counts z = times-new-distinct q h r z d

    stands : (ts : List (List ℤ)) (z : List ℤ) → Has ts z → list_any (is_same z) ts ≡ true
    stands ts z k = any_if (is_same z) ts z k (same-itself z)

    -- a row that came before is answered nothing new
    old : slice_index_or marks i false ≡ true → new_answers q h r ≡ []
    old mark = no-tuples (new_answers q h r) (λ z. counts z ∙ by z (list_any (is_same z) (answers q h)) refl)
      where
        by : (z : List ℤ) (t : Bool) → list_any (is_same z) (answers q h) ≡ t → bit (not t) * min 1 (times z (answers q (h ++ r ∷ []))) ≡ 0
        by z true e = omega arith
        by z false e = elim (none_or (times z (answers q (h ++ r ∷ [])))) [
          | inl o ↦ ap (λ (m : ℕ). 1 * min 1 m) o ∙ omega arith
          | inr o ↦ absurd (
              let w = any_from (is_same z) (answers q (h ++ r ∷ [])) (times-any z (answers q (h ++ r ∷ [])) o) in
              let same : z ≡ w.0 = same-is z w.0 w.2 in
              let u = answer-of (marked marks f.rows ++ row_at f i ∷ []) w.0 (subst (λ g. Has (answers q g) w.0) more w.1) in
              let k : Has (marked marks f.rows) u.row = elim (Has-append_cases (marked marks f.rows) (row_at f i ∷ []) u.row u.among) [
                | inl m ↦ m
                | inr m ↦ elim (has_cases (row_at f i) u.row [] m) [
                  | inl x ↦ subst (λ y. Has (marked marks f.rows) y) x (marked-has marks f.rows i [] (omega (arith, below, size)) mark)
                  | inr x ↦ elim x [ ]
                ]
              ] in
              let there : Has (answers q h) z = subst (λ y. Has (answers q h) y) (u.tuple ∙ sym same) (of-answer (marked marks f.rows) u.row k u.satisfies) in
              not_both (list_any (is_same z) (answers q h)) (stands (answers q h) z there) e)
        ]
          where
            none_or : (m : ℕ) → (m ≡ 0) ⊎ (0 < m)
            none_or zero = inl refl
            none_or (suc m) = inr (omega arith)

    -- another is
    new : slice_index_or marks i false ≡ false → new_answers q h r ≡ [] → ⊥
    new mark none =
        let z : List ℤ = projected q (assignment_of (row_at f i ∷ [])) in
        let now : Has (answers q (h ++ r ∷ [])) z
        = subst (λ g. Has (answers q g) z) (sym more) (of-answer (marked marks f.rows ++ row_at f i ∷ []) (row_at f i) (Has-append_right (marked marks f.rows) first) (good i below)) in
        let p : 0 < times z (answers q (h ++ r ∷ [])) = any-times z (answers q (h ++ r ∷ [])) (stands (answers q (h ++ r ∷ [])) z now) in
        let fresh : list_any (is_same z) (answers q h) ≡ false = elim (true_or_false (list_any (is_same z) (answers q h))) [
          | inr e ↦ e
          | inl e ↦ absurd (
              let w = any_from (is_same z) (answers q h) e in
              let u = answer-of (marked marks f.rows) w.0 w.1 in
              let m = marked-from marks f.rows u.row u.among in
              let l : m.0 < n = (let k = m.1 in omega (arith, k, size)) in
              let same : projected q (assignment_of (row_at f m.0 ∷ [])) ≡ z = ap (λ x. projected q (assignment_of (x ∷ []))) (m.3 []) ∙ u.tuple ∙ sym (same-is z w.0 w.2) in
              let value : made.at m.0 a ≡ made.at i a
              = sym (reads m.0 l a (inr chosen)) ∙ sym (in-tuple (assignment_of (row_at f m.0 ∷ []))) ∙ ap (λ (ts : List ℤ). slice_index_or ts (place_in q.select a) (pos 0)) same
              ∙ in-tuple (assignment_of (row_at f i ∷ [])) ∙ reads i below a (inr chosen) in
              not_both (slice_index_or marks i false) (ap (λ (x : ℕ). slice_index_or marks x false) (sym (apart m.0 i l below value)) ∙ m.2) mark)
        ] in
        let c : times z (new_answers q h r) ≡ 1 * min 1 (times z (answers q (h ++ r ∷ []))) = counts z ∙ ap (λ t. bit (not t) * min 1 (times z (answers q (h ++ r ∷ [])))) fresh in
        let nothing : times z (new_answers q h r) ≡ 0 = ap (times z) none ∙ times-none z in
        omega (arith, c, nothing, p)
      where
        in-tuple : (v : Assignment) → slice_index_or (projected q v) (place_in q.select a) (pos 0) ≡ v a
        in-tuple v = projected-at a q.select v chosen

    pub tells-alone : (slice_index_or marks i false ≡ true → Shows q a f marks i C1) × (Shows q a f marks i C1 → slice_index_or marks i false ≡ true)
    tells-alone = (λ mark. alone one (old mark), λ shows. back shows)
      where
        back : Shows q a f marks i C1 → slice_index_or marks i false ≡ true
        back (alone o e) = elim (true_or_false (slice_index_or marks i false)) [ inl t ↦ t | inr t ↦ absurd (new t e) ]
        back (by_value k t c e) = absurd (omega (arith, k, one))

pub families-tell-alone : FamiliesTellAlone
families-tell-alone q s a n f within one d there chosen stream size many asks made = record {
  stream = stream;
  size = size;
  many = many;
  asks = asks;
  tells = each (λ marks long i below. tells-alone q within one f a there stream d n size chosen (satisfying q s a n f made) made.apart marks i below);
}
