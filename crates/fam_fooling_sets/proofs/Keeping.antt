-- Whatever keeps too little is wrong after some set of a family's rows.
use Rattle.std.proofs.Common.{◌≡◌, ℕ, zero, suc, ◌*◌, ◌+◌, ◌<◌, min, inl, inr, nat_eq, ◌==◌, List, [], ◌∷◌, ◌++◌, map, length, not, Bool, true, false, refl, sym, ap, ◌∙◌, subst, arith, ℤ, slice_index_or, append_assoc}
use Rattle.std.specs.List.{list_any}
use Rattle.std.proofs.lemmas.Bool.Decides.{nat_tests}
use Rattle.std.proofs.lemmas.List.{length-map}
use Rattle.sem_query.specs.declared.atom.Attr.{Attr}
use Rattle.sem_query.specs.declared.condition.Condition.{Condition}
use Rattle.sem_query.specs.declared.condition.Condition.TheVariants.{C1, C2, C3}
use Rattle.sem_query.specs.Query.{QueryValue, IsWithinLimits}
use Rattle.sem_query.specs.Tuples.{is_same}
use Rattle.sem_query.specs.Assignment.{holds, projected}
use Rattle.sem_query.specs.Meaning.{Arrival, rows, product, assignment_of, answers, new_answers}
use Rattle.sem_query.proofs.Has.{Has, first, Has-from_contains, Contains-from_has, Has-map, Has-filter, Has-map_from, Has-filter_from, Has-append_left}
use Rattle.sem_laws.proofs.Tests.{filter-passes, true_or_false, not_both, any_from, any_if, append-nothing}
use Rattle.sem_laws.proofs.Sums.{bit}
use Rattle.sem_laws.proofs.Queries.{query_within}
use Rattle.sem_laws.proofs.Counts.{times}
use Rattle.sem_laws.proofs.Order.{same-itself, same-is, any-times, times-any}
use Rattle.sem_laws.proofs.NewAnswers.{none-times, times-new-plain, times-new-distinct}
use Rattle.fam_fooling_sets.specs.Family.{alone, FamilyValue, row_at, asking_at, as_arrival, history_of, Shows, value as by_value, some, any, each, counts, Tells, AreToldApart, Asks, itself, others, IsFamily, marked}
use Rattle.fam_fooling_sets.specs.Worth.{Keeper, IsWrong, FamiliesNeedStates}
use Rattle.fam_fooling_sets.proofs.Lengths.{new-length}
use Rattle.fam_fooling_sets.proofs.Telling.{product-at, product-has, InProduct, rows-joined, rows-other}
use Rattle.fam_fooling_sets.proofs.Collisions.{Collision, collide, all_marks, length-marks, marks-long, Differs, differ, before-left, before-right}

stands : (ts : List (List ℤ)) (t : List ℤ) → Has ts t → list_any (is_same t) ts ≡ true
stands ts t k = any_if (is_same t) ts t k (same-itself t)

stood : (ts : List (List ℤ)) (t : List ℤ) → list_any (is_same t) ts ≡ true → Has ts t
stood ts t e = let w = any_from (is_same t) ts e in subst (λ y. Has ts y) (sym (same-is t w.0 w.2)) w.1

pub get-map : {X Y : Type 0} (g : X → Y) (xs : List X) (i : ℕ) (d : X) (e : Y) → i < length xs → slice_index_or (map g xs) i e ≡ g (slice_index_or xs i d)
get-map g [] i d e l = absurd (omega (arith, l))
get-map g (x ∷ xs) zero d e l = refl
get-map g (x ∷ xs) (suc i) d e l = get-map g xs i d e (omega (arith, l))

module _ (q : QueryValue) where
  -- answers stay
  answers-stay : (h more : List Arrival) (t : List ℤ) → Has (answers q h) t → Has (answers q (h ++ more)) t
  answers-stay h more t k =
      let m = Has-map_from (λ c. projected q (assignment_of c)) _ t k in
      let c : Has (product (map (rows h) q.from)) m.0 = Has-filter_from (λ c. holds q (assignment_of c)) (product (map (rows h) q.from)) m.0 m.1 in
      let good : holds q (assignment_of m.0) ≡ true = filter-passes (λ c. holds q (assignment_of c)) (product (map (rows h) q.from)) m.0 m.1 in
      let p : InProduct (map (rows h) q.from) m.0 = product-at (map (rows h) q.from) m.0 c in
      subst (λ y. Has (answers q (h ++ more)) y) m.2
      (Has-map (λ c. projected q (assignment_of c)) (Has-filter (λ c. holds q (assignment_of c)) good (product-has (map (rows (h ++ more)) q.from) m.0 (wider m.0 p))))
    where
      wider : (c : List (List ℤ)) → InProduct (map (rows h) q.from) c → InProduct (map (rows (h ++ more)) q.from) c
      wider c p = record {
        size = p.size ∙ length-map q.from (rows h) ∙ sym (length-map q.from (rows (h ++ more)));
        at = λ place d e l.
            let w : place < length q.from = (let s = length-map q.from (rows (h ++ more)) in omega (arith, s, l)) in
            let a : slice_index_or (map (rows h) q.from) place e ≡ rows h (slice_index_or q.from place 0) = get-map (rows h) q.from place 0 e w in
            let b : slice_index_or (map (rows (h ++ more)) q.from) place e ≡ rows (h ++ more) (slice_index_or q.from place 0) = get-map (rows (h ++ more)) q.from place 0 e w in
            let k : Has (rows h (slice_index_or q.from place 0)) (slice_index_or c place d)
            = subst (λ xs. Has xs (slice_index_or c place d)) a (p.at place d e (let s = length-map q.from (rows h) in omega (arith, s, w))) in
            subst (λ xs. Has xs (slice_index_or c place d)) (sym b)
            (subst (λ xs. Has xs (slice_index_or c place d)) (sym (rows-joined h more (slice_index_or q.from place 0))) (Has-append_left (rows more (slice_index_or q.from place 0)) k));
      }

  -- a tuple that becomes an answer is answered
  is-new : (h : List Arrival) (r : Arrival) (t : List ℤ) → list_any (is_same t) (answers q h) ≡ false → list_any (is_same t) (answers q (h ++ r ∷ [])) ≡ true
      → list_any (is_same t) (new_answers q h r) ≡ true
  is-new h r t before now =
      let p : 0 < times t (answers q (h ++ r ∷ [])) = any-times t (answers q (h ++ r ∷ [])) now in
      let z : times t (answers q h) ≡ 0 = none-times t (answers q h) before in
      times-any t (new_answers q h r) (elim (true_or_false q.distinct) [
        | inl d ↦ (
            let c : times t (new_answers q h r) ≡ 1 * min 1 (times t (answers q (h ++ r ∷ []))) = times-new-distinct q h r t d ∙ ap (λ b. bit (not b) * min 1 (times t (answers q (h ++ r ∷ [])))) before in
            omega (arith, c, p))
        | inr d ↦ (let c = times-new-plain q h r t d in omega (arith, c, p, z))
      ])

  -- and what is answered is an answer
  new-answer : (h : List Arrival) (r : Arrival) (t : List ℤ) → list_any (is_same t) (new_answers q h r) ≡ true → list_any (is_same t) (answers q (h ++ r ∷ [])) ≡ true
  new-answer h r t e =
      let p : 0 < times t (new_answers q h r) = any-times t (new_answers q h r) e in
      times-any t (answers q (h ++ r ∷ [])) (elim (true_or_false q.distinct) [
        | inl d ↦ counted (times t (answers q (h ++ r ∷ []))) (list_any (is_same t) (answers q h)) (let c = times-new-distinct q h r t d in subst (λ n. 0 < n) c p)
        | inr d ↦ (let c = times-new-plain q h r t d in omega (arith, c, p))
      ])
    where
      counted : (n : ℕ) (b : Bool) → 0 < bit (not b) * min 1 n → 0 < n
      counted n true l = absurd (omega (arith, l))
      counted n false l = omega (arith, l)

  -- the row that first answers a tuple
  record First (h asked : List Arrival) (t : List ℤ) : Type 0 where
    pub since : List Arrival
    pub row : Arrival
    pub behind : List Arrival
    pub whole : asked ≡ since ++ row ∷ behind
    pub new : list_any (is_same t) (new_answers q (h ++ since) row) ≡ true

  one-on : (h since : List Arrival) (r : Arrival) (rest : List Arrival) (t : List ℤ) → list_any (is_same t) (answers q (h ++ since)) ≡ false
      → list_any (is_same t) (answers q (h ++ (since ++ r ∷ rest))) ≡ true
      → (list_any (is_same t) (answers q (h ++ (since ++ r ∷ []))) ≡ false → list_any (is_same t) (answers q (h ++ ((since ++ r ∷ []) ++ rest))) ≡ true → First h ((since ++ r ∷ []) ++ rest) t)
      → (b : Bool) → list_any (is_same t) (answers q ((h ++ since) ++ r ∷ [])) ≡ b → First h (since ++ r ∷ rest) t
  one-on h since r rest t before now f true e = record { since = since; row = r; behind = rest; whole = refl; new = is-new (h ++ since) r t before e }
  one-on h since r rest t before now f false e =
      let longer : (since ++ r ∷ []) ++ rest ≡ since ++ r ∷ rest = append_assoc since (r ∷ []) rest in
      let one : list_any (is_same t) (answers q (h ++ (since ++ r ∷ []))) ≡ false = ap (λ g. list_any (is_same t) (answers q g)) (sym (append_assoc h since (r ∷ []))) ∙ e in
      let all : list_any (is_same t) (answers q (h ++ ((since ++ r ∷ []) ++ rest))) ≡ true = ap (λ g. list_any (is_same t) (answers q (h ++ g))) longer ∙ now in
      subst (λ g. First h g t) longer (f one all)

  first-new : (h since rest : List Arrival) (t : List ℤ) → list_any (is_same t) (answers q (h ++ since)) ≡ false
      → list_any (is_same t) (answers q (h ++ (since ++ rest))) ≡ true → First h (since ++ rest) t
  first-new h since [] t before now =
      absurd (not_both _ now (ap (λ g. list_any (is_same t) (answers q (h ++ g))) (append-nothing since) ∙ before))
  first-new h since (r ∷ rest) t before now =
      one-on h since r rest t before now (λ one all. first-new h (since ++ r ∷ []) rest t one all) (list_any (is_same t) (answers q ((h ++ since) ++ r ∷ []))) refl

  module _ (condition : Condition) (a : Attr) (n : ℕ) (f : FamilyValue) (within : IsWithinLimits q) (family : IsFamily q condition a n f) where
    -- over several streams the rows of one alone have no answers
    none-yet : 1 < length q.from → (marks : List Bool) (t : List ℤ) → list_any (is_same t) (answers q (history_of f marks)) ≡ false
    none-yet several marks t = elim (true_or_false (list_any (is_same t) (answers q (history_of f marks)))) [
      | inr e ↦ e
      | inl e ↦ absurd (
          let m = Has-map_from (λ c. projected q (assignment_of c)) _ t (stood (answers q (history_of f marks)) t e) in
          let p = product-at (map (rows (history_of f marks)) q.from) m.0 (Has-filter_from (λ c. holds q (assignment_of c)) (product (map (rows (history_of f marks)) q.from)) m.0 m.1) in
          elim (true_or_false (f.stream == slice_index_or q.from 0 0)) [
            | inr o ↦ empty 0 (omega (arith, several)) m.0 p o
            | inl o ↦ empty 1 several m.0 p (elim (true_or_false (f.stream == slice_index_or q.from 1 0)) [
              | inr g ↦ g
              | inl g ↦ absurd (within.different 0 1 0 (omega arith) several (same f.stream (slice_index_or q.from 0 0) (slice_index_or q.from 1 0) o g))
            ])
          ])
    ]
      where
        same : (x y z : ℕ) → (x == y) ≡ true → (x == z) ≡ true → y ≡ z
        same x y z o g = grind (arith, o, g, nat_tests)

        empty : (place : ℕ) → place < length q.from → (c : List (List ℤ)) → InProduct (map (rows (history_of f marks)) q.from) c
            → (f.stream == slice_index_or q.from place 0) ≡ false → ⊥
        empty place l c p e =
            let k = p.at place [] [] (let s = length-map q.from (rows (history_of f marks)) in omega (arith, s, l)) in
            let g = get-map (rows (history_of f marks)) q.from place 0 [] l ∙ rows-other f (slice_index_or q.from place 0) (marked marks f.rows) e in
            let z : Has [] (slice_index_or c place []) = subst (λ xs. Has xs (slice_index_or c place [])) g k in
            elim z [ ]

    module _ (e : Keeper) (left right : List Bool) (long_left : length left ≡ n) (long_right : length right ≡ n) (same : e.keeps (history_of f left) ≡ e.keeps (history_of f right))
        (i : ℕ) (below : i < n) where
      -- a tuple that is an answer after the rows of the one set and not after those of the other
      by-tuple : 1 < length q.from → (t : List ℤ) → Has (answers q (history_of f left ++ asking_at f i)) t → (Has (answers q (history_of f right ++ asking_at f i)) t → ⊥) → IsWrong q n f e
      by-tuple several t k lacks = by (list_any (is_same t) (e.says (e.keeps (history_of f left)) r.since r.row)) refl
        where
          r : First (history_of f left) (asking_at f i) t
          r = first-new (history_of f left) [] (asking_at f i) t (ap (λ g. list_any (is_same t) (answers q g)) (append-nothing (history_of f left)) ∙ none-yet several left t) (stands (answers q (history_of f left ++ asking_at f i)) t k)

          whole : (history_of f right ++ r.since) ++ r.row ∷ r.behind ≡ history_of f right ++ asking_at f i
          whole = append_assoc (history_of f right) r.since (r.row ∷ r.behind) ∙ ap (λ g. history_of f right ++ g) (sym r.whole)

          absent : list_any (is_same t) (new_answers q (history_of f right ++ r.since) r.row) ≡ true → ⊥
          absent z =
              let x : Has (answers q ((history_of f right ++ r.since) ++ r.row ∷ [])) t = stood (answers q ((history_of f right ++ r.since) ++ r.row ∷ [])) t (new-answer (history_of f right ++ r.since) r.row t z) in
              let y : Has (answers q (((history_of f right ++ r.since) ++ r.row ∷ []) ++ r.behind)) t = answers-stay ((history_of f right ++ r.since) ++ r.row ∷ []) r.behind t x in
              lacks (subst (λ g. Has (answers q g) t) (append_assoc (history_of f right ++ r.since) (r.row ∷ []) r.behind ∙ whole) y)

          by : (b : Bool) → list_any (is_same t) (e.says (e.keeps (history_of f left)) r.since r.row) ≡ b → IsWrong q n f e
          by true o = record {
            marks = right;
            size = long_right;
            number = i;
            below = below;
            since = r.since;
            row = r.row;
            behind = r.behind;
            asks = r.whole;
            wrong = λ z. absent (sym (ap (list_any (is_same t)) z) ∙ ap (λ s. list_any (is_same t) (e.says s r.since r.row)) (sym same) ∙ o);
          }
          by false o = record {
            marks = left;
            size = long_left;
            number = i;
            below = below;
            since = r.since;
            row = r.row;
            behind = r.behind;
            asks = r.whole;
            wrong = λ z. not_both _ r.new (sym (ap (list_any (is_same t)) z) ∙ o);
          }

      -- nothing new after the rows of the one set, and something after those of the other
      by-row : length q.from ≡ 1 → new_answers q (history_of f left) (as_arrival f (row_at f i)) ≡ [] → (new_answers q (history_of f right) (as_arrival f (row_at f i)) ≡ [] → ⊥) → IsWrong q n f e
      by-row one none some_new = by (e.says (e.keeps (history_of f left)) [] (as_arrival f (row_at f i))) refl
        where
          asked : asking_at f i ≡ [] ++ as_arrival f (row_at f i) ∷ []
          asked = at (family.asks i below)
            where
              at : Asks q f i → asking_at f i ≡ as_arrival f (row_at f i) ∷ []
              at (itself o g) = g
              at (others l g) = absurd (omega (arith, one, l))

          by : (said : List (List ℤ)) → e.says (e.keeps (history_of f left)) [] (as_arrival f (row_at f i)) ≡ said → IsWrong q n f e
          by [] o = record {
            marks = right;
            size = long_right;
            number = i;
            below = below;
            since = [];
            row = as_arrival f (row_at f i);
            behind = [];
            asks = asked;
            wrong = λ z. some_new (ap (λ g. new_answers q g (as_arrival f (row_at f i))) (sym (append-nothing (history_of f right))) ∙ sym z ∙ ap (λ s. e.says s [] (as_arrival f (row_at f i))) (sym same) ∙ o);
          }
          by (x ∷ said) o = record {
            marks = left;
            size = long_left;
            number = i;
            below = below;
            since = [];
            row = as_arrival f (row_at f i);
            behind = [];
            asks = asked;
            wrong = λ z. nothing x said (sym o ∙ z ∙ ap (λ g. new_answers q g (as_arrival f (row_at f i))) (append-nothing (history_of f left)) ∙ none);
          }
            where
              nothing : (x : List ℤ) (xs : List (List ℤ)) → x ∷ xs ≡ [] → ⊥
              nothing x xs z = cc

      by-shows : slice_index_or right i false ≡ false → (Shows q a f right i condition → slice_index_or right i false ≡ true) → Shows q a f left i condition → IsWrong q n f e
      by-shows out told shows = at condition refl shows (λ s. not_both _ (told s) out)
        where
          at : (c : Condition) → c ≡ condition → Shows q a f left i c → (Shows q a f right i c → ⊥) → IsWrong q n f e
          at C1 o (alone one none) lacks = by-row one none (λ g. lacks (alone one g))
          at C1 o (by_value several t c v) lacks =
              by-tuple several t (Has-from_contains (answers q (history_of f left ++ asking_at f i)) t c) (λ k. lacks (by_value several t (Contains-from_has (answers q (history_of f right ++ asking_at f i)) t k) v))
          at C2 o (some several t c) lacks =
              by-tuple several t (Has-from_contains (answers q (history_of f left ++ asking_at f i)) t c) (λ k. lacks (some several t (Contains-from_has (answers q (history_of f right ++ asking_at f i)) t k)))
          at C3 o (any several t c) lacks =
              by-tuple several t (Has-from_contains (answers q (history_of f left ++ asking_at f i)) t c) (λ k. lacks (any several t (Contains-from_has (answers q (history_of f right ++ asking_at f i)) t k)))

    -- numbers of answers that differ
    module _ (e : Keeper) (left right : List Bool) (long_left : length left ≡ n) (long_right : length right ≡ n) (same : e.keeps (history_of f left) ≡ e.keeps (history_of f right))
        (several : 1 < length q.from) (plain : q.distinct ≡ false) (apart : AreToldApart q n f left right) where
      no-answers : (marks : List Bool) → length (answers q (history_of f marks ++ [])) ≡ 0
      no-answers marks = ap (λ h. length (answers q h)) (append-nothing (history_of f marks)) ∙ empty (answers q (history_of f marks)) (none-yet several marks)
        where
          empty : (ts : List (List ℤ)) → ((t : List ℤ) → list_any (is_same t) ts ≡ false) → length ts ≡ 0
          empty [] h = refl
          empty (t ∷ ts) h = absurd (not_both _ (stands (t ∷ ts) t first) (h t))

      -- a row that is answered so many tuples after the one set, and another number after the other
      wrong-row : (since : List Arrival) (r : Arrival) (rest : List Arrival) → asking_at f apart.number ≡ since ++ r ∷ rest
          → (length (new_answers q (history_of f left ++ since) r) ≡ length (new_answers q (history_of f right ++ since) r) → ⊥) → IsWrong q n f e
      wrong-row since r rest asked differ = by (nat_eq (length said) (length (new_answers q (history_of f left ++ since) r))) refl
        where
          said : List (List ℤ)
          said = e.says (e.keeps (history_of f left)) since r

          by : (b : Bool) → nat_eq (length said) (length (new_answers q (history_of f left ++ since) r)) ≡ b → IsWrong q n f e
          by true o = record {
            marks = right;
            size = long_right;
            number = apart.number;
            below = apart.below;
            since = since;
            row = r;
            behind = rest;
            asks = asked;
            wrong = λ z. differ (sym (as_number _ _ o) ∙ ap (λ k. length (e.says k since r)) same ∙ ap length z);
          }
            where
              as_number : (x y : ℕ) → nat_eq x y ≡ true → x ≡ y
              as_number x y h = grind (arith, h, nat_tests)
          by false o = record {
            marks = left;
            size = long_left;
            number = apart.number;
            below = apart.below;
            since = since;
            row = r;
            behind = rest;
            asks = asked;
            wrong = λ z. other _ _ o (ap length z);
          }
            where
              other : (x y : ℕ) → nat_eq x y ≡ false → x ≡ y → ⊥
              other x y h g = grind (arith, h, g, nat_tests)

      -- along the rows that ask, the numbers differ somewhere
      walk : (since rest : List Arrival) → asking_at f apart.number ≡ since ++ rest
          → length (answers q (history_of f left ++ since)) ≡ length (answers q (history_of f right ++ since)) → IsWrong q n f e
      walk since [] asked alike =
          absurd (apart.differ (let o : asking_at f apart.number ≡ since = asked ∙ append-nothing since in
          ap (λ h. length (answers q (history_of f left ++ h))) o ∙ alike ∙ sym (ap (λ h. length (answers q (history_of f right ++ h))) o)))
      walk since (r ∷ rest) asked alike =
          by (nat_eq (length (new_answers q (history_of f left ++ since) r)) (length (new_answers q (history_of f right ++ since) r))) refl
          (λ k. walk (since ++ r ∷ []) rest (asked ∙ sym (append_assoc since (r ∷ []) rest)) k)
        where
          one-on : (marks : List Bool) → length (answers q (history_of f marks ++ (since ++ r ∷ []))) ≡ length (answers q (history_of f marks ++ since)) + length (new_answers q (history_of f marks ++ since) r)
          one-on marks = ap (λ h. length (answers q h)) (sym (append_assoc (history_of f marks) since (r ∷ []))) ∙ new-length q (query_within q within) plain (history_of f marks ++ since) r

          by : (b : Bool) → nat_eq (length (new_answers q (history_of f left ++ since) r)) (length (new_answers q (history_of f right ++ since) r)) ≡ b
              → (length (answers q (history_of f left ++ (since ++ r ∷ []))) ≡ length (answers q (history_of f right ++ (since ++ r ∷ []))) → IsWrong q n f e) → IsWrong q n f e
          by true o go = go (let g = as_number _ _ o in let x = one-on left in let y = one-on right in omega (arith, alike, g, x, y))
            where
              as_number : (x y : ℕ) → nat_eq x y ≡ true → x ≡ y
              as_number x y h = grind (arith, h, nat_tests)
          by false o go = wrong-row since r rest asked (other _ _ o)
            where
              other : (x y : ℕ) → nat_eq x y ≡ false → x ≡ y → ⊥
              other x y h g = grind (arith, h, g, nat_tests)

      by-counts : IsWrong q n f e
      by-counts = walk [] (asking_at f apart.number) refl (no-answers left ∙ sym (no-answers right))

pub families-need-states : FamiliesNeedStates
families-need-states q condition a n f within family e k few less =
    let c : Collision (λ marks. e.keeps (history_of f marks)) (all_marks n)
    = collide k (λ marks. e.keeps (history_of f marks)) (all_marks n) (λ marks h. few (history_of f marks)) (omega (arith, less, length-marks n)) in
    let d : Differs n c.left c.right = differ n c.left c.right c.before in
    let l : length c.left ≡ n = marks-long n c.left (before-left c.before) in
    let r : length c.right ≡ n = marks-long n c.right (before-right c.before) in
    at family.tells c d l r
  where
    at : Tells q condition a n f → (c : Collision (λ marks. e.keeps (history_of f marks)) (all_marks n)) → Differs n c.left c.right → length c.left ≡ n → length c.right ≡ n → IsWrong q n f e
    at (each tells) c d l r =
        by-shows q condition a n f within family e c.left c.right l r c.same d.number d.below d.outside (tells c.right r d.number d.below).1 ((tells c.left l d.number d.below).0 d.inside)
    at (counts third plain several apart) c d l r =
        by-counts q condition a n f within family e c.left c.right l r c.same several plain (apart c.left c.right l r (λ o.
        not_both _ d.inside (ap (λ bs. slice_index_or bs d.number false) o ∙ d.outside)))
