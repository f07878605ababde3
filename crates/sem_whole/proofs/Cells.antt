-- The answers over the rows of two histories with the same cells.
use Rattle.std.proofs.Common.{◌≡◌, ℕ, zero, suc, ◌+◌, ◌*◌, min, ◌<◌, inl, inr, List, [], ◌∷◌, ◌++◌, map, filter, length, not, Bool, true, false, ◌&&◌, refl, sym, ap, ◌∙◌, subst, arith, ℤ, ◌≤ℤ◌, slice_index_or}
use Rattle.std.proofs.lemmas.Int.{ints}
use Rattle.std.proofs.lemmas.List.{length-map}
use Rattle.std.proofs.lemmas.List.Elements.{filter-append}
use Rattle.std.specs.List.{list_all, list_any}
use Rattle.sem_query.specs.declared.atom.Attr.{Attr}
use Rattle.sem_query.specs.declared.atom.Element.{Element}
use Rattle.sem_query.specs.declared.atom.Element.TheVariants as element
use Rattle.sem_query.specs.declared.plan.Kind.{Kind}
use Rattle.sem_query.specs.Query.{QueryValue}
use Rattle.sem_query.specs.Assignment.{Assignment, value, compares, meets, holds, projected, KeepsDomains}
use Rattle.sem_query.specs.Domains.{RowKeeps, RowsKeep}
use Rattle.sem_query.specs.Meaning.{Arrival, rows, by_column, at_place, joined, answers, new_answers}
use Rattle.sem_query.specs.Tuples.{is_same}
use Rattle.sem_query.specs.Cells.{least, greatest, content}
use Rattle.sem_query.specs.Merge.{merged}
use Rattle.sem_query.proofs.Has.{Has, first, later, Has-nil, Has-filter, Has-filter_from, Has-filter_holds, Has-append_cases, Contains-from_has, same_at, same_map}
use Rattle.sem_laws.proofs.Tests.{and-left, and-right, and-both, all_at, all_if, same_bool, true_or_false, not_both}
use Rattle.sem_laws.proofs.OnePartFits.{has_cases}
use Rattle.sem_laws.proofs.Queries.{IsQuery}
use Rattle.sem_laws.proofs.Sums.{sums_bits, bit, bit-and, nested, nested_same_in, nested_passing, passes, passing}
use Rattle.sem_laws.proofs.Counts.{times, times-answers, gives}
use Rattle.sem_laws.proofs.Extremes.{least-is, least-low, least-below, greatest-is, greatest-high, greatest-above}
use Rattle.sem_laws.proofs.Order.{any-times, times-any, same-itself, same-is}
use Rattle.sem_laws.proofs.Keeping.{history-keeps, combination-keeps, row-keeps, rows-keep, rows-more-keep}
use Rattle.sem_laws.proofs.Merge.{content-append, rows-append}
use Rattle.sem_laws.proofs.NewAnswers.{times-new-plain, times-new-distinct, is_new}
use Rattle.sem_whole.specs.System.{IsOf, MeetsLocal}
use Rattle.sem_whole.specs.Ranges.{kept}
use Rattle.sem_whole.specs.Whole.{IsWholeKind, Form, RowMeets, IsWholeForm, key_of, admitted_rows, rows_of_key, cell_at, SameCells}
use Rattle.sem_whole.specs.Laws.{MeetsWhole, CountsDecide, CellsDecide, WholeFutureIsDetermined}
use Rattle.sem_whole.specs.Signed.{IsWellFormed}
use Rattle.sem_whole.proofs.Formed.{query_formed}
use Rattle.sem_whole.proofs.Suffice.{links_suffice}
use Rattle.sem_whole.proofs.Stands.{StandsFor, link_over, selected_over}
use Rattle.sem_whole.proofs.Matched.{Match, Partners, Pairs, nested_matched, nested_partnered, over_passing, match_if}

-- local conditions see the columns of their stream alone
pub local_alike : (q : QueryValue) (place : ℕ) (v w : Assignment) → ((a : Attr) → a.stream ≡ place → v a ≡ w a) → MeetsLocal q place v → MeetsLocal q place w
local_alike q place v w same m = record {
  bounds = λ x y c i j b. (let k = m.bounds x y c i j b in let e = at x i in let f = at y j in omega (arith, ints, k, e, f));
  unequal = λ t h e i j. (let k : compares t.op (value t.left v) (value t.right v) ≡ true = m.unequal t h e i j in
      subst (λ y. compares t.op (value t.left w) y ≡ true) (at t.right j) (subst (λ x. compares t.op x (value t.right v) ≡ true) (at t.left i) k));
}
  where
    at : (e : Element) → IsOf place e → value e v ≡ value e w
    at (element.Attr a) i = same a i
    at (element.Const k) i = refl

-- a row at its place of a combination
pub row_local : (q : QueryValue) (c : List (List ℤ)) (place : ℕ) (v : ℕ → ℤ) → at_place (map by_column c) place ≡ v → RowMeets q place v → MeetsLocal q place (joined (map by_column c))
row_local q c place v e = local_alike q place (λ a. v a.column) (joined (map by_column c)) (λ a i. ap (λ u. u a.column) (sym e ∙ ap (at_place (map by_column c)) (sym i)))

pub local_row : (q : QueryValue) (c : List (List ℤ)) (place : ℕ) (v : ℕ → ℤ) → at_place (map by_column c) place ≡ v → MeetsLocal q place (joined (map by_column c)) → RowMeets q place v
local_row q c place v e = local_alike q place (joined (map by_column c)) (λ a. v a.column) (λ a i. ap (λ u. u a.column) (ap (at_place (map by_column c)) i ∙ e))

-- a combination passes where each of its rows does
module _ (t : ℕ → List ℤ → Bool) where
  pub passes_at : (n : ℕ) (c : List (List ℤ)) → passes t n c ≡ true → (i m : ℕ) → m ≡ n + i → i < length c
      → (x : List ℤ) × (at_place (map by_column c) i ≡ by_column x) × (t m x ≡ true)
  passes_at n [] h i m e l = absurd (omega (arith, l))
  passes_at n (x ∷ c) h zero m e l = let f : n ≡ m = omega (arith, e) in (x, refl, subst (λ k. t k x ≡ true) f (and-left _ _ h))
  passes_at n (x ∷ c) h (suc i) m e l = passes_at (suc n) c (and-right (t n x) _ h) i m (omega (arith, e)) (omega (arith, l))

  pub passes_if : (n : ℕ) (c : List (List ℤ)) → ((i m : ℕ) (x : List ℤ) → m ≡ n + i → i < length c → at_place (map by_column c) i ≡ by_column x → t m x ≡ true) → passes t n c ≡ true
  passes_if n [] h = refl
  passes_if n (x ∷ c) h = and-both _ _ (h 0 n x (omega arith) (omega arith) refl) (passes_if (suc n) c (λ i m y e l f. h (suc i) m y (omega (arith, e)) (omega (arith, l)) f))

-- a row whose extreme is no worse
abbrev pub NoWorse : Kind → List ℤ → List ℤ → Type 0
NoWorse Kind.Count x y = Unit {0}
NoWorse Kind.Present x y = Unit {0}
NoWorse (Kind.Least e) x y = by_column y e.column ≤ℤ by_column x e.column
NoWorse (Kind.Greatest e) x y = by_column x e.column ≤ℤ by_column y e.column

-- of two lists of rows with the same cell, each row of the one has a row of the other that is no worse
pub partner : (k : Kind) (xs ys : List (List ℤ)) → content k xs ≡ content k ys → (x : List ℤ) → Has xs x → (y : List ℤ) × Has ys y × NoWorse k x y
partner k [] ys e x h = Has-nil h
partner Kind.Count (x0 ∷ xs) [] e x h = absurd cc
partner Kind.Present (x0 ∷ xs) [] e x h = absurd cc
partner (Kind.Least a) (x0 ∷ xs) [] e x h = absurd cc
partner (Kind.Greatest a) (x0 ∷ xs) [] e x h = absurd cc
partner Kind.Count (x0 ∷ xs) (y ∷ ys) e x h = (y, first, tt)
partner Kind.Present (x0 ∷ xs) (y ∷ ys) e x h = (y, first, tt)
partner (Kind.Least a) (x0 ∷ xs) (y ∷ ys) e x h =
    let same : least a (by_column x0 a.column) xs ≡ least a (by_column y a.column) ys = cc in
    let low : least a (by_column x0 a.column) xs ≤ℤ by_column x a.column
    = elim (has_cases x0 x xs h) [
      | inl f ↦ subst (λ u. least a (by_column x0 a.column) xs ≤ℤ by_column u a.column) f (least-low a (by_column x0 a.column) xs)
      | inr k ↦ least-below a (by_column x0 a.column) xs x k
    ] in
    elim (least-is a (by_column y a.column) ys) [
      | inl i ↦ (y, first, omega (arith, ints, low, same, i))
      | inr o ↦ (o.0, later o.1, (let i = o.2 in omega (arith, ints, low, same, i)))
    ]
partner (Kind.Greatest a) (x0 ∷ xs) (y ∷ ys) e x h =
    let same : greatest a (by_column x0 a.column) xs ≡ greatest a (by_column y a.column) ys = cc in
    let high : by_column x a.column ≤ℤ greatest a (by_column x0 a.column) xs
    = elim (has_cases x0 x xs h) [
      | inl f ↦ subst (λ u. by_column u a.column ≤ℤ greatest a (by_column x0 a.column) xs) f (greatest-high a (by_column x0 a.column) xs)
      | inr k ↦ greatest-above a (by_column x0 a.column) xs x k
    ] in
    elim (greatest-is a (by_column y a.column) ys) [
      | inl i ↦ (y, first, omega (arith, ints, high, same, i))
      | inr o ↦ (o.0, later o.1, (let i = o.2 in omega (arith, ints, high, same, i)))
    ]

pub same_length : (xs ys : List (List ℤ)) → content Kind.Count xs ≡ content Kind.Count ys → length xs ≡ length ys
same_length [] [] e = refl
same_length [] (y ∷ ys) e = absurd cc
same_length (x ∷ xs) [] e = absurd cc
same_length (x ∷ xs) (y ∷ ys) e = let n : suc (length xs) ≡ suc (length ys) = cc in omega (arith, n)

module _ (q : QueryValue) (within : IsWellFormed q) (f : Form) (is : IsWholeForm q f) where
  well : IsQuery q
  well = query_formed q within

  abbrev admits_row : ℕ → List ℤ → Bool
  admits_row n row = f.admits n (by_column row)

  -- the second row can stand for the first
  record RowStands (n : ℕ) (x y : List ℤ) : Type 0 where
    pub first : f.admits n (by_column x) ≡ true
    pub second : f.admits n (by_column y) ≡ true
    pub key : key_of (f.keeps n) (by_column x) ≡ key_of (f.keeps n) (by_column y)
    pub worse : NoWorse (f.keeps n).kind x y

  -- what a combination of admitted rows gives
  abbrev linked : List ℤ → List (List ℤ) → ℕ
  linked z c = bit (list_all (meets (joined (map by_column c))) f.links) * bit (is_same z (projected q (joined (map by_column c))))

  -- the condition holds exactly where each row is admitted and the links hold
  holds_as : (c : List (List ℤ)) → length c ≡ length q.from → KeepsDomains q (joined (map by_column c))
      → holds q (joined (map by_column c)) ≡ (passes admits_row 0 c && list_all (meets (joined (map by_column c))) f.links)
  holds_as c e keeps = same_bool _ _ onto from
    where
      v : Assignment
      v = joined (map by_column c)

      onto : holds q (joined (map by_column c)) ≡ true → (passes admits_row 0 c && list_all (meets (joined (map by_column c))) f.links) ≡ true
      onto h =
          let m : MeetsWhole q f.links (joined (map by_column c)) = (links_suffice q within f.links is.links (joined (map by_column c))).0 (h, keeps) in
          and-both _ _
          (passes_if admits_row 0 c (λ i n x g l o.
          (let b : n < length q.from = omega (arith, g, l, e) in
          let k : i ≡ n = omega (arith, g) in
          (is.admits n b (by_column x)).1 (local_row q c n (by_column x) (ap (at_place (map by_column c)) (sym k) ∙ o) (m.local n b)))))
          (all_if (meets (joined (map by_column c))) f.links m.linked)

      from : (passes admits_row 0 c && list_all (meets (joined (map by_column c))) f.links) ≡ true → holds q (joined (map by_column c)) ≡ true
      from h =
          ((links_suffice q within f.links is.links (joined (map by_column c))).1 record {
            local = λ place b. (let r = passes_at admits_row 0 c (and-left _ _ h) place place (omega arith) (omega (arith, b, e)) in
                row_local q c place (by_column r.0) r.1 ((is.admits place b (by_column r.0)).0 r.2));
            linked = λ t i. all_at (meets (joined (map by_column c))) f.links t (and-right (passes admits_row 0 c) _ h) i;
          }).0

  -- how often a tuple is answered: over admitted rows, by the links
  times_linked : (h : List Arrival) → RowsKeep q h → (z : List ℤ) → times z (answers q h) ≡ nested (passing admits_row 0 (map (rows h) q.from)) (linked z)
  times_linked h keep z =
      times-answers q z h
      ∙ nested_same_in (map (rows h) q.from) (λ c. gives q z (map by_column c)) (λ c. bit (passes admits_row 0 c) * linked z c)
      (λ c i e. one c (e ∙ length-map q.from (rows h)) (combination-keeps q well (rows h) (history-keeps q h keep) c i))
      ∙ nested_passing admits_row 0 (map (rows h) q.from) (linked z)
    where
      times_out : (a b m : ℕ) → (a * b) * m ≡ a * (b * m)
      times_out a b m = omega arith

      one : (c : List (List ℤ)) → length c ≡ length q.from → KeepsDomains q (joined (map by_column c)) → gives q z (map by_column c) ≡ bit (passes admits_row 0 c) * linked z c
      one c e k =
          let m : ℕ = bit (is_same z (projected q (joined (map by_column c)))) in
          ap (λ b. bit b * m) (holds_as c e k)
          ∙ ap (λ n. n * m) (bit-and (passes admits_row 0 c) (list_all (meets (joined (map by_column c))) f.links))
          ∙ times_out (bit (passes admits_row 0 c)) (bit (list_all (meets (joined (map by_column c))) f.links)) m

  -- read off at a place
  pairs_at : (n : ℕ) (c d : List (List ℤ)) → Pairs RowStands n c d → (i m : ℕ) → m ≡ n + i → i < length c
      → (x : List ℤ) × (y : List ℤ) × (at_place (map by_column c) i ≡ by_column x) × (at_place (map by_column d) i ≡ by_column y) × RowStands m x y
  pairs_at n [] d p i m e l = absurd (omega (arith, l))
  pairs_at n (x ∷ c) [] p i m e l = absurd p
  pairs_at n (x ∷ c) (y ∷ d) p zero m e l = let g : n ≡ m = omega (arith, e) in (x, y, refl, refl, subst (λ k. RowStands k x y) g p.0)
  pairs_at n (x ∷ c) (y ∷ d) p (suc i) m e l = pairs_at (suc n) c d p.1 i m (omega (arith, e)) (omega (arith, l))

  -- a combination can stand for another where its rows can
  stands_for : (c d : List (List ℤ)) → length c ≡ length q.from → Pairs RowStands 0 c d → StandsFor q f (joined (map by_column c)) (joined (map by_column d))
  stands_for c d e p = record {
    first = λ place l. (let r = at place l in row_local q c place (by_column r.0) r.2 ((is.admits place l (by_column r.0)).0 r.4.first));
    second = λ place l. (let r = at place l in row_local q d place (by_column r.1) r.3 ((is.admits place l (by_column r.1)).0 r.4.second));
    same = λ place l k h. (let r = at place l in let s : k.attr.stream ≡ place = (is.serves place l).stream k h in
        let g : kept k.range (by_column r.0 k.attr.column) ≡ kept k.range (by_column r.1 k.attr.column)
        = same_at (λ d. kept d.range (by_column r.0 d.attr.column)) (λ d. kept d.range (by_column r.1 d.attr.column)) r.4.key h in
        ap (kept k.range) (value_at c place (by_column r.0) r.2 k.attr s) ∙ g ∙ sym (ap (kept k.range) (value_at d place (by_column r.1) r.3 k.attr s)));
    low = λ place l k g. (let r = at place l in let w : NoWorse (Kind.Least k) r.0 r.1 = subst (λ o. NoWorse o r.0 r.1) g r.4.worse in
        let s : k.stream ≡ place = (subst (IsWholeKind q f.links place) g (is.serves place l).kind).1 in
        let i = value_at c place (by_column r.0) r.2 k s in let j = value_at d place (by_column r.1) r.3 k s in omega (arith, ints, w, i, j));
    high = λ place l k g. (let r = at place l in let w : NoWorse (Kind.Greatest k) r.0 r.1 = subst (λ o. NoWorse o r.0 r.1) g r.4.worse in
        let s : k.stream ≡ place = (subst (IsWholeKind q f.links place) g (is.serves place l).kind).1 in
        let i = value_at c place (by_column r.0) r.2 k s in let j = value_at d place (by_column r.1) r.3 k s in omega (arith, ints, w, i, j));
  }
    where
      at : (place : ℕ) → place < length q.from
          → (x : List ℤ) × (y : List ℤ) × (at_place (map by_column c) place ≡ by_column x) × (at_place (map by_column d) place ≡ by_column y) × RowStands place x y
      at place l = pairs_at 0 c d p place place (omega arith) (omega (arith, l, e))

      value_at : (c : List (List ℤ)) (place : ℕ) (v : ℕ → ℤ) → at_place (map by_column c) place ≡ v → (a : Attr) → a.stream ≡ place → joined (map by_column c) a ≡ v a.column
      value_at c place v e a s = ap (λ u. u a.column) (ap (at_place (map by_column c)) s ∙ e)

  links_over : (c d : List (List ℤ)) → length c ≡ length q.from → Pairs RowStands 0 c d → list_all (meets (joined (map by_column c))) f.links ≡ true → list_all (meets (joined (map by_column d))) f.links ≡ true
  links_over c d e p h =
      all_if (meets (joined (map by_column d))) f.links (λ t i. link_over q well f is (joined (map by_column c)) (joined (map by_column d)) (stands_for c d e p) t i (all_at (meets (joined (map by_column c))) f.links t h i))

  tuple_over : (c d : List (List ℤ)) → length c ≡ length q.from → Pairs RowStands 0 c d → projected q (joined (map by_column c)) ≡ projected q (joined (map by_column d))
  tuple_over c d e p =
      same_map (joined (map by_column c)) (joined (map by_column d)) q.select
      (λ a k. selected_over q well f is (joined (map by_column c)) (joined (map by_column d)) (stands_for c d e p) a (Contains-from_has q.select a k))

  gives_on : (a b : Bool) (s t : Bool) → (a ≡ true → b ≡ true) → s ≡ t → 0 < bit a * bit s → 0 < bit b * bit t
  gives_on true b true t i e h = let j : bit b ≡ 1 = ap bit (i refl) in let k : bit t ≡ 1 = ap bit (sym e) in let m : bit b * bit t ≡ 1 * 1 = ap (λ n. n * bit t) j ∙ ap (λ n. 1 * n) k in omega (arith, m)
  gives_on true b false t i e h = absurd (omega (arith, h))
  gives_on false b s t i e h = absurd (omega (arith, h))

  linked_on : (z : List ℤ) (c d : List (List ℤ)) → length c ≡ length q.from → Pairs RowStands 0 c d → 0 < linked z c → 0 < linked z d
  linked_on z c d e p h = gives_on _ _ _ _ (links_over c d e p) (ap (is_same z) (tuple_over c d e p)) h

  lengths : (h : List Arrival) (c : List (List ℤ)) → length c ≡ length (passing admits_row 0 (map (rows h) q.from)) → length c ≡ length q.from
  lengths h c e = e ∙ passing_length 0 q.from
    where
      passing_length : (n : ℕ) (from : List ℕ) → length (passing admits_row n (map (rows h) from)) ≡ length from
      passing_length n [] = refl
      passing_length n (s ∷ from) = let r = passing_length (suc n) from in omega (arith, r)

  -- rows with the same cell
  row_partners : (g h : List Arrival) → SameCells q f g h → (n : ℕ) → n < length q.from → Partners RowStands n (admitted_rows q f g n) (admitted_rows q f h n)
  row_partners g h same n l x i =
      let key : List ℤ = key_of (f.keeps n) (by_column x) in
      let r : (y : List ℤ) × Has (rows_of_key q f h n key) y × NoWorse (f.keeps n).kind x y
      = partner (f.keeps n).kind (rows_of_key q f g n key) (rows_of_key q f h n key) (same n l key) x
      (Has-filter (λ row. is_same key (key_of (f.keeps n) (by_column row))) (same-itself key) i) in
      let j : Has (admitted_rows q f h n) r.0 = Has-filter_from (λ row. is_same key (key_of (f.keeps n) (by_column row))) (admitted_rows q f h n) r.0 r.1 in (
        r.0,
        j,
        record {
          first = Has-filter_holds (admits_row n) _ x i;
          second = Has-filter_holds (admits_row n) _ r.0 j;
          key = same-is key (key_of (f.keeps n) (by_column r.0)) (Has-filter_holds (λ row. is_same key (key_of (f.keeps n) (by_column row))) (admitted_rows q f h n) r.0 r.1);
          worse = r.2;
        },
      )

  found_over : (g h : List Arrival) → RowsKeep q g → RowsKeep q h → SameCells q f g h → (z : List ℤ) → 0 < times z (answers q g) → 0 < times z (answers q h)
  found_over g h keep_g keep_h same z l =
      subst (λ n. 0 < n) (sym (times_linked h keep_h z))
      (nested_partnered RowStands 0 (passing admits_row 0 (map (rows g) q.from)) (passing admits_row 0 (map (rows h) q.from)) (linked z) (linked z)
      (over_passing RowStands (Partners RowStands) admits_row (rows g) (rows h) 0 q.from
      (λ i m e b. (let k : i ≡ m = omega (arith, e) in
      subst (λ j. Partners RowStands m (filter (admits_row m) (rows g (slice_index_or q.from j 0))) (filter (admits_row m) (rows h (slice_index_or q.from j 0)))) (sym k)
      (row_partners g h same m (subst (λ j. j < length q.from) k b)))))
      (λ c d e p. linked_on z c d (lengths g c e) p)
      (subst (λ n. 0 < n) (times_linked g keep_g z) l))

  found_same : (g h : List Arrival) → RowsKeep q g → RowsKeep q h → SameCells q f g h → (z : List ℤ) → list_any (is_same z) (answers q g) ≡ list_any (is_same z) (answers q h)
  found_same g h keep_g keep_h same z =
      same_bool _ _
      (λ e. times-any z (answers q h) (found_over g h keep_g keep_h same z (any-times z (answers q g) e)))
      (λ e. times-any z (answers q g) (found_over h g keep_h keep_g (λ p l k. sym (same p l k)) z (any-times z (answers q h) e)))

  -- without DISTINCT cells are counts
  kind_is : (n : ℕ) (k : Kind) → q.distinct ≡ false → IsWholeKind q f.links n k → k ≡ Kind.Count
  kind_is n Kind.Count d w = refl
  kind_is n Kind.Present d w = absurd (not_both q.distinct w d)
  kind_is n (Kind.Least e) d w = absurd (not_both q.distinct w.0 d)
  kind_is n (Kind.Greatest e) d w = absurd (not_both q.distinct w.0 d)

  row_matches : (g h : List Arrival) → q.distinct ≡ false → SameCells q f g h → (n : ℕ) → n < length q.from → Match RowStands n (admitted_rows q f g n) (admitted_rows q f h n)
  row_matches g h d same n l =
      match_if RowStands n key P
      (λ x y i j e. record { first = i; second = j; key = e; worse = subst (λ k. NoWorse k x y) (sym counts) tt })
      (admitted_rows q f g n) (admitted_rows q f h n) (λ x i. Has-filter_holds (admits_row n) _ x i) (λ x i. Has-filter_holds (admits_row n) _ x i)
      (λ k. sums_bits (λ x. is_same k (key x)) (admitted_rows q f g n)
      ∙ same_length (rows_of_key q f g n k) (rows_of_key q f h n k)
      (subst (λ o. content o (rows_of_key q f g n k) ≡ content o (rows_of_key q f h n k)) counts (same n l k))
      ∙ sym (sums_bits (λ x. is_same k (key x)) (admitted_rows q f h n)))
    where
      key : List ℤ → List ℤ
      key x = key_of (f.keeps n) (by_column x)

      P : List ℤ → Type 0
      P x = f.admits n (by_column x) ≡ true

      counts : (f.keeps n).kind ≡ Kind.Count
      counts = kind_is n (f.keeps n).kind d (is.serves n l).kind

  -- where only counts are kept, each of two rows can stand for the other
  turn : q.distinct ≡ false → (n : ℕ) (c d : List (List ℤ)) → n + length c ≡ length q.from → Pairs RowStands n c d → Pairs RowStands n d c
  turn e n [] [] l p = tt
  turn e n [] (y ∷ d) l p = absurd p
  turn e n (x ∷ c) [] l p = absurd p
  turn e n (x ∷ c) (y ∷ d) l p = (
    record { first = p.0.second; second = p.0.first; key = sym p.0.key; worse = subst (λ k. NoWorse k y x) (sym (kind_is n (f.keeps n).kind e (is.serves n (omega (arith, l))).kind)) tt },
    turn e (suc n) c d (omega (arith, l)) p.1,
  )

  pairs_length : (n : ℕ) (c d : List (List ℤ)) → Pairs RowStands n c d → length c ≡ length d
  pairs_length n [] [] p = refl
  pairs_length n [] (y ∷ d) p = absurd p
  pairs_length n (x ∷ c) [] p = absurd p
  pairs_length n (x ∷ c) (y ∷ d) p = let r = pairs_length (suc n) c d p.1 in omega (arith, r)

  linked_same : (z : List ℤ) (c d : List (List ℤ)) → q.distinct ≡ false → length c ≡ length q.from → Pairs RowStands 0 c d → linked z c ≡ linked z d
  linked_same z c d o e p =
      let g : length d ≡ length q.from = sym (pairs_length 0 c d p) ∙ e in
      let a : list_all (meets (joined (map by_column c))) f.links ≡ list_all (meets (joined (map by_column d))) f.links
      = same_bool _ _ (links_over c d e p) (links_over d c g (turn o 0 c d (omega (arith, e)) p)) in
      ap (λ b. bit b * bit (is_same z (projected q (joined (map by_column c))))) a
      ∙ ap (λ t. bit (list_all (meets (joined (map by_column d))) f.links) * bit (is_same z t)) (tuple_over c d e p)

  times_same : (g h : List Arrival) → RowsKeep q g → RowsKeep q h → q.distinct ≡ false → SameCells q f g h → (z : List ℤ) → times z (answers q g) ≡ times z (answers q h)
  times_same g h keep_g keep_h d same z =
      times_linked g keep_g z
      ∙ nested_matched RowStands 0 (passing admits_row 0 (map (rows g) q.from)) (passing admits_row 0 (map (rows h) q.from)) (linked z) (linked z)
      (over_passing RowStands (Match RowStands) admits_row (rows g) (rows h) 0 q.from
      (λ i m e b. (let k : i ≡ m = omega (arith, e) in
      subst (λ j. Match RowStands m (filter (admits_row m) (rows g (slice_index_or q.from j 0))) (filter (admits_row m) (rows h (slice_index_or q.from j 0)))) (sym k)
      (row_matches g h d same m (subst (λ j. j < length q.from) k b)))))
      (λ c e l p. linked_same z c e d (lengths g c l) p)
      ∙ sym (times_linked h keep_h z)

  -- rows that come later
  cells_more : (g h ahead : List Arrival) → SameCells q f g h → SameCells q f (g ++ ahead) (h ++ ahead)
  cells_more g h ahead same n l key =
      grown g ∙ ap (λ c. merged kind c (content kind (rows_of_key q f ahead n key))) (same n l key) ∙ sym (grown h)
    where
      kind : Kind
      kind = (f.keeps n).kind

      grown : (g : List Arrival) → cell_at q f (g ++ ahead) n key ≡ merged kind (content kind (rows_of_key q f g n key)) (content kind (rows_of_key q f ahead n key))
      grown g =
          ap (λ rs. content kind (filter (λ row. is_same key (key_of (f.keeps n) (by_column row))) (filter (admits_row n) rs))) (rows-append g ahead (slice_index_or q.from n 0))
          ∙ ap (λ rs. content kind (filter (λ row. is_same key (key_of (f.keeps n) (by_column row))) rs)) (filter-append (admits_row n) (rows g (slice_index_or q.from n 0)) (rows ahead (slice_index_or q.from n 0)))
          ∙ ap (content kind) (filter-append (λ row. is_same key (key_of (f.keeps n) (by_column row))) (admitted_rows q f g n) (admitted_rows q f ahead n))
          ∙ content-append kind (rows_of_key q f g n key) (rows_of_key q f ahead n key)

  all_keep : (g ahead : List Arrival) → RowsKeep q g → RowsKeep q ahead → RowsKeep q (g ++ ahead)
  all_keep g ahead i j = rows-keep q (g ++ ahead) (λ r k. elim (Has-append_cases g ahead r k) [ inl m ↦ row-keeps q g i r m | inr m ↦ row-keeps q ahead j r m ])

  new_same : (g h : List Arrival) (r : Arrival) → RowsKeep q g → RowsKeep q h → RowKeeps q r → SameCells q f g h → new_answers q g r ≡ new_answers q h r
  new_same g h r keep_g keep_h keep_r same = sym (is_new q g r (new_answers q g r) (λ z. refl)) ∙ is_new q h r (new_answers q g r) each
    where
      more : SameCells q f (g ++ r ∷ []) (h ++ r ∷ [])
      more = cells_more g h (r ∷ []) same

      keep_more : (g : List Arrival) → RowsKeep q g → RowsKeep q (g ++ r ∷ [])
      keep_more g k = rows-more-keep q g r k keep_r

      each : (z : List ℤ) → times z (new_answers q g r) ≡ times z (new_answers q h r)
      each z = elim (true_or_false q.distinct) [
        | inr e ↦ (
            let a = times_same g h keep_g keep_h e same z in
            let b = times_same (g ++ r ∷ []) (h ++ r ∷ []) (keep_more g keep_g) (keep_more h keep_h) e more z in
            omega (arith, times-new-plain q g r z e, times-new-plain q h r z e, a, b))
        | inl e ↦ times-new-distinct q g r z e
            ∙ ap (λ b. bit (not b) * min 1 (times z (answers q (g ++ r ∷ [])))) (found_same g h keep_g keep_h same z)
            ∙ ap (λ n. bit (not (list_any (is_same z) (answers q h))) * n) (one_or_none _ _
            (found_over (g ++ r ∷ []) (h ++ r ∷ []) (keep_more g keep_g) (keep_more h keep_h) more z)
            (found_over (h ++ r ∷ []) (g ++ r ∷ []) (keep_more h keep_h) (keep_more g keep_g) (λ p l k. sym (more p l k)) z))
            ∙ sym (times-new-distinct q h r z e)
      ]
        where
          one_or_none : (m n : ℕ) → (0 < m → 0 < n) → (0 < n → 0 < m) → min 1 m ≡ min 1 n
          one_or_none zero zero f g = refl
          one_or_none zero (suc n) f g = absurd (omega (arith, g (omega arith)))
          one_or_none (suc m) zero f g = absurd (omega (arith, f (omega arith)))
          one_or_none (suc m) (suc n) f g = omega arith

pub counts_decide : CountsDecide
counts_decide q within f is d g h keep_g keep_h same z =
    sym (sums_bits (is_same z) (answers q g)) ∙ times_same q within f is g h keep_g keep_h d same z ∙ sums_bits (is_same z) (answers q h)

pub cells_decide : CellsDecide
cells_decide q within f is g h keep_g keep_h same z = found_same q within f is g h keep_g keep_h same z

pub whole_future_is_determined : WholeFutureIsDetermined
whole_future_is_determined q within f is g h keep_g keep_h same ahead r keep_l keep_r =
    new_same q within f is (g ++ ahead) (h ++ ahead) r (all_keep q within f is g ahead keep_g keep_l) (all_keep q within f is h ahead keep_h keep_l) keep_r
    (cells_more q within f is g h ahead same)
