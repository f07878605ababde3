-- What the walk chooses from and comes to, in the words of the model.
use Rattle.std.proofs.Common.{◌≡◌, ℕ, zero, suc, ◌+◌, ◌*◌, ◌<◌, ◌==◌, Bool, true, false, cond, List, [], ◌∷◌, ◌++◌, map, filter, length, refl, sym, ap, ◌∙◌, arith, ℤ, pos, int_lt, if◌then◌else◌, ◌&&◌}
use Rattle.std.specs.Prelude.{Option, Some, None, slice_get, flat_map}
use Rattle.std.specs.List.{list_all, range_with_len}
use Rattle.std.specs.Ordering.{int_eq}
use Rattle.std.proofs.lemmas.Bool.Decides.{nat_tests}
use Rattle.std.proofs.lemmas.List.Folds.{flat_map-map}
use Rattle.sem_query.specs.declared.atom.Attr.{Attr}
use Rattle.sem_query.specs.declared.cell.Cell.{Cell}
use Rattle.sem_query.specs.declared.cell.Cell.TheVariants.{Empty, Count, Present, Extreme}
use Rattle.sem_query.specs.declared.plan.Dim.{Dim}
use Rattle.sem_query.specs.declared.plan.PartPlan.{PartPlan}
use Rattle.sem_query.specs.Query.{QueryValue}
use Rattle.sem_query.specs.Assignment.{compares}
use Rattle.sem_query.specs.Boxes.{box, place_of}
use Rattle.sem_query.specs.Meaning.{by_column, product, at_place}
use Rattle.sem_query.specs.Parts.{pairs}
use Rattle.sem_query.specs.Plan.{dims_at}
use Rattle.sem_query.specs.Combinations.{Choice, choice, choice_of, looked_up, is_tied, row_of_values, Reading, Found, chosen_values, linked, times_of}
use Rattle.sem_query.specs.Combinations as model
use Rattle.sem_query.specs.Probing.{choices_beside, found_beside}
use Rattle.exec_ranges.specs.declared.binding.Binding.{Binding}
use Rattle.exec_ranges.specs.Values.{valued, extreme_of, rows_in, chosen_value, value_in}
use Rattle.exec_join.specs.Choosing.{Setting, setting, cell_in, meets, meets_links, tuple_of, product_of, found}
use Rattle.exec_ranges.specs.Narrowed.{dims_in}
use Rattle.exec_join.proofs.ExactLaws.{kept, choices, combinations_from, flat_map-same}

valued-is : (q : QueryValue) (part : PartPlan) (dims : List Dim) (xs : List ℤ) (z : ℤ) (a : Attr) → valued (pairs q) part dims xs z a ≡ looked_up (is_tied q part) dims xs z a
valued-is q part [] xs z a = refl
valued-is q part (d ∷ dims) [] z a = refl
valued-is q part (d ∷ dims) (x ∷ xs) z a = ap (λ r. if is_tied q part d.attr a then x else r) (valued-is q part dims xs z a)

module _ {X Y Z : Type 0} where
  map-flat_map : (f : Y → Z) (g : X → List Y) (xs : List X) → map f (flat_map g xs) ≡ flat_map (λ x. map f (g x)) xs
  map-flat_map f g [] = refl
  map-flat_map f g (x ∷ xs) = map-append (g x) (flat_map g xs) ∙ ap (λ r. map f (g x) ++ r) (map-flat_map f g xs)
    where
      map-append : (ys zs : List Y) → map f (ys ++ zs) ≡ map f ys ++ map f zs
      map-append [] zs = refl
      map-append (y ∷ ys) zs = ap (λ r. f y ∷ r) (map-append ys zs)

-- each member of a list is so long
abbrev AllLong : ℕ → List (List Binding) → Type 0
AllLong n [] = Unit {0}
AllLong n (cs ∷ others) = (length cs ≡ n) × AllLong n others

long-append : (n : ℕ) (xs ys : List (List Binding)) → AllLong n xs → AllLong n ys → AllLong n (xs ++ ys)
long-append n [] ys h k = k
long-append n (x ∷ xs) ys h k = (h.0, long-append n xs ys h.1 k)

long-map : (n : ℕ) (c : Binding) (xs : List (List Binding)) → AllLong n xs → AllLong (suc n) (map (λ cs. c ∷ cs) xs)
long-map n c [] h = tt
long-map n c (x ∷ xs) h = (let e = h.0 in omega (arith, e), long-map n c xs h.1)

long-flat : (n : ℕ) (xs : List (List Binding)) (cs : List Binding) → AllLong n xs → AllLong (suc n) (flat_map (λ c. map (λ others. c ∷ others) xs) cs)
long-flat n xs [] h = tt
long-flat n xs (c ∷ cs) h = long-append (suc n) (map (λ others. c ∷ others) xs) (flat_map (λ c. map (λ others. c ∷ others) xs) cs) (long-map n c xs h) (long-flat n xs cs h)

all-long : (w : Setting) (m place : ℕ) → AllLong m (combinations_from w m place)
all-long w zero place = (refl, tt)
all-long w (suc m) place = long-flat m (combinations_from w m (place + 1)) (choices w place) (all-long w m (place + 1))

module _ (q : QueryValue) (part : PartPlan) (arriving : ℕ) (row : List ℤ) (read : Reading) where
  abbrev w : Setting
  w = setting (pairs q) q.select part arriving row read

  -- a chosen cell as the model reads it
  abbrev as_choice : ℕ → Binding → Choice
  as_choice place c = record {
    values = if place == arriving then by_column row else row_of_values q part place c.values.items (extreme_of c.cell);
    times = rows_in c.cell;
  }

  abbrev as_choices : ℕ → List Binding → List Choice
  as_choices place [] = []
  as_choices place (c ∷ cs) = as_choice place c ∷ as_choices (place + 1) cs

  choices-same : (place : ℕ) → map (as_choice place) (choices w place) ≡ choices_beside q part read arriving (by_column row) place
  unfolding dims_in cell_in
  choices-same place = by (place == arriving)
    where
      kept-same : (vs : List ℤ) (c : Cell) → map (λ (d : Binding). let o : Choice = record { values = row_of_values q part place d.values.items (extreme_of d.cell); times = rows_in d.cell } in o) (kept vs c) ≡ choice_of q part place vs c
      kept-same vs Empty = refl
      kept-same vs (Count n) = refl
      kept-same vs Present = refl
      kept-same vs (Extreme z) = refl

      by : (t : Bool)
          → map (λ (c : Binding). let o : Choice = record { values = if t then by_column row else row_of_values q part place c.values.items (extreme_of c.cell); times = rows_in c.cell } in o)
          (flat_map (λ vs. kept vs (if t then Present else read part place (place_of (dims_at part place) vs))) (box (if t then [] else dims_at part place)))
          ≡ (if t then choice (by_column row) 1 else flat_map (λ xs. choice_of q part place xs (read part place (place_of (dims_at part place) xs))) (box (dims_at part place)))
      by true = refl
      by false =
          map-flat_map _ (λ vs. kept vs (read part place (place_of (dims_at part place) vs))) (box (dims_at part place))
          ∙ flat_map-same _ _ (box (dims_at part place)) (λ vs. kept-same vs (read part place (place_of (dims_at part place) vs)))

  map-cons : (place : ℕ) (c : Binding) (xs : List (List Binding)) → map (as_choices place) (map (λ cs. c ∷ cs) xs) ≡ map (λ os. as_choice place c ∷ os) (map (as_choices (place + 1)) xs)
  map-cons place c [] = refl
  map-cons place c (x ∷ xs) = ap (λ r. (as_choice place c ∷ as_choices (place + 1) x) ∷ r) (map-cons place c xs)

  products-same : (m place : ℕ) → map (as_choices place) (combinations_from w m place) ≡ product (map (choices_beside q part read arriving (by_column row)) (range_with_len place m))
  products-same zero place = refl
  products-same (suc m) place =
      let C = combinations_from w m (place + 1) in
      let P = product (map (choices_beside q part read arriving (by_column row)) (range_with_len (place + 1) m)) in
      map-flat_map (as_choices place) (λ c. map (λ cs. c ∷ cs) C) (choices w place)
      ∙ flat_map-same _ (λ c. map (λ os. as_choice place c ∷ os) P) (choices w place)
      (λ c. map-cons place c C ∙ ap (map (λ os. as_choice place c ∷ os)) (products-same m (place + 1)))
      ∙ sym (flat_map-map (λ o. map (λ (os : List Choice). o ∷ os) P) (as_choice place) (choices w place))
      ∙ ap (flat_map (λ o. map (λ (os : List Choice). o ∷ os) P)) (choices-same place)

  -- the values at a place of FROM
  abbrev read_option : ℕ → ℕ → Option Binding → ℤ
  read_option place column None = pos 0
  read_option place column (Some c) = (if place == arriving then by_column row else row_of_values q part place c.values.items (extreme_of c.cell)) column

  at-as : (cs : List Binding) (place i column : ℕ) → at_place (map (λ c. c.values) (as_choices place cs)) i column ≡ read_option (place + i) column (slice_get cs i)
  at-as [] place i column = refl
  at-as (c ∷ cs) place zero column = let e : place ≡ place + 0 = omega arith in ap (λ n. read_option n column (Some c)) e
  at-as (c ∷ cs) place (suc i) column =
      let e : place + 1 + i ≡ place + suc i = omega arith in
      at-as cs (place + 1) i column ∙ ap (λ n. read_option n column (slice_get cs i)) e

  get-some : (cs : List Binding) (i : ℕ) → i < length cs → slice_get cs i ≡ None → ⊥
  get-some [] i l e = absurd (omega (arith, l))
  get-some (c ∷ cs) zero l e = cc
  get-some (c ∷ cs) (suc i) l e = get-some cs i (omega (arith, l)) e

  value-same : (cs : List Binding) → arriving < length cs → (a : Attr) → value_in (pairs q) part arriving row cs a ≡ chosen_values (as_choices 0 cs) a
  unfolding value_in
  value-same cs l a =
      by (a.stream == arriving) refl (slice_get cs a.stream) refl ∙ ap (λ n. read_option n a.column (slice_get cs a.stream)) (let e : a.stream ≡ 0 + a.stream = omega arith in e) ∙ sym (at-as cs 0 a.stream a.column)
    where
      by : (t : Bool) → (a.stream == arriving) ≡ t → (o : Option Binding) → slice_get cs a.stream ≡ o
          → (if t then by_column row a.column else chosen_value (pairs q) part a o) ≡ read_option a.stream a.column o
      by true e None g =
          let h : a.stream ≡ arriving = grind (arith, nat_tests) in absurd (get-some cs a.stream (omega (arith, h, l)) g)
      by true e (Some c) g = ap (λ t. (if t then by_column row else row_of_values q part a.stream c.values.items (extreme_of c.cell)) a.column) (sym e)
      by false e None g = refl
      by false e (Some c) g =
          valued-is q part (dims_at part a.stream) c.values.items (extreme_of c.cell) a
          ∙ ap (λ t. (if t then by_column row else row_of_values q part a.stream c.values.items (extreme_of c.cell)) a.column) (sym e)

  times-same : (place : ℕ) (cs : List Binding) → product_of cs ≡ times_of (as_choices place cs)
  times-same place [] = refl
  times-same place (c ∷ cs) = ap (λ n. rows_in c.cell * n) (times-same (place + 1) cs)

  meets-same : (cs : List Binding) → arriving < length cs → meets w cs ≡ linked part (chosen_values (as_choices 0 cs))
  unfolding meets_links
  meets-same cs l =
      let F : value_in (pairs q) part arriving row cs ≡ chosen_values (as_choices 0 cs) = λ k a. value-same cs l a k in
      ap (λ (v : Attr → ℤ). (list_all (λ m. int_eq (v m.left) (v m.right)) part.equal.items && list_all (λ m. int_lt (v m.left) (v m.right)) part.less.items)
      && list_all (λ m. compares m.op (v m.left) (v m.right)) part.soft.items) F

  found-same : (cs : List Binding) → arriving < length cs → found w cs ≡ model.found q (as_choices 0 cs)
  unfolding tuple_of
  found-same cs l =
      let F : value_in (pairs q) part arriving row cs ≡ chosen_values (as_choices 0 cs) = λ k a. value-same cs l a k in
      λ k. record { tuple = map (F k) q.select; count = times-same 0 cs k }

  all-same : (n : ℕ) → arriving < n → (xs : List (List Binding)) → AllLong n xs
      → map (found w) (filter (meets w) xs) ≡ map (model.found q) (filter (λ os. linked part (chosen_values os)) (map (as_choices 0) xs))
  all-same n l [] h = refl
  all-same n l (x ∷ xs) h =
      let long : arriving < length x = let e = h.0 in omega (arith, e, l) in
      (λ k. map (found w) (cond (meets-same x long k) (x ∷ filter (meets w) xs) (filter (meets w) xs)))
      ∙ by (linked part (chosen_values (as_choices 0 x))) long (all-same n l xs h.1)
    where
      by : (t : Bool) → arriving < length x
          → map (found w) (filter (meets w) xs) ≡ map (model.found q) (filter (λ os. linked part (chosen_values os)) (map (as_choices 0) xs))
          → map (found w) (cond t (x ∷ filter (meets w) xs) (filter (meets w) xs))
          ≡ map (model.found q) (cond t (as_choices 0 x ∷ filter (λ os. linked part (chosen_values os)) (map (as_choices 0) xs)) (filter (λ os. linked part (chosen_values os)) (map (as_choices 0) xs)))
      by true long e = λ k. found-same x long k ∷ e k
      by false long e = e

  -- the combinations are those of the model
  pub combinations-are : arriving < length part.streams.items → map (found w) (filter (meets w) (combinations_from w (length part.streams.items) 0)) ≡ found_beside q part read arriving (by_column row)
  unfolding found_beside
  combinations-are l =
      all-same (length part.streams.items) l (combinations_from w (length part.streams.items) 0) (all-long w (length part.streams.items) 0)
      ∙ ap (λ os. map (model.found q) (filter (λ o. linked part (chosen_values o)) os)) (products-same (length part.streams.items) 0)
