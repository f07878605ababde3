-- The walk gives all combinations that meet the links.
use Rattle.std.proofs.Common.{◌≡◌, ◌≢◌, ℕ, zero, suc, ◌+◌, ◌<◌, Bool, true, false, cond, get_or, List, [], ◌∷◌, ◌++◌, map, filter, length, refl, sym, ap, ◌∙◌, arith, append_assoc, append-nil, length-append, ℤ, pos, ◌+ℤ◌, ◌≤ℤ◌, ◌<ℤ◌, ◌-ℤ◌, int_lt, if◌then◌else◌, ◌&&◌}
use Rattle.std.specs.Prelude.{Option, Some, None, int_le, flat_map, nat_abs}
use Rattle.std.proofs.lemmas.Grind.{flat_map-append}
use Rattle.std.proofs.lemmas.List.Folds.{flat_map-map}
use Rattle.std.proofs.lemmas.Int.{ints, by_lt_z}
use Rattle.sem_query.specs.Boxes.{box, dim_size, range_size, values_from}
use Rattle.sem_query.specs.declared.atom.Attr.{Attr}
use Rattle.sem_query.specs.declared.plan.Dim.{Dim}
use Rattle.sem_query.specs.declared.cell.Cell.{Cell}
use Rattle.sem_query.specs.declared.cell.Cell.TheVariants.{Empty, Count, Present, Extreme}
use Rattle.sem_query.specs.Combinations.{Found}
use Rattle.sem_query.specs.declared.plan.Link.{Link}
use Rattle.exec_join.proofs.CutLaws.{is_allowed, clip-same}
use Rattle.exec_ranges.specs.declared.binding.Binding.{Binding}
use Rattle.exec_join.specs.Choosing.{Setting, value, chosen, cell_at, dims_beside, meets, found}
use Rattle.exec_synopsis.specs.Narrowing.{clip, narrowed_to, narrowed_by, narrow, binding_column}
use Rattle.exec_ranges.specs.Narrowed.{narrowed_dims}
use Rattle.exec_join.specs.Walk.{entered, opened, walk}

-- a cell with these values, where it is not empty
abbrev pub kept : List ℤ → Cell → List Binding
kept values Empty = []
kept values (Count n) = chosen values (Count n) ∷ []
kept values Present = chosen values Present ∷ []
kept values (Extreme v) = chosen values (Extreme v) ∷ []

-- the cells of a stream that are not empty
abbrev pub choices : Setting → ℕ → List Binding
choices w place = flat_map (λ values. kept values (cell_at w place values)) (box (dims_beside w place))

-- one of them for each of some places of FROM, from a place on
abbrev pub combinations_from : Setting → ℕ → ℕ → List (List Binding)
combinations_from w zero place = [] ∷ []
combinations_from w (suc more) place = flat_map (λ c. map (λ cs. c ∷ cs) (combinations_from w more (place + 1))) (choices w place)

module _ {X Y : Type 0} where
  pub flat_map-same : (f g : X → List Y) (xs : List X) → ((x : X) → f x ≡ g x) → flat_map f xs ≡ flat_map g xs
  flat_map-same f g [] h = refl
  flat_map-same f g (x ∷ xs) h = λ k. h x k ++ flat_map-same f g xs h k

  flat_map-none : (f : X → List Y) (xs : List X) → ((x : X) → f x ≡ []) → flat_map f xs ≡ []
  flat_map-none f [] h = refl
  flat_map-none f (x ∷ xs) h = λ k. h x k ++ flat_map-none f xs h k

pub flat_map-flat_map : {X Y Z : Type 0} (g : Y → List Z) (f : X → List Y) (xs : List X) → flat_map g (flat_map f xs) ≡ flat_map (λ x. flat_map g (f x)) xs
flat_map-flat_map g f [] = refl
flat_map-flat_map g f (x ∷ xs) = flat_map-append g (f x) (flat_map f xs) ∙ ap (λ ys. flat_map g (f x) ++ ys) (flat_map-flat_map g f xs)

-- one value of a range alone matters
module _ (H : ℤ → List Found) (x : ℤ) (off : (v : ℤ) → v ≢ x → H v ≡ []) where
  none-above : (lo : ℤ) (n : ℕ) → x <ℤ lo → flat_map H (values_from lo n) ≡ []
  none-above lo zero l = refl
  none-above lo (suc n) l =
      let e : H lo ≡ [] = off lo (λ e. omega (arith, ints, l, e)) in
      let f : flat_map H (values_from (lo +ℤ pos 1) n) ≡ [] = none-above (lo +ℤ pos 1) n (omega (arith, ints, l)) in
      λ k. e k ++ f k

  none-below : (lo : ℤ) (n : ℕ) → (lo +ℤ pos n) ≤ℤ x → flat_map H (values_from lo n) ≡ []
  none-below lo zero l = refl
  none-below lo (suc n) l =
      let e : H lo ≡ [] = off lo (λ e. omega (arith, ints, l, e)) in
      let f : flat_map H (values_from (lo +ℤ pos 1) n) ≡ [] = none-below (lo +ℤ pos 1) n (omega (arith, ints, l)) in
      λ k. e k ++ f k

  one-inside : (lo : ℤ) (n : ℕ) → lo ≤ℤ x → x <ℤ (lo +ℤ pos n) → flat_map H (values_from lo n) ≡ H x
  one-inside lo zero l m = absurd (omega (arith, ints, l, m))
  one-inside lo (suc n) l m =
      by_lt_z lo x
      (λ h. let e : H lo ≡ [] = off lo (λ e. omega (arith, ints, h, e)) in
      let f : flat_map H (values_from (lo +ℤ pos 1) n) ≡ H x = one-inside (lo +ℤ pos 1) n (omega (arith, ints, h)) (omega (arith, ints, m)) in
      λ k. e k ++ f k)
      (λ h. let same : lo ≡ x = omega (arith, ints, l, h) in
      let f : flat_map H (values_from (lo +ℤ pos 1) n) ≡ [] = none-above (lo +ℤ pos 1) n (omega (arith, ints, h)) in
      (λ k. H (same k) ++ f k) ∙ append-nil (H x))

  range-of : (lo hi : ℤ) → lo ≤ℤ x → x ≤ℤ hi → flat_map H (values_from lo (range_size lo hi)) ≡ H x
  range-of lo hi l m = by (int_lt hi lo) refl
    where
      by : (t : Bool) → int_lt hi lo ≡ t → flat_map H (values_from lo (cond t 0 (nat_abs (hi -ℤ lo) + 1))) ≡ H x
      by true e = absurd (omega (arith, ints, e, l, m))
      by false e = one-inside lo (nat_abs (hi -ℤ lo) + 1) l (omega (arith, ints, e, m))

  range-past : (lo hi : ℤ) → hi <ℤ x → flat_map H (values_from lo (range_size lo hi)) ≡ []
  range-past lo hi m = by (int_lt hi lo) refl
    where
      by : (t : Bool) → int_lt hi lo ≡ t → flat_map H (values_from lo (cond t 0 (nat_abs (hi -ℤ lo) + 1))) ≡ []
      by true e = refl
      by false e = none-below lo (nat_abs (hi -ℤ lo) + 1) (omega (arith, ints, e, m))

  to-values : (d : Dim) (s t : Bool) → int_le d.lo x ≡ s → int_le x d.hi ≡ t → (n : Dim) → n ≡ (if s && t then record { attr = d.attr; lo = x; hi = x } else record { attr = d.attr; lo = pos 1; hi = pos 0 }) →
      flat_map H (values_from n.lo (dim_size n)) ≡ flat_map H (values_from d.lo (dim_size d))
  to-values d true true e g n i = (λ k. flat_map H (values_from (i k).lo (dim_size (i k)))) ∙ range-of x x (omega (arith, ints)) (omega (arith, ints)) ∙ sym (range-of d.lo d.hi (omega (arith, ints, e)) (omega (arith, ints, g)))
  to-values d true false e g n i = (λ k. flat_map H (values_from (i k).lo (dim_size (i k)))) ∙ sym (range-past d.lo d.hi (omega (arith, ints, g)))
  to-values d false true e g n i = (λ k. flat_map H (values_from (i k).lo (dim_size (i k)))) ∙ sym (none-above d.lo (dim_size d) (omega (arith, ints, e)))
  to-values d false false e g n i = (λ k. flat_map H (values_from (i k).lo (dim_size (i k)))) ∙ sym (none-above d.lo (dim_size d) (omega (arith, ints, e)))

narrow-values : (H : ℤ → List Found) (values : Attr → ℤ) (d other : Dim) (o : Option Attr) → ((a : Attr) → o ≡ Some a → (v : ℤ) → v ≢ values a → H v ≡ []) →
    flat_map H (values_from other.lo (dim_size other)) ≡ flat_map H (values_from d.lo (dim_size d)) →
    flat_map H (values_from (narrowed_by d other values o).lo (dim_size (narrowed_by d other values o))) ≡ flat_map H (values_from d.lo (dim_size d))
narrow-values H values d other None h e = e
narrow-values H values d other (Some a) h e = to-values H (values a) (h a refl) d (int_le d.lo (values a)) (int_le (values a) d.hi) refl refl (narrowed_to d (values a)) refl

-- what only skips combinations that give nothing changes nothing
module _ (arriving place : ℕ) (less : List Link) (values : Attr → ℤ) (wit : Dim → Option Attr) where
  pub narrow-box : (ds : List Dim) (g : List ℤ → List Found) →
      ((k : ℕ) (d : Dim) (a : Attr) (vs : List ℤ) → k < length ds → k < length vs → wit (get_or ds k d) ≡ Some a → get_or vs k (pos 0) ≢ values a → g vs ≡ []) →
      ((k : ℕ) (d : Dim) (vs : List ℤ) → k < length ds → k < length vs → is_allowed arriving place less values (get_or ds k d).attr (get_or vs k (pos 0)) ≡ false → g vs ≡ []) →
      flat_map g (box (map (λ d. narrowed_by d (clip arriving place less values d) values (wit d)) ds)) ≡ flat_map g (box ds)
  narrow-box [] g h c = refl
  narrow-box (d ∷ ds) g h c =
      let n = narrowed_by d (clip arriving place less values d) values (wit d) in
      let others = map (λ d. narrowed_by d (clip arriving place less values d) values (wit d)) ds in
      let H : ℤ → List Found = λ v. flat_map (λ vs. g (v ∷ vs)) (box ds) in
      flat_map-flat_map g (λ v. map (λ vs. v ∷ vs) (box others)) (values_from n.lo (dim_size n))
      ∙ flat_map-same _ H (values_from n.lo (dim_size n))
      (λ v. flat_map-map g (λ (vs : List ℤ). v ∷ vs) (box others) ∙ narrow-box ds (λ vs. g (v ∷ vs))
      (λ k e a vs l m w i. h (suc k) e a (v ∷ vs) (omega (arith, l)) (omega (arith, m)) w i)
      (λ k e vs l m w. c (suc k) e (v ∷ vs) (omega (arith, l)) (omega (arith, m)) w))
      ∙ narrow-values H values d (clip arriving place less values d) (wit d)
      (λ a w v i. flat_map-none (λ vs. g (v ∷ vs)) (box ds) (λ vs. h 0 d a (v ∷ vs) (omega arith) (omega arith) w i))
      (clip-same arriving place values d.attr H less d refl (λ v w. flat_map-none (λ vs. g (v ∷ vs)) (box ds) (λ vs. c 0 d (v ∷ vs) (omega arith) (omega arith) w)))
      ∙ sym (flat_map-flat_map g (λ v. map (λ vs. v ∷ vs) (box ds)) (values_from d.lo (dim_size d))
      ∙ flat_map-same _ H (values_from d.lo (dim_size d)) (λ v. flat_map-map g (λ (vs : List ℤ). v ∷ vs) (box ds)))

entered-kept : (values : List ℤ) (known : List Binding) (go : List Binding → List Found) (c : Cell) → entered values known go c ≡ flat_map (λ x. go (known ++ x ∷ [])) (kept values c)
entered-kept values known go Empty = refl
entered-kept values known go (Count n) = sym (append-nil (go (known ++ chosen values (Count n) ∷ [])))
entered-kept values known go Present = sym (append-nil (go (known ++ chosen values Present ∷ [])))
entered-kept values known go (Extreme v) = sym (append-nil (go (known ++ chosen values (Extreme v) ∷ [])))

entered-none : (values : List ℤ) (known : List Binding) (go : List Binding → List Found) (c : Cell) → ((x : Cell) → go (known ++ chosen values x ∷ []) ≡ []) → entered values known go c ≡ []
entered-none values known go Empty h = refl
entered-none values known go (Count n) h = h (Count n)
entered-none values known go Present h = h Present
entered-none values known go (Extreme v) h = h (Extreme v)

-- A wrong value for a dim that an equality fixes breaks that equality, whatever is chosen later.
abbrev pub Breaks : Setting → Type 0
Breaks w = (known : List Binding) (k : ℕ) (d : Dim) (a : Attr) (vs : List ℤ) (c : Cell) (cs : List Binding) → k < length (dims_beside w (length known)) → k < length vs →
    binding_column w.arriving (length known) (get_or (dims_beside w (length known)) k d).attr w.part.equal.items ≡ Some a → get_or vs k (pos 0) ≢ value w known a →
    meets w ((known ++ chosen vs c ∷ []) ++ cs) ≡ false

-- And a value that an inequality excludes breaks that inequality.
abbrev pub BreaksLess : Setting → Type 0
BreaksLess w = (known : List Binding) (k : ℕ) (d : Dim) (vs : List ℤ) (c : Cell) (cs : List Binding) → k < length (dims_beside w (length known)) → k < length vs →
    is_allowed w.arriving (length known) w.part.less.items (value w known) (get_or (dims_beside w (length known)) k d).attr (get_or vs k (pos 0)) ≡ false →
    meets w ((known ++ chosen vs c ∷ []) ++ cs) ≡ false

module _ (w : Setting) (breaks : Breaks w) (breaks-less : BreaksLess w) where
  gone : (cs : List Binding) → meets w cs ≡ false → walk w 0 cs ≡ []
  unfolding walk
  gone cs e = ap (λ b. if b then found w cs ∷ [] else []) e

  pub walk-all : (m : ℕ) (known : List Binding) → walk w m known ≡ flat_map (λ cs. walk w 0 (known ++ cs)) (combinations_from w m (length known))
  unfolding walk narrowed_dims narrow
  walk-all zero known = (λ k. walk w 0 (sym (append-nil known) k)) ∙ sym (append-nil (walk w 0 (known ++ [])))
  walk-all (suc m) known =
      let p = length known in
      narrow-box w.arriving p w.part.less.items (value w known) (λ d. binding_column w.arriving p d.attr w.part.equal.items) (dims_beside w p) (opened w known (walk w m))
      (λ k d a vs l j e i. entered-none vs known (walk w m) (cell_at w p vs) (λ c. walk-all m (known ++ chosen vs c ∷ []) ∙ flat_map-none _ (combinations_from w m (length (known ++ chosen vs c ∷ []))) (λ cs. gone _ (breaks known k d a vs c cs l j e i))))
      (λ k d vs l j e. entered-none vs known (walk w m) (cell_at w p vs) (λ c. walk-all m (known ++ chosen vs c ∷ []) ∙ flat_map-none _ (combinations_from w m (length (known ++ chosen vs c ∷ []))) (λ cs. gone _ (breaks-less known k d vs c cs l j e))))
      ∙ flat_map-same _ _ (box (dims_beside w p)) (λ vs. entered-kept vs known (walk w m) (cell_at w p vs))
      ∙ sym (flat_map-flat_map (λ x. walk w m (known ++ x ∷ [])) (λ vs. kept vs (cell_at w p vs)) (box (dims_beside w p)))
      ∙ flat_map-same _ _ (choices w p) (λ c. walk-all m (known ++ c ∷ [])
      ∙ (λ k. flat_map (λ cs. walk w 0 (append_assoc known (c ∷ []) cs k)) (combinations_from w m (length-append known (c ∷ []) k)))
      ∙ sym (flat_map-map (λ cs. walk w 0 (known ++ cs)) (λ (cs : List Binding). c ∷ cs) (combinations_from w m (p + 1))))
      ∙ sym (flat_map-flat_map (λ cs. walk w 0 (known ++ cs)) (λ c. map (λ cs. c ∷ cs) (combinations_from w m (p + 1))) (choices w p))

  filtered : (xs : List (List Binding)) → flat_map (walk w 0) xs ≡ map (found w) (filter (meets w) xs)
  unfolding walk
  filtered [] = refl
  filtered (x ∷ xs) = by (meets w x) (filtered xs)
    where
      by : (t : Bool) → flat_map (walk w 0) xs ≡ map (found w) (filter (meets w) xs) → (if t then found w x ∷ [] else []) ++ flat_map (walk w 0) xs ≡ map (found w) (cond t (x ∷ filter (meets w) xs) (filter (meets w) xs))
      by true e = ap (λ fs. found w x ∷ fs) e
      by false e = e

  -- the whole walk
  pub walk-is : walk w (length w.part.streams.items) [] ≡ map (found w) (filter (meets w) (combinations_from w (length w.part.streams.items) 0))
  walk-is = walk-all (length w.part.streams.items) [] ∙ filtered (combinations_from w (length w.part.streams.items) 0)
