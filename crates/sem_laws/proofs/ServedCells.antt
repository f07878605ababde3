-- Rows and the cells that they lie in, where a part serves: each stands in for the other.
use Rattle.std.proofs.Common.{◌≡◌, ℕ, zero, suc, ◌+◌, ◌*◌, ◌<◌, ◌⊎◌, ◌&&◌, not, inl, inr, List, [], ◌∷◌, map, length, Bool, true, false, refl, sym, ap, ◌∙◌, subst, arith, ℤ, pos, int_lt, ◌<ℤ◌, ◌≤ℤ◌}
use Rattle.std.proofs.lemmas.Int.{ints}
use Rattle.std.proofs.lemmas.Bool.Decides.{Decides-int_eq}
use Rattle.std.specs.List.{list_all}
use Rattle.std.proofs.lemmas.List.Elements.{All-contains}
use Rattle.std.specs.Ordering.{int_eq}
use Rattle.sem_query.specs.declared.atom.Attr.{Attr}
use Rattle.sem_query.specs.declared.plan.Dim.{Dim}
use Rattle.sem_query.specs.declared.plan.Kind.{Kind}
use Rattle.sem_query.specs.declared.plan.Link.{Link}
use Rattle.sem_query.specs.declared.plan.SoftLink.{SoftLink}
use Rattle.sem_query.specs.declared.atom.Op.{Op}
use Rattle.sem_query.specs.declared.plan.PartPlan.{PartPlan}
use Rattle.sem_query.specs.Query.{QueryValue}
use Rattle.sem_query.specs.Parts.{pairs}
use Rattle.sem_query.specs.Assignment.{projected, compares}
use Rattle.sem_query.specs.Meaning.{by_column, joined, at_place}
use Rattle.sem_query.specs.Tuples.{is_same}
use Rattle.sem_query.specs.Boxes.{box_size}
use Rattle.sem_query.specs.Plan.{stream_at, dims_at}
use Rattle.sem_query.specs.Admission.{alone, admits, keeps_signs, keeps_local, in_range}
use Rattle.sem_query.specs.Combinations.{Choice, choice, linked, looked_up, row_of_cell, cell_choice, is_tied}
use Rattle.sem_query.specs.Cells.{content, row_place, least, greatest}
use Rattle.sem_query.proofs.Has.{Has, first, later, Has-from_contains, Contains-from_has, same_map}
use Rattle.sem_laws.proofs.Sums.{bit}
use Rattle.sem_laws.proofs.Weights.{View}
use Rattle.sem_laws.proofs.Tests.{and-left, and-right, and-both, all_at, all_if}
use Rattle.sem_laws.proofs.Places.{place-below, digits-place}
use Rattle.sem_laws.proofs.Classes.{looked-row, looked-either, IsFound}
use Rattle.sem_laws.proofs.Counts.{linked_gives}
use Rattle.sem_laws.proofs.Extremes.{least-is, least-low, least-below, greatest-is, greatest-high, greatest-above, Along}
use Rattle.sem_laws.proofs.OnePartFits.{has_cases}
use Rattle.sem_query.specs.Serving.{IsKept, IsLeastKept, IsGreatestKept, CanBeAsked, Serves}

-- something is kept of the column
pub data IsTold (q : QueryValue) (part : PartPlan) (a : Attr) : Type 0 where
  by_value : IsKept q part a → IsTold q part a
  by_least : IsLeastKept q part a → IsTold q part a
  by_greatest : IsGreatestKept q part a → IsTold q part a

-- two rows or cells agree on the columns of which something is kept
abbrev pub Agree : QueryValue → PartPlan → ℕ → View → View → Type 0
Agree q part place v w = (a : Attr) → a.stream ≡ place → IsTold q part a → v a.column ≡ w a.column

-- w can stand for v: equal where the value is kept, not greater where the least one is, not less where the greatest one is
pub record StandsIn (q : QueryValue) (part : PartPlan) (place : ℕ) (v w : View) : Type 0 where
  pub same : (a : Attr) → a.stream ≡ place → IsKept q part a → v a.column ≡ w a.column
  pub below : (a : Attr) → a.stream ≡ place → IsLeastKept q part a → w a.column ≤ℤ v a.column
  pub above : (a : Attr) → a.stream ≡ place → IsGreatestKept q part a → v a.column ≤ℤ w a.column

pub stands_itself : (q : QueryValue) (part : PartPlan) (place : ℕ) (v w : View) → Agree q part place v w → StandsIn q part place v w
stands_itself q part place v w g = record {
  same = λ a e i. g a e (by_value i);
  below = λ a e i. let x : v a.column ≡ w a.column = g a e (by_least i) in omega (arith, ints, x);
  above = λ a e i. let x : v a.column ≡ w a.column = g a e (by_greatest i) in omega (arith, ints, x);
}

-- read off at a column
stands_at : (q : QueryValue) (part : PartPlan) (n : ℕ) (vs ws : List View) (i m : ℕ) → Along (StandsIn q part) n vs ws → m ≡ n + i
    → StandsIn q part m (at_place vs i) (at_place ws i)
stands_at q part n [] [] i m h e = stands_itself q part m (λ c. pos 0) (λ c. pos 0) (λ a f w. refl)
stands_at q part n [] (w ∷ ws) i m h e = absurd h
stands_at q part n (v ∷ vs) [] i m h e = absurd h
stands_at q part n (v ∷ vs) (w ∷ ws) zero m h e = let f : n ≡ m = omega (arith, e) in subst (λ k. StandsIn q part k v w) f h.0
stands_at q part n (v ∷ vs) (w ∷ ws) (suc i) m h e = stands_at q part (suc n) vs ws i m h.1 (omega (arith, e))

gives_both : (a b : Bool) → 0 < bit a * bit b → (a ≡ true) × (b ≡ true)
gives_both true true h = (refl, refl)
gives_both true false h = absurd (omega (arith, h))
gives_both false b h = absurd (omega (arith, h))

gives_one : (a b : Bool) → a ≡ true → b ≡ true → 0 < bit a * bit b
gives_one true true h k = omega arith
gives_one true false h k = absurd cc
gives_one false b h k = absurd cc

less_step : (x y u w : ℤ) → int_lt x y ≡ true → u ≤ℤ x → y ≤ℤ w → int_lt u w ≡ true
less_step x y u w a b c = let l : u <ℤ w = omega (arith, ints) in grind (arith, ints, l)

most_step : (x y u w : ℤ) → not (int_lt y x) ≡ true → u ≤ℤ x → y ≤ℤ w → not (int_lt w u) ≡ true
most_step x y u w a b c = let l : x ≤ℤ y = grind (arith, ints, a) in let m : u ≤ℤ w = omega (arith, ints, l, b, c) in grind (arith, ints, m)

-- links and tuple go over to what stands in
pub linked_over : (q : QueryValue) (part : PartPlan) (serves : Serves q part) (z : List ℤ) (vs ws : List View)
    → Along (StandsIn q part) 0 vs ws → 0 < linked_gives q part z vs → 0 < linked_gives q part z ws
linked_over q part serves z vs ws h g = gives_one _ _ links tuple
  where
    both : (linked part (joined vs) ≡ true) × (is_same z (projected q (joined vs)) ≡ true)
    both = gives_both _ _ g

    st : (m : ℕ) → StandsIn q part m (at_place vs m) (at_place ws m)
    st m = stands_at q part 0 vs ws m m h (omega arith)

    same : (a : Attr) → IsKept q part a → joined vs a ≡ joined ws a
    same a i = (st a.stream).same a refl i

    below : (a : Attr) → IsKept q part a ⊎ IsLeastKept q part a → joined ws a ≤ℤ joined vs a
    below a (inl i) = let x : joined vs a ≡ joined ws a = same a i in omega (arith, ints, x)
    below a (inr i) = (st a.stream).below a refl i

    above : (a : Attr) → IsKept q part a ⊎ IsGreatestKept q part a → joined vs a ≤ℤ joined ws a
    above a (inl i) = let x : joined vs a ≡ joined ws a = same a i in omega (arith, ints, x)
    above a (inr i) = (st a.stream).above a refl i

    tuple : is_same z (projected q (joined ws)) ≡ true
    tuple =
        subst (λ t. is_same z t ≡ true) (same_map (joined vs) (joined ws) q.select (λ a k. same a (serves.selected a (Contains-from_has q.select a k)))) both.1

    equal_over : (l : Link) → Has part.equal.items l → int_eq (joined ws l.left) (joined ws l.right) ≡ true
    equal_over l k =
        let s : IsKept q part l.left × IsKept q part l.right = serves.equal l (Contains-from_has part.equal.items l k) in
        let e : joined vs l.left ≡ joined vs l.right
        = (Decides-int_eq _ _).0 (all_at (λ l. int_eq (joined vs l.left) (joined vs l.right)) part.equal.items l (and-left _ _ (and-left _ _ both.0)) k) in
        (Decides-int_eq _ _).1 (sym (same l.left s.0) ∙ e ∙ same l.right s.1)

    less_over : (l : Link) → Has part.less.items l → int_lt (joined ws l.left) (joined ws l.right) ≡ true
    less_over l k =
        let s : (IsKept q part l.left ⊎ IsLeastKept q part l.left) × (IsKept q part l.right ⊎ IsGreatestKept q part l.right) = serves.less l (Contains-from_has part.less.items l k) in
        less_step (joined vs l.left) (joined vs l.right) _ _
        (all_at (λ l. int_lt (joined vs l.left) (joined vs l.right)) part.less.items l (and-right (list_all (λ l. int_eq (joined vs l.left) (joined vs l.right)) part.equal.items) _ (and-left _ _ both.0)) k)
        (below l.left s.0) (above l.right s.1)

    soft_over : (l : SoftLink) → Has part.soft.items l → compares l.op (joined ws l.left) (joined ws l.right) ≡ true
    soft_over l k =
        asked_over l.op l.left l.right (serves.soft l (Contains-from_has part.soft.items l k))
        (all_at (λ l. compares l.op (joined vs l.left) (joined vs l.right)) part.soft.items l
        (and-right (list_all (λ l. int_eq (joined vs l.left) (joined vs l.right)) part.equal.items && list_all (λ l. int_lt (joined vs l.left) (joined vs l.right)) part.less.items) _ both.0) k)
      where
        kept_over : (o : Op) (x y : Attr) → IsKept q part x × IsKept q part y → compares o (joined vs x) (joined vs y) ≡ true → compares o (joined ws x) (joined ws y) ≡ true
        kept_over o x y s h = (λ i. compares o (sym (same x s.0) i) (sym (same y s.1) i)) ∙ h

        asked_over : (o : Op) (x y : Attr) → CanBeAsked q part o x y → compares o (joined vs x) (joined vs y) ≡ true → compares o (joined ws x) (joined ws y) ≡ true
        asked_over Op.Lt x y s h = less_step (joined vs x) (joined vs y) _ _ h (below x s.0) (above y s.1)
        asked_over Op.Le x y s h = most_step (joined vs x) (joined vs y) _ _ h (below x s.0) (above y s.1)
        asked_over Op.Eq x y s h = kept_over Op.Eq x y s h
        asked_over Op.Gt x y s h = kept_over Op.Gt x y s h
        asked_over Op.Ge x y s h = kept_over Op.Ge x y s h
        asked_over Op.Ne x y s h = kept_over Op.Ne x y s h

    links : linked part (joined ws) ≡ true
    links = and-both _ _ (and-both _ _ (all_if _ part.equal.items equal_over) (all_if _ part.less.items less_over)) (all_if _ part.soft.items soft_over)

module _ (q : QueryValue) (part : PartPlan) (serves : Serves q part) (place : ℕ) (at : place < length q.from) where
  abbrev dims : List Dim
  dims = (stream_at part place).dims.items

  abbrev cell : ℕ → ℤ → View
  cell i z = row_of_cell q part place i z

  -- what is looked up for a column in the cell of an admitted row
  looked_in_cell : (v : View) (z : ℤ) → admits q part place v ≡ true → (column : ℕ)
      → row_of_cell q part place (row_place dims v) z column ≡ looked_up (is_tied q part) dims (map (λ d. v d.attr.column) dims) z record { stream = place; column = column }
  looked_in_cell v z h column =
      let within : list_all (in_range v) dims ≡ true = and-right (keeps_signs place (alone v) (pairs q) part.signs.items && keeps_local place (alone v) part.local) _ h in
      ap (λ xs. looked_up (is_tied q part) dims xs z record { stream = place; column = column }) (digits-place dims v within)

  tie_in_cell : (v : View) → admits q part place v ≡ true → (b : Attr) → b.stream ≡ place → (d : Dim) → Has dims d
      → is_tied q part d.attr b ≡ true → v d.attr.column ≡ v b.column
  tie_in_cell v h b e d k t = serves.classes place at v h d.attr b (All-contains (λ (x : Dim). x.attr.stream ≡ place) dims d (serves.keeps.dims place at) (Contains-from_has dims d k)) e t

  -- a column that is kept has in an admitted row the value of its cell
  column_kept : (v : View) (z : ℤ) → admits q part place v ≡ true → (a : Attr) → a.stream ≡ place → IsKept q part a
      → v a.column ≡ row_of_cell q part place (row_place dims v) z a.column
  column_kept v z h a e i =
      let b : Attr = record { stream = place; column = a.column } in
      let same : a ≡ b = (λ j. record { stream = e j; column = a.column }) in
      let among : Has dims i.dim = subst (λ n. Has (dims_at part n) i.dim) e (Has-from_contains (dims_at part a.stream) i.dim i.among) in
      let found : IsFound (is_tied q part) dims v z b = inl (i.dim, among, subst (λ x. is_tied q part i.dim.attr x ≡ true) same i.tied) in
      sym (looked_in_cell v z h a.column ∙ looked-row (is_tied q part) dims v z b (tie_in_cell v h b refl) found)

  -- every column of the cell of an admitted row has the row's value or is the extreme
  column_either : (v : View) (z : ℤ) → admits q part place v ≡ true → (column : ℕ)
      → (row_of_cell q part place (row_place dims v) z column ≡ v column) ⊎ (row_of_cell q part place (row_place dims v) z column ≡ z)
  column_either v z h column =
      let b : Attr = record { stream = place; column = column } in
      let r = looked-either (is_tied q part) dims v z b (tie_in_cell v h b refl) in
      elim r [ inl e ↦ inl (looked_in_cell v z h column ∙ e) | inr e ↦ inr (looked_in_cell v z h column ∙ e) ]

  pub key_below : (v : View) → admits q part place v ≡ true → row_place dims v < box_size dims
  key_below v h = place-below dims v (and-right (keeps_signs place (alone v) (pairs q) part.signs.items && keeps_local place (alone v) part.local) _ h)

  -- the kind and the value of the extreme of a column
  least_kind : (a : Attr) → a.stream ≡ place → (i : IsLeastKept q part a) → (stream_at part place).kind ≡ Kind.Least i.extreme
  least_kind a e i = subst (λ n. (stream_at part n).kind ≡ Kind.Least i.extreme) e i.kind

  greatest_kind : (a : Attr) → a.stream ≡ place → (i : IsGreatestKept q part a) → (stream_at part place).kind ≡ Kind.Greatest i.extreme
  greatest_kind a e i = subst (λ n. (stream_at part n).kind ≡ Kind.Greatest i.extreme) e i.kind

  -- a cell agrees with an admitted row that has the extreme
  pub agrees : (v : View) (z : ℤ) → admits q part place v ≡ true
      → ((m : Attr) → (stream_at part place).kind ≡ Kind.Least m → z ≡ v m.column) → ((m : Attr) → (stream_at part place).kind ≡ Kind.Greatest m → z ≡ v m.column)
      → Agree q part place v (row_of_cell q part place (row_place dims v) z)
  agrees v z t f g a e (by_value i) = column_kept v z t a e i
  agrees v z t f g a e (by_least i) =
      let x : z ≡ v i.extreme.column = f i.extreme (least_kind a e i) in
      let y : v i.extreme.column ≡ v a.column = serves.classes place at v t i.extreme a (i.stream ∙ e) e i.tied in
      elim (column_either v z t a.column) [ inl h ↦ sym h | inr h ↦ sym (h ∙ x ∙ y) ]
  agrees v z t f g a e (by_greatest i) =
      let x : z ≡ v i.extreme.column = g i.extreme (greatest_kind a e i) in
      let y : v i.extreme.column ≡ v a.column = serves.classes place at v t i.extreme a (i.stream ∙ e) e i.tied in
      elim (column_either v z t a.column) [ inl h ↦ sym h | inr h ↦ sym (h ∙ x ∙ y) ]

  -- a cell stands in for an admitted row whose extreme is no better
  stands : (v : View) (z : ℤ) → admits q part place v ≡ true
      → ((m : Attr) → (stream_at part place).kind ≡ Kind.Least m → z ≤ℤ v m.column) → ((m : Attr) → (stream_at part place).kind ≡ Kind.Greatest m → v m.column ≤ℤ z)
      → StandsIn q part place v (row_of_cell q part place (row_place dims v) z)
  stands v z t f g = record { same = λ a e i. column_kept v z t a e i; below = below; above = above }
    where
      below : (a : Attr) → a.stream ≡ place → IsLeastKept q part a → row_of_cell q part place (row_place dims v) z a.column ≤ℤ v a.column
      below a e i =
          let x : z ≤ℤ v i.extreme.column = f i.extreme (least_kind a e i) in
          let y : v i.extreme.column ≡ v a.column = serves.classes place at v t i.extreme a (i.stream ∙ e) e i.tied in
          elim (column_either v z t a.column) [ inl h ↦ omega (arith, ints, h) | inr h ↦ omega (arith, ints, h, x, y) ]

      above : (a : Attr) → a.stream ≡ place → IsGreatestKept q part a → v a.column ≤ℤ row_of_cell q part place (row_place dims v) z a.column
      above a e i =
          let x : v i.extreme.column ≤ℤ z = g i.extreme (greatest_kind a e i) in
          let y : v i.extreme.column ≡ v a.column = serves.classes place at v t i.extreme a (i.stream ∙ e) e i.tied in
          elim (column_either v z t a.column) [ inl h ↦ omega (arith, ints, h) | inr h ↦ omega (arith, ints, h, x, y) ]

  least_of : (m : Attr) (y : List ℤ) (ys : List (List ℤ)) (x : List ℤ) → Has (y ∷ ys) x → least m (by_column y m.column) ys ≤ℤ by_column x m.column
  least_of m y ys x h = elim (has_cases y x ys h) [
    | inl e ↦ subst (λ u. least m (by_column y m.column) ys ≤ℤ by_column u m.column) e (least-low m (by_column y m.column) ys)
    | inr k ↦ least-below m (by_column y m.column) ys x k
  ]

  greatest_of : (m : Attr) (y : List ℤ) (ys : List (List ℤ)) (x : List ℤ) → Has (y ∷ ys) x → by_column x m.column ≤ℤ greatest m (by_column y m.column) ys
  greatest_of m y ys x h = elim (has_cases y x ys h) [
    | inl e ↦ subst (λ u. by_column u m.column ≤ℤ greatest m (by_column y m.column) ys) e (greatest-high m (by_column y m.column) ys)
    | inr k ↦ greatest-above m (by_column y m.column) ys x k
  ]

  same_least : (m n : Attr) → Kind.Least m ≡ Kind.Least n → m ≡ n
  same_least m n e = cc

  same_greatest : (m n : Attr) → Kind.Greatest m ≡ Kind.Greatest n → m ≡ n
  same_greatest m n e = cc

  -- the choice of a cell that has a row
  pub up : (k : Kind) → (stream_at part place).kind ≡ k → (ys : List (List ℤ)) (x : List ℤ) → Has ys x
      → admits q part place (by_column x) ≡ true
      → (d : Choice) × Has (cell_choice q part place (row_place dims (by_column x)) (content k ys)) d × (0 < d.times) × StandsIn q part place (by_column x) d.values
  up k e [] x h t = elim h [ ]
  up Kind.Count e (y ∷ ys) x h t =
      (_, first, omega arith, stands (by_column x) (pos 0) t (λ m f. (let g : Kind.Count ≡ Kind.Least m = sym e ∙ f in absurd cc)) (λ m f. (let g : Kind.Count ≡ Kind.Greatest m = sym e ∙ f in absurd cc)))
  up Kind.Present e (y ∷ ys) x h t =
      (_, first, omega arith, stands (by_column x) (pos 0) t (λ m f. (let g : Kind.Present ≡ Kind.Least m = sym e ∙ f in absurd cc)) (λ m f. (let g : Kind.Present ≡ Kind.Greatest m = sym e ∙ f in absurd cc)))
  up (Kind.Least n) e (y ∷ ys) x h t = (
    _,
    first,
    omega arith,
    stands (by_column x) (least n (by_column y n.column) ys) t
        (λ m f. subst (λ (o : Attr). least n (by_column y n.column) ys ≤ℤ by_column x o.column) (same_least n m (sym e ∙ f)) (least_of n y ys x h))
        (λ m f. (let g : Kind.Least n ≡ Kind.Greatest m = sym e ∙ f in absurd cc)),
  )
  up (Kind.Greatest n) e (y ∷ ys) x h t = (
    _,
    first,
    omega arith,
    stands (by_column x) (greatest n (by_column y n.column) ys) t
        (λ m f. (let g : Kind.Greatest n ≡ Kind.Least m = sym e ∙ f in absurd cc))
        (λ m f. subst (λ (o : Attr). by_column x o.column ≤ℤ greatest n (by_column y n.column) ys) (same_greatest n m (sym e ∙ f)) (greatest_of n y ys x h)),
  )

  one_choice : (v : View) (n : ℕ) (d : Choice) → Has (choice v n) d → v ≡ d.values
  one_choice v n d h = elim (has_cases _ d [] h) [ inl e ↦ ap (λ c. c.values) e | inr k ↦ elim k [ ] ]

  -- a row of the cell that a choice comes from
  abbrev Row : List (List ℤ) → Choice → Type 0
  Row ys d = (x : List ℤ) × Has ys x × Agree q part place d.values (by_column x)

  turned : (x : List ℤ) (i : ℕ) (z : ℤ) (n : ℕ) (d : Choice) → Has (choice (cell i z) n) d → row_place dims (by_column x) ≡ i
      → Agree q part place (by_column x) (cell (row_place dims (by_column x)) z) → Agree q part place d.values (by_column x)
  turned x i z n d h e g a f w =
      let o : cell i z ≡ d.values = one_choice (cell i z) n d h in
      sym (g a f w ∙ ap (λ j. cell j z a.column) e ∙ ap (λ v. v a.column) o)

  pub down : (k : Kind) → (stream_at part place).kind ≡ k → (i : ℕ) (ys : List (List ℤ))
      → ((x : List ℤ) → Has ys x → (admits q part place (by_column x) ≡ true) × (row_place dims (by_column x) ≡ i))
      → (d : Choice) → Has (cell_choice q part place i (content k ys)) d → Row ys d
  down k e i [] r d h = elim h [ ]
  down Kind.Count e i (y ∷ ys) r d h =
      (y, first, turned y i (pos 0) _ d h (r y first).1 (agrees (by_column y) (pos 0) (r y first).0 (λ m f. (let g : Kind.Count ≡ Kind.Least m = sym e ∙ f in absurd cc)) (λ m f. (let g : Kind.Count ≡ Kind.Greatest m = sym e ∙ f in absurd cc))))
  down Kind.Present e i (y ∷ ys) r d h =
      (y, first, turned y i (pos 0) _ d h (r y first).1 (agrees (by_column y) (pos 0) (r y first).0 (λ m f. (let g : Kind.Present ≡ Kind.Least m = sym e ∙ f in absurd cc)) (λ m f. (let g : Kind.Present ≡ Kind.Greatest m = sym e ∙ f in absurd cc))))
  down (Kind.Least n) e i (y ∷ ys) r d h =
      let z : ℤ = least n (by_column y n.column) ys in
      let by : (x : List ℤ) → Has (y ∷ ys) x → z ≡ by_column x n.column → Row (y ∷ ys) d
      = λ x k o. (
        x,
        k,
        turned x i z _ d h (r x k).1 (agrees (by_column x) z (r x k).0
            (λ m f. subst (λ (b : Attr). z ≡ by_column x b.column) (same_least n m (sym e ∙ f)) o)
            (λ m f. (let g : Kind.Least n ≡ Kind.Greatest m = sym e ∙ f in absurd cc))),
      ) in
      elim (least-is n (by_column y n.column) ys) [
        | inl e ↦ by y first e
        | inr o ↦ by o.0 (later o.1) o.2
      ]
  down (Kind.Greatest n) e i (y ∷ ys) r d h =
      let z : ℤ = greatest n (by_column y n.column) ys in
      let by : (x : List ℤ) → Has (y ∷ ys) x → z ≡ by_column x n.column → Row (y ∷ ys) d
      = λ x k o. (
        x,
        k,
        turned x i z _ d h (r x k).1 (agrees (by_column x) z (r x k).0
            (λ m f. (let g : Kind.Greatest n ≡ Kind.Least m = sym e ∙ f in absurd cc))
            (λ m f. subst (λ (b : Attr). z ≡ by_column x b.column) (same_greatest n m (sym e ∙ f)) o)),
      ) in
      elim (greatest-is n (by_column y n.column) ys) [
        | inl e ↦ by y first e
        | inr o ↦ by o.0 (later o.1) o.2
      ]
