-- A column is bounded exactly where constants or ends of domains of the query lie on both sides of it in every assignment.
use Rattle.std.proofs.Common.{◌≡◌, ℕ, suc, ℤ, pos, ◌+ℤ◌, ◌-ℤ◌, nat_abs, ◌<ℤ◌, ◌≤ℤ◌, List, [], ◌∷◌, ◌++◌, Contains, ◌⊎◌, inl, inr, sym, ◌∙◌, ap, subst, arith, append-nil}
use Rattle.std.specs.List.{flat_map}
use Rattle.std.proofs.lemmas.Int.{ints, by_lt_z}
use Rattle.sem_query.proofs.Has.{Has, first, later, Has-from_contains, Contains-from_has}
use Rattle.sem_query.proofs.Local.{lt_along, eq_along, same_sign}
use Rattle.sem_query.proofs.Shift.{raised, raised-rises, raised-same, raised-above, lowered, lowered-rises, lowered-same, lowered-below, moved, InPart-moved}
use Rattle.sem_query.specs.declared.atom.Attr.{Attr}
use Rattle.sem_query.specs.declared.part.Sign.{Sign}
use Rattle.sem_query.specs.declared.atom.Element.TheVariants as element
use Rattle.sem_query.specs.Query.{QueryValue, consts_of}
use Rattle.sem_query.specs.Assignment.{Assignment}
use Rattle.sem_query.specs.Parts.{InPart, IsPart}
use Rattle.sem_query.specs.Order.{IsElement, IsLess, IsEqual, IsBounded}
use Rattle.sem_query.specs.Links.{IsInequality, between, equal_left, equal_right}
use Rattle.sem_query.specs.Laws.{ends_of, IsEnclosed, EndsBound, SidesAreBoundedTogether}

-- a constant at or above z, or every constant is below it
pub data Ceiling (ks : List ℤ) (z : ℤ) : Type 0 where
  under : (k : ℤ) → Contains ks k → z ≤ℤ k → Ceiling ks z
  over_all : ((k : ℤ) → Contains ks k → k <ℤ z) → Ceiling ks z

-- a constant at or below z, or every constant is above it
pub data Floor (ks : List ℤ) (z : ℤ) : Type 0 where
  over : (k : ℤ) → Contains ks k → k ≤ℤ z → Floor ks z
  under_all : ((k : ℤ) → Contains ks k → z <ℤ k) → Floor ks z

head_or : {P : ℤ → Type 0} (j : ℤ) (ks : List ℤ) → P j → ((k : ℤ) → Has ks k → P k) → (k : ℤ) → Has (j ∷ ks) k → P k
head_or j ks p f k first = p
head_or j ks p f k (later h) = f k h

pub ceiling_of : (ks : List ℤ) (z : ℤ) → Ceiling ks z
ceiling_of [] z = over_all (λ k h. elim (Has-from_contains [] k h) [ ])
ceiling_of (j ∷ ks) z =
    by_lt_z j z
    (λ h. elim (ceiling_of ks z) [
      | under k i l ↦ under k (Contains-from_has _ k (later (Has-from_contains _ k i))) l
      | over_all f ↦ over_all (λ k i. head_or {P = λ k. k <ℤ z} j ks h (λ k i. f k (Contains-from_has _ k i)) k (Has-from_contains _ k i))
    ])
    (λ h. under j (Contains-from_has _ j first) h)

pub floor_of : (ks : List ℤ) (z : ℤ) → Floor ks z
floor_of [] z = under_all (λ k h. elim (Has-from_contains [] k h) [ ])
floor_of (j ∷ ks) z =
    by_lt_z z j
    (λ h. elim (floor_of ks z) [
      | over k i l ↦ over k (Contains-from_has _ k (later (Has-from_contains _ k i))) l
      | under_all f ↦ under_all (λ k i. head_or {P = λ k. z <ℤ k} j ks h (λ k i. f k (Contains-from_has _ k i)) k (Has-from_contains _ k i))
    ])
    (λ h. over j (Contains-from_has _ j first) h)

module _ (q : QueryValue) (s : List Sign) (p : IsPart q s) where
  -- what the one assignment says of an attribute and a constant, every assignment says
  pub attr_lt_const : (a : Attr) (k : ℤ) → IsElement q (element.Attr a) → IsElement q (element.Const k) → p.one a <ℤ k → IsLess q s (element.Attr a) (element.Const k)
  attr_lt_const a k h i l = record { less = λ v j. lt_along _ _ _ _ (same_sign q p.one v (p.inside.signs ∙ sym j.signs) (element.Attr a) (element.Const k) h i tt) l }

  pub const_lt_attr : (a : Attr) (k : ℤ) → IsElement q (element.Attr a) → IsElement q (element.Const k) → k <ℤ p.one a → IsLess q s (element.Const k) (element.Attr a)
  const_lt_attr a k h i l = record { less = λ v j. lt_along _ _ _ _ (same_sign q p.one v (p.inside.signs ∙ sym j.signs) (element.Const k) (element.Attr a) i h tt) l }

  attr_eq_const : (a : Attr) (k : ℤ) → IsElement q (element.Attr a) → IsElement q (element.Const k) → p.one a ≡ k → IsEqual q s (element.Attr a) (element.Const k)
  attr_eq_const a k h i l = record { equal = λ v j. eq_along _ _ _ _ (same_sign q p.one v (p.inside.signs ∙ sym j.signs) (element.Attr a) (element.Const k) h i tt) l }

  at_most : (a : Attr) (k : ℤ) → IsElement q (element.Attr a) → IsElement q (element.Const k) → p.one a ≤ℤ k → (v : Assignment) → InPart q s v → v a ≤ℤ k
  at_most a k h i l v j =
      by_lt_z (p.one a) k
      (λ m. let g : v a <ℤ k = (attr_lt_const a k h i m).less v j in omega (arith, ints))
      (λ m. let e : p.one a ≡ k = omega (arith, ints) in let g : v a ≡ k = (attr_eq_const a k h i e).equal v j in omega (arith, ints))

  at_least : (a : Attr) (k : ℤ) → IsElement q (element.Attr a) → IsElement q (element.Const k) → k ≤ℤ p.one a → (v : Assignment) → InPart q s v → k ≤ℤ v a
  at_least a k h i l v j =
      by_lt_z k (p.one a)
      (λ m. let g : k <ℤ v a = (const_lt_attr a k h i m).less v j in omega (arith, ints))
      (λ m. let e : p.one a ≡ k = omega (arith, ints) in let g : v a ≡ k = (attr_eq_const a k h i e).equal v j in omega (arith, ints))

  -- between two constants in one assignment, an attribute is bounded
  pub bounded_between : (a : Attr) (low high : ℤ) → IsElement q (element.Attr a) → IsElement q (element.Const low) → IsElement q (element.Const high) → low ≤ℤ p.one a → p.one a ≤ℤ high → IsBounded q s a
  bounded_between a low high h i j l m = record { low = low; high = high; above = at_least a low h i l; below = at_most a high h j m }

  -- above every end in one assignment, it is not
  pub unbounded_over_all : (a : Attr) → ((k : ℤ) → Contains (ends_of q) k → k <ℤ p.one a) → ¬ IsBounded q s a
  unbounded_over_all a f b =
      let z : ℤ = p.one a in
      let c : ℤ = z -ℤ pos 1 in
      let t : ℕ = suc (nat_abs (b.high -ℤ z)) in
      let keep : (k : ℤ) → Contains (ends_of q) k → raised c t k ≡ k = λ k i. raised-same c t k (let g : k <ℤ z = f k i in omega (arith, ints)) in
      let here : InPart q s (moved q s (raised c t) (raised-rises c t) keep p.one p.inside) = InPart-moved q s (raised c t) (raised-rises c t) keep p.one p.inside in
      let e : raised c t z ≡ z +ℤ pos t = raised-above c t z (omega (arith, ints)) in
      let l : raised c t z ≤ℤ b.high = unfold moved in b.below _ here in
      omega (arith, ints)

  -- nor below every one
  pub unbounded_under_all : (a : Attr) → ((k : ℤ) → Contains (ends_of q) k → p.one a <ℤ k) → ¬ IsBounded q s a
  unbounded_under_all a f b =
      let z : ℤ = p.one a in
      let c : ℤ = z +ℤ pos 1 in
      let t : ℕ = suc (nat_abs (b.low -ℤ z)) in
      let keep : (k : ℤ) → Contains (ends_of q) k → lowered c t k ≡ k = λ k i. lowered-same c t k (let g : z <ℤ k = f k i in omega (arith, ints)) in
      let here : InPart q s (moved q s (lowered c t) (lowered-rises c t) keep p.one p.inside) = InPart-moved q s (lowered c t) (lowered-rises c t) keep p.one p.inside in
      let e : lowered c t z ≡ z -ℤ pos t = lowered-below c t z (omega (arith, ints)) in
      let l : b.low ≤ℤ lowered c t z = unfold moved in b.above _ here in
      omega (arith, ints)

  -- where an attribute stands among the constants
  pub data Standing (a : Attr) : Type 0 where
    enclosed : (low high : ℤ) → IsElement q (element.Const low) → IsElement q (element.Const high) → low ≤ℤ p.one a → p.one a ≤ℤ high → Standing a
    too_high : ((k : ℤ) → IsElement q (element.Const k) → k <ℤ p.one a) → Standing a
    too_low : ((k : ℤ) → IsElement q (element.Const k) → p.one a <ℤ k) → Standing a

  -- each attribute is enclosed, too high or too low
  pub standing : (a : Attr) → Standing a
  standing a =
      elim (ceiling_of (consts_of q.atoms) (p.one a)) [
        | over_all f ↦ too_high (λ k i. f k i)
        | under high i l ↦ elim (floor_of (consts_of q.atoms) (p.one a)) [
          | under_all f ↦ too_low (λ k i. f k i)
          | over low j m ↦ enclosed low high j i m l
        ]
      ]

  bounded_together : q.domains ≡ [] → (x y : Attr) → IsInequality q s x y → (IsBounded q s x × IsBounded q s y) ⊎ ((¬ IsBounded q s x) × (¬ IsBounded q s y))
  bounded_together none x y n = together (standing x) (standing y)
    where
      -- without domains the ends are the constants
      over_ends : (P : ℤ → Type 0) → ((k : ℤ) → IsElement q (element.Const k) → P k) → (k : ℤ) → Contains (ends_of q) k → P k
      over_ends P f k h = f k (subst (λ ks. Contains ks k) (ap (λ ds. consts_of q.atoms ++ flat_map (λ d. d.lo ∷ d.hi ∷ []) ds) none ∙ append-nil (consts_of q.atoms)) h)

      over : (a : Attr) → ((k : ℤ) → IsElement q (element.Const k) → k <ℤ p.one a) → ¬ IsBounded q s a
      over a f = unbounded_over_all a (over_ends (λ k. k <ℤ p.one a) f)

      under_it : (a : Attr) → ((k : ℤ) → IsElement q (element.Const k) → p.one a <ℤ k) → ¬ IsBounded q s a
      under_it a f = unbounded_under_all a (over_ends (λ k. p.one a <ℤ k) f)

      l : p.one x <ℤ p.one y
      l = n.less.less p.one p.inside

      hx : IsElement q (element.Attr x)
      hx = n.across.left

      hy : IsElement q (element.Attr y)
      hy = n.across.right

      -- x at most k, and y above it
      cut_high : (k : ℤ) → IsElement q (element.Const k) → p.one x ≤ℤ k → k <ℤ p.one y → ⊥
      cut_high k i h g =
          by_lt_z (p.one x) k
          (λ m. n.needed (between (element.Const k) i (attr_lt_const x k hx i m) (const_lt_attr y k hy i g)))
          (λ m. let e : p.one x ≡ k = omega (arith, ints) in n.needed (equal_left k i (attr_eq_const x k hx i e) (const_lt_attr y k hy i g)))

      -- y at least k, and x below it
      cut_low : (k : ℤ) → IsElement q (element.Const k) → k ≤ℤ p.one y → p.one x <ℤ k → ⊥
      cut_low k i h g =
          by_lt_z k (p.one y)
          (λ m. n.needed (between (element.Const k) i (attr_lt_const x k hx i g) (const_lt_attr y k hy i m)))
          (λ m. let e : p.one y ≡ k = omega (arith, ints) in
          n.needed (equal_right k i (attr_lt_const x k hx i g) record { equal = λ v j. sym ((attr_eq_const y k hy i e).equal v j) }))

      together : Standing x → Standing y → (IsBounded q s x × IsBounded q s y) ⊎ ((¬ IsBounded q s x) × (¬ IsBounded q s y))
      together (enclosed a b i j g h) (enclosed c d i' j' g' h') = inl (bounded_between x a b hx i j g h, bounded_between y c d hy i' j' g' h')
      together (enclosed a b i j g h) (too_high f) = absurd (cut_high b j h (f b j))
      together (enclosed a b i j g h) (too_low f) = let m : p.one y <ℤ a = f a i in absurd (omega (arith, ints, l))
      together (too_high f) (enclosed c d i j g h) = let m : d <ℤ p.one x = f d j in absurd (omega (arith, ints, l))
      together (too_low f) (enclosed c d i j g h) = absurd (cut_low c i g (f c i))
      together (too_high f) (too_high g) = inr (over x f, over y g)
      together (too_high f) (too_low g) = inr (over x f, under_it y g)
      together (too_low f) (too_high g) = inr (under_it x f, over y g)
      together (too_low f) (too_low g) = inr (under_it x f, under_it y g)

-- the greatest of some integers
greatest_end : (ks : List ℤ) (k : ℤ) → Has ks k → (m : ℤ) × Has ks m × ((j : ℤ) → Has ks j → j ≤ℤ m)
greatest_end [] k h = elim h [ ]
greatest_end (i ∷ []) k h = (i, first, λ j g. head_or {P = λ j. j ≤ℤ i} i [] (omega (arith, ints)) (λ j l. elim l [ ]) j g)
greatest_end (i ∷ j ∷ ks) k h =
    let r : (m : ℤ) × Has (j ∷ ks) m × ((n : ℤ) → Has (j ∷ ks) n → n ≤ℤ m) = greatest_end (j ∷ ks) j first in
    by_lt_z r.0 i
    (λ l. (i, first, λ n g. head_or {P = λ n. n ≤ℤ i} i (j ∷ ks) (omega (arith, ints)) (λ n g. let u : n ≤ℤ r.0 = r.2 n g in omega (arith, ints, u, l)) n g))
    (λ l. (r.0, later r.1, λ n g. head_or {P = λ n. n ≤ℤ r.0} i (j ∷ ks) l (λ n g. r.2 n g) n g))

-- and the least
least_end : (ks : List ℤ) (k : ℤ) → Has ks k → (m : ℤ) × Has ks m × ((j : ℤ) → Has ks j → m ≤ℤ j)
least_end [] k h = elim h [ ]
least_end (i ∷ []) k h = (i, first, λ j g. head_or {P = λ j. i ≤ℤ j} i [] (omega (arith, ints)) (λ j l. elim l [ ]) j g)
least_end (i ∷ j ∷ ks) k h =
    let r : (m : ℤ) × Has (j ∷ ks) m × ((n : ℤ) → Has (j ∷ ks) n → m ≤ℤ n) = least_end (j ∷ ks) j first in
    by_lt_z i r.0
    (λ l. (i, first, λ n g. head_or {P = λ n. i ≤ℤ n} i (j ∷ ks) (omega (arith, ints)) (λ n g. let u : r.0 ≤ℤ n = r.2 n g in omega (arith, ints, u, l)) n g))
    (λ l. (r.0, later r.1, λ n g. head_or {P = λ n. r.0 ≤ℤ n} i (j ∷ ks) l (λ n g. r.2 n g) n g))

module _ (q : QueryValue) (s : List Sign) (a : Attr) (b : IsBounded q s a) where
  -- no assignment of the part has it above all ends, or below all
  not_over : (v : Assignment) → InPart q s v → ((k : ℤ) → Contains (ends_of q) k → k <ℤ v a) → ⊥
  not_over v i f = unbounded_over_all q s record { one = v; inside = i } a f b

  not_under : (v : Assignment) → InPart q s v → ((k : ℤ) → Contains (ends_of q) k → v a <ℤ k) → ⊥
  not_under v i f = unbounded_under_all q s record { one = v; inside = i } a f b

  some_end : IsPart q s → (k : ℤ) × Has (ends_of q) k
  some_end p = elim (ceiling_of (ends_of q) (p.one a)) [
    | over_all f ↦ absurd (not_over p.one p.inside f)
    | under k i l ↦ (k, Has-from_contains _ k i)
  ]

  enclosed_where_bounded : IsPart q s → IsEnclosed q s a
  enclosed_where_bounded p =
      let e : (k : ℤ) × Has (ends_of q) k = some_end p in
      let low : (m : ℤ) × Has (ends_of q) m × ((j : ℤ) → Has (ends_of q) j → m ≤ℤ j) = least_end (ends_of q) e.0 e.1 in
      let high : (m : ℤ) × Has (ends_of q) m × ((j : ℤ) → Has (ends_of q) j → j ≤ℤ m) = greatest_end (ends_of q) e.0 e.1 in
      record {
        low = low.0;
        high = high.0;
        named_low = Contains-from_has _ low.0 low.1;
        named_high = Contains-from_has _ high.0 high.1;
        above = λ v i. by_lt_z (v a) low.0 (λ l. absurd (not_under v i (λ k j. let u : low.0 ≤ℤ k = low.2 k (Has-from_contains _ k j) in omega (arith, ints, u, l)))) (λ l. l);
        below = λ v i. by_lt_z high.0 (v a) (λ l. absurd (not_over v i (λ k j. let u : k ≤ℤ high.0 = high.2 k (Has-from_contains _ k j) in omega (arith, ints, u, l)))) (λ l. l);
      }

-- without domains the two sides of a nonredundant inequality are bounded together
pub sides_are_bounded_together : SidesAreBoundedTogether
sides_are_bounded_together q none s p x y n = bounded_together q s p none x y n

-- a column is bounded exactly where two ends enclose it
pub ends_bound : EndsBound
ends_bound q s p a = (λ b. enclosed_where_bounded q s a b p, λ e. record { low = e.low; high = e.high; above = e.above; below = e.below })
