-- Without DISTINCT two columns of different streams that both lie out at one end, the one never greater than the other, give a family.
use Rattle.std.proofs.Common.{◌≡◌, ◌≢◌, ℕ, suc, ◌+◌, ◌*◌, ◌<◌, ◌≤◌, ◌⊎◌, inl, inr, List, [], ◌∷◌, length, cond, not, Bool, true, false, ◌&&◌, refl, sym, ap, ◌∙◌, subst, arith, nat_abs, ℤ, ◌-ℤ◌, ◌<ℤ◌, ◌≤ℤ◌, Contains}
use Rattle.std.proofs.lemmas.Int.{ints}
use Rattle.sem_query.proofs.Has.{Has, first, later, Has-from_contains, Contains-from_has, same_map}
use Rattle.sem_query.proofs.Elements.{sides_in, HasElement}
use Rattle.sem_query.proofs.Holding.{Holds-each, Holds-from_each}
use Rattle.sem_query.specs.declared.atom.Attr.{Attr}
use Rattle.sem_query.specs.declared.atom.Atom.{Atom}
use Rattle.sem_query.specs.declared.atom.Op.{Op}
use Rattle.sem_query.specs.declared.atom.Element.{Element}
use Rattle.sem_query.specs.declared.atom.Element.TheVariants as element
use Rattle.sem_query.specs.declared.part.Sign.{Sign}
use Rattle.sem_query.specs.Query.{QueryValue, attrs_of, consts_of}
use Rattle.sem_query.specs.Assignment.{Assignment, value, compares, meets, holds, projected}
use Rattle.sem_query.specs.Order.{IsBounded}
use Rattle.sem_query.specs.Links.{AreAcross}
use Rattle.sem_query.specs.Parts.{InPart}
use Rattle.sem_query.specs.Tuples.{is_same}
use Rattle.sem_laws.proofs.Order.{same-itself}
use Rattle.sem_laws.proofs.Sums.{bit}
use Rattle.sem_laws.proofs.Tests.{and-left, and-right, true_or_false, not_both, false_if}
use Rattle.sem_lower_bounds.specs.Plain.{HasNoDomains}
use Rattle.sem_lower_bounds.specs.States.{NeedsStates}
use Rattle.sem_lower_bounds.proofs.Formed.{IsFormed}
use Rattle.sem_lower_bounds.proofs.Families.{IsFamily, upward-needs, downward-needs, others-need}
use Rattle.sem_lower_bounds.proofs.Mixing.{score, score-fails}
use Rattle.sem_lower_bounds.proofs.Movers.{Mover, away, agrees, first_at, second_at, over-if, under-if, over-back, under-back, Meeting, meeting}
use Rattle.sem_lower_bounds.proofs.Crossing.{differs, some_passes, shifted, shifted-inside, shifted-is, mix, lies_out, is_here, crosses, mix-is, atom-mix, mix-inside}
use Rattle.sem_lower_bounds.proofs.Ranges.{IsNear}

-- whether a comparison forbids nothing but that its sides are equal
abbrev is_level : Op → Bool
is_level Op.Ne = true
is_level Op.Lt = false
is_level Op.Eq = false
is_level Op.Gt = false
is_level Op.Le = false
is_level Op.Ge = false

-- which order of its sides a comparison does not allow
data Kind (o : Op) : Type 0 where
  over : ((x y : ℤ) → y <ℤ x → compares o x y ≡ false) → Kind o
  under : ((x y : ℤ) → x <ℤ y → compares o x y ≡ false) → Kind o
  level : is_level o ≡ true → Kind o

kind : (o : Op) → Kind o
kind Op.Lt = over (λ x y h. grind (arith, ints, h))
kind Op.Eq = over (λ x y h. grind (arith, ints, h))
kind Op.Gt = under (λ x y h. grind (arith, ints, h))
kind Op.Le = over (λ x y h. grind (arith, ints, h))
kind Op.Ge = under (λ x y h. grind (arith, ints, h))
kind Op.Ne = level refl

level_false : (o : Op) → is_level o ≡ true → (x y : ℤ) → x ≡ y → compares o x y ≡ false
level_false Op.Ne e x y h = grind (arith, ints, h)
level_false Op.Lt e x y h = absurd cc
level_false Op.Eq e x y h = absurd cc
level_false Op.Gt e x y h = absurd cc
level_false Op.Le e x y h = absurd cc
level_false Op.Ge e x y h = absurd cc

level_true : (o : Op) → is_level o ≡ true → (x y : ℤ) → x ≢ y → compares o x y ≡ true
level_true Op.Ne e x y h = grind (arith, ints, h)
level_true Op.Lt e x y h = absurd cc
level_true Op.Eq e x y h = absurd cc
level_true Op.Gt e x y h = absurd cc
level_true Op.Le e x y h = absurd cc
level_true Op.Ge e x y h = absurd cc

-- the absolute values of these columns, added up
abbrev spread_of : Assignment → List Attr → ℕ
spread_of u [] = 0
spread_of u (a ∷ xs) = nat_abs (u a) + spread_of u xs

in_spread : (u : Assignment) (xs : List Attr) (a : Attr) → Has xs a → nat_abs (u a) ≤ spread_of u xs
in_spread u [] a h = elim h [ ]
in_spread u (b ∷ xs) a first = omega arith
in_spread u (b ∷ xs) a (later h) = let l : nat_abs (u a) ≤ spread_of u xs = in_spread u xs a h in omega (arith, l)

close_values : (x y : ℤ) (n : ℕ) → nat_abs x ≤ n → nat_abs y ≤ n → nat_abs (x -ℤ y) ≤ n + n
close_values x y n h l = omega (arith, ints, h, l)

less_differ : (x y : ℤ) → x <ℤ y → x ≢ y
less_differ x y h e = omega (arith, ints, h, e)

more_differ : (x y : ℤ) → y <ℤ x → x ≢ y
more_differ x y h e = omega (arith, ints, h, e)

other_of : (b c : Bool) → differs b c ≡ true → c ≡ not b
other_of true true e = absurd cc
other_of true false e = refl
other_of false true e = refl
other_of false false e = absurd cc

swapped : {A : Type 0} (b : Bool) (p r : A) → cond (not b) p r ≡ cond b r p
swapped true p r = refl
swapped false p r = refl

next_times : (d i j : ℕ) → i < j → i * d + d ≤ j * d
next_times d i j l = let e : suc i * d ≤ j * d = grind (arith, l) in omega (arith, e)

-- so far that z leaves the range of two integers, up or down
abbrev beyond : ℤ → ℤ → ℤ → ℕ
beyond z low high = suc (nat_abs (high -ℤ z) + nat_abs (low -ℤ z))

runs_over : (up : Bool) (z low high y : ℤ) → y ≡ away up z (beyond z low high) → low ≤ℤ y → y ≤ℤ high → ⊥
runs_over true z low high y is l h = omega (arith, ints, is, h)
runs_over false z low high y is l h = omega (arith, ints, is, l)

least_or : (i j : ℕ) → i ≢ j → (i < j) ⊎ (j < i)
least_or i j n = grind (arith, n)

module _ (q : QueryValue) (none : HasNoDomains q) (s : List Sign) (u : Assignment) (inside : InPart q s u) (m : Mover q) (place : ℕ) where
  abbrev C : Element → Element → Bool
  C = crosses q none s u inside m place

  abbrev moved_to : ℕ → Assignment
  moved_to = shifted q none s u inside m place

  abbrev M : ℕ → ℕ → Assignment
  M = mix q none s u inside m place

  abbrev here : Attr → Bool
  here = is_here q none s u inside m place

  abbrev out : Attr → Bool
  out = lies_out q none s u inside m place

  -- how far any two columns are apart
  abbrev width : ℕ
  width = spread_of u (attrs_of q.atoms) + spread_of u (attrs_of q.atoms)

  abbrev gap : ℕ
  gap = suc width

  pub step : ℕ
  step = gap + width

  -- two columns that cross
  record Crossed (x y : Element) : Type 0 where
    a : Attr
    b : Attr
    left : x ≡ element.Attr a
    right : y ≡ element.Attr b
    other : here b ≡ not (here a)
    out_a : out a ≡ true
    out_b : out b ≡ true

  crossed : (x y : Element) → C x y ≡ true → Crossed x y
  crossed (element.Attr a) (element.Attr b) e =
      let d : differs (here a) (here b) ≡ true = and-left (differs (here a) (here b)) (out a && out b) e in
      let o : (out a && out b) ≡ true = and-right (differs (here a) (here b)) (out a && out b) e in
      record { a = a; b = b; left = refl; right = refl; other = other_of (here a) (here b) d; out_a = and-left (out a) (out b) o; out_b = and-right (out a) (out b) o }
  crossed (element.Attr a) (element.Const k) e = absurd cc
  crossed (element.Const j) y e = absurd cc

  near_columns : (a b : Attr) → Has (attrs_of q.atoms) a → Has (attrs_of q.atoms) b → nat_abs (u a -ℤ u b) ≤ width
  near_columns a b h i = close_values (u a) (u b) (spread_of u (attrs_of q.atoms)) (in_spread u (attrs_of q.atoms) a h) (in_spread u (attrs_of q.atoms) b i)

  module _ (x y : Element) (k : Crossed x y) (hx : HasElement (attrs_of q.atoms) (consts_of q.atoms) x) (hy : HasElement (attrs_of q.atoms) (consts_of q.atoms) y) where
    close : nat_abs (u k.a -ℤ u k.b) ≤ width
    close = near_columns k.a k.b
        (subst (HasElement (attrs_of q.atoms) (consts_of q.atoms)) k.left hx)
        (subst (HasElement (attrs_of q.atoms) (consts_of q.atoms)) k.right hy)

    close_gap : nat_abs (u k.a -ℤ u k.b) < gap
    close_gap = omega (arith, close)

    left_is : (p r : ℕ) → value x (M p r) ≡ first_at m.up (here k.a) (u k.a) p r
    left_is p r =
        ap (λ e. value e (M p r)) k.left ∙ mix-is q none s u inside m place p r k.a
        ∙ m.gone (cond (here k.a) p r) (u k.a) k.out_a

    right_is : (p r : ℕ) → value y (M p r) ≡ second_at m.up (here k.a) (u k.b) p r
    right_is p r =
        ap (λ e. value e (M p r)) k.right ∙ mix-is q none s u inside m place p r k.b
        ∙ m.gone (cond (here k.b) p r) (u k.b) k.out_b
        ∙ ap (λ c. away m.up (u k.b) (cond c p r)) k.other
        ∙ ap (λ n. away m.up (u k.b) n) (swapped (here k.a) p r)

    less_from : (p r : ℕ) → first_at m.up (here k.a) (u k.a) p r <ℤ second_at m.up (here k.a) (u k.b) p r → value x (M p r) <ℤ value y (M p r)
    less_from p r h = subst (λ z. z <ℤ value y (M p r)) (sym (left_is p r)) (subst (λ z. first_at m.up (here k.a) (u k.a) p r <ℤ z) (sym (right_is p r)) h)

    more_from : (p r : ℕ) → second_at m.up (here k.a) (u k.b) p r <ℤ first_at m.up (here k.a) (u k.a) p r → value y (M p r) <ℤ value x (M p r)
    more_from p r h = subst (λ z. z <ℤ value x (M p r)) (sym (right_is p r)) (subst (λ z. second_at m.up (here k.a) (u k.b) p r <ℤ z) (sym (left_is p r)) h)

    -- whether moving the place farther makes the left side the greater one
    abbrev agree : Bool
    agree = agrees m.up (here k.a)

    over_first : agree ≡ true → (p r : ℕ) → r + gap ≤ p → value y (M p r) <ℤ value x (M p r)
    over_first e p r l = more_from p r (over-if (u k.a) (u k.b) p r gap close_gap m.up (here k.a) l e)

    under_first : agree ≡ false → (p r : ℕ) → r + gap ≤ p → value x (M p r) <ℤ value y (M p r)
    under_first e p r l = less_from p r (under-if (u k.a) (u k.b) p r gap close_gap m.up (here k.a) l e)

    over_second : agree ≡ false → (p r : ℕ) → p + gap ≤ r → value y (M p r) <ℤ value x (M p r)
    over_second e p r l = more_from p r (over-back (u k.a) (u k.b) p r gap close_gap m.up (here k.a) l e)

    under_second : agree ≡ true → (p r : ℕ) → p + gap ≤ r → value x (M p r) <ℤ value y (M p r)
    under_second e p r l = less_from p r (under-back (u k.a) (u k.b) p r gap close_gap m.up (here k.a) l e)

    differ_by : (p r : ℕ) → (r + gap ≤ p) ⊎ (p + gap ≤ r) → value x (M p r) ≢ value y (M p r)
    differ_by p r o = elim (true_or_false agree) [
      | inl e ↦ elim o [ inl l ↦ more_differ _ _ (over_first e p r l) | inr l ↦ less_differ _ _ (under_second e p r l) ]
      | inr e ↦ elim o [ inl l ↦ less_differ _ _ (under_first e p r l) | inr l ↦ more_differ _ _ (over_second e p r l) ]
    ]

  fails : (v : Assignment) (o : Atom) → Has q.atoms o → compares o.op (value o.left v) (value o.right v) ≡ false → holds q v ≡ false
  fails v o h e = false_if (holds q v) (λ g. not_both (meets v o) (Holds-each q v g o h) e)

  near_moved : (p : ℕ) → p ≤ step → (n : ℕ) → IsNear u step n (λ j. moved_to (j * step + p))
  near_moved p small n = record {
    near = λ j l a. (
        let e : nat_abs (m.moves (j * step + p) (u a)) ≤ nat_abs (u a) + (j * step + p) = m.near (j * step + p) (u a) in
        let f : nat_abs (moved_to (j * step + p) a) ≤ nat_abs (u a) + (j * step + p)
        = subst (λ z. nat_abs z ≤ nat_abs (u a) + (j * step + p)) (sym (shifted-is q none s u inside m place (j * step + p) a)) e in
        let g : j * step + step ≤ n * step = next_times step j n l in
        let c : n * step ≡ step * n = grind arith in
        omega (arith, f, g, c, small));
  }

  module _ (within : IsFormed q) (d : q.distinct ≡ false) (at : place < length q.from) (two : 1 < length q.from) where
    abbrev w : ℕ → Assignment
    w i = moved_to (i * step + 0)

    family : IsFamily q place w
    family = record { at = at; each = λ i. (shifted-inside q none s u inside m place (i * step + 0)).holds }

    steps : (i j : ℕ) → i < j → (i * step + 0) + gap ≤ j * step + 0
    unfolding step
    steps i j l = let e : i * step + step ≤ j * step = next_times step i j l in omega (arith, e)

    -- a comparison that crosses and forbids an order
    order-needs : (o : Atom) → Has q.atoms o → Crossed o.left o.right → is_level o.op ≡ false → NeedsStates q
    order-needs o h k off = elim (kind o.op) [
      | over f ↦ elim (true_or_false (agree o.left o.right k hx hy)) [
        | inl e ↦ upward-needs q within place w family two d u step (near_moved 0 (omega arith)) (λ i j l.
            score-fails q place (w j) (w i) (fails _ o h (f _ _ (over_first o.left o.right k hx hy e (j * step + 0) (i * step + 0) (steps i j l)))))
        | inr e ↦ downward-needs q within place w family two d u step (near_moved 0 (omega arith)) (λ i j l.
            score-fails q place (w j) (w i) (fails _ o h (f _ _ (over_second o.left o.right k hx hy e (j * step + 0) (i * step + 0) (steps j i l)))))
      ]
      | under f ↦ elim (true_or_false (agree o.left o.right k hx hy)) [
        | inl e ↦ downward-needs q within place w family two d u step (near_moved 0 (omega arith)) (λ i j l.
            score-fails q place (w j) (w i) (fails _ o h (f _ _ (under_second o.left o.right k hx hy e (j * step + 0) (i * step + 0) (steps j i l)))))
        | inr e ↦ upward-needs q within place w family two d u step (near_moved 0 (omega arith)) (λ i j l.
            score-fails q place (w j) (w i) (fails _ o h (f _ _ (under_first o.left o.right k hx hy e (j * step + 0) (i * step + 0) (steps i j l)))))
      ]
      | level e ↦ absurd (not_both (is_level o.op) e off)
    ]
      where
        hx : HasElement (attrs_of q.atoms) (consts_of q.atoms) o.left
        hx = (sides_in q.atoms o h).left

        hy : HasElement (attrs_of q.atoms) (consts_of q.atoms) o.right
        hy = (sides_in q.atoms o h).right

    -- one that crosses and forbids only that its sides are equal, where all that cross do so
    level-needs : ((a : Attr) → Has q.select a → out a ≡ false) → ((o : Atom) → Has q.atoms o → C o.left o.right ≡ true → is_level o.op ≡ true)
        → (o : Atom) → Has q.atoms o → Crossed o.left o.right → is_level o.op ≡ true → NeedsStates q
    unfolding step
    level-needs settled all o h k lev =
        others-need q within place at (λ j. moved_to (j * step + t.p)) (λ i. moved_to (i * step + t.r)) two d u step
        (near_moved t.p (omega (arith, small, t.small_p)))
        (λ i. score-fails q place (moved_to (i * step + t.p)) (moved_to (i * step + t.r)) (fails _ o h (level_false o.op lev _ _
        (left_is o.left o.right k hx hy (i * step + t.p) (i * step + t.r) ∙ t.meet (i * step) ∙ sym (right_is o.left o.right k hx hy (i * step + t.p) (i * step + t.r))))))
        (λ i j n. scores (j * step + t.p) (i * step + t.r) (parted i j n))
      where
        hx : HasElement (attrs_of q.atoms) (consts_of q.atoms) o.left
        hx = (sides_in q.atoms o h).left

        hy : HasElement (attrs_of q.atoms) (consts_of q.atoms) o.right
        hy = (sides_in q.atoms o h).right

        t : Meeting m.up (here k.a) (u k.a) (u k.b)
        t = meeting m.up (here k.a) (u k.a) (u k.b)

        near_sides : nat_abs (u k.a -ℤ u k.b) ≤ width
        near_sides = close o.left o.right k hx hy

        small : nat_abs (u k.a -ℤ u k.b) ≤ step
        small = omega (arith, near_sides)

        parted : (i j : ℕ) → i ≢ j → ((i * step + t.r) + gap ≤ j * step + t.p) ⊎ ((j * step + t.p) + gap ≤ i * step + t.r)
        parted i j n = elim (least_or i j n) [
          | inl l ↦ inl (let e : i * step + step ≤ j * step = next_times step i j l in omega (arith, e, near_sides, t.small_r))
          | inr l ↦ inr (let e : j * step + step ≤ i * step = next_times step j i l in omega (arith, e, near_sides, t.small_p))
        ]

        meets_still : (p r : ℕ) → (r + gap ≤ p) ⊎ (p + gap ≤ r) → (c : Atom) → Has q.atoms c → meets (M p r) c ≡ true
        meets_still p r far c i = elim (true_or_false (C c.left c.right)) [
          | inl e ↦ level_true c.op (all c i e) _ _ (differ_by c.left c.right (crossed c.left c.right e) (sides_in q.atoms c i).left (sides_in q.atoms c i).right p r far)
          | inr e ↦ atom-mix q none s u inside m place p r c i e
        ]

        unmoved : (p r : ℕ) (a : Attr) → Has q.select a → moved_to r a ≡ M p r a
        unmoved p r a i =
            shifted-is q none s u inside m place r a ∙ m.still r (u a) (settled a i)
            ∙ sym (mix-is q none s u inside m place p r a ∙ m.still (cond (here a) p r) (u a) (settled a i))

        scores : (p r : ℕ) → (r + gap ≤ p) ⊎ (p + gap ≤ r) → score q place (moved_to p) (moved_to r) ≡ 1
        scores p r far =
            let e : holds q (M p r) ≡ true = Holds-from_each q (M p r) (meets_still p r far) in
            let f : projected q (moved_to r) ≡ projected q (M p r) = same_map (moved_to r) (M p r) q.select (unmoved p r) in
            let g : is_same (projected q (moved_to r)) (projected q (M p r)) ≡ true = ap (is_same (projected q (moved_to r))) (sym f) ∙ same-itself (projected q (moved_to r)) in
            ap (λ b. bit b * bit (is_same (projected q (moved_to r)) (projected q (M p r)))) e ∙ ap (λ b. 1 * bit b) g

  -- a column that lies out is unbounded
  out_unbounded : (a : Attr) → out a ≡ true → ¬ IsBounded q s a
  out_unbounded a e b =
      runs_over m.up (u a) b.low b.high (moved_to (beyond (u a) b.low b.high) a)
      (shifted-is q none s u inside m place (beyond (u a) b.low b.high) a ∙ m.gone (beyond (u a) b.low b.high) (u a) e)
      (b.above (moved_to (beyond (u a) b.low b.high)) (shifted-inside q none s u inside m place (beyond (u a) b.low b.high)))
      (b.below (moved_to (beyond (u a) b.low b.high)) (shifted-inside q none s u inside m place (beyond (u a) b.low b.high)))

  -- two columns that lie out, of which just the first is at the place, and which is never the greater one
  module _ (x y : Attr) (across : AreAcross q x y) (at_x : here x ≡ true) (at_y : here y ≡ false) (out_x : out x ≡ true) (out_y : out y ≡ true)
      (never : (v : Assignment) → InPart q s v → v x ≤ℤ v y) where
    pair_crossed : Crossed (element.Attr x) (element.Attr y)
    pair_crossed = record { a = x; b = y; left = refl; right = refl; other = at_y ∙ sym (ap not at_x); out_a = out_x; out_b = out_y }

    hx : Has (attrs_of q.atoms) x
    hx = Has-from_contains _ x across.left

    hy : Has (attrs_of q.atoms) y
    hy = Has-from_contains _ y across.right

    -- so some comparison crosses
    some_crosses : ((o : Atom) → Has q.atoms o → C o.left o.right ≡ false) → ⊥
    some_crosses off = elim (true_or_false (agree (element.Attr x) (element.Attr y) pair_crossed hx hy)) [
      | inl e ↦ refuted gap 0 (over_first (element.Attr x) (element.Attr y) pair_crossed hx hy e gap 0 (omega arith))
      | inr e ↦ refuted 0 gap (over_second (element.Attr x) (element.Attr y) pair_crossed hx hy e 0 gap (omega arith))
    ]
      where
        refuted : (p r : ℕ) → M p r y <ℤ M p r x → ⊥
        refuted p r l = let h : M p r x ≤ℤ M p r y = never (M p r) (mix-inside q none s u inside m place off p r) in omega (arith, ints, l, h)

    pub counted-need : IsFormed q → q.distinct ≡ false → place < length q.from → 1 < length q.from
        → ((a : Attr) → Contains q.select a → ¬ IsBounded q s a → ⊥) → NeedsStates q
    counted-need within d at two settled = elim (some_passes (λ o. C o.left o.right && not (is_level o.op)) q.atoms) [
      | inl r ↦ order-needs within d at two r.0 r.1 (crossed r.0.left r.0.right (and-left (C r.0.left r.0.right) (not (is_level r.0.op)) r.2))
          (not_false (is_level r.0.op) (and-right (C r.0.left r.0.right) (not (is_level r.0.op)) r.2))
      | inr rest ↦ elim (some_passes (λ o. C o.left o.right) q.atoms) [
        | inl r ↦ level-needs within d at two (λ a i. false_if (out a) (λ e. settled a (Contains-from_has _ a i) (out_unbounded a e)))
            (λ o h e. is_of (C o.left o.right) (is_level o.op) e (rest o h)) r.0 r.1 (crossed r.0.left r.0.right r.2)
            (is_of (C r.0.left r.0.right) (is_level r.0.op) r.2 (rest r.0 r.1))
        | inr off ↦ absurd (some_crosses off)
      ]
    ]
      where
        not_false : (b : Bool) → not b ≡ true → b ≡ false
        not_false true e = absurd cc
        not_false false e = refl

        is_of : (c b : Bool) → c ≡ true → (c && not b) ≡ false → b ≡ true
        is_of true true e f = refl
        is_of true false e f = absurd cc
        is_of false b e f = absurd cc
