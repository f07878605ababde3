-- Of two links on one side of a place some assignment of the part has the one below the other.
use Rattle.std.proofs.Common.{◌≡◌, ◌≢◌, ℕ, zero, suc, ◌≤◌, [], ◌∷◌, ◌++◌, ◌⊎◌, inl, inr, List, cond, Bool, true, false, refl, sym, ap, ◌∙◌, subst, arith, nat_eq, append-nil, ℤ, pos, int_lt, ◌+ℤ◌, ◌-ℤ◌, ◌<ℤ◌, ◌≤ℤ◌, Contains}
use Rattle.std.specs.List.{flat_map, list_all}
use Rattle.std.proofs.lemmas.Int.{ints, by_lt_z}
use Rattle.sem_query.specs.declared.atom.Attr.{Attr}
use Rattle.sem_query.specs.declared.atom.Element.{Element}
use Rattle.sem_query.specs.declared.atom.Element.TheVariants as element
use Rattle.sem_query.specs.declared.condition.Condition.TheVariants.{C3}
use Rattle.sem_query.specs.declared.part.Sign.{Sign}
use Rattle.sem_query.specs.declared.plan.Link.{Link}
use Rattle.sem_query.specs.Query.{QueryValue, attrs_of, consts_of}
use Rattle.sem_query.specs.Assignment.{Assignment, lies_in}
use Rattle.sem_query.specs.Parts.{pairs, sign, sign_at, signs_of, same_stream, InPart, IsPart}
use Rattle.sem_query.specs.Admission.{keeps_signs}
use Rattle.sem_query.specs.Order.{IsBounded, IsLess}
use Rattle.sem_query.specs.Laws.{ends_of}
use Rattle.sem_query.specs.Links.{IsEquality, IsInequality, IsMinRef, IsMaxRef, AreOneClass, AreTwoRefs, two_mins, two_maxes, both, between}
use Rattle.sem_query.proofs.Has.{Contains-from_has, same_map, same_at}
use Rattle.sem_query.proofs.Local.{same_sign, lt_along, eq_along}
use Rattle.sem_query.proofs.Shift.{Rises, moved, InPart-moved}
use Rattle.sem_query.proofs.Kept.{kept_if}
use Rattle.sem_query.proofs.Meets.{links_suffice}
use Rattle.sem_query.proofs.Bounded.{attr_lt_const, const_lt_attr, bounded_between, standing, enclosed, too_high, too_low, unbounded_over_all, unbounded_under_all, sides_are_bounded_together}
use Rattle.sem_laws.proofs.Tests.{nat_true}
use Rattle.fam_fooling_sets.specs.Laws.{IsLocalTo, AreLocalFor}
use Rattle.fam_fooling_sets.specs.Lowered.{IsBroken, IsWhole}
use Rattle.fam_fooling_sets.specs.Passing.{SomeHasLess, lefts, rights, ArePartedLinks}

-- what is above k: its distance to k doubled, and e added
unfoldable pub doubled : ℤ → ℕ → ℤ → ℤ
doubled k e z = cond (int_lt k z) (((z +ℤ z) -ℤ k) +ℤ pos e) z

doubled-same : (k : ℤ) (e : ℕ) (z : ℤ) → z ≤ℤ k → doubled k e z ≡ z
unfolding doubled
doubled-same k e z h = grind (arith, ints)

doubled-above : (k : ℤ) (e : ℕ) (z : ℤ) → k <ℤ z → doubled k e z ≡ ((z +ℤ z) -ℤ k) +ℤ pos e
unfolding doubled
doubled-above k e z h = grind (arith, ints)

doubled-less : (k : ℤ) (e f : ℕ) (a b : ℤ) → e ≤ 1 → f ≤ 1 → a <ℤ b → doubled k e a <ℤ doubled k f b
doubled-less k e f a b s t l =
    by_lt_z k a
    (λ h. let x : doubled k e a ≡ ((a +ℤ a) -ℤ k) +ℤ pos e = doubled-above k e a h in
    let y : doubled k f b ≡ ((b +ℤ b) -ℤ k) +ℤ pos f = doubled-above k f b (omega (arith, ints, h, l)) in
    omega (arith, ints, x, y, l, s, t))
    (λ h. let x : doubled k e a ≡ a = doubled-same k e a h in
    by_lt_z k b
    (λ g. let y : doubled k f b ≡ ((b +ℤ b) -ℤ k) +ℤ pos f = doubled-above k f b g in omega (arith, ints, x, y, h, g))
    (λ g. let y : doubled k f b ≡ b = doubled-same k f b g in omega (arith, ints, x, y, l)))

doubled-rises : (k : ℤ) (e : ℕ) → e ≤ 1 → Rises (doubled k e)
doubled-rises k e s = record { rises = λ a b h. doubled-less k e e a b s s h }

-- the same below k
unfoldable pub sunk : ℤ → ℕ → ℤ → ℤ
sunk k e z = cond (int_lt z k) (((z +ℤ z) -ℤ k) +ℤ pos e) z

sunk-same : (k : ℤ) (e : ℕ) (z : ℤ) → k ≤ℤ z → sunk k e z ≡ z
unfolding sunk
sunk-same k e z h = grind (arith, ints)

sunk-below : (k : ℤ) (e : ℕ) (z : ℤ) → z <ℤ k → sunk k e z ≡ ((z +ℤ z) -ℤ k) +ℤ pos e
unfolding sunk
sunk-below k e z h = grind (arith, ints)

sunk-less : (k : ℤ) (e f : ℕ) (a b : ℤ) → e ≤ 1 → f ≤ 1 → a <ℤ b → sunk k e a <ℤ sunk k f b
sunk-less k e f a b s t l =
    by_lt_z b k
    (λ h. let y : sunk k f b ≡ ((b +ℤ b) -ℤ k) +ℤ pos f = sunk-below k f b h in
    let x : sunk k e a ≡ ((a +ℤ a) -ℤ k) +ℤ pos e = sunk-below k e a (omega (arith, ints, h, l)) in
    omega (arith, ints, x, y, l, s, t))
    (λ h. let y : sunk k f b ≡ b = sunk-same k f b h in
    by_lt_z a k
    (λ g. let x : sunk k e a ≡ ((a +ℤ a) -ℤ k) +ℤ pos e = sunk-below k e a g in omega (arith, ints, x, y, h, g, s))
    (λ g. let x : sunk k e a ≡ a = sunk-same k e a g in omega (arith, ints, x, y, l)))

sunk-rises : (k : ℤ) (e : ℕ) → e ≤ 1 → Rises (sunk k e)
sunk-rises k e s = record { rises = λ a b h. sunk-less k e e a b s s h }

-- what one assignment has at a place, and another elsewhere
abbrev pub mixed : ℕ → Assignment → Assignment → Assignment
mixed place v u a = cond (nat_eq a.stream place) (v a) (u a)

mixed-here : (place : ℕ) (v u : Assignment) (a : Attr) → a.stream ≡ place → mixed place v u a ≡ v a
mixed-here place v u a e = let f : nat_eq a.stream place ≡ true = grind (arith, e) in ap (λ b. cond b (v a) (u a)) f

mixed-other : (place : ℕ) (v u : Assignment) (a : Attr) → a.stream ≢ place → mixed place v u a ≡ u a
mixed-other place v u a n = let f : nat_eq a.stream place ≡ false = grind (arith, n) in ap (λ b. cond b (v a) (u a)) f

-- a local pair reads the one assignment alone, or the other alone
sign-mixed : (place : ℕ) (v u : Assignment) (a : Attr) (x : Element) → IsLocalTo a x
    → sign_at v record { left = a; right = x } ≡ sign_at u record { left = a; right = x }
    → sign_at (mixed place v u) record { left = a; right = x } ≡ sign_at u record { left = a; right = x }
sign-mixed place v u a (element.Const k) l e = by (nat_eq a.stream place)
  where
    by : (b : Bool) → sign (cond b (v a) (u a)) k ≡ sign (u a) k
    by true = e
    by false = refl
sign-mixed place v u a (element.Attr b) l e = subst (λ (s : ℕ). sign (mixed place v u a) (cond (nat_eq s place) (v b) (u b)) ≡ sign (u a) (u b)) (nat_true a.stream b.stream l) (by (nat_eq a.stream place))
  where
    by : (c : Bool) → sign (cond c (v a) (u a)) (cond c (v b) (u b)) ≡ sign (u a) (u b)
    by true = e
    by false = refl

mixed-signs : (q : QueryValue) → AreLocalFor q C3 → (s : List Sign) (place : ℕ) (v u : Assignment) → InPart q s v → InPart q s u → signs_of q (mixed place v u) ≡ s
mixed-signs q local s place v u i j =
    same_map (sign_at (mixed place v u)) (sign_at u) (pairs q)
    (λ p k. sign-mixed place v u p.left p.right (local p (Contains-from_has (pairs q) p k)) (same_at (sign_at v) (sign_at u) (i.signs ∙ sym j.signs) k))
    ∙ j.signs

-- f 1 moves the values of one place, f 0 those of all others
module _ (q : QueryValue) (none : q.domains ≡ []) (local : AreLocalFor q C3) (s : List Sign) (v : Assignment) (i : InPart q s v) (f : ℕ → ℤ → ℤ)
    (rises : (e : ℕ) → e ≤ 1 → Rises (f e)) (keep : (e : ℕ) (k : ℤ) → Contains (ends_of q) k → f e k ≡ k)
    (less : (e g : ℕ) (a b : ℤ) → e ≤ 1 → g ≤ 1 → a <ℤ b → f e a <ℤ f g b)
    (equal : (a b : Attr) → IsEquality q s a b → f 0 (v a) ≡ f 1 (v a)) (place : ℕ) where
  by_one : (e : ℕ) → e ≤ 1 → Assignment
  by_one e l = moved q s (f e) (rises e l) (keep e) v i

  in_one : (e : ℕ) (l : e ≤ 1) → InPart q s (by_one e l)
  unfolding by_one
  in_one e l = InPart-moved q s (f e) (rises e l) (keep e) v i

  at_one : (e : ℕ) (l : e ≤ 1) (a : Attr) → by_one e l a ≡ f e (v a)
  unfolding by_one moved
  at_one e l a = refl

  zero_small : 0 ≤ 1
  zero_small = omega arith

  one_small : 1 ≤ 1
  one_small = omega arith

  abbrev both_moved : Assignment
  both_moved = mixed place (by_one 1 one_small) (by_one 0 zero_small)

  record Value (a : Attr) : Type 0 where
    e : ℕ
    small : e ≤ 1
    is : both_moved a ≡ f e (v a)

  value_here : (a : Attr) → a.stream ≡ place → both_moved a ≡ f 1 (v a)
  value_here a e = mixed-here place (by_one 1 one_small) (by_one 0 zero_small) a e ∙ at_one 1 one_small a

  value_other : (a : Attr) → a.stream ≢ place → both_moved a ≡ f 0 (v a)
  value_other a e = mixed-other place (by_one 1 one_small) (by_one 0 zero_small) a e ∙ at_one 0 zero_small a

  value_of : (a : Attr) → Value a
  value_of a = by (nat_eq a.stream place) refl
    where
      by : (b : Bool) → nat_eq a.stream place ≡ b → Value a
      by true h = record { e = 1; small = one_small; is = value_here a (grind (arith, h)) }
      by false h = record { e = 0; small = zero_small; is = value_other a (grind (arith, h)) }

  same_for : (e g : ℕ) (z : ℤ) → e ≤ 1 → g ≤ 1 → f 0 z ≡ f 1 z → f e z ≡ f g z
  same_for e g z s t h = by e g s t
    where
      by : (e g : ℕ) → e ≤ 1 → g ≤ 1 → f e z ≡ f g z
      by zero zero s t = refl
      by zero (suc zero) s t = h
      by (suc zero) zero s t = sym h
      by (suc zero) (suc zero) s t = refl
      by (suc (suc e)) g s t = absurd (omega (arith, s))
      by e (suc (suc g)) s t = absurd (omega (arith, t))

  signs-kept : (n : ℕ) → keeps_signs n both_moved (pairs q) s ≡ true
  signs-kept n =
      subst (λ (t : List Sign). keeps_signs n both_moved (pairs q) t ≡ true)
      (mixed-signs q local s place (by_one 1 one_small) (by_one 0 zero_small) (in_one 1 one_small) (in_one 0 zero_small))
      (kept_if n both_moved both_moved (pairs q) (λ p k e. refl))

  moved-inside : InPart q s both_moved
  moved-inside = (links_suffice q s record { one = v; inside = i } both_moved (ap (list_all (λ d. lies_in d (both_moved d.attr))) none)).1 record {
    signs = λ n. signs-kept n;
    equal = λ a b h. (let x : Value a = value_of a in let y : Value b = value_of b in
        x.is ∙ same_for x.e y.e (v a) x.small y.small (equal a b h) ∙ ap (f y.e) (h.equal.equal v i) ∙ sym y.is);
    less = λ a b h. (let x : Value a = value_of a in let y : Value b = value_of b in
        subst (λ z. z <ℤ both_moved b) (sym x.is) (subst (λ z. f x.e (v a) <ℤ z) (sym y.is) (less x.e y.e (v a) (v b) x.small y.small (h.less.less v i))));
  }

  parted : (x y : Attr) → x.stream ≡ place → y.stream ≢ place → f 0 (v y) <ℤ f 1 (v x) → SomeHasLess q s y x
  parted x y e n l = record {
    v = both_moved;
    inside = moved-inside;
    less = subst (λ z. z <ℤ both_moved x) (sym (value_other y n)) (subst (λ z. f 0 (v y) <ℤ z) (sym (value_here x e)) l);
  }

module _ (q : QueryValue) (none : q.domains ≡ []) (local : AreLocalFor q C3) (s : List Sign) (fine : (a b : Attr) → IsEquality q s a b → ¬ IsBounded q s a → ⊥)
    (v : Assignment) (i : InPart q s v) (x y : Attr) (n : y.stream ≢ x.stream) (same : v y ≡ v x) where
  abbrev just_under : ℤ
  just_under = v x -ℤ pos 1

  abbrev just_over : ℤ
  just_over = v x +ℤ pos 1

  pub part-up : ((k : ℤ) → Contains (ends_of q) k → k <ℤ v x) → SomeHasLess q s y x
  part-up over =
      parted q none local s v i (doubled just_under) (λ e l. doubled-rises just_under e l) (λ e c h. doubled-same just_under e c (let l : c <ℤ v x = over c h in omega (arith, ints, l)))
      (λ e g a b s t l. doubled-less just_under e g a b s t l) equal x.stream x y refl n
      (let a : doubled just_under 0 (v y) ≡ ((v y +ℤ v y) -ℤ just_under) +ℤ pos 0 = doubled-above just_under 0 (v y) (omega (arith, ints, same)) in
      let b : doubled just_under 1 (v x) ≡ ((v x +ℤ v x) -ℤ just_under) +ℤ pos 1 = doubled-above just_under 1 (v x) (omega (arith, ints)) in
      omega (arith, ints, a, b, same))
    where
      equal : (a b : Attr) → IsEquality q s a b → doubled just_under 0 (v a) ≡ doubled just_under 1 (v a)
      equal a b h =
          by_lt_z just_under (v a)
          (λ l. absurd (fine a b h (unbounded_over_all q s record { one = v; inside = i } a (λ c g. (let m : c <ℤ v x = over c g in omega (arith, ints, l, m))))))
          (λ l. doubled-same just_under 0 (v a) l ∙ sym (doubled-same just_under 1 (v a) l))

  pub part-down : ((k : ℤ) → Contains (ends_of q) k → v x <ℤ k) → SomeHasLess q s y x
  part-down under =
      parted q none local s v i (sunk just_over) (λ e l. sunk-rises just_over e l) (λ e c h. sunk-same just_over e c (let l : v x <ℤ c = under c h in omega (arith, ints, l)))
      (λ e g a b s t l. sunk-less just_over e g a b s t l) equal x.stream x y refl n
      (let a : sunk just_over 0 (v y) ≡ ((v y +ℤ v y) -ℤ just_over) +ℤ pos 0 = sunk-below just_over 0 (v y) (omega (arith, ints, same)) in
      let b : sunk just_over 1 (v x) ≡ ((v x +ℤ v x) -ℤ just_over) +ℤ pos 1 = sunk-below just_over 1 (v x) (omega (arith, ints)) in
      omega (arith, ints, a, b, same))
    where
      equal : (a b : Attr) → IsEquality q s a b → sunk just_over 0 (v a) ≡ sunk just_over 1 (v a)
      equal a b h =
          by_lt_z (v a) just_over
          (λ l. absurd (fine a b h (unbounded_under_all q s record { one = v; inside = i } a (λ c g. (let m : v x <ℤ c = under c g in omega (arith, ints, l, m))))))
          (λ l. sunk-same just_over 0 (v a) l ∙ sym (sunk-same just_over 1 (v a) l))

-- the ends of a query with no domains are its constants
const-end : (q : QueryValue) → q.domains ≡ [] → (k : ℤ) → Contains (ends_of q) k → Contains (consts_of q.atoms) k
const-end q none k h = subst (λ ks. Contains ks k) (ap (λ ds. consts_of q.atoms ++ flat_map (λ d. d.lo ∷ d.hi ∷ []) ds) none ∙ append-nil (consts_of q.atoms)) h

module _ (q : QueryValue) (whole : IsWhole q) (local : AreLocalFor q C3) (s : List Sign) (c : Attr) (broken : IsBroken q s C3 c) where
  fine : (a b : Attr) → IsEquality q s a b → ¬ IsBounded q s a → ⊥
  fine a b i n = broken.second refl a (n, b, inl i)

  -- in an assignment of the part both sides of a link with unbounded sides lie above all ends, or below all
  data SameEnd (v : Assignment) (x y : Attr) : Type 0 where
    both_up : ((k : ℤ) → Contains (ends_of q) k → k <ℤ v x) → SameEnd v x y
    both_down : ((k : ℤ) → Contains (ends_of q) k → v y <ℤ k) → SameEnd v x y

  same-end : (v : Assignment) → InPart q s v → (x y : Attr) → IsInequality q s x y → ¬ IsBounded q s x → ¬ IsBounded q s y → SameEnd v x y
  same-end v i x y l n m = elim (standing q s p x) [
    | enclosed low high g h o e ↦ absurd (n (bounded_between q s p x low high l.across.left g h o e))
    | too_high f ↦ both_up (λ k h. f k (const-end q whole.domains k h))
    | too_low f ↦ elim (standing q s p y) [
      | enclosed low high g h o e ↦ absurd (m (bounded_between q s p y low high l.across.right g h o e))
      | too_low g ↦ both_down (λ k h. g k (const-end q whole.domains k h))
      | too_high g ↦ both_up (λ k h. absurd (apart k (const-end q whole.domains k h) (f k (const-end q whole.domains k h)) (g k (const-end q whole.domains k h))))
    ]
  ]
    where
      p : IsPart q s
      p = record { one = v; inside = i }

      apart : (k : ℤ) → Contains (consts_of q.atoms) k → v x <ℤ k → k <ℤ v y → ⊥
      apart k h o e = l.needed (between (element.Const k) h (attr_lt_const q s p x k l.across.left h o) (const_lt_attr q s p y k l.across.right h e))

  -- where not all assignments have x2 below y1, some has y1 below x2
  parted-at : (x1 y1 x2 : Attr) → IsInequality q s x1 y1 → (¬ IsBounded q s x1) × (¬ IsBounded q s y1) → (v : Assignment) → InPart q s v → y1.stream ≢ x2.stream → v y1 ≤ℤ v x2 → SomeHasLess q s y1 x2
  parted-at x1 y1 x2 l n v i o h =
      by_lt_z (v y1) (v x2)
      (λ k. record { v = v; inside = i; less = k })
      (λ k. let same : v y1 ≡ v x2 = omega (arith, ints, h, k) in
      let low : v x1 <ℤ v y1 = l.less.less v i in
      elim (same-end v i x1 y1 l n.0 n.1) [
        | both_up f ↦ part-up q whole.domains local s fine v i x2 y1 o same (λ k g. (let m : k <ℤ v x1 = f k g in omega (arith, ints, m, low, same)))
        | both_down f ↦ part-down q whole.domains local s fine v i x2 y1 o same (λ k g. (let m : v y1 <ℤ k = f k g in omega (arith, ints, m, same)))
      ])

  sides : (x y : Attr) → IsInequality q s x y → (¬ IsBounded q s x) ⊎ (¬ IsBounded q s y) → (¬ IsBounded q s x) × (¬ IsBounded q s y)
  sides x y l o = elim (sides_are_bounded_together q whole.domains s broken.part x y l) [
    | inl b ↦ absurd (elim o [ inl n ↦ n b.0 | inr n ↦ n b.1 ])
    | inr b ↦ b
  ]

  -- so where no assignment has it so, all have x2 below y1
  always : (x1 y1 x2 : Attr) → IsInequality q s x1 y1 → (¬ IsBounded q s x1) × (¬ IsBounded q s y1) → y1.stream ≢ x2.stream → ¬ SomeHasLess q s y1 x2 → IsLess q s (element.Attr x2) (element.Attr y1)
  always x1 y1 x2 l n o none = record { less = λ v i. by_lt_z (v x2) (v y1) (λ h. h) (λ h. absurd (none (parted-at x1 y1 x2 l n v i o h))) }

  abbrev pub p : IsPart q s
  p = broken.part

  one-stream : (a b : Attr) → a.stream ≡ c.stream → b.stream ≡ c.stream → same_stream a b ≡ true
  one-stream a b e f = grind (arith, e, f)

  less-here : (a b : Attr) → Contains (attrs_of q.atoms) a → Contains (attrs_of q.atoms) b → a.stream ≡ c.stream → b.stream ≡ c.stream → p.one a <ℤ p.one b → IsLess q s (element.Attr a) (element.Attr b)
  less-here a b h i e f l = record {
    less = λ v j. lt_along _ _ _ _ (same_sign q p.one v (p.inside.signs ∙ sym j.signs) (element.Attr a) (element.Attr b) h i (one-stream a b e f)) l;
  }

  class-here : (a b : Attr) → Contains (attrs_of q.atoms) a → Contains (attrs_of q.atoms) b → a.stream ≡ c.stream → b.stream ≡ c.stream → p.one a ≡ p.one b → AreOneClass q s a b
  class-here a b h i e f l = record {
    named = inr (h, i);
    stream = e ∙ sym f;
    equal = record { equal = λ v j. eq_along _ _ _ _ (same_sign q p.one v (p.inside.signs ∙ sym j.signs) (element.Attr a) (element.Attr b) h i (one-stream a b e f)) l };
  }

  -- two references on one side that are not of one class have links of which the one may lie below the other
  pub mins-parted : (a b : Attr) → a.stream ≡ c.stream → b.stream ≡ c.stream → (m : IsMinRef q s a) (o : IsMinRef q s b) → p.one a <ℤ p.one b
      → ¬ SomeHasLess q s m.other b → ⊥
  mins-parted a b e f m o l none =
      m.inequality.needed (between (element.Attr b) o.inequality.across.left (less-here a b m.inequality.across.left o.inequality.across.left e f l)
      (always a m.other b m.inequality (sides a m.other m.inequality (inl m.unbounded)) (λ g. m.inequality.across.across (e ∙ sym f ∙ sym g)) none))

  pub maxes-parted : (a b : Attr) → a.stream ≡ c.stream → b.stream ≡ c.stream → (m : IsMaxRef q s a) (o : IsMaxRef q s b) → p.one a <ℤ p.one b
      → ¬ SomeHasLess q s a o.other → ⊥
  maxes-parted a b e f m o l none =
      o.inequality.needed (between (element.Attr a) m.inequality.across.right
      (always m.other a o.other m.inequality (sides m.other a m.inequality (inr m.unbounded)) (λ g. o.inequality.across.across (sym g ∙ e ∙ sym f)) none)
      (less-here a b m.inequality.across.right o.inequality.across.right e f l))

  abbrev pub Tried : Type 0
  Tried = (first second : Link) → IsInequality q s first.left first.right → IsInequality q s second.left second.right → ¬ ArePartedLinks q s c.stream first second

  pub mins-tried : Tried → (a b : Attr) → a.stream ≡ c.stream → b.stream ≡ c.stream → IsMinRef q s a → IsMinRef q s b → p.one a <ℤ p.one b → ⊥
  mins-tried tried a b e f m o l = mins-parted a b e f m o l (λ some. tried (record { left = a; right = m.other }) (record { left = b; right = o.other }) m.inequality o.inequality record {
    side = lefts e f;
    low = m.unbounded;
    high = o.unbounded;
    some = some;
  })

  pub maxes-tried : Tried → (a b : Attr) → a.stream ≡ c.stream → b.stream ≡ c.stream → IsMaxRef q s a → IsMaxRef q s b → p.one a <ℤ p.one b → ⊥
  maxes-tried tried a b e f m o l = maxes-parted a b e f m o l (λ some. tried (record { left = m.other; right = a }) (record { left = o.other; right = b }) m.inequality o.inequality record {
    side = rights e f;
    low = (sides m.other a m.inequality (inr m.unbounded)).0;
    high = (sides o.other b o.inequality (inr o.unbounded)).0;
    some = some;
  })

  pub refs-tried : Tried → (a b : Attr) → a.stream ≡ c.stream → b.stream ≡ c.stream → AreTwoRefs q s a b → (IsMinRef q s a × IsMaxRef q s b → ⊥) → ⊥
  refs-tried tried a b e f (both m o) n = n (m, o)
  refs-tried tried a b e f (two_mins m o differ) n =
      by_lt_z (p.one a) (p.one b) (λ l. mins-tried tried a b e f m o l)
      (λ h. by_lt_z (p.one b) (p.one a) (λ l. mins-tried tried b a f e o m l)
      (λ l. differ (class-here a b m.inequality.across.left o.inequality.across.left e f (omega (arith, ints, h, l)))))
  refs-tried tried a b e f (two_maxes m o differ) n =
      by_lt_z (p.one a) (p.one b) (λ l. maxes-tried tried a b e f m o l)
      (λ h. by_lt_z (p.one b) (p.one a) (λ l. maxes-tried tried b a f e o m l)
      (λ l. differ (class-here a b m.inequality.across.right o.inequality.across.right e f (omega (arith, ints, h, l)))))
