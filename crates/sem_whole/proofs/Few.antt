-- The local conditions of a stream are finitely many: a column that the system does not name is free.
use Rattle.std.proofs.Common.{◌≡◌, ℕ, ℤ, pos, ◌+ℤ◌, ◌-ℤ◌, ◌≤ℤ◌, ◌⊎◌, inl, inr, List, [], ◌∷◌, true, false, cond, Option, Some, None, refl, sym, ap, subst, arith}
use Rattle.std.proofs.lemmas.Int.{ints}
use Rattle.sem_query.specs.declared.atom.Attr.{Attr}
use Rattle.sem_query.specs.declared.atom.Element.{Element}
use Rattle.sem_query.specs.declared.atom.Element.TheVariants as element
use Rattle.sem_query.specs.Query.{attr_eq}
use Rattle.sem_query.specs.Assignment.{Assignment, value, IsAmong}
use Rattle.sem_query.proofs.Has.{Has, later, Has-nil, Has-from_contains, Contains-from_has, Has-head}
use Rattle.sem_laws.proofs.Tests.{true_or_false, false_if, attr_eq-is, attr_eq-itself}
use Rattle.sem_laws.proofs.OnePartFits.{has_cases}
use Rattle.sem_whole.specs.System.{Difference, Meets, system, Solves, Bound, IsOf}
use Rattle.sem_whole.specs.Laws.{IsBase, IsLeastBound, LocalConditionsAreFew}

-- an assignment with one column changed
unfoldable changed : Assignment → Attr → ℤ → Assignment
changed v a z b = cond (attr_eq a b) z (v b)

changed_there : (v : Assignment) (a : Attr) (z : ℤ) → changed v a z a ≡ z
unfolding changed
changed_there v a z = ap (λ b. cond b z (v a)) (attr_eq-itself a)

changed_elsewhere : (v : Assignment) (a b : Attr) (z : ℤ) → (a ≡ b → ⊥) → changed v a z b ≡ v b
unfolding changed
changed_elsewhere v a b z n = ap (λ c. cond c z (v b)) (false_if (attr_eq a b) (λ h. n (attr_eq-is a b h)))

-- among them, or not
among_or_free : (xs : List Attr) (a : Attr) → Has xs a ⊎ (Has xs a → ⊥)
among_or_free [] a = inr (λ h. Has-nil h)
among_or_free (b ∷ xs) a = elim (true_or_false (attr_eq b a)) [
  | inl e ↦ inl (Has-head a b xs (attr_eq-is b a e))
  | inr e ↦ elim (among_or_free xs a) [
    | inl h ↦ inl (later h)
    | inr n ↦ inr (λ h. elim (has_cases b a xs h) [ inl f ↦ differ f e | inr k ↦ n k ])
  ]
]
  where
    differ : b ≡ a → attr_eq b a ≡ false → ⊥
    differ f e = let g : attr_eq b b ≡ true = attr_eq-itself b in let k : attr_eq b a ≡ true = subst (λ c. attr_eq b c ≡ true) f g in cc

-- a column or an integer, as a column or 0 with an integer more
abbrev base : Element → Element
base (element.Attr a) = element.Attr a
base (element.Const k) = element.Const (pos 0)

abbrev more : Element → ℤ
more (element.Attr a) = pos 0
more (element.Const k) = k

module _ (ds : List Difference) (xs : List Attr) (among : (d : Difference) → Has ds d → IsAmong xs d.left × IsAmong xs d.right) (u : Assignment) (s : Solves ds u) where
  module _ (a : Attr) (free : Has xs a → ⊥) where
    still : (e : Element) (z : ℤ) → IsAmong xs e → value e (changed u a z) ≡ value e u
    still (element.Attr b) z h = changed_elsewhere u a b z (λ e. free (subst (Has xs) (sym e) (Has-from_contains xs b h)))
    still (element.Const k) z h = refl

    still_solves : (z : ℤ) → Solves ds (changed u a z)
    still_solves z d h =
        let m : Meets u d = s d h in
        let e = still d.left z (among d h).0 in
        let f = still d.right z (among d h).1 in
        omega (arith, ints, m, e, f)

    -- it has no bound above another element, and none below one
    no_upper : (y : Element) (c : ℤ) → ((z : ℤ) → value y (changed u a z) ≡ value y u) → Bound ds (element.Attr a) y c → ⊥
    no_upper y c same b =
        let z : ℤ = c +ℤ value y u +ℤ pos 1 in
        let m = b (changed u a z) (still_solves z) in
        let e = changed_there u a z in
        let f = same z in
        omega (arith, ints, m, e, f)

    no_lower : (x : Element) (c : ℤ) → ((z : ℤ) → value x (changed u a z) ≡ value x u) → Bound ds x (element.Attr a) c → ⊥
    no_lower x c same b =
        let z : ℤ = value x u -ℤ c -ℤ pos 1 in
        let m = b (changed u a z) (still_solves z) in
        let e = changed_there u a z in
        let f = same z in
        omega (arith, ints, m, e, f)

  base_value : (e : Element) (v : Assignment) → value e v ≡ value (base e) v +ℤ more e
  base_value (element.Attr a) v = omega (arith, ints)
  base_value (element.Const k) v = omega (arith, ints)

  base_of : (place : ℕ) (e : Element) → IsOf place e → IsOf place (base e)
  base_of place (element.Attr a) h = h
  base_of place (element.Const k) h = tt

  base_bound : (x y : Element) (c : ℤ) → Bound ds x y c → Bound ds (base x) (base y) (c +ℤ more y -ℤ more x)
  base_bound x y c b w o = let m = b w o in let e = base_value x w in let f = base_value y w in omega (arith, ints, m, e, f)

  -- named by the system, or a free column
  data Named (e : Element) : Type 0 where
    named : IsBase xs e → Named e
    free : (a : Attr) → e ≡ element.Attr a → (Has xs a → ⊥) → Named e

  named_or : (e : Element) → Named (base e)
  named_or (element.Attr a) = elim (among_or_free xs a) [ inl h ↦ named (Contains-from_has xs a h) | inr n ↦ free a refl n ]
  named_or (element.Const k) = named refl

  untouched : (a : Attr) (e : Element) → (Has xs a → ⊥) → IsBase xs e → (z : ℤ) → value e (changed u a z) ≡ value e u
  untouched a (element.Attr b) n h z = changed_elsewhere u a b z (λ e. n (subst (Has xs) (sym e) (Has-from_contains xs b h)))
  untouched a (element.Const k) n h z = refl

  -- a bound with a free column is one of that column with itself
  only_itself : (a b : Attr) (c : ℤ) → (Has xs a → ⊥) → Bound ds (element.Attr a) (element.Attr b) c → a ≡ b
  only_itself a b c n h = elim (true_or_false (attr_eq a b)) [
    | inl e ↦ attr_eq-is a b e
    | inr e ↦ absurd (no_upper a n (element.Attr b) c (λ z. changed_elsewhere u a b z (λ f. differ f e)) h)
  ]
    where
      differ : a ≡ b → attr_eq a b ≡ false → ⊥
      differ f e = let g : attr_eq a a ≡ true = attr_eq-itself a in let k : attr_eq a b ≡ true = subst (λ c. attr_eq a c ≡ true) f g in cc

  itself : (a b : Attr) (c : ℤ) (v : Assignment) → a ≡ b → Bound ds (element.Attr a) (element.Attr b) c → v a ≤ℤ (c +ℤ v b)
  itself a b c v e h = let m = h u s in let f : u a ≡ u b = ap u e in let g : v a ≡ v b = ap v e in omega (arith, ints, m, f, g)

  met_by : (v : Assignment) (x y : Element) (c : ℤ) → (IsBase xs x → IsBase xs y → Meets v record { left = x; right = y; by = c })
      → Named x → Named y → Bound ds x y c → Meets v record { left = x; right = y; by = c }
  met_by v x y c near (named h) (named k) b = near h k
  met_by v x y c near (free a e n) (named k) b = absurd (no_upper a n y c (untouched a y n k) (subst (λ x. Bound ds x y c) e b))
  met_by v x y c near (named h) (free a e n) b = absurd (no_lower a n x c (untouched a x n h) (subst (λ y. Bound ds x y c) e b))
  met_by v x y c near (free a e n) (free b f m) g =
      let i : Bound ds (element.Attr a) (element.Attr b) c = subst (λ y. Bound ds (element.Attr a) y c) f (subst (λ x. Bound ds x y c) e g) in
      subst (λ x. Meets v record { left = x; right = y; by = c }) (sym e) (subst (λ y. Meets v record { left = element.Attr a; right = y; by = c }) (sym f) (itself a b c v (only_itself a b c n i) i))

  met_any : (v : Assignment) (x y : Element) (c : ℤ) → ((k : ℤ) → Bound ds (base x) (base y) k → IsBase xs (base x) → IsBase xs (base y) → Meets v record { left = base x; right = base y; by = k })
      → Bound ds x y c → Meets v record { left = x; right = y; by = c }
  met_any v x y c near b =
      let k : Bound ds (base x) (base y) (c +ℤ more y -ℤ more x) = base_bound x y c b in
      let m = met_by v (base x) (base y) (c +ℤ more y -ℤ more x) (near (c +ℤ more y -ℤ more x) k) (named_or x) (named_or y) k in
      let e = base_value x v in
      let f = base_value y v in
      omega (arith, ints, m, e, f)

pub local_conditions_are_few : LocalConditionsAreFew
local_conditions_are_few q xs among u s upper least place v h unequal = record {
  bounds = λ x y c i j b. met_any (system q) xs among u s v x y c (λ k g l m. near (base x) (base y) k l m (of_base x i) (of_base y j) (upper (base x) (base y)) refl (least (base x) (base y) l m) g) b;
  unequal = unequal;
}
  where
    of_base : (e : Element) → IsOf place e → IsOf place (base e)
    of_base e i = base_of (system q) xs among u s place e i

    near : (x y : Element) (k : ℤ) → IsBase xs x → IsBase xs y → IsOf place x → IsOf place y → (o : Option ℤ) → upper x y ≡ o → IsLeastBound (system q) x y (upper x y)
        → Bound (system q) x y k → Meets v record { left = x; right = y; by = k }
    near x y k l m i j None e n b = absurd (subst (IsLeastBound (system q) x y) e n k b)
    near x y k l m i j (Some w) e n b =
        let d : IsLeastBound (system q) x y (Some w) = subst (IsLeastBound (system q) x y) e n in
        let f : w ≤ℤ k = d.1 k b in
        let g = h x y l m i j w e in
        omega (arith, ints, f, g)
