-- A comparison of elements holds exactly where its constraints are met.
use Rattle.std.proofs.Common.{length, ◌≡◌, ℕ, suc, ◌<◌, ◌≤◌, ℤ, pos, neg_ℤ, ◌+ℤ◌, ◌-ℤ◌, ◌≤ℤ◌, cond, ◌&&◌, ◌||◌, nat_eq, List, [], ◌∷◌, All, Bool, true, false, inl, inr, refl, sym, ◌∙◌, ap, subst, arith}
use Rattle.std.proofs.lemmas.Int.{ints}
use Rattle.std.proofs.lemmas.List.Elements.{All-contains}
use Rattle.sem_query.specs.Query.{QueryValue, attr_eq, attrs_of, consts_of, IsWithinLimits, IsShort}
use Rattle.sem_query.specs.Order.{IsElement}
use Rattle.sem_query.proofs.Has.{Has, first, later, Has-head, Has-from_contains}
use Rattle.plan_constraints.proofs.Joined.{All-from_has}
use Rattle.sem_query.specs.declared.atom.Attr.{Attr}
use Rattle.sem_query.specs.declared.atom.Domain.{Domain}
use Rattle.sem_query.specs.declared.atom.Element.{Element}
use Rattle.sem_query.specs.declared.atom.Element.TheVariants as element
use Rattle.sem_query.specs.declared.part.Sign.{Sign}
use Rattle.sem_query.specs.Assignment.{Assignment, value}
use Rattle.sem_query.specs.Parts.{sign}
use Rattle.sem_query.proofs.Local.{sign-lt, sign-eq, sign-gt, lt_from_sign, eq_from_sign, gt_from_sign}
use Rattle.plan_constraints.specs.declared.constraint.Constraint.{Constraint}
use Rattle.plan_constraints.specs.Nodes.{place_of, node_of, offset_of, at_most_above, turned, between, constraints_of, value_at, nodes_of, has_node, low_of, assignment_of, IsWithinLimit, HasAttr}
use Rattle.plan_constraints.specs.Solutions.{IsWithin}

-- x gives the elements' nodes what v gives the elements
pub record Agree (xs : List Attr) (x : ℕ → ℤ) (v : Assignment) : Type 0 where
  pub origin : x 0 ≡ pos 0
  pub each : (a : Attr) → Has xs a → x (suc (place_of xs a)) ≡ v a

-- the element is a constant or among xs
abbrev pub Known : List Attr → Element → Type 0
Known xs (element.Attr a) = Has xs a
Known xs (element.Const k) = Unit {0}

pub value_is : (xs : List Attr) (x : ℕ → ℤ) (v : Assignment) → Agree xs x v → (e : Element) → Known xs e → value e v ≡ x (node_of xs e) +ℤ offset_of e
value_is xs x v g (element.Attr a) k = let h : x (suc (place_of xs a)) ≡ v a = g.each a k in omega (arith, ints)
value_is xs x v g (element.Const k) h = let o : x 0 ≡ pos 0 = g.origin in omega (arith, ints)

-- the constraint is met
abbrev pub Meets : (ℕ → ℤ) → Constraint → Type 0
Meets x c = x c.left ≤ℤ (c.bound +ℤ x c.right)

sign-turned : (a b : ℤ) (s : Sign) → sign a b ≡ s → sign b a ≡ turned s
sign-turned a b Sign.Lt h = grind (arith, ints)
sign-turned a b Sign.Eq h = grind (arith, ints)
sign-turned a b Sign.Gt h = grind (arith, ints)

turned_twice : (s : Sign) → turned (turned s) ≡ s
turned_twice Sign.Lt = refl
turned_twice Sign.Eq = refl
turned_twice Sign.Gt = refl

module _ (xs : List Attr) (x : ℕ → ℤ) (v : Assignment) (g : Agree xs x v) where
  met_between : (s : Sign) (l r : Element) → Known xs l → Known xs r → sign (value l v) (value r v) ≡ s → (c : Constraint) → Has (between xs l s r) c → Meets x c
  met_between Sign.Lt l r h k p c first = let a = value_is xs x v g l h in let b = value_is xs x v g r k in let q = lt_from_sign (value l v) (value r v) p in omega (arith, ints, a, b, q)
  met_between Sign.Lt l r h k p c (later i) = elim i [ ]
  met_between Sign.Gt l r h k p c first = let a = value_is xs x v g l h in let b = value_is xs x v g r k in let q = gt_from_sign (value l v) (value r v) p in omega (arith, ints, a, b, q)
  met_between Sign.Gt l r h k p c (later i) = elim i [ ]
  met_between Sign.Eq l r h k p c first = let a = value_is xs x v g l h in let b = value_is xs x v g r k in let q = eq_from_sign (value l v) (value r v) p in omega (arith, ints, a, b, q)
  met_between Sign.Eq l r h k p c (later first) = let a = value_is xs x v g l h in let b = value_is xs x v g r k in let q = eq_from_sign (value l v) (value r v) p in omega (arith, ints, a, b, q)
  met_between Sign.Eq l r h k p c (later (later i)) = elim i [ ]

  sign_between : (s : Sign) (l r : Element) → Known xs l → Known xs r → ((c : Constraint) → Has (between xs l s r) c → Meets x c) → sign (value l v) (value r v) ≡ s
  sign_between Sign.Lt l r h k f =
      let a = value_is xs x v g l h in let b = value_is xs x v g r k in
      let p : Meets x (at_most_above xs l r (neg_ℤ (pos 1))) = f _ first in sign-lt (value l v) (value r v) (omega (arith, ints, a, b, p))
  sign_between Sign.Gt l r h k f =
      let a = value_is xs x v g l h in let b = value_is xs x v g r k in
      let p : Meets x (at_most_above xs r l (neg_ℤ (pos 1))) = f _ first in sign-gt (value l v) (value r v) (omega (arith, ints, a, b, p))
  sign_between Sign.Eq l r h k f =
      let a = value_is xs x v g l h in let b = value_is xs x v g r k in
      let p : Meets x (at_most_above xs l r (pos 0)) = f _ first in
      let q : Meets x (at_most_above xs r l (pos 0)) = f _ (later first) in sign-eq (value l v) (value r v) (omega (arith, ints, a, b, p, q))

  -- the constraints of a sign are met where the elements have it, and only there
  pub met_from_sign : (s : Sign) (l r : Element) → Known xs l → Known xs r → sign (value l v) (value r v) ≡ s → (c : Constraint) → Has (constraints_of xs l s r) c → Meets x c
  met_from_sign s (element.Attr a) r h k p c i = met_between s (element.Attr a) r h k p c i
  met_from_sign s (element.Const a) r h k p c i = met_between (turned s) r (element.Const a) k h (sign-turned a (value r v) s p) c i

  pub sign_from_met : (s : Sign) (l r : Element) → Known xs l → Known xs r → ((c : Constraint) → Has (constraints_of xs l s r) c → Meets x c) → sign (value l v) (value r v) ≡ s
  sign_from_met s (element.Attr a) r h k f = sign_between s (element.Attr a) r h k f
  sign_from_met s (element.Const a) r h k f = sign-turned (value r v) a (turned s) (sign_between (turned s) r (element.Const a) k h f) ∙ turned_twice s

attr_same : (x a : Attr) → nat_eq x.stream a.stream && nat_eq x.column a.column ≡ true → x ≡ a
attr_same x a h = grind arith

-- a column that is among these has a node, and no other
pub node_there : (xs : List Attr) (a : Attr) → Has xs a → has_node xs a ≡ true
node_there [] a h = elim h [ ]
node_there (x ∷ xs) a first = let e : nat_eq x.stream x.stream && nat_eq x.column x.column ≡ true = grind arith in ap (λ b. b || has_node xs x) e
node_there (x ∷ xs) a (later h) = go (attr_eq x a) (node_there xs a h)
  where
    go : (b : Bool) → has_node xs a ≡ true → (b || has_node xs a) ≡ true
    go true h = refl
    go false h = h

pub node_has : (xs : List Attr) (a : Attr) → has_node xs a ≡ true → Has xs a
node_has [] a h = absurd cc
node_has (x ∷ xs) a h = go (attr_eq x a) refl h (node_has xs a)
  where
    go : (b : Bool) → attr_eq x a ≡ b → (b || has_node xs a) ≡ true → (has_node xs a ≡ true → Has xs a) → Has (x ∷ xs) a
    go true e h f = Has-head a x xs (attr_same x a e)
    go false e h f = later (f h)

-- solutions of the nodes are assignments, and the other way round
pub assignment_agrees : (xs : List Attr) (ds : List Domain) (x : ℕ → ℤ) → x 0 ≡ pos 0 → Agree xs x (assignment_of xs ds x)
assignment_agrees xs ds x o = record { origin = o; each = λ a h. sym (ap (λ b. cond b (x (suc (place_of xs a))) (low_of ds a)) (node_there xs a h)) }

value-at : (xs : List Attr) (v : Assignment) (a : Attr) → Has xs a → value_at xs v (place_of xs a) ≡ v a
value-at [] v a h = elim h [ ]
value-at (x ∷ xs) v a first = let e : nat_eq x.stream x.stream && nat_eq x.column x.column ≡ true = grind arith in ap (λ b. value_at (x ∷ xs) v (cond b 0 (suc (place_of xs x)))) e
value-at (x ∷ xs) v a (later h) = go (nat_eq x.stream a.stream && nat_eq x.column a.column) refl (value-at xs v a h)
  where
    go : (b : Bool) → nat_eq x.stream a.stream && nat_eq x.column a.column ≡ b → value_at xs v (place_of xs a) ≡ v a → value_at (x ∷ xs) v (cond b 0 (suc (place_of xs a))) ≡ v a
    go true e h = ap v (attr_same x a e)
    go false e h = h

pub nodes_agree : (xs : List Attr) (v : Assignment) → Agree xs (nodes_of xs v) v
nodes_agree xs v = record { origin = refl; each = λ a h. value-at xs v a h }

pub offset_low : (e : Element) → IsWithinLimit e → neg_ℤ (pos 999999999999999) ≤ℤ offset_of e
offset_low (element.Attr a) h = omega (arith, ints)
offset_low (element.Const k) h = h.low

pub offset_high : (e : Element) → IsWithinLimit e → offset_of e ≤ℤ pos 999999999999999
offset_high (element.Attr a) h = omega (arith, ints)
offset_high (element.Const k) h = h.high

pub constraint_is : (i j a b : ℕ) (x y : ℤ) → i ≡ a → j ≡ b → x ≡ y → let A : Type 0 = Constraint in ◌≡◌ {A = A} record { left = i; right = j; bound = x } record { left = a; right = b; bound = y }
constraint_is i j a b x y e f g = rw (e, f, g)

-- ---- nodes and limits of the elements of a query

same_attr : (a : Attr) → nat_eq a.stream a.stream && nat_eq a.column a.column ≡ true
same_attr a = grind arith

pub place_below : (xs : List Attr) (a : Attr) → Has xs a → place_of xs a < length xs
place_below [] a h = elim h [ ]
place_below (x ∷ xs) a first = rw (same_attr x) (let r : 0 < suc (length xs) = omega arith in r)
place_below (x ∷ xs) a (later h) = go (nat_eq x.stream a.stream && nat_eq x.column a.column) (place_below xs a h)
  where
    go : (b : Bool) → place_of xs a < length xs → cond b 0 (suc (place_of xs a)) < suc (length xs)
    go true h = omega arith
    go false h = omega (arith, h)

pub node_in : (q : QueryValue) (e : Element) → IsElement q e → node_of (attrs_of q.atoms) e ≤ length (attrs_of q.atoms)
node_in q (element.Attr a) h = place_below (attrs_of q.atoms) a (Has-from_contains _ a h)
node_in q (element.Const k) h = omega arith

pub limit_in : (q : QueryValue) (e : Element) → IsWithinLimits q → IsElement q e → IsWithinLimit e
limit_in q (element.Attr a) l h = tt
limit_in q (element.Const k) l h = All-contains IsShort (consts_of q.atoms) k l.consts h

-- ---- the constraints of two elements are within the limits

bound_low : (x y : Element) (by : ℤ) → HasAttr x y → IsWithinLimit x → IsWithinLimit y → neg_ℤ (pos 1) ≤ℤ by → by ≤ℤ pos 0 → neg_ℤ (pos 1000000000000000) ≤ℤ (offset_of y -ℤ offset_of x +ℤ by)
bound_low (element.Attr x) (element.Attr y) by o h k a b = omega (arith, ints, a, b)
bound_low (element.Attr x) (element.Const y) by o h k a b = omega (arith, ints, k.low, k.high, a, b)
bound_low (element.Const x) (element.Attr y) by o h k a b = omega (arith, ints, h.low, h.high, a, b)
bound_low (element.Const x) (element.Const y) by o h k a b = elim o [ inl e ↦ absurd cc | inr e ↦ absurd cc ]

bound_high : (x y : Element) (by : ℤ) → HasAttr x y → IsWithinLimit x → IsWithinLimit y → neg_ℤ (pos 1) ≤ℤ by → by ≤ℤ pos 0 → (offset_of y -ℤ offset_of x +ℤ by) ≤ℤ pos 1000000000000000
bound_high (element.Attr x) (element.Attr y) by o h k a b = omega (arith, ints, a, b)
bound_high (element.Attr x) (element.Const y) by o h k a b = omega (arith, ints, k.low, k.high, a, b)
bound_high (element.Const x) (element.Attr y) by o h k a b = omega (arith, ints, h.low, h.high, a, b)
bound_high (element.Const x) (element.Const y) by o h k a b = elim o [ inl e ↦ absurd cc | inr e ↦ absurd cc ]

module _ (xs : List Attr) where
  above_within : (x y : Element) (by : ℤ) → HasAttr x y → IsWithinLimit x → IsWithinLimit y → node_of xs x ≤ length xs → node_of xs y ≤ length xs → neg_ℤ (pos 1) ≤ℤ by → by ≤ℤ pos 0 → IsWithin (length xs) (at_most_above xs x y by)
  above_within x y by o h k l r a b = record { left = l; right = r; low = bound_low x y by o h k a b; high = bound_high x y by o h k a b }

  one_within : (c : Constraint) → IsWithin (length xs) c → All (IsWithin (length xs)) (c ∷ [])
  one_within c w = All-from_has (IsWithin (length xs)) (c ∷ []) (λ d h. one d h)
    where
      one : (d : Constraint) → Has (c ∷ []) d → IsWithin (length xs) d
      one d first = w
      one d (later h) = elim h [ ]

  two_within : (c d : Constraint) → IsWithin (length xs) c → IsWithin (length xs) d → All (IsWithin (length xs)) (c ∷ d ∷ [])
  two_within c d v w = All-from_has (IsWithin (length xs)) (c ∷ d ∷ []) (λ e h. one e h)
    where
      one : (e : Constraint) → Has (c ∷ d ∷ []) e → IsWithin (length xs) e
      one e first = v
      one e (later first) = w
      one e (later (later h)) = elim h [ ]

  between_within : (x : Element) (s : Sign) (y : Element) → HasAttr x y → IsWithinLimit x → IsWithinLimit y → node_of xs x ≤ length xs → node_of xs y ≤ length xs → All (IsWithin (length xs)) (between xs x s y)
  between_within x Sign.Lt y o h k l r = one_within _ (above_within x y (neg_ℤ (pos 1)) o h k l r (omega (arith, ints)) (omega (arith, ints)))
  between_within x Sign.Gt y o h k l r = one_within _ (above_within y x (neg_ℤ (pos 1)) (turn o) k h r l (omega (arith, ints)) (omega (arith, ints)))
    where
      turn : HasAttr x y → HasAttr y x
      turn (inl e) = inr e
      turn (inr e) = inl e
  between_within x Sign.Eq y o h k l r = two_within _ _ (above_within x y (pos 0) o h k l r (omega (arith, ints)) (omega (arith, ints))) (above_within y x (pos 0) (turn o) k h r l (omega (arith, ints)) (omega (arith, ints)))
    where
      turn : HasAttr x y → HasAttr y x
      turn (inl e) = inr e
      turn (inr e) = inl e

pub constraints_within : (q : QueryValue) (x : Element) (s : Sign) (y : Element) → IsWithinLimits q → IsElement q x → IsElement q y → HasAttr x y → All (IsWithin (length (attrs_of q.atoms))) (constraints_of (attrs_of q.atoms) x s y)
constraints_within q (element.Attr a) s y l h k o = between_within (attrs_of q.atoms) (element.Attr a) s y o (limit_in q (element.Attr a) l h) (limit_in q y l k) (node_in q (element.Attr a) h) (node_in q y k)
constraints_within q (element.Const a) s y l h k o = between_within (attrs_of q.atoms) y (turned s) (element.Const a) (turn o) (limit_in q y l k) (limit_in q (element.Const a) l h) (node_in q y k) (node_in q (element.Const a) h)
  where
    turn : HasAttr (element.Const a) y → HasAttr y (element.Const a)
    turn (inl e) = inr e
    turn (inr e) = inl e

length-between : (xs : List Attr) (x : Element) (s : Sign) (y : Element) → length (between xs x s y) ≤ 2
length-between xs x Sign.Lt y = omega arith
length-between xs x Sign.Gt y = omega arith
length-between xs x Sign.Eq y = omega arith

pub length-constraints : (xs : List Attr) (x : Element) (s : Sign) (y : Element) → length (constraints_of xs x s y) ≤ 2
length-constraints xs (element.Attr a) s y = length-between xs (element.Attr a) s y
length-constraints xs (element.Const k) s y = length-between xs y (turned s) (element.Const k)

pub within_if : (q : QueryValue) (x : Element) (s : Sign) (y : Element) (cs : List Constraint) → cs ≡ constraints_of (attrs_of q.atoms) x s y → IsWithinLimits q → IsElement q x → IsElement q y → HasAttr x y → All (IsWithin (length (attrs_of q.atoms))) cs
within_if q x s y cs e l h k o = subst (All (IsWithin (length (attrs_of q.atoms)))) (sym e) (constraints_within q x s y l h k o)
