-- The table of the columns that stand for the attributes of a query.
use Rattle.std.proofs.Common.{◌≡◌, ◌-◌, ◌≤◌, ◌⊎◌, inl, inr, List, [], ◌∷◌, length, take, drop, get_or, map, cond, Contains, refl, sym, ◌∙◌, ap, ap₂, subst, arith}
use Rattle.std.proofs.lemmas.List.{take_rest}
use Rattle.sem_query.specs.declared.atom.Attr.{Attr}
use Rattle.sem_query.specs.declared.atom.Atom.{Atom}
use Rattle.sem_query.specs.declared.atom.Element.{Element}
use Rattle.sem_query.specs.declared.atom.Element.TheVariants as element
use Rattle.sem_query.specs.Query.{attr_eq, attrs_with, attrs_of}
use Rattle.sem_query.specs.Groups.{group_with, group_of, AreJoined, itself, compared, turned, onward}
use Rattle.sem_query.proofs.Has.{Has, Contains-from_has, Has-from_contains}
use Rattle.sem_query.proofs.Elements.{HasElement, SidesIn, sides_in, attrs_with-has}
use Rattle.sem_query.proofs.OneGroup.{joined_group}

-- columns that are joined are the same, or both are named
joined_named : (ts : List Atom) (a b : Attr) → AreJoined ts a b → (a ≡ b) ⊎ (Has (attrs_of ts) a × Has (attrs_of ts) b)
joined_named ts a b itself = inl refl
joined_named ts a b (compared t h e f) =
    let s : SidesIn ts t = sides_in ts t h in
    inr (subst (HasElement (attrs_of ts) _) e s.left, subst (HasElement (attrs_of ts) _) f s.right)
joined_named ts a b (turned j) = elim (joined_named ts b a j) [ inl e ↦ inl (sym e) | inr n ↦ inr (n.1, n.0) ]
joined_named ts a b (onward {b = c} j k) = elim (joined_named ts a c j) [
  | inl e ↦ elim (joined_named ts c b k) [ inl f ↦ inl (e ∙ f) | inr n ↦ inr (subst (Has (attrs_of ts)) (sym e) n.0, n.1) ]
  | inr n ↦ elim (joined_named ts c b k) [ inl f ↦ inr (n.0, subst (Has (attrs_of ts)) f n.1) | inr m ↦ inr (n.0, m.1) ]
]

-- a column that no comparison names stands for itself
pub stands_alone : (ts : List Atom) (a : Attr) → ¬ Contains (attrs_of ts) a → group_of ts a ≡ a
stands_alone ts a h = elim (joined_named ts (group_of ts a) a (joined_group ts a)) [ inl e ↦ e | inr n ↦ absurd (h (Contains-from_has (attrs_of ts) a n.1)) ]

-- what the other comparisons name, all name
others_named : (t : Atom) (ts : List Atom) (a : Attr) → Has (attrs_of ts) a → Has (attrs_of (t ∷ ts)) a
others_named t ts a h = attrs_with-has (attrs_with t.right (attrs_of ts)) t.left a (attrs_with-has (attrs_of ts) t.right a h)

pub others_among : (ts : List Atom) (attrs : List Attr) → ((a : Attr) → Contains (attrs_of ts) a → Contains attrs a)
    → 1 ≤ length ts → (a : Attr) → Contains (attrs_of (take (length ts - 1) (drop 1 ts))) a → Contains attrs a
others_among [] attrs f l a h = absurd (omega arith)
others_among (t ∷ ts) attrs f l a h =
    let h' : Contains (attrs_of ts) a = subst (λ us. Contains (attrs_of us) a) (take_rest (t ∷ ts) 1) h in
    f a (Contains-from_has _ a (others_named t ts a (Has-from_contains _ a h')))

-- the columns of two sides in the table of the other comparisons, and what the table is with this one
module _ (attrs : List Attr) where
  step : (g : Attr → Attr) (x y : Attr) → map (λ c. cond (attr_eq c (g y)) (g x) c) (map g attrs) ≡ map (group_with g (element.Attr x) (element.Attr y)) attrs
  step g x y = all attrs
    where
      all : (rest : List Attr) → map (λ c. cond (attr_eq c (g y)) (g x) c) (map g rest) ≡ map (group_with g (element.Attr x) (element.Attr y)) rest
      all [] = refl
      all (a ∷ rest) = ap (λ l. cond (attr_eq (g a) (g y)) (g x) (g a) ∷ l) (all rest)

  same_table : (g h : Attr → Attr) (rest : List Attr) → ((a : Attr) → g a ≡ h a) → map g rest ≡ map h rest
  same_table g h [] f = refl
  same_table g h (a ∷ rest) f = ap₂ (λ b bs. b ∷ bs) (f a) (same_table g h rest f)

  pub table_joined : (ts : List Atom) (d : Atom) (x y old new : Attr) (table list : List Attr) → 1 ≤ length ts
      → (get_or ts 0 d).left ≡ element.Attr x → (get_or ts 0 d).right ≡ element.Attr y
      → table ≡ map (group_of (take (length ts - 1) (drop 1 ts))) attrs
      → old ≡ group_of (take (length ts - 1) (drop 1 ts)) y → new ≡ group_of (take (length ts - 1) (drop 1 ts)) x
      → list ≡ map (λ c. cond (attr_eq c old) new c) table → list ≡ map (group_of ts) attrs
  unfolding group_of
  table_joined [] d x y old new table list l e f t o n h = absurd (omega arith)
  table_joined (u ∷ ts) d x y old new table list l e f t o n h =
      let rest : take (length (u ∷ ts) - 1) (drop 1 (u ∷ ts)) ≡ ts = take_rest (u ∷ ts) 1 in
      let o' : old ≡ group_of ts y = subst (λ us. old ≡ group_of us y) rest o in
      let n' : new ≡ group_of ts x = subst (λ us. new ≡ group_of us x) rest n in
      let t' : table ≡ map (group_of ts) attrs = subst (λ us. table ≡ map (group_of us) attrs) rest t in
      h ∙ ap₂ (λ (p : Attr × Attr) (l : List Attr). map (λ c. cond (attr_eq c p.0) p.1 c) l) (ap₂ (λ (p q : Attr). (let r : Attr × Attr = (p, q) in r)) o' n') t'
      ∙ step (group_of ts) x y
      ∙ ap₂ (λ l r. map (group_with (group_of ts) l r) attrs) (sym e) (sym f)

  -- a comparison with a constant changes nothing
  pub table_right : (ts : List Atom) (d : Atom) (x : Attr) (k : Element) (table : List Attr) → 1 ≤ length ts
      → (get_or ts 0 d).left ≡ element.Attr x → (get_or ts 0 d).right ≡ k → ((a : Attr) → k ≡ element.Attr a → ⊥)
      → table ≡ map (group_of (take (length ts - 1) (drop 1 ts))) attrs → table ≡ map (group_of ts) attrs
  unfolding group_of
  table_right [] d x k table l e f n t = absurd (omega arith)
  table_right (u ∷ ts) d x (element.Attr a) table l e f n t = absurd (n a refl)
  table_right (u ∷ ts) d x (element.Const k) table l e f n t =
      let rest : take (length (u ∷ ts) - 1) (drop 1 (u ∷ ts)) ≡ ts = take_rest (u ∷ ts) 1 in
      subst (λ us. table ≡ map (group_of us) attrs) rest t
      ∙ ap₂ (λ l r. map (group_with (group_of ts) l r) attrs) (sym e) (sym f)

  pub table_left : (ts : List Atom) (d : Atom) (k : Element) (table : List Attr) → 1 ≤ length ts
      → (get_or ts 0 d).left ≡ k → ((a : Attr) → k ≡ element.Attr a → ⊥)
      → table ≡ map (group_of (take (length ts - 1) (drop 1 ts))) attrs → table ≡ map (group_of ts) attrs
  unfolding group_of
  table_left [] d k table l e n t = absurd (omega arith)
  table_left (u ∷ ts) d (element.Attr a) table l e n t = absurd (n a refl)
  table_left (u ∷ ts) d (element.Const k) table l e n t =
      let rest : take (length (u ∷ ts) - 1) (drop 1 (u ∷ ts)) ≡ ts = take_rest (u ∷ ts) 1 in
      subst (λ us. table ≡ map (group_of us) attrs) rest t
      ∙ ap (λ l. map (group_with (group_of ts) l u.right) attrs) (sym e)

-- with no comparison each column stands for itself
pub table_none : (ts : List Atom) (attrs list : List Attr) → length ts ≤ 0 → list ≡ attrs → list ≡ map (group_of ts) attrs
unfolding group_of
table_none (t ∷ ts) attrs list l h = absurd (omega arith)
table_none [] attrs list l h = h ∙ all attrs
  where
    all : (rest : List Attr) → rest ≡ map (group_of []) rest
    all [] = refl
    all (a ∷ rest) = ap (λ l. a ∷ l) (all rest)

-- the same by the columns that are named
pub alone_in : (ts : List Atom) (attrs : List Attr) → attrs ≡ attrs_of ts → (a : Attr) → ¬ Contains attrs a → group_of ts a ≡ a
alone_in ts attrs e a h = stands_alone ts a (λ k. h (subst (λ l. Contains l a) (sym e) k))
