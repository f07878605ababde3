-- A query with more comparisons is within the limits of a statement.
use Rattle.std.proofs.Common.{◌≡◌, ◌⊎◌, inl, inr, Bool, true, false, cond, ℤ, int_lt, List, [], ◌∷◌, ◌++◌, length, ap, subst, sym, ◌∙◌, refl, All, Contains}
use Rattle.std.proofs.lemmas.List.Elements.{All-append, All-weaker, All-contains}
use Rattle.sem_query.proofs.Elements.{SidesIn, sides_in, HasElement}
use Rattle.sem_query.proofs.Has.{Has, first, later, Has-from_contains, Contains-from_has, Has-append_left, Has-append_cases, Has-flat_map_from}
use Rattle.sem_query.specs.declared.atom.Atom.{Atom}
use Rattle.sem_query.specs.declared.atom.Attr.{Attr}
use Rattle.sem_query.specs.declared.atom.Domain.{Domain}
use Rattle.sem_query.specs.declared.atom.Op.{Op}
use Rattle.sem_query.specs.declared.atom.Op.TheVariants.{Lt, Gt}
use Rattle.sem_query.specs.declared.atom.Element.{Element}
use Rattle.sem_query.specs.declared.atom.Element.TheVariants as element
use Rattle.sem_query.specs.Query.{QueryValue, attr_lt, with_new, attrs_with, consts_with, attrs_of, consts_of, IsColumn, IsShort, IsDomain, HasAttr, IsWithinLimits}
use Rattle.plan_constraints.proofs.Joined.{All-from_has}
use Rattle.sem_laws.proofs.OnePartFits.{has_cases}
use Rattle.adv_mends.specs.declared.mend.Ends.{Ends}
use Rattle.adv_mends.specs.Mended.{AreEnds, compared, bounds_of, bounds_on, with_atoms, IsBound, Fit}
use Rattle.adv_mends.specs.Sublists.{IsSublist}
use Rattle.adv_mends.specs.Sets.{open_columns}
use Rattle.adv_mends.proofs.Limits.{open_is_read}
use Rattle.adv_mends.proofs.Sublists.{sublist-has}

-- what stands in a list with a new element is that one, or stood there
with_new-from : {X : Type 0} (lt : X → X → Bool) (x : X) (ys : List X) (z : X) → Has (with_new lt x ys) z → (x ≡ z) ⊎ Has ys z
with_new-from lt x [] z h = has_cases x z [] h
with_new-from {X = X} lt x (y ∷ ys) z h = by (lt x y) (lt y x) (λ k. with_new-from lt x ys z k) h
  where
    by : (b c : Bool) → (Has (with_new lt x ys) z → (x ≡ z) ⊎ Has ys z)
        → Has (cond {A = List X} b (x ∷ y ∷ ys) (cond c (y ∷ with_new lt x ys) (y ∷ ys))) z → (x ≡ z) ⊎ Has (y ∷ ys) z
    by true c f h = has_cases x z (y ∷ ys) h
    by false true f h = elim (has_cases y z (with_new lt x ys) h) [
      | inl e ↦ inr (subst (Has (y ∷ ys)) e first)
      | inr k ↦ elim (f k) [ inl e ↦ inl e | inr i ↦ inr (later i) ]
    ]
    by false false f h = inr h

attrs_with-from : (e : Element) (xs : List Attr) (a : Attr) → Has (attrs_with e xs) a → (e ≡ element.Attr a) ⊎ Has xs a
attrs_with-from (element.Attr b) xs a h = elim (with_new-from attr_lt b xs a h) [ inl e ↦ inl (ap (λ (c : Attr). element.Attr c) e) | inr i ↦ inr i ]
attrs_with-from (element.Const k) xs a h = inr h

consts_with-from : (e : Element) (xs : List ℤ) (k : ℤ) → Has (consts_with e xs) k → (e ≡ element.Const k) ⊎ Has xs k
consts_with-from (element.Attr b) xs k h = inr h
consts_with-from (element.Const j) xs k h = elim (with_new-from int_lt j xs k h) [ inl e ↦ inl (ap (λ (c : ℤ). element.Const c) e) | inr i ↦ inr i ]

-- a comparison of which the element is a side
record Naming (ts : List Atom) (x : Element) : Type 0 where
  one : Atom
  listed : Has ts one
  side : (one.left ≡ x) ⊎ (one.right ≡ x)

further : (t : Atom) (ts : List Atom) (x : Element) → Naming ts x → Naming (t ∷ ts) x
further t ts x r = record { one = r.one; listed = later r.listed; side = r.side }

names_attr : (ts : List Atom) (a : Attr) → Has (attrs_of ts) a → Naming ts (element.Attr a)
names_attr [] a h = elim h [ ]
names_attr (t ∷ ts) a h = elim (attrs_with-from t.left (attrs_with t.right (attrs_of ts)) a h) [
  | inl e ↦ record { one = t; listed = first; side = inl e }
  | inr i ↦ elim (attrs_with-from t.right (attrs_of ts) a i) [
    | inl e ↦ record { one = t; listed = first; side = inr e }
    | inr j ↦ further t ts (element.Attr a) (names_attr ts a j)
  ]
]

names_const : (ts : List Atom) (k : ℤ) → Has (consts_of ts) k → Naming ts (element.Const k)
names_const [] k h = elim h [ ]
names_const (t ∷ ts) k h = elim (consts_with-from t.left (consts_with t.right (consts_of ts)) k h) [
  | inl e ↦ record { one = t; listed = first; side = inl e }
  | inr i ↦ elim (consts_with-from t.right (consts_of ts) k i) [
    | inl e ↦ record { one = t; listed = first; side = inr e }
    | inr j ↦ further t ts (element.Const k) (names_const ts k j)
  ]
]

-- a side of a listed comparison is an attribute, or a constant
named_in : (ts : List Atom) (t : Atom) (x : Element) → Has ts t → (t.left ≡ x) ⊎ (t.right ≡ x) → HasElement (attrs_of ts) (consts_of ts) x
named_in ts t x h o =
    let s : SidesIn ts t = sides_in ts t h in
    elim o [
      | inl e ↦ subst (HasElement (attrs_of ts) (consts_of ts)) e s.left
      | inr e ↦ subst (HasElement (attrs_of ts) (consts_of ts)) e s.right
    ]

same_attr : (a b : Attr) → element.Attr a ≡ element.Attr b → a ≡ b
same_attr a b e = cc

same_const : (j k : ℤ) → element.Const j ≡ element.Const k → j ≡ k
same_const j k e = cc

no_const : (a : Attr) (k : ℤ) → element.Attr a ≡ element.Const k → ⊥
no_const a k e = cc

left_is_attr : (q : QueryValue) (t : Atom) → IsBound q t → HasAttr t
left_is_attr q t b = inl (rw b.left refl)

module _ (q : QueryValue) (more : List Atom) (within : IsWithinLimits q) (bounds : All (IsBound q) more) where
  bound_at : (t : Atom) → Has more t → IsBound q t
  bound_at t h = All-contains (IsBound q) more t bounds (Contains-from_has more t h)

  -- an attribute of the query is one with more comparisons
  attr_kept : (a : Attr) → Has (attrs_of q.atoms) a → Has (attrs_of (q.atoms ++ more)) a
  attr_kept a h = let r = names_attr q.atoms a h in named_in (q.atoms ++ more) r.one (element.Attr a) (Has-append_left more r.listed) r.side

  -- each attribute is a column, and each constant is short
  attr_is : (a : Attr) → Has (attrs_of (q.atoms ++ more)) a → IsColumn (length q.from) a
  attr_is a h =
      let r = names_attr (q.atoms ++ more) a h in
      elim (Has-append_cases q.atoms more r.one r.listed) [
        | inl i ↦ All-contains (IsColumn (length q.from)) (attrs_of q.atoms) a within.attrs (Contains-from_has (attrs_of q.atoms) a (named_in q.atoms r.one (element.Attr a) i r.side))
        | inr i ↦ of_bound r.one (bound_at r.one i) r.side
      ]
    where
      of_bound : (t : Atom) → IsBound q t → (t.left ≡ element.Attr a) ⊎ (t.right ≡ element.Attr a) → IsColumn (length q.from) a
      of_bound t b (inl e) =
          subst (IsColumn (length q.from)) (same_attr b.attr a (sym b.left ∙ e)) (elim b.reads [
            | inl c ↦ All-contains (IsColumn (length q.from)) (attrs_of q.atoms) b.attr within.attrs c
            | inr c ↦ All-contains (IsColumn (length q.from)) q.select b.attr within.select c
          ])
      of_bound t b (inr e) = absurd (no_const a b.value (sym e ∙ b.right))

  const_is : (k : ℤ) → Has (consts_of (q.atoms ++ more)) k → IsShort k
  const_is k h =
      let r = names_const (q.atoms ++ more) k h in
      elim (Has-append_cases q.atoms more r.one r.listed) [
        | inl i ↦ All-contains IsShort (consts_of q.atoms) k within.consts (Contains-from_has (consts_of q.atoms) k (named_in q.atoms r.one (element.Const k) i r.side))
        | inr i ↦ of_bound r.one (bound_at r.one i) r.side
      ]
    where
      of_bound : (t : Atom) → IsBound q t → (t.left ≡ element.Const k) ⊎ (t.right ≡ element.Const k) → IsShort k
      of_bound t b (inl e) = absurd (no_const b.attr k (sym b.left ∙ e))
      of_bound t b (inr e) = subst IsShort (same_const b.value k (sym b.right ∙ e)) b.short

  domain_is : (d : Domain) → IsDomain q d → IsDomain (with_atoms more q) d
  domain_is d h = record {
    column = elim h.column [
      | inl c ↦ inl (Contains-from_has (attrs_of (q.atoms ++ more)) d.attr (attr_kept d.attr (Has-from_contains (attrs_of q.atoms) d.attr c)))
      | inr c ↦ inr c
    ];
    low = h.low;
    high = h.high;
    some = h.some;
  }

  -- where the comparisons are few, and name few columns and integers, the query is within the limits
  pub limits-more : Fit (q.atoms ++ more) → IsWithinLimits (with_atoms more q)
  limits-more f = record {
    streams = within.streams;
    different = within.different;
    selected = within.selected;
    select = within.select;
    comparisons = f.comparisons;
    few_soft = f.few_soft;
    sides = All-append HasAttr q.atoms more within.sides (All-weaker (IsBound q) HasAttr (left_is_attr q) more bounds);
    few_attrs = f.few_attrs;
    attrs = All-from_has (IsColumn (length q.from)) (attrs_of (q.atoms ++ more)) attr_is;
    few_consts = f.few_consts;
    consts = All-from_has IsShort (consts_of (q.atoms ++ more)) const_is;
    few_domains = within.few_domains;
    domains = λ k d l. domain_is _ (within.domains k d l);
    ascending = within.ascending;
  }

-- a comparison of a column that the query reads is one of its bounds
pub bound-is : (q : QueryValue) (a : Attr) (op : Op) (k : ℤ) → Contains (attrs_of q.atoms) a ⊎ Contains q.select a → IsShort k → IsBound q (compared a op k)
bound-is q a op k h s = record { attr = a; value = k; left = refl; right = refl; reads = h; short = s }

-- so are the bounds on a set of columns
pub bounds-are : (q : QueryValue) (ends : Ends) (columns : List Attr) → AreEnds ends → IsSublist columns (open_columns q) → All (IsBound q) (bounds_on ends columns)
bounds-are q ends columns is s = All-from_has (IsBound q) (bounds_on ends columns) (λ t h. let r = Has-flat_map_from (bounds_of ends) columns t h in one r.0 t r.1 r.2)
  where
    one : (a : Attr) (t : Atom) → Has columns a → Has (bounds_of ends a) t → IsBound q t
    one a t h first = bound-is q a Gt ends.lo (open_is_read q a (sublist-has s h)) is.low
    one a t h (later first) = bound-is q a Lt ends.hi (open_is_read q a (sublist-has s h)) is.high
    one a t h (later (later k)) = elim k [ ]
