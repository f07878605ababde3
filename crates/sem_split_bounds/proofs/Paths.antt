-- Where the differences of a system lead from a column, and what such a path bounds.
use Rattle.std.proofs.Common.{◌≡◌, ◌≢◌, ℕ, pos, ◌≤ℤ◌, ◌⊎◌, inl, inr, List, false, nat_eq, refl, sym, ap, ◌∙◌, arith}
use Rattle.std.proofs.lemmas.Int.{ints}
use Rattle.std.specs.List.{flat_map}
use Rattle.sem_query.specs.declared.atom.Attr.{Attr}
use Rattle.sem_query.specs.declared.atom.Domain.{Domain}
use Rattle.sem_query.specs.declared.atom.Element.{Element}
use Rattle.sem_query.specs.declared.atom.Element.TheVariants as element
use Rattle.sem_query.specs.declared.atom.Op.{Op}
use Rattle.sem_query.specs.Query.{QueryValue}
use Rattle.sem_query.specs.Assignment.{value}
use Rattle.sem_query.proofs.Has.{Has, first, later, Has-nil, Has-append_cases, Has-flat_map_from}
use Rattle.sem_laws.proofs.Tests.{true_or_false, nat_true}
use Rattle.sem_whole.specs.System.{Difference, bounds_of, atom_bounds, domain_bounds, system, Bound}
pub use Rattle.sem_split_bounds.specs.Steps.{Step}

-- a path of differences from the first column to the second
pub data Leads (ds : List Difference) : Attr → Attr → Type 0 where
  here : {a : Attr} → Leads ds a a
  onward : {a b c : Attr} (d : Difference) → Has ds d → d.left ≡ element.Attr a → d.right ≡ element.Attr b → Leads ds b c → Leads ds a c

pub leads_more : (ds : List Difference) (a b c : Attr) → Leads ds a b → Leads ds b c → Leads ds a c
leads_more ds a b c here h = h
leads_more ds a b c (onward {b = m} d k l r p) h = onward {b = m} d k l r (leads_more ds m b c p h)

pub bounds_tight : (o : Op) (x y : Element) (d : Difference) → Has (bounds_of o x y) d → d.by ≤ℤ pos 0
bounds_tight Op.Lt x y d first = omega (arith, ints)
bounds_tight Op.Lt x y d (later k) = Has-nil k
bounds_tight Op.Eq x y d first = omega (arith, ints)
bounds_tight Op.Eq x y d (later first) = omega (arith, ints)
bounds_tight Op.Eq x y d (later (later k)) = Has-nil k
bounds_tight Op.Gt x y d first = omega (arith, ints)
bounds_tight Op.Gt x y d (later k) = Has-nil k
bounds_tight Op.Le x y d first = omega (arith, ints)
bounds_tight Op.Le x y d (later k) = Has-nil k
bounds_tight Op.Ge x y d first = omega (arith, ints)
bounds_tight Op.Ge x y d (later k) = Has-nil k
bounds_tight Op.Ne x y d k = Has-nil k

domain_tight : (e : Domain) (d : Difference) → Has (domain_bounds e) d → d.by ≤ℤ pos 0
domain_tight e d h = elim (Has-append_cases (bounds_of Op.Le (element.Const e.lo) (element.Attr e.attr)) (bounds_of Op.Le (element.Attr e.attr) (element.Const e.hi)) d h) [
  | inl k ↦ bounds_tight Op.Le (element.Const e.lo) (element.Attr e.attr) d k
  | inr k ↦ bounds_tight Op.Le (element.Attr e.attr) (element.Const e.hi) d k
]

-- no difference of a system lets its left side be above its right side
pub system_tight : (q : QueryValue) (d : Difference) → Has (system q) d → d.by ≤ℤ pos 0
system_tight q d h = elim (Has-append_cases (flat_map atom_bounds q.atoms) (flat_map domain_bounds q.domains) d h) [
  | inl k ↦ (let r = Has-flat_map_from atom_bounds q.atoms d k in bounds_tight r.0.op r.0.left r.0.right d r.2)
  | inr k ↦ (let r = Has-flat_map_from domain_bounds q.domains d k in domain_tight r.0 d r.2)
]

-- where a path leads, no value is less
pub leads_bound : (q : QueryValue) (a b : Attr) → Leads (system q) a b → Bound (system q) (element.Attr a) (element.Attr b) (pos 0)
leads_bound q a b here v s = omega (arith, ints)
leads_bound q a b (onward {b = m} d h l r p) v s =
    let t = system_tight q d h in
    let o = s d h in
    let x : value d.left v ≡ v a = ap (λ e. value e v) l in
    let y : value d.right v ≡ v m = ap (λ e. value e v) r in
    let k = leads_bound q m b p v s in
    omega (arith, ints, t, o, x, y, k)

pub step_leads : (ds : List Difference) (x y : Attr) → Step ds x y → Leads ds x y
step_leads ds x y s = onward {b = y} s.of s.among s.left s.right here

apart : (m n : ℕ) → nat_eq m n ≡ false → m ≢ n
apart m n h e = grind (arith, h, e)

-- a path stays in its first stream, or leaves it
pub leaving : (ds : List Difference) (a c : Attr) → Leads ds a c
    → (a.stream ≡ c.stream) ⊎ ((x y : Attr) × Leads ds a x × (x.stream ≡ a.stream) × Step ds x y × Leads ds y c)
leaving ds a c here = inl refl
leaving ds a c (onward {b = m} d h l r p) = elim (true_or_false (nat_eq a.stream m.stream)) [
  | inl e ↦ (let same : a.stream ≡ m.stream = nat_true a.stream m.stream e in elim (leaving ds m c p) [
    | inl s ↦ inl (same ∙ s)
    | inr k ↦ inr (k.0, k.1, onward {b = m} d h l r k.2, k.3 ∙ sym same, k.4, k.5)
  ])
  | inr e ↦ inr (a, m, here, refl, record { of = d; among = h; left = l; right = r; across = apart a.stream m.stream e }, p)
]

-- a path stays in its last stream, or enters it
pub entering : (ds : List Difference) (a c : Attr) → Leads ds a c
    → (a.stream ≡ c.stream) ⊎ ((x y : Attr) × Leads ds a x × Step ds x y × (y.stream ≡ c.stream) × Leads ds y c)
entering ds a c here = inl refl
entering ds a c (onward {b = m} d h l r p) = elim (entering ds m c p) [
  | inl s ↦ elim (true_or_false (nat_eq a.stream m.stream)) [
    | inl e ↦ inl (nat_true a.stream m.stream e ∙ s)
    | inr e ↦ inr (a, m, here, record { of = d; among = h; left = l; right = r; across = apart a.stream m.stream e }, s, p)
  ]
  | inr k ↦ inr (k.0, k.1, onward {b = m} d h l r k.2, k.3, k.4, k.5)
]
