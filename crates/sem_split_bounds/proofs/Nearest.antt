-- The integers that are written have at most 15 digits, and what is at or under one of them is at or under the nearest that has.
use Rattle.std.proofs.Common.{◌≡◌, ◌⊎◌, inl, inr, ℤ, ◌≤ℤ◌, int_lt, Bool, true, false, cond, List, [], ◌∷◌, map, refl, sym, subst, arith}
use Rattle.std.specs.List.{fold}
use Rattle.std.proofs.lemmas.Int.{ints}
use Rattle.std.proofs.lemmas.List.Elements.{All-contains}
use Rattle.sem_query.specs.declared.atom.Attr.{Attr}
use Rattle.sem_query.specs.declared.atom.Atom.{Atom}
use Rattle.sem_query.specs.declared.atom.Element.{Element}
use Rattle.sem_query.specs.declared.atom.Element.TheVariants as element
use Rattle.sem_query.specs.Query.{QueryValue, attrs_of, consts_of, with_new, IsShort, IsWithinLimits}
use Rattle.sem_query.proofs.Elements.{HasElement, SidesIn, sides_in, Separates, with_new-has_new, with_new-has_old}
use Rattle.sem_query.proofs.Has.{Has, first, later, Has-nil, Contains-from_has, Has-map, Has-map_from}
use Rattle.plan_split_pairs.specs.Laws.{IsColumnOrShort}
use Rattle.plan_split_pairs.specs.Listed.{IsShortSide, IsWrittenShort}
use Rattle.plan_split_pairs.specs.Outer.{given_integers, nearest_short, outer_integers}
use Rattle.sem_whole.specs.System.{Difference}

pub under_nearest : (x n k : ℤ) → x ≤ℤ n → x ≤ℤ k → IsShort k → x ≤ℤ nearest_short n
under_nearest x n k l m s = let a = s.high in grind (arith, ints, l, m, a)

pub over_nearest : (x n k : ℤ) → n ≤ℤ x → k ≤ℤ x → IsShort k → nearest_short n ≤ℤ x
over_nearest x n k l m s = let a = s.low in grind (arith, ints, l, m, a)

pub nearest_itself : (k : ℤ) → IsShort k → nearest_short k ≡ k
nearest_itself k s = let a = s.low in let b = s.high in grind (arith, ints, a, b)

pub named_short : (attrs : List Attr) (e : Element) → IsColumnOrShort attrs e → IsShortSide e
named_short attrs (element.Attr a) h = tt
named_short attrs (element.Const k) h = h

element_short : (q : QueryValue) → IsWithinLimits q → (e : Element) → HasElement (attrs_of q.atoms) (consts_of q.atoms) e → IsShortSide e
element_short q within (element.Attr a) h = tt
element_short q within (element.Const k) h = All-contains IsShort (consts_of q.atoms) k within.consts (Contains-from_has (consts_of q.atoms) k h)

pub atom_short : (q : QueryValue) → IsWithinLimits q → (t : Atom) → Has q.atoms t → IsWrittenShort t
atom_short q within t h =
    let s : SidesIn q.atoms t = sides_in q.atoms t h in
    record { left = element_short q within t.left s.left; right = element_short q within t.right s.right }

-- so are the sides of a difference of which they are the sides
pub difference_short : (x y : Element) (d : Difference) → IsShortSide x → IsShortSide y → ((d.left ≡ x) × (d.right ≡ y)) ⊎ ((d.left ≡ y) × (d.right ≡ x)) → IsShortSide d.left × IsShortSide d.right
difference_short x y d s t (inl e) = (subst IsShortSide (sym e.0) s, subst IsShortSide (sym e.1) t)
difference_short x y d s t (inr e) = (subst IsShortSide (sym e.0) t, subst IsShortSide (sym e.1) s)

-- ---- integers ascending, each once

put_from : (x : ℤ) (ys : List ℤ) (z : ℤ) → Has (with_new int_lt x ys) z → (x ≡ z) ⊎ Has ys z
put_from x [] z first = inl refl
put_from x [] z (later h) = inr h
put_from x (y ∷ ys) z h = by (int_lt x y) (int_lt y x) (with_new int_lt x ys) (put_from x ys z) h
  where
    one : (zs : List ℤ) (w : ℤ) → (Has zs w → (x ≡ w) ⊎ Has ys w) → Has (y ∷ zs) w → (x ≡ w) ⊎ Has (y ∷ ys) w
    one zs w f first = inr first
    one zs w f (later i) = elim (f i) [ inl e ↦ inl e | inr j ↦ inr (later j) ]

    two : (w : ℤ) → Has (x ∷ y ∷ ys) w → (x ≡ w) ⊎ Has (y ∷ ys) w
    two w first = inl refl
    two w (later i) = inr i

    by : (b c : Bool) (zs : List ℤ) → (Has zs z → (x ≡ z) ⊎ Has ys z) → Has (cond b (x ∷ y ∷ ys) (cond c (y ∷ zs) (y ∷ ys))) z → (x ≡ z) ⊎ Has (y ∷ ys) z
    by true c zs f i = two z i
    by false true zs f i = one zs z f i
    by false false zs f i = inr i

fold_from : (ks list : List ℤ) (z : ℤ) → Has (fold (λ list k. with_new int_lt k list) list ks) z → Has list z ⊎ Has ks z
fold_from [] list z h = inl h
fold_from (k ∷ ks) list z h = elim (fold_from ks (with_new int_lt k list) z h) [
  | inl i ↦ (elim (put_from k list z i) [ inl e ↦ inr (subst (λ w. Has (k ∷ ks) w) e first) | inr j ↦ inl j ])
  | inr i ↦ inr (later i)
]

int_separates : Separates int_lt
int_separates x y p q = omega (arith, ints)

fold_old : (ks list : List ℤ) (z : ℤ) → Has list z → Has (fold (λ list k. with_new int_lt k list) list ks) z
fold_old [] list z h = h
fold_old (k ∷ ks) list z h = fold_old ks (with_new int_lt k list) z (with_new-has_old int_lt k list z h)

fold_has : (ks list : List ℤ) (z : ℤ) → Has ks z → Has (fold (λ list k. with_new int_lt k list) list ks) z
fold_has [] list z h = elim h [ ]
fold_has (k ∷ ks) list z first = fold_old ks (with_new int_lt k list) k (with_new-has_new int_lt int_separates k list)
fold_has (k ∷ ks) list z (later h) = fold_has ks (with_new int_lt k list) z h

pub outer_given : (q : QueryValue) (a : Attr) (k : ℤ) → Has (outer_integers q a) k → (n : ℤ) × Has (given_integers q a) n × (nearest_short n ≡ k)
outer_given q a k h = elim (fold_from (map nearest_short (given_integers q a)) [] k h) [
  | inl i ↦ Has-nil i
  | inr i ↦ Has-map_from nearest_short (given_integers q a) k i
]

pub given_outer : (q : QueryValue) (a : Attr) (k : ℤ) → Has (given_integers q a) k → Has (outer_integers q a) (nearest_short k)
given_outer q a k h = fold_has (map nearest_short (given_integers q a)) [] (nearest_short k) (Has-map nearest_short h)
