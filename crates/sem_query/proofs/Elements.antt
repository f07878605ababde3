-- Each side of an atom is an element of its query.
use Rattle.std.proofs.Common.{◌≡◌, ℤ, List, [], ◌∷◌, cond, Bool, true, false, ◌⊎◌, inl, inr, refl, int_lt, arith}
use Rattle.std.proofs.lemmas.Int.{ints}
use Rattle.sem_query.proofs.Has.{Has, first, later, Has-head, Contains-from_has}
use Rattle.sem_query.specs.declared.atom.Attr.{Attr}
use Rattle.sem_query.specs.declared.atom.Atom.{Atom}
use Rattle.sem_query.specs.declared.atom.Element.{Element}
use Rattle.sem_query.specs.declared.atom.Element.TheVariants as element
use Rattle.sem_query.specs.Query.{QueryValue, with_new, attrs_with, consts_with, attrs_of, consts_of, attr_lt}
use Rattle.sem_query.specs.Order.{IsElement}

-- lt tells its elements apart
abbrev pub Separates : {A : Type 0} → (A → A → Bool) → Type 0
Separates {A} lt = (x y : A) → lt x y ≡ false → lt y x ≡ false → x ≡ y

split : (b : Bool) → (b ≡ true) ⊎ (b ≡ false)
split true = inl refl
split false = inr refl

-- an element that is put in is there
pub with_new-has_new : {A : Type 0} (lt : A → A → Bool) → Separates lt → (x : A) (xs : List A) → Has (with_new lt x xs) x
with_new-has_new lt sep x [] = first
with_new-has_new {A} lt sep x (y ∷ ys) =
    let at : (b c : Bool) → lt x y ≡ b → lt y x ≡ c → Has (cond b (x ∷ y ∷ ys) (cond c (y ∷ with_new lt x ys) (y ∷ ys))) x =
    λ b c. elim b as (λ b. lt x y ≡ b → lt y x ≡ c → Has (cond b (x ∷ y ∷ ys) (cond c (y ∷ with_new lt x ys) (y ∷ ys))) x) [
      | true ↦ λ p q. first
      | false ↦ elim c as (λ c. lt x y ≡ false → lt y x ≡ c → Has (cond c (y ∷ with_new lt x ys) (y ∷ ys)) x) [
        | true ↦ λ p q. later (with_new-has_new lt sep x ys)
        | false ↦ λ p q. Has-head x y ys (sep y x q p)
      ]
    ] in
    at (lt x y) (lt y x) refl refl

chosen : {A : Type 0} (b c : Bool) (x y : A) (xs ys : List A) (z : A) → Has (y ∷ ys) z → Has (y ∷ xs) z → Has (cond b (x ∷ y ∷ ys) (cond c (y ∷ xs) (y ∷ ys))) z
chosen true c x y xs ys z h k = later h
chosen false true x y xs ys z h k = k
chosen false false x y xs ys z h k = h

-- what was there stays
pub with_new-has_old : {A : Type 0} (lt : A → A → Bool) (x : A) (xs : List A) (z : A) → Has xs z → Has (with_new lt x xs) z
with_new-has_old lt x [] z h = elim h [ ]
with_new-has_old lt x (y ∷ ys) z first = chosen (lt x y) (lt y x) x y _ _ _ first first
with_new-has_old lt x (y ∷ ys) z (later k) = chosen (lt x y) (lt y x) x y _ _ _ (later k) (later (with_new-has_old lt x ys z k))

pub attr_separates : Separates attr_lt
attr_separates x y p q = grind (arith)

const_separates : Separates int_lt
const_separates x y p q = omega (arith, ints)

pub attrs_with-has : (q : List Attr) (e : Element) (a : Attr) → Has q a → Has (attrs_with e q) a
attrs_with-has q (element.Attr b) a h = with_new-has_old attr_lt b q a h
attrs_with-has q (element.Const k) a h = h

consts_with-has : (ks : List ℤ) (e : Element) (k : ℤ) → Has ks k → Has (consts_with e ks) k
consts_with-has ks (element.Attr b) k h = h
consts_with-has ks (element.Const j) k h = with_new-has_old int_lt j ks k h

-- x is among them
abbrev pub HasElement : List Attr → List ℤ → Element → Type 0
HasElement xs ks (element.Attr a) = Has xs a
HasElement xs ks (element.Const k) = Has ks k

added : (xs : List Attr) (ks : List ℤ) (x : Element) → HasElement (attrs_with x xs) (consts_with x ks) x
added xs ks (element.Attr a) = with_new-has_new attr_lt attr_separates a xs
added xs ks (element.Const k) = with_new-has_new int_lt const_separates k ks

kept : (xs : List Attr) (ks : List ℤ) (e x : Element) → HasElement xs ks x → HasElement (attrs_with e xs) (consts_with e ks) x
kept xs ks e (element.Attr a) h = attrs_with-has xs e a h
kept xs ks e (element.Const k) h = consts_with-has ks e k h

-- both sides of an atom are among the attributes and the constants
pub record SidesIn (ts : List Atom) (t : Atom) : Type 0 where
  pub left : HasElement (attrs_of ts) (consts_of ts) t.left
  pub right : HasElement (attrs_of ts) (consts_of ts) t.right

-- so they are for each atom of a query
pub sides_in : (ts : List Atom) (t : Atom) → Has ts t → SidesIn ts t
sides_in [] t h = elim h [ ]
sides_in (u ∷ ts) t first = record {
  left = added _ _ u.left;
  right = kept _ _ u.left u.right (added _ _ u.right);
}
sides_in (u ∷ ts) t (later h) =
    let r : SidesIn ts t = sides_in ts t h in
    record {
      left = kept _ _ u.left t.left (kept _ _ u.right t.left r.left);
      right = kept _ _ u.left t.right (kept _ _ u.right t.right r.right);
    }

-- one of those is an element of the query
pub element_from_has : (q : QueryValue) (x : Element) → HasElement (attrs_of q.atoms) (consts_of q.atoms) x → IsElement q x
element_from_has q (element.Attr a) h = Contains-from_has _ a h
element_from_has q (element.Const k) h = Contains-from_has _ k h
