-- The columns that the atoms of a query name are there where their sides are.
use Rattle.std.proofs.Common.{ℕ, List, All, [], ◌∷◌, cond, Bool, true, false}
use Rattle.std.proofs.lemmas.List.Elements.{All-contains}
use Rattle.sem_query.proofs.Has.{Has, first, later, Has-from_contains, Contains-from_has}
use Rattle.sem_query.specs.declared.atom.Attr.{Attr}
use Rattle.sem_query.specs.declared.atom.Atom.{Atom}
use Rattle.sem_query.specs.declared.atom.Element.{Element}
use Rattle.sem_query.specs.declared.atom.Element.TheVariants as element
use Rattle.sem_query.specs.Query.{attr_lt, with_new, attrs_with, attrs_of}
use Rattle.sql_catalog.specs.Streams.{Shape}
use Rattle.sql_parser.specs.Resolution.{IsColumnOf, HasSide, HasSides, named_attrs}
use Rattle.sql_parser.specs.Laws.{AttributesAreNamed}

one_more : {X : Type 0} (P : X → Type 0) (y : X) (xs : List X) → P y → ((z : X) → Has xs z → P z) → (z : X) → Has (y ∷ xs) z → P z
one_more P y xs p f z first = p
one_more P y xs p f z (later k) = f z k

chosen : {X : Type 0} (b c : Bool) (P : X → Type 0) (xs ys zs : List X) (z : X) → (Has xs z → P z) → (Has ys z → P z) → (Has zs z → P z) → Has (cond b xs (cond c ys zs)) z → P z
chosen true c P xs ys zs z f g h k = f k
chosen false true P xs ys zs z f g h k = g k
chosen false false P xs ys zs z f g h k = h k

-- what holds of an element and of all elements of a list holds of all after the element was put in
pub put_in : {X : Type 0} (lt : X → X → Bool) (P : X → Type 0) (x : X) (xs : List X) → P x → ((z : X) → Has xs z → P z) → (z : X) → Has (with_new lt x xs) z → P z
put_in lt P x [] p f z h = one_more P x [] p f z h
put_in lt P x (y ∷ ys) p f z h =
    chosen (lt x y) (lt y x) P (x ∷ y ∷ ys) (y ∷ with_new lt x ys) (y ∷ ys) z
    (one_more P x (y ∷ ys) p f z)
    (one_more P y (with_new lt x ys) (f y first) (put_in lt P x ys p (λ v i. f v (later i))) z)
    (f z) h

with_side : (streams : List Shape) (from : List ℕ) (e : Element) (xs : List Attr) → HasSide streams from e → ((z : Attr) → Has xs z → IsColumnOf streams from z) → (z : Attr) → Has (attrs_with e xs) z → IsColumnOf streams from z
with_side streams from (element.Attr a) xs h f z k = put_in attr_lt (IsColumnOf streams from) a xs h f z k
with_side streams from (element.Const c) xs h f z k = f z k

named : (streams : List Shape) (from : List ℕ) (atoms : List Atom) → ((t : Atom) → Has atoms t → HasSides streams from t) → (a : Attr) → Has (attrs_of atoms) a → IsColumnOf streams from a
named streams from [] f a h = elim h [ ]
named streams from (t ∷ ts) f a h =
    let sides : HasSides streams from t = f t first in
    with_side streams from t.left _ sides.0 (with_side streams from t.right _ sides.1 (named streams from ts (λ u k. f u (later k)))) a h

pub attributes_are_named : AttributesAreNamed
attributes_are_named streams q h a c =
    named streams q.from q.atoms (λ t k. All-contains (HasSides streams q.from) q.atoms t h.atoms (Contains-from_has q.atoms t k)) a (Has-from_contains (attrs_of q.atoms) a c)

-- and so are these and the selected columns
pub all_there : (streams : List Shape) (from : List ℕ) (select : List Attr) (atoms : List Atom) → All (IsColumnOf streams from) select → All (HasSides streams from) atoms
    → (a : Attr) → Has (named_attrs select atoms) a → IsColumnOf streams from a
all_there streams from select atoms h k = there select (λ a i. All-contains (IsColumnOf streams from) select a h (Contains-from_has select a i))
  where
    there : (attrs : List Attr) → ((a : Attr) → Has attrs a → IsColumnOf streams from a) → (a : Attr) → Has (named_attrs attrs atoms) a → IsColumnOf streams from a
    there [] f a i = named streams from atoms (λ t j. All-contains (HasSides streams from) atoms t k (Contains-from_has atoms t j)) a i
    there (b ∷ attrs) f a i = put_in attr_lt (IsColumnOf streams from) b (named_attrs attrs atoms) (f b first) (there attrs (λ c j. f c (later j))) a i
