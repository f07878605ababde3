-- The attributes and the constants of the other comparisons are no more than those of all.
use Rattle.std.proofs.Common.{ℕ, ◌-◌, ◌≤◌, ◌<◌, List, [], ◌∷◌, length, take, drop, get_or, ℤ, int_lt, arith}
use Rattle.std.proofs.lemmas.List.{take_rest}
use Rattle.sem_query.specs.Query.{attr_lt, attrs_with, consts_with, attrs_of, consts_of}
use Rattle.sem_query.specs.declared.atom.Attr.{Attr}
use Rattle.sem_query.specs.declared.atom.Element.{Element}
use Rattle.sem_query.specs.declared.atom.Element.TheVariants as element
use Rattle.sem_query.specs.declared.atom.Atom.{Atom}
use Rattle.sem_query.proofs.WithNew.{length-with_new}

-- an element takes no attribute away
length-attrs_with : (e : Element) (attrs : List Attr) → length attrs ≤ length (attrs_with e attrs)
length-attrs_with (element.Attr a) attrs = length-with_new attr_lt a attrs
length-attrs_with (element.Const k) attrs = omega arith

-- an element takes no constant away
length-consts_with : (e : Element) (consts : List ℤ) → length consts ≤ length (consts_with e consts)
length-consts_with (element.Attr a) consts = omega arith
length-consts_with (element.Const k) consts = length-with_new int_lt k consts

-- the other comparisons are fewer
pub length-others : (atoms : List Atom) → 1 ≤ length atoms → length (take (length atoms - 1) (drop 1 atoms)) < length atoms
length-others [] some = absurd (omega arith)
length-others (t ∷ ts) some = rw (take_rest (t ∷ ts) 1) (omega arith)

-- the right side of the first comparison adds no attribute beyond those of all
pub attrs_with_right : (atoms : List Atom) (d : Atom) (limit : ℕ) → 1 ≤ length atoms → length (attrs_of atoms) ≤ limit → length (attrs_with (get_or atoms 0 d).right (attrs_of (take (length atoms - 1) (drop 1 atoms)))) ≤ limit
attrs_with_right [] d limit some few = absurd (omega arith)
attrs_with_right (t ∷ ts) d limit some few = rw (take_rest (t ∷ ts) 1) (omega (arith, length-attrs_with t.left (attrs_with t.right (attrs_of ts))))

-- nor a constant
pub consts_with_right : (atoms : List Atom) (d : Atom) (limit : ℕ) → 1 ≤ length atoms → length (consts_of atoms) ≤ limit → length (consts_with (get_or atoms 0 d).right (consts_of (take (length atoms - 1) (drop 1 atoms)))) ≤ limit
consts_with_right [] d limit some few = absurd (omega arith)
consts_with_right (t ∷ ts) d limit some few = rw (take_rest (t ∷ ts) 1) (omega (arith, length-consts_with t.left (consts_with t.right (consts_of ts))))

-- the other comparisons name no more attributes than all
pub attrs_of_others : (atoms : List Atom) → 1 ≤ length atoms → length (attrs_of (take (length atoms - 1) (drop 1 atoms))) ≤ length (attrs_of atoms)
attrs_of_others [] some = absurd (omega arith)
attrs_of_others (t ∷ ts) some = rw (take_rest (t ∷ ts) 1) (omega (arith, length-attrs_with t.left (attrs_with t.right (attrs_of ts)), length-attrs_with t.right (attrs_of ts)))

-- nor more constants
pub consts_of_others : (atoms : List Atom) → 1 ≤ length atoms → length (consts_of (take (length atoms - 1) (drop 1 atoms))) ≤ length (consts_of atoms)
consts_of_others [] some = absurd (omega arith)
consts_of_others (t ∷ ts) some = rw (take_rest (t ∷ ts) 1) (omega (arith, length-consts_with t.left (consts_with t.right (consts_of ts)), length-consts_with t.right (consts_of ts)))
