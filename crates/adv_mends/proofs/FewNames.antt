-- Few comparisons name few columns and few integers.
use Rattle.std.proofs.Common.{◌+◌, ◌*◌, ◌≤◌, ℤ, int_lt, List, [], ◌∷◌, length, arith}
use Rattle.sem_query.specs.declared.atom.Atom.{Atom}
use Rattle.sem_query.specs.declared.atom.Attr.{Attr}
use Rattle.sem_query.specs.declared.atom.Element.{Element}
use Rattle.sem_query.specs.declared.atom.Element.TheVariants as element
use Rattle.sem_query.specs.Query.{attr_lt, attrs_with, consts_with, attrs_of, consts_of}
use Rattle.adv_mends.proofs.Limits.{with_new-longer}

attrs_with-longer : (e : Element) (xs : List Attr) → length (attrs_with e xs) ≤ length xs + 1
attrs_with-longer (element.Attr a) xs = with_new-longer attr_lt a xs
attrs_with-longer (element.Const k) xs = omega arith

consts_with-longer : (e : Element) (xs : List ℤ) → length (consts_with e xs) ≤ length xs + 1
consts_with-longer (element.Attr a) xs = omega arith
consts_with-longer (element.Const k) xs = with_new-longer int_lt k xs

pub few_attrs : (atoms : List Atom) → length (attrs_of atoms) ≤ 2 * length atoms
few_attrs [] = omega arith
few_attrs (t ∷ ts) = omega (arith, few_attrs ts, attrs_with-longer t.right (attrs_of ts), attrs_with-longer t.left (attrs_with t.right (attrs_of ts)))

pub few_consts : (atoms : List Atom) → length (consts_of atoms) ≤ 2 * length atoms
few_consts [] = omega arith
few_consts (t ∷ ts) = omega (arith, few_consts ts, consts_with-longer t.right (consts_of ts), consts_with-longer t.left (consts_with t.right (consts_of ts)))
