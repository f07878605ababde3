-- The condition of a query holds exactly where each of its atoms does.
use Rattle.std.proofs.Common.{◌≡◌, ◌≢◌, Bool, true, false, ◌&&◌, List, [], ◌∷◌, ℤ, ◌<ℤ◌, ◌≤ℤ◌, refl, ap, ◌∙◌, arith}
use Rattle.std.proofs.lemmas.Int.{ints}
use Rattle.std.specs.List.{list_all}
use Rattle.sem_query.specs.declared.atom.Op.{Op}
use Rattle.sem_query.specs.declared.atom.Atom.{Atom}
use Rattle.sem_query.specs.Query.{QueryValue}
use Rattle.sem_query.specs.Assignment.{Assignment, compares, meets, AtomHolds, Holds}
use Rattle.sem_query.proofs.Has.{Has, first, later}

-- the integers stand to each other as the operator says
abbrev pub Compares : Op → ℤ → ℤ → Type 0
Compares Op.Lt x y = x <ℤ y
Compares Op.Eq x y = x ≡ y
Compares Op.Gt x y = y <ℤ x
Compares Op.Le x y = x ≤ℤ y
Compares Op.Ge x y = y ≤ℤ x
Compares Op.Ne x y = x ≢ y

-- the test and the relation agree
pub Compares-from_test : (o : Op) (x y : ℤ) → compares o x y ≡ true → Compares o x y
Compares-from_test Op.Lt x y h = grind (arith, ints)
Compares-from_test Op.Eq x y h = grind (arith, ints)
Compares-from_test Op.Gt x y h = grind (arith, ints)
Compares-from_test Op.Le x y h = grind (arith, ints)
Compares-from_test Op.Ge x y h = grind (arith, ints)
Compares-from_test Op.Ne x y h = grind (arith, ints)

pub compares-true : (o : Op) (x y : ℤ) → Compares o x y → compares o x y ≡ true
compares-true Op.Lt x y h = grind (arith, ints)
compares-true Op.Eq x y h = grind (arith, ints)
compares-true Op.Gt x y h = grind (arith, ints)
compares-true Op.Le x y h = grind (arith, ints)
compares-true Op.Ge x y h = grind (arith, ints)
compares-true Op.Ne x y h = grind (arith, ints)

module _ (v : Assignment) where
  each_meets : (atoms : List Atom) → list_all (meets v) atoms ≡ true → (t : Atom) → Has atoms t → AtomHolds v t
  each_meets [] h t i = elim i [ ]
  each_meets (u ∷ us) h t first = (both (meets v u) (list_all (meets v) us) h).0 where
    both : (a b : Bool) → (a && b) ≡ true → (a ≡ true) × (b ≡ true)
    both true b e = (refl, e)
    both false b e = absurd cc
  each_meets (u ∷ us) h t (later i) = each_meets us (rest (meets v u) (list_all (meets v) us) h) t i where
    rest : (a b : Bool) → (a && b) ≡ true → b ≡ true
    rest true b e = e
    rest false b e = absurd cc

  all_meet : (atoms : List Atom) → ((t : Atom) → Has atoms t → AtomHolds v t) → list_all (meets v) atoms ≡ true
  all_meet [] f = refl
  all_meet (u ∷ us) f = ap (λ b. b && list_all (meets v) us) (f u first) ∙ all_meet us (λ t i. f t (later i))

-- each atom of a condition that holds does
pub Holds-each : (q : QueryValue) (v : Assignment) → Holds q v → (t : Atom) → Has q.atoms t → AtomHolds v t
Holds-each q v h = each_meets v q.atoms h

-- where each atom holds, the condition does
pub Holds-from_each : (q : QueryValue) (v : Assignment) → ((t : Atom) → Has q.atoms t → AtomHolds v t) → Holds q v
Holds-from_each q v f = all_meet v q.atoms f
