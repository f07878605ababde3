-- A certificate that is good: that of SELECT DISTINCT S.a FROM S WHERE S.a > 5 AND S.a < 7, which has one part.
use Rattle.std.proofs.Common.{◌≡◌, ℕ, zero, suc, ◌<◌, ◌≤◌, ◌-◌, ℤ, pos, neg_ℤ, ◌+ℤ◌, ◌<ℤ◌, true, false, inl, refl, sym, subst, arith, Some, List, [], ◌∷◌, length, slice_get, None}
use Rattle.std.proofs.lemmas.Int.{ints}
use Rattle.sem_query.specs.declared.atom.Attr.{Attr}
use Rattle.sem_query.specs.declared.atom.Element.TheVariants as element
use Rattle.sem_query.specs.declared.atom.Op.{Op}
use Rattle.sem_query.specs.declared.part.Sign.{Sign}
use Rattle.sem_query.specs.declared.atom.Atom.{Atom}
use Rattle.sem_query.specs.Query.{QueryValue, HasAttr, IsColumn, IsShort, IsDomain, IsWithinLimits}
use Rattle.sem_query.specs.Parts.{pairs, AreParts}
use Rattle.plan_constraints.specs.declared.constraint.Constraint.{Constraint}
use Rattle.plan_constraints.specs.Solutions.{IsNegativeCycle}
use Rattle.plan_constraints.specs.PartConstraints.{of_prefix}
use Rattle.cert_format.specs.declared.line.Path.{Path}
use Rattle.cert_format.specs.Nodes.{Node, split, infeasible, leaf}
use Rattle.cert_checker.specs.Branching.{plain_branching}
use Rattle.cert_checker.specs.Rules.{IsPath, path_lt, ArePaths, IsBound, same, of_path, HasBound, AreClosed, MayBePart, IsGoodLeaf}
use Rattle.cert_checker.proofs.LeafTable.{table_from_bound}
use Rattle.cert_checker.proofs.LeavesInOrder.{leaves_are_parts}
use Rattle.sem_query.proofs.Has.{Has, first, later, Has-from_contains}
use Rattle.sem_query.proofs.Unique.{none, more}
use Rattle.sem_query.proofs.Split.{pairs_from}
use Rattle.plan_constraints.proofs.Joined.{All-from_has}
use Rattle.plan_constraints.proofs.Options.{some_is}
use Rattle.cert_checker.specs.Reading.{AreGood, IsGood, done, next}

-- the only column, S.a
abbrev pub column : Attr
column = record { stream = 0; column = 0 }

-- the query
abbrev pub query : QueryValue
query = record {
  distinct = true;
  from = 0 ∷ [];
  select = column ∷ [];
  atoms = record { left = element.Attr column; op = Op.Gt; right = element.Const (pos 5) } ∷ record { left = element.Attr column; op = Op.Lt; right = element.Const (pos 7) } ∷ [];
  domains = [];
  compact = false;
}

-- the certificate
abbrev pub certificate : List Node
certificate =
    split 1
    ∷ infeasible (1 ∷ 3 ∷ [])
    ∷ infeasible (1 ∷ 3 ∷ [])
    ∷ split 2
    ∷ leaf (record { from = 0; to = 1; numbers = record { items = 1 ∷ [] } } ∷ record { from = 1; to = 0; numbers = record { items = 2 ∷ [] } } ∷ [])
    ∷ infeasible (2 ∷ 5 ∷ [])
    ∷ infeasible (2 ∷ 4 ∷ [])
    ∷ []

-- the bounds of the comparisons, S.a above 5 and below 7
abbrev above_five : Constraint
above_five = record { left = 0; right = 1; bound = neg_ℤ (pos 6) }

abbrev below_seven : Constraint
below_seven = record { left = 1; right = 0; bound = pos 6 }

prefix_of_leaf : of_prefix query (Sign.Gt ∷ Sign.Lt ∷ []) ≡ above_five ∷ below_seven ∷ above_five ∷ below_seven ∷ []
unfolding pairs
prefix_of_leaf = refl

two_pairs : length (pairs query) ≡ 2
unfolding pairs
two_pairs = refl

-- two constraints that lead back and forth with a negative sum
pub cycle_of_two : (cs : List Constraint) (e f : ℕ) (c d : Constraint) → 0 < e → 0 < f → slice_get cs (e - 1) ≡ Some c → slice_get cs (f - 1) ≡ Some d → d.left ≡ c.right → d.right ≡ c.left → (c.bound +ℤ d.bound) <ℤ pos 0 → IsNegativeCycle cs (e ∷ f ∷ [])
cycle_of_two cs e f c d le lf g h l r n = record {
  node = c.left;
  sum = c.bound +ℤ d.bound;
  chain = (c, le, g, refl, (d, lf, h, l, (r, omega (arith, ints))));
  negative = n;
}

-- the part where S.a is not above 5, by its sign to 5
below_five : IsNegativeCycle (of_prefix query (Sign.Lt ∷ [])) (1 ∷ 3 ∷ [])
unfolding pairs
below_five = cycle_of_two (of_prefix query (Sign.Lt ∷ [])) 1 3 record { left = 0; right = 1; bound = neg_ℤ (pos 6) } record { left = 1; right = 0; bound = pos 4 } (omega arith) (omega arith) refl refl refl refl (omega (arith, ints))

at_five : IsNegativeCycle (of_prefix query (Sign.Eq ∷ [])) (1 ∷ 3 ∷ [])
unfolding pairs
at_five = cycle_of_two (of_prefix query (Sign.Eq ∷ [])) 1 3 record { left = 0; right = 1; bound = neg_ℤ (pos 6) } record { left = 1; right = 0; bound = pos 5 } (omega arith) (omega arith) refl refl refl refl (omega (arith, ints))

at_seven : IsNegativeCycle (of_prefix query (Sign.Gt ∷ Sign.Eq ∷ [])) (2 ∷ 5 ∷ [])
unfolding pairs
at_seven = cycle_of_two (of_prefix query (Sign.Gt ∷ Sign.Eq ∷ [])) 2 5 record { left = 1; right = 0; bound = pos 6 } record { left = 0; right = 1; bound = neg_ℤ (pos 7) } (omega arith) (omega arith) refl refl refl refl (omega (arith, ints))

above_seven : IsNegativeCycle (of_prefix query (Sign.Gt ∷ Sign.Gt ∷ [])) (2 ∷ 4 ∷ [])
unfolding pairs
above_seven = cycle_of_two (of_prefix query (Sign.Gt ∷ Sign.Gt ∷ [])) 2 4 record { left = 1; right = 0; bound = pos 6 } record { left = 0; right = 1; bound = neg_ℤ (pos 8) } (omega arith) (omega arith) refl refl refl refl (omega (arith, ints))

-- the two paths of the leaf
abbrev up : Path
up = record { from = 0; to = 1; numbers = record { items = 1 ∷ [] } }

abbrev down : Path
down = record { from = 1; to = 0; numbers = record { items = 2 ∷ [] } }

-- the constraints of the leaf
abbrev at_leaf : List Constraint
at_leaf = above_five ∷ below_seven ∷ above_five ∷ below_seven ∷ []

up_is : IsBound at_leaf (up ∷ down ∷ []) 0 1 (neg_ℤ (pos 6))
up_is = of_path up (0, omega arith, refl) refl refl (above_five, omega arith, refl, refl, (refl, omega (arith, ints)))

down_is : IsBound at_leaf (up ∷ down ∷ []) 1 0 (pos 6)
down_is = of_path down (1, omega arith, refl) refl refl (below_seven, omega arith, refl, refl, (refl, omega (arith, ints)))

are_paths : ArePaths 1 at_leaf (up ∷ down ∷ [])
are_paths = record {
  each = All-from_has (IsPath 1 at_leaf) (up ∷ down ∷ []) each;
  ascend = pairs_from path_lt (up ∷ down ∷ []) (more first_before (more (λ p h. elim h [ ]) none));
}
  where
    each : (p : Path) → Has (up ∷ down ∷ []) p → IsPath 1 at_leaf p
    each p first = record { from = omega arith; to = omega arith; differ = omega arith; sum = neg_ℤ (pos 6); chain = (above_five, omega arith, refl, refl, (refl, omega (arith, ints))) }
    each p (later first) = record { from = omega arith; to = omega arith; differ = omega arith; sum = pos 6; chain = (below_seven, omega arith, refl, refl, (refl, omega (arith, ints))) }
    each p (later (later h)) = elim h [ ]

    first_before : (p : Path) → Has (down ∷ []) p → path_lt up p ≡ true
    first_before p first = refl
    first_before p (later h) = elim h [ ]

-- the only bounds of the leaf
up_only : (u : ℤ) → IsBound at_leaf (up ∷ down ∷ []) 0 1 u → u ≡ neg_ℤ (pos 6)
up_only u h = sym (some_is (table_from_bound 1 at_leaf (up ∷ down ∷ []) are_paths 0 1 u h))

down_only : (u : ℤ) → IsBound at_leaf (up ∷ down ∷ []) 1 0 u → u ≡ pos 6
down_only u h = sym (some_is (table_from_bound 1 at_leaf (up ∷ down ∷ []) are_paths 1 0 u h))

still : (i : ℕ) → i ≤ 1 → (u : ℤ) → IsBound at_leaf (up ∷ down ∷ []) i i u → u ≡ pos 0
still zero l u h = sym (some_is (table_from_bound 1 at_leaf (up ∷ down ∷ []) are_paths 0 0 u h))
still (suc zero) l u h = sym (some_is (table_from_bound 1 at_leaf (up ∷ down ∷ []) are_paths 1 1 u h))
still (suc (suc i)) l u h = absurd (omega arith)

-- what a constraint before a bound gives, where it leads up or down
from_up : (j : ℕ) → j ≤ 1 → (u : ℤ) → IsBound at_leaf (up ∷ down ∷ []) 1 j u → HasBound at_leaf (up ∷ down ∷ []) 0 j (neg_ℤ (pos 6) +ℤ u)
from_up zero l u h = let e : u ≡ pos 6 = down_only u h in record { bound = pos 0; is = same refl refl; small = omega (arith, ints, e) }
from_up (suc zero) l u h = let e : u ≡ pos 0 = still 1 l u h in record { bound = neg_ℤ (pos 6); is = up_is; small = omega (arith, ints, e) }
from_up (suc (suc j)) l u h = absurd (omega arith)

from_down : (j : ℕ) → j ≤ 1 → (u : ℤ) → IsBound at_leaf (up ∷ down ∷ []) 0 j u → HasBound at_leaf (up ∷ down ∷ []) 1 j (pos 6 +ℤ u)
from_down zero l u h = let e : u ≡ pos 0 = still 0 l u h in record { bound = pos 6; is = down_is; small = omega (arith, ints, e) }
from_down (suc zero) l u h = let e : u ≡ neg_ℤ (pos 6) = up_only u h in record { bound = pos 0; is = same refl refl; small = omega (arith, ints, e) }
from_down (suc (suc j)) l u h = absurd (omega arith)

closed_at : (c : Constraint) → Has at_leaf c → (j : ℕ) → j ≤ 1 → (u : ℤ) → IsBound at_leaf (up ∷ down ∷ []) c.right j u → HasBound at_leaf (up ∷ down ∷ []) c.left j (c.bound +ℤ u)
closed_at c first j l u h = from_up j l u h
closed_at c (later first) j l u h = from_down j l u h
closed_at c (later (later first)) j l u h = from_up j l u h
closed_at c (later (later (later first))) j l u h = from_down j l u h
closed_at c (later (later (later (later i)))) j l u h = elim i [ ]

are_closed : AreClosed 1 at_leaf (up ∷ down ∷ [])
are_closed = record { closed = λ c m j l u h. closed_at c (Has-from_contains at_leaf c m) j l u h }

may_be_part : MayBePart (plain_branching query) (Sign.Gt ∷ Sign.Lt ∷ [])
unfolding pairs
may_be_part = record { whole = refl; agree = refl }

leaf_is_good : IsGoodLeaf (plain_branching query) (Sign.Gt ∷ Sign.Lt ∷ []) (up ∷ down ∷ [])
leaf_is_good = record {
  place = may_be_part;
  are_paths = subst (λ cs. ArePaths 1 cs (up ∷ down ∷ [])) (sym prefix_of_leaf) are_paths;
  closed = subst (λ cs. AreClosed 1 cs (up ∷ down ∷ [])) (sym prefix_of_leaf) are_closed;
}

-- the certificate is good
nodes_are_good : AreGood (plain_branching query) (Some []) certificate None
unfolding pairs
nodes_are_good =
    next record { next = refl; left = omega (arith, two_pairs) } (
    next below_five (
    next at_five (
    next record { next = refl; left = omega (arith, two_pairs) } (
    next leaf_is_good (
    next at_seven (
    next above_seven done
    )
    )
    )
    )
    )
    )

pub certificate_is_good : IsGood (plain_branching query) certificate
certificate_is_good = record { room = omega (arith, two_pairs); good = nodes_are_good }

in_limits : IsWithinLimits query
in_limits = record {
  streams = (omega arith, omega arith);
  different = λ i j d l m. absurd (omega arith);
  selected = (omega arith, omega arith);
  select = All-from_has (IsColumn 1) (column ∷ []) one_column;
  comparisons = omega arith;
  few_soft = omega arith;
  sides = All-from_has HasAttr query.atoms sides;
  few_attrs = omega arith;
  attrs = All-from_has (IsColumn 1) (column ∷ []) one_column;
  few_consts = omega arith;
  consts = All-from_has IsShort (pos 5 ∷ pos 7 ∷ []) short;
  few_domains = omega arith;
  domains = All-from_has (IsDomain query) [] (λ d h. elim h [ ]);
  ascending = λ i j d l m. absurd (omega arith);
}
  where
    one_column : (a : Attr) → Has (column ∷ []) a → IsColumn 1 a
    one_column a first = record { stream = omega arith; column = omega arith }
    one_column a (later h) = elim h [ ]

    sides : (t : Atom) → Has query.atoms t → HasAttr t
    sides t first = inl refl
    sides t (later first) = inl refl
    sides t (later (later h)) = elim h [ ]

    short : (k : ℤ) → Has (pos 5 ∷ pos 7 ∷ []) k → IsShort k
    short k first = record { low = omega (arith, ints); high = omega (arith, ints) }
    short k (later first) = record { low = omega (arith, ints); high = omega (arith, ints) }
    short k (later (later h)) = elim h [ ]

-- the query has one part
pub one_part : AreParts query ((Sign.Gt ∷ Sign.Lt ∷ []) ∷ [])
one_part = leaves_are_parts query in_limits certificate certificate_is_good
