-- A certificate over columns with domains: that of SELECT DISTINCT S.a, S.b, S.c FROM S WHERE S.a <> 2 AND S.a > 1, where S.a lies in 1..3, S.b in 0..9, and
-- S.c is any integer. It has one part, whose first break is that S.c is selected and not bounded.
use Rattle.std.proofs.Common.{◌≡◌, ℕ, zero, suc, ◌<◌, ◌≤◌, ◌-◌, ℤ, pos, neg_ℤ, ◌+ℤ◌, ◌≤ℤ◌, true, false, inl, inr, refl, sym, ap, subst, arith, Some, List, [], ◌∷◌, length, slice_get, Contains, None}
use Rattle.std.proofs.lemmas.Int.{ints}
use Rattle.std.proofs.lemmas.Bool.Decides.{nat_tests}
use Rattle.sem_query.specs.declared.atom.Attr.{Attr}
use Rattle.sem_query.specs.declared.atom.Atom.{Atom}
use Rattle.sem_query.specs.declared.atom.Domain.{Domain}
use Rattle.sem_query.specs.declared.atom.Element.TheVariants as element
use Rattle.sem_query.specs.declared.atom.Op.{Op}
use Rattle.sem_query.specs.declared.part.Sign.{Sign}
use Rattle.sem_query.specs.declared.condition.Condition.{Condition}
use Rattle.sem_query.specs.declared.condition.Condition.TheVariants.{C1, C2, C3}
use Rattle.sem_query.specs.declared.decision.Decision.TheVariants.{Violation}
use Rattle.sem_query.specs.Query.{QueryValue, HasAttr, IsColumn, IsShort, IsDomain, IsWithinLimits, attr_lt}
use Rattle.sem_query.specs.Parts.{pairs, AreParts, IsPart}
use Rattle.sem_query.specs.Order.{IsBounded}
use Rattle.sem_query.specs.Violation as violation
use Rattle.sem_query.specs.Violation.{Failure, failure_lt, Fails, IsViolation}
use Rattle.sem_query.proofs.Has.{Has, first, later, Has-from_contains}
use Rattle.sem_query.proofs.Split.{pairs_from}
use Rattle.sem_query.proofs.Unique.{none, more}
use Rattle.plan_constraints.specs.declared.constraint.Constraint.{Constraint}
use Rattle.plan_constraints.specs.Solutions.{IsNegativeCycle}
use Rattle.plan_constraints.specs.PartConstraints.{of_prefix}
use Rattle.plan_constraints.proofs.Joined.{All-from_has}
use Rattle.plan_constraints.proofs.Options.{some_is, none_is}
use Rattle.cert_checker.specs.Branching.{plain_branching}
use Rattle.cert_checker.specs.declared.answer.CheckAnswer.TheVariants.{Yes}
use Rattle.cert_format.specs.declared.line.Path.{Path}
use Rattle.cert_format.specs.Nodes.{Node, split, infeasible, against, leaf}
use Rattle.cert_checker.specs.Rules.{IsPath, path_lt, ArePaths, IsBound, same, of_path, HasBound, AreClosed, MayBePart, IsGoodLeaf, IsRefuted}
use Rattle.cert_checker.specs.Reading.{AreGood, IsGood, done, next}
use Rattle.cert_checker.specs.Shown.{IsCheckAnswer}
use Rattle.cert_checker.specs.Shown as forms
use Rattle.cert_checker.proofs.LeafTable.{table_from_bound}
use Rattle.cert_checker.proofs.LeavesInOrder.{leaves_are_parts, leaf_is_part}
use Rattle.cert_checker.proofs.Unnamed.{domain_bounds, unnamed_is_unbounded}
use Rattle.cert_checker.proofs.WorkedCase.{column, cycle_of_two}

-- S.b and S.c
abbrev pub other : Attr
other = record { stream = 0; column = 1 }

abbrev pub plain : Attr
plain = record { stream = 0; column = 2 }

-- the query
abbrev pub query : QueryValue
query = record {
  distinct = true;
  from = 0 ∷ [];
  select = column ∷ other ∷ plain ∷ [];
  atoms = record { left = element.Attr column; op = Op.Ne; right = element.Const (pos 2) } ∷ record { left = element.Attr column; op = Op.Gt; right = element.Const (pos 1) } ∷ [];
  domains = record { attr = column; lo = pos 1; hi = pos 3 } ∷ record { attr = other; lo = pos 0; hi = pos 9 } ∷ [];
  compact = false;
}

-- the two paths of the leaf
abbrev up : Path
up = record { from = 0; to = 1; numbers = record { items = 4 ∷ [] } }

abbrev down : Path
down = record { from = 1; to = 0; numbers = record { items = 3 ∷ [] } }

-- the certificate
abbrev pub certificate : List Node
certificate = split 1 ∷ infeasible (1 ∷ 4 ∷ []) ∷ against 1 ∷ split 2 ∷ infeasible (1 ∷ 5 ∷ []) ∷ infeasible (1 ∷ 5 ∷ []) ∷ leaf (up ∷ down ∷ []) ∷ []

-- S.a above 1 by its comparison, from 1 and to 3 by its domain, and above 2 and above 1 by its signs. The soft comparison has no constraint, and neither has S.b
abbrev above : ℤ → Constraint
above k = record { left = 0; right = 1; bound = neg_ℤ k }

abbrev to_three : Constraint
to_three = record { left = 1; right = 0; bound = pos 3 }

abbrev at_leaf : List Constraint
at_leaf = above (pos 2) ∷ above (pos 1) ∷ to_three ∷ above (pos 3) ∷ above (pos 2) ∷ []

prefix_of_leaf : of_prefix query (Sign.Gt ∷ Sign.Gt ∷ []) ≡ at_leaf
unfolding pairs
prefix_of_leaf = refl

two_pairs : length (pairs query) ≡ 2
unfolding pairs
two_pairs = refl

-- ---- the branches that are closed

below_two : IsNegativeCycle (of_prefix query (Sign.Lt ∷ [])) (1 ∷ 4 ∷ [])
unfolding pairs
below_two = cycle_of_two (of_prefix query (Sign.Lt ∷ [])) 1 4 (above (pos 2)) record { left = 1; right = 0; bound = pos 1 } (omega arith) (omega arith) refl refl refl refl (omega (arith, ints))

at_two : IsRefuted (plain_branching query) (Sign.Eq ∷ []) 1
unfolding pairs
at_two = refl

below_one : IsNegativeCycle (of_prefix query (Sign.Gt ∷ Sign.Lt ∷ [])) (1 ∷ 5 ∷ [])
unfolding pairs
below_one = cycle_of_two (of_prefix query (Sign.Gt ∷ Sign.Lt ∷ [])) 1 5 (above (pos 2)) record { left = 1; right = 0; bound = pos 0 } (omega arith) (omega arith) refl refl refl refl (omega (arith, ints))

at_one : IsNegativeCycle (of_prefix query (Sign.Gt ∷ Sign.Eq ∷ [])) (1 ∷ 5 ∷ [])
unfolding pairs
at_one = cycle_of_two (of_prefix query (Sign.Gt ∷ Sign.Eq ∷ [])) 1 5 (above (pos 2)) record { left = 1; right = 0; bound = pos 1 } (omega arith) (omega arith) refl refl refl refl (omega (arith, ints))

-- where the soft comparison had a number, the sign would be constraint 5: it is none
pub soft_has_no_number : ¬ IsNegativeCycle (of_prefix query (Sign.Lt ∷ [])) (2 ∷ 5 ∷ [])
unfolding pairs
soft_has_no_number h = none_is h.chain.4.2

-- where the signs came before the domains, the sign would be constraint 2: that is the least integer of the domain, and leads no way back
pub domains_come_first : ¬ IsNegativeCycle (of_prefix query (Sign.Lt ∷ [])) (1 ∷ 2 ∷ [])
unfolding pairs
domains_come_first h =
    let c : above (pos 2) ≡ h.chain.0 = some_is h.chain.2 in
    let d : above (pos 1) ≡ h.chain.4.0 = some_is h.chain.4.2 in
    let e : h.chain.4.0.left ≡ h.chain.0.right = h.chain.4.3 in
    let f : 1 ≡ h.chain.0.right = ap (λ (z : Constraint). z.right) c in
    let g : 0 ≡ h.chain.4.0.left = ap (λ (z : Constraint). z.left) d in
    omega (arith, e, f, g)

-- ---- the leaf

up_is : IsBound at_leaf (up ∷ down ∷ []) 0 1 (neg_ℤ (pos 3))
up_is = of_path up (0, omega arith, refl) refl refl (above (pos 3), omega arith, refl, refl, (refl, omega (arith, ints)))

down_is : IsBound at_leaf (up ∷ down ∷ []) 1 0 (pos 3)
down_is = of_path down (1, omega arith, refl) refl refl (to_three, omega arith, refl, refl, (refl, omega (arith, ints)))

are_paths : ArePaths 1 at_leaf (up ∷ down ∷ [])
are_paths = record {
  each = All-from_has (IsPath 1 at_leaf) (up ∷ down ∷ []) each;
  ascend = pairs_from path_lt (up ∷ down ∷ []) (more first_before (more (λ p h. elim h [ ]) none));
}
  where
    each : (p : Path) → Has (up ∷ down ∷ []) p → IsPath 1 at_leaf p
    each p first = record { from = omega arith; to = omega arith; differ = omega arith; sum = neg_ℤ (pos 3); chain = (above (pos 3), omega arith, refl, refl, (refl, omega (arith, ints))) }
    each p (later first) = record { from = omega arith; to = omega arith; differ = omega arith; sum = pos 3; chain = (to_three, omega arith, refl, refl, (refl, omega (arith, ints))) }
    each p (later (later h)) = elim h [ ]

    first_before : (p : Path) → Has (down ∷ []) p → path_lt up p ≡ true
    first_before p first = refl
    first_before p (later h) = elim h [ ]

-- the only bounds of the leaf
up_only : (u : ℤ) → IsBound at_leaf (up ∷ down ∷ []) 0 1 u → u ≡ neg_ℤ (pos 3)
up_only u h = sym (some_is (table_from_bound 1 at_leaf (up ∷ down ∷ []) are_paths 0 1 u h))

down_only : (u : ℤ) → IsBound at_leaf (up ∷ down ∷ []) 1 0 u → u ≡ pos 3
down_only u h = sym (some_is (table_from_bound 1 at_leaf (up ∷ down ∷ []) are_paths 1 0 u h))

still : (i : ℕ) → i ≤ 1 → (u : ℤ) → IsBound at_leaf (up ∷ down ∷ []) i i u → u ≡ pos 0
still zero l u h = sym (some_is (table_from_bound 1 at_leaf (up ∷ down ∷ []) are_paths 0 0 u h))
still (suc zero) l u h = sym (some_is (table_from_bound 1 at_leaf (up ∷ down ∷ []) are_paths 1 1 u h))
still (suc (suc i)) l u h = absurd (omega arith)

-- what a constraint before a bound gives: one that says that S.a is above an integer, and the one that it is at most 3
from_up : (k : ℤ) → k ≤ℤ pos 3 → (j : ℕ) → j ≤ 1 → (u : ℤ) → IsBound at_leaf (up ∷ down ∷ []) 1 j u → HasBound at_leaf (up ∷ down ∷ []) 0 j (neg_ℤ k +ℤ u)
from_up k m zero l u h = let e : u ≡ pos 3 = down_only u h in record { bound = pos 0; is = same refl refl; small = omega (arith, ints, e, m) }
from_up k m (suc zero) l u h = let e : u ≡ pos 0 = still 1 l u h in record { bound = neg_ℤ (pos 3); is = up_is; small = omega (arith, ints, e, m) }
from_up k m (suc (suc j)) l u h = absurd (omega arith)

from_down : (j : ℕ) → j ≤ 1 → (u : ℤ) → IsBound at_leaf (up ∷ down ∷ []) 0 j u → HasBound at_leaf (up ∷ down ∷ []) 1 j (pos 3 +ℤ u)
from_down zero l u h = let e : u ≡ pos 0 = still 0 l u h in record { bound = pos 3; is = down_is; small = omega (arith, ints, e) }
from_down (suc zero) l u h = let e : u ≡ neg_ℤ (pos 3) = up_only u h in record { bound = pos 0; is = same refl refl; small = omega (arith, ints, e) }
from_down (suc (suc j)) l u h = absurd (omega arith)

closed_at : (c : Constraint) → Has at_leaf c → (j : ℕ) → j ≤ 1 → (u : ℤ) → IsBound at_leaf (up ∷ down ∷ []) c.right j u → HasBound at_leaf (up ∷ down ∷ []) c.left j (c.bound +ℤ u)
closed_at c first j l u h = from_up (pos 2) (omega (arith, ints)) j l u h
closed_at c (later first) j l u h = from_up (pos 1) (omega (arith, ints)) j l u h
closed_at c (later (later first)) j l u h = from_down j l u h
closed_at c (later (later (later first))) j l u h = from_up (pos 3) (omega (arith, ints)) j l u h
closed_at c (later (later (later (later first)))) j l u h = from_up (pos 2) (omega (arith, ints)) j l u h
closed_at c (later (later (later (later (later i))))) j l u h = elim i [ ]

are_closed : AreClosed 1 at_leaf (up ∷ down ∷ [])
are_closed = record { closed = λ c m j l u h. closed_at c (Has-from_contains at_leaf c m) j l u h }

may_be_part : MayBePart (plain_branching query) (Sign.Gt ∷ Sign.Gt ∷ [])
unfolding pairs
may_be_part = record { whole = refl; agree = refl }

leaf_is_good : IsGoodLeaf (plain_branching query) (Sign.Gt ∷ Sign.Gt ∷ []) (up ∷ down ∷ [])
leaf_is_good = record {
  place = may_be_part;
  are_paths = subst (λ cs. ArePaths 1 cs (up ∷ down ∷ [])) (sym prefix_of_leaf) are_paths;
  closed = subst (λ cs. AreClosed 1 cs (up ∷ down ∷ [])) (sym prefix_of_leaf) are_closed;
}

-- ---- the certificate is good

nodes_are_good : AreGood (plain_branching query) (Some []) certificate None
unfolding pairs
nodes_are_good =
    next record { next = refl; left = omega (arith, two_pairs) } (
    next below_two (
    next at_two (
    next record { next = refl; left = omega (arith, two_pairs) } (
    next below_one (
    next at_one (
    next leaf_is_good done
    )
    )
    )
    )
    )
    )

pub certificate_is_good : IsGood (plain_branching query) certificate
certificate_is_good = record { room = omega (arith, two_pairs); good = nodes_are_good }

in_limits : IsWithinLimits query
in_limits = record {
  streams = (omega arith, omega arith);
  different = λ i j d l m. absurd (omega arith);
  selected = (omega arith, omega arith);
  select = All-from_has (IsColumn 1) query.select columns;
  comparisons = omega arith;
  few_soft = omega arith;
  sides = All-from_has HasAttr query.atoms sides;
  few_attrs = omega arith;
  attrs = All-from_has (IsColumn 1) (column ∷ []) one_column;
  few_consts = omega arith;
  consts = All-from_has IsShort (pos 1 ∷ pos 2 ∷ []) short;
  few_domains = omega arith;
  domains = All-from_has (IsDomain query) query.domains domains;
  ascending = pairs_from (λ (d e : Domain). attr_lt d.attr e.attr) query.domains (more in_order (more (λ d h. elim h [ ]) none));
}
  where
    one_column : (a : Attr) → Has (column ∷ []) a → IsColumn 1 a
    one_column a first = record { stream = omega arith; column = omega arith }
    one_column a (later h) = elim h [ ]

    columns : (a : Attr) → Has query.select a → IsColumn 1 a
    columns a first = record { stream = omega arith; column = omega arith }
    columns a (later first) = record { stream = omega arith; column = omega arith }
    columns a (later (later first)) = record { stream = omega arith; column = omega arith }
    columns a (later (later (later h))) = elim h [ ]

    sides : (t : Atom) → Has query.atoms t → HasAttr t
    sides t first = inl refl
    sides t (later first) = inl refl
    sides t (later (later h)) = elim h [ ]

    short : (k : ℤ) → Has (pos 1 ∷ pos 2 ∷ []) k → IsShort k
    short k first = record { low = omega (arith, ints); high = omega (arith, ints) }
    short k (later first) = record { low = omega (arith, ints); high = omega (arith, ints) }
    short k (later (later h)) = elim h [ ]

    short_at : (k : ℕ) → k ≤ 9 → IsShort (pos k)
    short_at k l = record { low = omega (arith, ints, l); high = omega (arith, ints, l) }

    domains : (d : Domain) → Has query.domains d → IsDomain query d
    domains d first = record { column = inl (0, omega arith, refl); low = short_at 1 (omega arith); high = short_at 3 (omega arith); some = omega (arith, ints) }
    domains d (later first) = record { column = inr (1, omega arith, refl); low = short_at 0 (omega arith); high = short_at 9 (omega arith); some = omega (arith, ints) }
    domains d (later (later h)) = elim h [ ]

    in_order : (d : Domain) → Has (record { attr = other; lo = pos 0; hi = pos 9 } ∷ []) d → attr_lt column d.attr ≡ true
    in_order d first = refl
    in_order d (later h) = elim h [ ]

-- the query has one part
pub one_part : AreParts query ((Sign.Gt ∷ Sign.Gt ∷ []) ∷ [])
one_part = leaves_are_parts query in_limits certificate certificate_is_good

-- ---- what the certificate is answered with

part : IsPart query (Sign.Gt ∷ Sign.Gt ∷ [])
part = leaf_is_part query in_limits (Sign.Gt ∷ Sign.Gt ∷ []) (up ∷ down ∷ []) leaf_is_good

-- S.b, which no comparison names, is bounded by its domain, and S.c, which has none, is not bounded
pub other_is_bounded : IsBounded query (Sign.Gt ∷ Sign.Gt ∷ []) other
other_is_bounded = domain_bounds query (Sign.Gt ∷ Sign.Gt ∷ []) record { attr = other; lo = pos 0; hi = pos 9 } (later first)

column_is_bounded : IsBounded query (Sign.Gt ∷ Sign.Gt ∷ []) column
column_is_bounded = domain_bounds query (Sign.Gt ∷ Sign.Gt ∷ []) record { attr = column; lo = pos 1; hi = pos 3 } first

pub plain_is_unbounded : ¬ IsBounded query (Sign.Gt ∷ Sign.Gt ∷ []) plain
plain_is_unbounded = unnamed_is_unbounded query (Sign.Gt ∷ Sign.Gt ∷ []) part plain
    (λ h. let e : 2 ≡ 0 = named plain (Has-from_contains (column ∷ []) plain h) in omega (arith, e))
    (λ d h e.
    let l : d.attr.column < 2 = before d (Has-from_contains query.domains d h) in
    let c : d.attr.column ≡ 2 = ap (λ (a : Attr). a.column) e in
    omega (arith, l, c))
  where
    named : (a : Attr) → Has (column ∷ []) a → a.column ≡ 0
    named a first = refl
    named a (later h) = elim h [ ]

    before : (d : Domain) → Has query.domains d → d.attr.column < 2
    before d first = omega arith
    before d (later first) = omega arith
    before d (later (later h)) = elim h [ ]

abbrev failure : Failure
failure = record { part = 1; condition = C1; attr = plain }

-- a failure that comes before it is one of C1 in the same part, at a column before S.c
earlier : (n : ℕ) (c : Condition) (a : Attr) → 0 < n → failure_lt record { part = n; condition = c; attr = a } failure ≡ true → (c ≡ C1) × (n ≡ 1) × (attr_lt a plain ≡ true)
earlier n C1 a l h = (refl, grind (arith, nat_tests), grind (arith, nat_tests))
earlier n C2 a l h = absurd (grind (arith, nat_tests))
earlier n C3 a l h = absurd (grind (arith, nat_tests))

bounded_before : (a : Attr) → Has query.select a → attr_lt a plain ≡ true → IsBounded query (Sign.Gt ∷ Sign.Gt ∷ []) a
bounded_before a first l = column_is_bounded
bounded_before a (later first) l = other_is_bounded
bounded_before a (later (later first)) l = let e : false ≡ true = l in absurd cc
bounded_before a (later (later (later h))) l = elim h [ ]

none_before : (n : ℕ) (c : Condition) (a : Attr) (s : List Sign) → c ≡ C1 → n ≡ 1 → attr_lt a plain ≡ true → slice_get ((Sign.Gt ∷ Sign.Gt ∷ []) ∷ []) (n - 1) ≡ Some s → violation.Breaks query s c a → ⊥
none_before n c a s f g l e b =
    let z : (Sign.Gt ∷ Sign.Gt ∷ []) ≡ s = some_is (subst (λ (m : ℕ). slice_get ((Sign.Gt ∷ Sign.Gt ∷ []) ∷ []) (m - 1) ≡ Some s) g e) in
    let k : Contains query.select a × ¬ IsBounded query s a = subst (λ (d : Condition). violation.Breaks query s d a) f b in
    k.1 (subst (λ (y : List Sign). IsBounded query y a) z (bounded_before a (Has-from_contains query.select a k.0) l))

decided : IsViolation query (Some failure)
decided = violation.first refl ((Sign.Gt ∷ Sign.Gt ∷ []) ∷ []) one_part (
  record { signs = Sign.Gt ∷ Sign.Gt ∷ []; number = omega arith; at = refl; breaks = ((2, omega arith, refl), plain_is_unbounded) },
  (λ g l f. let m : (g.condition ≡ C1) × (g.part ≡ 1) × (attr_lt g.attr plain ≡ true) = earlier g.part g.condition g.attr f.number l in none_before g.part g.condition g.attr f.signs m.0 m.1 m.2 f.at f.breaks),
)

-- the certificate is answered with one part and the break of C1 at S.c
pub answer : IsCheckAnswer query certificate (Yes (Violation 1 C1 plain) 1)
answer = (certificate_is_good, forms.plain decided record { parts = (Sign.Gt ∷ Sign.Gt ∷ []) ∷ []; are = one_part; count_is = refl })
