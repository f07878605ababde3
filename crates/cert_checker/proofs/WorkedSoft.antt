-- A certificate in which a comparison closes a branch: that of SELECT DISTINCT S.a FROM S WHERE S.a > 5 AND S.a < 7 AND S.a <> 6, which has no part.
use Rattle.std.proofs.Common.{◌≡◌, ℤ, pos, neg_ℤ, true, false, inl, refl, arith, List, [], ◌∷◌, length}
use Rattle.std.proofs.lemmas.Int.{ints}
use Rattle.sem_query.specs.declared.atom.Attr.{Attr}
use Rattle.sem_query.specs.declared.atom.Atom.{Atom}
use Rattle.sem_query.specs.declared.atom.Element.TheVariants as element
use Rattle.sem_query.specs.declared.atom.Op.{Op}
use Rattle.sem_query.specs.declared.part.Sign.{Sign}
use Rattle.sem_query.specs.Query.{QueryValue, HasAttr, IsColumn, IsShort, IsDomain, IsWithinLimits}
use Rattle.sem_query.specs.Parts.{pairs, AreParts}
use Rattle.sem_query.proofs.Has.{Has, first, later}
use Rattle.plan_constraints.specs.Solutions.{IsNegativeCycle}
use Rattle.plan_constraints.specs.PartConstraints.{of_prefix}
use Rattle.plan_constraints.proofs.Joined.{All-from_has}
use Rattle.cert_format.specs.Nodes.{Node, split, infeasible, against}
use Rattle.cert_checker.specs.Branching.{plain_branching}
use Rattle.cert_checker.specs.Rules.{IsRefuted}
use Rattle.cert_checker.specs.Reading.{IsGood, done, next}
use Rattle.cert_checker.proofs.LeavesInOrder.{leaves_are_parts}
use Rattle.cert_checker.proofs.WorkedCase.{column, cycle_of_two}

-- the query
abbrev pub query : QueryValue
query = record {
  distinct = true;
  from = 0 ∷ [];
  select = column ∷ [];
  atoms =
      record { left = element.Attr column; op = Op.Gt; right = element.Const (pos 5) }
      ∷ record { left = element.Attr column; op = Op.Lt; right = element.Const (pos 7) }
      ∷ record { left = element.Attr column; op = Op.Ne; right = element.Const (pos 6) }
      ∷ [];
  domains = [];
  compact = false;
}

-- the certificate
abbrev pub certificate : List Node
certificate = split 1 ∷ infeasible (1 ∷ 3 ∷ []) ∷ against 3 ∷ infeasible (2 ∷ 3 ∷ []) ∷ []

three_pairs : length (pairs query) ≡ 3
unfolding pairs
three_pairs = refl

-- S.a is above 5 and below 6
below_six : IsNegativeCycle (of_prefix query (Sign.Lt ∷ [])) (1 ∷ 3 ∷ [])
unfolding pairs
below_six = cycle_of_two (of_prefix query (Sign.Lt ∷ [])) 1 3 record { left = 0; right = 1; bound = neg_ℤ (pos 6) } record { left = 1; right = 0; bound = pos 5 } (omega arith) (omega arith) refl refl refl refl (omega (arith, ints))

-- it is 6
pub at_six : IsRefuted (plain_branching query) (Sign.Eq ∷ []) 3
unfolding pairs
at_six = refl

-- by which the second comparison is not false
pub another_holds : ¬ IsRefuted (plain_branching query) (Sign.Eq ∷ []) 2
unfolding pairs
another_holds h = let f : false ≡ true = h in cc

-- it is above 6 and below 7
above_six : IsNegativeCycle (of_prefix query (Sign.Gt ∷ [])) (2 ∷ 3 ∷ [])
unfolding pairs
above_six = cycle_of_two (of_prefix query (Sign.Gt ∷ [])) 2 3 record { left = 1; right = 0; bound = pos 6 } record { left = 0; right = 1; bound = neg_ℤ (pos 7) } (omega arith) (omega arith) refl refl refl refl (omega (arith, ints))

-- the certificate is good
pub certificate_is_good : IsGood (plain_branching query) certificate
certificate_is_good = record { room = omega (arith, three_pairs); good = next record { next = refl; left = omega (arith, three_pairs) } (next below_six (next at_six (next above_six done))) }

in_limits : IsWithinLimits query
in_limits = record {
  streams = (omega arith, omega arith);
  different = λ i j d l m. absurd (omega arith);
  selected = (omega arith, omega arith);
  select = All-from_has (IsColumn 1) (column ∷ []) one_column;
  comparisons = omega arith;
  few_soft = omega arith;
  sides = All-from_has HasAttr query.atoms sides;
  few_attrs = omega arith;
  attrs = All-from_has (IsColumn 1) (column ∷ []) one_column;
  few_consts = omega arith;
  consts = All-from_has IsShort (pos 5 ∷ pos 6 ∷ pos 7 ∷ []) short;
  few_domains = omega arith;
  domains = All-from_has (IsDomain query) [] (λ d h. elim h [ ]);
  ascending = λ i j d l m. absurd (omega arith);
}
  where
    one_column : (a : Attr) → Has (column ∷ []) a → IsColumn 1 a
    one_column a first = record { stream = omega arith; column = omega arith }
    one_column a (later h) = elim h [ ]

    sides : (t : Atom) → Has query.atoms t → HasAttr t
    sides t first = inl refl
    sides t (later first) = inl refl
    sides t (later (later first)) = inl refl
    sides t (later (later (later h))) = elim h [ ]

    short : (k : ℤ) → Has (pos 5 ∷ pos 6 ∷ pos 7 ∷ []) k → IsShort k
    short k first = record { low = omega (arith, ints); high = omega (arith, ints) }
    short k (later first) = record { low = omega (arith, ints); high = omega (arith, ints) }
    short k (later (later first)) = record { low = omega (arith, ints); high = omega (arith, ints) }
    short k (later (later (later h))) = elim h [ ]

-- the query has no part
pub no_part : AreParts query []
no_part = leaves_are_parts query in_limits certificate certificate_is_good
