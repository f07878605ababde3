-- A part of a query by the signs of some of its split pairs, among them all that are not of two streams: a split part and a near part are such parts.
use Rattle.std.proofs.Common.{◌≡◌, ◌≤◌, Bool, true, false, not, List, [], ◌∷◌, map, filter, length, sym, ◌∙◌, ap, arith}
use Rattle.std.proofs.lemmas.List.{length-map}
use Rattle.sem_query.specs.declared.atom.Element.TheVariants as element
use Rattle.sem_query.specs.declared.part.Pair.{Pair}
use Rattle.sem_query.specs.declared.part.Sign.{Sign}
use Rattle.sem_query.specs.Query.{QueryValue, attrs_of, IsWithinLimits}
use Rattle.sem_query.specs.Assignment.{Assignment, Holds, KeepsDomains}
use Rattle.sem_query.specs.Parts.{sign_at}
use Rattle.sem_query.proofs.Has.{Has, first, Has-filter, Has-filter_from, Has-filter_holds}
use Rattle.plan_split_pairs.specs.Pairs.{split_pairs}
use Rattle.plan_split_pairs.specs.SplitParts.{IsSplitPart}
use Rattle.plan_split_pairs.proofs.Naming.{split_pairs_are_named}
use Rattle.plan_split_parts.proofs.SignedPairs.{side_of}
use Rattle.sem_whole.specs.Links.{are_across}
use Rattle.sem_whole.specs.Signed.{with_signs, IsWellFormed, AreSignedPairs}
use Rattle.sem_whole.proofs.Signed.{signed_well_formed}
use Rattle.sem_forms.proofs.PartQueries.{as_many_signs, split_pairs_are_signed}
use Rattle.sem_split_bounds.specs.Near.{near_pairs, IsNearPart}

-- some assignment that satisfies the query within its domains gives these signs to these pairs
pub record IsBase (q : QueryValue) (ps : List Pair) (ss : List Sign) : Type 0 where
  pub one : Assignment
  pub holds : Holds q one
  pub domains : KeepsDomains q one
  pub has : map (sign_at one) ps ≡ ss
  pub same : length ps ≡ length ss

-- to split pairs, among which are all that are not of two streams
pub record IsPart (q : QueryValue) (ps : List Pair) (ss : List Sign) : Type 0 where
  pub one : Assignment
  pub holds : Holds q one
  pub domains : KeepsDomains q one
  pub has : map (sign_at one) ps ≡ ss
  pub signed : AreSignedPairs q ps ss
  pub from : (p : Pair) → Has ps p → Has (split_pairs q) p
  pub own : (p : Pair) → Has (split_pairs q) p → are_across (element.Attr p.left) p.right ≡ false → Has ps p

abbrev pub based : (q : QueryValue) (ps : List Pair) (ss : List Sign) → IsPart q ps ss → IsBase q ps ss
based q ps ss is = record { one = is.one; holds = is.holds; domains = is.domains; has = is.has; same = is.signed.same }

pub part_well_formed : (q : QueryValue) → IsWithinLimits q → (ps : List Pair) (ss : List Sign) → IsPart q ps ss → IsWellFormed (with_signs ps ss q)
part_well_formed q within ps ss is = signed_well_formed q ps ss within is.signed

abbrev pub split_part : (q : QueryValue) → IsWithinLimits q → (ss : List Sign) → IsSplitPart q ss → IsPart q (split_pairs q) ss
split_part q within ss is = record {
  one = is.one;
  holds = is.holds;
  domains = is.domains;
  has = is.has;
  signed = split_pairs_are_signed q within ss (as_many_signs q ss is);
  from = λ p h. h;
  own = λ p h n. h;
}

-- ---- near parts

-- whether a pair is of two streams
abbrev pub is_between : Pair → Bool
is_between p = are_across (element.Attr p.left) p.right

not_true : (b : Bool) → not b ≡ true → b ≡ true → ⊥
not_true true h e = cc
not_true false h e = cc

told_false : (b : Bool) → b ≡ false → not b ≡ true
told_false true h = absurd cc
told_false false h = cc

-- a list without a member is short
few_of_none : (ps : List Pair) → ((p : Pair) → Has ps p → ⊥) → length ps ≤ 8
few_of_none [] n = omega arith
few_of_none (p ∷ ps) n = absurd (n p first)

pub near_from : (q : QueryValue) (p : Pair) → Has (near_pairs q) p → Has (split_pairs q) p
near_from q p h = Has-filter_from (λ p. not (is_between p)) (split_pairs q) p h

-- no pair of a near part is of two streams
pub near_beside : (q : QueryValue) (p : Pair) → Has (near_pairs q) p → is_between p ≡ true → ⊥
near_beside q p h = not_true (is_between p) (Has-filter_holds (λ p. not (is_between p)) (split_pairs q) p h)

pub near_own : (q : QueryValue) (p : Pair) → Has (split_pairs q) p → is_between p ≡ false → Has (near_pairs q) p
near_own q p h n = Has-filter (λ p. not (is_between p)) (told_false (is_between p) n) h

pub near_signed : (q : QueryValue) → IsWithinLimits q → (ss : List Sign) → IsNearPart q ss → AreSignedPairs q (near_pairs q) ss
near_signed q within ss is = record {
  left = λ p h. (split_pairs_are_named q within p (near_from q p h)).left;
  right = λ p h. side_of (attrs_of q.atoms) p.right (split_pairs_are_named q within p (near_from q p h)).right;
  same = sym (length-map (near_pairs q) (sign_at is.one)) ∙ ap length is.has;
  few = few_of_none (filter is_between (near_pairs q)) (λ p h. near_beside q p (Has-filter_from is_between (near_pairs q) p h) (Has-filter_holds is_between (near_pairs q) p h));
}

abbrev pub near_part : (q : QueryValue) → IsWithinLimits q → (ss : List Sign) → IsNearPart q ss → IsPart q (near_pairs q) ss
near_part q within ss is = record {
  one = is.one;
  holds = is.holds;
  domains = is.domains;
  has = is.has;
  signed = near_signed q within ss is;
  from = near_from q;
  own = near_own q;
}
