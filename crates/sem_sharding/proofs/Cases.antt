-- The worked queries.
use Rattle.std.proofs.Common.{◌≡◌, ℕ, zero, suc, ◌<◌, ◌⊎◌, inl, inr, List, [], ◌∷◌, true, refl, sym, ◌∙◌, subst, arith, ℤ, pos, int_lt, ◌≤ℤ◌, not, Contains, All}
use Rattle.std.proofs.lemmas.Int.{ints, by_lt_z}
use Rattle.std.proofs.lemmas.Bool.Decides.{Decides-int_eq}
use Rattle.sem_query.proofs.Has.{Has, first, later, Contains-from_has, same_at}
use Rattle.sem_query.proofs.Local.{eq_along}
use Rattle.sem_laws.proofs.Tests.{all_at}
use Rattle.sem_query.specs.declared.atom.Attr.{Attr}
use Rattle.sem_query.specs.declared.atom.Element.TheVariants as element
use Rattle.sem_query.specs.declared.part.Sign.{Sign}
use Rattle.sem_query.specs.Query.{IsWithinLimits, attrs_of, consts_of, IsColumn, IsShort, IsDomain, HasAttr}
use Rattle.sem_query.specs.Assignment.{Assignment, meets}
use Rattle.sem_query.specs.Meaning.{new_answers}
use Rattle.sem_query.specs.Groups.{group_of}
use Rattle.sem_query.specs.Parts.{pairs, sign_at, IsPart, InPart}
use Rattle.sem_query.specs.Order.{IsEqual}
use Rattle.sem_sharding.specs.Shards.{Counts}
use Rattle.sem_sharding.specs.Cases.{column, two, first_column, KeysAreJudged, RoutingsDiffer, EachPartIsNotEnough}
use Rattle.sem_sharding.proofs.ByKeys.{linked-keys}

pub keys-are-judged : KeysAreJudged
unfolding group_of
keys-are-judged = record { by_room = (refl, refl); by_value = refl; one = (refl, refl) }

pub routings-differ : RoutingsDiffer
unfolding new_answers
routings-differ = record { one = refl; by_room = refl; by_value = refl; by_none = refl }

key_is_one : (v : Assignment) → (s : List Sign) → InPart two s v → (v (column 0 0) ≡ pos 1) ⊎ (v (column 0 0) ≡ pos 2)
key_is_one v s i = between (v (column 0 0)) (all_at (meets v) two.atoms _ i.holds (later (later first))) (all_at (meets v) two.atoms _ i.holds (later (later (later first))))
  where
    between : (x : ℤ) → not (int_lt x (pos 1)) ≡ true → not (int_lt (pos 2) x) ≡ true → (x ≡ pos 1) ⊎ (x ≡ pos 2)
    between x l m = by_lt_z x (pos 2) (λ h. inl (grind (arith, ints, l, m, h))) (λ h. inr (grind (arith, ints, l, m, h)))

named : Has (pairs two) (record { left = column 0 0; right = element.Const (pos 1) }) × Has (pairs two) (record { left = column 0 0; right = element.Const (pos 2) })
unfolding pairs
named = (first, later first)

each-part : (s : List Sign) → IsPart two s → (a : Attr) × Contains two.select a × IsEqual two s (element.Attr (column 0 0)) (element.Attr a)
each-part s p = elim (key_is_one p.one s p.inside) [
  | inl e ↦ (column 0 1, Contains-from_has two.select (column 0 1) first, record { equal = λ w i. along w i (pos 1) named.0 e ∙ sym (b_is w i) })
  | inr e ↦ (column 0 2, Contains-from_has two.select (column 0 2) (later first), record { equal = λ w i. along w i (pos 2) named.1 e ∙ sym (c_is w i) })
]
  where
    along : (w : Assignment) → InPart two s w → (k : ℤ) → Has (pairs two) (record { left = column 0 0; right = element.Const k })
        → p.one (column 0 0) ≡ k → w (column 0 0) ≡ k
    along w i k h e = eq_along (p.one (column 0 0)) k (w (column 0 0)) k (same_at (sign_at p.one) (sign_at w) (p.inside.signs ∙ sym i.signs) h) e

    b_is : (w : Assignment) → InPart two s w → w (column 0 1) ≡ pos 1
    b_is w i = (Decides-int_eq (w (column 0 1)) (pos 1)).0 (all_at (meets w) two.atoms _ i.holds first)

    c_is : (w : Assignment) → InPart two s w → w (column 0 2) ≡ pos 2
    c_is w i = (Decides-int_eq (w (column 0 2)) (pos 2)).0 (all_at (meets w) two.atoms _ i.holds (later first))

counts : (z : ℤ) → (z ≡ pos 1) ⊎ (z ≡ pos 2) → Counts two ((z ∷ pos 1 ∷ pos 2 ∷ []) ∷ [])
counts z h = elim h [
  | inl e ↦ subst (λ z. Counts two ((z ∷ pos 1 ∷ pos 2 ∷ []) ∷ [])) (sym e) (record { whole = refl; keeps = refl; holds = refl })
  | inr e ↦ subst (λ z. Counts two ((z ∷ pos 1 ∷ pos 2 ∷ []) ∷ [])) (sym e) (record { whole = refl; keeps = refl; holds = refl })
]

-- what holds of each of some elements, written one after the other
abbrev Each : {X : Type 0} → (X → Type 0) → List X → Type 0
Each P [] = Unit {0}
Each P (x ∷ xs) = P x × Each P xs

all-of : {X : Type 0} (P : X → Type 0) (xs : List X) → Each P xs → All P xs
all-of P [] e k d l = absurd (omega (arith, l))
all-of P (x ∷ xs) e zero d l = e.0
all-of P (x ∷ xs) e (suc k) d l = all-of P xs e.1 k d (omega (arith, l))

short : (n : ℤ) → pos 0 ≤ℤ n → n ≤ℤ pos 9 → IsShort n
short n l h = record { low = omega (arith, ints, l); high = omega (arith, ints, h) }

within-limits : IsWithinLimits two
within-limits = record {
  streams = (omega arith, omega arith);
  different = λ i j d a b. absurd (omega (arith, a, b));
  selected = (omega arith, omega arith);
  select = all-of (IsColumn 1) two.select (col 1 (omega arith), (col 2 (omega arith), tt));
  comparisons = omega arith;
  few_soft = omega arith;
  sides = all-of HasAttr two.atoms (inl refl, (inl refl, (inl refl, (inl refl, tt))));
  few_attrs = omega arith;
  attrs = all-of (IsColumn 1) (attrs_of two.atoms) (col 0 (omega arith), (col 1 (omega arith), (col 2 (omega arith), tt)));
  few_consts = omega arith;
  consts = all-of IsShort (consts_of two.atoms) (short (pos 1) (omega (arith, ints)) (omega (arith, ints)), (short (pos 2) (omega (arith, ints)) (omega (arith, ints)), tt));
  few_domains = omega arith;
  domains = all-of (IsDomain two) two.domains tt;
  ascending = λ i j d a b. absurd (omega (arith, b));
}
  where
    col : (n : ℕ) → n < 8 → IsColumn 1 (column 0 n)
    col n l = record { stream = omega arith; column = l }

pub each-part-is-not-enough : EachPartIsNotEnough
unfolding group_of
each-part-is-not-enough = record {
  within = within-limits;
  keys = linked-keys two first_column refl;
  each = each-part;
  apart = λ d. (let e : 0 ≡ 1
      = d.one ((pos 1 ∷ pos 1 ∷ pos 2 ∷ []) ∷ []) ((pos 2 ∷ pos 1 ∷ pos 2 ∷ []) ∷ []) (counts (pos 1) (inl refl)) (counts (pos 2) (inr refl)) refl 0 1 (omega arith) (omega arith) refl refl in
      absurd (omega (arith, e)));
}
