-- A query with a change is within the limits of a statement.
use Rattle.std.proofs.Common.{◌≡◌, ℕ, zero, suc, ◌+◌, ◌<◌, ◌≤◌, ◌⊎◌, inl, inr, Bool, true, false, cond, not, List, [], ◌∷◌, ◌++◌, length, length-append, drop, take_while, ◌∙◌, All, AllPairs, Contains, IsTrue, refl, sym, subst, arith, slice_index_or}
use Rattle.std.specs.List.{list_any, insert}
use Rattle.std.proofs.lemmas.Bool.Decides.{nat_tests}
use Rattle.std.proofs.lemmas.List.{drop_more}
use Rattle.std.proofs.lemmas.List.Elements.{All-contains}
use Rattle.sem_query.specs.declared.atom.Attr.{Attr}
use Rattle.sem_query.specs.declared.atom.Domain.{Domain}
use Rattle.sem_query.specs.Query.{QueryValue, attrs_of, attr_eq, attr_lt, with_new, IsDomain, IsWithinLimits}
use Rattle.sem_query.proofs.WithNew.{attr_lt-asymmetric, with_new-room, with_new-inserts, with_new-keeps}
use Rattle.sem_query.proofs.Has.{Has, first, later, Contains-from_has, Has-append_cases, Has-filter_from}
use Rattle.sem_query.proofs.Unique.{Ascends, more, ascends_from}
use Rattle.sem_query.proofs.Ascending.{Ascends-with_new}
use Rattle.plan_constraints.proofs.Joined.{All-from_has}
use Rattle.adv_mends.specs.declared.mend.Ends.{Ends}
use Rattle.adv_mends.specs.Mended.{AreEnds, widest, domain_on, domain_lt, domains_with}
use Rattle.adv_mends.specs.Sublists.{IsSublist}
use Rattle.adv_mends.specs.Sets.{has_domain, with_column, columns_with, open_columns}
use Rattle.adv_mends.proofs.Sublists.{sublist-has, at_place}

-- an ascending list ascends by places
pairs_from : {A : Type 0} (lt : A → A → Bool) (xs : List A) → Ascends lt xs → AllPairs (λ x y. IsTrue (lt x y)) xs
pairs_from lt [] a i j d l m = absurd (omega (arith, m))
pairs_from lt (x ∷ xs) (more f a) zero zero d l m = absurd (omega (arith, l))
pairs_from lt (x ∷ xs) (more f a) zero (suc j) d l m = f (slice_index_or xs j d) (at_place xs j d (omega (arith, m)))
pairs_from lt (x ∷ xs) (more f a) (suc i) zero d l m = absurd (omega (arith, l))
pairs_from lt (x ∷ xs) (more f a) (suc i) (suc j) d l m = pairs_from lt xs a i j d (omega (arith, l)) (omega (arith, m))

-- of two domains at most one stands before the other
pub domain_lt-asymmetric : (a b : Domain) → domain_lt a b ≡ true → domain_lt b a ≡ false
domain_lt-asymmetric a b e = attr_lt-asymmetric a.attr b.attr e

-- with a new element a list is longer by one at most
pub with_new-longer : {X : Type 0} (lt : X → X → Bool) (x : X) (ys : List X) → length (with_new lt x ys) ≤ length ys + 1
with_new-longer lt x [] = omega arith
with_new-longer {X = X} lt x (y ∷ ys) = by (lt x y) (lt y x) (with_new-longer lt x ys) where
  by : (a b : Bool) → length (with_new lt x ys) ≤ length ys + 1 → length (cond {A = List X} a (x ∷ y ∷ ys) (cond b (y ∷ with_new lt x ys) (y ∷ ys))) ≤ suc (length ys) + 1
  by true b h = omega arith
  by false true h = omega (arith, h)
  by false false h = omega arith

-- one more column
pub domains_step : (ends : Ends) (list new before : List Domain) (columns : List Attr) (i : ℕ) (d : Attr) → i < length columns → new ≡ with_new domain_lt (domain_on ends (slice_index_or columns i d)) list
    → domains_with ends list (drop i columns) ≡ before → domains_with ends new (drop (i + 1) columns) ≡ before
domains_step ends list new before columns i d l f g =
    let next : drop i columns ≡ slice_index_or columns i d ∷ drop (i + 1) columns = drop_more columns i d l in
    rw f (subst (λ z. domains_with ends list z ≡ before) next g)

pub columns_step : (list new before : List Attr) (others : List Attr) (i : ℕ) (d : Attr) → i < length others → new ≡ with_column list (slice_index_or others i d)
    → columns_with list (drop i others) ≡ before → columns_with new (drop (i + 1) others) ≡ before
columns_step list new before others i d l f g =
    let next : drop i others ≡ slice_index_or others i d ∷ drop (i + 1) others = drop_more others i d l in
    rw f (subst (λ z. columns_with list z ≡ before) next g)

pub with_column-longer : (columns : List Attr) (a : Attr) → length (with_column columns a) ≤ length columns + 1
with_column-longer columns a = by (list_any (λ b. attr_eq b a) columns) where
  by : (t : Bool) → length (cond t columns (columns ++ a ∷ [])) ≤ length columns + 1
  by true = omega arith
  by false = omega (arith, length-append columns (a ∷ []))

pub columns-longer : (list new : List Attr) (a : Attr) → new ≡ with_column list a → length new ≤ length list + 1
columns-longer list new a e = rw e (with_column-longer list a)

pub domains-longer : (list new : List Domain) (d : Domain) → new ≡ with_new domain_lt d list → length new ≤ length list + 1
domains-longer list new d e = rw e (with_new-longer domain_lt d list)

-- where a new domain is put in
pub record IsNewAt (domains : List Domain) (place : ℕ) (column : Attr) : Type 0 where
  pub other : Domain
  pub new : (place ≡ length domains) ⊎ (domain_lt (widest column) (slice_index_or domains place other) ≡ true)

abbrev pub before : List Domain → Attr → ℕ
before domains column = length (take_while (λ d. domain_lt d (widest column)) domains)

pub new-end : (domains : List Domain) (place : ℕ) (column : Attr) → place ≡ length domains → IsNewAt domains place column
new-end domains place column e = record { other = widest column; new = inl e }

pub new-before : (domains list : List Domain) (place : ℕ) (column : Attr) (d : Domain) (b : Bool) → list ≡ domains → b ≡ attr_lt column (slice_index_or list place d).attr → b ≡ true → IsNewAt domains place column
new-before domains list place column d b e f t = record { other = d; new = inr (subst (λ (z : List Domain). attr_lt column (slice_index_or z place d).attr ≡ true) e (sym f ∙ t)) }

pub new-room : (domains : List Domain) (place : ℕ) (column : Attr) → place ≡ before domains column → IsNewAt domains place column → length domains < 23 → (place ≤ length domains) × (length domains < 23)
new-room domains place column e w l = with_new-room domain_lt domain_lt-asymmetric (widest column) domains place w.other 23 e w.new (omega (arith, l, with_new-longer domain_lt (widest column) domains))

pub new-inserts : (ends : Ends) (domains : List Domain) (place : ℕ) (column : Attr) → place ≡ before domains column → IsNewAt domains place column
    → insert domains place (domain_on ends column) ≡ with_new domain_lt (domain_on ends column) domains
new-inserts ends domains place column e w = with_new-inserts domain_lt domain_lt-asymmetric (domain_on ends column) domains place w.other e w.new

pub old-keeps : (ends : Ends) (domains list : List Domain) (place : ℕ) (column : Attr) (d : Domain) (b : Bool) → place ≡ before domains column → (place ≡ length domains → ⊥) → list ≡ domains
    → b ≡ attr_lt column (slice_index_or list place d).attr → b ≡ false → domains ≡ with_new domain_lt (domain_on ends column) domains
old-keeps ends domains list place column d b e n same f t =
    with_new-keeps domain_lt domain_lt-asymmetric (domain_on ends column) domains place d e n (subst (λ (z : List Domain). attr_lt column (slice_index_or z place d).attr ≡ false) same (sym f ∙ t))

-- the order of domains goes along
along : (a b c : Domain) → domain_lt a b ≡ true → domain_lt b c ≡ true → domain_lt a c ≡ true
along a b c h k = grind (arith, nat_tests)

-- with more columns the domains ascend
domains_ascend : (ends : Ends) (domains : List Domain) (columns : List Attr) → Ascends domain_lt domains → Ascends domain_lt (domains_with ends domains columns)
domains_ascend ends domains [] a = a
domains_ascend ends domains (b ∷ others) a = domains_ascend ends (with_new domain_lt (domain_on ends b) domains) others (Ascends-with_new domain_lt along (domain_on ends b) domains a)

pub domains-ascend : (ends : Ends) (domains : List Domain) (columns : List Attr) → AllPairs (λ d e. IsTrue (attr_lt d.attr e.attr)) domains → AllPairs (λ d e. IsTrue (attr_lt d.attr e.attr)) (domains_with ends domains columns)
domains-ascend ends domains columns h = pairs_from domain_lt (domains_with ends domains columns) (domains_ascend ends domains columns (ascends_from domain_lt domains h))

-- what stands in a list with a new element is that one, or stood there
put_from : (x : Domain) (ys : List Domain) (z : Domain) → Has (with_new domain_lt x ys) z → (x ≡ z) ⊎ Has ys z
put_from x [] z first = inl refl
put_from x [] z (later h) = inr h
put_from x (y ∷ ys) z h = by (domain_lt x y) (domain_lt y x) (with_new domain_lt x ys) (put_from x ys z) h where
  one : (zs : List Domain) (w : Domain) → (Has zs w → (x ≡ w) ⊎ Has ys w) → Has (y ∷ zs) w → (x ≡ w) ⊎ Has (y ∷ ys) w
  one zs w f first = inr first
  one zs w f (later i) = elim (f i) [ inl e ↦ inl e | inr j ↦ inr (later j) ]

  two : (w : Domain) → Has (x ∷ y ∷ ys) w → (x ≡ w) ⊎ Has (y ∷ ys) w
  two w first = inl refl
  two w (later i) = inr i

  by : (b c : Bool) (zs : List Domain) → (Has zs z → (x ≡ z) ⊎ Has ys z) → Has (cond b (x ∷ y ∷ ys) (cond c (y ∷ zs) (y ∷ ys))) z → (x ≡ z) ⊎ Has (y ∷ ys) z
  by true c zs f i = two z i
  by false true zs f i = one zs z f i
  by false false zs f i = inr i

-- a domain is an old one, or one of a column between the ends
pub data IsOldOrNew (ends : Ends) (domains : List Domain) (columns : List Attr) (d : Domain) : Type 0 where
  old : Has domains d → IsOldOrNew ends domains columns d
  new : (a : Attr) → Has columns a → domain_on ends a ≡ d → IsOldOrNew ends domains columns d

from_domains : (ends : Ends) (domains : List Domain) (columns : List Attr) (d : Domain) → Has (domains_with ends domains columns) d → IsOldOrNew ends domains columns d
from_domains ends domains [] d h = old h
from_domains ends domains (b ∷ others) d h = by (from_domains ends (with_new domain_lt (domain_on ends b) domains) others d h) where
  by : IsOldOrNew ends (with_new domain_lt (domain_on ends b) domains) others d → IsOldOrNew ends domains (b ∷ others) d
  by (old k) = elim (put_from (domain_on ends b) domains d k) [ inl e ↦ new b first e | inr j ↦ old j ]
  by (new a k e) = new a (later k) e

-- a column that may be given a domain is one that the query reads
only_one : {x y : Attr} → Has (x ∷ []) y → x ≡ y
only_one first = refl
only_one (later k) = elim k [ ]

added_from : (b : Bool) (columns : List Attr) (a x : Attr) → Has (cond b columns (columns ++ a ∷ [])) x → Has columns x ⊎ (a ≡ x)
added_from true columns a x h = inl h
added_from false columns a x h = elim (Has-append_cases columns (a ∷ []) x h) [ inl k ↦ inl k | inr k ↦ inr (only_one k) ]

columns_from : (columns others : List Attr) (x : Attr) → Has (columns_with columns others) x → Has columns x ⊎ Has others x
columns_from columns [] x h = inl h
columns_from columns (a ∷ others) x h =
    elim (columns_from (with_column columns a) others x h) [
      | inl k ↦ elim (added_from (list_any (λ b. attr_eq b a) columns) columns a x k) [ inl i ↦ inl i | inr e ↦ inr (subst (λ z. Has (a ∷ others) z) e first) ]
      | inr k ↦ inr (later k)
    ]

pub open_is_read : (q : QueryValue) (x : Attr) → Has (open_columns q) x → Contains (attrs_of q.atoms) x ⊎ Contains q.select x
unfolding open_columns
open_is_read q x h =
    elim (columns_from (attrs_of q.atoms) q.select x (Has-filter_from (λ a. not (has_domain q.domains a)) (columns_with (attrs_of q.atoms) q.select) x h)) [
      | inl k ↦ inl (Contains-from_has (attrs_of q.atoms) x k)
      | inr k ↦ inr (Contains-from_has q.select x k)
    ]

-- a domain of such a column is one of the query
domain-is : (q : QueryValue) (ends : Ends) (a : Attr) → AreEnds ends → Contains (attrs_of q.atoms) a ⊎ Contains q.select a → IsDomain q (domain_on ends a)
domain-is q ends a is h = record { column = h; low = is.low; high = is.high; some = is.some }

pub domains-are : (q : QueryValue) (ends : Ends) (columns : List Attr) → AreEnds ends → IsSublist columns (open_columns q) → All (IsDomain q) q.domains → All (IsDomain q) (domains_with ends q.domains columns)
domains-are q ends columns is s h = All-from_has (IsDomain q) (domains_with ends q.domains columns) (λ d k. by d (from_domains ends q.domains columns d k)) where
  by : (d : Domain) → IsOldOrNew ends q.domains columns d → IsDomain q d
  by d (old k) = All-contains (IsDomain q) q.domains d h (Contains-from_has q.domains d k)
  by d (new a k e) = subst (IsDomain q) e (domain-is q ends a is (open_is_read q a (sublist-has s k)))

-- the query with other domains, with DISTINCT or without, compact or not
abbrev pub with_these : QueryValue → Bool → List Domain → Bool → QueryValue
with_these q distinct domains compact = record q { distinct = distinct; domains = domains; compact = compact }

is_domain : (q : QueryValue) (distinct compact : Bool) (domains : List Domain) (d : Domain) → IsDomain q d → IsDomain (with_these q distinct domains compact) d
is_domain q distinct compact domains d h = record { column = h.column; low = h.low; high = h.high; some = h.some }

pub limits-like : (q : QueryValue) (distinct compact : Bool) (domains : List Domain) → IsWithinLimits q → length domains ≤ 20 → All (IsDomain q) domains
    → AllPairs (λ d e. IsTrue (attr_lt d.attr e.attr)) domains → IsWithinLimits (with_these q distinct domains compact)
limits-like q distinct compact domains w few each ascending = record {
  streams = w.streams;
  different = w.different;
  selected = w.selected;
  select = w.select;
  comparisons = w.comparisons;
  few_soft = w.few_soft;
  sides = w.sides;
  few_attrs = w.few_attrs;
  attrs = w.attrs;
  few_consts = w.few_consts;
  consts = w.consts;
  few_domains = few;
  domains = λ k d l. is_domain q distinct compact domains _ (each k d l);
  ascending = ascending;
}
