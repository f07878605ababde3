-- The domains that a catalog gives to the columns of a query.
use Rattle.std.proofs.Common.{◌≡◌, ℕ, ◌+◌, ◌-◌, ◌≤◌, ◌<◌, ◌⊎◌, inl, inr, Bool, true, ℤ, List, [], ◌∷◌, ◌++◌, length, take, drop, get_or, Option, Some, None, Contains, All, AllPairs, IsTrue, arith, length-append}
use Rattle.std.proofs.lemmas.Bool.Decides.{nat_tests}
use Rattle.std.proofs.lemmas.List.{take_rest}
use Rattle.std.proofs.lemmas.List.Elements.{All-from_recursion}
use Rattle.std.specs.List.{AllByRecursion}
use Rattle.sem_query.specs.declared.atom.Attr.{Attr}
use Rattle.sem_query.specs.declared.atom.Atom.{Atom}
use Rattle.sem_query.specs.declared.atom.Domain.{Domain}
use Rattle.sem_query.specs.Query.{QueryValue, attr_lt, attrs_of, IsDomain}
use Rattle.sem_query.proofs.Has.{Has, first, later, Contains-from_has}
use Rattle.sem_query.proofs.Unique.{Ascends, none, more}
use Rattle.sem_query.proofs.WithNew.{length-with_new}
use Rattle.sem_query.proofs.Ascending.{Ascends-with_new, Ascends-attrs_of}
use Rattle.sem_query.proofs.Split.{pairs_from}
use Rattle.sql_catalog.specs.Streams.{Shape, IsCatalog, HasEnds}
use Rattle.sql_catalog.proofs.ColumnDomains.{domain_has_ends}
use Rattle.sql_parser.specs.Resolution.{named_attrs, domain_with, domain_for, domains_for}
use Rattle.sql_parser.proofs.Different.{with_new-most}
use Rattle.sql_parser.proofs.NamedAttrs.{put_in}

attr_lt-along : (a b c : Attr) → attr_lt a b ≡ true → attr_lt b c ≡ true → attr_lt a c ≡ true
attr_lt-along a b c h k = grind (arith, nat_tests)

-- at most as many columns are named as are selected and compared
pub few_named : (select : List Attr) (atoms : List Atom) → length (named_attrs select atoms) ≤ length select + length (attrs_of atoms)
few_named [] atoms = omega arith
few_named (a ∷ select) atoms = omega (arith, with_new-most attr_lt a (named_attrs select atoms), few_named select atoms)

-- of the selected columns those behind the first are fewer, and no more are named with them
pub fewer_others : (select : List Attr) → 1 ≤ length select → length (take (length select - 1) (drop 1 select)) < length select
fewer_others [] some = absurd (omega arith)
fewer_others (a ∷ select) some = rw (take_rest (a ∷ select) 1) (omega arith)

pub few_others : (select : List Attr) (atoms : List Atom) → 1 ≤ length select → length (named_attrs (take (length select - 1) (drop 1 select)) atoms) ≤ length (named_attrs select atoms)
few_others [] atoms some = absurd (omega arith)
few_others (a ∷ select) atoms some = rw (take_rest (a ∷ select) 1) (length-with_new attr_lt a (named_attrs select atoms))

-- they ascend
pub Ascends-named_attrs : (select : List Attr) (atoms : List Atom) → Ascends attr_lt (named_attrs select atoms)
Ascends-named_attrs [] atoms = Ascends-attrs_of atoms
Ascends-named_attrs (a ∷ select) atoms = Ascends-with_new attr_lt attr_lt-along a (named_attrs select atoms) (Ascends-named_attrs select atoms)

-- each is selected or compared
named_has : (select : List Attr) (atoms : List Atom) (a : Attr) → Has (named_attrs select atoms) a → Has (attrs_of atoms) a ⊎ Has select a
named_has [] atoms a h = inl h
named_has (b ∷ select) atoms a h =
    put_in attr_lt (λ c. Has (attrs_of atoms) c ⊎ Has (b ∷ select) c) b (named_attrs select atoms) (inr first)
    (λ c i. elim (named_has select atoms c i) [ inl j ↦ inl j | inr j ↦ inr (later j) ]) a h

pub named_from : (select : List Attr) (atoms : List Atom) (a : Attr) → Has (named_attrs select atoms) a → Contains (attrs_of atoms) a ⊎ Contains select a
named_from select atoms a h = elim (named_has select atoms a h) [
  | inl i ↦ inl (Contains-from_has (attrs_of atoms) a i)
  | inr i ↦ inr (Contains-from_has select a i)
]

-- a column has one domain at most
one_domain : (a : Attr) (domain : Option (ℤ × ℤ)) → length (domain_with a domain) ≤ 1
one_domain a None = omega arith
one_domain a (Some ends) = omega arith

fewer : (attrs : List Attr) (streams : List Shape) (from : List ℕ) → length (domains_for streams from attrs) ≤ length attrs
fewer [] streams from = omega arith
fewer (a ∷ attrs) streams from =
    omega (arith, length-append (domain_with a (domain_for streams from a)) (domains_for streams from attrs), one_domain a (domain_for streams from a), fewer attrs streams from)

pub few_domains : (attrs : List Attr) (streams : List Shape) (from : List ℕ) → length attrs ≤ 20 → length (domains_for streams from attrs) ≤ 20
few_domains attrs streams from h = omega (arith, fewer attrs streams from)

module _ (streams : List Shape) (from : List ℕ) where
  -- each is a domain of a column that is named
  domain_is : (is : IsCatalog streams) (q : QueryValue) (a : Attr) (domain : Option (ℤ × ℤ)) (ds : List Domain) → Contains (attrs_of q.atoms) a ⊎ Contains q.select a → HasEnds domain
      → AllByRecursion (IsDomain q) ds → AllByRecursion (IsDomain q) (domain_with a domain ++ ds)
  domain_is is q a None ds c h all = all
  domain_is is q a (Some ends) ds c h all = (record { column = c; low = h.short_low; high = h.short_high; some = h.some }, all)

  all_are : (is : IsCatalog streams) (q : QueryValue) (attrs : List Attr) → ((a : Attr) → Has attrs a → Contains (attrs_of q.atoms) a ⊎ Contains q.select a) → AllByRecursion (IsDomain q) (domains_for streams from attrs)
  all_are is q [] f = tt
  all_are is q (a ∷ attrs) f =
      domain_is is q a (domain_for streams from a) (domains_for streams from attrs) (f a first) (domain_has_ends streams is (get_or from a.stream 0) a.column) (all_are is q attrs (λ b i. f b (later i)))

  pub domains_are : (is : IsCatalog streams) (q : QueryValue) (attrs : List Attr) → ((a : Attr) → Has attrs a → Contains (attrs_of q.atoms) a ⊎ Contains q.select a) → All (IsDomain q) (domains_for streams from attrs)
  domains_are is q attrs f = All-from_recursion (IsDomain q) (domains_for streams from attrs) (all_are is q attrs f)

  -- they stand in the order of their columns
  abbrev before : Domain → Domain → Bool
  before d e = attr_lt d.attr e.attr

  above_with : (a b : Attr) (domain : Option (ℤ × ℤ)) (ds : List Domain) → attr_lt a b ≡ true → ((e : Domain) → Has ds e → attr_lt a e.attr ≡ true) → (e : Domain) → Has (domain_with b domain ++ ds) e → attr_lt a e.attr ≡ true
  above_with a b None ds l f e h = f e h
  above_with a b (Some ends) ds l f e first = l
  above_with a b (Some ends) ds l f e (later h) = f e h

  above : (a : Attr) (attrs : List Attr) → ((b : Attr) → Has attrs b → attr_lt a b ≡ true) → (e : Domain) → Has (domains_for streams from attrs) e → attr_lt a e.attr ≡ true
  above a [] f e h = elim h [ ]
  above a (b ∷ attrs) f e h = above_with a b (domain_for streams from b) (domains_for streams from attrs) (f b first) (above a attrs (λ c i. f c (later i))) e h

  ascend_with : (a : Attr) (domain : Option (ℤ × ℤ)) (ds : List Domain) → ((e : Domain) → Has ds e → attr_lt a e.attr ≡ true) → Ascends before ds → Ascends before (domain_with a domain ++ ds)
  ascend_with a None ds f h = h
  ascend_with a (Some ends) ds f h = more f h

  ascend : (attrs : List Attr) → Ascends attr_lt attrs → Ascends before (domains_for streams from attrs)
  ascend [] h = none
  ascend (a ∷ attrs) (more p h) = ascend_with a (domain_for streams from a) (domains_for streams from attrs) (above a attrs p) (ascend attrs h)

  pub domains_ascend : (attrs : List Attr) → Ascends attr_lt attrs → AllPairs (λ d e. IsTrue (attr_lt d.attr e.attr)) (domains_for streams from attrs)
  domains_ascend attrs h = pairs_from before (domains_for streams from attrs) (ascend attrs h)
