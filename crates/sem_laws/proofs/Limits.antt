-- A test of the limits of a statement.
use Rattle.std.proofs.Common.{◌≡◌, ◌≢◌, ℕ, ◌<◌, inl, inr, filter, length, Bool, true, ◌&&◌, ◌||◌, not, arith, nat_eq, nat_lt, ℤ, pos, neg_ℤ, int_lt, ◌≤ℤ◌}
use Rattle.std.proofs.lemmas.Int.{ints}
use Rattle.std.proofs.lemmas.Bool.Decides.{nat_tests}
use Rattle.std.specs.List.{list_all}
use Rattle.sem_query.specs.declared.atom.Attr.{Attr}
use Rattle.sem_query.specs.declared.atom.Atom.{Atom}
use Rattle.sem_query.specs.declared.atom.Domain.{Domain}
use Rattle.sem_query.specs.Query.{QueryValue, attrs_of, consts_of, attr_lt, is_attr, is_soft, HasAttr, IsColumn, IsShort, IsDomain, IsWithinLimits}
use Rattle.sem_query.proofs.Has.{Contains-from_has}
use Rattle.sem_laws.proofs.Tests.{and-left, and-right, or-cases}
use Rattle.sem_laws.proofs.PlanTests.{ascends_test, pairs-ascend, all-true, among, among-has}

abbrev pub is_column : ℕ → Attr → Bool
is_column streams a = nat_lt a.stream streams && nat_lt a.column 8

abbrev pub has_column : Atom → Bool
has_column t = is_attr t.left || is_attr t.right

abbrev pub is_short : ℤ → Bool
is_short k = not (int_lt k (neg_ℤ (pos 999999999999999))) && not (int_lt (pos 999999999999999) k)

abbrev pub differ : ℕ → ℕ → Bool
differ s t = not (nat_eq s t)

abbrev pub sizes_fit : QueryValue → Bool
sizes_fit q =
    nat_lt 0 (length q.from) && (nat_lt (length q.from) 5 && (nat_lt 0 (length q.select) && (nat_lt (length q.select) 9 && (nat_lt (length q.atoms) 17
    && (nat_lt (length (attrs_of q.atoms)) 13 && (nat_lt (length (consts_of q.atoms)) 7
    && (nat_lt (length (filter (λ t. is_soft t.op) q.atoms)) 9 && nat_lt (length q.domains) 21)))))))

-- the domain is of a named column, and has an integer
abbrev pub is_domain : QueryValue → Domain → Bool
is_domain q d = (among d.attr (attrs_of q.atoms) || among d.attr q.select) && (is_short d.lo && (is_short d.hi && not (int_lt d.hi d.lo)))

abbrev pub before : Domain → Domain → Bool
before d e = attr_lt d.attr e.attr

abbrev pub limits_test : QueryValue → Bool
limits_test q =
    sizes_fit q && (ascends_test differ q.from && (list_all (is_column (length q.from)) q.select && (list_all has_column q.atoms
    && (list_all (is_column (length q.from)) (attrs_of q.atoms) && (list_all is_short (consts_of q.atoms)
    && (list_all (is_domain q) q.domains && ascends_test before q.domains))))))

column-is : (n : ℕ) (a : Attr) → is_column n a ≡ true → IsColumn n a
column-is n a h = record { stream = grind (arith, nat_tests, and-left (nat_lt a.stream n) (nat_lt a.column 8) h); column = grind (arith, nat_tests, and-right (nat_lt a.stream n) (nat_lt a.column 8) h) }

side-is : (t : Atom) → has_column t ≡ true → HasAttr t
side-is t h = or-cases (is_attr t.left) (is_attr t.right) h

short-is : (k : ℤ) → is_short k ≡ true → IsShort k
short-is k h = record {
  low = grind (arith, ints, and-left (not (int_lt k (neg_ℤ (pos 999999999999999)))) (not (int_lt (pos 999999999999999) k)) h);
  high = grind (arith, ints, and-right (not (int_lt k (neg_ℤ (pos 999999999999999)))) (not (int_lt (pos 999999999999999) k)) h);
}

no-less-is : (j k : ℤ) → not (int_lt k j) ≡ true → j ≤ℤ k
no-less-is j k h = grind (arith, ints, h)

domain-is : (q : QueryValue) (d : Domain) → is_domain q d ≡ true → IsDomain q d
domain-is q d h =
    let r1 = and-right (among d.attr (attrs_of q.atoms) || among d.attr q.select) _ h in
    let r2 = and-right (is_short d.lo) _ r1 in
    record {
      column = elim (or-cases (among d.attr (attrs_of q.atoms)) (among d.attr q.select) (and-left _ _ h)) [
        | inl i ↦ inl (Contains-from_has (attrs_of q.atoms) d.attr (among-has d.attr (attrs_of q.atoms) i))
        | inr i ↦ inr (Contains-from_has q.select d.attr (among-has d.attr q.select i))
      ];
      low = short-is d.lo (and-left _ _ r1);
      high = short-is d.hi (and-left _ _ r2);
      some = no-less-is d.lo d.hi (and-right (is_short d.hi) _ r2);
    }

differ-is : (s t : ℕ) → differ s t ≡ true → s ≢ t
differ-is s t h e = grind (arith, h, e)

below-is : (m n : ℕ) → nat_lt m n ≡ true → m < n
below-is m n h = grind (arith, nat_tests, h)

record Counts (q : QueryValue) : Type 0 where
  some : 0 < length q.from
  streams : length q.from < 5
  selected : 0 < length q.select
  select : length q.select < 9
  atoms : length q.atoms < 17
  attrs : length (attrs_of q.atoms) < 13
  consts : length (consts_of q.atoms) < 7
  soft : length (filter (λ t. is_soft t.op) q.atoms) < 9
  domains : length q.domains < 21

counts : (q : QueryValue) → sizes_fit q ≡ true → Counts q
counts q h =
    let r1 = and-right (nat_lt 0 (length q.from)) _ h in
    let r2 = and-right (nat_lt (length q.from) 5) _ r1 in
    let r3 = and-right (nat_lt 0 (length q.select)) _ r2 in
    let r4 = and-right (nat_lt (length q.select) 9) _ r3 in
    let r5 = and-right (nat_lt (length q.atoms) 17) _ r4 in
    let r6 = and-right (nat_lt (length (attrs_of q.atoms)) 13) _ r5 in
    let r7 = and-right (nat_lt (length (consts_of q.atoms)) 7) _ r6 in
    record {
      some = below-is _ _ (and-left _ _ h);
      streams = below-is _ _ (and-left _ _ r1);
      selected = below-is _ _ (and-left _ _ r2);
      select = below-is _ _ (and-left _ _ r3);
      atoms = below-is _ _ (and-left _ _ r4);
      attrs = below-is _ _ (and-left _ _ r5);
      consts = below-is _ _ (and-left _ _ r6);
      soft = below-is _ _ (and-left _ _ r7);
      domains = below-is _ _ (and-right (nat_lt (length (filter (λ t. is_soft t.op) q.atoms)) 9) _ r7);
    }

pub within-limits : (q : QueryValue) → limits_test q ≡ true → IsWithinLimits q
within-limits q h =
    let c : Counts q = counts q (and-left _ _ h) in
    let r1 = and-right (sizes_fit q) _ h in
    let r2 = and-right (ascends_test differ q.from) _ r1 in
    let r3 = and-right (list_all (is_column (length q.from)) q.select) _ r2 in
    let r4 = and-right (list_all has_column q.atoms) _ r3 in
    let r5 = and-right (list_all (is_column (length q.from)) (attrs_of q.atoms)) _ r4 in
    let r6 = and-right (list_all is_short (consts_of q.atoms)) _ r5 in
    record {
      streams = (c.some, omega (arith, c.streams));
      different = λ i j d a b. differ-is _ _ (pairs-ascend differ q.from (and-left _ _ r1) i j d a b);
      selected = (c.selected, omega (arith, c.select));
      select = all-true (is_column (length q.from)) (IsColumn (length q.from)) (λ a t. column-is (length q.from) a t) q.select (and-left _ _ r2);
      comparisons = omega (arith, c.atoms);
      few_soft = omega (arith, c.soft);
      sides = all-true has_column HasAttr (λ t e. side-is t e) q.atoms (and-left _ _ r3);
      few_attrs = omega (arith, c.attrs);
      attrs = all-true (is_column (length q.from)) (IsColumn (length q.from)) (λ a t. column-is (length q.from) a t) (attrs_of q.atoms) (and-left _ _ r4);
      few_consts = omega (arith, c.consts);
      consts = all-true is_short IsShort (λ k t. short-is k t) (consts_of q.atoms) (and-left _ _ r5);
      few_domains = omega (arith, c.domains);
      domains = all-true (is_domain q) (IsDomain q) (λ d t. domain-is q d t) q.domains (and-left _ _ r6);
      ascending = pairs-ascend before q.domains (and-right (list_all (is_domain q) q.domains) _ r6);
    }
