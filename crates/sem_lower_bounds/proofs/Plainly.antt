-- What a plain query has: pairs of one stream alone, ends that are its constants, and no domain to keep to.
use Rattle.std.proofs.Common.{◌≡◌, ◌⊎◌, inl, inr, List, [], ◌∷◌, ◌++◌, map, filter, cond, Bool, true, false, not, ◌||◌, nat_eq, Contains, refl, ap, ◌∙◌, subst, arith, append-nil, ℤ}
use Rattle.std.proofs.lemmas.List.Elements.{All-contains}
use Rattle.std.specs.List.{flat_map, list_all}
use Rattle.std.specs.Prelude.{IsFalse}
use Rattle.sem_query.proofs.Has.{Has, Has-append_cases, Has-flat_map_from, Has-map_from, Contains-from_has}
use Rattle.sem_query.proofs.Local.{PairOf}
use Rattle.sem_query.proofs.Once.{once_has}
use Rattle.sem_query.specs.declared.atom.Attr.{Attr}
use Rattle.sem_query.specs.declared.atom.Atom.{Atom}
use Rattle.sem_query.specs.declared.atom.Domain.{Domain}
use Rattle.sem_query.specs.declared.atom.Element.{Element}
use Rattle.sem_query.specs.declared.atom.Element.TheVariants as element
use Rattle.sem_query.specs.declared.part.Pair.{Pair}
use Rattle.sem_query.specs.Query.{QueryValue, attrs_of, consts_of, is_soft}
use Rattle.sem_query.specs.Assignment.{Assignment, KeepsDomains, lies_in}
use Rattle.sem_query.specs.Laws.{ends_of}
use Rattle.sem_query.specs.Parts.{pairs, pairs_among, pair_of, soft_pair, same_stream}
use Rattle.sem_query.specs.Meaning.{Arrival, by_column}
use Rattle.sem_query.specs.Domains.{RowKeeps, RowsKeep}
use Rattle.sem_laws.proofs.Tests.{filter-passes, not_both}
use Rattle.sem_laws.proofs.Keeping.{rows-keep}
use Rattle.sem_laws.proofs.PlanTests.{all-true, not-true}
use Rattle.sem_lower_bounds.specs.Plain.{HasNoDomains, IsPlain}

-- both sides of a pair are of one stream, or the right one is a constant
abbrev pub IsLocal : Attr → Element → Type 0
IsLocal a (element.Attr b) = a.stream ≡ b.stream
IsLocal a (element.Const k) = Unit {0}

among-local : (xs : List Attr) (ks : List ℤ) (p : Pair) → Has (pairs_among xs ks) p → IsLocal p.left p.right
among-local [] ks p h = elim h [ ]
among-local (a ∷ xs) ks p h =
    let with_const_of : ℤ → Pair = λ k. record { left = a; right = element.Const k } in
    let L : Pair → Type 0 = λ p. IsLocal p.left p.right in
    elim (Has-append_cases _ (pairs_among xs ks) p h) [
      | inl g ↦ elim (Has-append_cases (map with_const_of ks) (map (PairOf a) (filter (same_stream a) xs)) p g) [
        | inl i ↦ let r : (k : ℤ) × Has ks k × (with_const_of k ≡ p) = Has-map_from with_const_of ks p i in subst L r.2 tt
        | inr i ↦ let r : (b : Attr) × Has (filter (same_stream a) xs) b × (PairOf a b ≡ p) = Has-map_from (PairOf a) (filter (same_stream a) xs) p i in
            let e : same_stream a r.0 ≡ true = filter-passes (same_stream a) xs r.0 r.1 in
            let f : a.stream ≡ r.0.stream = grind (arith, e) in
            subst L r.2 f
      ]
      | inr g ↦ among-local xs ks p g
    ]

-- a soft comparison names a pair of its sides
soft_sides : (t : Atom) (p : Pair) → Has (soft_pair t) p → (is_soft t.op ≡ true) × Has (pair_of t.left t.right) p
soft_sides t p h = by (is_soft t.op) refl h
  where
    by : (b : Bool) → is_soft t.op ≡ b → Has (cond b (pair_of t.left t.right) []) p → (is_soft t.op ≡ true) × Has (pair_of t.left t.right) p
    by true e h = (e, h)
    by false e h = elim h [ ]

-- a pair is of one stream, or of the sides of a soft comparison
pub pair_cases : (q : QueryValue) (p : Pair) → Has (pairs q) p
    → IsLocal p.left p.right ⊎ ((t : Atom) × Has q.atoms t × Has (pair_of t.left t.right) p × (is_soft t.op ≡ true))
unfolding pairs
pair_cases q p h = elim (Has-append_cases (flat_map soft_pair q.atoms) (pairs_among (attrs_of q.atoms) (consts_of q.atoms)) p (once_has _ p h)) [
  | inl k ↦ (
      let r : (t : Atom) × Has q.atoms t × Has (soft_pair t) p = Has-flat_map_from soft_pair q.atoms p k in
      let o = soft_sides r.0 p r.2 in
      inr (r.0, r.1, o.1, o.0))
  | inr k ↦ inl (among-local (attrs_of q.atoms) (consts_of q.atoms) p k)
]

pub pair-local : (q : QueryValue) → IsPlain q → (p : Pair) → Has (pairs q) p → IsLocal p.left p.right
pair-local q plain p h = elim (pair_cases q p h) [
  | inl l ↦ l
  | inr r ↦ (
      let hard : is_soft r.0.op ≡ false = All-contains (λ (t : Atom). IsFalse (is_soft t.op)) q.atoms r.0 plain.hard (Contains-from_has q.atoms r.0 r.1) in
      absurd (not_both (is_soft r.0.op) r.3 hard))
]

-- what holds of the constants holds of the ends
ends-are : (q : QueryValue) → HasNoDomains q → ends_of q ≡ consts_of q.atoms
ends-are q none = ap (λ (ds : List Domain). consts_of q.atoms ++ flat_map (λ d. d.lo ∷ d.hi ∷ []) ds) none ∙ append-nil (consts_of q.atoms)

pub over-ends : (q : QueryValue) → HasNoDomains q → (P : ℤ → Type 0) → ((k : ℤ) → Contains (consts_of q.atoms) k → P k) → (k : ℤ) → Contains (ends_of q) k → P k
over-ends q none P f k h = f k (subst (λ ks. Contains ks k) (ends-are q none) h)

-- each assignment keeps to the domains
pub keeps-none : (q : QueryValue) → HasNoDomains q → (v : Assignment) → KeepsDomains q v
keeps-none q none v = ap (λ (ds : List Domain). list_all (λ d. lies_in d (v d.attr)) ds) none

-- and so does each row
pub row-none : (q : QueryValue) → HasNoDomains q → (r : Arrival) → RowKeeps q r
row-none q none r place l e =
    ap (λ (ds : List Domain). list_all (λ d. not (nat_eq d.attr.stream place) || lies_in d (by_column r.values d.attr.column)) ds) none

pub rows-none : (q : QueryValue) → HasNoDomains q → (h : List Arrival) → RowsKeep q h
rows-none q none h = rows-keep q h (λ r i. row-none q none r)

hard-is : (t : Atom) → not (is_soft t.op) ≡ true → IsFalse (is_soft t.op)
hard-is t h = not-true (is_soft t.op) h

-- a test of a written query
pub plain-if : (q : QueryValue) → list_all (λ t. not (is_soft t.op)) q.atoms ≡ true → HasNoDomains q → q.compact ≡ false → IsPlain q
plain-if q h none whole = record { compact = whole; hard = all-true (λ (t : Atom). not (is_soft t.op)) (λ (t : Atom). IsFalse (is_soft t.op)) hard-is q.atoms h; domains = none }
