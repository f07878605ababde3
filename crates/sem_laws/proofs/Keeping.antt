-- Rows that keep to the domains combine to assignments that do.
use Rattle.std.proofs.Common.{◌≡◌, ℕ, zero, suc, ◌<◌, inl, inr, List, [], ◌∷◌, ◌++◌, map, filter, length, cond, not, Bool, true, false, ◌||◌, ◌==◌, refl, sym, subst, arith, nat_eq, ℤ, slice_index_or}
use Rattle.std.proofs.lemmas.List.Elements.{All-contains, Contains-get_or}
use Rattle.sem_query.specs.declared.atom.Domain.{Domain}
use Rattle.sem_query.specs.Query.{QueryValue}
use Rattle.sem_query.specs.Assignment.{lies_in, KeepsDomains}
use Rattle.sem_query.specs.Meaning.{Arrival, rows, product, by_column, joined, at_place}
use Rattle.sem_query.specs.Domains.{keeps_at, RowKeeps, RowsKeep}
use Rattle.sem_query.proofs.Has.{Has, Has-from_contains, Contains-from_has, Has-append_cases, Has-map_from, Has-filter_from, Has-flat_map_from}
use Rattle.sem_query.proofs.Domains.{each_keeps}
use Rattle.sem_laws.proofs.Counts.{arrived}
use Rattle.sem_laws.proofs.OnePartFits.{has_cases}
use Rattle.sem_laws.proofs.Queries.{IsQuery}
use Rattle.sem_laws.proofs.Tests.{or-cases, all_at, filter-passes, nat_true}

-- what each row of a history keeps, by membership
pub row-keeps : (q : QueryValue) (h : List Arrival) → RowsKeep q h → (r : Arrival) → Has h r → RowKeeps q r
row-keeps q h k r i = All-contains (RowKeeps q) h r k (Contains-from_has h r i)

pub rows-keep : (q : QueryValue) (h : List Arrival) → ((r : Arrival) → Has h r → RowKeeps q r) → RowsKeep q h
rows-keep q h f k d l = f _ (Has-from_contains h _ (Contains-get_or h k d l))

-- one row more
pub rows-more-keep : (q : QueryValue) (h : List Arrival) (r : Arrival) → RowsKeep q h → RowKeeps q r → RowsKeep q (h ++ r ∷ [])
rows-more-keep q h r k i = rows-keep q (h ++ r ∷ []) (λ t m. elim (Has-append_cases h (r ∷ []) t m) [
  | inl j ↦ row-keeps q h k t j
  | inr j ↦ elim (has_cases r t [] j) [ inl e ↦ subst (RowKeeps q) e i | inr l ↦ elim l [ ] ]
])

-- the rows of each place keep to the domains there
abbrev pub AllKeep : QueryValue → (ℕ → List (List ℤ)) → Type 0
AllKeep q f = (n : ℕ) → n < length q.from → (row : List ℤ) → Has (f (slice_index_or q.from n 0)) row → keeps_at q n (by_column row) ≡ true

pub history-keeps : (q : QueryValue) (h : List Arrival) → RowsKeep q h → AllKeep q (rows h)
history-keeps q h k n l row i =
    let s : ℕ = slice_index_or q.from n 0 in
    let m = Has-map_from (λ (r : Arrival). r.values) (filter (λ r. r.stream == s) h) row i in
    let e : (m.0.stream == s) ≡ true = filter-passes (λ r. r.stream == s) h m.0 m.1 in
    let g : keeps_at q n (by_column m.0.values) ≡ true
    = row-keeps q h k m.0 (Has-filter_from (λ r. r.stream == s) h m.0 m.1) n l (sym (nat_true m.0.stream s e)) in
    subst (λ row. keeps_at q n (by_column row) ≡ true) m.2 g

pub arrived-keeps : (q : QueryValue) (h : List Arrival) (r : Arrival) → RowsKeep q h → RowKeeps q r → AllKeep q (arrived h r)
arrived-keeps q h r k i n l row m = by (r.stream == slice_index_or q.from n 0) refl m
  where
    by : (b : Bool) → (r.stream == slice_index_or q.from n 0) ≡ b → Has (cond b (r.values ∷ []) (rows h (slice_index_or q.from n 0))) row
        → keeps_at q n (by_column row) ≡ true
    by true e j = elim (has_cases r.values row [] j) [
      | inl g ↦ subst (λ row. keeps_at q n (by_column row) ≡ true) g (i n l (sym (nat_true r.stream (slice_index_or q.from n 0) e)))
      | inr o ↦ elim o [ ]
    ]
    by false e j = history-keeps q h k n l row j

-- the row of a combination at a place is one of those of that place
row-at : (f : ℕ → List (List ℤ)) (from : List ℕ) (c : List (List ℤ)) → Has (product (map f from)) c → (n : ℕ) → n < length from
    → (row : List ℤ) × Has (f (slice_index_or from n 0)) row × (at_place (map by_column c) n ≡ by_column row)
row-at f [] c h n l = absurd (omega (arith, l))
row-at f (s ∷ from) c h n l =
    let m = Has-flat_map_from (λ x. map (λ o. x ∷ o) (product (map f from))) (f s) c h in
    let o = Has-map_from (λ o. m.0 ∷ o) (product (map f from)) c m.2 in
    subst (λ c. (row : List ℤ) × Has (f (slice_index_or (s ∷ from) n 0)) row × (at_place (map by_column c) n ≡ by_column row)) o.2
    (by m.0 m.1 o.0 n l (λ i l. row-at f from o.0 o.1 i l))
  where
    by : (x : List ℤ) → Has (f s) x → (rest : List (List ℤ)) (n : ℕ) → n < suc (length from)
        → ((i : ℕ) → i < length from → (row : List ℤ) × Has (f (slice_index_or from i 0)) row × (at_place (map by_column rest) i ≡ by_column row))
        → (row : List ℤ) × Has (f (slice_index_or (s ∷ from) n 0)) row × (at_place (map by_column (x ∷ rest)) n ≡ by_column row)
    by x k rest zero l g = (x, k, refl)
    by x k rest (suc i) l g = g i (omega (arith, l))

-- a combination of such rows keeps to the domains
pub combination-keeps : (q : QueryValue) → IsQuery q → (f : ℕ → List (List ℤ)) → AllKeep q f → (c : List (List ℤ)) → Has (product (map f q.from)) c
    → KeepsDomains q (joined (map by_column c))
combination-keeps q well f k c h = each_keeps q (joined (map by_column c)) one
  where
    one : (d : Domain) → Has q.domains d → lies_in d (joined (map by_column c) d.attr) ≡ true
    one d i =
        let n : ℕ = d.attr.stream in
        let l : n < length q.from = well.domains d (Contains-from_has q.domains d i) in
        let r = row-at f q.from c h n l in
        let t : (not (nat_eq d.attr.stream n) || lies_in d (by_column r.0 d.attr.column)) ≡ true
        = all_at (λ (d : Domain). not (nat_eq d.attr.stream n) || lies_in d (by_column r.0 d.attr.column)) q.domains d (k n l r.0 r.1) i in
        elim (or-cases (not (nat_eq d.attr.stream n)) (lies_in d (by_column r.0 d.attr.column)) t) [
          | inl g ↦ absurd (grind (arith, g))
          | inr g ↦ subst (λ (v : ℕ → ℤ). lies_in d (v d.attr.column) ≡ true) (sym r.2) g
        ]
