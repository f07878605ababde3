-- A row's cell in the next part of a bucket.
use Rattle.std.proofs.Common.{◌≡◌, ℕ, ◌+◌, ◌<◌, ◌^◌, ◌&&◌, nat_eq, Bool, true, false, ℤ, List, [], ◌∷◌, ◌++◌, length, get_or, slice_get, Option, Some, None, inl, inr, refl, sym, ap, ap₂, subst, ◌∙◌, arith}
use Rattle.std.proofs.lemmas.List.{get_or_default}
use Rattle.std.proofs.lemmas.Option.{slice_get-get_or, get_or_from_slice_get}
use Rattle.std.specs.List.{list_all}
use Rattle.std.specs.Option.{IfSome}
use Rattle.sem_query.specs.declared.plan.Kind.{Kind}
use Rattle.sem_query.specs.declared.plan.LocalCondition.{LocalCondition}
use Rattle.sem_query.specs.declared.plan.PartPlan.{PartPlan}
use Rattle.sem_query.specs.Query.{QueryValue}
use Rattle.sem_query.specs.Parts.{pairs}
use Rattle.sem_query.specs.Plan.{dims_at}
use Rattle.sem_query.specs.Meaning.{by_column}
use Rattle.sem_query.specs.Admission.{alone, meets_local, in_range, admits}
use Rattle.sem_laws.proofs.Tests.{and-left, and-right, true_or_false}
use Rattle.exec_synopsis.specs.declared.axes.Placement.TheVariants.{Cell}
use Rattle.exec_synopsis.specs.Keeping.{keeps_part}
use Rattle.exec_synopsis.specs.Axes.{IsPlacement}
use Rattle.exec_synopsis.proofs.PrepareLaws.{pushed-get}
use Rattle.exec_part_index.specs.declared.part_entry.PartEntry.{PartEntry}
use Rattle.exec_part_index.specs.declared.part_index.PartIndex.{PartIndex}
use Rattle.exec_part_index.specs.declared.shift.CellAt.{CellAt}
use Rattle.exec_part_index.specs.declared.shift.Shift.{Shift}
use Rattle.exec_part_index.specs.declared.span.Span.{Span}
use Rattle.exec_part_index.specs.PartEntry.{IsPartEntry, ArePartEntries, IsCellIn}
use Rattle.exec_part_index.specs.PartIndex.{row_code, asked_at, IsPartIndex}
use Rattle.exec_part_index.specs.Shift.{IsShifted, placed}
use Rattle.exec_part_index.specs.Shifts.{HasNextAlike, IsNextShifted, StandsAt}
use Rattle.exec_part_index.specs.SimpleBox.{IsInBox}
use Rattle.exec_part_index.specs.Span.{in_span}
use Rattle.exec_part_index.proofs.PreparedParts.{part_at}
use Rattle.exec_part_index.proofs.ShiftLaws.{in-bounds, stands-shifted}
use Rattle.exec_part_index.proofs.Telling.{told}

none : (a b : Bool) → b ≡ false → (a && b) ≡ false
none true b e = e
none false b e = refl

-- how the box of a part is shifted in the next one, where that is alike
pub next_shifted : (parts : List PartPlan) (place : ℕ) (codes links : List ℕ) (spans : List Span) (i : ℕ) (part next : PartPlan) (shift : Option Shift) → HasNextAlike parts codes links spans i
    → part ≡ get_or parts i part → next ≡ get_or parts (get_or links i 0) next → IfSome shift (λ s. IsShifted part next place s) → IfSome shift (λ s. IsNextShifted parts place codes links spans i s)
next_shifted parts place codes links spans i part next None alike at_i at_next is = tt
next_shifted parts place codes links spans i part next (Some s) alike at_i at_next is = record {
  alike = alike;
  box = λ p n at_p at_n.
      subst (λ x. IsShifted x n place s) (at_i ∙ get_or_from_slice_get parts i p part at_p)
      (subst (λ x. IsShifted part x place s) (at_next ∙ get_or_from_slice_get parts (get_or links i 0) n next at_n) is);
}

-- what a row meets at a part, by its place in the list
pub entry_in : (parts : List PartPlan) (place : ℕ) (codes links : List ℕ) (spans : List Span) (entries : List PartEntry) (i : ℕ) (entry : PartEntry) → ArePartEntries parts place codes links spans entries
    → i < length parts → entry ≡ get_or entries i entry → IsPartEntry parts place codes links spans i entry
entry_in parts place codes links spans entries i entry are inside at =
    are.each i entry (slice_get-get_or entries i entry (let m = are.many in omega (arith, m, inside)) ∙ ap (λ (x : PartEntry). Some x) (sym at))

-- the same by a list that is given out
pub entry_read : (parts : List PartPlan) (place : ℕ) (codes links : List ℕ) (spans : List Span) (entries given : List PartEntry) (i : ℕ) (d : PartEntry) → ArePartEntries parts place codes links spans entries
    → given ≡ entries → i < length parts → IsPartEntry parts place codes links spans i (get_or given i d)
entry_read parts place codes links spans entries given i d are same inside =
    let these : ArePartEntries parts place codes links spans given = subst (λ (xs : List PartEntry). ArePartEntries parts place codes links spans xs) (sym same) are in
    let many = these.many in
    entry_in parts place codes links spans given i (get_or given i d) these inside (get_or_default given i d (get_or given i d) (omega (arith, many, inside)))

-- one more
pub entries_more : (parts : List PartPlan) (place : ℕ) (codes links : List ℕ) (spans : List Span) (entries : List PartEntry) (entry : PartEntry)
    → ((i : ℕ) (e : PartEntry) → slice_get entries i ≡ Some e → IsPartEntry parts place codes links spans i e)
    → IsPartEntry parts place codes links spans (length entries) entry
    → (i : ℕ) (e : PartEntry) → slice_get (entries ++ entry ∷ []) i ≡ Some e → IsPartEntry parts place codes links spans i e
entries_more parts place codes links spans entries entry each own = pushed-get (λ k e. IsPartEntry parts place codes links spans k e) entries entry each own

module _ (q : QueryValue) (parts : List PartPlan) (place : ℕ) (c : PartIndex) (are : IsPartIndex q parts place c) (row : List ℤ) where
  -- what is told of a part by its code and its conditions
  abbrev tells : ℕ → List LocalCondition → Bool
  tells code conditions = nat_eq code (row_code c.tested.items (by_column row)) && list_all (meets_local (alone (by_column row))) conditions

  -- the same is told of the next part where it is alike
  told_alike : (i : ℕ) (part next : PartPlan) → slice_get parts i ≡ Some part → slice_get parts (get_or c.links.items i 0) ≡ Some next → HasNextAlike parts c.codes.items c.links.items c.spans.items i
      → list_all (in_range (by_column row)) (dims_at part place) ≡ true → list_all (in_range (by_column row)) (dims_at next place) ≡ true
      → keeps_part (pairs q) part place (by_column row) ≡ keeps_part (pairs q) next place (by_column row)
  told_alike i part next at_i at_next alike here there =
      let n : ℕ = get_or c.links.items i 0 in
      let spans : asked_at c i ≡ asked_at c n = ap (λ (s : Span). in_span c.conditions.items s) alike.span in
      sym (told q parts place c are (by_column row) i part at_i here)
      ∙ ap₂ (λ (k : ℕ) (ts : List LocalCondition). tells k ts) alike.code spans
      ∙ told q parts place c are (by_column row) n next at_next there

  module _ (i : ℕ) (shift : Shift) (part next : PartPlan) (at_i : slice_get parts i ≡ Some part) (at_next : slice_get parts (get_or c.links.items i 0) ≡ Some next) (is : IsNextShifted parts place c.codes.items c.links.items c.spans.items i shift) where
    -- the next part admits the row where the part does
    same_admits : admits q part place (by_column row) ≡ admits q next place (by_column row)
    same_admits =
        let dims = (is.box part next at_i at_next).dims in
        let ranges : list_all (in_range (by_column row)) (dims_at part place) ≡ list_all (in_range (by_column row)) (dims_at next place) = ap (list_all (in_range (by_column row))) dims in
        elim (true_or_false (list_all (in_range (by_column row)) (dims_at part place))) [
          | inl inside ↦ ap₂ (λ a b. a && b) (told_alike i part next at_i at_next is.alike inside (sym ranges ∙ inside)) ranges
          | inr outside ↦ none _ _ outside ∙ sym (none _ _ (sym ranges ∙ outside))
        ]

    stands_next : (number : ℕ) (kind : Kind) → IsPlacement part place row (admits q part place (by_column row)) (Cell number kind)
        → IsPlacement next place row (admits q next place (by_column row)) (Cell (number + shift.cells) shift.kind)
    stands_next number kind stands =
        subst (λ b. IsPlacement next place row b (Cell (number + shift.cells) shift.kind)) same_admits
        (stands-shifted part next place shift (is.box part next at_i at_next) row number kind (admits q part place (by_column row)) stands)

  module _ (i : ℕ) (shift : Shift) (part : PartPlan) (at_i : slice_get parts i ≡ Some part) (is : IsNextShifted parts place c.codes.items c.links.items c.spans.items i shift) (number : ℕ) (kind : Kind)
      (stands : IsPlacement part place row (admits q part place (by_column row)) (Cell number kind)) where
    -- the cell in the next part has a number of 32 bits
    pub cell_fits : number + shift.cells < 2 ^ 32
    cell_fits =
        let next = part_at parts (get_or c.links.items i 0) is.alike.within in
        in-bounds part next.0 place shift (is.box part next.0 at_i next.1) row number kind (admits q part place (by_column row)) stands (λ h. and-right _ _ h)

    -- and is the row's
    pub cell_next : StandsAt q parts place row (get_or c.links.items i 0) (record { number = number + shift.cells; kind = shift.kind })
    cell_next = record { within = is.alike.within; stands = λ next at_next. stands_next i shift part next at_i at_next is number kind stands }

  module _ (i : ℕ) (part : PartPlan) (at_i : slice_get parts i ≡ Some part) (has : HasNextAlike parts c.codes.items c.links.items c.spans.items i) (number : ℕ) (kind : Kind)
      (stands : IsPlacement part place row (admits q part place (by_column row)) (Cell number kind)) where
    -- the next part admits the row where it lies in the ranges of its dims
    next_admits : (next : PartPlan) → slice_get parts (get_or c.links.items i 0) ≡ Some next → list_all (in_range (by_column row)) (dims_at next place) ≡ true → admits q next place (by_column row) ≡ true
    next_admits next at_next inside =
        let admitted : admits q part place (by_column row) ≡ true = sym stands.inside in
        let here : list_all (in_range (by_column row)) (dims_at part place) ≡ true = and-right _ _ admitted in
        let signed : keeps_part (pairs q) part place (by_column row) ≡ true = and-left _ (list_all (in_range (by_column row)) (dims_at part place)) admitted in
        ap₂ (λ a b. a && b) (sym (told_alike i part next at_i at_next has here inside) ∙ signed) inside

    -- and its cell there is the row's
    pub cell_follows : (cell : CellAt) → IsCellIn parts place row (get_or c.links.items i 0) cell → StandsAt q parts place row (get_or c.links.items i 0) cell
    cell_follows cell is = record {
      within = has.within;
      stands = λ next at_next.
          let there : IsInBox next place row (placed cell) = is next at_next in
          subst (λ b. IsPlacement next place row b (placed cell)) (sym there.inside ∙ sym (next_admits next at_next (sym there.inside))) there;
    }

    pub some_follows : (next : ℕ) → next ≡ get_or c.links.items i 0 → (cell : Option CellAt) → IfSome cell (λ x. IsCellIn parts place row next x) → IfSome cell (λ x. StandsAt q parts place row (get_or c.links.items i 0) x)
    some_follows next same None is = tt
    some_follows next same (Some cell) is = cell_follows cell (subst (λ n. IsCellIn parts place row n cell) same is)

-- the cell where a row stands in the part of a number
pub stands_of : (q : QueryValue) (parts : List PartPlan) (pos : ℕ) (row : List ℤ) (i : ℕ) (part : PartPlan) → i < length parts → slice_get parts i ≡ Some part → (cell : CellAt)
    → IsPlacement part pos row (admits q part pos (by_column row)) (placed cell) → StandsAt q parts pos row i cell
stands_of q parts pos row i part inside at_i cell there = record {
  within = inside;
  stands = λ p at_p. subst (λ x. IsPlacement x pos row (admits q x pos (by_column row)) (placed cell)) (the_same (sym at_i ∙ at_p)) there;
}
  where
    the_same : {p r : PartPlan} → Some p ≡ Some r → p ≡ r
    the_same e = cc
