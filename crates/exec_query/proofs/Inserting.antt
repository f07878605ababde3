-- Taking a row into one part after the other changes the cells that it lies in, and no other.
use Rattle.std.proofs.Common.{◌≡◌, ◌≢◌, ℕ, zero, suc, ◌+◌, ◌<◌, ◌&&◌, ◌||◌, ◌==◌, nat_eq, nat_lt, not, take, ◌*◌, cond, Bool, true, false, ℤ, List, [], ◌∷◌, length, set, get_or, refl, sym, ap, ◌∙◌, subst, arith, slice_index_or, slice_get, inl, inr, ◌⊎◌, Some, get_or-set_same, get_or-set_other, length-set}
use Rattle.std.specs.List.{list_any}
use Rattle.std.proofs.lemmas.Bool.Decides.{nat_tests}
use Rattle.std.proofs.lemmas.Bool.{cases_lt}
use Rattle.std.proofs.lemmas.Option.{slice_get_within, get_or_from_slice_get}
use Rattle.std.proofs.lemmas.List.Folds.{list_any_more}
use Rattle.std.proofs.lemmas.List.Elements.{All-contains}
use Rattle.sem_query.specs.declared.cell.Cell.{Cell}
use Rattle.sem_query.specs.declared.plan.PartPlan.{PartPlan}
use Rattle.sem_query.specs.Query.{QueryValue, IsWithinLimits}
use Rattle.sem_query.specs.Meaning.{Arrival, by_column}
use Rattle.sem_query.specs.declared.plan.Dim.{Dim}
use Rattle.sem_query.specs.Boxes.{dim_size, box_size, AreFull}
use Rattle.sem_query.specs.Plan.{stream_at, dims_at}
use Rattle.sem_query.specs.Serving.{KeepsStreams}
use Rattle.sem_query.specs.Admission.{admits}
use Rattle.sem_query.specs.Cells.{row_place, content}
use Rattle.sem_query.specs.Combinations.{read_from}
use Rattle.sem_query.specs.Merge.{merged}
use Rattle.sem_query.specs.Sharing.{box_at}
use Rattle.sem_query.proofs.Has.{Has, Has-from_contains, Contains-from_has}
use Rattle.sem_laws.specs.Places.{IsBox}
use Rattle.sem_laws.proofs.Tests.{and-left, and-right, and-both, nat_true, not_both, or-false}
use Rattle.sem_laws.proofs.SameBoxes.{AreSame, are-same, same-admits}
use Rattle.sem_query.proofs.BoxLaws.{full-dim-size}
use Rattle.exec_synopsis.specs.Premises.{AreKeeping, row_cell}
use Rattle.exec_query.specs.CellSteps.{arrives, lies, IsInserted, MeetWhole}
use Rattle.exec_part_index.specs.Owners.{has_base}
use Rattle.exec_query.proofs.InPart.{place_inside}

-- the row was taken into no part
pub inserted_start : (q : QueryValue) (plan : List PartPlan) (r : Arrival) (cells : List Cell) → IsInserted q plan r 0 cells cells
inserted_start q plan r cells = record { size = refl; at = λ m part place i b. refl; rest = λ k none. refl }

and_false : (a b : Bool) → b ≡ false → false ≡ (a && b)
and_false true b e = sym e
and_false false b e = refl

or_right : (a b : Bool) → b ≡ true → true ≡ (a || b)
or_right true b e = refl
or_right false b e = sym e

pub get_has : (plan : List PartPlan) (n : ℕ) (p : PartPlan) → slice_get plan n ≡ Some p → Has plan p
get_has plan n p e =
    let l : n < length plan = slice_get_within plan n p e in
    Has-from_contains plan p (n, l, get_or_from_slice_get plan n p p e)

turned : (b : Bool) → not b ≡ false → b ≡ true
turned true h = refl
turned false h = absurd cc

first_false : (a b : Bool) → b ≡ true → (a && b) ≡ false → a ≡ false
first_false true b h k = absurd (not_both b h k)
first_false false b h k = refl

second_false : (a b : Bool) → a ≡ true → (a && b) ≡ false → b ≡ false
second_false true b h k = k
second_false false b h k = absurd cc

-- a box of full dims is not empty
full-size : (ds : List Dim) → AreFull ds → 0 < box_size ds
full-size [] f = omega arith
full-size (d ∷ ds) f = more (dim_size d) (box_size ds) (full-dim-size d f.0) (full-size ds f.1)
  where
    more : (a b : ℕ) → 0 < a → 0 < b → 0 < a * b
    more zero b l k = absurd (omega (arith, l))
    more (suc a) b l k = omega (arith, k)

module _ (q : QueryValue) (plan : List PartPlan) (within : IsWithinLimits q) (is : AreKeeping q plan) where
  -- a part of the plan keeps the streams
  pub part_plan : (n : ℕ) (part : PartPlan) → slice_get plan n ≡ Some part → KeepsStreams q part
  part_plan n part e = All-contains (KeepsStreams q) plan part is.plans (Contains-from_has plan part (get_has plan n part e))

  -- where a query has several streams, no box is empty
  some_cells : (part : PartPlan) → KeepsStreams q part → (place : ℕ) → place < length q.from → 1 < length q.from → 0 < (stream_at part place).size
  some_cells part own place l several =
      let one : nat_eq (length q.from) 1 ≡ false = grind (arith, nat_tests) in
      let e : (stream_at part place).size ≡ box_size (dims_at part place) = own.size place l ∙ ap (λ b. cond b 0 (box_size (dims_at part place))) one in
      let f = full-size (dims_at part place) (own.full place l) in
      omega (arith, e, f)

  -- FROM has each stream once
  pub one_place : (a b : ℕ) → a < length q.from → b < length q.from → slice_index_or q.from a 0 ≡ slice_index_or q.from b 0 → a ≡ b
  one_place a b l k e = elim (cases_lt a b) [
    | inl h ↦ absurd (within.different a b 0 h k e)
    | inr h ↦ elim (cases_lt b a) [
      | inl o ↦ absurd (within.different b a 0 o l (sym e))
      | inr o ↦ omega arith
    ]
  ]

  -- a row of a stream outside FROM lies in no box
  pub inserted_outside : (r : Arrival) (n : ℕ) (cells : List Cell) → list_any (λ s. r.stream == s) q.from ≡ false → IsInserted q plan r n cells cells
  inserted_outside r n cells e = record {
    size = refl;
    at =
        λ m part place i b.
        let l : place < length q.from = (let c = (part_plan m part b.at).count in let t = b.there in omega (arith, c, t)) in
        let no : (r.stream == slice_index_or q.from place 0) ≡ false = none_at q.from place l e in
        let f : lies q r part place i ≡ false = ap (λ t. t && (admits q part place (by_column r.values) && nat_eq (row_place (dims_at part place) (by_column r.values)) i)) no in
        ap (λ t. cond t (merged (stream_at part place).kind (read_from cells part place i) (content (stream_at part place).kind (r.values ∷ []))) (read_from cells part place i)) (and_false (has_base (take n plan) part place) (lies q r part place i) f);
    rest = λ k none. refl;
  }
    where
      none_at : (from : List ℕ) (place : ℕ) → place < length from → list_any (λ s. r.stream == s) from ≡ false → (r.stream == slice_index_or from place 0) ≡ false
      none_at [] place l h = absurd (omega (arith, l))
      none_at (s ∷ from) zero l h = (or-false (r.stream == s) (list_any (λ s. r.stream == s) from) h).0
      none_at (s ∷ from) (suc place) l h = none_at from place (omega (arith, l)) ((or-false (r.stream == s) (list_any (λ s. r.stream == s) from) h).1)

  module _ (meet : MeetWhole q plan) (pos : ℕ) (here : pos < length q.from) (values : List ℤ) (n : ℕ) (part : PartPlan) (at_n : slice_get plan n ≡ Some part) where
    abbrev v : ℕ → ℤ
    v = by_column values

    abbrev r : Arrival
    r = arrives q pos values

    -- whether the part has its box where another has it
    abbrev meets : PartPlan → ℕ → Bool
    meets other place = nat_eq (stream_at part place).base (stream_at other place).base

    own_plan : KeepsStreams q part
    own_plan = part_plan n part at_n

    -- what it means that the row lies there
    lies_place : (other : PartPlan) (place i : ℕ) → place < length q.from → lies q r other place i ≡ true → place ≡ pos
    lies_place other place i l e = one_place place pos l here (sym (nat_true (slice_index_or q.from pos 0) (slice_index_or q.from place 0) (and-left _ _ e)))

    lies_admits : (other : PartPlan) (place i : ℕ) → lies q r other place i ≡ true → admits q other place v ≡ true
    lies_admits other place i e = and-left _ _ (and-right (r.stream == slice_index_or q.from place 0) _ e)

    lies_at : (other : PartPlan) (place i : ℕ) → lies q r other place i ≡ true → row_place (dims_at other place) v ≡ i
    lies_at other place i e = nat_true _ _ (and-right (admits q other place v) _ (and-right (r.stream == slice_index_or q.from place 0) _ e))

    lies_own : admits q part pos v ≡ true → lies q r part pos (row_place (dims_at part pos) v) ≡ true
    lies_own e =
        let s : (r.stream == r.stream) ≡ true = grind (arith, nat_tests) in
        let k : nat_eq (row_place (dims_at part pos) v) (row_place (dims_at part pos) v) ≡ true = grind (arith, nat_tests) in
        and-both _ _ s (and-both _ _ e k)

    -- one part more
    base_more : (other : PartPlan) (place : ℕ) → has_base (take (n + 1) plan) other place ≡ (has_base (take n plan) other place || meets other place)
    base_more other place =
        list_any_more (λ p. nat_eq (stream_at p place).base (stream_at other place).base) plan n part (slice_get_within plan n part at_n)
        ∙ ap (λ (p : PartPlan). has_base (take n plan) other place || nat_eq (stream_at p place).base (stream_at other place).base) (get_or_from_slice_get plan n part part at_n)

    -- a part whose box begins where this one's does has the same box
    twin : (m : ℕ) (other : PartPlan) (i : ℕ) → IsBox plan m other pos i → meets other pos ≡ true → 1 < length q.from → AreSame q (box_at part pos) (box_at other pos)
    twin m other i b e several =
        let base : (stream_at part pos).base ≡ (stream_at other pos).base = nat_true _ _ e in
        let there : pos < length part.streams.items = (let c = own_plan.count in omega (arith, c, here)) in
        let size = some_cells part own_plan pos here several in
        let inside : 0 < (stream_at other pos).size = (let k = b.inside in omega (arith, k)) in
        are-same q (box_at part pos) (box_at other pos) ((meet n m part other pos pos 0 0 record { at = at_n; there = there; inside = size } record { at = b.at; there = b.there; inside = inside } (omega (arith, base))).0)

    -- and then it has been reached where this one has
    reached_alike : (other : PartPlan) → meets other pos ≡ true → has_base (take n plan) other pos ≡ has_base (take n plan) part pos
    reached_alike other e =
        let base : (stream_at part pos).base ≡ (stream_at other pos).base = nat_true _ _ e in
        ap (λ (k : ℕ). list_any (λ p. nat_eq (stream_at p pos).base k) (take n plan)) (sym base)

    several_if : (m : ℕ) (other : PartPlan) (place i : ℕ) → IsBox plan m other place i → place < length q.from → 1 < length q.from
    several_if m other place i b l = elim (cases_lt 1 (length q.from)) [
      | inl h ↦ h
      | inr h ↦ absurd (
          let one : length q.from ≡ 1 = omega (arith, h, l) in
          let z : (stream_at other place).size ≡ 0 = (part_plan m other b.at).size place l ∙ ap (λ (k : ℕ). cond (nat_eq k 1) 0 (box_size (dims_at other place))) one in
          let s = b.inside in omega (arith, z, s))
    ]

    module _ (cells others : List Cell) (old : IsInserted q plan r n cells others) where
      abbrev goes : PartPlan → ℕ → ℕ → Bool → Cell
      goes other place i t = cond t (merged (stream_at other place).kind (read_from cells other place i) (content (stream_at other place).kind (values ∷ []))) (read_from cells other place i)

      -- what is to be shown where one part more changes nothing of a box
      same_if : (other : PartPlan) (place i : ℕ) → (lies q r other place i ≡ true → meets other place ≡ true → has_base (take n plan) other place ≡ true)
          → (has_base (take n plan) other place && lies q r other place i) ≡ (has_base (take (n + 1) plan) other place && lies q r other place i)
      same_if other place i h = by (has_base (take n plan) other place) (meets other place) (lies q r other place i) h ∙ ap (λ t. t && lies q r other place i) (sym (base_more other place))
        where
          by : (t e l : Bool) → (l ≡ true → e ≡ true → t ≡ true) → (t && l) ≡ ((t || e) && l)
          by true e l h = refl
          by false true true h = h refl refl
          by false true false h = refl
          by false false l h = refl

      -- a part that takes nothing changes nothing
      pub inserted_nothing : (owns : Bool) → owns ≡ not (has_base (take n plan) part pos) → (admits q part pos v && (owns && nat_lt 1 (length q.from))) ≡ false → IsInserted q plan r (n + 1) cells others
      inserted_nothing owns e none = record {
        size = old.size;
        at = λ m other place i b. old.at m other place i b ∙ ap (goes other place i) (same_if other place i (λ l k. reached m other place i b l k));
        rest = old.rest;
      }
        where
          reached : (m : ℕ) (other : PartPlan) (place i : ℕ) → IsBox plan m other place i → lies q r other place i ≡ true → meets other place ≡ true → has_base (take n plan) other place ≡ true
          reached m other place i b l k =
              let c = (part_plan m other b.at).count in
              let at : place < length q.from = (let t = b.there in omega (arith, c, t)) in
              let p : place ≡ pos = lies_place other place i at l in
              subst (λ (o : ℕ). has_base (take n plan) other o ≡ true) (sym p)
              (at_pos (subst (λ (o : ℕ). IsBox plan m other o i) p b) (subst (λ (o : ℕ). lies q r other o i ≡ true) p l) (subst (λ (o : ℕ). meets other o ≡ true) p k) (several_if m other place i b at))
            where
              at_pos : IsBox plan m other pos i → lies q r other pos i ≡ true → meets other pos ≡ true → 1 < length q.from → has_base (take n plan) other pos ≡ true
              at_pos b l k several =
                  let same = twin m other i b k several in
                  let a : admits q part pos v ≡ true = same-admits q (box_at part pos) (box_at other pos) same v ∙ lies_admits other pos i l in
                  let t : nat_lt 1 (length q.from) ≡ true = grind (arith, nat_tests) in
                  reached_alike other k ∙ turned (has_base (take n plan) part pos) (sym e ∙ first_false owns (nat_lt 1 (length q.from)) t (second_false (admits q part pos v) _ a none))

      -- a part that takes the row changes the one cell that it lies in
      module _ (a : admits q part pos v ≡ true) (unreached : has_base (take n plan) part pos ≡ false) (several : 1 < length q.from) (whole : row_cell part pos values < length others) where
        abbrev own : ℕ
        own = row_cell part pos values

        abbrev now : Cell
        now = merged (stream_at part pos).kind (get_or others own Cell.Empty) (content (stream_at part pos).kind (values ∷ []))

        own_box : IsBox plan n part pos (row_place (dims_at part pos) v)
        own_box = record {
          at = at_n;
          there = (let c = own_plan.count in omega (arith, c, here));
          inside = place_inside q part within own_plan pos here values several a;
        }

        -- another cell
        at_other : (m : ℕ) (other : PartPlan) (place i : ℕ) → IsBox plan m other place i → (stream_at other place).base + i ≢ own
            → read_from (set others own now) other place i ≡ goes other place i (has_base (take (n + 1) plan) other place && lies q r other place i)
        at_other m other place i b ne =
            get_or-set_other others own ((stream_at other place).base + i) now Cell.Empty ne
            ∙ old.at m other place i b
            ∙ ap (goes other place i) (same_if other place i (λ l k. absurd (ne (is_own l k))))
          where
            is_own : lies q r other place i ≡ true → meets other place ≡ true → (stream_at other place).base + i ≡ own
            is_own l k =
                let c = (part_plan m other b.at).count in
                let at : place < length q.from = (let t = b.there in omega (arith, c, t)) in
                let p : place ≡ pos = lies_place other place i at l in
                subst (λ (o : ℕ). (stream_at other o).base + i ≡ own) (sym p)
                (at_pos (subst (λ (o : ℕ). IsBox plan m other o i) p b) (subst (λ (o : ℕ). lies q r other o i ≡ true) p l) (subst (λ (o : ℕ). meets other o ≡ true) p k))
              where
                at_pos : IsBox plan m other pos i → lies q r other pos i ≡ true → meets other pos ≡ true → (stream_at other pos).base + i ≡ own
                at_pos b l k =
                    let same = twin m other i b k several in
                    let base : (stream_at part pos).base ≡ (stream_at other pos).base = nat_true _ _ k in
                    let d : row_place (dims_at part pos) v ≡ i = ap (λ (ds : List Dim). row_place ds v) same.dims ∙ lies_at other pos i l in
                    omega (arith, base, d)

        -- the cell of the row
        at_own : (m : ℕ) (other : PartPlan) (place i : ℕ) → IsBox plan m other place i → (stream_at other place).base + i ≡ own
            → read_from (set others own now) other place i ≡ goes other place i (has_base (take (n + 1) plan) other place && lies q r other place i)
        at_own m other place i b e =
            let k = meet n m part other pos place (row_place (dims_at part pos) v) i own_box b (sym e) in
            let same = are-same q (box_at part pos) (box_at other place) k.0 in
            subst (λ (o : ℕ). IsBox plan m other o i → (stream_at other o).base + i ≡ own → AreSame q (box_at part pos) (box_at other o) → read_from (set others own now) other o i ≡ goes other o i (has_base (take (n + 1) plan) other o && lies q r other o i))
            same.place (at_pos k.1) b e same
          where
            at_pos : row_place (dims_at part pos) v ≡ i → IsBox plan m other pos i → (stream_at other pos).base + i ≡ own → AreSame q (box_at part pos) (box_at other pos)
                → read_from (set others own now) other pos i ≡ goes other pos i (has_base (take (n + 1) plan) other pos && lies q r other pos i)
            at_pos d b e same =
                let base : (stream_at part pos).base ≡ (stream_at other pos).base = omega (arith, d, e) in
                let k : meets other pos ≡ true = ap (λ (x : ℕ). nat_eq x (stream_at other pos).base) base ∙ (let t : nat_eq (stream_at other pos).base (stream_at other pos).base ≡ true = grind (arith, nat_tests) in t) in
                let l : lies q r other pos i ≡ true
                = (λ j. (r.stream == r.stream) && (sym (same-admits q (box_at part pos) (box_at other pos) same v) j && nat_eq (row_place (sym same.dims j) v) (sym d j))) ∙ lies_own a in
                let c : get_or others own Cell.Empty ≡ read_from cells other pos i
                = ap (λ m. get_or others m Cell.Empty) (sym e) ∙ old.at m other pos i b
                ∙ ap (λ t. goes other pos i (t && lies q r other pos i)) (reached_alike other k ∙ unreached) in
                ap (λ m. get_or (set others own now) m Cell.Empty) e
                ∙ get_or-set_same others own now Cell.Empty whole
                ∙ (λ j. merged (same.kind j) (c j) (content (same.kind j) (values ∷ [])))
                ∙ ap (goes other pos i) (sym (and-both _ _ (base_more other pos ∙ sym (or_right (has_base (take n plan) other pos) (meets other pos) k)) l))

        pub inserted_row : IsInserted q plan r (n + 1) cells (set others own now)
        inserted_row = record {
          size = length-set others own now ∙ old.size;
          at = λ m other place i b. elim (same_number ((stream_at other place).base + i) own) [
            | inl e ↦ at_own m other place i b e
            | inr ne ↦ at_other m other place i b ne
          ];
          rest =
              λ k none.
              let ne : own ≢ k = none n part pos (row_place (dims_at part pos) v) own_box in
              get_or-set_other others own k now Cell.Empty (λ e. ne (sym e)) ∙ old.rest k none;
        }
          where
            same_number : (x y : ℕ) → (x ≡ y) ⊎ (x ≢ y)
            same_number x y = elim (cases_lt x y) [
              | inl h ↦ inr (λ e. omega (arith, e, h))
              | inr h ↦ elim (cases_lt y x) [ inl o ↦ inr (λ e. omega (arith, e, o)) | inr o ↦ inl (omega arith) ]
            ]
