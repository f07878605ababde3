-- Saturated cells: what a row that leaves one as it is is answered, and that they stay saturated.
use Rattle.std.proofs.Common.{◌≡◌, ℕ, ◌+◌, ◌<◌, ◌⊎◌, inl, inr, List, [], map, filter, length, cond, Bool, true, false, ◌==◌, nat_eq, refl, sym, ap, ◌∙◌, subst, arith, ℤ, slice_index_or}
use Rattle.std.specs.List.{flat_map}
use Rattle.std.proofs.lemmas.List.Elements.{All-contains}
use Rattle.sem_query.specs.declared.cell.Cell.{Cell}
use Rattle.sem_query.specs.declared.plan.Kind.{Kind}
use Rattle.sem_query.specs.declared.plan.PartPlan.{PartPlan}
use Rattle.sem_query.specs.Query.{QueryValue}
use Rattle.sem_query.specs.Meaning.{Arrival, product, by_column}
use Rattle.sem_query.specs.Boxes.{box, box_size, place_of}
use Rattle.sem_query.specs.Plan.{stream_at, dims_at}
use Rattle.sem_query.specs.Admission.{admits}
use Rattle.sem_query.specs.Cells.{upto, FitsKind}
use Rattle.sem_query.specs.Combinations.{Choice, choice, choice_of, cell_choice, chosen_values, linked, Reading, Found, found, found_in}
use Rattle.sem_query.specs.Numbers.{places}
use Rattle.sem_query.specs.Probing.{choices_beside, found_beside}
use Rattle.sem_query.specs.Future.{spelled_out}
use Rattle.sem_query.proofs.Has.{Has, first, Has-from_contains, Contains-from_has, Has-map_from, Has-filter_from}
use Rattle.sem_laws.specs.Closed.{IsDistinctPlan, IsSaturated, own_place, with_own, AreOfKinds, CellsStayOrTurn, SaturatedCellsAnswerNothingNew}
use Rattle.sem_laws.proofs.Tests.{true_or_false, filter-passes}
use Rattle.sem_laws.proofs.OnePartFits.{has_cases}
use Rattle.sem_laws.proofs.Weights.{View}
use Rattle.sem_laws.proofs.Extremes.{Partnered, flat_map-from, has-flat_map, upto-below}
use Rattle.sem_laws.proofs.ServedCells.{StandsIn, stands_itself, up}
use Rattle.sem_laws.proofs.ByPlace.{walks-find-all}
use Rattle.sem_query.specs.Serving.{Serves}
use Rattle.sem_laws.proofs.ByValues.{choices-go-by-values}
use Rattle.sem_laws.proofs.Crossing.{Tells, spelled-tells, tells-spelled, all-present, crossed, tells-crossed}
use Rattle.sem_laws.proofs.OwnCells.{CountsNone, stays-or-turns, OfRows, of-rows}

module _ (q : QueryValue) (plan : List PartPlan) (is : IsDistinctPlan q plan) (part : PartPlan) (known : Has plan part) where
  pub part-serves : Serves q part
  part-serves = All-contains (Serves q) plan part is.serving.serves (Contains-from_has plan part known)

  -- with DISTINCT no cell counts
  pub counts-none : (place : ℕ) → place < length q.from → CountsNone (stream_at part place).kind
  counts-none place l e = absurd (let t : true ≡ false = sym is.distinct ∙ (part-serves.keeps.kind place l).0 e in cc)

  -- a row, or the choice of a cell, stands in for itself
  pub itself : (place : ℕ) (v : View) → StandsIn q part place v v
  itself place v = stands_itself q part place v v (λ a e w. refl)

  -- the choices of the lists of a walk for a row at a place of FROM
  abbrev pub lists : Reading → ℕ → View → ℕ → List Choice
  lists read arriving v = choices_beside q part read arriving v

  -- at its own place of FROM a walk has the row alone, and at any other one the cells
  pub own-choices : (read : Reading) (arriving : ℕ) (v : View) → lists read arriving v arriving ≡ choice v 1
  own-choices read arriving v =
      let e : (arriving == arriving) ≡ true = grind arith in
      ap (λ b. cond b (choice v 1) (flat_map (λ xs. choice_of q part arriving xs (read part arriving (place_of (dims_at part arriving) xs))) (box (dims_at part arriving)))) e

  abbrev pub cells : Reading → ℕ → List Choice
  cells read place = flat_map (λ i. cell_choice q part place i (read part place i)) (upto (λ i. i) (stream_at part place).size)

  -- where there is another place, a place has a cell for each combination of values
  pub whole : (place other : ℕ) → place < length q.from → other < length q.from → (other ≡ place → ⊥) → (stream_at part other).size ≡ box_size (dims_at part other)
  whole place other l m n =
      let long : nat_eq (length q.from) 1 ≡ false = grind (arith, l, m, n) in
      part-serves.keeps.size other m ∙ ap (λ b. cond b 0 (box_size (dims_at part other))) long

  pub cell-choices : (read : Reading) (arriving : ℕ) (v : View) (place : ℕ) → arriving < length q.from → place < length q.from → (place ≡ arriving → ⊥)
      → lists read arriving v place ≡ cells read place
  cell-choices read arriving v place l m n =
      let e : (place == arriving) ≡ false = grind (arith, n) in
      let size = whole arriving place l m n in
      let nobody : Arrival = record { stream = 0; values = [] } in
      ap (λ b. cond b (choice v 1) (flat_map (λ xs. choice_of q part place xs (read part place (place_of (dims_at part place) xs))) (box (dims_at part place)))) e
      ∙ sym (choices-go-by-values q part read nobody place 1 refl size)

  -- how many places there are
  pub ends : 0 + length part.streams.items ≡ length q.from
  ends = let c = part-serves.keeps.count in omega (arith, c)

  -- a choice of an own row
  one-choice : (v : View) (n : ℕ) (c : Choice) → Has (choice v n) c → record { values = v; times = n } ≡ c
  one-choice v n c h = elim (has_cases _ c [] h) [ inl e ↦ e | inr k ↦ elim k [ ] ]

  -- what a walk finds for a row, a walk finds for values that stand in for it, at the same place over the same cells
  pub tells-instead : (read other : Reading) (arriving : ℕ) (v w : View) → arriving < length q.from → StandsIn q part arriving v w
      → ((place i : ℕ) → place < length q.from → (place ≡ arriving → ⊥) → i < (stream_at part place).size → read part place i ≡ other part place i)
      → (t : List ℤ) → Tells q part (map (lists read arriving v) (places part)) t → Tells q part (map (lists other arriving w) (places part)) t
  tells-instead read other arriving v w l s same t told =
      tells-crossed q part part-serves (map (lists read arriving v) (places part)) (map (lists other arriving w) (places part)) t told
      (crossed (StandsIn q part) (length q.from) 0 (length part.streams.items) ends (lists read arriving v) (lists other arriving w) (λ m low high. at m high (true_or_false (nat_eq m arriving))) told.chosen told.among told.present)
    where
      at : (m : ℕ) → m < length q.from → (nat_eq m arriving ≡ true) ⊎ (nat_eq m arriving ≡ false) → Partnered (StandsIn q part) m (lists read arriving v m) (lists other arriving w m)
      at m high (inl e) =
          let here : arriving ≡ m = grind (arith, e) in
          subst (λ m. Partnered (StandsIn q part) m (lists read arriving v m) (lists other arriving w m)) here (λ c k p.
          let o : record { values = v; times = 1 } ≡ c = one-choice v 1 c (subst (λ cs. Has cs c) (own-choices read arriving v) k) in (
            record { values = w; times = 1 },
            subst (λ cs. Has cs record { values = w; times = 1 }) (sym (own-choices other arriving w)) first,
            omega arith,
            subst (λ (c : Choice). StandsIn q part arriving c.values w) o s,
          ))
      at m high (inr e) = λ c k p.
          let n : m ≡ arriving → ⊥ = λ h. absurd (grind (arith, e, h)) in
          let u : Has (cells read m) c = subst (λ cs. Has cs c) (cell-choices read arriving v m l high n) k in
          let i = flat_map-from (λ i. cell_choice q part m i (read part m i)) (upto (λ i. i) (stream_at part m).size) c u in
          let b : i.0 < (stream_at part m).size = upto-below (stream_at part m).size i.0 i.1 in
          let x : Has (cells other m) c
          = has-flat_map (λ i. cell_choice q part m i (other part m i)) (upto (λ i. i) (stream_at part m).size) i.0 c i.1 (subst (λ (d : Cell). Has (cell_choice q part m i.0 d) c) (same m i.0 high n b) i.2) in
          (c, subst (λ cs. Has cs c) (sym (cell-choices other arriving w m l high n)) x, p, itself m c.values)

pub cells-stay-or-turn : CellsStayOrTurn
cells-stay-or-turn q plan is part known read place row l =
    stays-or-turns (stream_at part place).kind (counts-none q plan is part (Has-from_contains plan part known) place l) (read part place (own_place part place row)) row

-- with DISTINCT the choice of a cell of its kind stands for rows
one-present : (q : QueryValue) (part : PartPlan) (place : ℕ) (xs : List ℤ) (k : Kind) → CountsNone k → (c : Cell) → FitsKind k c → (d : Choice) → Has (choice_of q part place xs c) d
    → 0 < d.times
one-present q part place xs k n Cell.Empty f d h = elim h [ ]
one-present q part place xs k n (Cell.Count m) f d h = absurd (no k n f)
  where
    no : (k : Kind) → CountsNone k → FitsKind k (Cell.Count m) → ⊥
    no Kind.Count n f = n refl
    no Kind.Present n f = f
    no (Kind.Least a) n f = f
    no (Kind.Greatest a) n f = f
one-present q part place xs k n Cell.Present f d h = elim (has_cases _ d [] h) [ inl e ↦ subst (λ (c : Choice). 0 < c.times) e (omega arith) | inr o ↦ elim o [ ] ]
one-present q part place xs k n (Cell.Extreme z) f d h = elim (has_cases _ d [] h) [ inl e ↦ subst (λ (c : Choice). 0 < c.times) e (omega arith) | inr o ↦ elim o [ ] ]

module _ (q : QueryValue) (plan : List PartPlan) (is : IsDistinctPlan q plan) (part : PartPlan) (known : Has plan part) where
  -- what a walk finds, spelled out
  pub found-tells : (read : Reading) (arriving : ℕ) (v : View) (t : List ℤ) → Has (spelled_out (found_beside q part read arriving v)) t
      → Tells q part (map (choices_beside q part read arriving v) (places part)) t
  unfolding found_beside
  found-tells read arriving v t h = spelled-tells q part (map (choices_beside q part read arriving v) (places part)) t h

  pub tells-found : (read : Reading) (arriving : ℕ) (v : View) (t : List ℤ) → Tells q part (map (choices_beside q part read arriving v) (places part)) t
      → Has (spelled_out (found_beside q part read arriving v)) t
  unfolding found_beside
  tells-found read arriving v t w = tells-spelled q part (map (choices_beside q part read arriving v) (places part)) t w

  -- all that a walk over cells of their kinds finds
  one-tells : (read : Reading) → AreOfKinds part read → (arriving : ℕ) → arriving < length q.from → (v : View) (f : Found) → Has (found_beside q part read arriving v) f
      → Tells q part (map (choices_beside q part read arriving v) (places part)) f.tuple
  unfolding found_beside
  one-tells read kinds arriving l v f h =
      let links : List Choice → Bool = λ chosen. linked part (chosen_values chosen) in
      let combinations : List (List Choice) = product (map (choices_beside q part read arriving v) (places part)) in
      let o = Has-map_from (found q) (filter links combinations) f h in
      let among : Has combinations o.0 = Has-filter_from links combinations o.0 o.1 in
      record {
        chosen = o.0;
        among = among;
        present = all-present (length q.from) 0 (length part.streams.items) (ends q plan is part known) (choices_beside q part read arriving v) each o.0 among;
        links = filter-passes links combinations o.0 o.1;
        tuple = ap (λ (f : Found). f.tuple) o.2;
      }
    where
      each : (m : ℕ) → m < length q.from → (c : Choice) → Has (choices_beside q part read arriving v m) c → 0 < c.times
      each m b c h = by (true_or_false (nat_eq m arriving))
        where
          by : (nat_eq m arriving ≡ true) ⊎ (nat_eq m arriving ≡ false) → 0 < c.times
          by (inl e) =
              let here : m ≡ arriving = grind (arith, e) in
              let k : Has (choice v 1) c
              = subst (λ cs. Has cs c) (own-choices q plan is part known read arriving v) (subst (λ n. Has (choices_beside q part read arriving v n) c) here h) in
              elim (has_cases _ c [] k) [ inl s ↦ subst (λ (c : Choice). 0 < c.times) s (omega arith) | inr o ↦ elim o [ ] ]
          by (inr e) =
              let n : m ≡ arriving → ⊥ = λ s. absurd (grind (arith, e, s)) in
              let k = subst (λ cs. Has cs c) (cell-choices q plan is part known read arriving v m l b n) h in
              let i = flat_map-from (λ i. cell_choice q part m i (read part m i)) (upto (λ i. i) (stream_at part m).size) c k in
              let c' = (part-serves q plan is part known).keeps.count in
              one-present q part m _ (stream_at part m).kind (counts-none q plan is part known m b) (read part m i.0)
              (kinds m i.0 (omega (arith, b, c')) (upto-below (stream_at part m).size i.0 i.1)) c i.2

  -- what a part answers to a row that it admits, a walk finds, and to any other nothing
  pub found-beside : (read : Reading) (r : Arrival) (place : ℕ) → place < length q.from → slice_index_or q.from place 0 ≡ r.stream
      → found_in q part read r ≡ cond (admits q part place (by_column r.values)) (found_beside q part read place (by_column r.values)) []
  found-beside read r place l s = walks-find-all q part is.limits (part-serves q plan is part known).keeps read r place l s

  module _ (read : Reading) (kinds : AreOfKinds part read) (table : List (List ℤ)) (r : Arrival) (place : ℕ) (l : place < length q.from)
      (stream : slice_index_or q.from place 0 ≡ r.stream) (there : own_place part place r.values < (stream_at part place).size)
      (stays : with_own part read place r.values ≡ read part place (own_place part place r.values))
      (saturated : IsSaturated q part read table place (own_place part place r.values)) where
    beside-old : (f : Found) → admits q part place (by_column r.values) ≡ true → Has (found_beside q part read place (by_column r.values)) f → Has table f.tuple
    beside-old f admitted h =
        let k : Kind = (stream_at part place).kind in
        let i : ℕ = own_place part place r.values in
        let c = (part-serves q plan is part known).keeps.count in
        let rows : OfRows k (read part place i) r.values
        = of-rows k (counts-none q plan is part known place l) (read part place i) r.values (kinds place i (omega (arith, l, c)) there) stays in
        let d = up q part (part-serves q plan is part known) place l k refl rows.rows r.values rows.among admitted in
        let chosen : Has (cell_choice q part place i (read part place i)) d.0 = subst (λ (c : Cell). Has (cell_choice q part place i c) d.0) rows.is d.1 in
        let w = one-tells read kinds place l (by_column r.values) f h in
        let u = tells-instead q plan is part known read read place (by_column r.values) d.0.values l d.3 (λ place i a n b. refl) f.tuple w in
        Has-from_contains table f.tuple (saturated d.0 (Contains-from_has _ d.0 chosen) d.2 f.tuple (Contains-from_has _ f.tuple (tells-found read place d.0.values f.tuple u)))

    pub nothing-new : (f : Found) → Has (found_in q part read r) f → Has table f.tuple
    nothing-new f h = by (admits q part place (by_column r.values)) refl (subst (λ fs. Has fs f) (found-beside read r place l stream) h)
      where
        by : (b : Bool) → admits q part place (by_column r.values) ≡ b → Has (cond b (found_beside q part read place (by_column r.values)) []) f → Has table f.tuple
        by true e k = beside-old f e k
        by false e k = elim k [ ]

pub saturated-cells-answer-nothing-new : SaturatedCellsAnswerNothingNew
saturated-cells-answer-nothing-new q plan is part known read kinds table r place l stream there stays saturated f k =
    Contains-from_has table f.tuple (nothing-new q plan is part (Has-from_contains plan part known) read kinds table r place l stream there stays saturated f (Has-from_contains (found_in q part read r) f k))
