-- Cells that are laid out by the boxes of a plan, read by its bases.
use Rattle.std.proofs.Common.{◌≡◌, ℕ, ◌+◌, ◌<◌, ◌≤◌, List, [], ◌∷◌, length, cond, true, ◌&&◌, ◌==◌, nat_eq, sym, ap, ◌∙◌, subst, arith, slice_index_or, Contains, All}
use Rattle.std.proofs.lemmas.List.Elements.{All-contains}
use Rattle.sem_query.specs.declared.cell.Cell.{Cell}
use Rattle.sem_query.specs.declared.plan.PartPlan.{PartPlan}
use Rattle.sem_query.specs.Query.{QueryValue}
use Rattle.sem_query.specs.Meaning.{Arrival, by_column}
use Rattle.sem_query.specs.Plan.{stream_at, dims_at}
use Rattle.sem_query.specs.Serving.{KeepsStreams}
use Rattle.sem_query.specs.Admission.{admits}
use Rattle.sem_query.specs.Cells.{content, cell_of, row_place}
use Rattle.sem_query.specs.Combinations.{read_from}
use Rattle.sem_query.specs.Merge.{merged}
use Rattle.sem_query.specs.Sharing.{Box, box_at, size_in, same_box, sizes_in, synopsis_in, merge_in}
use Rattle.sem_query.proofs.Has.{Has, first, Has-append_right, Contains-from_has}
use Rattle.sem_laws.specs.Sharing.{Begins, IsCovered, AreBoxesOf, BoxesAreRead, RowsMergeIn, BoxesMeetWhole, BoxesFixCells}
use Rattle.sem_laws.proofs.RowMerge.{merged-if, content-none}
use Rattle.sem_laws.proofs.Inserting.{inserts-row}
use Rattle.sem_laws.proofs.Numbering.{same-lists}
use Rattle.sem_laws.proofs.SameBoxes.{are-same, same-cells, same-size, same-then, same-turned, sizes-cons}
use Rattle.sem_laws.proofs.SharedCells.{sizes-append, Lies, meet, into-size, into-at, spread-lies}

module _ (q : QueryValue) (plan : List PartPlan) (plans : All (KeepsStreams q) plan) (list : List Box) (of : AreBoxesOf q plan list) where
  plan_of : (part : PartPlan) → Contains plan part → KeepsStreams q part
  plan_of part c = All-contains (KeepsStreams q) plan part plans c

  module _ (part : PartPlan) (known : Contains plan part) (place : ℕ) (there : place < length part.streams.items) where
    begins : Begins q list (box_at part place) (stream_at part place).base
    begins = of.each part known place there

    has_same : Has list begins.same
    has_same = subst (λ (l : List Box). Has l begins.same) (sym begins.whole) (Has-append_right begins.before first)

    same_alone : Contains plan begins.same.part × (begins.same.place < length begins.same.part.streams.items)
    same_alone = of.alone begins.same (Contains-from_has list begins.same has_same)

    same_size : size_in begins.same ≡ (stream_at part place).size
    same_size =
        let p = plan_of part known in
        let r = plan_of begins.same.part same_alone.0 in
        same-size q begins.same (box_at part place) begins.is r p
        (let c = r.count in let l = same_alone.1 in omega (arith, c, l)) (let c = p.count in omega (arith, c, there))

    -- where a place of the box lies
    pub lies_at : (i : ℕ) → i < (stream_at part place).size → Lies list ((stream_at part place).base + i)
    lies_at i inside = record {
      before = begins.before;
      box = begins.same;
      after = begins.after;
      i = i;
      whole = begins.whole;
      inside = (let s = same_size in omega (arith, s, inside));
      there = (let t = begins.there in omega (arith, t));
    }

    pub within : (stream_at part place).base + (stream_at part place).size ≤ sizes_in list
    within =
        let a = ap sizes_in begins.whole in
        let s = sizes-append begins.before (begins.same ∷ begins.after) in
        let c = sizes-cons begins.same begins.after in
        let t = begins.there in
        let z = same_size in omega (arith, a, s, c, t, z)

  pub read-at : (h : List Arrival) (part : PartPlan) (known : Contains plan part) (place : ℕ) → place < length part.streams.items
      → (i : ℕ) → i < (stream_at part place).size
      → read_from (synopsis_in q list h) part place i ≡ cell_of q h part place i
  unfolding synopsis_in lies_at begins
  read-at h part known place there i inside =
      spread-lies (cell_of q h) list ((stream_at part place).base + i) Cell.Empty (lies_at part known place there i inside)
      ∙ same-cells q (begins part known place there).same (box_at part place) (begins part known place there).is h i

  kind-at : (part : PartPlan) (known : Contains plan part) (place : ℕ) (there : place < length part.streams.items)
      → (stream_at (begins part known place there).same.part (begins part known place there).same.place).kind ≡ (stream_at part place).kind
  kind-at part known place there = (are-same q (begins part known place there).same (box_at part place) (begins part known place there).is).kind

  -- merging one row into any cells
  module _ (cells : List Cell) (whole : length cells ≡ sizes_in list) (r : Arrival) where
    pub row-at : (part : PartPlan) (known : Contains plan part) (place i : ℕ) → place < length part.streams.items → i < (stream_at part place).size
        → read_from (merge_in list cells (synopsis_in q list (r ∷ []))) part place i
        ≡ cond ((r.stream == slice_index_or q.from place 0) && (admits q part place (by_column r.values) && nat_eq (row_place (dims_at part place) (by_column r.values)) i))
        (merged (stream_at part place).kind (read_from cells part place i) (content (stream_at part place).kind (r.values ∷ [])))
        (read_from cells part place i)
    unfolding lies_at begins
    row-at part known place i there inside =
        let b : Box = (begins part known place there).same in
        let n : ℕ = (stream_at part place).base + i in
        into-at q list cells whole (r ∷ []) n (lies_at part known place there i inside)
        ∙ (λ j. merged (kind-at part known place there j) (slice_index_or cells n Cell.Empty) ((same-cells q b (box_at part place) (begins part known place there).is (r ∷ []) i ∙ inserts-row q [] r part place i) j))
        ∙ merged-if (stream_at part place).kind (slice_index_or cells n Cell.Empty) (content (stream_at part place).kind (r.values ∷ [])) (cell_of q [] part place i) _ (content-none (stream_at part place).kind)

  pub met : (part other : PartPlan) (place there i j : ℕ) (known : Contains plan part) (known' : Contains plan other)
      → place < length part.streams.items → there < length other.streams.items → i < (stream_at part place).size → j < (stream_at other there).size
      → (stream_at part place).base + i ≡ (stream_at other there).base + j
      → (same_box q (box_at part place) (box_at other there) ≡ true) × (i ≡ j)
  met part other place there i j known known' l k b c e =
      let x = begins part known place l in
      let y = begins other known' there k in
      let m = meet list x.before x.same x.after y.before y.same y.after i j x.whole y.whole
      (let s = same_size part known place l in omega (arith, s, b)) (let s = same_size other known' there k in omega (arith, s, c))
      (let t = x.there in let u = y.there in omega (arith, t, u, e)) in (
        same-then q (box_at part place) x.same (box_at other there) (same-turned q x.same (box_at part place) x.is)
            (subst (λ (z : Box). same_box q z (box_at other there) ≡ true) (sym m.box) y.is),
        m.place,
      )

pub boxes-are-read : BoxesAreRead
boxes-are-read q plan plans list of h part known place i l b =
    read-at q plan plans list of h part known place (let c = (plan_of q plan plans list of part known).count in omega (arith, c, l)) i b

pub rows-merge-in : RowsMergeIn
rows-merge-in q plan plans list of cells whole r = record {
  size = into-size q list cells whole (r ∷ []);
  at = λ part known place i l b. row-at q plan plans list of cells whole r part known place i l b;
}

pub boxes-meet-whole : BoxesMeetWhole
boxes-meet-whole q plan plans list of = (
  λ part known place l. within q plan plans list of part known place l,
  λ part other place there i j known known' l k b c e. met q plan plans list of part other place there i j known known' l k b c e,
)

pub boxes-fix-cells : BoxesFixCells
boxes-fix-cells q plan plans list of cells others a b same = same-lists cells others Cell.Empty (a ∙ sym b) (λ n l.
    let c : IsCovered plan n = of.covers n (omega (arith, a, l)) in
    ap (λ (m : ℕ). slice_index_or cells m Cell.Empty) (sym c.at) ∙ same c.part c.known c.place c.i c.there c.inside
    ∙ ap (λ (m : ℕ). slice_index_or others m Cell.Empty) c.at)
