-- A walk of which the first cell is empty finds nothing.
use Rattle.std.proofs.Common.{◌≡◌, ◌≢◌, ℕ, zero, suc, ◌+◌, ◌*◌, ◌<◌, ◌≤◌, List, [], ◌∷◌, ◌++◌, length, map, refl, sym, ap, ◌∙◌, subst, arith, ℤ, if◌then◌else◌, ◌==◌, Bool, true, false}
use Rattle.std.proofs.lemmas.Bool.Decides.{nat_tests}
use Rattle.std.specs.List.{flat_map}
use Rattle.std.specs.Prelude.{slice_index_or}
use Rattle.sem_query.specs.Boxes.{dim_size, box_size, box, values_from, place_of, AreInside}
use Rattle.sem_query.proofs.BoxLaws.{place-below}
use Rattle.sem_query.specs.declared.cell.Cell.{Cell}
use Rattle.sem_query.specs.declared.cell.Cell.TheVariants.{Empty, Present}
use Rattle.sem_query.specs.declared.plan.Dim.{Dim}
use Rattle.sem_query.specs.declared.plan.PartPlan.{PartPlan}
use Rattle.sem_query.specs.Combinations.{Reading, read_from}
use Rattle.sem_query.specs.Meaning.{by_column}
use Rattle.sem_query.specs.Parts.{pairs}
use Rattle.sem_query.specs.Plan.{stream_at, dims_at}
use Rattle.sem_query.specs.Probing.{found_beside}
use Rattle.sem_query.specs.Query.{QueryValue}
use Rattle.sem_query.specs.declared.atom.Attr.{Attr}
use Rattle.sem_query.specs.declared.part.Pair.{Pair}
use Rattle.exec_ranges.specs.declared.binding.Binding.{Binding}
use Rattle.exec_join.specs.Choosing.{Setting, setting, start, chosen, cell_at, cell_in}
use Rattle.exec_ranges.specs.Lined.{AreFixed}
use Rattle.exec_synopsis.specs.Premises.{IsWalked, IsLaidOut}
use Rattle.exec_join.specs.Walk.{walk, opened, entered, candidates}
use Rattle.exec_ranges.specs.Narrowed.{narrowed_dims}
use Rattle.exec_join.proofs.BreakLaws.{breaks, breaks-inequality}
use Rattle.exec_join.proofs.ExactLaws.{walk-is}
use Rattle.exec_join.proofs.ModelLaws.{combinations-are}
use Rattle.exec_synopsis.proofs.PlanLaws.{named, laid-beside}
use Rattle.exec_join.proofs.StepLaws.{own-cell}
use Rattle.exec_ranges.proofs.DimLaws.{low-narrowed}
use Rattle.exec_join.proofs.UnderwayLaws.{own-dims}

-- dims of one value each have one combination
pub both-one : (a b : ℕ) → a * b ≡ 1 → (a ≡ 1) × (b ≡ 1)
both-one zero b e = absurd (omega (arith, e))
both-one (suc zero) b e = (refl, omega (arith, e))
both-one (suc (suc a)) zero e = absurd (omega (arith, e))
both-one (suc (suc a)) (suc b) e = absurd (omega (arith, e))

pub box-one : (ds : List Dim) → box_size ds ≡ 1 → box ds ≡ map (λ d. d.lo) ds ∷ []
box-one [] e = refl
box-one (d ∷ ds) e =
    let b = both-one (dim_size d) (box_size ds) e in
    (λ k. flat_map (λ x. map (λ xs. x ∷ xs) (box-one ds b.1 k)) (values_from d.lo (b.0 k)))

-- the one candidate has an empty cell
pub walk-empty : (w : Setting) (more : ℕ) (known : List Binding) (fixed : List Dim) → fixed ≡ narrowed_dims w.pairs w.part w.arriving w.row known → box_size fixed ≡ 1
    → cell_at w (length known) (map (λ d. d.lo) fixed) ≡ Empty → walk w (suc more) known ≡ []
unfolding walk
walk-empty w more known fixed are one empty =
    let all : candidates w known ≡ map (λ d. d.lo) fixed ∷ [] = ap box (sym are) ∙ box-one fixed one in
    ap (flat_map (opened w known (walk w more))) all ∙ ap (λ c. entered (map (λ d. d.lo) fixed) known (walk w more) c ++ []) empty

-- the arriving row's own level
pub walk-own : (w : Setting) (more : ℕ) (known : List Binding) → length known ≡ w.arriving → walk w more (known ++ chosen [] Present ∷ []) ≡ [] → walk w (suc more) known ≡ []
unfolding walk
walk-own w more known here nothing =
    let all : candidates w known ≡ [] ∷ [] = ap box (own-dims w.pairs w.part w.arriving w.row known here) in
    ap (flat_map (opened w known (walk w more))) all
    ∙ ap (λ c. entered [] known (walk w more) c ++ []) (own-cell w.part w.read w.arriving (length known) [] here)
    ∙ ap (λ fs. fs ++ []) nothing

pub start-beside : (arriving : ℕ) → length (start arriving) ≢ arriving
start-beside zero e = absurd (omega (arith, e))
start-beside (suc a) e = absurd (omega (arith, e))

walk-nothing : (ps : List Pair) (sel : List Attr) (part : PartPlan) (arriving : ℕ) (row : List ℤ) (read : Reading) (streams : ℕ) → length (start arriving) < streams
    → (fixed : List Dim) → fixed ≡ narrowed_dims ps part arriving row (start arriving) → box_size fixed ≡ 1
    → cell_in part read arriving (length (start arriving)) (map (λ d. d.lo) fixed) ≡ Empty → walk (setting ps sel part arriving row read) streams [] ≡ []
walk-nothing ps sel part arriving row read zero l fixed are one empty = absurd (omega (arith, l))
walk-nothing ps sel part zero row read (suc zero) l fixed are one empty = absurd (omega (arith, l))
walk-nothing ps sel part zero row read (suc (suc m)) l fixed are one empty =
    let w = setting ps sel part zero row read in
    walk-own w (suc m) [] refl (walk-empty w m (start zero) fixed are one empty)
walk-nothing ps sel part (suc a) row read (suc m) l fixed are one empty = walk-empty (setting ps sel part (suc a) row read) m [] fixed are one empty

pub nothing-found : (q : QueryValue) (part : PartPlan) (arriving : ℕ) (row : List ℤ) (read : Reading) → IsWalked q part → arriving < length part.streams.items → length (start arriving) < length part.streams.items
    → (fixed : List Dim) → fixed ≡ narrowed_dims (pairs q) part arriving row (start arriving) → box_size fixed ≡ 1
    → cell_in part read arriving (length (start arriving)) (map (λ d. d.lo) fixed) ≡ Empty → found_beside q part read arriving (by_column row) ≡ []
nothing-found q part arriving row read walked here more fixed are one empty =
    let w = setting (pairs q) q.select part arriving row read in
    sym (walk-is w (breaks w (named q part walked)) (breaks-inequality w (named q part walked)) ∙ combinations-are q part arriving row read here)
    ∙ walk-nothing (pairs q) q.select part arriving row read (length part.streams.items) more fixed are one empty

-- the one cell to which a walk comes first
module _ (q : QueryValue) (part : PartPlan) (walked : IsWalked q part) (arriving : ℕ) (row : List ℤ) (here : arriving < length part.streams.items) (more : length (start arriving) < length part.streams.items) (cells : ℕ) (within : walked.cells ≤ cells) (fixed : List Dim) (first : ℕ) (are : AreFixed part (length (start arriving)) (narrowed_dims (pairs q) part arriving row (start arriving)) fixed first) where
  laid : IsLaidOut (stream_at part (length (start arriving))) cells
  laid = laid-beside q part walked cells within arriving (length (start arriving)) here more (start-beside arriving)

  pub first-within : first < cells
  first-within =
      let some : 0 < box_size (narrowed_dims (pairs q) part arriving row (start arriving)) = let s = ap box_size are.are in omega (arith, s, are.one) in
      let low = low-narrowed (pairs q) part arriving row cells (start arriving) (λ n. laid) (start-beside arriving) some in
      let inside = subst (λ ds. AreInside (dims_at part (length (start arriving))) (map (λ d. d.lo) ds)) (sym are.are) low in
      let b = place-below (dims_at part (length (start arriving))) (map (λ d. d.lo) fixed) inside in
      omega (arith, b, are.cell, laid.size, laid.room)

  pub cell-first : (contents : List Cell) → cell_in part (read_from contents) arriving (length (start arriving)) (map (λ d. d.lo) fixed) ≡ slice_index_or contents first Empty
  unfolding cell_in
  cell-first contents = by (length (start arriving) == arriving) refl ∙ ap (λ n. slice_index_or contents n Empty) are.cell
    where
      by : (t : Bool) → (length (start arriving) == arriving) ≡ t → (if t then Present else read_from contents part (length (start arriving)) (place_of (dims_at part (length (start arriving))) (map (λ d. d.lo) fixed)))
          ≡ slice_index_or contents ((stream_at part (length (start arriving))).base + place_of (dims_at part (length (start arriving))) (map (λ d. d.lo) fixed)) Empty
      by true e = absurd (start-beside arriving (grind (arith, nat_tests)))
      by false e = refl

  pub first-empty : (contents : List Cell) → slice_index_or contents first Empty ≡ Empty → found_beside q part (read_from contents) arriving (by_column row) ≡ []
  first-empty contents e = nothing-found q part arriving row (read_from contents) walked here more fixed are.are are.one (cell-first contents ∙ e)
