-- A walk behind a look along the cells where it begins.
use Rattle.std.proofs.Common.{◌≡◌, ◌≢◌, ℕ, zero, suc, ◌+◌, ◌*◌, ◌<◌, ◌≤◌, List, [], ◌∷◌, length, false, refl, sym, ap, ◌∙◌, subst, arith, ℤ}
use Rattle.std.specs.Prelude.{None}
use Rattle.sem_query.specs.Boxes.{box, box_size, values_at}
use Rattle.sem_query.proofs.BoxLaws.{length-box, at-box, values-inside}
use Rattle.sem_query.specs.declared.cell.Cell.{Cell}
use Rattle.sem_query.specs.declared.cell.Cell.TheVariants.{Empty}
use Rattle.sem_query.specs.declared.part.Pair.{Pair}
use Rattle.sem_query.specs.declared.plan.PartPlan.{PartPlan}
use Rattle.sem_query.specs.Combinations.{Reading, read_from}
use Rattle.sem_query.specs.Meaning.{by_column}
use Rattle.sem_query.specs.Parts.{pairs}
use Rattle.sem_query.specs.Plan.{stream_at}
use Rattle.sem_query.specs.Probing.{found_beside}
use Rattle.sem_query.specs.Query.{QueryValue}
use Rattle.exec_ranges.specs.Narrowed.{narrowed_dims}
use Rattle.exec_ranges.specs.Values.{rows_in}
use Rattle.exec_ranges.proofs.DimLaws.{inside-narrowed}
use Rattle.exec_ranges.specs.declared.binding.Binding.{Binding}
use Rattle.exec_pool.specs.Strides.{Scanned}
use Rattle.exec_join.proofs.BesideLaws.{none-at}
use Rattle.exec_join.proofs.BreakLaws.{breaks, breaks-inequality}
use Rattle.exec_join.proofs.CostLaws.{cost-skip, cost-enter}
use Rattle.exec_join.proofs.ExactLaws.{walk-is}
use Rattle.exec_join.proofs.ModelLaws.{combinations-are}
use Rattle.exec_join.proofs.NothingLaws.{walk-own}
use Rattle.exec_join.proofs.StepLaws.{few-candidates, read-beside, light-cell}
use Rattle.exec_join.proofs.UnderwayLaws.{own-dims}
use Rattle.exec_join.specs.Along.{tried_cell, tried_count, SeenAlong, IsCandidate}
use Rattle.exec_join.specs.declared.along.Along.{Along}
use Rattle.exec_join.specs.declared.along.Along.TheVariants as along
use Rattle.exec_join.specs.Choosing.{Setting, setting, start, cell_at}
use Rattle.exec_join.specs.Costs.{cost_left, reads, tried_size, walk_reads}
use Rattle.exec_join.specs.Remaining.{limit}
use Rattle.exec_join.specs.Walk.{walk, opened, entered}
use Rattle.exec_synopsis.proofs.PlanLaws.{named}
use Rattle.exec_synopsis.specs.Premises.{IsWalked, IsLaidOut, AreFitting}

-- no candidate has a cell that holds anything
none-tried : (w : Setting) (more : ℕ) (known : List Binding) → ((i : ℕ) → i < box_size (narrowed_dims w.pairs w.part w.arriving w.row known) → cell_at w (length known) (values_at (narrowed_dims w.pairs w.part w.arriving w.row known) i) ≡ Empty) → walk w (suc more) known ≡ []
unfolding walk
none-tried w more known empty =
    let D = narrowed_dims w.pairs w.part w.arriving w.row known in
    none-at (opened w known (walk w more)) [] (box D) (λ i l.
    let b : i < box_size D = omega (arith, l, length-box D) in
    (λ k. opened w known (walk w more) (at-box D i b k)) ∙ ap (entered (values_at D i) known (walk w more)) (empty i b))

walk-none : (w : Setting) (streams : ℕ) → length (start w.arriving) < streams
    → ((i : ℕ) → i < tried_count w.pairs w.part w.arriving w.row (start w.arriving) → cell_at w (length (start w.arriving)) (values_at (narrowed_dims w.pairs w.part w.arriving w.row (start w.arriving)) i) ≡ Empty) → walk w streams [] ≡ []
walk-none w streams l empty = by w.arriving refl streams l empty
  where
    by : (a : ℕ) → w.arriving ≡ a → (n : ℕ) → length (start a) < n
        → ((i : ℕ) → i < tried_count w.pairs w.part w.arriving w.row (start a) → cell_at w (length (start a)) (values_at (narrowed_dims w.pairs w.part w.arriving w.row (start a)) i) ≡ Empty) → walk w n [] ≡ []
    by a e zero m h = absurd (omega (arith, m))
    by zero e (suc zero) m h = absurd (omega (arith, m))
    by zero e (suc (suc n)) m h = walk-own w (suc n) [] (sym e) (none-tried w n (start zero) h)
    by (suc a) e (suc n) m h = none-tried w n [] h

-- all cells where a walk begins are empty
pub nothing-along : (q : QueryValue) (part : PartPlan) (arriving : ℕ) (row : List ℤ) (read : Reading) → IsWalked q part → arriving < length part.streams.items → (before after : ℕ)
    → (length (start arriving) < length part.streams.items) × Scanned (tried_cell (pairs q) part read arriving row (start arriving)) 0 (tried_count (pairs q) part arriving row (start arriving)) before None after
    → found_beside q part read arriving (by_column row) ≡ []
nothing-along q part arriving row read walked here before after seen =
    let w = setting (pairs q) q.select part arriving row read in
    let n = named q part walked in
    sym (walk-is w (breaks w n) (breaks-inequality w n) ∙ combinations-are q part arriving row read here)
    ∙ walk-none w (length part.streams.items) seen.0 (λ i l. seen.1.0 i (omega arith) l)

-- a level costs a read for each candidate
level-few : (part : PartPlan) (arriving : ℕ) (ns : List ℕ) → length ns < length part.streams.items → length ns ≢ arriving → tried_size part arriving (length ns) ≤ cost_left (reads part arriving) (length part.streams.items) ns 0 false
level-few part arriving ns l other =
    let size = tried_size part arriving (length ns) in
    let h = cost-skip (reads part arriving) (length part.streams.items) ns size 0 l (omega arith) in
    let one = ap (λ n. size * n) (read-beside arriving (length ns) other) in
    omega (arith, h, one)

-- and so does a walk for each candidate where it begins
tried-walk : (part : PartPlan) (arriving : ℕ) → length (start arriving) < length part.streams.items → tried_size part arriving (length (start arriving)) ≤ walk_reads part arriving
unfolding walk_reads
tried-walk part zero l =
    let own = ap box_size (own-dims [] part zero [] [] refl) in
    let few = few-candidates [] part zero [] [] in
    let enter = cost-enter (reads part zero) (length part.streams.items) [] 0 (omega (arith, l)) (omega (arith, own, few)) in
    let level = level-few part zero (1 ∷ []) (omega (arith, l)) (λ e. absurd (omega (arith, e))) in
    omega (arith, enter, level)
tried-walk part (suc a) l = level-few part (suc a) [] (omega (arith, l)) (λ e. absurd (omega (arith, e)))

pub nothing-reads : (ps : List Pair) (part : PartPlan) (arriving : ℕ) (row : List ℤ) (read : Reading) (before after : ℕ)
    → (length (start arriving) < length part.streams.items) × Scanned (tried_cell ps part read arriving row (start arriving)) 0 (tried_count ps part arriving row (start arriving)) before None after
    → after ≤ before + walk_reads part arriving
nothing-reads ps part arriving row read before after seen =
    let few = few-candidates ps part arriving row (start arriving) in
    let walk = tried-walk part arriving seen.0 in
    let r = seen.1.1 in
    omega (arith, few, walk, r)

-- the same of what was seen by columns and pairs that are these
pub seen-same : (ps qs : List Pair) (part : PartPlan) (read : Reading) (arriving : ℕ) (row xs : List ℤ) (known : List Binding) (before : ℕ) (seen : Along) (after : ℕ) → qs ≡ ps → xs ≡ row → known ≡ start arriving
    → SeenAlong qs part read arriving xs known before seen after → SeenAlong ps part read arriving row (start arriving) before seen after
seen-same ps qs part read arriving row xs known before seen after e f g h =
    subst (λ (ks : List Binding). SeenAlong ps part read arriving row ks before seen after) g
    (subst (λ (vs : List ℤ). SeenAlong ps part read arriving vs known before seen after) f
    (subst (λ (zs : List Pair). SeenAlong zs part read arriving xs known before seen after) e h))

-- where nothing was found along these cells nothing is answered
pub nothing-seen : (q : QueryValue) (part : PartPlan) (arriving : ℕ) (row : List ℤ) (read : Reading) → IsWalked q part → arriving < length part.streams.items → (before after : ℕ) (seen : Along)
    → SeenAlong (pairs q) part read arriving row (start arriving) before seen after → seen ≡ along.Nothing → found_beside q part read arriving (by_column row) ≡ []
nothing-seen q part arriving row read walked here before after seen s e =
    nothing-along q part arriving row read walked here before after (subst (λ (t : Along). SeenAlong (pairs q) part read arriving row (start arriving) before t after) e s)

-- and no more was read than by a walk
pub nothing-few : (ps : List Pair) (part : PartPlan) (arriving : ℕ) (row : List ℤ) (read : Reading) (before after : ℕ) (seen : Along)
    → SeenAlong ps part read arriving row (start arriving) before seen after → seen ≡ along.Nothing → after ≤ before + walk_reads part arriving
nothing-few ps part arriving row read before after seen s e =
    nothing-reads ps part arriving row read before after (subst (λ (t : Along). SeenAlong ps part read arriving row (start arriving) before t after) e s)

-- what was found is a cell of its place
pub found-candidate : (q : QueryValue) (part : PartPlan) (arriving : ℕ) (row : List ℤ) (contents : List Cell) → IsWalked q part → arriving < length part.streams.items → AreFitting part (read_from contents)
    → (cells : ℕ) → (length (start arriving) < length part.streams.items → length (start arriving) ≢ arriving → IsLaidOut (stream_at part (length (start arriving))) cells)
    → (before after : ℕ) (seen : Along) → SeenAlong (pairs q) part (read_from contents) arriving row (start arriving) before seen after → IsCandidate (pairs q) part arriving row (start arriving) seen
found-candidate q part arriving row contents walked here fitting cells laid before after Along.Unasked s = tt
found-candidate q part arriving row contents walked here fitting cells laid before after Along.Nothing s = tt
found-candidate q part arriving row contents walked here fitting cells laid before after (Along.Found filled) s =
    let there = s.0 in
    let first = s.1.0 in
    let D = narrowed_dims (pairs q) part arriving row (start arriving) in
    let inside = inside-narrowed (pairs q) part arriving row cells (start arriving) (laid there) (values_at D filled.next) (values-inside D filled.next first.below) in
    let w = light-cell part arriving (read_from contents) (length (start arriving)) (values_at D filled.next) fitting there cells (laid there) inside in
    (there, first.below, subst (λ x. rows_in x ≤ limit arriving (length (start arriving))) first.cell w)
