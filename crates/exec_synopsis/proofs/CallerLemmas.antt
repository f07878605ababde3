-- What callers use: the premise on a part, and that cells stay of their kinds.
use Rattle.std.proofs.Common.{ℕ, length, ◌<◌, ◌^◌, List, [], ◌∷◌, ℤ, All, Contains, arith}
use Rattle.std.proofs.lemmas.List.Elements.{All-contains}
use Rattle.sem_query.specs.declared.cell.Cell.{Cell}
use Rattle.sem_query.specs.declared.cell.Cell.TheVariants.{Empty, Count, Present, Extreme}
use Rattle.sem_query.specs.declared.plan.Kind.{Kind}
use Rattle.sem_query.specs.declared.plan.PartPlan.{PartPlan}
use Rattle.sem_query.specs.Query.{QueryValue}
use Rattle.sem_query.specs.Serving.{KeepsStreams, Serves}
use Rattle.sem_query.specs.Cells.{content, FitsKind}
use Rattle.sem_query.specs.Merge.{merged}
use Rattle.sem_laws.specs.Probing.{AreWithin}
use Rattle.sem_laws.proofs.Walking.{serving-keep, plans-are-walkable}
use Rattle.exec_synopsis.specs.Premises.{AreKeeping, IsWalked, HasRoom}

-- parts that serve keep the streams, and their links are between columns that a row may have
pub serving-keeping : (q : QueryValue) (plan : List PartPlan) → All (Serves q) plan → AreKeeping q plan
serving-keeping q plan serves = record {
  plans = serving-keep q plan serves;
  links = λ part k. (All-contains (Serves q) plan part serves k).links;
}

-- each of these parts can be walked, within the cells that its boxes lie in
pub walked : (q : QueryValue) (plan : List PartPlan) → AreKeeping q plan → (cells : ℕ) → AreWithin (length q.from) cells plan → cells < 2 ^ 32
    → (part : PartPlan) → Contains plan part → IsWalked q part
walked q plan are cells inside few part k =
    let law = plans-are-walkable q plan are.plans cells inside part k in
    record {
      cells = cells;
      few = few;
      plan = All-contains (KeepsStreams q) plan part are.plans k;
      links = are.links part k;
      places = law.0;
      tried = law.1;
    }

-- a cell stays of its kind when a row is taken into it
pub fits-merged : (kind : Kind) (cell : Cell) (row : List ℤ) → FitsKind kind cell → HasRoom cell → FitsKind kind (merged kind cell (content kind (row ∷ [])))
fits-merged Kind.Count Empty row h r = (omega arith, omega arith)
fits-merged Kind.Present Empty row h r = tt
fits-merged (Kind.Least a) Empty row h r = tt
fits-merged (Kind.Greatest a) Empty row h r = tt
fits-merged Kind.Count (Count n) row h r = (omega arith, omega (arith, r))
fits-merged Kind.Present (Count n) row h r = absurd h
fits-merged (Kind.Least a) (Count n) row h r = absurd h
fits-merged (Kind.Greatest a) (Count n) row h r = absurd h
fits-merged Kind.Count Present row h r = absurd h
fits-merged Kind.Present Present row h r = tt
fits-merged (Kind.Least a) Present row h r = absurd h
fits-merged (Kind.Greatest a) Present row h r = absurd h
fits-merged Kind.Count (Extreme z) row h r = absurd h
fits-merged Kind.Present (Extreme z) row h r = absurd h
fits-merged (Kind.Least a) (Extreme z) row h r = tt
fits-merged (Kind.Greatest a) (Extreme z) row h r = tt
