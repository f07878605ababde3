-- A part whose cells are ready for a row has them in the extent, and can be walked.
use Rattle.std.proofs.Common.{List, Contains}
use Rattle.std.proofs.lemmas.List.Elements.{All-contains}
use Rattle.sem_query.specs.declared.plan.PartPlan.{PartPlan}
use Rattle.sem_query.specs.Query.{QueryValue}
use Rattle.sem_query.specs.Serving.{KeepsStreams}
use Rattle.sem_laws.proofs.Walking.{plans-are-walkable}
use Rattle.exec_pool.specs.declared.pool.Extent.{Extent}
use Rattle.exec_pool.specs.Extents.{PoolValue, IsLive}
use Rattle.exec_synopsis.specs.Premises.{IsHeld}
use Rattle.exec_query.specs.CellSteps.{AreReady}

-- also while the parts take the row, as long as the extent is live
pub held-part : (q : QueryValue) (plan : List PartPlan) (e : Extent) (before : PoolValue) → AreReady q plan before e → (now : PoolValue) → IsLive now e
    → (part : PartPlan) → Contains plan part → IsHeld q part now e
held-part q plan e before ready now live part k =
    let law = plans-are-walkable q plan ready.plan.plans ready.cells ready.inside part k in
    record {
      live = live;
      walked =
          record {
            cells = ready.cells;
            few = ready.few;
            plan = All-contains (KeepsStreams q) plan part ready.plan.plans k;
            links = ready.plan.links part k;
            places = law.0;
            tried = law.1;
          };
      within = ready.within;
    }
