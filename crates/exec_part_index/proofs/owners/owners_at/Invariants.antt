use Rattle.std.proofs.Common.{◌≡◌, ℕ, Bool, take, length, slice_get, Some}
use Rattle.sem_query.specs.declared.plan.PartPlan.{PartPlan}
use Rattle.exec_part_index.specs.Owners.{takes_rows}
use Rattle.exec_part_index.proofs.Owning.{IsNextBase}
use Rattle.exec_part_index.proofs.owners.owners_at.Given as goal

abbrev pub invariant-parts : goal.invariant-parts
invariant-parts l = record {
  many : length l.owns.items ≡ l.i;
  each : (k : ℕ) (b : Bool) → slice_get l.owns.items k ≡ Some b → (part : PartPlan) → slice_get l.parts k ≡ Some part → b ≡ takes_rows l.q l.parts l.place k part;
  next : IsNextBase (take l.i l.parts) l.place l.next;
}
