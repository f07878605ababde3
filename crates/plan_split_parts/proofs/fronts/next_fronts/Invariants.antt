use Rattle.std.proofs.Common.{◌≤◌, ◌+◌, take, length}
use Rattle.std.specs.List.{flat_map}
use Rattle.sem_query.specs.Members.{Has}
use Rattle.plan_split_pairs.specs.Pairs.{unlike_pairs}
use Rattle.plan_split_parts.specs.declared.front.Front.{Front}
use Rattle.plan_split_parts.specs.Sifting.{Sifts}
use Rattle.plan_split_parts.specs.Fronts.{IsFront, IsFrontOf, fronts_of, signs_at, candidates}
use Rattle.plan_split_parts.proofs.fronts.next_fronts.Given as goal

abbrev pub invariant-loop-front : goal.invariant-loop-front
invariant-loop-front l = record {
  sifted : Sifts (IsFront l.q (l.fn.place + 1)) (flat_map (candidates (signs_at l.q l.fn.place)) (take l.front-index (fronts_of l.fronts))) (fronts_of l.list.items);
  each : (f : Front) → Has l.list.items f → IsFrontOf l.q (l.fn.place + 1) f;
  few : length (unlike_pairs l.q) ≤ l.fn.place + 1 → length l.list.items ≤ 4096;
}
