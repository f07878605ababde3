-- What CREATE QUERY does.
use Rattle.std.proofs.Common.{◌≡◌, ℕ, Bool, ◌≤◌, List, [], ◌∷◌, ◌++◌, sym, ap, subst, arith, Ok, Err, All}
use Rattle.std.specs.declared.result.Result.{Result}
use Rattle.sem_query.specs.declared.plan.Plan.{Plan}
use Rattle.sem_query.specs.Query.{QueryValue}
use Rattle.exec_pool.specs.Extents.{PoolValue}
use Rattle.exec_query.specs.Executor.{IsAccepted, waiting_in}
use Rattle.exec_registry.specs.declared.refusal.CreateError.{CreateError}
use Rattle.exec_registry.specs.declared.refusal.CreateError.TheVariants as refusals
use Rattle.exec_registry.specs.declared.verdict.Verdict.{Verdict}
use Rattle.exec_registry.specs.Live.{Live, newly}
use Rattle.exec_registry.specs.Registry.{RegistryValue, AreLiveFor, IsSound}
use Rattle.exec_registry.specs.Waiting.{AreQuiet}
use Rattle.exec_registry.specs.Judged.{TellsVerdict, CarriesWhy, Creates}
use Rattle.exec_registry.specs.Admitted.{Admits}
use Rattle.exec_registry.proofs.Telling.{tells_accepted, tells_pool}
use Rattle.exec_registry.proofs.Quiet.{quiet_last}
use Rattle.exec_registry.proofs.Whole.{beside_stands, added_stands, added_all}

abbrev pub registry_of : PoolValue → List Live → RegistryValue
registry_of pool live = record { pool = pool; live = live }

pub tells : (result : Result Verdict CreateError) (name : List ℕ) (q : QueryValue) (shared : Bool) (plan : Plan) (pool : PoolValue) (live : List Live) (later : PoolValue) (after : List Live)
    → IsAccepted shared q plan → Admits result name q shared plan pool live later after
    → TellsVerdict shared q pool.free result × CarriesWhy shared q pool.free result
tells (Ok verdict) name q shared plan pool live later after a m = (subst (λ (v : Verdict). TellsVerdict shared q pool.free (Ok v)) (sym m.0) (tells_accepted shared q plan pool.free a m.1), tt)
tells (Err (refusals.Violation p c t)) name q shared plan pool live later after a m = absurd m
tells (Err (refusals.Limit which value l)) name q shared plan pool live later after a m = absurd m
tells (Err (refusals.Pool needed free)) name q shared plan pool live later after a m = (tells_pool shared q plan pool.free needed a m.0 m.2, (m.2, m.1, (plan, a, m.0)))
tells (Err refusals.Memory) name q shared plan pool live later after a m = (tt, tt)

pub creates : (result : Result Verdict CreateError) (name : List ℕ) (q : QueryValue) (shared : Bool) (plan : Plan) (pool : PoolValue) (live : List Live) (later : PoolValue) (after : List Live)
    → IsAccepted shared q plan → Admits result name q shared plan pool live later after
    → Creates (registry_of pool live) name q shared result (registry_of later after)
creates (Ok verdict) name q shared plan pool live later after a m =
    let last = m.4.1 in
    let l : Live = last.live in
    record {
      plan = plan;
      accepted = a;
      told = m.0;
      stands = λ queries all. subst (λ (x : List Live). AreLiveFor later x (queries ++ newly name q shared plan ∷ [])) (sym last.last)
          (added_stands pool later live queries name q shared plan m.4.0 l m.3 all last.new);
      quiet = λ quiet. subst (λ (x : List Live). All (λ (y : Live). waiting_in y.executor ≡ []) x) (sym last.last) (added_all (λ (y : Live). waiting_in y.executor ≡ []) live l quiet last.new.none);
      given = λ n given. subst (λ (x : List Live). All (λ (y : Live). y.executor.given ≤ n) x) (sym last.last) (added_all (λ (y : Live). y.executor.given ≤ n) live l given (omega (arith, last.new.given)));
      last = l;
      list = last.last;
      asked = last.new.asked;
      named = last.new.named;
      sharing = last.new.sharing;
      pages = m.5;
    }
creates (Err (refusals.Violation p c t)) name q shared plan pool live later after a m = absurd m
creates (Err (refusals.Limit which value l)) name q shared plan pool live later after a m = absurd m
creates (Err (refusals.Pool needed free)) name q shared plan pool live later after a m = record {
  live = m.4;
  free = ap (λ (p : PoolValue). p.free) m.3;
  stands = λ queries all. subst (λ (p : PoolValue). AreLiveFor p after queries) (sym m.3) (subst (λ (x : List Live). AreLiveFor pool x queries) (sym m.4) all);
  pages = ap (λ (p : PoolValue). p.pages) m.3;
}
creates (Err refusals.Memory) name q shared plan pool live later after a m = record {
  live = m.3;
  free = m.2;
  stands = λ queries all. subst (λ (x : List Live). AreLiveFor later x queries) (sym m.3) (beside_stands pool later live queries m.1 all);
  pages = m.4;
}

-- what is true of the live queries is true then, and of no further one an answer waits
pub keeps : (result : Result Verdict CreateError) (name : List ℕ) (q : QueryValue) (shared : Bool) (plan : Plan) (pool : PoolValue) (live : List Live) (later : PoolValue) (after : List Live)
    → (p : ℕ) → IsSound pool live → AreQuiet p live → Admits result name q shared plan pool live later after → IsSound later after × AreQuiet p after
keeps (Ok verdict) name q shared plan pool live later after p sound quiet m =
    let last = m.4.1 in
    (m.2, subst (λ (xs : List Live). AreQuiet p xs) (sym last.last) (quiet_last p live last.live quiet last.new.none))
keeps (Err (refusals.Violation p c t)) name q shared plan pool live later after places sound quiet m = absurd m
keeps (Err (refusals.Limit which value l)) name q shared plan pool live later after p sound quiet m = absurd m
keeps (Err (refusals.Pool needed free)) name q shared plan pool live later after p sound quiet m =
    (subst (λ (x : PoolValue). IsSound x after) (sym m.3) (subst (λ (xs : List Live). IsSound pool xs) (sym m.4) sound), subst (λ (xs : List Live). AreQuiet p xs) (sym m.4) quiet)
keeps (Err refusals.Memory) name q shared plan pool live later after p sound quiet m = (m.0, subst (λ (xs : List Live). AreQuiet p xs) (sym m.3) quiet)
