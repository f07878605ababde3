-- The synopsis suffices.
use Rattle.std.proofs.Common.{option_to_list, ◌≡◌, List, [], ◌∷◌, cond, Bool, true, ◌==◌, refl, sym, ap, ◌∙◌, arith, ℤ}
use Rattle.std.specs.List.{list_any}
use Rattle.sem_query.proofs.Has.{Has-from_contains}
use Rattle.sem_laws.proofs.ServedLaw.{serving_plans_suffice}
use Rattle.sem_laws.proofs.PlainServes.{plain_plans_serve}
use Rattle.sem_laws.proofs.LaidOut.{synopsis-stands}
use Rattle.sem_query.specs.Query.{QueryValue, is_filter}
use Rattle.sem_query.specs.Meaning.{Arrival, new_answers}
use Rattle.sem_query.specs.Tuples.{sorted, new_tuples}
use Rattle.sem_query.specs.declared.plan.PartPlan.{PartPlan}
use Rattle.sem_query.proofs.FilterAlone.{filters_alone}
use Rattle.sem_query.specs.Filter.{filter_tuple}
use Rattle.sem_query.specs.Plan.{ArePartPlans, IsPlan, filter, parts}
use Rattle.sem_query.specs.Combinations.{Reading, read_from}
use Rattle.sem_query.specs.Future.{waiting, future}
use Rattle.sem_query.specs.Cells.{printed, synopsis}
use Rattle.sem_laws.specs.Sufficiency.{SynopsisSuffices, ReadingsSuffice, SynopsisIsRead, IsReadingOf, IsPlannedAnywhere, nothing, anywhere}

module _ (q : QueryValue) (plan : List PartPlan) (read : Reading) (table : List (List ℤ)) (r : Arrival) where
  abbrev named : Bool
  named = list_any (λ stream. r.stream == stream) q.from

  abbrev own : List (List ℤ)
  own = option_to_list (filter_tuple q r)

  abbrev kept : List (List ℤ)
  kept = cond q.distinct (sorted (new_tuples table (waiting q plan read r))) (sorted (waiting q plan read r))

  abbrev chosen : Bool → Bool → List (List ℤ)
  chosen a b = cond b own (cond a kept [])

  pub future-is : (a b : Bool) → named ≡ a → is_filter q ≡ b → future q plan read table r ≡ chosen a b
  unfolding future
  future-is a b e f = ap (λ a. chosen a (is_filter q)) e ∙ ap (λ b. chosen a b) f

pub readings-suffice : ReadingsSuffice
readings-suffice q plan within planned h keep_h read given r keep_r = by planned
  where
    by : IsPlannedAnywhere q plan → future q plan read (printed q h) r ≡ new_answers q h r
    by (nothing f g) = future-is q plan read (printed q h) r (list_any (λ stream. r.stream == stream) q.from) true refl f ∙ sym (filters_alone q h r f)
    by (anywhere n is) = serving_plans_suffice q plan within n is h keep_h read given r keep_r

-- of no parts nothing is read
pub none-read : (q : QueryValue) (plan : List PartPlan) (h : List Arrival) (read : Reading) → plan ≡ [] → IsReadingOf q plan h read
none-read q [] h read e part k place i l b = elim (Has-from_contains [] part k) [ ]
none-read q (p ∷ plan) h read e part k place i l b = absurd cc

-- the part of a plan that does not speak of bases
pub part-plans : (q : QueryValue) (plan : List PartPlan) → IsPlan q plan → ArePartPlans q plan
part-plans q plan is = record { parts = is.parts; plans = is.plans }

pub synopsis-is-read : SynopsisIsRead
synopsis-is-read q plan is h part k place i l b = synopsis-stands q plan is h part (Has-from_contains plan part k) place i l b

pub synopsis-suffices : SynopsisSuffices
synopsis-suffices q plan within (filter f e) violation h r keep_h keep_r =
    readings-suffice q plan within (nothing f e) h keep_h (read_from (synopsis q plan h)) (none-read q plan h _ e) r keep_r
synopsis-suffices q plan within (parts n is) violation h r keep_h keep_r =
    readings-suffice q plan within (anywhere n (plain_plans_serve q plan within n (part-plans q plan is) violation)) h keep_h (read_from (synopsis q plan h)) (synopsis-is-read q plan is h) r keep_r
