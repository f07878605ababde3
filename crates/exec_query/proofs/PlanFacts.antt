-- What an accepted plan says of its cells.
use Rattle.std.proofs.Common.{◌≡◌, ◌*◌, ◌<◌, ◌≤◌, ◌^◌, ◌==◌, cond, Bool, true, false, List, [], length, refl, sym, ap, ◌∙◌, subst, arith, Option, All, Contains}
use Rattle.std.specs.List.{list_any}
use Rattle.std.specs.declared.option.Option.TheVariants as options
use Rattle.std.proofs.lemmas.Bool.Decides.{nat_tests}
use Rattle.sem_query.specs.declared.decision.Which.{Which}
use Rattle.sem_query.specs.declared.decision.Which.TheVariants as which
use Rattle.sem_query.specs.declared.plan.PartPlan.{PartPlan}
use Rattle.sem_query.specs.declared.plan.Numbers.{Numbers}
use Rattle.sem_query.specs.declared.plan.Plan.{Plan}
use Rattle.sem_query.specs.declared.plan.Plan.TheVariants as plan
use Rattle.sem_query.specs.Query.{QueryValue, IsWithinLimits}
use Rattle.sem_query.specs.Meaning.{Arrival}
use Rattle.sem_query.specs.Serving.{KeepsStreams, IsServing, AreBased}
use Rattle.sem_query.specs.Verdict.{is_above, first_above}
use Rattle.sem_query.specs.Numbers.{parts_of, pages_of}
use Rattle.sem_query.specs.Sharing.{kept_boxes, sizes_in, numbers_for}
use Rattle.sem_laws.specs.Probing.{AreWithin}
use Rattle.sem_laws.specs.Sharing.{AreBoxesOf}
use Rattle.sem_laws.specs.Bases.{IsKept, alone, boxed}
use Rattle.sem_laws.proofs.PlanBoxes.{count-of-boxes, plans-have-boxes}
use Rattle.sem_laws.proofs.BoxReadings.{boxes-meet-whole}
use Rattle.sem_laws.proofs.Walking.{serving-keep}
use Rattle.std.proofs.lemmas.List.Elements.{All-contains}
use Rattle.sem_query.specs.Combinations.{Reading, read_from}
use Rattle.sem_query.proofs.Has.{Has, Has-from_contains, Contains-from_has}
use Rattle.exec_pool.specs.declared.pool.Extent.{Extent}
use Rattle.exec_pool.specs.Extents.{PoolValue, cells_of, IsLive}
use Rattle.exec_synopsis.specs.Premises.{AreFitting}
use Rattle.sem_forms.specs.Answers.{HoldsAllTuples}
use Rattle.sem_forms.specs.Forms.{IsServingForm, IsWithin}
use Rattle.exec_query.specs.Executor.{ExecutorValue, IsSound}
use Rattle.exec_query.specs.CellSteps.{answered_by, HasParts, MeetWhole, IsPlanReady, CanCount}
use Rattle.exec_query.proofs.Inserting.{get_has}
use Rattle.exec_query.proofs.Founds.{Agree, all_found-same}
use Rattle.exec_synopsis.proofs.CallerLemmas.{serving-keeping}
use Rattle.exec_restore.specs.Loadable.{IsBasedPlan}
use Rattle.exec_restore.proofs.PlanBoxes.{no_boxes}
use Rattle.sem_forms.proofs.Counted.{announced_answers_hold}
use Rattle.sem_forms.proofs.Forms.{form_plans_serve}

same_cells : (shared : Bool) (q : QueryValue) (list : List PartPlan) → (numbers_for shared q list).cells ≡ sizes_in (kept_boxes shared q list)
same_cells false q list = count-of-boxes list
same_cells true q list = refl

-- no boxes are those of no parts
pub no_parts : {q : QueryValue} → AreBoxesOf q [] []
no_parts = record {
  each = λ part k. elim (Has-from_contains [] part k) [ ];
  alone = λ b k. elim (Has-from_contains [] b k) [ ];
  covers = λ n l. absurd (omega (arith, l));
}

-- the plan of an executor serves its query, whichever form it has
pub serving_in : (e : ExecutorValue) → IsSound e → IsServingForm e.shared e.query e.plan
serving_in e sound = form_plans_serve e.shared e.query e.plan sound.limits sound.accepted.met sound.accepted.plan

-- and its boxes begin where they should
pub based_in : (shared : Bool) (q : QueryValue) (p : Plan) → IsServingForm shared q p → IsBasedPlan shared q p
based_in shared q plan.Filter is = is
based_in shared q (plan.Parts list numbers) is = (is.0, is.1, is.2)

pub has_parts : (shared : Bool) (q : QueryValue) (p : Plan) → IsServingForm shared q p → HasParts q p
has_parts shared q plan.Filter is = is
has_parts shared q (plan.Parts list numbers) is = (is.0, is.1, subst (HoldsAllTuples q list) (sym (ap (λ (m : Numbers). m.answers) is.3)) (announced_answers_hold shared q list))

-- each part keeps the streams of the query; a filter has none
pub parts_keep : (shared : Bool) (q : QueryValue) (p : Plan) → IsServingForm shared q p → All (KeepsStreams q) (parts_of p)
parts_keep shared q plan.Filter is = λ k d l. absurd (omega (arith, l))
parts_keep shared q (plan.Parts list numbers) is = serving-keep q list is.1.serves

-- the boxes begin where they should; a filter has none
pub boxes_of_plan : (shared : Bool) (q : QueryValue) (p : Plan) → IsServingForm shared q p → AreBoxesOf q (parts_of p) (kept_boxes shared q (parts_of p))
boxes_of_plan shared q plan.Filter is = subst (AreBoxesOf q []) (sym (no_boxes shared q)) no_parts
boxes_of_plan shared q (plan.Parts list numbers) is = plans-have-boxes shared q list is.2

-- the cells are those of the boxes of the plan; a filter has none
pub kept_is : (shared : Bool) (q : QueryValue) (p : Plan) → IsServingForm shared q p → IsKept q (parts_of p) (kept_boxes shared q (parts_of p))
kept_is shared q plan.Filter is = alone is refl (no_boxes shared q)
kept_is shared q (plan.Parts list numbers) is = boxed is.0 is.1 (plans-have-boxes shared q list is.2)

-- there are at most as many cells as the limit allows
few_cells : (numbers : Numbers) → first_above numbers ≡ options.None → numbers.cells ≤ 262144
few_cells numbers e = by (is_above numbers which.Cells) refl e
  where
    rest : Option Which
    rest = cond (is_above numbers which.Answers) (options.Some which.Answers) (cond (is_above numbers which.Work) (options.Some which.Work) options.None)

    by : (b : Bool) → is_above numbers which.Cells ≡ b → cond b (options.Some which.Cells) rest ≡ options.None → numbers.cells ≤ 262144
    by true f g = absurd cc
    by false f g = grind (arith, nat_tests)

-- the cells stand within the pages
pub cells_of_plan : (shared : Bool) (q : QueryValue) (p : Plan) → IsServingForm shared q p → IsWithin p
    → (sizes_in (kept_boxes shared q (parts_of p)) ≤ 64 * pages_of p) × (sizes_in (kept_boxes shared q (parts_of p)) < 2 ^ 32)
cells_of_plan shared q plan.Filter is within = (let n : sizes_in (kept_boxes shared q []) ≡ 0 = ap sizes_in (no_boxes shared q) in (omega (arith, n), omega (arith, n)))
cells_of_plan shared q (plan.Parts list numbers) is within =
    let few = few_cells numbers within in
    let n : numbers.cells ≡ sizes_in (kept_boxes shared q list) = ap (λ (m : Numbers). m.cells) is.3 ∙ same_cells shared q list in
    (omega (arith, n), omega (arith, n, few))

-- the boxes lie within the cells
pub inside_of : (shared : Bool) (q : QueryValue) (list : List PartPlan) → IsServing q list → AreBased shared q list → AreWithin (length q.from) (sizes_in (kept_boxes shared q list)) list
inside_of shared q list is bases part k place l =
    let keeps = serving-keep q list is.serves in
    let own = All-contains (KeepsStreams q) list part keeps k in
    (boxes-meet-whole q list keeps (kept_boxes shared q list) (plans-have-boxes shared q list bases)).0 part k place (let c = own.count in omega (arith, c, l))

pub meet_of : (shared : Bool) (q : QueryValue) (list : List PartPlan) → IsServing q list → AreBased shared q list → MeetWhole q list
meet_of shared q list is bases m n part other place there i j b c e =
    (boxes-meet-whole q list (serving-keep q list is.serves) (kept_boxes shared q list) (plans-have-boxes shared q list bases)).1 part other place there i j
    (Contains-from_has list part (get_has list m part b.at)) (Contains-from_has list other (get_has list n other c.at)) b.there c.there b.inside c.inside e

-- the cells are ready for a row
pub plan_ready : (shared : Bool) (q : QueryValue) (p : Plan) → IsWithinLimits q → IsServingForm shared q p → IsWithin p → (pool : PoolValue) (e : Extent) → e.pages ≡ pages_of p → IsLive pool e
    → ((part : PartPlan) → Contains (parts_of p) part → AreFitting part (read_from (cells_of pool e)))
    → ((part : PartPlan) → Contains (parts_of p) part → CanCount part (read_from (cells_of pool e)))
    → IsPlanReady q p pool e
plan_ready shared q plan.Filter limits is within pool e pages live fitting room = live
plan_ready shared q (plan.Parts list numbers) limits is within pool e pages live fitting room =
    let c = cells_of_plan shared q (plan.Parts list numbers) is within in
    record {
      limits = limits;
      plan = serving-keeping q list is.1.serves;
      cells = sizes_in (kept_boxes shared q list);
      inside = inside_of shared q list is.1 is.2;
      meet = meet_of shared q list is.1 is.2;
      few = c.1;
      live = live;
      within = (let w = c.0 in omega (arith, w, pages));
      fitting = fitting;
      room = room;
    }

-- only the cells of the plan are read
pub answered-same : (q : QueryValue) (p : Plan) (read other : Reading) (r : Arrival) → ((part : PartPlan) → Has (parts_of p) part → Agree part (length q.from) read other)
    → answered_by q p read r ≡ answered_by q p other r
answered-same q plan.Filter read other r h = refl
answered-same q (plan.Parts list numbers) read other r h =
    ap (λ fs. cond (list_any (λ stream. r.stream == stream) q.from) fs []) (all_found-same q read other r list h)
