-- Live queries of a state that lines lead to.
use Rattle.std.proofs.Common.{◌≡◌, ℕ, ◌+◌, ◌<◌, ◌≤◌, ◌^◌, inl, inr, Bool, true, false, cond, nat_lt, ℤ, List, [], ◌∷◌, ◌++◌, length, get_or, zero, suc, IsTrue, All, AllPairs, refl, sym, ap, ◌∙◌, subst, arith}
use Rattle.std.specs.List.{AllByRecursion}
use Rattle.std.specs.declared.option.Option.{Option}
use Rattle.std.specs.declared.option.Option.TheVariants as options
use Rattle.std.proofs.lemmas.Bool.Decides.{nat_tests}
use Rattle.std.proofs.lemmas.List.Elements.{All-nil, All-from_recursion}
use Rattle.sql_text.specs.Value.{fits_i64}
use Rattle.sem_query.specs.declared.decision.Which.{Which}
use Rattle.sem_query.specs.declared.plan.Numbers.{Numbers}
use Rattle.sem_query.specs.declared.plan.Plan.{Plan}
use Rattle.sem_query.specs.declared.plan.Plan.TheVariants as plans
use Rattle.sem_query.specs.Query.{QueryValue, IsWithinLimits, is_filter}
use Rattle.sem_query.specs.Domains.{RowKeeps, RowsKeep}
use Rattle.sem_query.specs.Meaning.{Arrival}
use Rattle.sem_query.specs.declared.plan.PartPlan.{PartPlan}
use Rattle.sem_query.specs.Verdict as verdicts
use Rattle.sem_query.specs.Verdict.{first_above, verdict_after, verdict_by}
use Rattle.sem_query.specs.Tuples.{is_before}
use Rattle.sem_query.specs.Numbers.{parts_of, pages_of, page_count, numbers_of}
use Rattle.sem_query.specs.Ranges.{all_tuples}
use Rattle.sem_query.specs.Sharing.{sizes_in}
use Rattle.sem_query.specs.Bases.{Base, first_base}
use Rattle.sem_query.proofs.Has.{Has, first, later}
use Rattle.sem_laws.proofs.Bases.{bases-keep-on}
use Rattle.sem_laws.proofs.Tests.{not_both}
use Rattle.sql_catalog.specs.Streams.{Shape, IsName, KeepsDomains}
use Rattle.sql_parser.specs.Resolution.{HasNamed}
use Rattle.sql_parser.proofs.Placed.{stays_named}
use Rattle.sem_forms.specs.Fitting.{FitsWhole}
use Rattle.sem_forms.specs.Parts.{form_numbers, IsPartsVerdict, of_filter, of_many_parts, of_violation, of_plan}
use Rattle.sem_forms.specs.Forms.{HasWholeForm, IsFormPlan, IsFormPlanOf, MeetsForm, IsFormVerdict, IsServingForm}
use Rattle.sem_forms.specs.Forms as forms
use Rattle.sem_forms.proofs.Forms.{form_plans_serve, parts_are_few}
use Rattle.exec_query.specs.CellSteps.{HasParts}
use Rattle.exec_query.specs.Executor.{IsAccepted, most_answers}
use Rattle.exec_query.proofs.Answered.{filter_plain}
use Rattle.exec_query.proofs.PlanFacts.{has_parts}
use Rattle.exec_query.proofs.Room.{lie_all}
use Rattle.exec_registry.specs.Live.{LiveQuery, boxes_for, boxes_of, base_in, newly, with_row}
use Rattle.exec_registry.specs.Sound.{IsSoundLive}
use Rattle.cmd_session.specs.Answers.{acceptance}
use Rattle.cmd_session.specs.Checkpoint.{create_again, query_line}
use Rattle.cmd_session.specs.State.{from_base}
use Rattle.cmd_session.proofs.Short.{again_more}
use Rattle.law_resume.specs.Small.{HasShortLines}
use Rattle.law_resume.specs.Sound.{IsSoundIn}
use Rattle.law_resume.specs.Restores.{IsRestorable}
use Rattle.law_resume.proofs.FreshBases.{kept_after_row, sound_after_row}
use Rattle.law_resume.proofs.ReachedBases.{IsKeptBase, first_is_kept, row_is_kept}
use Rattle.law_resume.proofs.ReachedRanges.{Fits, form_tuple_fits}

-- a live query that was created by a line and accepted, with what was kept of it since
pub record IsReachedIn (streams : List Shape) (taken : ℕ) (q : LiveQuery) : Type 0 where
  pub name : IsName q.name
  pub limits : IsWithinLimits q.query
  pub named : HasNamed streams q.query
  pub line : length (query_line streams q) ≤ 1024
  pub accepted : IsAccepted q.shared q.query q.plan
  pub rows : RowsKeep q.query q.history
  pub size : length q.base.cells ≡ sizes_in (boxes_of q)
  pub given : (base_in q).given ≤ taken
  pub kept : IsKeptBase q.query q.shared q.plan (base_in q)

pub sound_in : (streams : List Shape) (taken : ℕ) (q : LiveQuery) → IsReachedIn streams taken q → IsSoundIn streams taken q
sound_in streams taken q r = record {
  limits = r.limits;
  met = r.accepted.met;
  named = r.named;
  plan = r.accepted.plan;
  rows = r.rows;
  size = r.size;
  given = r.given;
}

-- its plan serves the query
serving_of : (streams : List Shape) (taken : ℕ) (q : LiveQuery) → IsReachedIn streams taken q → IsServingForm q.shared q.query q.plan
serving_of streams taken q r = form_plans_serve q.shared q.query q.plan r.limits r.accepted.met r.accepted.plan

-- with DISTINCT the tuples are no more than announced, and of integers of 64 bits
module _ (q : QueryValue) (within : IsWithinLimits q) (distinct : q.distinct ≡ true) where
  few_tuples : (p : Plan) (table : List (List ℤ)) → HasParts q p → AllPairs (λ t u. is_before t u ≡ true) table → ((t : List ℤ) → Has table t → Has (all_tuples q (parts_of p)) t) → length table ≤ most_answers p
  few_tuples plans.Filter table has up inside = absurd (not_both q.distinct distinct (filter_plain q has))
  few_tuples (plans.Parts parts numbers) table has up inside = has.2 table up (lie_all q parts table inside)

  tuples_fit : (shared : Bool) (p : Plan) → MeetsForm q → IsFormPlanOf shared q p → (t : List ℤ) → Has (all_tuples q (parts_of p)) t → AllByRecursion Fits t
  tuples_fit shared plans.Filter met is t m = absurd (not_both q.distinct distinct (filter_plain q is))
  tuples_fit shared (plans.Parts parts numbers) met is t m = form_tuple_fits shared q parts within is.0 met is.1 t m

has_at : (ts : List (List ℤ)) (i : ℕ) (d : List ℤ) → i < length ts → Has ts (get_or ts i d)
has_at [] i d l = absurd (omega (arith, l))
has_at (t ∷ ts) zero d l = first
has_at (t ∷ ts) (suc i) d l = later (has_at ts i d (omega (arith, l)))

abbrev OfWidth : List ℤ → Type 0
OfWidth t = All (λ z. IsTrue (fits_i64 z)) t

module _ (streams : List Shape) (taken : ℕ) (few : taken ≤ 2 ^ 40) (q : LiveQuery) (r : IsReachedIn streams taken q) where
  abbrev base : Base
  base = base_in q

  has : HasParts q.query q.plan
  has = has_parts q.shared q.query q.plan (serving_of streams taken q r)

  all_fit : (b : Bool) → q.query.distinct ≡ b → All OfWidth base.table
  all_fit true e =
      λ i d l.
      All-from_recursion (λ z. IsTrue (fits_i64 z)) (get_or base.table i d)
      (tuples_fit q.query r.limits e q.shared q.plan r.accepted.met r.accepted.plan (get_or base.table i d) (r.kept.inside (get_or base.table i d) (has_at base.table i d l)))
  all_fit false e = subst (λ (ts : List (List ℤ)). All OfWidth ts) (sym (r.kept.plain e)) (All-nil OfWidth)

  sound_live : IsSoundLive q
  sound_live = record {
    limits = r.limits;
    accepted = r.accepted;
    rows = r.rows;
    size = r.size;
    whole = r.kept.whole;
    cells = λ i d l. (r.kept.cells i d l).own;
    ascends = λ e. r.kept.ascends;
    few = λ e. few_tuples q.query r.limits e q.plan base.table has r.kept.ascends r.kept.inside;
    tuples = λ e. lie_all q.query (parts_of q.plan) base.table r.kept.inside;
  }

  short_lines : HasShortLines streams q
  short_lines = record {
    name = r.name;
    created = r.line;
    given = (let g = r.given in omega (arith, g, few));
    cells = λ i d l. (let w = r.kept.whole in (r.kept.cells i d (omega (arith, l, w))).content);
    values = all_fit q.query.distinct refl;
  }

  pub restorable : IsRestorable streams taken q
  restorable = record { named = r.named; sound = sound_live; short = short_lines; given = r.given; tuples = r.kept.plain }

-- after more streams were added
pub reached_with_more : (streams more : List Shape) (taken : ℕ) (q : LiveQuery) → IsReachedIn streams taken q → IsReachedIn (streams ++ more) taken q
reached_with_more streams more taken q r = record {
  name = r.name;
  limits = r.limits;
  named = stays_named streams more q.query r.named;
  line = subst (λ (text : List ℕ). length text ≤ 1024) (sym (again_more streams more q.name q.query q.shared r.named)) r.line;
  accepted = r.accepted;
  rows = r.rows;
  size = r.size;
  given = r.given;
  kept = r.kept;
}

-- where more rows count as taken
pub reached_upto : (streams : List Shape) (taken more : ℕ) (q : LiveQuery) → taken ≤ more → IsReachedIn streams taken q → IsReachedIn streams more q
reached_upto streams taken more q l r = record {
  name = r.name;
  limits = r.limits;
  named = r.named;
  line = r.line;
  accepted = r.accepted;
  rows = r.rows;
  size = r.size;
  given = (let g = r.given in omega (arith, g, l));
  kept = r.kept;
}

-- after a row
pub reached_after_row : (streams : List Shape) (taken : ℕ) (q : LiveQuery) (row : Arrival) → taken < 2 ^ 40 → KeepsDomains streams row.stream row.values → AllByRecursion Fits row.values
    → IsReachedIn streams taken q → IsReachedIn streams (taken + 1) (with_row row q)
reached_after_row streams taken q row few keeps fit r =
    let sound : IsSoundIn streams taken q = sound_in streams taken q r in
    let more : IsSoundIn streams (taken + 1) (with_row row q) = sound_after_row streams taken q row sound keeps in
    let g = r.given in
    record {
      name = r.name;
      limits = r.limits;
      named = r.named;
      line = r.line;
      accepted = r.accepted;
      rows = more.rows;
      size = r.size;
      given = more.given;
      kept = subst (IsKeptBase q.query q.shared q.plan) (sym (kept_after_row streams taken q row sound))
          (row_is_kept q.query q.shared q.plan r.limits (serving_of streams taken q r) (base_in q) row (omega (arith, g, few)) fit r.kept);
    }

-- on another base
pub reached_on_base : (streams : List Shape) (taken : ℕ) (q : LiveQuery) (base : Base) → IsReachedIn streams taken q → IsKeptBase q.query q.shared q.plan base → base.given ≤ taken
    → IsReachedIn streams taken (from_base base q)
reached_on_base streams taken q base r k given =
    let same : base_in (from_base base q) ≡ base = (bases-keep-on q.query (parts_of q.plan) (boxes_of q) base k.whole).none in
    record {
      name = r.name;
      limits = r.limits;
      named = r.named;
      line = r.line;
      accepted = r.accepted;
      rows = All-nil (RowKeeps q.query);
      size = k.whole;
      given = subst (λ (b : Base). b.given ≤ taken) (sym same) given;
      kept = subst (IsKeptBase q.query q.shared q.plan) (sym same) k;
    }

-- a query that was just created
pub reached_anew : (streams : List Shape) (taken : ℕ) (name : List ℕ) (q : QueryValue) (shared : Bool) (plan : Plan) → IsName name → IsWithinLimits q → HasNamed streams q
    → length (create_again streams name q shared) ≤ 1024 → IsAccepted shared q plan → IsReachedIn streams taken (newly name q shared plan)
reached_anew streams taken name q shared plan own within named line accepted =
    let base : Base = first_base (boxes_for q shared plan) in
    let k : IsKeptBase q shared plan base = first_is_kept q shared plan in
    let same : base_in (newly name q shared plan) ≡ base = (bases-keep-on q (parts_of plan) (boxes_for q shared plan) base k.whole).none in
    let none : base.given ≤ taken = omega arith in
    record {
      name = own;
      limits = within;
      named = named;
      line = line;
      accepted = accepted;
      rows = All-nil (RowKeeps q);
      size = k.whole;
      given = subst (λ (b : Base). b.given ≤ taken) (sym same) none;
      kept = subst (IsKeptBase q shared plan) (sym same) k;
    }

-- what an accepting verdict says of the plan
record IsPassed (n m : Numbers) (o : Option Which) (free : ℕ) : Type 0 where
  pub numbers : n ≡ m
  pub none : o ≡ options.None
  pub fits : page_count m.cells ≤ free

passed : (n m : Numbers) (o : Option Which) (free : ℕ) → verdicts.accepted n ≡ verdict_after o m free → IsPassed n m o free
passed n m (options.Some which) free e = absurd cc
passed n m options.None free e = by (nat_lt free (page_count m.cells)) refl e
  where
    by : (b : Bool) → nat_lt free (page_count m.cells) ≡ b → verdicts.accepted n ≡ cond b verdicts.pool (verdicts.accepted m) → IsPassed n m options.None free
    by true h f = absurd cc
    by false h f = (let same : n ≡ m = cc in record { numbers = same; none = refl; fits = grind (arith, nat_tests, h) })

module _ (shared : Bool) (q : QueryValue) (parts : List PartPlan) (numbers : Numbers) (free : ℕ) (is : IsFormPlanOf shared q (plans.Parts parts numbers)) where
  abbrev Accepted : Type 0
  Accepted = IsAccepted shared q (plans.Parts parts numbers) × (page_count numbers.cells ≤ free)

  -- by these numbers the pages fit
  pages_fit : (own : Numbers) → verdicts.accepted numbers ≡ verdict_after (first_above own) own free → (first_above numbers ≡ options.None) × (page_count numbers.cells ≤ free)
  pages_fit own e =
      let p = passed numbers own (first_above own) free e in
      let fits = p.fits in
      (ap first_above p.numbers ∙ p.none, subst (λ (x : Numbers). page_count x.cells ≤ free) (sym p.numbers) fits)

  by_whole : (part : PartPlan) → IsTrue q.compact → FitsWhole q part → verdicts.accepted numbers ≡ verdict_by (numbers_of q (part ∷ [])) free → Accepted
  by_whole part c fits e =
      let p = pages_fit (numbers_of q (part ∷ [])) e in
      (record { plan = is; met = λ plain none. absurd (none (c, part, fits)); within = p.0; few = few is.1 }, p.1)
    where
      few : IsFormPlan shared q parts → length parts ≤ 4096
      few (forms.whole d one gits follow f) = (let n : length parts ≡ 1 = ap length f in omega (arith, n))
      few (forms.parts none own) = absurd (none (c, part, fits))

  by_parts : (¬ HasWholeForm q) → IsPartsVerdict shared q free (verdicts.accepted numbers) → Accepted
  by_parts none (of_filter f e) = absurd cc
  by_parts none (of_many_parts n m e) = absurd cc
  by_parts none (of_violation n m f v e) = absurd cc
  by_parts none (of_plan n m v own other e) =
      let p = pages_fit (form_numbers shared q own) e in
      (record { plan = is; met = λ plain gone. (m, v); within = p.0; few = few is.1 }, p.1)
    where
      few : IsFormPlan shared q parts → length parts ≤ 4096
      few (forms.whole d one gits follow f) = (let n : length parts ≡ 1 = ap length f in omega (arith, n))
      few (forms.parts gone mine) = parts_are_few shared q parts m mine

pub accepted_by : (shared : Bool) (q : QueryValue) (plan : Plan) (free : ℕ) → IsFormPlanOf shared q plan → IsFormVerdict shared q free (acceptance plan) → IsAccepted shared q plan × (pages_of plan ≤ free)
accepted_by shared q plans.Filter free is v = (record { plan = is; met = λ plain none. absurd (not_both (is_filter q) is plain); within = tt; few = omega arith }, omega arith)
accepted_by shared q (plans.Parts parts numbers) free is (forms.whole plain c part fits follow e) = by_whole shared q parts numbers free is part c fits e
accepted_by shared q (plans.Parts parts numbers) free is (forms.parts (inl filter) v) = absurd (not_both (is_filter q) filter is.0)
accepted_by shared q (plans.Parts parts numbers) free is (forms.parts (inr none) v) = by_parts shared q parts numbers free is none v
