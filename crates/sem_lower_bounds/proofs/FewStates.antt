-- The evaluator that keeps cells and printed tuples has few states.
use Rattle.std.proofs.Common.{◌≡◌, All, ℕ, zero, suc, ◌+◌, ◌*◌, ◌<◌, ◌≤◌, ◌^◌, List, [], map, length, Bool, true, false, cond, refl, sym, ap, ap₂, ◌∙◌, subst, arith, ℤ, pow-add, pow-suc, pow_mono, mul-le-mul, mul_comm, le_trans}
use Rattle.std.proofs.Math.Nat.{pow-le-pow_left, pow-zero}
use Rattle.std.proofs.lemmas.List.{length-map}
use Rattle.std.proofs.lemmas.Nat.{pow_below}
use Rattle.std.specs.List.{list_any, flat_map}
use Rattle.sem_query.proofs.Has.{Has, Has-map_from, Contains-from_has}
use Rattle.sem_query.specs.declared.cell.Cell.{Cell}
use Rattle.sem_query.specs.declared.plan.PartPlan.{PartPlan}
use Rattle.sem_query.specs.Query.{QueryValue, IsWithinLimits}
use Rattle.std.specs.declared.option.Option.TheVariants.{None}
use Rattle.sem_query.specs.Domains.{RowKeeps}
use Rattle.sem_query.specs.Violation.{IsViolation}
use Rattle.sem_query.specs.Plan.{Follow, IsPlanned, filter as of_filter, parts}
use Rattle.sem_query.specs.Serving.{KeepsStreams}
use Rattle.sem_query.specs.Tuples.{is_same, sorted, distinct_tuples}
use Rattle.sem_query.specs.Meaning.{Arrival, answers}
use Rattle.sem_query.specs.Cells.{synopsis, printed}
use Rattle.sem_query.specs.Ranges.{all_tuples}
use Rattle.sem_query.specs.Numbers.{cell_count, answer_bound}
use Rattle.sem_laws.specs.Sufficiency.{IsPlannedAnywhere, nothing, anywhere}
use Rattle.sem_laws.proofs.Numbering.{synopsis-has-cells}
use Rattle.sem_laws.proofs.PlainServes.{plain_plans_serve}
use Rattle.sem_laws.proofs.Sufficiency.{part-plans}
use Rattle.sem_laws.proofs.Walking.{serving-keep}
use Rattle.sem_laws.proofs.TableRoom.{length-all}
use Rattle.sem_laws.proofs.Sums.{bit}
use Rattle.sem_lower_bounds.specs.Served.{ServingHasStates, ServingHasFewStates}
use Rattle.sem_lower_bounds.specs.States.{Evaluator, after, AreWithin, HasStates}
use Rattle.sem_lower_bounds.specs.Within.{HasStatesOn}
use Rattle.sem_lower_bounds.specs.Accepted.{states_of, AcceptedHasStates, HasPolynomiallyManyStates, PolynomiallyManyAreFew}
use Rattle.sem_lower_bounds.proofs.Pigeons.{below, length-below, has-below}
use Rattle.sem_lower_bounds.proofs.Pairing.{paired, coded}
use Rattle.sem_lower_bounds.proofs.Growth.{self-below, Outgrows, outgrows, pow-mul}
use Rattle.sem_lower_bounds.proofs.Listed.{length-pairs, has-pairs, all_lists, length-all_lists, has-all_lists}
use Rattle.sem_lower_bounds.proofs.Numbering.{number}
use Rattle.sem_lower_bounds.proofs.SmallCells.{contents, length-contents, synopsis-among}
use Rattle.sem_lower_bounds.proofs.Marks.{mark}
use Rattle.sem_lower_bounds.proofs.Numbered.{state, standing, evaluator, comes-to, evaluates}
use Rattle.sem_lower_bounds.proofs.Plainly.{row-none, rows-none}

-- marks on a table that is not kept are 0
mark-below : (q : QueryValue) (h : List Arrival) (t : List ℤ) → mark (printed q h) t < cond q.distinct 2 1
unfolding mark
mark-below q h t = by q.distinct
  where
    one : (b : Bool) → bit b < 2
    one true = omega arith
    one false = omega arith

    by : (d : Bool) → bit (list_any (is_same t) (cond d (sorted (distinct_tuples (answers q h))) [])) < cond d 2 1
    by true = one (list_any (is_same t) (sorted (distinct_tuples (answers q h))))
    by false = omega arith

one-pow : (k : ℕ) → 1 ^ k ≡ 1
one-pow zero = pow-zero 1
one-pow (suc k) = omega (arith, pow-suc 1 k, one-pow k)

sizes : (d : Bool) (k m n bound : ℕ) → cond d (2 * bound + 3) (n + 1) ^ k * cond d 2 1 ^ m ≡ cond d ((2 * bound + 3) ^ k * 2 ^ m) ((n + 1) ^ k)
sizes true k m n bound = refl
sizes false k m n bound =
    let e : (n + 1) ^ k * 1 ^ m ≡ (n + 1) ^ k * 1 = ap (λ (x : ℕ). (n + 1) ^ k * x) (one-pow m) in
    omega (arith, e)

module _ (q : QueryValue) (plan : List PartPlan) (n bound : ℕ) where
  abbrev count_of_cells : ℕ
  count_of_cells = cell_count plan

  abbrev count_of_marks : ℕ
  count_of_marks = length (all_tuples q plan)

  abbrev number_of : List Cell → List ℕ → ℕ
  number_of cells marks = paired (coded (map number cells)) (coded marks)

  abbrev all_cells : List (List Cell)
  all_cells = all_lists count_of_cells (contents q.distinct n bound)

  abbrev all_marks : List (List ℕ)
  all_marks = all_lists count_of_marks (below (cond q.distinct 2 1))

  -- all states that cells and table of such a history may have
  states : List ℕ
  states = flat_map (λ cells. map (number_of cells) all_marks) all_cells

  states-size : length states ≡ states_of q plan n bound
  unfolding states
  states-size =
      let e : length all_cells ≡ cond q.distinct (2 * bound + 3) (n + 1) ^ count_of_cells
      = length-all_lists count_of_cells (contents q.distinct n bound) ∙ ap (λ (x : ℕ). x ^ count_of_cells) (length-contents q.distinct n bound) in
      let f : length all_marks ≡ cond q.distinct 2 1 ^ answer_bound q plan
      = length-all_lists count_of_marks (below (cond q.distinct 2 1))
      ∙ ap₂ (λ (x y : ℕ). x ^ y) (length-below (cond q.distinct 2 1)) (length-all q plan) in
      length-pairs number_of all_cells all_marks ∙ ap₂ (λ (x y : ℕ). x * y) e f ∙ sizes q.distinct count_of_cells (answer_bound q plan) n bound

  state-among : All (KeepsStreams q) plan → (h : List Arrival) → length h ≤ n → AreWithin bound h → Has states (standing q plan h)
  unfolding states state
  state-among keep h few near =
      has-pairs number_of all_cells all_marks (synopsis q plan h) (map (mark (printed q h)) (all_tuples q plan))
      (has-all_lists (contents q.distinct n bound) count_of_cells (synopsis q plan h) (synopsis-has-cells q plan h) (synopsis-among q plan keep n bound h few near))
      (has-all_lists (below (cond q.distinct 2 1)) count_of_marks (map (mark (printed q h)) (all_tuples q plan)) (length-map (all_tuples q plan) (mark (printed q h))) marks_among)
    where
      marks_among : (x : ℕ) → Has (map (mark (printed q h)) (all_tuples q plan)) x → Has (below (cond q.distinct 2 1)) x
      marks_among x k =
          let s : (t : List ℤ) × Has (all_tuples q plan) t × (mark (printed q h) t ≡ x) = Has-map_from (mark (printed q h)) (all_tuples q plan) x k in
          has-below (cond q.distinct 2 1) x (subst (λ (y : ℕ). y < cond q.distinct 2 1) s.2 (mark-below q h s.0))

-- parts that serve keep the streams of the query, and a filter has none
planned-keep : (q : QueryValue) (plan : List PartPlan) → IsPlannedAnywhere q plan → All (KeepsStreams q) plan
planned-keep q plan (nothing f e) = subst (All (KeepsStreams q)) (sym e) (λ k d l. absurd (omega (arith, l)))
planned-keep q plan (anywhere n is) = serving-keep q plan is.serves

pub serving-has-states : ServingHasStates
serving-has-states q plan within planned follow = (
  evaluator q plan,
  evaluates q plan within planned follow,
  λ n bound. record {
    states = states q plan n bound;
    size = omega (arith, states-size q plan n bound);
    all = λ h keep few near. Contains-from_has (states q plan n bound) (after (evaluator q plan) (evaluator q plan).start h)
        (subst (Has (states q plan n bound)) (sym (comes-to q plan within planned follow h keep)) (state-among q plan n bound (planned-keep q plan planned) h few near));
  },
)

-- the plan of a query that violates no condition serves
planned-serves : (q : QueryValue) (plan : List PartPlan) → IsWithinLimits q → IsPlanned q plan → IsViolation q None → IsPlannedAnywhere q plan
planned-serves q plan within (of_filter f e) violation = nothing f e
planned-serves q plan within (parts n is) violation = anywhere n (plain_plans_serve q plan within n (part-plans q plan is) violation)

planned-follow : (q : QueryValue) (plan : List PartPlan) → IsPlanned q plan → Follow 0 plan
planned-follow q plan (of_filter f e) = subst (Follow 0) (sym e) tt
planned-follow q plan (parts n is) = is.bases

pub accepted-has-states : AcceptedHasStates
accepted-has-states q plan within none is violation =
    let o = serving-has-states q plan within (planned-serves q plan within is violation) (planned-follow q plan is) in (
      o.0,
      λ h r. o.1 h r (rows-none q none h) (row-none q none r),
      λ n bound.
          let s : HasStatesOn (RowKeeps q) o.0 n bound (states_of q plan n bound) = o.2 n bound in
          record { states = s.states; size = s.size; all = λ h few near. s.all h (rows-none q none h) few near },
    )

at_most : (d : Bool) (a c n bound : ℕ) → cond d ((2 * bound + 3) ^ c * 2 ^ a) ((n + 1) ^ c) ≤ (4 * 2 ^ a * (n + bound + 1)) ^ suc c
at_most d a c n bound =
    let o : 2 ^ 0 ≤ 2 ^ a = pow_mono {i = 0} {j = a} (omega arith) in
    let f : 4 * (n + bound + 1) ≤ base = mul-le-mul {n₁ = 4} {m₁ = n + bound + 1} {n₂ = 4 * 2 ^ a} {m₂ = n + bound + 1} (omega (arith, o)) (omega arith) in
    let g : 2 ^ a * 1 ≤ base = mul-le-mul {n₁ = 2 ^ a} {m₁ = 1} {n₂ = 4 * 2 ^ a} {m₂ = n + bound + 1} (omega arith) (omega arith) in
    by d f (omega (arith, g)) (omega (arith, f))
  where
    base : ℕ
    base = 4 * 2 ^ a * (n + bound + 1)

    by : (d : Bool) → 4 * (n + bound + 1) ≤ base → 2 ^ a ≤ base → 1 ≤ base → cond d ((2 * bound + 3) ^ c * 2 ^ a) ((n + 1) ^ c) ≤ base ^ suc c
    by true f g h =
        let m : (2 * bound + 3) ^ c * 2 ^ a ≤ base ^ c * base
        = mul-le-mul {n₁ = (2 * bound + 3) ^ c} {m₁ = 2 ^ a} {n₂ = base ^ c} {m₂ = base} (pow-le-pow_left (omega (arith, f)) c) g in
        omega (arith, m, pow-suc base c)
    by false f g h =
        let m : (n + 1) ^ c * 1 ≤ base ^ c * base
        = mul-le-mul {n₁ = (n + 1) ^ c} {m₁ = 1} {n₂ = base ^ c} {m₂ = base} (pow-le-pow_left (omega (arith, f)) c) h in
        omega (arith, m, pow-suc base c)

-- as many states as cells and answers tell are polynomially many
pub told-are-polynomial : (e : Evaluator) (q : QueryValue) (plan : List PartPlan) → ((n bound : ℕ) → HasStates e n bound (states_of q plan n bound)) → HasPolynomiallyManyStates e
told-are-polynomial e q plan has = record {
  factor = 4 * 2 ^ answer_bound q plan;
  exponent = suc (cell_count plan);
  states = λ n bound.
      let s : HasStates e n bound (states_of q plan n bound) = has n bound in
      record { states = s.states; size = le_trans s.size (at_most q.distinct (answer_bound q plan) (cell_count plan) n bound); all = s.all };
}

-- a number of rows after which so many states are few
record FewAfter (factor exponent b : ℕ) : Type 0 where
  rows : ℕ
  few : (factor * (rows + b * suc rows + 1)) ^ exponent < 2 ^ rows

few-after : (factor exponent b : ℕ) → FewAfter factor exponent b
few-after factor exponent b = record { rows = 2 ^ o.m; few = omega (arith, few) }
  where
    c : ℕ
    c = factor + b + 3

    o : Outgrows (suc exponent) c
    o = outgrows (suc exponent) c

    sum : 2 ^ o.m + b * suc (2 ^ o.m) + 1 ≤ 2 ^ (b + (o.m + 2))
    sum =
        let e : 2 ^ (b + (o.m + 2)) ≡ 2 ^ b * 2 ^ (o.m + 2) = pow-add 2 b (o.m + 2) in
        let d : 2 ^ (o.m + 2) ≡ 2 ^ o.m * 2 ^ 2 = pow-add 2 o.m 2 in
        let r : 2 ^ 0 ≤ 2 ^ o.m = pow_mono {i = 0} {j = o.m} (omega arith) in
        let m : suc b * (2 * suc (2 ^ o.m)) ≤ 2 ^ b * 2 ^ (o.m + 2)
        = mul-le-mul {n₁ = suc b} {m₁ = 2 * suc (2 ^ o.m)} {n₂ = 2 ^ b} {m₂ = 2 ^ (o.m + 2)} (omega (arith, self-below b)) (omega (arith, d, r)) in
        let f : suc b * (2 * suc (2 ^ o.m)) ≡ 2 * (b * suc (2 ^ o.m)) + 2 * suc (2 ^ o.m) = grind arith in
        omega (arith, e, m, f)

    base : factor * (2 ^ o.m + b * suc (2 ^ o.m) + 1) ≤ 2 ^ (o.m + c)
    base =
        let m : factor * (2 ^ o.m + b * suc (2 ^ o.m) + 1) ≤ 2 ^ factor * 2 ^ (b + (o.m + 2))
        = mul-le-mul {n₁ = factor} {m₁ = 2 ^ o.m + b * suc (2 ^ o.m) + 1} {n₂ = 2 ^ factor} {m₂ = 2 ^ (b + (o.m + 2))} (omega (arith, self-below factor)) sum in
        let e : 2 ^ (factor + (b + (o.m + 2))) ≡ 2 ^ factor * 2 ^ (b + (o.m + 2)) = pow-add 2 factor (b + (o.m + 2)) in
        let l : 2 ^ (factor + (b + (o.m + 2))) ≤ 2 ^ (o.m + c) = pow_mono {i = factor + (b + (o.m + 2))} {j = o.m + c} (omega arith) in
        omega (arith, m, e, l)

    few : (factor * (2 ^ o.m + b * suc (2 ^ o.m) + 1)) ^ exponent < 2 ^ 2 ^ o.m
    few =
        let m : (factor * (2 ^ o.m + b * suc (2 ^ o.m) + 1)) ^ exponent ≤ (2 ^ (o.m + c)) ^ exponent = pow-le-pow_left base exponent in
        let f : 2 ^ ((o.m + c) * exponent) ≡ (2 ^ (o.m + c)) ^ exponent = pow-mul 2 (o.m + c) exponent in
        let g : suc exponent * (o.m + c) ≤ 2 ^ o.m = o.holds in
        let h : suc exponent * (o.m + c) ≡ exponent * (o.m + c) + (o.m + c) = grind arith in
        let l : 2 ^ ((o.m + c) * exponent) < 2 ^ 2 ^ o.m = pow_below ((o.m + c) * exponent) (2 ^ o.m) (omega (arith, g, h, mul_comm (o.m + c) exponent)) in
        omega (arith, m, f, l)

pub polynomially-many-are-few : PolynomiallyManyAreFew
polynomially-many-are-few e p b =
    let o : FewAfter p.factor p.exponent b = few-after p.factor p.exponent b in
    record { n = o.rows; most = (p.factor * (o.rows + b * suc o.rows + 1)) ^ p.exponent; states = p.states o.rows (b * suc o.rows); few = o.few }

pub serving-has-few-states : ServingHasFewStates
serving-has-few-states q plan within planned follow =
    let e = serving-has-states q plan within planned follow in (
      e.0,
      e.1,
      λ b.
          let o : FewAfter (4 * 2 ^ answer_bound q plan) (suc (cell_count plan)) b = few-after (4 * 2 ^ answer_bound q plan) (suc (cell_count plan)) b in
          let s : HasStatesOn (RowKeeps q) e.0 o.rows (b * suc o.rows) (states_of q plan o.rows (b * suc o.rows)) = e.2 o.rows (b * suc o.rows) in
          record {
            n = o.rows;
            most = (4 * 2 ^ answer_bound q plan * (o.rows + b * suc o.rows + 1)) ^ suc (cell_count plan);
            states = record { states = s.states; size = le_trans s.size (at_most q.distinct (answer_bound q plan) (cell_count plan) o.rows (b * suc o.rows)); all = s.all };
            few = o.few;
          },
    )
