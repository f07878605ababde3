-- Which cells are saturated is seen of the cells of a plan, and of all cells of its extent alike.
use Rattle.std.proofs.Common.{◌≡◌, ℕ, zero, suc, ◌+◌, ◌<◌, ◌==◌, nat_eq, cond, Bool, true, false, ℤ, List, [], ◌∷◌, map, filter, length, refl, sym, ap, ◌∙◌, subst, arith, All, Contains}
use Rattle.std.specs.List.{range_with_len}
use Rattle.std.proofs.lemmas.List.Elements.{All-contains}
use Rattle.sem_query.specs.declared.cell.Cell.{Cell}
use Rattle.sem_query.specs.declared.plan.PartPlan.{PartPlan}
use Rattle.sem_query.specs.declared.plan.Plan.{Plan}
use Rattle.sem_query.specs.declared.plan.Plan.TheVariants as plan
use Rattle.sem_query.specs.Query.{QueryValue}
use Rattle.sem_query.specs.Meaning.{Arrival, product}
use Rattle.sem_query.specs.Boxes.{box_size}
use Rattle.sem_query.specs.Plan.{stream_at, dims_at}
use Rattle.sem_query.specs.Serving.{KeepsStreams}
use Rattle.sem_query.specs.Combinations.{Choice, Reading, choice, cell_choice, chosen_values, linked, found}
use Rattle.sem_query.specs.Probing.{choices_beside, found_beside}
use Rattle.sem_query.specs.Future.{spelled_out}
use Rattle.sem_query.specs.Numbers.{places, parts_of, work}
use Rattle.sem_query.specs.declared.plan.Numbers.{Numbers}
use Rattle.sem_query.proofs.Has.{Has, first, later, same_map, Contains-from_has}
use Rattle.sem_laws.specs.Closed.{IsSaturated}
use Rattle.sem_laws.proofs.ByValues.{choices-go-by-values}
use Rattle.sem_laws.proofs.Walking.{plans-are-walkable}
use Rattle.exec_pool.specs.declared.pool.Extent.{Extent}
use Rattle.exec_pool.specs.Extents.{PoolValue}
use Rattle.exec_synopsis.specs.Premises.{IsReady}
use Rattle.exec_part_index.specs.declared.prepared.PreparedPlan.{PreparedPlan}
use Rattle.exec_part_index.specs.Prepared.{IsPreparedPlan}
use Rattle.exec_saturation.specs.declared.saturation.Saturation.{Saturation}
use Rattle.exec_saturation.specs.Known.{AreSaturated}
use Rattle.exec_saturation.specs.Looking.{CanLook, CanLookAt}
use Rattle.sem_forms.specs.Forms.{IsServingForm}
use Rattle.exec_query.specs.CellSteps.{AreReady, IsPlanReady}
use Rattle.exec_query.proofs.Founds.{Agree, choices_at-same}
use Rattle.exec_query.proofs.Inserting.{get_has}
use Rattle.exec_query.proofs.HeldParts.{held-part}

below-range : (a n i : ℕ) → Has (range_with_len a n) i → i < a + n
below-range a zero i h = elim h [ ]
below-range a (suc n) i h = by i h (below-range (a + 1) n i)
  where
    by : (i : ℕ) → Has (a ∷ range_with_len (a + 1) n) i → (Has (range_with_len (a + 1) n) i → i < (a + 1) + n) → i < a + suc n
    by i first f = omega arith
    by i (later k) f = (let l = f k in omega (arith, l))

module _ (q : QueryValue) (part : PartPlan) (own : KeepsStreams q part) (read other : Reading) (agree : Agree part (length q.from) read other) where
  abbrev apart : Arrival
  apart = record { stream = 0; values = [] }

  size-is : nat_eq (length q.from) 1 ≡ false → (place : ℕ) → place < length q.from → (stream_at part place).size ≡ box_size (dims_at part place)
  size-is many place l = own.size place l ∙ ap (λ b. cond b 0 (box_size (dims_at part place))) many

  beside-same : nat_eq (length q.from) 1 ≡ false → (arriving : ℕ) (v : ℕ → ℤ) (place : ℕ) → place < length q.from
      → choices_beside q part read arriving v place ≡ choices_beside q part other arriving v place
  beside-same many arriving v place l =
      ap (λ (xs : List Choice). cond (place == arriving) (choice v 1) xs)
      (sym (choices-go-by-values q part read apart place 1 refl (size-is many place l))
      ∙ choices_at-same q part read other apart place 1 (λ i k. agree place i l k)
      ∙ choices-go-by-values q part other apart place 1 refl (size-is many place l))

  finds-same : nat_eq (length q.from) 1 ≡ false → (arriving : ℕ) (v : ℕ → ℤ) → found_beside q part read arriving v ≡ found_beside q part other arriving v
  unfolding found_beside
  finds-same many arriving v =
      ap (λ cs. map (found q) (filter (λ chosen. linked part (chosen_values chosen)) (product cs)))
      (same_map (choices_beside q part read arriving v) (choices_beside q part other arriving v) (places part)
      (λ place k. beside-same many arriving v place (let l = below-range 0 (length part.streams.items) place k in let c = own.count in omega (arith, l, c))))

  -- a cell of one stream alone there is none
  many-streams : (place i : ℕ) → place < length q.from → i < (stream_at part place).size → nat_eq (length q.from) 1 ≡ false
  many-streams place i l k = by (nat_eq (length q.from) 1) refl
    where
      by : (b : Bool) → nat_eq (length q.from) 1 ≡ b → b ≡ false
      by false e = refl
      by true e = absurd (let none = own.size place l ∙ ap (λ b. cond b 0 (box_size (dims_at part place))) e in omega (arith, none, k))

  pub saturated-same : (table : List (List ℤ)) (place i : ℕ) → place < length q.from → i < (stream_at part place).size
      → IsSaturated q part read table place i → IsSaturated q part other table place i
  saturated-same table place i l k was c among some t finds =
      was c (subst (λ (d : Cell). Contains (cell_choice q part place i d) c) (sym (agree place i l k)) among) some t
      (subst (λ fs. Contains (spelled_out fs) t) (sym (finds-same (many-streams place i l k) place c.values)) finds)

-- so of all cells of which it is known
pub are-same : (known : Saturation) (q : QueryValue) (parts : List PartPlan) → All (KeepsStreams q) parts → (read other : Reading)
    → ((part : PartPlan) → Has parts part → Agree part (length q.from) read other) → (table : List (List ℤ))
    → AreSaturated known q parts read table → AreSaturated known q parts other table
are-same known q parts plans read other agree table are n part there place i l m is =
    let k : Has parts part = get_has parts n part there in
    saturated-same q part (All-contains (KeepsStreams q) parts part plans (Contains-from_has parts part k)) read other (agree part k) table place i l m
    (are n part there place i l m is)

-- parts that are ready for a row are ready to be looked at
each-ready : (q : QueryValue) (parts : List PartPlan) (pool : PoolValue) (e : Extent) → AreReady q parts pool e → (part : PartPlan) → Contains parts part → IsReady q part pool e
each-ready q parts pool e ready part k = record { held = held-part q parts e pool ready pool ready.live part k; fitting = ready.fitting part k }

pub can-look : (q : QueryValue) (parts : List PartPlan) (asked : PreparedPlan) (pool : PoolValue) (e : Extent) (wide most : ℕ) → AreReady q parts pool e
    → q.distinct ≡ true → length q.from ≡ 2 → IsPreparedPlan q parts asked → wide ≡ length q.select → most ≡ work parts → CanLook q parts asked pool e wide most
can-look q parts asked pool e wide most ready d two prepared width is = record {
  distinct = d;
  prepared = prepared;
  ready = each-ready q parts pool e ready;
  width = sym width;
  two = two;
  shares = λ part k. (let within = (plans-are-walkable q parts ready.plan.plans ready.cells ready.inside part k).2 in omega (arith, within, is));
}

-- a plan announces the work of its parts
abbrev pub AnnouncesWork : Plan → Type 0
AnnouncesWork plan.Filter = Unit {0}
AnnouncesWork (plan.Parts parts numbers) = numbers.work ≡ work parts

pub announces-work : (shared : Bool) (q : QueryValue) (p : Plan) → IsServingForm shared q p → AnnouncesWork p
announces-work shared q plan.Filter is = tt
announces-work true q (plan.Parts parts numbers) is = ap (λ (n : Numbers). n.work) is.3
announces-work false q (plan.Parts parts numbers) is = ap (λ (n : Numbers). n.work) is.3

pub can-look-at : (q : QueryValue) (p : Plan) (asked : PreparedPlan) (pool : PoolValue) (e : Extent) (wide : ℕ) → IsPlanReady q p pool e → AnnouncesWork p
    → IsPreparedPlan q (parts_of p) asked → wide ≡ length q.select → CanLookAt q p asked pool e wide
can-look-at q plan.Filter asked pool e wide ready announced prepared width = tt
can-look-at q (plan.Parts parts numbers) asked pool e wide ready announced prepared width = λ d two.
    can-look q parts asked pool e wide numbers.work ready d two prepared width announced
