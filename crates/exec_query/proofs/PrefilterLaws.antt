-- What a prefilter says of a row that does not pass it.
use Rattle.std.proofs.Common.{take, ◌≡◌, ℕ, suc, ◌<◌, ◌==◌, ◌&&◌, ◌||◌, cond, Bool, true, false, ℤ, List, [], ◌∷◌, ◌++◌, map, length, get_or, refl, sym, ap, ◌∙◌, subst, arith, inl, inr, Option}
use Rattle.std.specs.List.{flat_map, list_any}
use Rattle.std.specs.Option.{option_to_list}
use Rattle.std.proofs.lemmas.Option.{slice_get_within, get_or_from_slice_get}
use Rattle.sem_query.specs.declared.plan.PartPlan.{PartPlan}
use Rattle.sem_query.specs.declared.plan.Numbers.{Numbers}
use Rattle.sem_query.specs.declared.plan.Plan.{Plan}
use Rattle.sem_query.specs.declared.plan.Plan.TheVariants as plan
use Rattle.sem_query.specs.Query.{QueryValue, IsWithinLimits}
use Rattle.sem_query.specs.Meaning.{Arrival, by_column}
use Rattle.sem_query.specs.Plan.{stream_at}
use Rattle.exec_synopsis.specs.Premises.{AreKeeping}
use Rattle.sem_query.specs.Numbers.{parts_of}
use Rattle.sem_query.specs.Admission.{admits}
use Rattle.sem_query.specs.Cells.{content}
use Rattle.sem_query.specs.Merge.{merged}
use Rattle.sem_query.specs.Combinations.{Reading, Found, found_in, read_from}
use Rattle.sem_query.specs.declared.cell.Cell.{Cell}
use Rattle.sem_laws.proofs.Tests.{and-left, and-right, not_both, true_or_false, nat_true}
use Rattle.exec_pool.specs.declared.pool.Extent.{Extent}
use Rattle.exec_pool.specs.Extents.{PoolValue, cells_of}
use Rattle.exec_filter.specs.Prefilter.{IsRefused}
use Rattle.exec_part_index.specs.Owners.{has_base}
use Rattle.exec_query.specs.CellSteps.{lies, IsInserted, HasTaken, IsPlanReady, answered_by}
use Rattle.exec_query.proofs.InPart.{found_refused}
use Rattle.exec_query.proofs.Inserting.{part_plan}
use Rattle.exec_query.proofs.PartCells.{taken_start, with_own}

none_there : (a b : Bool) → b ≡ false → false ≡ (a && b)
none_there true b e = sym e
none_there false b e = refl

any_place : (x : ℕ) (from : List ℕ) → list_any (λ s. x == s) from ≡ true → (i : ℕ) × (i < length from) × (get_or from i 0 ≡ x)
any_place x [] h = absurd cc
any_place x (s ∷ from) h = by (x == s) refl (any_place x from) h
  where
    by : (b : Bool) → (x == s) ≡ b → (list_any (λ s. x == s) from ≡ true → (i : ℕ) × (i < length from) × (get_or from i 0 ≡ x))
        → (b || list_any (λ s. x == s) from) ≡ true → (i : ℕ) × (i < length (s ∷ from)) × (get_or (s ∷ from) i 0 ≡ x)
    by true e rest h = (0, omega arith, sym (nat_true x s e))
    by false e rest h = let k = rest h in let l = k.1 in (suc k.0, omega (arith, l), k.2)

flat_none : {X Y : Type 0} (f : X → List Y) (xs : List X) → ((n : ℕ) (d : X) → n < length xs → f (get_or xs n d) ≡ []) → flat_map f xs ≡ []
flat_none f [] h = refl
flat_none f (x ∷ xs) h = ap (λ ys. ys ++ flat_map f xs) (h 0 x (omega arith)) ∙ flat_none f xs (λ n d l. h (suc n) d (omega (arith, l)))

-- a refused row is answered nothing
pub refused_answers : (q : QueryValue) (p : Plan) (pool : PoolValue) (e : Extent) → IsPlanReady q p pool e → (read : Reading) (r : Arrival) → IsRefused q p r
    → answered_by q p read r ≡ []
refused_answers q plan.Filter pool e ready read r refused =
    ap (λ (o : Option (List ℤ)). map (λ t. let f : Found = record { tuple = t; count = 1 } in f) (option_to_list o)) refused
refused_answers q (plan.Parts parts numbers) pool e ready read r refused = by (list_any (λ s. r.stream == s) q.from) refl
  where
    by : (b : Bool) → list_any (λ s. r.stream == s) q.from ≡ b → cond b (flat_map (λ part. found_in q part read r) parts) [] ≡ []
    by false h = refl
    by true h =
        let k = any_place r.stream q.from h in
        flat_none (λ part. found_in q part read r) parts (λ n d l.
        subst (λ (s : ℕ). found_in q (get_or parts n d) read (record { stream = s; values = r.values }) ≡ []) k.2
        (found_refused q (get_or parts n d) ready.limits (ready.plan.plans n d l) k.0 k.1 r.values read (refused n d k.0 l k.1 k.2)))

inserted_refused : (q : QueryValue) (parts : List PartPlan) (numbers : Numbers) → IsWithinLimits q → AreKeeping q parts → (r : Arrival) → IsRefused q (plan.Parts parts numbers) r
    → (n : ℕ) (cells : List Cell) → IsInserted q parts r n cells cells
inserted_refused q parts numbers within is r refused n cells = record {
  size = refl;
  at =
      λ m part place i b.
      let l : place < length q.from = (let c = (part_plan q parts within is m part b.at).count in let t = b.there in omega (arith, c, t)) in
      let f : lies q r part place i ≡ false = elim (true_or_false (lies q r part place i)) [
        | inr f ↦ f
        | inl t ↦ absurd (
            let s : get_or q.from place 0 ≡ r.stream = sym (nat_true r.stream (get_or q.from place 0) (and-left _ _ t)) in
            let out = refused m part place (slice_get_within parts m part b.at) l s in
            let a : admits q part place (by_column r.values) ≡ true = and-left _ _ (and-right (r.stream == get_or q.from place 0) _ t) in
            not_both (admits q part place (by_column r.values)) a (ap (λ p. admits q p place (by_column r.values)) (sym (get_or_from_slice_get parts m part part b.at)) ∙ out))
      ] in
      ap (λ t. cond t (merged (stream_at part place).kind (read_from cells part place i) (content (stream_at part place).kind (r.values ∷ []))) (read_from cells part place i)) (none_there (has_base (take n parts) part place) (lies q r part place i) f);
  rest = λ k none. refl;
}

-- and no cell takes it
pub refused_taken : (q : QueryValue) (p : Plan) (pool : PoolValue) (e : Extent) → IsPlanReady q p pool e → (r : Arrival) → IsRefused q p r
    → HasTaken q (parts_of p) e r (length (parts_of p)) pool pool
refused_taken q plan.Filter pool e ready r refused = taken_start q [] e r pool ready
refused_taken q (plan.Parts parts numbers) pool e ready r refused = record {
  live = ready.live;
  only = with_own pool e ready.live;
  inserted = inserted_refused q parts numbers ready.limits ready.plan r refused (length parts) (cells_of pool e);
}
