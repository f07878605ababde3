-- Links that say nothing of a dim leave it as it is.
use Rattle.std.proofs.Common.{◌≡◌, ◌≢◌, ℕ, ◌+◌, ◌*◌, ◌^◌, List, [], ◌∷◌, length, map, refl, sym, ap, ◌∙◌, subst, arith, ℤ, ◌-ℤ◌, nat_abs}
use Rattle.std.proofs.lemmas.Int.{ints}
use Rattle.std.specs.Prelude.{Some}
use Rattle.sem_query.specs.Boxes.{box_size, place_of}
use Rattle.sem_query.specs.declared.part.Pair.{Pair}
use Rattle.sem_query.specs.declared.plan.Dim.{Dim}
use Rattle.sem_query.specs.declared.plan.PartPlan.{PartPlan}
use Rattle.sem_query.specs.Plan.{stream_at, dims_at}
use Rattle.sem_query.proofs.BoxLaws.{place-values}
use Rattle.exec_ranges.specs.declared.binding.Binding.{Binding}
use Rattle.exec_ranges.specs.Lined.{IsLine, StandOn, AreFixed}
use Rattle.exec_synopsis.specs.Pinning.{IsWhole}
use Rattle.exec_synopsis.specs.Premises.{IsLaidOut}
use Rattle.exec_ranges.specs.Values.{value_in}
use Rattle.exec_synopsis.specs.Narrowing.{narrow}
use Rattle.exec_ranges.specs.Narrowed.{narrowed_dims}
use Rattle.exec_ranges.proofs.DimLaws.{dims-beside}

-- the least values stand first
place-low : (ds : List Dim) → place_of ds (map (λ d. d.lo) ds) ≡ 0
place-low [] = refl
place-low (d ∷ ds) =
    let z : nat_abs (d.lo -ℤ d.lo) ≡ 0 = omega (arith, ints) in
    (λ k. z k * box_size ds + place-low ds k) ∙ none (box_size ds)
  where
    none : (s : ℕ) → 0 * s + 0 ≡ 0
    none s = omega arith

-- a level at which all values are left
module _ (ps : List Pair) (part : PartPlan) (arriving : ℕ) (row : List ℤ) (known : List Binding) (laid : IsLaidOut (stream_at part (length known)) (2 ^ 32)) (other : length known ≢ arriving) (whole : IsWhole part arriving (length known)) where
  pub whole-dims : narrowed_dims ps part arriving row known ≡ dims_at part (length known)
  unfolding narrowed_dims
  whole-dims =
      ap (map (narrow arriving (length known) part.equal.items part.less.items (value_in ps part arriving row known))) (dims-beside ps part arriving row (2 ^ 32) known (λ n. laid) other)
      ∙ whole (value_in ps part arriving row known)

  pub whole-size : (stream_at part (length known)).size ≡ box_size (narrowed_dims ps part arriving row known)
  whole-size = laid.size ∙ ap box_size (sym whole-dims)

  pub whole-line : StandOn part arriving (length known) (narrowed_dims ps part arriving row known) (Some (record { first = (stream_at part (length known)).base; stride = 1 }))
  whole-line = (
    other,
    subst (λ ds. IsLine (stream_at part (length known)).base (dims_at part (length known)) ds (record { first = (stream_at part (length known)).base; stride = 1 })) (sym whole-dims)
        (λ i l. let p = place-values (dims_at part (length known)) i l in omega (arith, p)),
  )

  -- there is one combination of them
  pub whole-fixed : (stream_at part (length known)).size ≡ 1 → AreFixed part (length known) (narrowed_dims ps part arriving row known) (dims_at part (length known)) (stream_at part (length known)).base
  whole-fixed one = record {
    are = sym whole-dims;
    one = sym laid.size ∙ one;
    cell = (let p = place-low (dims_at part (length known)) in omega (arith, p));
  }
