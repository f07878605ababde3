-- What is left of the dims of a place.
use Rattle.std.proofs.Common.{◌≡◌, ◌≢◌, ℕ, ◌<◌, ◌==◌, Bool, true, false, List, [], map, length, refl, subst, arith, ℤ, if◌then◌else◌}
use Rattle.std.proofs.lemmas.Bool.Decides.{nat_tests}
use Rattle.sem_query.specs.Boxes.{box_size, AreNumbered, AreFull, AreInside}
use Rattle.sem_query.specs.declared.part.Pair.{Pair}
use Rattle.sem_query.specs.declared.plan.Dim.{Dim}
use Rattle.sem_query.specs.declared.plan.PartPlan.{PartPlan}
use Rattle.sem_query.specs.Plan.{stream_at, dims_at}
use Rattle.sem_query.proofs.BoxLaws.{sound-full}
use Rattle.exec_ranges.specs.declared.binding.Binding.{Binding}
use Rattle.exec_ranges.specs.Values.{value_in}
use Rattle.exec_ranges.specs.Narrowed.{dims_in, narrowed_dims}
use Rattle.exec_synopsis.specs.Narrowing.{narrow}
use Rattle.exec_synopsis.specs.Premises.{IsLaidOut}
use Rattle.exec_ranges.proofs.NarrowLaws.{narrower, map-low, map-sound, map-inside}

pub record AreWhole (ds : List Dim) : Type 0 where
  pub full : AreFull ds
  pub sound : AreNumbered ds

pub dims-whole : (part : PartPlan) (arriving cells place : ℕ) → (place ≢ arriving → IsLaidOut (stream_at part place) cells) → AreWhole (dims_in part arriving place)
unfolding dims_in
dims-whole part arriving cells place r = by (place == arriving) refl
  where
    by : (t : Bool) → (place == arriving) ≡ t → AreWhole (if t then [] else (dims_at part place))
    by true e = record { full = tt; sound = tt }
    by false e =
        let other : place ≢ arriving = grind (arith, nat_tests) in
        let out = r other in
        record { full = out.full; sound = sound-full _ out.full (omega (arith, out.size, out.few)) }

module _ (ps : List Pair) (part : PartPlan) (arriving : ℕ) (row : List ℤ) (cells : ℕ) (known : List Binding) (r : length known ≢ arriving → IsLaidOut (stream_at part (length known)) cells) where
  pub sound-narrowed : AreNumbered (narrowed_dims ps part arriving row known)
  unfolding narrowed_dims
  sound-narrowed = let d = dims-whole part arriving cells (length known) r in map-sound _ (narrower arriving (length known) part.equal.items part.less.items (value_in ps part arriving row known)) _ d.full d.sound

  pub inside-narrowed : (vs : List ℤ) → AreInside (narrowed_dims ps part arriving row known) vs → AreInside (dims_in part arriving (length known)) vs
  unfolding narrowed_dims
  inside-narrowed vs i = let d = dims-whole part arriving cells (length known) r in map-inside _ (narrower arriving (length known) part.equal.items part.less.items (value_in ps part arriving row known)) _ vs d.full i

  pub dims-beside : length known ≢ arriving → dims_in part arriving (length known) ≡ dims_at part (length known)
  unfolding dims_in
  dims-beside n = by (length known == arriving) refl
    where
      by : (t : Bool) → (length known == arriving) ≡ t → (if t then [] else dims_at part (length known)) ≡ dims_at part (length known)
      by true e = absurd (n (grind (arith, nat_tests)))
      by false e = refl

  pub low-narrowed : length known ≢ arriving → 0 < box_size (narrowed_dims ps part arriving row known) → AreInside (dims_at part (length known)) (map (λ d. d.lo) (narrowed_dims ps part arriving row known))
  unfolding narrowed_dims
  low-narrowed n some =
      let d = dims-whole part arriving cells (length known) r in
      subst (λ ds. AreInside ds (map (λ e. e.lo) (map (narrow arriving (length known) part.equal.items part.less.items (value_in ps part arriving row known)) (dims_in part arriving (length known))))) (dims-beside n)
      (map-low _ (narrower arriving (length known) part.equal.items part.less.items (value_in ps part arriving row known)) _ d.full some)
