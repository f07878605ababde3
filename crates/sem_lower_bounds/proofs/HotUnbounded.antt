-- Hot-rooms without bounds is refused in its first part.
use Rattle.std.proofs.Common.{◌≡◌, ℕ, List, [], ◌∷◌, true, refl, subst, arith, pos, Some}
use Rattle.sem_query.proofs.Has.{Has, first, later, Has-nil, Has-from_contains, Contains-from_has}
use Rattle.sem_query.proofs.Bounded.{unbounded_over_all}
use Rattle.std.proofs.lemmas.List.Elements.{Contains-get_or}
use Rattle.sem_query.specs.declared.condition.Condition.{Condition}
use Rattle.sem_query.specs.declared.condition.Condition.TheVariants.{C1, C2, C3}
use Rattle.sem_query.specs.declared.part.Sign.{Sign}
use Rattle.sem_query.specs.Assignment.{Assignment}
use Rattle.sem_query.specs.Meaning.{assignment_of}
use Rattle.sem_query.specs.Parts.{pairs, signs_lt, IsPart, AreParts}
use Rattle.sem_query.specs.Order.{IsBounded}
use Rattle.sem_query.specs.Violation as Violation
use Rattle.sem_query.specs.Violation.{condition_lt, Breaks, IsViolation}
use Rattle.sem_laws.proofs.Limits.{within-limits}
use Rattle.sem_laws.proofs.PartsListed.{elements_of, covers, root_table, all-parts}
use Rattle.sem_laws.proofs.PlanTests.{pairs-ascend}
use Rattle.sem_laws.proofs.PlanIs.{is_inside, inside-if}
use Rattle.sem_lower_bounds.specs.Cases.{s_a, hot_unbounded, at_first, IsRefused}
use Rattle.sem_lower_bounds.proofs.Plainly.{plain-if}
use Rattle.sem_lower_bounds.proofs.OnePart.{earlier}
use Rattle.sem_lower_bounds.proofs.Refused.{refused-needs-states}

-- the room below the temperature and the limit, and its other places
abbrev part : Sign → Sign → List Sign
part of_temp of_lim = of_temp ∷ of_lim ∷ []

abbrev parts : List (List Sign)
parts = part Sign.Lt Sign.Lt ∷ part Sign.Lt Sign.Eq ∷ part Sign.Lt Sign.Gt ∷ part Sign.Eq Sign.Gt ∷ part Sign.Gt Sign.Gt ∷ []

-- a room, a temperature and a limit
abbrev at : ℕ → ℕ → ℕ → Assignment
at room temp lim = assignment_of ((pos room ∷ pos temp ∷ []) ∷ (pos room ∷ pos lim ∷ []) ∷ [])

some : (s : List Sign) (w : Assignment) → is_inside hot_unbounded s w ≡ true → IsPart hot_unbounded s
some s w h = record { one = w; inside = inside-if hot_unbounded s w h }

each : (s : List Sign) → Has parts s → IsPart hot_unbounded s
unfolding pairs
each s first = some (part Sign.Lt Sign.Lt) (at 0 2 1) refl
each s (later first) = some (part Sign.Lt Sign.Eq) (at 0 1 0) refl
each s (later (later first)) = some (part Sign.Lt Sign.Gt) (at 1 2 0) refl
each s (later (later (later first))) = some (part Sign.Eq Sign.Gt) (at 1 1 0) refl
each s (later (later (later (later first)))) = some (part Sign.Gt Sign.Gt) (at 2 1 0) refl
each s (later (later (later (later (later h))))) = Has-nil h

covered : covers (elements_of hot_unbounded) (root_table hot_unbounded) (pairs hot_unbounded) parts ≡ true
unfolding pairs
covered = refl

are_parts : AreParts hot_unbounded parts
are_parts = record {
  ascending = pairs-ascend signs_lt parts refl;
  each = λ k d l. each _ (Has-from_contains _ _ (Contains-get_or parts k d l));
  all = λ s p. Contains-from_has parts s (subst (Has parts) p.inside.signs (all-parts hot_unbounded p.one parts covered p.inside.holds p.inside.domains));
}

none_before : (c : Condition) → condition_lt c C1 ≡ true → ⊥
none_before C1 l = absurd cc
none_before C2 l = absurd cc
none_before C3 l = absurd cc

unbounded : IsBounded hot_unbounded (part Sign.Lt Sign.Lt) s_a → ⊥
unbounded b = unbounded_over_all hot_unbounded (part Sign.Lt Sign.Lt) (each (part Sign.Lt Sign.Lt) first) s_a (λ k h. Has-nil (Has-from_contains [] k h)) b

breaks : Breaks hot_unbounded (part Sign.Lt Sign.Lt) C1 s_a
breaks = ((0, omega arith, refl), unbounded)

violated : IsViolation hot_unbounded (Some record { part = 1; condition = C1; attr = s_a })
violated = Violation.first refl parts are_parts (
  record { signs = part Sign.Lt Sign.Lt; number = omega arith; at = refl; breaks = breaks },
  λ g l k. none_before g.condition (earlier g.part g.condition C1 g.attr k.number l),
)

pub hot-refused : IsRefused hot_unbounded (at_first C1)
hot-refused = record {
  limits = within-limits hot_unbounded refl;
  plain = plain-if hot_unbounded refl refl refl;
  violation = violated;
  needs = refused-needs-states hot_unbounded (within-limits hot_unbounded refl) (plain-if hot_unbounded refl refl refl) record { part = 1; condition = C1; attr = s_a } violated;
}
