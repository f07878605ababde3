-- Hot-rooms without DISTINCT is refused in its thirteenth part, where temperature and limit are above 4.
use Rattle.std.proofs.Common.{◌≡◌, ℕ, zero, suc, ◌-◌, ◌<◌, ◌⊎◌, inl, inr, List, [], ◌∷◌, ◌++◌, map, take, true, ◌&&◌, refl, sym, ap, ◌∙◌, subst, arith, nat_lt, nat_eq, pos, Some, slice_get}
use Rattle.std.proofs.lemmas.Bool.Decides.{nat_tests}
use Rattle.std.specs.List.{list_all}
use Rattle.sem_query.proofs.Has.{Has, first, later, Has-nil, Has-from_contains, Has-map_from}
use Rattle.sem_query.specs.declared.atom.Attr.{Attr}
use Rattle.sem_query.specs.declared.condition.Condition.{Condition}
use Rattle.sem_query.specs.declared.condition.Condition.TheVariants.{C1, C2, C3}
use Rattle.sem_query.specs.declared.part.Sign.{Sign}
use Rattle.sem_query.specs.declared.plan.Kind.{Kind}
use Rattle.sem_query.specs.declared.plan.Link.{Link}
use Rattle.sem_query.specs.declared.plan.PartPlan.{PartPlan}
use Rattle.sem_query.specs.Query.{attrs_of, attr_lt}
use Rattle.sem_query.specs.Assignment.{Assignment}
use Rattle.sem_query.specs.Parts.{pairs, InPart, AreParts}
use Rattle.sem_query.specs.Order.{IsBounded}
use Rattle.sem_query.specs.Links.{IsEquality, IsMaxRef}
use Rattle.sem_query.specs.Plan.{link}
use Rattle.sem_query.specs.Violation as Violation
use Rattle.sem_query.specs.Violation.{condition_lt, Failure, failure_lt, Fails, Breaks, IsViolation}
use Rattle.sem_laws.specs.Cases.{col}
use Rattle.sem_laws.specs.HotRooms.{hot_rooms, hot_rooms_plan, hot_part, box_of, over_four}
use Rattle.sem_laws.proofs.HotRoomsPlan.{rows, hot_rooms_within, hot_rooms-planned}
use Rattle.sem_laws.proofs.Limits.{within-limits}
use Rattle.sem_laws.proofs.OnePartFits.{has_cases}
use Rattle.sem_laws.proofs.PartsListed.{part_table}
use Rattle.sem_laws.proofs.PlanTests.{links_test}
use Rattle.sem_laws.proofs.PlanTested.{bounded-if, equal-complete, in-order, turned, max-ref}
use Rattle.sem_laws.proofs.PlanIs.{is_inside, inside-if}
use Rattle.sem_laws.proofs.PlanKeeps.{unbroken, none-broken}
use Rattle.sem_laws.proofs.Tests.{all_at, and-left, and-right, or-cases, nat_true}
use Rattle.sem_lower_bounds.specs.Cases.{hot_counted, IsRefused}
use Rattle.sem_lower_bounds.proofs.Plainly.{plain-if}
use Rattle.sem_lower_bounds.proofs.Refused.{refused-needs-states}

abbrev parts : List (List Sign)
parts = map (λ part. part.signs.items) hot_rooms_plan

-- its parts are those of hot-rooms
counted-inside : (s : List Sign) (v : Assignment) → InPart hot_rooms s v → InPart hot_counted s v
unfolding pairs
counted-inside s v i = record { holds = i.holds; domains = i.domains; signs = i.signs }

inside-counted : (s : List Sign) (v : Assignment) → InPart hot_counted s v → InPart hot_rooms s v
unfolding pairs
inside-counted s v i = record { holds = i.holds; domains = i.domains; signs = i.signs }

are_parts : AreParts hot_counted parts
are_parts =
    let is : AreParts hot_rooms parts = hot_rooms-planned.parts in
    record {
      ascending = is.ascending;
      each = λ k d l. (let p = is.each k d l in record { one = p.one; inside = counted-inside _ p.one p.inside });
      all = λ s p. is.all s record { one = p.one; inside = inside-counted s p.one p.inside };
    }

-- the first twelve parts break no condition
early : unbroken hot_counted (take 12 hot_rooms_plan) (take 12 hot_rooms_within) ≡ true
unfolding pairs
early = refl

at_before : {X : Type 0} (xs : List X) (m n : ℕ) (x : X) → n < m → slice_get xs n ≡ Some x → Has (take m xs) x
at_before [] m n x l e = absurd cc
at_before (y ∷ xs) zero n x l e = absurd (omega (arith, l))
at_before (y ∷ xs) (suc m) zero x l e = let f : y ≡ x = cc in subst (Has (y ∷ take m xs)) f first
at_before (y ∷ xs) (suc m) (suc n) x l e = later (at_before xs m n x (omega (arith, l)) e)

none-early : (n : ℕ) (s : List Sign) → n < 12 → slice_get parts n ≡ Some s → (c : Condition) (a : Attr) → Breaks hot_counted s c a → ⊥
none-early n s l e c a b =
    let h : Has (map (λ (part : PartPlan). part.signs.items) (take 12 hot_rooms_plan)) s = at_before parts 12 n s l e in
    let r = Has-map_from (λ (part : PartPlan). part.signs.items) (take 12 hot_rooms_plan) s h in
    none-broken hot_counted (take 12 hot_rooms_plan) (take 12 hot_rooms_within) early r.0 r.1 c a (subst (λ t. Breaks hot_counted t c a) (sym r.2) b)

-- the thirteenth does

abbrev signs : List Sign
signs = over_four ++ over_four

abbrev part : PartPlan
part = hot_part over_four over_four (box_of [] Kind.Count 0 0) (box_of [] Kind.Count 0 0) (link (col 0 0) (col 1 0) ∷ []) (link (col 1 1) (col 0 1) ∷ [])

abbrev some : List Assignment
some = rows ((pos 1 ∷ pos 6 ∷ []) ∷ (pos 1 ∷ pos 5 ∷ []) ∷ []) ∷ rows ((pos 3 ∷ pos 6 ∷ []) ∷ (pos 3 ∷ pos 5 ∷ []) ∷ []) ∷ []

all-inside : list_all (is_inside hot_counted signs) some ≡ true
unfolding pairs
all-inside = refl

inside : (w : Assignment) → Has some w → InPart hot_counted signs w
inside w h = inside-if hot_counted signs w (all_at (is_inside hot_counted signs) some w all-inside h)

links : links_test hot_counted (part_table hot_counted signs) some part ≡ true
unfolding pairs
links = refl

room-bounded : IsBounded hot_counted signs (col 0 0)
unfolding pairs
room-bounded = bounded-if hot_counted signs some inside part links (col 0 0) refl

other-bounded : IsBounded hot_counted signs (col 1 0)
unfolding pairs
other-bounded = bounded-if hot_counted signs some inside part links (col 1 0) refl

temp-ref : IsMaxRef hot_counted signs (col 0 1)
unfolding pairs
temp-ref = max-ref hot_counted signs some inside part links (col 0 1) refl refl

sides-bounded : (a b : Attr) → Has (link (col 0 0) (col 1 0) ∷ []) (link a b) → IsBounded hot_counted signs a × IsBounded hot_counted signs b
sides-bounded a b h = elim (has_cases (link (col 0 0) (col 1 0)) (link a b) [] h) [
  | inl e ↦ (
    subst (IsBounded hot_counted signs) (ap (λ (l : Link). l.left) e) room-bounded,
    subst (IsBounded hot_counted signs) (ap (λ (l : Link). l.right) e) other-bounded,
  )
  | inr i ↦ Has-nil i
]

equal-bounded : (a b : Attr) → IsEquality hot_counted signs a b → IsBounded hot_counted signs a × IsBounded hot_counted signs b
equal-bounded a b e = elim (in-order hot_counted signs some inside part links a b e.across.across) [
  | inl l ↦ sides-bounded a b (equal-complete hot_counted signs some inside part links a b l e)
  | inr l ↦ (let r = sides-bounded b a (equal-complete hot_counted signs some inside part links b a l (turned hot_counted signs some inside part links a b e)) in (r.1, r.0))
]

before-temp : (a : Attr) → Has (attrs_of hot_counted.atoms) a → attr_lt a (col 0 1) ≡ true → IsBounded hot_counted signs a
before-temp a first l = room-bounded
before-temp a (later first) l = absurd cc
before-temp a (later (later first)) l = absurd cc
before-temp a (later (later (later first))) l = absurd cc
before-temp a (later (later (later (later h)))) l = Has-nil h

abbrev is-before : Condition → Attr → Type 0
is-before c a = (condition_lt c C3 ≡ true) ⊎ ((c ≡ C3) × (attr_lt a (col 0 1) ≡ true))

none-before : (c : Condition) (a : Attr) → is-before c a → Breaks hot_counted signs c a → ⊥
none-before C1 a o h = elim (has_cases (col 0 0) a [] (Has-from_contains (col 0 0 ∷ []) a h.0)) [ inl e ↦ h.1 (subst (IsBounded hot_counted signs) e room-bounded) | inr i ↦ Has-nil i ]
none-before C2 a o h = elim h.2 [ inl e ↦ h.0 (equal-bounded a h.1 e).0 | inr e ↦ h.0 (equal-bounded h.1 a e).1 ]
none-before C3 a (inl l) h = absurd cc
none-before C3 a (inr l) h = elim h.0 [
  | inl m ↦ m.unbounded (before-temp a (Has-from_contains _ a m.inequality.across.left) l.1)
  | inr m ↦ m.unbounded (before-temp a (Has-from_contains _ a m.inequality.across.right) l.1)
]

abbrev failure : Failure
failure = record { part = 13; condition = C3; attr = col 0 1 }

third-only : (c : Condition) → nat_eq (Violation.condition_index c) 3 ≡ true → c ≡ C3
third-only C1 h = absurd cc
third-only C2 h = absurd cc
third-only C3 h = refl

firsts : (g : Failure) → failure_lt g failure ≡ true → Fails hot_counted parts g → ⊥
firsts g l k = elim (or-cases (nat_lt g.part 13) _ l) [
  | inl e ↦ none-early (g.part - 1) k.signs (few g.part k.number e) k.at g.condition g.attr k.breaks
  | inr e ↦ (
      let n : g.part ≡ 13 = nat_true g.part 13 (and-left _ _ e) in
      let s : signs ≡ k.signs = same k.signs (ap (λ (m : ℕ). slice_get parts (m - 1)) (sym n) ∙ k.at) in
      none-before g.condition g.attr (at g.condition g.attr (or-cases (condition_lt g.condition C3) _ (and-right (nat_eq g.part 13) _ e)))
      (subst (λ t. Breaks hot_counted t g.condition g.attr) (sym s) k.breaks))
]
  where
    few : (m : ℕ) → 0 < m → nat_lt m 13 ≡ true → m - 1 < 12
    few m a b = let c : m < 13 = grind (arith, nat_tests, b) in omega (arith, a, c)

    same : (t : List Sign) → slice_get parts 12 ≡ Some t → signs ≡ t
    same t e = cc

    at : (c : Condition) (a : Attr) → (condition_lt c C3 ≡ true) ⊎ ((nat_eq (Violation.condition_index c) 3 && attr_lt a (col 0 1)) ≡ true) → is-before c a
    at c a (inl h) = inl h
    at c a (inr h) = inr (third-only c (and-left _ _ h), and-right (nat_eq (Violation.condition_index c) 3) _ h)

violated : IsViolation hot_counted (Some failure)
violated = Violation.first refl parts are_parts (
  record { signs = signs; number = omega arith; at = refl; breaks = (inr temp-ref, λ e. absurd cc) },
  firsts,
)

pub counted-refused : IsRefused hot_counted failure
counted-refused = record {
  limits = within-limits hot_counted refl;
  plain = plain-if hot_counted refl refl refl;
  violation = violated;
  needs = refused-needs-states hot_counted (within-limits hot_counted refl) (plain-if hot_counted refl refl refl) failure violated;
}
