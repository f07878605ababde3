-- Solutions of lists of constraints that are put together.
use Rattle.std.proofs.Common.{ℕ, ℤ, ◌+ℤ◌, ◌≤ℤ◌, List, [], ◌∷◌, ◌++◌, All, inl, inr}
use Rattle.plan_constraints.specs.declared.constraint.Constraint.{Constraint}
use Rattle.plan_constraints.specs.Solutions.{Solves, IsSatisfiable, Allows, Implies}
use Rattle.sem_query.proofs.Has.{Has, first, later, Has-from_contains, Contains-from_has, Has-append_left, Has-append_right, Has-append_cases}
use Rattle.std.proofs.lemmas.List.Elements.{Contains-get_or, All-contains}

-- a fact of each element is one of all
pub All-from_has : {A : Type 0} (P : A → Type 0) (xs : List A) → ((x : A) → Has xs x → P x) → All P xs
All-from_has P xs f = λ k d l. f _ (Has-from_contains xs _ (Contains-get_or xs k d l))

-- the constraint is met
abbrev pub Meets : (ℕ → ℤ) → Constraint → Type 0
Meets x c = x c.left ≤ℤ (c.bound +ℤ x c.right)

pub solves_left : (x : ℕ → ℤ) (cs ds : List Constraint) → Solves x (cs ++ ds) → Solves x cs
solves_left x cs ds s = record { origin = s.origin; each = λ c h. s.each c (Contains-from_has _ c (Has-append_left ds (Has-from_contains cs c h))) }

pub solves_right : (x : ℕ → ℤ) (cs ds : List Constraint) → Solves x (cs ++ ds) → (c : Constraint) → Has ds c → Meets x c
solves_right x cs ds s c h = s.each c (Contains-from_has _ c (Has-append_right cs h))

pub solves_both : (x : ℕ → ℤ) (cs ds : List Constraint) → Solves x cs → ((c : Constraint) → Has ds c → Meets x c) → Solves x (cs ++ ds)
solves_both x cs ds s f = record {
  origin = s.origin;
  each = λ c h. elim (Has-append_cases cs ds c (Has-from_contains _ c h)) [
    | inl i ↦ s.each c (Contains-from_has cs c i)
    | inr i ↦ f c i
  ];
}

-- constraints that some integers meet beside others are allowed each
pub allows_each : (ks cs : List Constraint) → IsSatisfiable (ks ++ cs) → All (Allows ks) cs
allows_each ks cs s = All-from_has (Allows ks) cs (λ c h. record { at = s.at; solves = solves_both s.at ks (c ∷ []) (solves_left s.at ks cs s.solves) (λ d i. one c h d i) })
  where
    one : (c : Constraint) → Has cs c → (d : Constraint) → Has (c ∷ []) d → Meets s.at d
    one c h d first = solves_right s.at ks cs s.solves c h
    one c h d (later i) = elim i [ ]

-- solutions solve what is implied beside
pub solves_implied : (x : ℕ → ℤ) (ks cs : List Constraint) → All (Implies ks) cs → Solves x ks → Solves x (ks ++ cs)
solves_implied x ks cs a s = solves_both x ks cs s (λ c h. let i : Implies ks c = All-contains (Implies ks) cs c a (Contains-from_has cs c h) in i.met x s)
