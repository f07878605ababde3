-- A plan that passes the tests is the plan of its query.
use Rattle.std.proofs.Common.{◌≡◌, ℕ, ◌+◌, List, [], ◌∷◌, map, Bool, true, false, ◌&&◌, refl, subst, nat_eq, All}
use Rattle.std.proofs.lemmas.List.Elements.{Contains-get_or}
use Rattle.std.specs.List.{list_all}
use Rattle.sem_query.proofs.Has.{Has, first, later, Has-from_contains, Contains-from_has, Has-map_from}
use Rattle.sem_query.specs.declared.part.Sign.{Sign}
use Rattle.sem_query.specs.declared.plan.StreamPlan.{StreamPlan}
use Rattle.sem_query.specs.declared.plan.PartPlan.{PartPlan}
use Rattle.sem_query.specs.Admission.{sign_eq}
use Rattle.sem_query.specs.Query.{QueryValue}
use Rattle.sem_query.specs.Assignment.{Assignment, holds, keeps_domains}
use Rattle.sem_query.specs.Parts.{pairs, signs_of, signs_lt, InPart, IsPart}
use Rattle.sem_query.specs.Plan.{IsPartPlan, IsPlan, Follow, FollowIn}
use Rattle.sem_laws.proofs.Tests.{and-left, and-right, all_at, nat_true, sign_eq-is}
use Rattle.sem_laws.proofs.PartsListed.{elements_of, part_table, covers, root_table, all-parts}
use Rattle.sem_laws.proofs.PlanTests.{ascends_test, pairs-ascend, part_test}
use Rattle.sem_laws.proofs.PlanTested.{part-tested}

abbrev pub same_signs : List Sign → List Sign → Bool
same_signs [] [] = true
same_signs [] (d ∷ t) = false
same_signs (c ∷ s) [] = false
same_signs (c ∷ s) (d ∷ t) = sign_eq c d && same_signs s t

same_signs-is : (s t : List Sign) → same_signs s t ≡ true → s ≡ t
same_signs-is [] [] h = refl
same_signs-is [] (d ∷ t) h = absurd cc
same_signs-is (c ∷ s) [] h = absurd cc
same_signs-is (c ∷ s) (d ∷ t) h =
    let e : c ≡ d = sign_eq-is c d (and-left _ _ h) in
    let f : s ≡ t = same_signs-is s t (and-right (sign_eq c d) _ h) in
    λ i. e i ∷ f i

-- the assignment is in the part
abbrev pub is_inside : QueryValue → List Sign → Assignment → Bool
is_inside q s w = holds q w && (keeps_domains q w && same_signs (signs_of q w) s)

pub inside-if : (q : QueryValue) (s : List Sign) (w : Assignment) → is_inside q s w ≡ true → InPart q s w
inside-if q s w h =
    let r = and-right (holds q w) _ h in
    record { holds = and-left _ _ h; domains = and-left _ _ r; signs = same_signs-is (signs_of q w) s (and-right (keeps_domains q w) _ r) }

-- each part passes, with some assignments of its own
abbrev pub parts_test : QueryValue → List PartPlan → List (List Assignment) → Bool
parts_test q [] wss = true
parts_test q (p ∷ plan) [] = false
parts_test q (p ∷ plan) ([] ∷ wss) = false
parts_test q (p ∷ plan) ((w ∷ ws) ∷ wss) =
    list_all (is_inside q p.signs.items) (w ∷ ws) && (part_test q (part_table q p.signs.items) (w ∷ ws) p && parts_test q plan wss)

-- what the first part passes with
pub record OnePasses (q : QueryValue) (p : PartPlan) (ws : List Assignment) (plan : List PartPlan) (wss : List (List Assignment)) : Type 0 where
  pub inside : (v : Assignment) → Has ws v → InPart q p.signs.items v
  pub tested : part_test q (part_table q p.signs.items) ws p ≡ true
  pub others : parts_test q plan wss ≡ true

pub one-passes : (q : QueryValue) (p : PartPlan) (w : Assignment) (ws : List Assignment) (plan : List PartPlan) (wss : List (List Assignment))
    → parts_test q (p ∷ plan) ((w ∷ ws) ∷ wss) ≡ true → OnePasses q p (w ∷ ws) plan wss
one-passes q p w ws plan wss h =
    let r = and-right (list_all (is_inside q p.signs.items) (w ∷ ws)) _ h in
    record {
      inside = λ v k. inside-if q p.signs.items v (all_at (is_inside q p.signs.items) (w ∷ ws) v (and-left _ _ h) k);
      tested = and-left _ _ r;
      others = and-right (part_test q (part_table q p.signs.items) (w ∷ ws) p) _ r;
    }

record Passed (q : QueryValue) (part : PartPlan) : Type 0 where
  some : IsPart q part.signs.items
  planned : IsPartPlan q part

passed : (q : QueryValue) (plan : List PartPlan) (wss : List (List Assignment)) → parts_test q plan wss ≡ true → (part : PartPlan) → Has plan part → Passed q part
passed q [] wss h part i = elim i [ ]
passed q (p ∷ plan) [] h part i = absurd cc
passed q (p ∷ plan) ([] ∷ wss) h part i = absurd cc
passed q (p ∷ plan) ((w ∷ ws) ∷ wss) h part first =
    let o = one-passes q p w ws plan wss h in
    record { some = record { one = w; inside = o.inside w first }; planned = part-tested q p (w ∷ ws) o.inside o.tested }
passed q (p ∷ plan) ((w ∷ ws) ∷ wss) h part (later i) = passed q plan wss (one-passes q p w ws plan wss h).others part i

abbrev pub follows_in : ℕ → List StreamPlan → (ℕ → Bool) → Bool
follows_in next [] rest = rest next
follows_in next (s ∷ streams) rest = nat_eq s.base next && follows_in (next + s.size) streams rest

abbrev pub follows : ℕ → List PartPlan → Bool
follows next [] = true
follows next (p ∷ plan) = follows_in next p.streams.items (λ n. follows n plan)

in-follow : (streams : List StreamPlan) (next : ℕ) (t : ℕ → Bool) (P : ℕ → Type 0) → ((n : ℕ) → t n ≡ true → P n) → follows_in next streams t ≡ true → FollowIn next streams P
in-follow [] next t P f h = f next h
in-follow (s ∷ streams) next t P f h = (nat_true s.base next (and-left _ _ h), in-follow streams (next + s.size) t P f (and-right (nat_eq s.base next) _ h))

follow-if : (plan : List PartPlan) (next : ℕ) → follows next plan ≡ true → Follow next plan
follow-if [] next h = tt
follow-if (p ∷ plan) next h = in-follow p.streams.items next (λ n. follows n plan) (λ n. Follow n plan) (λ n k. follow-if plan n k) h

-- the whole plan passes
abbrev pub plan_test : QueryValue → List PartPlan → List (List Assignment) → Bool
plan_test q plan wss =
    parts_test q plan wss && (ascends_test signs_lt (map (λ part. part.signs.items) plan)
    && (covers (elements_of q) (root_table q) (pairs q) (map (λ part. part.signs.items) plan) && follows 0 plan))

all-of : {X : Type 0} (P : X → Type 0) (xs : List X) → ((x : X) → Has xs x → P x) → All P xs
all-of P xs f k d l = f _ (Has-from_contains xs _ (Contains-get_or xs k d l))

pub is-plan : (q : QueryValue) (plan : List PartPlan) (wss : List (List Assignment)) → plan_test q plan wss ≡ true → IsPlan q plan
is-plan q plan wss h =
    let signs : List (List Sign) = map (λ (part : PartPlan). part.signs.items) plan in
    let r1 = and-right (parts_test q plan wss) _ h in
    let r2 = and-right (ascends_test signs_lt signs) _ r1 in
    let each : (part : PartPlan) → Has plan part → Passed q part = passed q plan wss (and-left _ _ h) in
    record {
      parts = record {
        ascending = pairs-ascend signs_lt signs (and-left _ _ r1);
        each = all-of (IsPart q) signs (λ s i. (let r = Has-map_from (λ (part : PartPlan). part.signs.items) plan s i in subst (IsPart q) r.2 (each r.0 r.1).some));
        all = λ s p. Contains-from_has signs s (subst (Has signs) p.inside.signs (all-parts q p.one signs (and-left _ _ r2) p.inside.holds p.inside.domains));
      };
      plans = all-of (IsPartPlan q) plan (λ part i. (each part i).planned);
      bases = follow-if plan 0 (and-right (covers (elements_of q) (root_table q) (pairs q) signs) _ r2);
    }
