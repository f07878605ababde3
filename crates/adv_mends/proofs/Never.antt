-- Whether some assignment meets the comparisons, by the parts.
use Rattle.std.proofs.Common.{◌≡◌, ℕ, ◌<◌, true, not, List, [], ◌∷◌, map, length, All, nat_eq, refl, arith}
use Rattle.std.proofs.lemmas.Bool.Decides.{nat_tests}
use Rattle.std.proofs.lemmas.List.{length-map}
use Rattle.std.proofs.lemmas.Slice.Zip.{AllZip-long}
use Rattle.sem_query.specs.declared.part.Part.{Part}
use Rattle.sem_query.specs.declared.part.Sign.{Sign}
use Rattle.sem_query.specs.declared.plan.PartPlan.{PartPlan}
use Rattle.sem_query.specs.Query.{QueryValue}
use Rattle.sem_query.specs.Parts.{AreParts, HasMoreParts, IsPart, signs_of, sign_at, sign_lists}
use Rattle.sem_query.proofs.Has.{Has, Has-from_contains}
use Rattle.plan_split_pairs.specs.SplitParts.{AreSplitParts}
use Rattle.plan_split_pairs.specs.Pairs.{split_pairs}
use Rattle.plan_forms.specs.Planned.{ArePartDrafts, plain, split}
use Rattle.plan_layout.specs.Drafts as drafts
use Rattle.adv_mends.specs.Meeting.{HasPart}

-- a query has a part exactly where the list of its parts has one
some_of : (q : QueryValue) (list : List (List Sign)) → AreParts q list → (0 < length list → HasPart q) × (HasPart q → 0 < length list)
some_of q [] are = (
  λ l. absurd (omega (arith, l)),
  λ h.
      let none : Has [] (signs_of q h.0) = Has-from_contains [] (signs_of q h.0) (are.all (signs_of q h.0) record { one = h.0; inside = record { holds = h.1; domains = h.2; signs = refl } }) in
      elim none [ ],
)
some_of q (signs ∷ list) are = (
  λ l. (let p = are.each 0 signs (omega arith) in (p.one, p.inside.holds, p.inside.domains)),
  λ h. omega arith,
)

-- so it has exactly where the list of its split parts has one
some_split : (q : QueryValue) (list : List (List Sign)) → AreSplitParts q list → (0 < length list → HasPart q) × (HasPart q → 0 < length list)
some_split q [] are = (
  λ l. absurd (omega (arith, l)),
  λ h.
      let signs : List Sign = map (sign_at h.0) (split_pairs q) in
      let none : Has [] signs = Has-from_contains [] signs (are.all signs record { one = h.0; holds = h.1; domains = h.2; has = refl }) in
      elim none [ ],
)
some_split q (signs ∷ list) are = (
  λ l. (let p = are.each 0 signs (omega arith) in (p.one, p.holds, p.domains)),
  λ h. omega arith,
)

-- and exactly where there are plans of them
pub some_drafts : (q : QueryValue) (plans : List PartPlan) → ArePartDrafts q plans → (0 < length plans → HasPart q) × (HasPart q → 0 < length plans)
some_drafts q plans (plain c are) =
    let same : length (drafts.signs_of plans) ≡ length plans = length-map plans _ in
    let one = some_of q (drafts.signs_of plans) are.parts in
    (λ l. one.0 (omega (arith, same, l)), λ h. (let l = one.1 h in omega (arith, same, l)))
some_drafts q plans (split c are) =
    let same : length plans ≡ length are.parts = AllZip-long _ are.parts plans are.drafts in
    let one = some_split q are.parts are.are in
    (λ l. one.0 (omega (arith, same, l)), λ h. (let l = one.1 h in omega (arith, same, l)))

-- and exactly where so many plans are some
pub some_counted : (q : QueryValue) (plans : List PartPlan) (n : ℕ) → n ≡ length plans → ArePartDrafts q plans → (0 < n → HasPart q) × (HasPart q → 0 < n)
some_counted q plans n e are = (λ l. (some_drafts q plans are).0 (omega (arith, e, l)), λ h. (let l = (some_drafts q plans are).1 h in omega (arith, e, l)))

some_test : (n : ℕ) → not (nat_eq n 0) ≡ true → 0 < n
some_test n e = grind (arith, nat_tests)

test_some : (n : ℕ) → 0 < n → not (nat_eq n 0) ≡ true
test_some n l = grind (arith, nat_tests)

pub some_parts : (q : QueryValue) (parts : List Part) → AreParts q (sign_lists parts) → (0 < length parts → HasPart q) × (HasPart q → 0 < length parts)
some_parts q parts are =
    let same : length (sign_lists parts) ≡ length parts = length-map parts _ in
    let one = some_of q (sign_lists parts) are in
    (λ l. one.0 (omega (arith, same, l)), λ h. (let l = one.1 h in omega (arith, same, l)))

pub some_tested : (q : QueryValue) (parts : List Part) → AreParts q (sign_lists parts) → (not (nat_eq (length parts) 0) ≡ true → HasPart q) × (HasPart q → not (nat_eq (length parts) 0) ≡ true)
some_tested q parts are = (λ e. (some_parts q parts are).0 (some_test (length parts) e), λ h. test_some (length parts) ((some_parts q parts are).1 h))

pub some_many : (q : QueryValue) (parts : List Part) (n : ℕ) → n ≡ length parts → AreParts q (sign_lists parts) → (0 < n → HasPart q) × (HasPart q → 0 < n)
some_many q parts n e are = rw e (some_parts q parts are)

pub some_listed : (q : QueryValue) (parts : List Part) (n : ℕ) → n ≡ length parts → AreParts q (sign_lists parts) → (not (nat_eq n 0) ≡ true → HasPart q) × (HasPart q → not (nat_eq n 0) ≡ true)
some_listed q parts n e are = rw e (some_tested q parts are)

-- a query with many parts has one
pub some_more : (q : QueryValue) (n : ℕ) → HasMoreParts q n → HasPart q
some_more q n more = by more.some more.each more.more
  where
    by : (list : List (List Sign)) → All (IsPart q) list → n < length list → HasPart q
    by [] each l = absurd (omega (arith, l))
    by (signs ∷ list) each l = let p = each 0 signs (omega arith) in (p.one, p.inside.holds, p.inside.domains)
