-- How many cells a row reads at most, beside the share and the work.
use Rattle.std.proofs.Common.{◌≡◌, ℕ, ◌+◌, ◌-◌, ◌*◌, ◌/◌, ◌≤◌, nat_eq, cond, Bool, true, false, refl, List, [], ◌∷◌, length, ap, subst, arith}
use Rattle.std.proofs.lemmas.List.Sums.{sum_by-cons}
use Rattle.sem_query.specs.declared.plan.PartPlan.{PartPlan}
use Rattle.sem_query.specs.Numbers.{share, work}
use Rattle.sem_query.proofs.Has.{Has, first, later}
use Rattle.sem_laws.proofs.Tests.{nat_true}
use Rattle.exec_query.specs.Reads.{most_reads, row_reads}

-- what tells without a walk reads no more than the share
pub told-reads : (part : PartPlan) (before after : ℕ) → after ≤ before + share part → after ≤ before + most_reads part
told-reads part before after few = by (nat_eq (length part.streams.items) 2)
  where
    by : (b : Bool) → after ≤ before + cond b (share part + share part / 2) (3 * share part)
    by true = omega (arith, few)
    by false = omega (arith, few)

-- over two streams at most half the share was read before a walk, and over more what leaves room for it
pub walk-reads : (part : PartPlan) (before looked after most : ℕ) → (length part.streams.items ≡ 2 → 2 * looked ≤ 2 * before + share part)
    → looked + most ≤ before + 3 * share part → most ≤ (length part.streams.items - 1) * share part → after ≤ looked + most
    → after ≤ before + most_reads part
walk-reads part before looked after most alone room few walked = by (nat_eq (length part.streams.items) 2) (nat_true (length part.streams.items) 2)
  where
    two : (n : ℕ) → n ≡ 2 → most ≤ (n - 1) * share part → 2 * looked ≤ 2 * before + share part → after ≤ before + (share part + share part / 2)
    two n is h half = (let w : most ≤ (2 - 1) * share part = subst (λ (m : ℕ). most ≤ (m - 1) * share part) is h in omega (arith, w, half, walked))

    by : (b : Bool) → (b ≡ true → length part.streams.items ≡ 2) → after ≤ before + cond b (share part + share part / 2) (3 * share part)
    by true is = two (length part.streams.items) (is refl) few (alone (is refl))
    by false is = omega (arith, room, walked)

-- it reads some where the share is some
pub most-some : (part : PartPlan) → 1 ≤ share part → 1 ≤ most_reads part
most-some part some = by (nat_eq (length part.streams.items) 2)
  where
    by : (b : Bool) → 1 ≤ cond b (share part + share part / 2) (3 * share part)
    by true = omega (arith, some)
    by false = omega (arith, some)

most-upto : (part : PartPlan) → most_reads part ≤ 3 * share part
most-upto part = by (nat_eq (length part.streams.items) 2)
  where
    by : (b : Bool) → cond b (share part + share part / 2) (3 * share part) ≤ 3 * share part
    by true = omega arith
    by false = omega arith

-- a row reads no more than three times the work
pub rows-upto : (parts : List PartPlan) → row_reads parts ≤ 3 * work parts
rows-upto [] = omega arith
rows-upto (part ∷ parts) =
    (let one = most-upto part in
    let others = rows-upto parts in
    let reads = sum_by-cons most_reads part parts in
    let all = sum_by-cons share part parts in omega (arith, one, others, reads, all))

two-streams : (part : PartPlan) → length part.streams.items ≡ 2 → most_reads part ≡ share part + share part / 2
two-streams part two = ap (λ n. cond (nat_eq n 2) (share part + share part / 2) (3 * share part)) two

-- and over two streams no more than one and a half times the work
pub rows-two : (parts : List PartPlan) → ((part : PartPlan) → Has parts part → length part.streams.items ≡ 2) → row_reads parts ≤ work parts + work parts / 2
rows-two [] two = omega arith
rows-two (part ∷ parts) two =
    (let one = two-streams part (two part first) in
    let others = rows-two parts (λ p k. two p (later k)) in
    let reads = sum_by-cons most_reads part parts in
    let all = sum_by-cons share part parts in omega (arith, one, others, reads, all))
