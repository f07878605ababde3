-- A query without domains that is refused has no evaluator of few states, where it has no DISTINCT or selects an unbounded column.
use Rattle.std.proofs.Common.{◌≡◌, ◌≢◌, ℕ, zero, suc, ◌-◌, ◌⊎◌, inl, inr, List, [], ◌∷◌, true, false, refl, sym, subst, arith, nat_eq, ℤ, pos, ◌+ℤ◌, ◌-ℤ◌, ◌<ℤ◌, ◌≤ℤ◌, Contains, Some, slice_get}
use Rattle.std.proofs.lemmas.Int.{ints}
use Rattle.std.proofs.lemmas.List.Elements.{All-contains}
use Rattle.sem_query.proofs.Has.{Has, first, later, Contains-from_has}
use Rattle.sem_query.proofs.Bounded.{enclosed, too_high, too_low, standing, bounded_between}
use Rattle.sem_query.specs.declared.atom.Attr.{Attr}
use Rattle.sem_query.specs.declared.part.Sign.{Sign}
use Rattle.sem_query.specs.declared.condition.Condition.{Condition}
use Rattle.sem_query.specs.declared.condition.Condition.TheVariants.{C1, C2, C3}
use Rattle.sem_query.specs.Query.{QueryValue}
use Rattle.sem_query.specs.Assignment.{Assignment}
use Rattle.sem_query.specs.Laws.{ends_of}
use Rattle.sem_query.specs.Links.{AreAcross}
use Rattle.sem_query.specs.Order.{IsBounded}
use Rattle.sem_query.specs.Parts.{InPart, IsPart}
use Rattle.sem_query.specs.Violation.{Breaks, Failure, failure_lt, IsViolation, filter}
use Rattle.sem_query.specs.Violation as violation
use Rattle.sem_lower_bounds.specs.Plain.{HasNoDomains}
use Rattle.sem_lower_bounds.specs.States.{NeedsStates}
use Rattle.sem_lower_bounds.proofs.Formed.{IsFormed}
use Rattle.sem_lower_bounds.proofs.Counted.{counted-need}
use Rattle.sem_lower_bounds.proofs.Movers.{mover-up, mover-down, out-up, out-down}
use Rattle.sem_lower_bounds.proofs.Plainly.{over-ends}
use Rattle.sem_lower_bounds.proofs.Refusals.{named_place, two_streams, first-needs, SameEnd, both_up, both_down, same-end, unbounded-both}

module _ (q : QueryValue) (within : IsFormed q) (none : HasNoDomains q) (whole : q.compact ≡ false) (s : List Sign) (p : IsPart q s) (d : q.distinct ≡ false)
    (settled : (a : Attr) → Contains q.select a → ¬ IsBounded q s a → ⊥) where
  -- two columns of different streams, both at one end, the one never greater than the other
  module _ (x y : Attr) (across : AreAcross q x y) (never : (v : Assignment) → InPart q s v → v x ≤ℤ v y) where
    at_x : nat_eq x.stream x.stream ≡ true
    at_x = grind arith

    at_y : nat_eq y.stream x.stream ≡ false
    at_y = let n : x.stream ≢ y.stream = across.across in grind (arith, n)

    low : p.one x ≤ℤ p.one y
    low = never p.one p.inside

    above-need : ((k : ℤ) → Contains (ends_of q) k → k <ℤ p.one x) → NeedsStates q
    above-need f =
        counted-need q none s p.one p.inside (mover-up q (p.one x -ℤ pos 1) over) x.stream x y across at_x at_y
        (out-up q (p.one x -ℤ pos 1) over (p.one x) (omega (arith, ints))) (out-up q (p.one x -ℤ pos 1) over (p.one y) (omega (arith, ints, low))) never
        within d (named_place q within none whole s p x across.left) (two_streams q within none whole s p x y across) settled
      where
        over : (k : ℤ) → Contains (ends_of q) k → k ≤ℤ (p.one x -ℤ pos 1)
        over k h = let l : k <ℤ p.one x = f k h in omega (arith, ints, l)

    below-need : ((k : ℤ) → Contains (ends_of q) k → p.one y <ℤ k) → NeedsStates q
    below-need f =
        counted-need q none s p.one p.inside (mover-down q (p.one y +ℤ pos 1) under) x.stream x y across at_x at_y
        (out-down q (p.one y +ℤ pos 1) under (p.one x) (omega (arith, ints, low))) (out-down q (p.one y +ℤ pos 1) under (p.one y) (omega (arith, ints))) never
        within d (named_place q within none whole s p x across.left) (two_streams q within none whole s p x y across) settled
      where
        under : (k : ℤ) → Contains (ends_of q) k → (p.one y +ℤ pos 1) ≤ℤ k
        under k h = let l : p.one y <ℤ k = f k h in omega (arith, ints, l)

    end-need : SameEnd q within none whole s p x y → NeedsStates q
    end-need (both_up f) = above-need f
    end-need (both_down f) = below-need f

  equal-need : (a b : Attr) → ¬ IsBounded q s a → AreAcross q a b → ((v : Assignment) → InPart q s v → v a ≡ v b) → NeedsStates q
  equal-need a b n across equal = elim (standing q s p a) [
    | enclosed low high i j l m ↦ absurd (n (bounded_between q s p a low high across.left i j l m))
    | too_high f ↦ above-need a b across never (over-ends q none (λ k. k <ℤ p.one a) (λ k h. f k h))
    | too_low f ↦ below-need a b across never (λ k h. (let e : p.one a ≡ p.one b = equal p.one p.inside in
        let l : p.one a <ℤ k = over-ends q none (λ k. p.one a <ℤ k) (λ k h. f k h) k h in omega (arith, ints, e, l)))
  ]
    where
      never : (v : Assignment) → InPart q s v → v a ≤ℤ v b
      never v i = let e : v a ≡ v b = equal v i in omega (arith, ints, e)

  later-need : (c : Condition) (a : Attr) → (c ≡ C1 → ⊥) → Breaks q s c a → NeedsStates q
  later-need C1 a n b = absurd (n refl)
  later-need C2 a n b = elim b.2 [
    | inl e ↦ equal-need a b.1 b.0 e.across (λ v i. e.equal.equal v i)
    | inr e ↦ equal-need a b.1 b.0 record { left = e.across.right; right = e.across.left; across = λ f. e.across.across (sym f) } (λ v i. sym (e.equal.equal v i))
  ]
  later-need C3 a n b = elim b.0 [
    | inl m ↦ (let t = unbounded-both q within none whole s p a m.other m.inequality (inl m.unbounded) in
        end-need a m.other m.inequality.across (λ v i. (let l : v a <ℤ v m.other = m.inequality.less.less v i in omega (arith, ints, l)))
        (same-end q within none whole s p a m.other m.inequality t.0 t.1))
    | inr m ↦ (let t = unbounded-both q within none whole s p m.other a m.inequality (inr m.unbounded) in
        end-need m.other a m.inequality.across (λ v i. (let l : v m.other <ℤ v a = m.inequality.less.less v i in omega (arith, ints, l)))
        (same-end q within none whole s p m.other a m.inequality t.0 t.1))
  ]

pub member_at : {X : Type 0} (xs : List X) (k : ℕ) (x : X) → slice_get xs k ≡ Some x → Has xs x
member_at [] k x e = absurd cc
member_at (y ∷ xs) zero x e = let f : y ≡ x = cc in subst (λ z. Has (y ∷ xs) z) f first
member_at (y ∷ xs) (suc k) x e = later (member_at xs k x e)

is_first : (c : Condition) → (c ≡ C1) ⊎ (c ≡ C1 → ⊥)
is_first C1 = inl refl
is_first C2 = inr (λ e. cc)
is_first C3 = inr (λ e. cc)

-- a failure by the first condition is before one by another
before_others : (part : ℕ) (c : Condition) (a b : Attr) → (c ≡ C1 → ⊥) → failure_lt record { part = part; condition = C1; attr = a } record { part = part; condition = c; attr = b } ≡ true
before_others part C1 a b n = absurd (n refl)
before_others part C2 a b n = grind arith
before_others part C3 a b n = grind arith

pub soft-need : (q : QueryValue) → IsFormed q → HasNoDomains q → q.compact ≡ false → (f : Failure) → IsViolation q (Some f) → (q.distinct ≡ false) ⊎ (f.condition ≡ C1) → NeedsStates q
soft-need q within none whole f (filter h e) o = absurd cc
soft-need q within none whole f (violation.first joins parts are firsts) o = elim (is_first f.condition) [
  | inl e ↦ (
      let b : Breaks q firsts.0.signs C1 f.attr = subst (λ c. Breaks q firsts.0.signs c f.attr) e firsts.0.breaks in
      first-needs q within none whole firsts.0.signs part joins f.attr b.0 b.1)
  | inr n ↦ elim o [
    | inl d ↦ later-need q within none whole firsts.0.signs part d (settled n) f.condition f.attr n firsts.0.breaks
    | inr e ↦ absurd (n e)
  ]
]
  where
    part : IsPart q firsts.0.signs
    part = All-contains (IsPart q) parts firsts.0.signs are.each (Contains-from_has parts firsts.0.signs (member_at parts (f.part - 1) firsts.0.signs firsts.0.at))

    settled : (f.condition ≡ C1 → ⊥) → (a : Attr) → Contains q.select a → ¬ IsBounded q firsts.0.signs a → ⊥
    settled n a h u = firsts.1 record { part = f.part; condition = C1; attr = a } (before_others f.part f.condition a f.attr n) record {
      signs = firsts.0.signs;
      number = firsts.0.number;
      at = firsts.0.at;
      breaks = (h, u);
    }
