-- An unbounded column that is selected, or equal to one of another stream, gives a family.
use Rattle.std.proofs.Common.{◌≡◌, ◌≢◌, ℕ, zero, suc, ◌+◌, ◌<◌, ◌≤◌, ◌⊎◌, inl, inr, List, length, not, Bool, true, false, ◌&&◌, refl, sym, ◌∙◌, arith, nat_eq, nat_abs, ℤ, ◌<ℤ◌, Contains}
use Rattle.std.proofs.lemmas.List.Elements.{All-contains}
use Rattle.sem_query.proofs.Has.{Has-from_contains, same_at}
use Rattle.sem_query.proofs.Bounded.{enclosed, too_high, too_low, standing, bounded_between, attr_lt_const, const_lt_attr, sides_are_bounded_together}
use Rattle.sem_query.specs.declared.atom.Attr.{Attr}
use Rattle.sem_query.specs.declared.atom.Element.TheVariants as element
use Rattle.sem_query.specs.declared.part.Sign.{Sign}
use Rattle.sem_query.specs.declared.condition.Condition.{Condition}
use Rattle.sem_query.specs.declared.condition.Condition.TheVariants.{C1, C2, C3}
use Rattle.sem_query.specs.Query.{QueryValue, IsColumn, attrs_of, consts_of, is_filter}
use Rattle.sem_query.specs.Assignment.{Assignment}
use Rattle.sem_query.specs.Parts.{InPart, IsPart}
use Rattle.sem_query.specs.Order.{IsBounded}
use Rattle.sem_query.specs.Laws.{ends_of}
use Rattle.sem_query.specs.Links.{AreAcross, IsInequality, between}
use Rattle.sem_query.specs.Violation.{Breaks}
use Rattle.sem_lower_bounds.specs.Plain.{HasNoDomains, IsPlain}
use Rattle.sem_lower_bounds.specs.States.{NeedsStates}
use Rattle.sem_lower_bounds.proofs.Formed.{IsFormed}
use Rattle.sem_lower_bounds.proofs.Plainly.{over-ends}
use Rattle.sem_lower_bounds.proofs.Families.{IsFamily, alone-needs, single-needs}
use Rattle.sem_lower_bounds.proofs.OneLong.{mixed}
use Rattle.sem_lower_bounds.proofs.Mixing.{score, score-fails, score-other, mixed-here, mixed-other, mixed-fails}
use Rattle.sem_lower_bounds.proofs.Ranges.{IsNear}
use Rattle.sem_lower_bounds.proofs.Spreading.{Spread, spread}

differ_if_less : (i j : ℕ) → i < j → i ≢ j
differ_if_less i j l e = omega (arith, l, e)

differ_if_more : (i j : ℕ) → j < i → i ≢ j
differ_if_more i j l e = omega (arith, l, e)

two_places : (a b n : ℕ) → a ≢ b → a < n → b < n → 1 < n
two_places a b n d l m = grind (arith, d, l, m)

few_or_more : (n : ℕ) → 0 < n → (n ≡ 1) ⊎ (1 < n)
few_or_more zero l = absurd (omega (arith, l))
few_or_more (suc zero) l = inl refl
few_or_more (suc (suc n)) l = inr (omega arith)

not_filter : (d : Bool) (n : ℕ) → (not d && nat_eq n 1) ≡ false → n ≡ 1 → d ≡ true
not_filter true n h e = refl
not_filter false n h e = absurd (grind (arith, h, e))

module _ (q : QueryValue) (within : IsFormed q) (none : HasNoDomains q) (whole : q.compact ≡ false) (s : List Sign) (p : IsPart q s) where
  pub named_place : (a : Attr) → Contains (attrs_of q.atoms) a → a.stream < length q.from
  named_place a h = (All-contains (IsColumn (length q.from)) (attrs_of q.atoms) a within.attrs h).stream

  pub two_streams : (x y : Attr) → AreAcross q x y → 1 < length q.from
  two_streams x y e = two_places x.stream y.stream (length q.from) e.across (named_place x e.left) (named_place y e.right)

  near_spread : {a : Attr} (g : Spread q s a) (n : ℕ) → IsNear g.base 1 n g.w
  near_spread g n = record { near = λ j l b. (let h : nat_abs (g.w j b) ≤ nat_abs (g.base b) + j = g.size j b in omega (arith, h, l)) }

  -- a selected column is unbounded
  pub first-needs : is_filter q ≡ false → (a : Attr) → Contains q.select a → ¬ IsBounded q s a → NeedsStates q
  first-needs no_filter a h n = elim (few_or_more (length q.from) within.some) [
    | inl e ↦ single-needs q within a.stream g.w family e (not_filter q.distinct (length q.from) no_filter e) g.base 1 (near_spread g) (λ i j l. off i j (differ_if_less i j l)) (λ i j l. off i j (differ_if_more i j l))
    | inr l ↦ alone-needs q within a.stream g.w family l g.base 1 (near_spread g) (λ i j l. off i j (differ_if_less i j l)) (λ i j l. off i j (differ_if_more i j l))
  ]
    where
      g : Spread q s a
      g = spread q none whole s p a n

      family : IsFamily q a.stream g.w
      family = record {
        at = (All-contains (IsColumn (length q.from)) q.select a within.select h).stream;
        each = λ i. (g.inside i).holds;
      }

      off : (i j : ℕ) → i ≢ j → score q a.stream (g.w j) (g.w i) ≡ 0
      off i j d = score-other q a.stream (g.w j) (g.w i) (λ e.
          g.apart i j d (same_at (g.w i) (mixed a.stream (g.w j) (g.w i)) e (Has-from_contains q.select a h) ∙ mixed-here a.stream (g.w j) (g.w i) a refl))

  -- both sides of x < y above all ends, or both below all
  pub data SameEnd (x y : Attr) : Type 0 where
    both_up : ((k : ℤ) → Contains (ends_of q) k → k <ℤ p.one x) → SameEnd x y
    both_down : ((k : ℤ) → Contains (ends_of q) k → p.one y <ℤ k) → SameEnd x y

  -- no constant parts the sides of a nonredundant inequality
  no_constant : (x y : Attr) → IsInequality q s x y → (k : ℤ) → Contains (consts_of q.atoms) k → p.one x <ℤ k → k <ℤ p.one y → ⊥
  no_constant x y i k h l m = i.needed (between (element.Const k) h
      (attr_lt_const q s p x k i.across.left h l) (const_lt_attr q s p y k i.across.right h m))

  pub same-end : (x y : Attr) → IsInequality q s x y → ¬ IsBounded q s x → ¬ IsBounded q s y → SameEnd x y
  same-end x y i n m = elim (standing q s p x) [
    | enclosed low high g h l o ↦ absurd (n (bounded_between q s p x low high i.across.left g h l o))
    | too_high f ↦ both_up (over-ends q none (λ k. k <ℤ p.one x) (λ k h. f k h))
    | too_low f ↦ elim (standing q s p y) [
      | enclosed low high g h l o ↦ absurd (m (bounded_between q s p y low high i.across.right g h l o))
      | too_low g ↦ both_down (over-ends q none (λ k. p.one y <ℤ k) (λ k h. g k h))
      | too_high g ↦ both_up (over-ends q none (λ k. k <ℤ p.one x) (λ k h. absurd (no_constant x y i k h (f k h) (g k h))))
    ]
  ]

  pub unbounded-both : (x y : Attr) → IsInequality q s x y → (¬ IsBounded q s x) ⊎ (¬ IsBounded q s y) → (¬ IsBounded q s x) × (¬ IsBounded q s y)
  unbounded-both x y i o = elim (sides_are_bounded_together q none s p x y i) [
    | inl b ↦ absurd (elim o [ inl n ↦ n b.0 | inr n ↦ n b.1 ])
    | inr b ↦ b
  ]

module _ (q : QueryValue) (within : IsFormed q) (plain : IsPlain q) (s : List Sign) (p : IsPart q s) where
  -- an equality between streams has an unbounded side
  pub second-needs : (a b : Attr) → ¬ IsBounded q s a → AreAcross q a b → ((v : Assignment) → InPart q s v → v a ≡ v b) → NeedsStates q
  second-needs a b n across equal =
      alone-needs q within a.stream g.w family (two_streams q within plain.domains plain.compact s p a b across) g.base 1 (near_spread q within plain.domains plain.compact s p g) (λ i j l. off i j (differ_if_less i j l)) (λ i j l. off i j (differ_if_more i j l))
    where
      g : Spread q s a
      g = spread q plain.domains plain.compact s p a n

      family : IsFamily q a.stream g.w
      family = record { at = named_place q within plain.domains plain.compact s p a across.left; each = λ i. (g.inside i).holds }

      off : (i j : ℕ) → i ≢ j → score q a.stream (g.w j) (g.w i) ≡ 0
      off i j d = score-fails q a.stream (g.w j) (g.w i) (mixed-fails q plain s a.stream (g.w j) (g.w i) (g.inside j) (g.inside i) (λ m.
          g.apart i j d (equal (g.w i) (g.inside i)
          ∙ sym (mixed-other a.stream (g.w j) (g.w i) b (λ e. across.across (sym e)))
          ∙ sym (equal (mixed a.stream (g.w j) (g.w i)) m)
          ∙ mixed-here a.stream (g.w j) (g.w i) a refl)))

  -- whichever of the first two conditions the part breaks
  pub breaks-need : is_filter q ≡ false → (c : Condition) (a : Attr) → Breaks q s c a → (c ≡ C3 → ⊥) → NeedsStates q
  breaks-need joins C1 a b n = first-needs q within plain.domains plain.compact s p joins a b.0 b.1
  breaks-need joins C2 a b n = elim b.2 [
    | inl e ↦ second-needs a b.1 b.0 e.across (λ v i. e.equal.equal v i)
    | inr e ↦ second-needs a b.1 b.0 record { left = e.across.right; right = e.across.left; across = λ f. e.across.across (sym f) } (λ v i. sym (e.equal.equal v i))
  ]
  breaks-need joins C3 a b n = absurd (n refl)
