-- A query that is refused has no evaluator of few states.
use Rattle.std.proofs.Common.{◌≡◌, ◌≢◌, ℕ, ◌-◌, ◌⊎◌, inl, inr, List, true, false, refl, sym, ◌∙◌, subst, arith, pos, ◌+ℤ◌, ◌-ℤ◌, ◌<ℤ◌, ◌≤ℤ◌, Contains, Some, nat_abs, ◌+◌, ◌*◌}
use Rattle.std.proofs.lemmas.Int.{ints, by_lt_z}
use Rattle.std.proofs.lemmas.List.Elements.{All-contains}
use Rattle.sem_query.specs.Links.{AreOneClass}
use Rattle.sem_query.proofs.Has.{Contains-from_has}
use Rattle.sem_query.proofs.Local.{same_sign, lt_along, eq_along}
use Rattle.sem_laws.proofs.Tests.{true_or_false}
use Rattle.sem_query.specs.declared.atom.Attr.{Attr}
use Rattle.sem_query.specs.declared.atom.Element.TheVariants as element
use Rattle.sem_query.specs.declared.part.Sign.{Sign}
use Rattle.sem_query.specs.declared.condition.Condition.{Condition}
use Rattle.sem_query.specs.declared.condition.Condition.TheVariants.{C1, C2, C3}
use Rattle.sem_query.specs.Query.{QueryValue, attrs_of}
use Rattle.sem_query.specs.Assignment.{Assignment}
use Rattle.sem_query.specs.Parts.{InPart, IsPart, same_stream}
use Rattle.sem_query.specs.Order.{IsBounded, IsLess, IsEqual}
use Rattle.sem_query.specs.Links.{IsEquality, IsInequality, IsMinRef, IsMaxRef, AreTwoRefs, two_mins, two_maxes, both, HasTwoRefs, between}
use Rattle.sem_query.specs.Violation.{Breaks, Failure, failure_lt, IsViolation, filter}
use Rattle.sem_query.specs.Violation as violation
use Rattle.sem_lower_bounds.specs.Plain.{HasNoDomains, IsPlain}
use Rattle.sem_lower_bounds.specs.Soft.{RefusalTells, no_soft, no_distinct, by_selected, TellingNeedsStates}
use Rattle.sem_lower_bounds.specs.States.{NeedsStates, RefusedNeedsStates}
use Rattle.sem_lower_bounds.proofs.Formed.{IsFormed, formed}
use Rattle.sem_lower_bounds.proofs.Separated.{NeedsAt, needs-all}
use Rattle.sem_lower_bounds.proofs.Ranges.{size}
use Rattle.sem_lower_bounds.proofs.Parting.{Parted, part-up, part-down}
use Rattle.sem_lower_bounds.proofs.SoftRefused.{member_at, soft-need}
use Rattle.sem_lower_bounds.proofs.Refusals.{SameEnd, both_up, both_down, same-end, unbounded-both, breaks-need}
use Rattle.sem_lower_bounds.proofs.TwoLinks.{gone-small, left-small, times_more, left_less, rise-up, fall-up, rise-down, SameSide, lefts, rights, OtherSide, same-needs, other-rise}
use Rattle.sem_lower_bounds.proofs.Sets.{AllBelow, AllAbove, limit, two-steps, ends-near, far, grow, shrink, near1, near2, all-up, all-down, chain-up, chain-down, ends, ends-inside, upper-moved, lower-moved}

module _ (q : QueryValue) (within : IsFormed q) (plain : IsPlain q) (d : q.distinct ≡ true) (s : List Sign) (place n : ℕ)
    (x1 y1 x2 y2 : Attr) (i1 : IsInequality q s x1 y1) (i2 : IsInequality q s x2 y2) where
  module _ (p : IsPart q s) where
    l1 : p.one x1 <ℤ p.one y1
    l1 = i1.less.less p.one p.inside

    l2 : p.one x2 <ℤ p.one y2
    l2 = i2.less.less p.one p.inside

    abbrev pub Here : Type 0
    Here = NeedsAt q n (limit q within plain d s place n x1 y1 x2 y2 i1 i2 p)

    two_up : AllBelow q (p.one x1) → AllBelow q (p.one x2) → OtherSide q within plain d s place n x1 y1 x2 y2 i1 i2 → Here
    two_up f g o =
        by_lt_z (p.one x1) (p.one x2)
        (λ l. all-up q within plain d s place n x1 y1 x2 y2 i1 i2 p (p.one x1 -ℤ pos 1)
        (λ k h. (let m : k <ℤ p.one x1 = f k h in omega (arith, ints, m))) (omega (arith, ints)) (omega (arith, ints, l)) o)
        (λ l. all-up q within plain d s place n x1 y1 x2 y2 i1 i2 p (p.one x2 -ℤ pos 1)
        (λ k h. (let m : k <ℤ p.one x2 = g k h in omega (arith, ints, m))) (omega (arith, ints, l)) (omega (arith, ints)) o)

    two_down : AllAbove q (p.one y1) → AllAbove q (p.one y2) → OtherSide q within plain d s place n x1 y1 x2 y2 i1 i2 → Here
    two_down f g o =
        by_lt_z (p.one y1) (p.one y2)
        (λ l. all-down q within plain d s place n x1 y1 x2 y2 i1 i2 p (p.one y2 +ℤ pos 1)
        (λ k h. (let m : p.one y2 <ℤ k = g k h in omega (arith, ints, m))) (omega (arith, ints, l)) (omega (arith, ints)) o)
        (λ l. all-down q within plain d s place n x1 y1 x2 y2 i1 i2 p (p.one y1 +ℤ pos 1)
        (λ k h. (let m : p.one y1 <ℤ k = f k h in omega (arith, ints, m))) (omega (arith, ints)) (omega (arith, ints, l)) o)

    -- one link above the constants, and one below them
    up_down : AllBelow q (p.one x1) → AllAbove q (p.one y2) → p.one y2 <ℤ p.one x1 → OtherSide q within plain d s place n x1 y1 x2 y2 i1 i2 → Here
    up_down f g l o =
        other-rise q within plain d s place n x1 y1 x2 y2 i1 i2 p
        (ends q s p x1 y1 x2 y2 G S f g l l1 l2) (ends-inside q s p x1 y1 x2 y2 G S f g l l1 l2) (3 * F)
        record { near = λ j m a. two-steps q within plain d s place n x1 y1 x2 y2 i1 i2 p _ (nat_abs (p.one a)) j (G j) (S j) (gone-small F n j m) (left-small n F j) (ends-near q s p x1 y1 x2 y2 G S f g l l1 l2 j a) } o
        (rise-up n _ x1 y1 p.one G F (near1 q within plain d s place n x1 y1 x2 y2 i1 i2 p) (upper-moved q s p x1 y1 x2 y2 G S f g l l1 l2 n) (λ i j a b. times_more F i j a))
        (rise-down n _ x2 y2 p.one S F (near2 q within plain d s place n x1 y1 x2 y2 i1 i2 p) (lower-moved q s p x1 y1 x2 y2 G S f g l l1 l2 n) (λ i j a b. left_less n F i j a b))
      where
        F : ℕ
        F = far q within plain d s place n x1 y1 x2 y2 i1 i2 p

        G : ℕ → ℕ
        G = grow q within plain d s place n x1 y1 x2 y2 i1 i2 p

        S : ℕ → ℕ
        S = shrink q within plain d s place n x1 y1 x2 y2 i1 i2 p

    down_up : AllAbove q (p.one y1) → AllBelow q (p.one x2) → p.one y1 <ℤ p.one x2 → OtherSide q within plain d s place n x1 y1 x2 y2 i1 i2 → Here
    down_up f g l o =
        other-rise q within plain d s place n x1 y1 x2 y2 i1 i2 p
        (ends q s p x2 y2 x1 y1 G S g f l l2 l1) (ends-inside q s p x2 y2 x1 y1 G S g f l l2 l1) (3 * F)
        record { near = λ j m a. two-steps q within plain d s place n x1 y1 x2 y2 i1 i2 p _ (nat_abs (p.one a)) j (G j) (S j) (gone-small F n j m) (left-small n F j) (ends-near q s p x2 y2 x1 y1 G S g f l l2 l1 j a) } o
        (rise-down n _ x1 y1 p.one S F (near1 q within plain d s place n x1 y1 x2 y2 i1 i2 p) (lower-moved q s p x2 y2 x1 y1 G S g f l l2 l1 n) (λ i j a b. left_less n F i j a b))
        (rise-up n _ x2 y2 p.one G F (near2 q within plain d s place n x1 y1 x2 y2 i1 i2 p) (upper-moved q s p x2 y2 x1 y1 G S g f l l2 l1 n) (λ i j a b. times_more F i j a))
      where
        F : ℕ
        F = far q within plain d s place n x1 y1 x2 y2 i1 i2 p

        G : ℕ → ℕ
        G = grow q within plain d s place n x1 y1 x2 y2 i1 i2 p

        S : ℕ → ℕ
        S = shrink q within plain d s place n x1 y1 x2 y2 i1 i2 p

    -- the same, the two on one side
    chain-apart : AllAbove q (p.one y1) → AllBelow q (p.one x2) → p.one y1 <ℤ p.one x2 → SameSide q within plain d s place n x1 y1 x2 y2 i1 i2 → Here
    chain-apart f g l o =
        same-needs q within plain d s place n x1 y1 x2 y2 i1 i2 p
        (ends q s p x2 y2 x1 y1 S S g f l l2 l1) (ends-inside q s p x2 y2 x1 y1 S S g f l l2 l1) (3 * F)
        record { near = λ j m a. two-steps q within plain d s place n x1 y1 x2 y2 i1 i2 p _ (nat_abs (p.one a)) j (S j) (S j) (left-small n F j) (left-small n F j) (ends-near q s p x2 y2 x1 y1 S S g f l l2 l1 j a) } o
        (rise-down n _ x1 y1 p.one S F (near1 q within plain d s place n x1 y1 x2 y2 i1 i2 p) (lower-moved q s p x2 y2 x1 y1 S S g f l l2 l1 n) (λ i j a b. left_less n F i j a b))
        (fall-up n _ x2 y2 p.one S F (near2 q within plain d s place n x1 y1 x2 y2 i1 i2 p) (upper-moved q s p x2 y2 x1 y1 S S g f l l2 l1 n) (λ i j a b. left_less n F i j a b))
      where
        F : ℕ
        F = far q within plain d s place n x1 y1 x2 y2 i1 i2 p

        S : ℕ → ℕ
        S = shrink q within plain d s place n x1 y1 x2 y2 i1 i2 p

    -- references on different sides
    pub other-sides : SameEnd q within plain.domains plain.compact s p x1 y1 → SameEnd q within plain.domains plain.compact s p x2 y2 → OtherSide q within plain d s place n x1 y1 x2 y2 i1 i2 → Here
    other-sides (both_up f) (both_up g) o = two_up f g o
    other-sides (both_down f) (both_down g) o = two_down f g o
    other-sides (both_up f) (both_down g) o =
        by_lt_z (p.one y2) (p.one x1)
        (λ l. up_down f g l o)
        (λ l. two_up f (λ k h. (let a : k <ℤ p.one x1 = f k h in let b : p.one y2 <ℤ k = g k h in absurd (omega (arith, ints, a, b, l)))) o)
    other-sides (both_down f) (both_up g) o =
        by_lt_z (p.one y1) (p.one x2)
        (λ l. down_up f g l o)
        (λ l. two_up (λ k h. (let a : p.one y1 <ℤ k = f k h in let b : k <ℤ p.one x2 = g k h in absurd (omega (arith, ints, a, b, l)))) g o)

    -- references on one side, the first link below the second
    pub same-sides : SameEnd q within plain.domains plain.compact s p x1 y1 → SameEnd q within plain.domains plain.compact s p x2 y2 → p.one y1 <ℤ p.one x2 → SameSide q within plain d s place n x1 y1 x2 y2 i1 i2 → Here
    same-sides (both_up f) e l o = chain-up q within plain d s place n x1 y1 x2 y2 i1 i2 p f l o
    same-sides (both_down f) (both_down g) l o = chain-down q within plain d s place n x1 y1 x2 y2 i1 i2 p g l o
    same-sides (both_down f) (both_up g) l o = chain-apart f g l o

module _ (q : QueryValue) (within : IsFormed q) (plain : IsPlain q) (d : q.distinct ≡ true) (s : List Sign) (place : ℕ)
    (x1 y1 x2 y2 : Attr) (i1 : IsInequality q s x1 y1) (i2 : IsInequality q s x2 y2)
    (fine : (a b : Attr) → IsEquality q s a b → ¬ IsBounded q s a → ⊥)
    (n1 : (¬ IsBounded q s x1) × (¬ IsBounded q s y1)) (n2 : (¬ IsBounded q s x2) × (¬ IsBounded q s y2)) where
  -- some assignment of the part has the first link below the second, where not all have it above
  parted_at : (v : Assignment) (i : InPart q s v) → y1.stream ≢ x2.stream → v y1 ≤ℤ v x2 → Parted q s x2 y1
  parted_at v i o h =
      by_lt_z (v y1) (v x2)
      (λ l. record { u = v; inside = i; less = l })
      (λ l. let same : v y1 ≡ v x2 = omega (arith, ints, h, l) in
      let low : v x1 <ℤ v y1 = i1.less.less v i in
      elim (same-end q within plain.domains plain.compact s record { one = v; inside = i } x1 y1 i1 n1.0 n1.1) [
        | both_up f ↦ part-up q plain s fine v i x2 y1 o same (λ k g. (let m : k <ℤ v x1 = f k g in omega (arith, ints, m, low, same)))
        | both_down f ↦ part-down q plain s fine v i x2 y1 o same (λ k g. (let m : v y1 <ℤ k = f k g in omega (arith, ints, m, same)))
      ])

  parted_needs : Parted q s x2 y1 → ((n : ℕ) → SameSide q within plain d s place n x1 y1 x2 y2 i1 i2) → NeedsStates q
  parted_needs t side =
      let p : IsPart q s = record { one = t.u; inside = t.inside } in
      needs-all q (size place t.u + 3 * far q within plain d s place 0 x1 y1 x2 y2 i1 i2 p)
      (λ n. same-sides q within plain d s place n x1 y1 x2 y2 i1 i2 p (same-end q within plain.domains plain.compact s p x1 y1 i1 n1.0 n1.1) (same-end q within plain.domains plain.compact s p x2 y2 i2 n2.0 n2.1) t.less (side n))

  pub ordered : y1.stream ≢ x2.stream → ¬ IsLess q s (element.Attr x2) (element.Attr y1) → ((n : ℕ) → SameSide q within plain d s place n x1 y1 x2 y2 i1 i2) → NeedsStates q
  ordered o not_less side none = not_less record {
    less = λ v i. by_lt_z (v x2) (v y1) (λ h. h) (λ h. absurd (parted_needs (parted_at v i o h) side none));
  }

module _ (q : QueryValue) (within : IsFormed q) (plain : IsPlain q) (d : q.distinct ≡ true) (s : List Sign) (p : IsPart q s)
    (fine : (a b : Attr) → IsEquality q s a b → ¬ IsBounded q s a → ⊥) (place : ℕ) where
  in_one_stream : (a b : Attr) → a.stream ≡ place → b.stream ≡ place → same_stream a b ≡ true
  in_one_stream a b e f = grind (arith, e, f)

  less_here : (a b : Attr) → Contains (attrs_of q.atoms) a → Contains (attrs_of q.atoms) b → a.stream ≡ place → b.stream ≡ place → p.one a <ℤ p.one b
      → IsLess q s (element.Attr a) (element.Attr b)
  less_here a b h i e f l = record {
    less = λ v j. lt_along _ _ _ _ (same_sign q p.one v (p.inside.signs ∙ sym j.signs) (element.Attr a) (element.Attr b) h i (in_one_stream a b e f)) l;
  }

  equal_here : (a b : Attr) → Contains (attrs_of q.atoms) a → Contains (attrs_of q.atoms) b → a.stream ≡ place → b.stream ≡ place → p.one a ≡ p.one b
      → IsEqual q s (element.Attr a) (element.Attr b)
  equal_here a b h i e f l = record {
    equal = λ v j. eq_along _ _ _ _ (same_sign q p.one v (p.inside.signs ∙ sym j.signs) (element.Attr a) (element.Attr b) h i (in_one_stream a b e f)) l;
  }

  class_here : (a b : Attr) → Contains (attrs_of q.atoms) a → Contains (attrs_of q.atoms) b → a.stream ≡ place → b.stream ≡ place → p.one a ≡ p.one b
      → AreOneClass q s a b
  class_here a b h i e f l = record {
    named = inr (h, i);
    stream = e ∙ sym f;
    equal = equal_here a b h i e f l;
  }

  left_ends : (a : Attr) (r : IsMinRef q s a) → (¬ IsBounded q s a) × (¬ IsBounded q s r.other)
  left_ends a r = unbounded-both q within plain.domains plain.compact s p a r.other r.inequality (inl r.unbounded)

  right_ends : (a : Attr) (r : IsMaxRef q s a) → (¬ IsBounded q s r.other) × (¬ IsBounded q s a)
  right_ends a r = unbounded-both q within plain.domains plain.compact s p r.other a r.inequality (inr r.unbounded)

  mins_need : (a b : Attr) → a.stream ≡ place → b.stream ≡ place → (m : IsMinRef q s a) (o : IsMinRef q s b) → p.one a <ℤ p.one b → NeedsStates q
  mins_need a b e f m o l =
      ordered q within plain d s place a m.other b o.other m.inequality o.inequality fine (left_ends a m) (left_ends b o)
      (λ g. m.inequality.across.across (e ∙ sym f ∙ sym g))
      (λ g. m.inequality.needed (between (element.Attr b) o.inequality.across.left (less_here a b m.inequality.across.left o.inequality.across.left e f l) g))
      (λ n. lefts e f)

  maxes_need : (a b : Attr) → a.stream ≡ place → b.stream ≡ place → (m : IsMaxRef q s a) (o : IsMaxRef q s b) → p.one a <ℤ p.one b → NeedsStates q
  maxes_need a b e f m o l =
      ordered q within plain d s place m.other a o.other b m.inequality o.inequality fine (right_ends a m) (right_ends b o)
      (λ g. o.inequality.across.across (sym g ∙ e ∙ sym f))
      (λ g. o.inequality.needed (between (element.Attr a) m.inequality.across.right g (less_here a b m.inequality.across.right o.inequality.across.right e f l)))
      (λ n. rights e f)

  pub refs-need : (a b : Attr) → a.stream ≡ place → b.stream ≡ place → AreTwoRefs q s a b → NeedsStates q
  refs-need a b e f (two_mins m o differ) =
      by_lt_z (p.one a) (p.one b) (λ l. mins_need a b e f m o l)
      (λ h. by_lt_z (p.one b) (p.one a) (λ l. mins_need b a f e o m l)
      (λ l. absurd (differ (class_here a b m.inequality.across.left o.inequality.across.left e f (omega (arith, ints, h, l))))))
  refs-need a b e f (two_maxes m o differ) =
      by_lt_z (p.one a) (p.one b) (λ l. maxes_need a b e f m o l)
      (λ h. by_lt_z (p.one b) (p.one a) (λ l. maxes_need b a f e o m l)
      (λ l. absurd (differ (class_here a b m.inequality.across.right o.inequality.across.right e f (omega (arith, ints, h, l))))))
  refs-need a b e f (both m o) =
      let t = left_ends a m in
      let u = right_ends b o in
      needs-all q (size place p.one + 3 * far q within plain d s place 0 a m.other o.other b m.inequality o.inequality p)
      (λ n. other-sides q within plain d s place n a m.other o.other b m.inequality o.inequality p
      (same-end q within plain.domains plain.compact s p a m.other m.inequality t.0 t.1) (same-end q within plain.domains plain.compact s p o.other b o.inequality u.0 u.1) record { left = e; right = f })

-- a failure by an earlier condition is earlier
by_second : (part : ℕ) (a b : Attr) → failure_lt record { part = part; condition = C2; attr = a } record { part = part; condition = C3; attr = b } ≡ true
by_second part a b = grind arith

failure_as : (f : Failure) → f.condition ≡ C3 → (a : Attr) → failure_lt record { part = f.part; condition = C2; attr = a } f ≡ true
failure_as f e a = subst (λ (c : Condition). failure_lt record { part = f.part; condition = C2; attr = a } record { part = f.part; condition = c; attr = f.attr } ≡ true) (sym e) (by_second f.part a f.attr)

is_third : (c : Condition) → (c ≡ C3) ⊎ (c ≡ C3 → ⊥)
is_third C1 = inr (λ e. cc)
is_third C2 = inr (λ e. cc)
is_third C3 = inl refl

pub refused-need : (q : QueryValue) → IsFormed q → IsPlain q → (f : Failure) → IsViolation q (Some f) → NeedsStates q
refused-need q within plain f (filter h e) = absurd cc
refused-need q within plain f (violation.first joins parts are firsts) = elim (true_or_false q.distinct) [
  | inr d ↦ soft-need q within plain.domains plain.compact f (violation.first joins parts are firsts) (inl d)
  | inl d ↦ elim (is_third f.condition) [
    | inr other ↦ breaks-need q within plain firsts.0.signs part joins f.condition f.attr firsts.0.breaks other
    | inl third ↦ (
        let broken : Breaks q firsts.0.signs C3 f.attr = subst (λ c. Breaks q firsts.0.signs c f.attr) third firsts.0.breaks in
        let two : HasTwoRefs q firsts.0.signs f.attr.stream = broken.1 d in
        refs-need q within plain d firsts.0.signs part (fine third) f.attr.stream two.first two.second two.here two.there two.two)
  ]
]
  where
    part : IsPart q firsts.0.signs
    part = All-contains (IsPart q) parts firsts.0.signs are.each (Contains-from_has parts firsts.0.signs (member_at parts (f.part - 1) firsts.0.signs firsts.0.at))

    fine : f.condition ≡ C3 → (a b : Attr) → IsEquality q firsts.0.signs a b → ¬ IsBounded q firsts.0.signs a → ⊥
    fine third a b i n = firsts.1 record { part = f.part; condition = C2; attr = a } (failure_as f third a) record {
      signs = firsts.0.signs;
      number = firsts.0.number;
      at = firsts.0.at;
      breaks = (n, b, inl i);
    }

pub refused-needs-states : RefusedNeedsStates
refused-needs-states q within plain f violation = refused-need q (formed q within) plain f violation

-- whichever reason there is that the refusal tells
pub telling-need : (q : QueryValue) → IsFormed q → HasNoDomains q → q.compact ≡ false → (f : Failure) → IsViolation q (Some f) → RefusalTells q f → NeedsStates q
telling-need q within none whole f violation (no_soft hard) = refused-need q within record { hard = hard; domains = none; compact = whole } f violation
telling-need q within none whole f violation (no_distinct d) = soft-need q within none whole f violation (inl d)
telling-need q within none whole f violation (by_selected e) = soft-need q within none whole f violation (inr e)

pub telling-needs-states : TellingNeedsStates
telling-needs-states q within none whole f violation tells = telling-need q (formed q within) none whole f violation tells
