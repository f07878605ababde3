-- Where the integers just outside of those written have 15 digits too, a part that breaks no condition has no dim whose own range lacks an end.
use Rattle.std.proofs.Common.{◌≡◌, ◌⊎◌, inl, inr, ℤ, pos, ◌+ℤ◌, ◌-ℤ◌, ◌≤ℤ◌, List, Option, None, Some, refl, sym, ap, ◌∙◌, subst, arith}
use Rattle.std.proofs.lemmas.Int.{ints}
use Rattle.sem_query.specs.declared.atom.Atom.{Atom}
use Rattle.sem_query.specs.declared.atom.Attr.{Attr}
use Rattle.sem_query.specs.declared.atom.Element.{Element}
use Rattle.sem_query.specs.declared.atom.Element.TheVariants as element
use Rattle.sem_query.specs.declared.atom.Op.{Op}
use Rattle.sem_query.specs.declared.part.Sign.{Sign}
use Rattle.sem_query.specs.Query.{QueryValue, IsWithinLimits}
use Rattle.sem_query.proofs.Has.{Has}
use Rattle.plan_split_pairs.specs.Pairs.{split_pairs}
use Rattle.plan_split_pairs.specs.SplitParts.{IsSplitPart}
use Rattle.sem_whole.specs.System.{Difference, system, Bound, AreOneClass}
use Rattle.sem_whole.specs.Links.{AreLinks}
use Rattle.sem_whole.specs.Ranges.{Range, range, moved, window, flipped, widest, sooner}
use Rattle.sem_whole.specs.Ranges as ranges
use Rattle.sem_whole.specs.Kept as kept
use Rattle.sem_whole.specs.Kept.{IsLowest, IsHighest, IsRange, IsKeptAsItIs, IsAsked, IsKeptRange}
use Rattle.sem_whole.specs.Whole.{Form, IsFinite}
use Rattle.sem_whole.specs.Plan.{IsWholePlan, IsPlannedDim}
use Rattle.sem_whole.specs.Failing.{IsFirstWholeBreak}
use Rattle.sem_whole.proofs.CutLaw.{Stuck, link_stuck}
use Rattle.sem_whole.proofs.Keeping.{LowTo, HighTo, widest_low, widest_high}
use Rattle.sem_whole.proofs.Planned.{plans_tell_breaks}
use Rattle.sem_whole.proofs.Unbroken.{kept_own_range}
use Rattle.sem_forms.specs.Split.{part_query}
use Rattle.sem_forms.specs.SplitBreaks.{LacksEnd, IsOpenDim}
use Rattle.sem_forms.proofs.PartQueries.{part_queries_are_well_formed}
use Rattle.sem_lower_bounds.proofs.Possible.{either}
use Rattle.sem_split_bounds.proofs.Paths.{Step, step_leads, leads_bound}
use Rattle.sem_split_bounds.proofs.Ends.{NoTop, NoBottom, top_over, bottom_under, open_ends}
use Rattle.sem_split_bounds.proofs.OpenLinks.{link_op, link_steps}
use Rattle.sem_split_bounds.proofs.Parts.{split_part}
use Rattle.sem_split_bounds.proofs.FreeSteps.{part_step_named}
use Rattle.sem_split_bounds.proofs.UnlikeLinks.{no_unlike_link}
use Rattle.sem_split_bounds.proofs.Between.{leads_grouped, over_all, under_all}

-- ---- ends of windows

-- an end that is there
abbrev IsThere : Option ℤ → Type 0
IsThere e = (k : ℤ) × (e ≡ Some k)

low_there : (k : ℤ) (e : Option ℤ) → LowTo (Some k) e → IsThere e
low_there k None h = absurd h
low_there k (Some l) h = (l, refl)

high_there : (k : ℤ) (e : Option ℤ) → HighTo (Some k) e → IsThere e
high_there k None h = absurd h
high_there k (Some l) h = (l, refl)

moved_there : (by : ℤ) (e : Option ℤ) → IsThere (moved by e) → IsThere e
moved_there by None h = absurd cc
moved_there by (Some k) h = (k, refl)

-- the operators of links that are neither `=` nor `<>`
abbrev IsStrict : Op → Type 0
IsStrict o = (o ≡ Op.Lt) ⊎ (o ≡ Op.Le)

-- a window of `<`, `<=` has an end where the other side has it
window_low : (o : Op) (r : Range) → IsStrict o → IsThere (window o r).lo → IsThere r.lo
window_low Op.Lt r i e = moved_there _ r.lo e
window_low Op.Le r i e = e
window_low Op.Gt r i e = absurd (elim i [ inl k ↦ cc | inr k ↦ cc ])
window_low Op.Ge r i e = absurd (elim i [ inl k ↦ cc | inr k ↦ cc ])
window_low Op.Eq r i e = absurd (elim i [ inl k ↦ cc | inr k ↦ cc ])
window_low Op.Ne r i e = absurd (elim i [ inl k ↦ cc | inr k ↦ cc ])

window_high : (o : Op) (r : Range) → IsStrict o → IsThere (window o r).hi → IsThere r.hi
window_high Op.Lt r i e = e
window_high Op.Le r i e = moved_there _ r.hi e
window_high Op.Gt r i e = absurd (elim i [ inl k ↦ cc | inr k ↦ cc ])
window_high Op.Ge r i e = absurd (elim i [ inl k ↦ cc | inr k ↦ cc ])
window_high Op.Eq r i e = absurd (elim i [ inl k ↦ cc | inr k ↦ cc ])
window_high Op.Ne r i e = absurd (elim i [ inl k ↦ cc | inr k ↦ cc ])

flipped_low : (o : Op) (r : Range) → IsStrict o → IsThere (window (flipped o) r).lo → IsThere r.lo
flipped_low Op.Lt r i e = e
flipped_low Op.Le r i e = moved_there _ r.lo e
flipped_low Op.Gt r i e = absurd (elim i [ inl k ↦ cc | inr k ↦ cc ])
flipped_low Op.Ge r i e = absurd (elim i [ inl k ↦ cc | inr k ↦ cc ])
flipped_low Op.Eq r i e = absurd (elim i [ inl k ↦ cc | inr k ↦ cc ])
flipped_low Op.Ne r i e = absurd (elim i [ inl k ↦ cc | inr k ↦ cc ])

flipped_high : (o : Op) (r : Range) → IsStrict o → IsThere (window (flipped o) r).hi → IsThere r.hi
flipped_high Op.Lt r i e = moved_there _ r.hi e
flipped_high Op.Le r i e = e
flipped_high Op.Gt r i e = absurd (elim i [ inl k ↦ cc | inr k ↦ cc ])
flipped_high Op.Ge r i e = absurd (elim i [ inl k ↦ cc | inr k ↦ cc ])
flipped_high Op.Eq r i e = absurd (elim i [ inl k ↦ cc | inr k ↦ cc ])
flipped_high Op.Ne r i e = absurd (elim i [ inl k ↦ cc | inr k ↦ cc ])

-- ---- ends of columns

module _ (ds : List Difference) (a : Attr) where
  under_end : (e : Option ℤ) → IsHighest ds a e → IsThere e → (h : ℤ) × Bound ds (element.Attr a) (element.Const h) (pos 0)
  under_end e is h = (h.0, (subst (IsHighest ds a) h.1 is).0)

  over_end : (e : Option ℤ) → IsLowest ds a e → IsThere e → (l : ℤ) × Bound ds (element.Const l) (element.Attr a) (pos 0)
  over_end e is h = (h.0, (subst (IsLowest ds a) h.1 is).0)

  no_high : (e : Option ℤ) → IsHighest ds a e → NoTop ds a → e ≡ None
  no_high None is n = refl
  no_high (Some h) is n = absurd (n h is.0)

  no_low : (e : Option ℤ) → IsLowest ds a e → NoBottom ds a → e ≡ None
  no_low None is n = refl
  no_low (Some l) is n = absurd (n l is.0)

-- integers between the sides imply the comparison
not_stuck : (ds : List Difference) (o : Op) (x y : Element) → IsStrict o → (high low : ℤ) → (high +ℤ pos 1) ≤ℤ low
    → Bound ds x (element.Const high) (pos 0) → Bound ds (element.Const low) y (pos 0) → Stuck ds o x y → ⊥
not_stuck ds o x y (inl e) high low l f g s = subst (λ o. Stuck ds o x y) e s high low f g (omega (arith, ints, l))
not_stuck ds o x y (inr e) high low l f g s = subst (λ o. Stuck ds o x y) e s high low f g (omega (arith, ints, l))

-- ---- a class whose own range lacks an end

module _ (q : QueryValue) (within : IsWithinLimits q) (ss : List Sign) (is : IsSplitPart q ss)
    (links : List Atom) (are : AreLinks (part_query q ss) links) (a : Attr) where
  abbrev r : QueryValue
  r = part_query q ss

  abbrev ds : List Difference
  ds = system r

  -- the left side of a link stands at or under the right one, and both are of one group
  step : (t : Atom) → Has links t → (x y : Attr) → t.left ≡ element.Attr x → t.right ≡ element.Attr y → Step ds x y
  step t h x y ex ey = link_steps r links are t h x y ex ey (no_unlike_link q within ss is links are t h)

  -- an integer between the sides is against the link
  no_integer : (t : Atom) → Has links t → IsStrict t.op → (x y : Attr) → t.left ≡ element.Attr x → t.right ≡ element.Attr y
      → (high low : ℤ) → (high +ℤ pos 1) ≤ℤ low → Bound ds (element.Attr x) (element.Const high) (pos 0) → Bound ds (element.Const low) (element.Attr y) (pos 0) → ⊥
  no_integer t h o x y ex ey high low l f g =
      not_stuck ds t.op (element.Attr x) (element.Attr y) o high low l f g
      (subst (λ e. Stuck ds t.op e (element.Attr y)) ex (subst (λ e. Stuck ds t.op t.left e) ey (link_stuck r links are t h)))

  -- the left side has an end above, and so has the right one
  right_ends : (t : Atom) → Has links t → IsStrict t.op → (x y : Attr) → t.left ≡ element.Attr x → t.right ≡ element.Attr y
      → NoTop ds y → (h : ℤ) → Bound ds (element.Attr x) (element.Const h) (pos 0) → ⊥
  right_ends t i o x y ex ey n h b =
      let s : Step ds x y = step t i x y ex ey in
      let named = part_step_named q within (split_pairs q) ss (split_part q within ss is) x y s in
      over_all q within (split_pairs q) ss (split_part q within ss is) x y named.1 (leads_grouped q within (split_pairs q) ss (split_part q within ss is) x y (step_leads ds x y s)) n h b
      (λ k. no_integer t i o x y ex ey k.0 (k.0 +ℤ pos 1) (omega (arith, ints)) k.1 k.2)

  -- the right side has an end below, and so has the left one
  left_ends : (t : Atom) → Has links t → IsStrict t.op → (x y : Attr) → t.left ≡ element.Attr x → t.right ≡ element.Attr y
      → NoBottom ds x → (l : ℤ) → Bound ds (element.Const l) (element.Attr y) (pos 0) → ⊥
  left_ends t i o x y ex ey n l b =
      let s : Step ds x y = step t i x y ex ey in
      let named = part_step_named q within (split_pairs q) ss (split_part q within ss is) x y s in
      under_all q within (split_pairs q) ss (split_part q within ss is) y x named.0 (sym (leads_grouped q within (split_pairs q) ss (split_part q within ss is) x y (step_leads ds x y s))) n l b
      (λ k. no_integer t i o x y ex ey (k.0 -ℤ pos 1) k.0 (omega (arith, ints)) k.2 k.1)

  module _ (other : IsKeptAsItIs r links a → ⊥) where
    strict : (t : Atom) → Has links t → (b : Attr) → (t.left ≡ element.Attr b) ⊎ (t.right ≡ element.Attr b) → AreOneClass ds a b → IsStrict t.op
    strict t h b s c = elim (link_op r links are t h) [
      | inl o ↦ o
      | inr o ↦ elim o [ inl e ↦ absurd (other (kept.linked t h e b s c)) | inr e ↦ absurd (no_unlike_link q within ss is links are t h e) ]
    ]

    -- what is asked of a class without a greatest value has no greatest either
    high_asked : NoTop ds a → (w : Range) → IsAsked r links a w → IsThere w.hi → ⊥
    high_asked n w (kept.as_it_is k) e = other k
    high_asked n w (kept.left t h b c eb ec cl s m) e =
        let o : IsStrict t.op = strict t h b (inl eb) cl in
        let i = under_end ds c s.hi m.high (window_high t.op s o e) in
        top_over ds b c (pos 0) (leads_bound r b c (step_leads ds b c (step t h b c eb ec))) (top_over ds a b (pos 0) cl.below n) i.0 i.1
    high_asked n w (kept.right t h b c ec eb cl s m) e =
        let o : IsStrict t.op = strict t h b (inr eb) cl in
        let i = under_end ds c s.hi m.high (flipped_high t.op s o e) in
        right_ends t h o c b ec eb (top_over ds a b (pos 0) cl.below n) i.0 i.1

    low_asked : NoBottom ds a → (w : Range) → IsAsked r links a w → IsThere w.lo → ⊥
    low_asked n w (kept.as_it_is k) e = other k
    low_asked n w (kept.left t h b c eb ec cl s m) e =
        let o : IsStrict t.op = strict t h b (inl eb) cl in
        let i = over_end ds c s.lo m.low (window_low t.op s o e) in
        left_ends t h o b c eb ec (bottom_under ds b a (pos 0) cl.above n) i.0 i.1
    low_asked n w (kept.right t h b c ec eb cl s m) e =
        let o : IsStrict t.op = strict t h b (inr eb) cl in
        let i = over_end ds c s.lo m.low (flipped_low t.op s o e) in
        bottom_under ds c b (pos 0) (leads_bound r c b (step_leads ds c b (step t h c b ec eb))) (bottom_under ds b a (pos 0) cl.above n) i.0 i.1

  -- a finite kept range is of a finite own range
  pub own_ends : (kept_range : Range) → IsKeptRange r links a kept_range → IsFinite kept_range → LacksEnd r a → ⊥
  own_ends range k finite lacks = either {A = IsKeptAsItIs r links a} (λ o. elim o [
    | inl i ↦ open_own (subst IsFinite (kept_own_range r links a range k i) finite)
    | inr n ↦ elim (open_ends ds a k.own k.is_own open_own) [
      | inl t ↦ (
          let e : range.hi ≡ (widest k.asked).hi = ap (λ w. w.hi) k.is ∙ ap (λ e. sooner e (widest k.asked).hi) (no_high ds a k.own.hi k.is_own.high t) in
          let w : HighTo (Some finite.hi) k.some.0.hi = subst (λ e. HighTo e k.some.0.hi) (sym e ∙ finite.high) (widest_high k.asked k.some.0 k.some.1) in
          high_asked n t k.some.0 ((k.all k.some.0).0 k.some.1) (high_there finite.hi k.some.0.hi w))
      | inr t ↦ (
          let e : range.lo ≡ (widest k.asked).lo = ap (λ w. w.lo) k.is ∙ ap (λ e. ranges.later e (widest k.asked).lo) (no_low ds a k.own.lo k.is_own.low t) in
          let w : LowTo (Some finite.lo) k.some.0.lo = subst (λ e. LowTo e k.some.0.lo) (sym e ∙ finite.low) (widest_low k.asked k.some.0 k.some.1) in
          low_asked n t k.some.0 ((k.all k.some.0).0 k.some.1) (low_there finite.lo k.some.0.lo w))
    ]
  ])
    where
      open_own : IsFinite k.own → ⊥
      open_own f = lacks f.lo f.hi record { low = subst (IsLowest ds a) f.low k.is_own.low; high = subst (IsHighest ds a) f.high k.is_own.high }

-- no dim of a part that breaks no condition lacks an end
pub no_open_dim : (q : QueryValue) → IsWithinLimits q → (ss : List Sign) → IsSplitPart q ss
    → (f : Form) → IsWholePlan (part_query q ss) f → IsFirstWholeBreak (part_query q ss) f.links None → (a : Attr) → IsOpenDim (part_query q ss) f a → ⊥
no_open_dim q within ss is f plan unbroken a d =
    let finite : IsFinite d.dim.range = (plans_tell_breaks (part_query q ss) (part_queries_are_well_formed q within ss is) f plan).1 unbroken d.place d.stream d.dim d.among in
    let planned : IsPlannedDim (part_query q ss) f.links d.place (f.keeps d.place).kind d.dim = (plan.streams d.place d.stream).dims d.dim d.among in
    own_ends q within ss is f.links plan.links d.dim.attr d.dim.range planned.range finite (subst (LacksEnd (part_query q ss)) (sym d.is) d.lacks)
