-- What a part of the split form breaks first is one, and so is the violation of a query by it.
use Rattle.std.proofs.Common.{◌≡◌, ℕ, zero, suc, ◌<◌, ◌-◌, ◌⊎◌, inl, inr, List, [], ◌∷◌, length, slice_get, Option, Some, None, refl, sym, ap, ◌∙◌, subst, arith}
use Rattle.std.specs.List.{AllZip}
use Rattle.std.proofs.lemmas.Option.{slice_get_within}
use Rattle.std.proofs.lemmas.List.Elements.{All-contains}
use Rattle.sem_query.specs.declared.atom.Atom.{Atom}
use Rattle.sem_query.specs.declared.atom.Attr.{Attr}
use Rattle.sem_query.specs.declared.condition.Condition.TheVariants.{C3}
use Rattle.sem_query.specs.declared.first_break.Break.{Break}
use Rattle.sem_query.specs.declared.part.Sign.{Sign}
use Rattle.sem_query.specs.declared.plan.PartPlan.{PartPlan}
use Rattle.sem_query.specs.FirstBreak.{IsFirst}
use Rattle.sem_query.specs.Plan.{dims_at}
use Rattle.sem_query.specs.Query.{QueryValue, attr_lt}
use Rattle.sem_query.specs.Violation.{Failure}
use Rattle.sem_query.proofs.Elements.{attr_separates}
use Rattle.sem_query.proofs.Has.{Has, first, later, Contains-from_has}
use Rattle.sem_laws.proofs.Tests.{false_if}
use Rattle.plan_split_pairs.specs.SplitParts.{IsSplitPart}
use Rattle.sem_whole.specs.Links.{AreLinks}
use Rattle.sem_whole.specs.Whole.{Form}
use Rattle.sem_whole.specs.Plan.{IsWholePlan, AreOneForm}
use Rattle.sem_whole.specs.Failing.{IsFirstWholeBreak}
use Rattle.sem_whole.proofs.Failing.{one_first_break}
use Rattle.sem_whole.proofs.Planned.{one_whole_plan, plans_are_forms}
use Rattle.sem_whole.proofs.Suffice.{one_list_of_links}
use Rattle.sem_whole.proofs.Unbroken.{finite_forms_break_nothing}
use Rattle.sem_forms.specs.Part.{form_with, IsWholePartPlan}
use Rattle.sem_forms.specs.Split.{part_query}
use Rattle.sem_forms.specs.SplitBreaks.{LacksEnd, IsOpenDim, IsPartBreak, broken, unbounded, none, BreaksAt, IsFirstPartFailure}
use Rattle.sem_forms.specs.Laws.{WholePartsBreakNothing, HasOneSplitViolation, SplitPlansMeet}
use Rattle.sem_forms.proofs.FormLinks.{OwnOf, own_to}
use Rattle.sem_forms.proofs.One.{whole_parts_are_finite}
use Rattle.sem_forms.proofs.PartQueries.{part_queries_are_well_formed}
use Rattle.sem_forms.proofs.SplitOne.{one_list_of_split_parts}
use Rattle.sem_forms.proofs.SplitServes.{IsPlanOf}

pub whole_parts_break_nothing : WholePartsBreakNothing
whole_parts_break_nothing q formed part is =
    finite_forms_break_nothing q formed (form_with is.links is.keeps part.local) (plans_are_forms q (form_with is.links is.keeps part.local) is.plan) (whole_parts_are_finite q part is)

-- ---- the break of a part

-- the third condition, broken at a column
abbrev third_at : Attr → Option Break
third_at a = Some record { condition = C3; attr = a }

module _ (r : QueryValue) where
  -- a first break, by whatever list of links
  break_one : (links others : List Atom) → AreLinks r links → AreLinks r others → (b c : Option Break) → IsFirstWholeBreak r links b → IsFirstWholeBreak r others c → b ≡ c
  break_one links others x y b c i j = one_first_break r links b c i (subst (λ l. IsFirstWholeBreak r l c) (sym (one_list_of_links r links others x y)) j)

  some_is_none : (b : Break) → Some b ≡ None → ⊥
  some_is_none b e = cc

  -- an open dim of one form is one of each form with the same dims
  open_over : (f g : Form) → AreOneForm r f g → (a : Attr) → IsOpenDim r f a → IsOpenDim r g a
  open_over f g o a d = record { place = d.place; stream = d.stream; dim = d.dim; among = subst (λ k. Has k.dims d.dim) (o.keeps d.place d.stream) d.among; is = d.is; lacks = d.lacks }

  first_open_one : (f g : Form) → IsWholePlan r f → IsWholePlan r g → (a b : Attr) → IsFirst (IsOpenDim r f) (Some a) → IsFirst (IsOpenDim r g) (Some b) → a ≡ b
  first_open_one f g x y a b i j =
      attr_separates a b
      (false_if (attr_lt a b) (λ l. j.1 a l (open_over f g (one_whole_plan r f g x y) a i.0)))
      (false_if (attr_lt b a) (λ l. i.1 b l (open_over g f (one_whole_plan r g f y x) b j.0)))

  -- a form with a plan has no open dim
  none_open : (part : PartPlan) → IsWholePartPlan r part → (f : Form) → IsWholePlan r f → (a : Attr) → IsOpenDim r f a → ⊥
  none_open part is f x a d =
      let e : IsOpenDim r (form_with is.links is.keeps part.local) a = open_over f (form_with is.links is.keeps part.local) (one_whole_plan r f (form_with is.links is.keeps part.local) x is.plan) a d in
      let o : OwnOf r (dims_at part e.place) e.dim = own_to r (is.keeps e.place).dims (dims_at part e.place) (is.streams e.place e.stream).dims e.dim e.among in
      subst (LacksEnd r) (sym (o.attr ∙ e.is)) e.lacks o.dim.lo o.dim.hi o.own

  pub one_part_break : (b c : Option Break) → IsPartBreak r b → IsPartBreak r c → b ≡ c
  one_part_break b c (broken links x d i) (broken others y e j) = break_one links others x y (Some d) (Some e) i j
  one_part_break b c (broken links x d i) (unbounded f y j a o) = absurd (some_is_none d (break_one links f.links x y.links (Some d) None i j))
  one_part_break b c (broken links x d i) (none part is j) = absurd (some_is_none d (break_one links is.links x is.plan.links (Some d) None i j))
  one_part_break b c (unbounded f x i a o) (broken others y e j) = absurd (some_is_none e (break_one others f.links y x.links (Some e) None j i))
  one_part_break b c (unbounded f x i a o) (unbounded g y j k u) = ap third_at (first_open_one f g x y a k o u)
  one_part_break b c (unbounded f x i a o) (none part is j) = absurd (none_open part is f x a o.0)
  one_part_break b c (none part is i) (broken others y e j) = absurd (some_is_none e (break_one others is.links y is.plan.links (Some e) None j i))
  one_part_break b c (none part is i) (unbounded g y j k u) = absurd (none_open part is g y k u.0)
  one_part_break b c (none part is i) (none other o j) = refl

-- ---- the violation by all parts

pub breaks_one : (q : QueryValue) (parts : List (List Sign)) (n : ℕ) (b c : Option Break) → BreaksAt q parts n b → BreaksAt q parts n c → b ≡ c
breaks_one q parts n b c x y =
    let e : x.signs ≡ y.signs = some_signs x.signs y.signs (sym x.at ∙ y.at) in
    one_part_break (part_query q x.signs) b c x.breaks (subst (λ ss. IsPartBreak (part_query q ss) c) (sym e) y.breaks)
  where
    some_signs : (ss tt : List Sign) → Some ss ≡ Some tt → ss ≡ tt
    some_signs ss tt e = cc

abbrev break_of : Failure → Break
break_of f = record { condition = f.condition; attr = f.attr }

module _ (q : QueryValue) (parts : List (List Sign)) where
  -- a part that fails is not one that does not
  fails_not : (n : ℕ) (b : Break) → BreaksAt q parts n (Some b) → BreaksAt q parts n None → ⊥
  fails_not n b x y = some_is_none (part_query q x.signs) b (breaks_one q parts n (Some b) None x y)

  some_failure : (f : Failure) → IsFirstPartFailure q parts (Some f) → IsFirstPartFailure q parts None → ⊥
  some_failure f x y = fails_not (f.part - 1) (break_of f) x.1 (y (f.part - 1) (slice_get_within parts (f.part - 1) x.1.signs x.1.at))

  part_one : (f g : Failure) → IsFirstPartFailure q parts (Some f) → IsFirstPartFailure q parts (Some g) → f.part ≡ g.part
  part_one f g x y = by (order (f.part - 1) (g.part - 1))
    where
      order : (m n : ℕ) → (m ≡ n) ⊎ ((m < n) ⊎ (n < m))
      order zero zero = inl refl
      order zero (suc n) = inr (inl (omega arith))
      order (suc m) zero = inr (inr (omega arith))
      order (suc m) (suc n) = elim (order m n) [
        | inl e ↦ inl (ap suc e)
        | inr o ↦ elim o [ inl l ↦ inr (inl (omega (arith, l))) | inr l ↦ inr (inr (omega (arith, l))) ]
      ]

      by : ((f.part - 1) ≡ (g.part - 1)) ⊎ (((f.part - 1) < (g.part - 1)) ⊎ ((g.part - 1) < (f.part - 1))) → f.part ≡ g.part
      by (inl e) = (let a = x.0 in let b = y.0 in omega (arith, e, a, b))
      by (inr (inl l)) = absurd (fails_not (f.part - 1) (break_of f) x.1 (y.2 (f.part - 1) l))
      by (inr (inr l)) = absurd (fails_not (g.part - 1) (break_of g) y.1 (x.2 (g.part - 1) l))

  failure_one : (r s : Option Failure) → IsFirstPartFailure q parts r → IsFirstPartFailure q parts s → r ≡ s
  failure_one None None x y = refl
  failure_one None (Some g) x y = absurd (some_failure g y x)
  failure_one (Some f) None x y = absurd (some_failure f x y)
  failure_one (Some f) (Some g) x y =
      let p : f.part ≡ g.part = part_one f g x y in
      let e : Some (break_of f) ≡ Some (break_of g)
      = breaks_one q parts (f.part - 1) (Some (break_of f)) (Some (break_of g)) x.1 (subst (λ n. BreaksAt q parts (n - 1) (Some (break_of g))) (sym p) y.1) in
      let b : break_of f ≡ break_of g = cc in
      λ i. Some record { part = p i; condition = (b i).condition; attr = (b i).attr }

pub one_split_violation : HasOneSplitViolation
one_split_violation q r s x y = failure_one q x.parts r s x.first (subst (λ ps. IsFirstPartFailure q ps s) (one_list_of_split_parts q y.parts x.parts y.are x.are) y.first)

-- the part at a place of the list, with its plan
planned_at : (q : QueryValue) (parts : List (List Sign)) (plan : List PartPlan) → AllZip (IsPlanOf q) parts plan → (n : ℕ) → n < length parts
    → (ss : List Sign) × Has parts ss × (slice_get parts n ≡ Some ss) × (p : PartPlan) × IsPlanOf q ss p
planned_at q [] plan z n l = absurd (omega (arith, l))
planned_at q (ss ∷ parts) [] z n l = absurd z
planned_at q (ss ∷ parts) (p ∷ plan) z zero l = (ss, first, refl, p, z.0)
planned_at q (ss ∷ parts) (p ∷ plan) z (suc n) l = (let o = planned_at q parts plan z.1 n (omega (arith, l)) in (o.0, later o.1, o.2, o.3, o.4))

pub split_plans_meet : SplitPlansMeet
split_plans_meet q plan w is = record { parts = is.parts; are = is.are; first = fine }
  where
    fine : (n : ℕ) → n < length is.parts → BreaksAt q is.parts n None
    fine n l =
        let o = planned_at q is.parts plan is.plans n l in
        let part : IsSplitPart q o.0 = All-contains (IsSplitPart q) is.parts o.0 is.are.each (Contains-from_has is.parts o.0 o.1) in
        record {
          signs = o.0;
          at = o.2;
          breaks = none o.3 o.4 (whole_parts_break_nothing (part_query q o.0) (part_queries_are_well_formed q w o.0 part) o.3 o.4);
        }
