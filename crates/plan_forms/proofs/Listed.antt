-- The list of parts, one after another: their plans, and the first that breaks something.
use Rattle.std.proofs.Common.{◌≡◌, ℕ, zero, suc, ◌+◌, ◌-◌, ◌<◌, ◌≤◌, ◌⊎◌, inl, inr, List, [], ◌∷◌, ◌++◌, take, length, slice_get, slice_index_or, Option, None, Some, Err, refl, sym, ap, ◌∙◌, subst, arith}
use Rattle.std.specs.List.{AllZip}
use Rattle.std.proofs.lemmas.List.{take_more, take_all, length-map, get_or-map}
use Rattle.std.proofs.lemmas.List.Elements.{All-get_or, Contains-get_or}
use Rattle.sem_query.proofs.Has.{Has-from_contains}
use Rattle.sem_query.specs.declared.first_break.Break.{Break}
use Rattle.sem_query.specs.declared.part.Sign.{Sign}
use Rattle.sem_query.specs.declared.plan.PartPlan.{PartPlan}
use Rattle.sem_query.specs.Query.{QueryValue, IsWithinLimits}
use Rattle.plan_split_pairs.specs.SplitParts.{IsSplitPart, AreSplitParts}
use Rattle.plan_split_parts.specs.declared.front.Front.{Front}
use Rattle.plan_split_parts.specs.Fronts.{fronts_of, AreFronts, IsFrontOf}
use Rattle.plan_layout.specs.declared.draft.PlanDraft.{PlanDraft}
use Rattle.plan_layout.specs.Boxed.{boxed_part}
use Rattle.plan_layout.specs.Sums.{violation_at}
use Rattle.sem_forms.specs.Part.{IsWholePartPlan}
use Rattle.sem_forms.specs.Split.{part_query}
use Rattle.sem_forms.specs.SplitBreaks.{IsPartBreak, BreaksAt, IsSplitViolation}
use Rattle.sem_forms.specs.SplitBreaks as breaks
use Rattle.sem_forms.proofs.PartBreaks.{whole_parts_break_nothing}
use Rattle.sem_forms.proofs.PartQueries.{part_queries_are_well_formed}
use Rattle.plan_forms.specs.Drafts.{IsPartDraft, IsAdded, counted_once, AreSummed, AreDrafted, IsSplitDrafted}

-- ---- lists with something for each element

zip_push : {A B : Type 0} (R : A → B → Type 0) (xs : List A) (ys : List B) (x : A) (y : B) → AllZip R xs ys → R x y → AllZip R (xs ++ x ∷ []) (ys ++ y ∷ [])
zip_push R [] [] x y h r = (r, tt)
zip_push R [] (z ∷ ys) x y h r = absurd h
zip_push R (w ∷ xs) [] x y h r = absurd h
zip_push R (w ∷ xs) (z ∷ ys) x y h r = (h.0, zip_push R xs ys x y h.1 r)

zip_length : {A B : Type 0} (R : A → B → Type 0) (xs : List A) (ys : List B) → AllZip R xs ys → length ys ≡ length xs
zip_length R [] [] h = refl
zip_length R [] (y ∷ ys) h = absurd h
zip_length R (x ∷ xs) [] h = absurd h
zip_length R (x ∷ xs) (y ∷ ys) h = ap suc (zip_length R xs ys h.1)

got : {A : Type 0} (xs : List A) (i : ℕ) (d : A) → i < length xs → slice_get xs i ≡ Some (slice_index_or xs i d)
got [] i d l = absurd (omega (arith, l))
got (x ∷ xs) zero d l = refl
got (x ∷ xs) (suc i) d l = got xs i d (omega (arith, l))

-- ---- one part of the list

module _ (q : QueryValue) (ps : List Front) (i : ℕ) (p : Front) (l : i < length ps) (at : p ≡ slice_index_or ps i p) where
  abbrev lists : List (List Sign)
  lists = fronts_of ps

  there : i < length lists
  there = omega (arith, l, length-map ps (λ (o : Front). o.signs.items))

  signs_at : slice_index_or lists i [] ≡ p.signs.items
  signs_at = get_or-map (λ (o : Front). o.signs.items) ps i p [] l ∙ ap (λ (o : Front). o.signs.items) (sym at)

  pub is_part : AreSplitParts q lists → IsSplitPart q p.signs.items
  is_part h = subst (IsSplitPart q) signs_at (All-get_or (IsSplitPart q) lists i [] there h.each)

  -- it is a front of all pairs
  pub is_front : (n : ℕ) → AreFronts q n ps → IsFrontOf q n p
  is_front n h = subst (IsFrontOf q n) (sym at) (h.each (slice_index_or ps i p) (Has-from_contains ps (slice_index_or ps i p) (Contains-get_or ps i p l)))

  -- what it breaks first
  pub breaks_at : (b : Option Break) → IsPartBreak (part_query q p.signs.items) b → BreaksAt q lists i b
  breaks_at b h = record { signs = p.signs.items; at = got lists i [] there ∙ ap (λ (z : List Sign). Some z) signs_at; breaks = h }

  -- where it has a plan, no part up to it breaks anything
  pub none_more : IsWithinLimits q → AreSplitParts q lists → (part : PartPlan) → IsPartDraft q p.signs.items part → ((n : ℕ) → n < i → BreaksAt q lists n None) → (n : ℕ) → n < i + 1 → BreaksAt q lists n None
  none_more within are part draft before n m = elim (before_or n i m) [
    | inl b ↦ before n b
    | inr e ↦
        (let r : QueryValue = part_query q p.signs.items in
        let is : IsWholePartPlan r (boxed_part q 0 part) = draft.plan 0 in
        let none : IsPartBreak r None = breaks.none (boxed_part q 0 part) is (whole_parts_break_nothing r (part_queries_are_well_formed q within p.signs.items (is_part are)) (boxed_part q 0 part) is) in
        subst (λ (k : ℕ). BreaksAt q lists k None) (sym e) (breaks_at None none))
  ]
    where
      before_or : (n i : ℕ) → n < i + 1 → (n < i) ⊎ (n ≡ i)
      before_or n i m = grind arith

  -- one more plan
  pub drafts_more : (old new : PlanDraft) → IsAdded q p.signs.items old new → AllZip (IsPartDraft q) (take i lists) old.parts.items → AllZip (IsPartDraft q) (take (i + 1) lists) new.parts.items
  drafts_more old new more h =
      subst (AllZip (IsPartDraft q) (take (i + 1) lists)) (sym more.joined)
      (subst (λ z. AllZip (IsPartDraft q) z (old.parts.items ++ more.part ∷ [])) (sym (take_more lists i [] there ∙ ap (λ (z : List Sign). take i lists ++ z ∷ []) signs_at))
      (zip_push (IsPartDraft q) (take i lists) old.parts.items p.signs.items more.part h more.draft))

  -- it breaks something, and no part before it does
  pub fails_at : AreSplitParts q lists → (found : Break) → IsPartBreak (part_query q p.signs.items) (Some found) → ((n : ℕ) → n < i → BreaksAt q lists n None) → IsSplitDrafted q (Err (violation_at i found))
  fails_at are found h before =
      let e : i ≡ (i + 1) - 1 = omega arith in
      record {
        parts = lists;
        are = are;
        first = (omega arith, subst (λ (k : ℕ). BreaksAt q lists k (Some found)) e (breaks_at (Some found) h), λ n m. before n (omega (arith, m)));
      }

-- ---- after the last part

pub all_drafted : (q : QueryValue) (ps : List Front) (i : ℕ) (draft : PlanDraft) → length ps ≤ i → length ps ≤ 4096 → AreSplitParts q (fronts_of ps) → AreSummed q (counted_once q) draft
    → AllZip (IsPartDraft q) (take i (fronts_of ps)) draft.parts.items → ((n : ℕ) → n < i → BreaksAt q (fronts_of ps) n None) → AreDrafted q draft
all_drafted q ps i draft l few are sums zip none =
    let lists : List (List Sign) = fronts_of ps in
    let as_many : length lists ≡ length ps = length-map ps (λ (o : Front). o.signs.items) in
    let all : AllZip (IsPartDraft q) lists draft.parts.items = subst (λ z. AllZip (IsPartDraft q) z draft.parts.items) (take_all i lists (omega (arith, l, as_many))) zip in
    record {
      drafts = record { parts = lists; are = are; drafts = all };
      numbers = sums;
      few = omega (arith, few, as_many, zip_length (IsPartDraft q) lists draft.parts.items all);
      meets = record { parts = lists; are = are; first = λ n m. none n (omega (arith, m, l, as_many)) };
    }
