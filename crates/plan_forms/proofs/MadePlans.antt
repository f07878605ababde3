-- The plan of a part, of what is made of its form, and what it adds to the numbers.
use Rattle.std.proofs.Common.{◌≡◌, ℕ, ◌+◌, ◌-◌, ◌^◌, ◌<◌, min, nat_eq, List, [], ◌∷◌, ◌++◌, map, length, sym, ap, ap₂, ◌∙◌, subst, arith}
use Rattle.std.specs.List.{sum_by}
use Rattle.std.proofs.lemmas.List.Sums.{sum_by_push}
use Rattle.sem_query.specs.declared.atom.Attr.{Attr}
use Rattle.sem_query.specs.declared.part.Sign.{Sign}
use Rattle.sem_query.specs.declared.plan.Dim.{Dim}
use Rattle.sem_query.specs.declared.plan.Numbers.{Numbers}
use Rattle.sem_query.specs.declared.plan.PartPlan.{PartPlan}
use Rattle.sem_query.specs.Query.{QueryValue}
use Rattle.sem_query.specs.Boxes.{box_size}
use Rattle.sem_query.specs.Numbers.{answer_bound, share, work}
use Rattle.sem_query.specs.Plan.{dims_at}
use Rattle.sem_query.specs.Ranges.{different, first_tied, range_of, selected_ranges}
use Rattle.plan_layout.specs.declared.draft.PlanDraft.{PlanDraft}
use Rattle.plan_layout.specs.Capped.{capped}
use Rattle.plan_layout.specs.Boxed.{boxed_part, cells_for, boxed}
use Rattle.plan_layout.proofs.DraftLaws.{whole, small_left, kept_left, sum_kept}
use Rattle.plan_layout.proofs.Setting.{parts-push, range-same, answers-same, work-same}
use Rattle.sem_forms.specs.Split.{part_query}
use Rattle.sem_forms.proofs.SplitServes.{tied_alike}
use Rattle.plan_whole_form.specs.declared.part.WholeStream.{WholeStream}
use Rattle.plan_forms.specs.declared.making.Made.{Made}
use Rattle.plan_forms.specs.Made.{IsMade}
use Rattle.plan_forms.specs.Placed.{ArePlaced}
use Rattle.plan_forms.specs.Boxing.{AreSet}
use Rattle.plan_forms.specs.Hulls.{AreHulls}
use Rattle.plan_forms.specs.Drafts.{IsPartDraft, AreSummed}

-- a column with the ends of its range
abbrev with_ends : (Attr → Dim) → Attr → Dim
with_ends f a = record { attr = a; lo = (f a).lo; hi = (f a).hi }

hulls_of : (f g : Attr → Dim) → ((a : Attr) → f a ≡ g a) → (columns : List Attr) → map (with_ends f) columns ≡ map (with_ends g) columns
hulls_of f g same columns = λ i. map (with_ends (λ a. same a i)) columns

module _ (q : QueryValue) (ss : List Sign) where
  abbrev r : QueryValue
  r = part_query q ss

  ranges_alike : (part : PartPlan) → part.signs.items ≡ [] → selected_ranges r part ≡ selected_ranges q part
  ranges_alike part e = λ i. map (λ a. first_tied (λ x y. tied_alike r q part e x y i) (dims_at part a.stream) a) (different q.select)

  ranged_alike : (part : PartPlan) → part.signs.items ≡ [] → (a : Attr) → range_of r part a ≡ range_of q part a
  ranged_alike part e a = λ i. first_tied (λ x y. tied_alike r q part e x y i) (dims_at part a.stream) a

  -- what is made, with its boxes set, is the plan of the part
  pub made_draft : (m : Made) (part : PartPlan) (first next : ℕ) (kept : List WholeStream) → IsMade r m → kept ≡ m.streams.items → AreSet q first kept next part.streams.items
      → part.signs.items ≡ [] → part.local ≡ m.local → part.equal ≡ m.equal → part.less ≡ m.less → part.soft ≡ m.soft → IsPartDraft q ss part
  made_draft m part first next kept is e h signs local equal less soft = record {
    plan = λ base. is.plan base (boxed_part q base part) record {
      signs = signs;
      local = local;
      streams = placed base;
      equal = ap (λ l. l.items) equal;
      less = ap (λ l. l.items) less;
      soft = ap (λ l. l.items) soft;
    };
  }
    where
      placed : (base : ℕ) → ArePlaced (nat_eq (length m.streams.items) 1) base m.streams.items (boxed_part q base part).streams.items
      placed base =
          subst (λ n. ArePlaced (nat_eq n 1) base m.streams.items (boxed_part q base part).streams.items) (sym is.count)
          (subst (λ l. ArePlaced (nat_eq (length q.from) 1) base l (boxed_part q base part).streams.items) e (h.placed base))

  alone : (f : PartPlan → ℕ) (p : PartPlan) → sum_by f (p ∷ []) ≡ f p
  alone f p = let z : 0 + f p ≡ f p = omega arith in z

  module _ (m : Made) (is : IsMade r m) (part : PartPlan) (draft : IsPartDraft q ss part) (signs : part.signs.items ≡ []) where
    -- the ranges of the selected columns are those of the part
    pub made_selected : AreHulls q (part ∷ []) m.selected.items
    made_selected =
        is.selected (boxed_part q 0 part) (draft.plan 0)
        ∙ hulls_of (range_of r (boxed_part q 0 part)) (range_of q part)
        (λ a. ranged_alike (boxed_part q 0 part) signs a ∙ range-same q 0 part a) (different q.select)

    -- its answers are those of the part
    pub made_answers : m.numbers.answers ≡ capped (box_size (selected_ranges q part))
    made_answers =
        ap (λ (n : Numbers). n.answers) (is.numbers (boxed_part q 0 part) (draft.plan 0))
        ∙ ap capped (alone (λ p. box_size (selected_ranges r p)) (boxed_part q 0 part)
        ∙ ap box_size (ranges_alike (boxed_part q 0 part) signs)
        ∙ sym (alone (λ p. box_size (selected_ranges q p)) (boxed_part q 0 part))
        ∙ answers-same q (part ∷ [])
        ∙ alone (λ p. box_size (selected_ranges q p)) part)

    -- and its work
    pub made_work : m.numbers.work ≡ capped (share part)
    made_work =
        ap (λ (n : Numbers). n.work) (is.numbers (boxed_part q 0 part) (draft.plan 0))
        ∙ ap capped (work-same q (part ∷ []) ∙ alone share part)

-- ---- the parts so far with one more

pub summed : (q : QueryValue) (old new : PlanDraft) (part : PartPlan) (answers more : ℕ) → AreSummed q (answer_bound q) old → new.parts.items ≡ old.parts.items ++ part ∷ []
    → new.cells ≡ capped (old.cells + cells_for q part) → (new.cells < 2 ^ 32 → boxed_part q old.cells part ≡ part)
    → answers ≡ capped (box_size (selected_ranges q part)) → new.answers ≡ min (old.answers + answers) (2 ^ 64 - 1)
    → more ≡ capped (share part) → new.work ≡ min (old.work + more) (2 ^ 64 - 1)
    → AreSummed q (answer_bound q) new
summed q old new part answers more h joined cells boxes sizes total m effort = record {
  cells = cells ∙ cells_next ∙ ap (λ (z : List PartPlan). capped (sum_by (cells_for q) z)) (sym joined);
  boxes = λ l. subst (λ (z : List PartPlan). boxed q 0 z ≡ z) (sym joined) (boxes_next l);
  answers = total ∙ sum_kept old.answers answers (answer_bound q old.parts.items) (box_size (selected_ranges q part)) h.answers sizes
      ∙ ap capped (sym (sum_by_push (λ p. box_size (selected_ranges q p)) old.parts.items part))
      ∙ ap (λ (z : List PartPlan). capped (answer_bound q z)) (sym joined);
  work = effort ∙ sum_kept old.work more (work old.parts.items) (share part) h.work m
      ∙ ap capped (sym (sum_by_push share old.parts.items part))
      ∙ ap (λ (z : List PartPlan). capped (work z)) (sym joined);
}
  where
    C : ℕ
    C = sum_by (cells_for q) old.parts.items

    cells_next : capped (old.cells + cells_for q part) ≡ capped (sum_by (cells_for q) (old.parts.items ++ part ∷ []))
    cells_next =
        ap (λ n. capped (n + cells_for q part)) h.cells ∙ kept_left C (cells_for q part)
        ∙ ap capped (sym (sum_by_push (cells_for q) old.parts.items part))

    boxes_next : new.cells < 2 ^ 32 → boxed q 0 (old.parts.items ++ part ∷ []) ≡ old.parts.items ++ part ∷ []
    boxes_next l =
        let s = small_left new.cells old.cells (cells_for q part) cells l in
        let f : old.cells ≡ C = whole old.cells C h.cells s.0 in
        let g : 0 + C ≡ old.cells = omega (arith, f) in
        parts-push q 0 old.parts.items part ∙ ap₂ (λ xs p. xs ++ p ∷ []) (h.boxes s.0) (ap (λ n. boxed_part q n part) g ∙ boxes l)
