-- One more part.
use Rattle.std.proofs.Common.{◌≡◌, ℕ, true, ◌+◌, ◌-◌, ◌^◌, ◌<◌, min, not, List, [], ◌∷◌, ◌++◌, All, Contains, None, ℤ, ◌≤ℤ◌, refl, sym, ap, ap₂, ◌∙◌, subst, arith, slice_index_or}
use Rattle.std.specs.List.{sum_by}
use Rattle.std.proofs.lemmas.List.Sums.{sum_by_push}
use Rattle.std.proofs.lemmas.List.Elements.{All-push, All-contains, Contains-get_or}
use Rattle.sem_query.proofs.Has.{Has, first, later, Has-from_contains, Contains-from_has, Has-filter_from}
use Rattle.sem_laws.proofs.Classes.{class-tied, tied-in, from_tied, to_tied}
use Rattle.sem_laws.proofs.TableRoom.{first_tied-is}
use Rattle.sem_laws.proofs.StandingIn.{IsSafe}
use Rattle.sem_laws.proofs.NoViolation.{safe-if}
use Rattle.sem_laws.proofs.Queries.{query_within}
use Rattle.sem_query.specs.declared.atom.Attr.{Attr}
use Rattle.sem_query.specs.declared.part.Sign.{Sign}
use Rattle.sem_query.specs.declared.plan.Dim.{Dim}
use Rattle.sem_query.specs.declared.plan.PartPlan.{PartPlan}
use Rattle.sem_query.specs.Query.{QueryValue, IsWithinLimits, attr_eq}
use Rattle.sem_query.specs.Parts.{IsPart}
use Rattle.sem_query.specs.Order.{IsLeast, IsGreatest}
use Rattle.sem_query.specs.Boxes.{box_size}
use Rattle.sem_query.specs.Combinations.{tied, is_tied}
use Rattle.sem_query.specs.Plan.{AreOneClass, IsDim, IsPartPlan, selected, dims_at}
use Rattle.sem_query.specs.Ranges.{different, range_of, selected_ranges}
use Rattle.sem_query.specs.Numbers.{answer_bound, share, work}
use Rattle.sem_query.specs.FirstBreak.{IsFirstBreak}
use Rattle.plan_layout.specs.declared.draft.PlanDraft.{PlanDraft}
use Rattle.plan_layout.specs.Capped.{capped}
use Rattle.plan_layout.specs.Boxed.{boxed_part, cells_for, boxed}
use Rattle.plan_layout.specs.Drafts.{IsDraft}
use Rattle.plan_layout.specs.Sums.{IsRangeOf, AreSizesOf, AreDrafted}
use Rattle.plan_layout.proofs.Setting.{parts-push, range-same}
use Rattle.plan_layout.proofs.DraftLaws.{whole, small_left, sum_kept, kept_left}

different_from : (xs : List Attr) (a : Attr) → Has (different xs) a → Has xs a
different_from [] a h = elim h [ ]
different_from (x ∷ xs) a first = first
different_from (x ∷ xs) a (later h) = later (different_from xs a (Has-filter_from (λ b. not (attr_eq x b)) (different xs) a h))

least-tied : (q : QueryValue) (s : List Sign) (a b : Attr) (z : ℤ) → tied q s a b ≡ true → IsLeast q s a z → IsLeast q s b z
least-tied q s a b z t l = record {
  at = l.at;
  inside = l.inside;
  reached = sym (tied-in q s l.at l.inside a b t) ∙ l.reached;
  above = λ v i. subst (λ x. z ≤ℤ x) (tied-in q s v i a b t) (l.above v i);
}

greatest-tied : (q : QueryValue) (s : List Sign) (a b : Attr) (z : ℤ) → tied q s a b ≡ true → IsGreatest q s a z → IsGreatest q s b z
greatest-tied q s a b z t l = record {
  at = l.at;
  inside = l.inside;
  reached = sym (tied-in q s l.at l.inside a b t) ∙ l.reached;
  below = λ v i. subst (λ x. x ≤ℤ z) (tied-in q s v i a b t) (l.below v i);
}

module _ (q : QueryValue) (within : IsWithinLimits q) where
  -- the range of a selected column goes from its least to its greatest value in the part
  range_exact : (part : PartPlan) → IsPartPlan q part → IsPart q part.signs.items → IsFirstBreak q part.signs.items None → (a : Attr) → Contains q.select a → IsRangeOf q part.signs.items (range_of q part) a
  range_exact part p some fine a c =
      let safe : IsSafe q part = safe-if q (query_within q within) part p some fine in
      let dims : List Dim = dims_at part a.stream in
      let l = (query_within q within).select a c in
      let o : (d : Dim) × Contains dims d × AreOneClass q part.signs.items d.attr a = (p.streams a.stream l).dims.all a refl (selected c) (safe.chosen a c) in
      let r = first_tied-is (is_tied q part) dims a o.0 (Has-from_contains dims o.0 o.1) (from_tied q part o.0.attr a (class-tied q part.signs.items some o.0.attr a o.2)) in
      let t : tied q part.signs.items (range_of q part a).attr a ≡ true = to_tied q part p (range_of q part a).attr a r.1 in
      let d : IsDim q part.signs.items a.stream (range_of q part a) = All-contains (IsDim q part.signs.items a.stream) dims (range_of q part a) (p.streams a.stream l).dims.each (Contains-from_has dims (range_of q part a) r.0) in
      (least-tied q part.signs.items (range_of q part a).attr a (range_of q part a).lo t d.low, greatest-tied q part.signs.items (range_of q part a).attr a (range_of q part a).hi t d.high)

  ranges_exact : (part : PartPlan) → IsDraft q part → IsPart q part.signs.items → IsFirstBreak q part.signs.items None → All (IsRangeOf q part.signs.items (range_of q part)) (different q.select)
  ranges_exact part d some fine k o l =
      let a : Attr = slice_index_or (different q.select) k o in
      let c : Contains q.select a = Contains-from_has q.select a (different_from q.select a (Has-from_contains (different q.select) a (Contains-get_or (different q.select) k o l))) in
      let e : range_of q (boxed_part q 0 part) a ≡ range_of q part a = range-same q 0 part a in
      subst (λ (z : Dim). IsLeast q part.signs.items a z.lo × IsGreatest q part.signs.items a z.hi) e (range_exact (boxed_part q 0 part) (d.plan 0) some fine a c)

  -- what a part adds to the answers
  answers_told : (part : PartPlan) (columns : List Attr) (size : ℕ) → IsDraft q part → IsPart q part.signs.items → IsFirstBreak q part.signs.items None → columns ≡ different q.select → AreSizesOf q part.signs.items columns size → size ≡ capped (box_size (selected_ranges q part))
  answers_told part columns size d some fine e h =
      let k : AreSizesOf q part.signs.items (different q.select) size = subst (λ (z : List Attr). AreSizesOf q part.signs.items z size) e h in
      k.of (range_of q part) (ranges_exact part d some fine)

  -- the parts so far with one more
  pub added : (old new : PlanDraft) (part : PartPlan) (columns : List Attr) (answers more : ℕ)
      → AreDrafted q old → IsPart q part.signs.items → IsFirstBreak q part.signs.items None → columns ≡ different q.select
      → IsDraft q part → new.parts.items ≡ old.parts.items ++ part ∷ []
      → new.cells ≡ capped (old.cells + cells_for q part)
      → (new.cells < 2 ^ 32 → boxed_part q old.cells part ≡ part)
      → AreSizesOf q part.signs.items columns answers → new.answers ≡ min (old.answers + answers) (2 ^ 64 - 1)
      → more ≡ capped (share part) → new.work ≡ min (old.work + more) (2 ^ 64 - 1)
      → AreDrafted q new
  added old new part columns answers more h some fine e d joined cells boxes sizes total m effort = record {
    drafts = subst (All (IsDraft q)) (sym joined) (All-push (IsDraft q) old.parts.items part h.drafts d);
    cells = cells ∙ cells_next ∙ ap (λ (z : List PartPlan). capped (sum_by (cells_for q) z)) (sym joined);
    boxes = λ l. subst (λ (z : List PartPlan). boxed q 0 z ≡ z) (sym joined) (boxes_next l);
    answers = total ∙ sum_kept old.answers answers (answer_bound q old.parts.items) (box_size (selected_ranges q part)) h.answers (answers_told part columns answers d some fine e sizes)
        ∙ ap capped (sym (sum_by_push (λ p. box_size (selected_ranges q p)) old.parts.items part))
        ∙ ap (λ (z : List PartPlan). capped (answer_bound q z)) (sym joined);
    work = effort ∙ sum_kept old.work more (work old.parts.items) (share part) h.work m
        ∙ ap capped (sym (sum_by_push share old.parts.items part))
        ∙ ap (λ (z : List PartPlan). capped (work z)) (sym joined);
  }
    where
      C : ℕ
      C = sum_by (cells_for q) old.parts.items

      cells_next : capped (old.cells + cells_for q part) ≡ capped (sum_by (cells_for q) (old.parts.items ++ part ∷ []))
      cells_next =
          ap (λ n. capped (n + cells_for q part)) h.cells ∙ kept_left C (cells_for q part)
          ∙ ap capped (sym (sum_by_push (cells_for q) old.parts.items part))

      boxes_next : new.cells < 2 ^ 32 → boxed q 0 (old.parts.items ++ part ∷ []) ≡ old.parts.items ++ part ∷ []
      boxes_next l =
          let s = small_left new.cells old.cells (cells_for q part) cells l in
          let f : old.cells ≡ C = whole old.cells C h.cells s.0 in
          let g : 0 + C ≡ old.cells = omega (arith, f) in
          parts-push q 0 old.parts.items part ∙ ap₂ (λ xs p. xs ++ p ∷ []) (h.boxes s.0) (ap (λ n. boxed_part q n part) g ∙ boxes l)
