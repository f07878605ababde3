use Rattle.std.proofs.Common.{ℕ, ◌<◌, take, None}
use Rattle.std.specs.List.{AllZip}
use Rattle.sem_query.specs.Numbers.{answer_bound}
use Rattle.plan_split_parts.specs.Fronts.{fronts_of}
use Rattle.sem_forms.specs.SplitBreaks.{BreaksAt}
use Rattle.plan_forms.specs.Hulls.{AreHulls}
use Rattle.plan_forms.specs.Drafts.{IsPartDraft, AreSummed}
use Rattle.plan_forms.proofs.drafting.split_drafts.Given as goal

abbrev pub invariant-loop-i : goal.invariant-loop-i
invariant-loop-i l = record {
  summed : AreSummed l.q (answer_bound l.q) l.draft;
  hulls : AreHulls l.q l.draft.parts.items l.hulls.items;
  drafts : AllZip (IsPartDraft l.q) (take l.i (fronts_of l.fronts)) l.draft.parts.items;
  fine : (n : ℕ) → n < l.i → BreaksAt l.q (fronts_of l.fronts) n None;
}
