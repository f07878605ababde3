-- Where each break of a part tells, the violations of the split form decide whether a query needs many states.
use Rattle.std.proofs.Common.{◌≡◌, ◌≢◌, ◌-◌, ◌↔◌, List, Option, None, Some, refl, subst}
use Rattle.std.proofs.lemmas.List.Elements.{All-contains}
use Rattle.sem_query.specs.declared.atom.Atom.{Atom}
use Rattle.sem_query.specs.declared.first_break.Break.{Break}
use Rattle.sem_query.specs.declared.part.Sign.{Sign}
use Rattle.sem_query.specs.Query.{QueryValue, IsWithinLimits}
use Rattle.sem_query.specs.Violation.{Failure}
use Rattle.sem_query.proofs.Has.{Contains-from_has}
use Rattle.plan_split_pairs.specs.SplitParts.{IsSplitPart}
use Rattle.sem_whole.specs.Links.{AreLinks}
use Rattle.sem_whole.specs.Whole.{WholeBreaks}
use Rattle.sem_forms.specs.Split.{part_query}
use Rattle.sem_forms.specs.SplitBreaks.{IsPartBreak, broken, unbounded, none, BreaksAt, IsSplitViolation}
use Rattle.sem_lower_bounds.specs.Within.{NeedsStatesWithin}
use Rattle.sem_lower_bounds.proofs.SoftRefused.{member_at}
use Rattle.sem_split_bounds.proofs.Bounded.{no_open_dim}
use Rattle.sem_split_bounds.proofs.Unbroken.{unbroken-parts-need-few-states}

-- a part at a place of the list is a part of the query
part_at : (q : QueryValue) (v : Option Failure) (is : IsSplitViolation q v) (n : _) (b : Option Break) (at : BreaksAt q is.parts n b) → IsSplitPart q at.signs
part_at q v is n b at = All-contains (IsSplitPart q) is.parts at.signs is.are.each (Contains-from_has is.parts at.signs (member_at is.parts n at.signs at.at))

module _ (q : QueryValue) (failure : Failure)
    (tell : (ss : List Sign) → IsSplitPart q ss → (links : List Atom) → AreLinks (part_query q ss) links
    → WholeBreaks (part_query q ss) links failure.condition failure.attr → NeedsStatesWithin q) where
  abbrev break : Break
  break = record { condition = failure.condition; attr = failure.attr }

  some_break : (b c : Break) → Some b ≡ Some c → b ≡ c
  some_break b c e = cc

  -- the failure of a part tells: no dim lacks an end
  part_needs : (ss : List Sign) → IsSplitPart q ss → (o : Option Break) → o ≡ Some break → IsPartBreak (part_query q ss) o → IsWithinLimits q → NeedsStatesWithin q
  part_needs ss is o e (broken links are d i) within =
      tell ss is links are (subst (λ b. WholeBreaks (part_query q ss) links b.condition b.attr) (some_break d break e) i.0)
  part_needs ss is o e (unbounded f plan i a k) within = absurd (no_open_dim q within ss is f plan i a k.0)
  part_needs ss is o e (none p own i) within = absurd cc

  pub violation_needs : IsSplitViolation q (Some failure) → IsWithinLimits q → NeedsStatesWithin q
  violation_needs v within =
      part_needs v.first.1.signs (part_at q (Some failure) v (failure.part - 1) (Some break) v.first.1) (Some break) refl v.first.1.breaks within

-- where each failure tells, they decide
pub violations_decide : (q : QueryValue) → IsWithinLimits q → ((f : Failure) → IsSplitViolation q (Some f) → NeedsStatesWithin q)
    → (violation : Option Failure) → IsSplitViolation q violation → NeedsStatesWithin q ↔ (violation ≢ None)
violations_decide q within tell violation is = (
  λ needs e. unbroken-parts-need-few-states q within (subst (IsSplitViolation q) e is) needs,
  λ n. by violation is n,
)
  where
    by : (violation : Option Failure) → IsSplitViolation q violation → violation ≢ None → NeedsStatesWithin q
    by None is n = absurd (n refl)
    by (Some f) is n = tell f is
