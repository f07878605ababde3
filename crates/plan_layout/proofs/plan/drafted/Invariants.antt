use Rattle.std.proofs.Common.{◌≡◌, take}
use Rattle.sem_query.specs.Parts.{sign_lists}
use Rattle.plan_conditions.specs.Deciding.{NoneBefore}
use Rattle.plan_links.specs.Known.{AreBegun}
use Rattle.plan_layout.specs.Drafts.{signs_of}
use Rattle.plan_layout.specs.Sums.{AreDrafted}
use Rattle.plan_layout.proofs.plan.drafted.Given as goal

abbrev pub invariant-loop-i : goal.invariant-loop-i
invariant-loop-i l = record { drafted : AreDrafted l.q l.draft; signs : signs_of l.draft.parts.items ≡ take l.i (sign_lists l.parts); fine : NoneBefore l.q (sign_lists l.parts) l.i; begun : AreBegun l.q l.distances }
