-- The count of what waits is that of the new answers.
use Rattle.std.proofs.Common.{◌≡◌, ◌≤◌, ◌^◌, cond, true, false, sym, ap, ◌∙◌, subst}
use Rattle.sem_query.specs.Tuples.{sorted, new_tuples}
use Rattle.sem_query.specs.Meaning.{new_answers}
use Rattle.sem_query.specs.Cells.{printed}
use Rattle.sem_query.specs.Future.{waiting}
use Rattle.sem_laws.specs.Rooms.{WaitingCountsFit}
use Rattle.sem_laws.specs.Sufficiency.{anywhere}
use Rattle.sem_laws.proofs.Counts.{times}
use Rattle.sem_laws.proofs.Order.{times-ascending}
use Rattle.sem_laws.proofs.Sufficiency.{future-is, readings-suffice}
use Rattle.sem_laws.proofs.Interleaving.{occurs-is, counts-fit}

pub waiting-counts-fit : WaitingCountsFit
waiting-counts-fit q plan within no_filter is plain h read given r t keep_h keep_r few named =
    let e = future-is q plan read (printed q h) r true false named no_filter in
    let f : sorted (waiting q plan read r) ≡ new_answers q h r =
    sym (ap (λ b. cond b (sorted (new_tuples (printed q h) (waiting q plan read r))) (sorted (waiting q plan read r))) plain)
    ∙ sym e ∙ readings-suffice q plan within (anywhere no_filter is) h keep_h read given r keep_r in
    let n
    = occurs-is t (waiting q plan read r) ∙ sym (times-ascending t (waiting q plan read r)) ∙ ap (times t) f
    ∙ sym (occurs-is t (new_answers q h r)) in
    subst (λ k. k ≤ 2 ^ 120) (sym n) (counts-fit q within h r t few)
