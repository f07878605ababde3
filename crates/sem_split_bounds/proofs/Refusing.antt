-- A failure of the split form by its first condition tells.
use Rattle.std.proofs.Common.{subst}
use Rattle.plan_split_pairs.specs.Pairs.{split_pairs}
use Rattle.sem_whole.specs.Whole.{WholeBreaks}
use Rattle.sem_forms.specs.Split.{part_query}
use Rattle.sem_lower_bounds.proofs.Formed.{formed}
use Rattle.sem_lower_bounds.proofs.Skipping.{written-decides-at}
use Rattle.sem_split_bounds.specs.Refused.{FirstConditionTells}
use Rattle.sem_split_bounds.proofs.Deciding.{violation_needs}
use Rattle.sem_split_bounds.proofs.Parts.{based, split_part}
use Rattle.sem_split_bounds.proofs.MovedFamilies.{open_column_needs}
use Rattle.sem_split_bounds.proofs.Telling.{NeedsNone}
use Rattle.sem_split_bounds.proofs.PartsTell.{selected_breaks}

pub first-condition-tells : FirstConditionTells
first-condition-tells q within joins f v e =
    violation_needs q f
    (λ ss is links are b. (written-decides-at q (formed q within)).1
    (selected_breaks q within (split_pairs q) ss (split_part q within ss is) (NeedsNone q)
    (open_column_needs q within (split_pairs q) ss (based q (split_pairs q) ss (split_part q within ss is)) joins) links f.attr (subst (λ c. WholeBreaks (part_query q ss) links c f.attr) e b)))
    v within
