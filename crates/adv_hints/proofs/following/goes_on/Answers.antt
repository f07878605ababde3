use Rattle.adv_hints.specs.Candidates.{whole}
use Rattle.adv_hints.proofs.following.goes_on.Goals as goal

pub returns-in-Ok : goal.returns-in-Ok
returns-in-Ok c = whole c.in-Ok.field-0 c.in-Ok.ensures.0

pub returns-in-Err-Limit : goal.returns-in-Err-Limit
returns-in-Err-Limit c = let passed = rw c.in-Err-Limit.field-0-is at c.in-Err-Limit.ensures in whole passed.0 passed.1
