use Rattle.std.proofs.Common.{false, refl}
use Rattle.adv_diagnosis.proofs.LockedLines.{key_unlocks, no_key_unlocks, text_unlocks, none_unlocks}
use Rattle.adv_diagnosis.proofs.diagnosis.unlocks.Goals as goal

pub returns-in_default : goal.returns-in_default
returns-in_default c = λ u. no_key_unlocks c.args.text.now c.args.key.now c.in_default.is u

pub returns-then-not-may_unlock : goal.returns-then-not-may_unlock
returns-then-not-may_unlock c = key_unlocks c.args.text.now c.args.key.now c.in-Some.key false c.in-Some.is (λ u. c.if-not-may_unlock.ensures.never refl c.in-Some.key u.0)

pub returns-in-Ok : goal.returns-in-Ok
returns-in-Ok c = key_unlocks c.args.text.now c.args.key.now c.in-Some.key c.is_unlock.result c.in-Some.is (text_unlocks c.args.text.now c.in-Ok.statement c.in-Some.key c.is_unlock.result c.in-Ok.ensures.0 c.in-Ok.ensures.1 c.is_unlock.ensures)

pub returns-in-Err : goal.returns-in-Err
returns-in-Err c = key_unlocks c.args.text.now c.args.key.now c.in-Some.key false c.in-Some.is (λ u. none_unlocks c.args.text.now _ c.in-Some.key c.in-Err.ensures u)
