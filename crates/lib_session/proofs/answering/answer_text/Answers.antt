use Rattle.std.proofs.Common.{Some, ap, refl, arith}
use Rattle.lib_session.proofs.Feeding.{begins, same_held}
use Rattle.lib_session.proofs.Fronts.{front_grows, front_lacks_memory, front_breaks_off, front_within, front_counted, front_leaves}
use Rattle.lib_session.proofs.answering.answer_text.Goals as goal

pub answering-init : goal.answering-init
answering-init g c = record { fed = λ s stands. begins s _ _ _ _ stands; known = c.requires.stands; within = omega arith; lines = omega arith }

pub answering-preserved : goal.answering-preserved
answering-preserved g c =
    let known = c.answering.invariant.known in
    let front = c.answer_front-line.ensures in
    record {
      fed = λ s stands.
          front_grows s _ _ _ _ _ _ _ _ _ _ _ _ _ (c.answering.invariant.fed s stands) c.split_at.ensures.back (c.if-not-are_few.ensures.few refl) (ap Some c.reserve.ensures.items) refl front c.in-Done.is;
      known = front_leaves _ _ _ _ _ _ _ known front;
      within = front_within _ _ _ _ _ _ _ _ _ c.split_at.ensures.back front;
      lines = (let lines = c.answering.invariant.lines in omega (arith, front_counted _ _ _ _ _ _ _ known front, lines));
    }

pub returns-in-WriteFault-clause-fed : goal.returns-in-WriteFault-clause-fed
returns-in-WriteFault-clause-fed g c = λ s stands.
    front_breaks_off s _ _ _ _ _ _ _ _ _ _ _ _ _ (c.answering.invariant.fed s stands) c.split_at.ensures.back (c.if-not-are_few.ensures.few refl) (ap Some c.reserve.ensures.items) refl c.answer_front-line.ensures c.in-WriteFault.is

pub returns-in-WriteFault-clause-known : goal.returns-in-WriteFault-clause-known
returns-in-WriteFault-clause-known g c = front_leaves _ _ _ _ _ _ _ c.answering.invariant.known c.answer_front-line.ensures

pub returns-in-WriteFault-clause-taken : goal.returns-in-WriteFault-clause-taken
returns-in-WriteFault-clause-taken g c = front_within _ _ _ _ _ _ _ _ _ c.split_at.ensures.back c.answer_front-line.ensures

pub returns-in-WriteFault-clause-lines : goal.returns-in-WriteFault-clause-lines
returns-in-WriteFault-clause-lines g c = (let lines = c.answering.invariant.lines in omega (arith, front_counted _ _ _ _ _ _ _ c.answering.invariant.known c.answer_front-line.ensures, lines))

pub returns-in-Memory-clause-fed : goal.returns-in-Memory-clause-fed
returns-in-Memory-clause-fed g c = λ s stands.
    front_lacks_memory s _ _ _ _ _ _ _ _ _ _ _ _ _ (c.answering.invariant.fed s stands) c.split_at.ensures.back (c.if-not-are_few.ensures.few refl) (ap Some c.reserve.ensures.items) refl c.answer_front-line.ensures c.in-Memory.is

pub returns-in-Memory-clause-known : goal.returns-in-Memory-clause-known
returns-in-Memory-clause-known g c = front_leaves _ _ _ _ _ _ _ c.answering.invariant.known c.answer_front-line.ensures

pub returns-in-Memory-clause-taken : goal.returns-in-Memory-clause-taken
returns-in-Memory-clause-taken g c = front_within _ _ _ _ _ _ _ _ _ c.split_at.ensures.back c.answer_front-line.ensures

pub returns-in-Memory-clause-lines : goal.returns-in-Memory-clause-lines
returns-in-Memory-clause-lines g c = (let lines = c.answering.invariant.lines in omega (arith, front_counted _ _ _ _ _ _ _ c.answering.invariant.known c.answer_front-line.ensures, lines))

pub returns-then-not-are_few-clause-fed : goal.returns-then-not-are_few-clause-fed
returns-then-not-are_few-clause-fed g c = λ s stands. (c.answering.invariant.fed s stands, omega arith, c.if-not-are_few.ensures.many refl)

pub returns-then-is_err-clause-fed : goal.returns-then-is_err-clause-fed
returns-then-is_err-clause-fed g c = λ s stands. (same_held s _ _ _ _ _ _ _ (c.answering.invariant.fed s stands) c.reserve.ensures.items, omega arith)

pub returns-clause-fed : goal.returns-clause-fed
returns-clause-fed g c = λ s stands. (c.answering.invariant.fed s stands, omega (arith, c.answering.invariant.within))
