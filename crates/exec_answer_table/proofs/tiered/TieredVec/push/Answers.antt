use Rattle.std.proofs.Common.{arith, refl}
use Rattle.std.proofs.lemmas.List.{length_push}
use Rattle.exec_answer_table.proofs.Tiers.{length-items_of, pushed, still_tiered}
use Rattle.exec_answer_table.proofs.tiered.TieredVec.push.Goals as goal

pub invariant_of-self : goal.invariant_of-self
invariant_of-self c =
    let room = rw (← c.self.view_is) at c.requires in
    let l = length-items_of c.self.inside.numbers.items c.self.inside.heads.items in
    let n = c.self.inside.numbers.ok.0 in
    let all = c.self.invariant.1 in
    let stored = c.push.ensures.succeeds (omega arith) in (
      rw (c.push.ensures.items, stored)
          (still_tiered c.self.inside.numbers.items _ c.self.inside.heads.items c.self.inside.heads.items c.self.inside.room c.self.invariant.0 (omega (arith, room, l)) (length_push c.self.inside.numbers.items c.args.number) refl (λ _ own. own) (λ _ _. refl)),
      omega (arith, all, c.push.ensures.capacity),
      c.self.invariant.2,
    )

pub returns-clause-items : goal.returns-clause-items
returns-clause-items c =
    let room = rw (← c.self.view_is) at c.requires in
    let l = length-items_of c.self.inside.numbers.items c.self.inside.heads.items in
    let n = c.self.inside.numbers.ok.0 in
    let all = c.self.invariant.1 in
    let stored = c.push.ensures.succeeds (omega arith) in
    rw (← c.self.view_is)
    (rw (c.push.ensures.items, stored) (pushed c.self.inside.numbers.items c.self.inside.heads.items c.self.inside.room c.args.number c.self.invariant.0))
