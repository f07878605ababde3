use Rattle.std.proofs.Common.{◌≡◌, length, nat_lt, true, arith}
use Rattle.std.proofs.lemmas.Bool.Decides.{nat_tests}
use Rattle.cmd_advise.specs.Parts.{steps_text}
use Rattle.cmd_advise.proofs.Texts.{writes_behind}
use Rattle.cmd_advise.proofs.parts.write_chain.Goals as goal

pub returns-in_ok-write_steps : goal.returns-in_ok-write_steps
returns-in_ok-write_steps g c =
    let several : nat_lt 1 (length c.args.chain.now.steps.items) ≡ true = grind (arith, nat_tests, c.if-len-gt1.true, c.len.ensures.value) in
    let steps = rw (c.as_slice.ensures.value) at c.in_ok-write_steps.ensures in
    rw several (writes_behind c.write_all.result _ _ _ _ _ c.in_ok-write_part.ensures (writes_behind c.write_all.result _ _ _ (steps_text c.args.names.now.catalog.now c.args.names.now.from.now c.args.chain.now.steps.items) _ steps c.write_all.ensures))
