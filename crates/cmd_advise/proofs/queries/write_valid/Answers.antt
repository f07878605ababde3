use Rattle.std.proofs.Common.{◌≡◌, nat_lt, nat_eq, false, arith}
use Rattle.std.proofs.lemmas.Bool.Decides.{nat_tests}
use Rattle.io_streams.proofs.Writing.{BrokeOff-then, BrokeOff-stop}
use Rattle.sem_query.specs.Numbers.{page_count}
use Rattle.cmd_advise.proofs.Texts.{broke_off}
use Rattle.cmd_advise.proofs.queries.write_valid.Goals as goal

pub returns-in_err-write_dearest-2 : goal.returns-in_err-write_dearest-2
returns-in_err-write_dearest-2 g c =
    let free : nat_lt c.args.told.now.free (page_count c.args.of.cells) ≡ false = grind (arith, nat_tests, c.if-told-needed.false, c.page_count-needed.ensures) in
    let some : nat_eq c.args.of.parts 0 ≡ false = grind (arith, nat_tests, c.if-of-eq0.false) in
    let more : nat_eq c.args.of.parts 1 ≡ false = grind (arith, nat_tests, c.if-of-eq1.false) in
    let dearest = rw (c.as_slice-else-of-eq1.ensures.value) at c.in_err-write_dearest-2.ensures in
    rw (free, some, more) (broke_off _ _ _ _ c.from_residual-in_err-write_dearest-2.ensures.0
    (BrokeOff-then _ _ _ _ _ c.in_ok-write_said.ensures (BrokeOff-then _ _ _ _ _ c.in_ok-write_numbers.ensures (BrokeOff-stop _ _ _ _ dearest))))
