use Rattle.std.proofs.Common.{◌≡◌, ◌+◌, ◌-◌, refl, arith, to_z-of_z}
use Rattle.std.proofs.lemmas.Fmt.{length-decimal-le}
use Rattle.std.proofs.lemmas.List.{drop-set}
use Rattle.sql_text.proofs.Signs.{minus_first}
use Rattle.sql_text.proofs.tuple.put_integer_before.Goals as goal

pub write_digits-start-requires : goal.write_digits-start-requires
write_digits-start-requires c = (omega (arith, length-decimal-le 19 c.unsigned_abs.result (omega arith) (omega arith) (omega arith)), c.requires.inside)

pub returns-then-value-ge0-clause-short : goal.returns-then-value-ge0-clause-short
returns-then-value-ge0-clause-short c = omega (arith, length-decimal-le 19 c.unsigned_abs.result (omega arith) (omega arith) (omega arith))

pub overflow_sub-line : goal.overflow_sub-line
overflow_sub-line c = omega (arith, length-decimal-le 19 c.unsigned_abs.result (omega arith) (omega arith) (omega arith))

pub overflow_sub-result : goal.overflow_sub-result
overflow_sub-result c = omega (arith, length-decimal-le 19 c.unsigned_abs.result (omega arith) (omega arith) (omega arith))

pub returns-clause-text : goal.returns-clause-text
returns-clause-text c =
    let w = c.write_digits-start in
    let long = length-decimal-le 19 c.unsigned_abs.result (omega arith) (omega arith) (omega arith) in
    let e : w.result - 1 + 1 ≡ w.result = omega arith in
    let back = to_z-of_z c.ranges.value in
    rw (
      drop-set w.new.buf (w.result - 1) 45 (omega arith),
      e,
      w.ensures.written,
      c.unsigned_abs.ensures.value,
      back,
      ← minus_first c.args.value (rw back at c.if-value-ge0.false),
    )
    refl

pub returns-clause-short : goal.returns-clause-short
returns-clause-short c = omega (arith, length-decimal-le 19 c.unsigned_abs.result (omega arith) (omega arith) (omega arith))

pub returns-then-value-ge0-clause-before : goal.returns-then-value-ge0-clause-before
returns-then-value-ge0-clause-before c = omega arith

pub returns-clause-before : goal.returns-clause-before
returns-clause-before c = omega arith
