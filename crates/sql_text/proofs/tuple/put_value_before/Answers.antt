use Rattle.std.proofs.Common.{◌≡◌, ◌+◌, ◌-◌, refl, arith, to_z-of_z}
use Rattle.std.proofs.lemmas.List.{drop-set}
use Rattle.sql_text.proofs.tuple.put_value_before.Goals as goal

pub bounds-line-start : goal.bounds-line-start
bounds-line-start c = omega arith

pub returns-clause-text : goal.returns-clause-text
returns-clause-text c =
    let w = c.put_integer_before-start in
    let e : w.result - 1 + 1 ≡ w.result = omega arith in
    let back = to_z-of_z c.ranges.value in
    rw (drop-set w.new.line (w.result - 1) 44 (omega arith), e, w.ensures.text, back)
    refl
