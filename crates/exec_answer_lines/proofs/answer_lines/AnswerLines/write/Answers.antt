use Rattle.std.proofs.Common.{length, take_all, ap, ◌∙◌, arith}
use Rattle.sql_text.specs.Tuple.{tuple_line}
use Rattle.exec_answer_lines.proofs.Fronts.{line_there}
use Rattle.exec_answer_lines.proofs.Tails.{broke_at_once, front_and_rest, lines_of_text}
use Rattle.exec_answer_lines.proofs.answer_lines.AnswerLines.write.Goals.{in-Took+else-n-line, in-Failed}
use Rattle.exec_answer_lines.proofs.answer_lines.AnswerLines.write.Goals as goal

pub returns-in-None-clause-written : goal.returns-in-None-clause-written
returns-in-None-clause-written g c =
    let line = line_there c.put_values-end.new.line c.put_name.new.room c.bytes-bytes.result.now c.args.tuple.now _ c.put_values-end.result c.put_name.result
    (omega (arith, c.put_values-end.ensures.room, ap length c.bytes-bytes.ensures.bytes, c.bytes-bytes.ensures.short))
    (omega (arith, c.put_values-end.ensures.inside, c.put_values-end.ensures.len))
    c.put_name.ensures.end
    c.put_values-end.ensures.text
    c.put_name.ensures.text
    c.put_name.ensures.behind
    ∙ ap (λ name. tuple_line name c.args.tuple.now) c.bytes-bytes.ensures.bytes in
    rw (lines_of_text c.args.name.now c.args.tuple.now _ c.args.times.now line) at (rw c.in-None.ensures at c.write_times.ensures)

pub returns-then-n-line-clause-written : goal.returns-then-n-line-clause-written
returns-then-n-line-clause-written g c =
    let line = line_there c.put_values-end.new.line c.put_name.new.room c.bytes-bytes.result.now c.args.tuple.now _ c.put_values-end.result c.put_name.result
    (omega (arith, c.put_values-end.ensures.room, ap length c.bytes-bytes.ensures.bytes, c.bytes-bytes.ensures.short))
    (omega (arith, c.put_values-end.ensures.inside, c.put_values-end.ensures.len))
    c.put_name.ensures.end
    c.put_values-end.ensures.text
    c.put_name.ensures.text
    c.put_name.ensures.behind
    ∙ ap (λ name. tuple_line name c.args.tuple.now) c.bytes-bytes.ensures.bytes in
    let once = c.split_at.ensures.back ∙ c.in-Some.ensures.1 ∙ lines_of_text c.args.name.now c.args.tuple.now _ c.args.times.now line in
    rw (take_all c.in-Took.n c.split_at.result.1.now (omega (arith, c.if-n-line.true)) ∙ once) at c.in-Took.ensures.2

pub returns-clause-written : goal.returns-clause-written
returns-clause-written g c =
    let line = line_there c.put_values-end.new.line c.put_name.new.room c.bytes-bytes.result.now c.args.tuple.now _ c.put_values-end.result c.put_name.result
    (omega (arith, c.put_values-end.ensures.room, ap length c.bytes-bytes.ensures.bytes, c.bytes-bytes.ensures.short))
    (omega (arith, c.put_values-end.ensures.inside, c.put_values-end.ensures.len))
    c.put_name.ensures.end
    c.put_values-end.ensures.text
    c.put_name.ensures.text
    c.put_name.ensures.behind
    ∙ ap (λ name. tuple_line name c.args.tuple.now) c.bytes-bytes.ensures.bytes in
    let once = c.split_at.ensures.back ∙ c.in-Some.ensures.1 ∙ lines_of_text c.args.name.now c.args.tuple.now _ c.args.times.now line in
    elim c.match-write.branch [
      | in-Took+else-n-line w ↦ rw (w.result-is, w.out-is, ← once) (front_and_rest c.split_at.result.1.now w.in-Took.n _ _ _ w.write_rest.result w.in-Took.ensures.2 w.write_rest.ensures)
      | in-Failed w ↦ rw (w.result-is, w.out-is, ← once) (broke_at_once c.split_at.result.1.now _ _ w.in-Failed.ensures)
    ]
