use Rattle.std.proofs.Common.{◌≤◌, ◌∙◌, drop, arith}
use Rattle.exec_answer_lines.proofs.Tails.{one_and_more, wrote_more, broke_more}
use Rattle.exec_answer_lines.proofs.lines.write_times.Goals as goal

pub returns-in-Err : goal.returns-in-Err
returns-in-Err g c =
    let least : c.min-count.result ≤ c.left.left = omega (arith, c.min-count.ensures) in
    broke_more (drop c.args.start c.args.room.now) _ _ _ c.args.times c.left.left c.min-count.result c.left.invariant.left least c.left.invariant.wrote
    (rw (
    c.split_at.ensures.back
    ∙ c.repeat_text-first.ensures.text
    ∙ one_and_more _ (drop c.args.start c.args.room.now) _ c.min-count.result c.left.invariant.text (omega (arith, c.min-count.ensures, c.left-test.true))
    )
    at c.in-Err.ensures)

pub left-preserved : goal.left-preserved
left-preserved g c =
    let least : c.min-count.result ≤ c.left.left = omega (arith, c.min-count.ensures) in
    record {
      wrote = wrote_more (drop c.args.start c.args.room.now) _ _ _ c.args.times c.left.left c.min-count.result c.left.invariant.left least c.left.invariant.wrote
          (rw (
          c.split_at.ensures.back
          ∙ c.repeat_text-first.ensures.text
          ∙ one_and_more _ (drop c.args.start c.args.room.now) _ c.min-count.result c.left.invariant.text (omega (arith, c.min-count.ensures, c.left-test.true))
          )
          at c.in-Ok.ensures);
      text = c.repeat_text-first.ensures.behind ∙ c.left.invariant.text;
      left = omega (arith, c.left.invariant.left, least);
      len = c.repeat_text-first.ensures.len;
    }
