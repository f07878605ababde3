use Rattle.std.proofs.Common.{arith}
use Rattle.exec_answer_lines.proofs.Fronts.{put_front}
use Rattle.exec_answer_lines.proofs.kept.put_short.Goals as goal

pub returns-clause-text : goal.returns-clause-text
returns-clause-text c =
    let wide = c.fits-text.0 in
    put_front c.args.room.now c.args.text c.args.at c.args.len (omega (arith, wide, c.requires.room)) (omega (arith, wide, c.requires.short))
