use Rattle.std.proofs.Common.{◌≡◌, ◌+◌, ◌-◌, length, ap, ◌∙◌, arith}
use Rattle.std.proofs.lemmas.Slice.{drop-put_mid}
use Rattle.exec_answer_lines.proofs.lines.put_text.Goals as goal

pub returns-clause-behind : goal.returns-clause-behind
returns-clause-behind c =
    let len = length c.args.text.now in
    let fits : len ≡ c.args.at + len - c.args.at = omega arith in
    drop-put_mid c.args.at (c.args.at + len - c.args.at) c.args.room.now c.copy_from_slice.new.self (c.args.at + len) (omega arith) (omega (arith, c.requires.room))
    (ap length c.copy_from_slice.ensures.after ∙ fits)
