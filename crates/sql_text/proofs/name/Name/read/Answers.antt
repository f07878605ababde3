use Rattle.std.proofs.Common.{◌≤◌, length}
use Rattle.sql_text.proofs.Copied.{copied_more}
use Rattle.sql_text.proofs.name.Name.read.Goals as goal

pub loop-i-preserved : goal.loop-i-preserved
loop-i-preserved c =
    let short : length c.args.text.now ≤ 24 = c.if-text-gt-MOST_BYTES.false in
    copied_more c.args.text.now c.loop-i.bytes c.loop-i.i c.loop-i-test.true short c.loop-i.invariant
