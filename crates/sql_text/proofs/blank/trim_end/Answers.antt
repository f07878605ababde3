use Rattle.std.proofs.Common.{arith}
use Rattle.std.proofs.lemmas.List.Sums.{suffix_len-le-length}
use Rattle.sql_text.specs.Blank.{is_blank}
use Rattle.sql_text.proofs.blank.trim_end.Goals as goal

pub overflow_sub-text : goal.overflow_sub-text
overflow_sub-text c = omega (arith, suffix_len-le-length is_blank c.args.text.now)
