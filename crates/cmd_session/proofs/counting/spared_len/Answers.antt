use Rattle.std.proofs.Common.{refl}
use Rattle.cmd_session.proofs.counting.spared_len.Goals as goal

pub returns : goal.returns
returns c = record {
  stream = c.in-Some.found.0;
  row = c.in-Some-counted_len.ensures;
  opens = c.in-Some.ensures.opens;
  spared = c.if-not-spares.ensures refl;
}
