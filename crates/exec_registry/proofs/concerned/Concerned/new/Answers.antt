use Rattle.std.proofs.Common.{refl}
use Rattle.exec_registry.proofs.Sparing.{told_none}
use Rattle.exec_registry.proofs.concerned.Concerned.new.Goals as goal

pub returns : goal.returns
returns c = λ live. told_none _ live c.streams.invariant refl
