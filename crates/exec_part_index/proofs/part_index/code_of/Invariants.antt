use Rattle.std.proofs.Common.{◌≡◌, drop}
use Rattle.exec_part_index.specs.PartIndex.{code_after}
use Rattle.exec_part_index.proofs.part_index.code_of.Given as goal

abbrev pub invariant-signs : goal.invariant-signs
invariant-signs l = code_after l.code (drop l.sign-index l.signs) ≡ code_after 0 l.signs
