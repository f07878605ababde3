use Rattle.std.proofs.Common.{◌≡◌, ◌++◌, map, drop}
use Rattle.exec_part_index.specs.PartIndex.{code_after}
use Rattle.exec_part_index.proofs.part_index.codes_of.Given as goal

abbrev pub invariant-parts : goal.invariant-parts
invariant-parts l = l.codes.items ++ map (λ s. code_after 0 s.items) (drop l.part-index l.signs) ≡ map (λ s. code_after 0 s.items) l.signs
