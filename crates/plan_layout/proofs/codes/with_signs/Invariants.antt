use Rattle.std.proofs.Common.{◌≡◌, drop}
use Rattle.plan_layout.specs.Codes.{code_after, sign_numbers}
use Rattle.plan_layout.proofs.codes.with_signs.Given as goal

abbrev pub invariant-signs : goal.invariant-signs
invariant-signs l = code_after l.code (sign_numbers l.place (drop l.i l.pairs) (drop l.i l.signs)) ≡ code_after l.fn.code (sign_numbers l.place l.pairs l.signs)
