use Rattle.adv_key_choices.proofs.Extended.{adds-nothing, adds-one}
use Rattle.std.proofs.Common.{◌≡◌, true, false, refl}
use Rattle.adv_key_choices.proofs.extending.add_exact.Goals as goal

pub returns-then-not-is_exact : goal.returns-then-not-is_exact
returns-then-not-is_exact c = adds-nothing c.args.queries.now c.args.choice _ (λ e. let z : false ≡ true = c.if-not-is_exact.ensures.1 e in cc)

pub returns-in-Ok : goal.returns-in-Ok
returns-in-Ok c = adds-one c.args.queries.now c.args.choice _ _ (c.if-not-is_exact.ensures.0 refl) c.in-Ok.ensures.items
