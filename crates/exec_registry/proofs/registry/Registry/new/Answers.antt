use Rattle.std.proofs.Common.{length, List, ap, arith}
use Rattle.exec_registry.specs.Live.{Live}
use Rattle.exec_registry.proofs.Quiet.{quiet_after}
use Rattle.exec_registry.proofs.Fresh.{sound_none}
use Rattle.exec_registry.proofs.registry.Registry.new.Goals as goal

pub invariant_of-result : goal.invariant_of-result
invariant_of-result c =
    let none = c.in_ok-live.ensures in
    let size = ap (λ (xs : List Live). length xs) none in (
      sound_none c.args.pages c.in_ok-pool.pool c.in_ok-live.live c.in_ok-pool.ensures none,
      quiet_after c.in_ok-live.live (λ i l a. absurd (omega (arith, a, size))),
      c.in_ok-concerned.ensures c.in_ok-live.live,
    )
