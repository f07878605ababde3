use Rattle.std.proofs.Common.{◌≡◌, ◌∙◌, ap, sym, subst, List, arith}
use Rattle.exec_pool.specs.Extents.{PoolValue}
use Rattle.exec_registry.specs.Live.{Live}
use Rattle.exec_registry.specs.Registry.{IsSound}
use Rattle.exec_registry.specs.Admitted.{IsLast, AreBeside}
use Rattle.exec_registry.proofs.Admitting.{added, returned, beside_taken}
use Rattle.exec_registry.proofs.register.admit.Goals as goal

pub returns-in-Ok-install : goal.returns-in-Ok-install
returns-in-Ok-install c =
    let before : List Live = c.args.live.now in
    let after : List Live = c.install.new.live in
    let t = c.in-Ok.ensures in
    let s = c.in-Ok-install.ensures in
    let last = s.1 in
    let sound = added c.args.pool.now c.take.new.self c.pages_of.result c.in-Ok.extent before last.live c.requires.sound c.requires.room t last.new.pages last.new.sound last.new.within last.new.kept in
    let same : c.install.new.pool ≡ c.take.new.self = s.0 in (
      c.verdict_of-verdict.ensures,
      omega (arith, c.pages_of.ensures.value, t.free),
      subst (λ (p : PoolValue). IsSound p after) (sym same) (subst (λ (x : List Live). IsSound c.take.new.self x) (sym last.last) sound),
      subst (λ (p : PoolValue). AreBeside before c.args.pool.now p) (sym same) (beside_taken c.args.pool.now c.take.new.self c.pages_of.result c.in-Ok.extent before c.requires.sound t),
      (c.in-Ok.extent, subst (λ (p : PoolValue). IsLast c.args.name c.args.planned.query c.args.planned.shared c.args.planned.plan c.in-Ok.extent p before after) (sym same) last),
      ap (λ (p : PoolValue). p.pages) same ∙ t.all,
    )

pub returns-in-Err : goal.returns-in-Err
returns-in-Err c =
    let before : List Live = c.args.live.now in
    let t = c.in-Ok.ensures in
    let s = c.in-Err.ensures in
    let back = returned c.args.pool.now c.take.new.self c.install.new.pool c.pages_of.result c.in-Ok.extent before c.requires.sound t s.1 in
    (subst (λ (x : List Live). IsSound c.install.new.pool x) (sym s.0) back.0, back.1, back.2, s.0, back.3)
