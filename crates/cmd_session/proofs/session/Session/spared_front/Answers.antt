use Rattle.std.proofs.Common.{◌+◌, ◌<◌, ◌≤◌, List, ℕ, Option, arith, subst}
use Rattle.exec_registry.specs.Registry as running
use Rattle.cmd_session.specs.Counted.{AreSparedRows}
use Rattle.cmd_session.specs.Lock.{open_in}
use Rattle.cmd_session.specs.Session.{IsSound, SessionValue}
use Rattle.cmd_session.proofs.CountedTexts.{counted_text}
use Rattle.cmd_session.proofs.session.Session.spared_front.Goals as goal

pub returns : goal.returns
returns c =
    let rows = c.spared_rows-rows.result in
    let some : 0 < rows.count = omega (arith, c.if-rows-eq0.false) in
    let few : c.args.self.now.taken + rows.count ≤ c.args.self.now.limit =
    subst (λ (k : SessionValue). k.taken + rows.count ≤ k.limit) c.self.view_is (omega (arith, c.most_rows-most.ensures.rows, c.spared_rows-rows.ensures.few)) in
    let spared = subst (λ (k : SessionValue). AreSparedRows k.streams (open_in k.lock) k.registry.live c.args.text.now rows.count rows.begin rows.end) c.self.view_is
    (subst (λ (o : Option (List ℕ)). AreSparedRows c.self.inside.catalog.streams o c.self.inside.registry.live c.args.text.now rows.count rows.begin rows.end) c.self.invariant.1 c.spared_rows-rows.ensures.rows) in (
      some,
      counted_text c.args.text.now c.args.self.now c.count.new.self rows.count rows.begin rows.end (record {
        session = subst (λ (k : SessionValue). IsSound k) c.self.view_is c.self.invariant.0;
        queries = subst (λ (k : SessionValue). running.IsSound k.registry.pool k.registry.live) c.self.view_is c.len-sound.ensures.sound;
      }) few some spared c.count.ensures,
    )
