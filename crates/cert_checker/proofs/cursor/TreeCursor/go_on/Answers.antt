use Rattle.std.proofs.Common.{sym, ◌∙◌}
use Rattle.cert_checker.proofs.Standing.{stands_above, goes_on, drops_on}
use Rattle.cert_checker.proofs.cursor.TreeCursor.go_on.Goals as goal

pub push-requires-clause-stands : goal.push-requires-clause-stands
push-requires-clause-stands c = stands_above c.args.q.now c.args.shown c.loop-sign.self c.pop.new.self c.in-Some.sign c.loop-sign.invariant.stands c.in-Some.ensures

pub returns-in-Some-next_sign-clause-at : goal.returns-in-Some-next_sign-clause-at
returns-in-Some-next_sign-clause-at c = goes_on c.args.self.now.signs.items c.loop-sign.self c.pop.new.self c.push.new.self c.in-Some.sign c.in-Some-next_sign.next c.loop-sign.invariant.same c.in-Some.ensures (sym c.next_sign.ensures ∙ c.in-Some-next_sign.is) c.push.ensures.signs

pub loop-sign-preserved : goal.loop-sign-preserved
loop-sign-preserved c = record {
  stands = stands_above c.args.q.now c.args.shown c.loop-sign.self c.pop.new.self c.in-Some.sign c.loop-sign.invariant.stands c.in-Some.ensures;
  same = drops_on c.args.self.now.signs.items c.loop-sign.self c.pop.new.self c.in-Some.sign c.loop-sign.invariant.same c.in-Some.ensures (sym c.next_sign.ensures ∙ c.in_default-next_sign.is);
}
