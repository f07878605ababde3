use Rattle.std.proofs.Common.{arith}
use Rattle.adv_key_choices.proofs.Extended.{extended-none, extended-more, extended-all}
use Rattle.adv_key_choices.proofs.extending.extend_all.Goals as goal

pub loop-i-init : goal.loop-i-init
loop-i-init c = rw c.new-list.ensures.items (extended-none c.args.queries.now c.args.widths.now c.args.stream)

pub loop-i-preserved : goal.loop-i-preserved
loop-i-preserved c =
    extended-more c.args.queries.now c.args.widths.now c.args.stream (omega (arith, c.requires.stream, c.requires.few)) c.args.choices.now _ _ c.loop-i.i _ c.requires.exact c.loop-i-test.true
    c.loop-i.invariant c.in_ok-add_extensions.ensures

pub returns : goal.returns
returns c = extended-all c.args.queries.now c.args.widths.now c.args.stream (omega (arith, c.requires.stream, c.requires.few)) c.args.choices.now _ c.loop-i.i c.requires.exact c.loop-i-test.false c.loop-i.invariant
