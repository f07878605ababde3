use Rattle.std.proofs.Common.{◌∙◌, arith}
use Rattle.cmd_feeds.proofs.ScriptLines.{gates-are}
use Rattle.cmd_feeds.proofs.gates.gates_in.Goals as goal

pub returns : goal.returns
returns c = λ s stands.
    gates-are c.args.words.now c.loop-word.word-index c.lock-lock.result s.lock c.args.session.now.streams s.streams _ c.loop-word.invariant.made
    (omega (arith, c.loop-word-test.false, c.loop-word.auto.word-index-end)) (c.lock-lock.ensures ∙ stands.lock) stands.streams
