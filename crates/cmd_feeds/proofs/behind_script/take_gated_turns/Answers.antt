use Rattle.std.proofs.Common.{◌∙◌}
use Rattle.cmd_feeds.proofs.ScriptLines.{ran-gates}
use Rattle.cmd_feeds.proofs.behind_script.take_gated_turns.Goals as goal

pub returns-clause-ran : goal.returns-clause-ran
returns-clause-ran g c = λ s stands. ran-gates _ _ _ s _ _ _ _ (c.as_slice.ensures.value ∙ c.gates_in-gates.ensures s stands) (c.take_turns.ensures.ran s stands)
