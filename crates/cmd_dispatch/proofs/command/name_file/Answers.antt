use Rattle.std.proofs.Common.{sym, ap, ◌∙◌}
use Rattle.cmd_dispatch.specs.Commands.{names_file}
use Rattle.cmd_dispatch.proofs.OneCommand.{one_command}
use Rattle.cmd_dispatch.proofs.command.name_file.Goals as goal

pub returns-in-Some : goal.returns-in-Some
returns-in-Some c = (
  λ h. record { command = c.in-Some.command; asks = c.in-Some.ensures.asks; holds = sym c.names_file.ensures ∙ h },
  λ named. c.names_file.ensures ∙ ap names_file (one_command c.args.words.now c.in-Some.command named.command c.in-Some.ensures.asks named.asks) ∙ named.holds,
)
