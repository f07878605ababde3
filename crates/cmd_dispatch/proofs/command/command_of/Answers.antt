use Rattle.cmd_dispatch.proofs.CommandForms.{asked_script, allowed_script, asked_help, allowed_help}
use Rattle.cmd_dispatch.proofs.command.command_of.Goals as goal

pub returns-in-Some-script_command-clause-asks : goal.returns-in-Some-script_command-clause-asks
returns-in-Some-script_command-clause-asks c = asked_script c.args.words.now c.in-Some-script_command.command c.in-Some-script_command.ensures

pub returns-in-Some-script_command-clause-allowed : goal.returns-in-Some-script_command-clause-allowed
returns-in-Some-script_command-clause-allowed c = allowed_script c.args.words.now c.in-Some-script_command.command c.in-Some-script_command.ensures

pub returns-in-None-script_command-clause-asks : goal.returns-in-None-script_command-clause-asks
returns-in-None-script_command-clause-asks c =
    asked_help c.args.words.now c.help_command.result c.in-None.ensures.form c.in-None-load_rows.ensures.rows c.in-None-lower_form.ensures.form c.in-None-script_command.ensures c.help_command.ensures

pub returns-in-None-script_command-clause-allowed : goal.returns-in-None-script_command-clause-allowed
returns-in-None-script_command-clause-allowed c = allowed_help c.args.words.now c.help_command.result c.help_command.ensures
