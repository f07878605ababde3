use Rattle.std.proofs.Common.{map, ap, ◌∙◌, subst}
use Rattle.cmd_dispatch.specs.Commands.{HasFile, names_file}
use Rattle.cmd_dispatch.proofs.Sessions.{same-fell}
use Rattle.cmd_dispatch.proofs.CommandsEnded.{first-fell}
use Rattle.cmd_dispatch.proofs.program.run_command.Goals as goal

pub returns-in-Load-clause-files_later : goal.returns-in-Load-clause-files_later
returns-in-Load-clause-files_later g c = same-fell _

pub returns-in-Help-clause-files_later : goal.returns-in-Help-clause-files_later
returns-in-Help-clause-files_later g c = same-fell _

pub returns-in-Version-clause-files_later : goal.returns-in-Version-clause-files_later
returns-in-Version-clause-files_later g c = same-fell _

pub returns-in-Lower-clause-files_later : goal.returns-in-Lower-clause-files_later
returns-in-Lower-clause-files_later g c = same-fell _

pub returns-in-Certify-clause-files_later : goal.returns-in-Certify-clause-files_later
returns-in-Certify-clause-files_later g c = same-fell _

pub returns-in-Check-clause-files_later : goal.returns-in-Check-clause-files_later
returns-in-Check-clause-files_later g c = same-fell _

pub returns-then-file-clause-files_later : goal.returns-then-file-clause-files_later
returns-then-file-clause-files_later g c =
    let has = subst (λ b. HasFile b (map g.F.Source.seen c.args.files.now)) (ap names_file c.in-Advise.is ∙ c.if-file.true) c.requires.file in
    first-fell g.F.Source.seen c.args.files.now c.index-files-0.result _ has c.advise_script.ensures.input_later

pub returns-else-file-clause-files_later : goal.returns-else-file-clause-files_later
returns-else-file-clause-files_later g c = same-fell _

pub returns-then-file-2-clause-files_later : goal.returns-then-file-2-clause-files_later
returns-then-file-2-clause-files_later g c =
    let has = subst (λ b. HasFile b (map g.F.Source.seen c.args.files.now)) (ap names_file c.in-Split.is ∙ c.if-file-2.true) c.requires.file in
    first-fell g.F.Source.seen c.args.files.now c.index-files-0-then-file-2.result _ has c.split_script.ensures.input_later

pub returns-else-file-2-clause-files_later : goal.returns-else-file-2-clause-files_later
returns-else-file-2-clause-files_later g c = same-fell _
