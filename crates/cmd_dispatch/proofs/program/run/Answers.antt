use Rattle.std.proofs.Common.{map, refl, sym, ap, ◌∙◌, subst}
use Rattle.std.proofs.lemmas.Bool.{false≢true}
use Rattle.cmd_dispatch.specs.Commands.{HasFile, names_file}
use Rattle.cmd_dispatch.proofs.OneCommand.{one_command}
use Rattle.cmd_dispatch.proofs.Sessions.{same-fell}
use Rattle.cmd_dispatch.proofs.program.run.Goals as goal

pub returns-else-has_file-clause-ends : goal.returns-else-has_file-clause-ends
returns-else-has_file-clause-ends g c =
    rw (c.by.ensures.status, c.by.ensures.file_failed) (
      λ command asks has.
          let named = ap names_file (one_command c.args.words.now command c.in-Some.command asks c.in-Some.ensures.asks) ∙ sym c.names_file.ensures in
          false≢true (sym c.if-has_file.false ∙ c.has_file.ensures.1 (subst (λ b. HasFile b (map g.F.Source.seen c.args.files.now)) named has)),
      refl,
      refl,
      (refl, refl),
    )

pub returns-in-None-clause-files_later : goal.returns-in-None-clause-files_later
returns-in-None-clause-files_later g c = same-fell _
