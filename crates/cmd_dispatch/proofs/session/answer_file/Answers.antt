use Rattle.std.proofs.Common.{map, subst}
use Rattle.cmd_dispatch.specs.Commands.{HasFile}
use Rattle.cmd_dispatch.proofs.Sessions.{file-phase}
use Rattle.cmd_dispatch.proofs.session.answer_file.Goals as goal

pub returns-then-form-clause-phase : goal.returns-then-form-clause-phase
returns-then-form-clause-phase g c = λ s stands.
    let has = subst (λ b. HasFile b (map g.F.Source.seen c.args.files.now)) c.if-form.true c.requires.file in
    rw c.if-form.true
    (file-phase g.F.Source.seen c.args.files.now c.index-files-0.result _ c.args.form.each c.answer_source.result s _ _ _ _ has (c.answer_source.ensures.streams s stands) (λ e. c.answer_source.ensures.done e s stands))
