use Rattle.cmd_session.specs.State.{empty}
use Rattle.cmd_dispatch.proofs.Sessions.{nothing-done, same-fell, session-ends, ran-input, ran-output, ran-files}
use Rattle.cmd_dispatch.proofs.session.run_session.Goals as goal

pub returns-in_default-clause-ends : goal.returns-in_default-clause-ends
returns-in_default-clause-ends g c = rw (c.by.ensures.status, c.by.ensures.file_failed) (nothing-done c.args.form.file c.args.form.each c.args.form.limit _ _ _ c.requires.file)

pub returns-in_default-clause-files_later : goal.returns-in_default-clause-files_later
returns-in_default-clause-files_later g c = same-fell _

pub returns-in_default-new-clause-ends : goal.returns-in_default-new-clause-ends
returns-in_default-new-clause-ends g c = rw (c.by-in_default-new.ensures.status, c.by-in_default-new.ensures.file_failed) (nothing-done c.args.form.file c.args.form.each c.args.form.limit _ _ _ c.requires.file)

pub returns-in_default-new-clause-files_later : goal.returns-in_default-new-clause-files_later
returns-in_default-new-clause-files_later g c = same-fell _

pub returns-clause-ends : goal.returns-clause-ends
returns-clause-ends g c =
    rw (c.status_of.ensures, c.failed_in.ensures)
    (session-ends c.args.form.file c.gather-reached.result.in_file c.args.form.each c.gather-reached.result.ending c.args.form.limit _ _ _ _ _ _ (c.gather-reached.ensures (empty c.args.form.limit) c.in-Ok-new.ensures))

pub returns-clause-input_later : goal.returns-clause-input_later
returns-clause-input_later g c =
    ran-input c.args.form.file c.gather-reached.result.in_file c.args.form.each c.gather-reached.result.ending (empty c.args.form.limit) _ _ _ _ _ _ (c.gather-reached.ensures (empty c.args.form.limit) c.in-Ok-new.ensures)

pub returns-clause-files_later : goal.returns-clause-files_later
returns-clause-files_later g c =
    ran-files c.args.form.file c.gather-reached.result.in_file c.args.form.each c.gather-reached.result.ending (empty c.args.form.limit) _ _ _ _ _ _ (c.gather-reached.ensures (empty c.args.form.limit) c.in-Ok-new.ensures)

pub returns-clause-output_later : goal.returns-clause-output_later
returns-clause-output_later g c =
    ran-output c.args.form.file c.gather-reached.result.in_file c.args.form.each c.gather-reached.result.ending (empty c.args.form.limit) _ _ _ _ _ _ (c.gather-reached.ensures (empty c.args.form.limit) c.in-Ok-new.ensures)
