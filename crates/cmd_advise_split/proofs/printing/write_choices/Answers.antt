use Rattle.sql_explain.proofs.Writers.{read_broke, read_wrote}
use Rattle.cmd_advise_split.specs.Text.{choice_text}
use Rattle.cmd_advise_split.proofs.printing.write_choices.Goals as goal

pub returns-in_err-write_choice : goal.returns-in_err-write_choice
returns-in_err-write_choice g c =
    read_broke (choice_text c.args.catalog.now c.args.names.now) c.args.list.now c.loop-told.told-index c.told-item.result c.from_residual.result _ _ _ c.told-item.is c.from_residual.ensures.0 c.loop-told-test.true c.loop-told.invariant
    c.in_err-write_choice.ensures

pub loop-told-preserved : goal.loop-told-preserved
loop-told-preserved g c =
    read_wrote (choice_text c.args.catalog.now c.args.names.now) c.args.list.now c.loop-told.told-index c.told-item.result _ _ _ c.told-item.is c.loop-told-test.true c.loop-told.invariant c.in_ok-write_choice.ensures
