use Rattle.cmd_dispatch.proofs.session.answer_source.Goals as goal

pub returns-then-each-clause-done : goal.returns-then-each-clause-done
returns-then-each-clause-done g c = rw c.if-each.true c.run_each.ensures.done

pub returns-else-each-clause-done : goal.returns-else-each-clause-done
returns-else-each-clause-done g c = rw c.if-each.false c.run_lines.ensures.done
