use Rattle.exec_registry.proofs.verdict.judge.Goals as goal

pub returns-then-is_filter : goal.returns-then-is_filter
returns-then-is_filter c = c.judge_filter.ensures c.args.shared
