use Rattle.exec_query_index.proofs.candidates.put_column.Goals as goal

pub returns-then-tells_more : goal.returns-then-tells_more
returns-then-tells_more c = c.put_first.ensures c.args.boxes.now c.requires.others c.over-own.ensures.marks

pub returns-else-tells_more : goal.returns-else-tells_more
returns-else-tells_more c = c.put_last.ensures c.args.boxes.now c.requires.others c.over-own.ensures.marks
