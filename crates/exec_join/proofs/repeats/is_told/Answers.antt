use Rattle.sem_query.specs.Parts.{pairs}
use Rattle.std.proofs.Common.{◌∙◌, length, ap, arith}
use Rattle.std.proofs.lemmas.List.{drop_all}
use Rattle.std.specs.List.{list_all}
use Rattle.sem_query.specs.Probing.{is_known}
use Rattle.exec_join.proofs.RepeatLaws.{all-told}
use Rattle.exec_join.proofs.repeats.is_told.Goals as goal

pub returns : goal.returns
returns c t =
    record {
      columns = c.columns.invariant
          ∙ ap (list_all (is_known c.args.at.now.arriving (length c.args.known.now))) (drop_all c.columns.column-index c.args.columns.now (omega (arith, c.columns-test.false)));
      tuple = all-told (pairs c.args.at.now.q.now) c.args.columns.now c.args.at.now.part.now c.args.at.now.arriving c.args.at.now.row.now.items c.args.known.now c.args.values.now c.values.i c.values-test.false c.if-columns-values.false c.values.invariant;
    }
