use Rattle.sql_parser.specs.declared.tree.Statement.TheVariants.{CreateQuery}
use Rattle.std.proofs.Common.{refl, sym, ap, ◌∙◌, arith, Err}
use Rattle.adv_diagnosis.specs.Asked.{query_named}
use Rattle.adv_diagnosis.specs.FaultWords.{word_of}
use Rattle.sql_parser.specs.Resolution.{resolved}
use Rattle.adv_diagnosis.proofs.StreamTests.{name_refused, new_query}
use Rattle.adv_diagnosis.proofs.statements.diagnose_query.Goals as goal

pub returns-in-Some-clause-found : goal.returns-in-Some-clause-found
returns-in-Some-clause-found c =
    let streams = c.args.known.now.catalog.now in
    let live = c.args.known.now.live.now in
    let h = rw c.in-Some.is at c.query_fault.ensures in
    record {
      asked = name_refused live c.args.name (query_named c.args.name c.args.shared (resolved streams c.args.select)) (word_of c.in-Some.fault) (sym c.is_live.ensures ∙ c.if-is_live.false) (omega arith)
          (ap (query_named c.args.name c.args.shared) h.refused ∙ ap Err h.word);
      facts = h.fact live c.args.name c.args.shared (new_query live c.args.name (CreateQuery c.args.name c.args.select c.args.shared) refl (sym c.is_live.ensures ∙ c.if-is_live.false), omega arith);
    }
