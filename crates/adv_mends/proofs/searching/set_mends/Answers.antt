use Rattle.std.proofs.Common.{List}
use Rattle.sem_query.specs.declared.atom.Attr.{Attr}
use Rattle.sem_query.specs.Query.{QueryValue}
use Rattle.adv_mends.specs.declared.mend.ChangeKind.{ChangeKind}
use Rattle.adv_mends.specs.declared.mend.ChangeKind.TheVariants as kinds
use Rattle.adv_mends.specs.declared.mend.Ends.{Ends}
use Rattle.adv_mends.specs.Mended.{AreEnds, on}
use Rattle.adv_mends.specs.Sets.{IsMendOf, open_columns}
use Rattle.adv_mends.specs.Sublists.{IsSublist}
use Rattle.adv_mends.proofs.searching.set_mends.Goals as goal

-- bounds and domains on columns that may be bounded are changes of the query
on_mend : (q : QueryValue) (kind : ChangeKind) (ends : Ends) (set : List Attr) → IsSublist set (open_columns q) → AreEnds ends → IsMendOf q (on kind ends set)
on_mend q kinds.Bounds ends set s e = (s, e)
on_mend q kinds.Domains ends set s e = (s, e)

pub stays_met-requires : goal.stays_met-requires
stays_met-requires c = rw c.on-2.ensures (on_mend c.args.query.now c.args.kind c.below.result c.args.set.now c.requires c.below.ensures.ends)

pub stays_met-requires-2 : goal.stays_met-requires-2
stays_met-requires-2 c = rw c.on-3.ensures (on_mend c.args.query.now c.args.kind c.above.result c.args.set.now c.requires c.above.ensures.ends)
