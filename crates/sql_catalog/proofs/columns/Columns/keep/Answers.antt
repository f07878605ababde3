use Rattle.std.proofs.Common.{◌≡◌, ◌<◌, List, [], length, All, refl, ap, sym, ◌∙◌, subst, arith}
use Rattle.std.specs.List.{list_all}
use Rattle.std.proofs.lemmas.List.Elements.{All-from_recursion, recursion_from_All}
use Rattle.sql_catalog.specs.declared.column.ColumnDef.{ColumnDef}
use Rattle.sql_catalog.specs.declared.columns.ColumnEnds.{ColumnEnds}
use Rattle.sql_catalog.specs.Streams.{AreEnds, HasEnds}
use Rattle.sql_catalog.specs.Ends.{ends_from, greatest, is_between}
use Rattle.sql_catalog.proofs.ColumnDomains.{between_within, ends_below, ends_short}
use Rattle.sql_catalog.proofs.columns.Columns.keep.Goals as goal

pub are_between-requires-clause-here : goal.are_between-requires-clause-here
are_between-requires-clause-here c =
    let ends : c.as_slice.result.now ≡ ends_from 0 c.args.self.now = c.as_slice.ensures.value ∙ c.self.invariant.0 ∙ ap (ends_from 0) c.self.view_is in
    let below : All (λ (e : ColumnEnds). e.column < length c.args.values.now) (ends_from 0 c.args.self.now) =
    All-from_recursion (λ (e : ColumnEnds). e.column < length c.args.values.now) (ends_from 0 c.args.self.now) (ends_below c.args.self.now 0 (length c.args.values.now) (omega (arith, c.requires))) in
    subst (λ (es : List ColumnEnds). All (λ (e : ColumnEnds). e.column < length c.args.values.now) es) (sym ends) below

pub are_between-requires-clause-ends : goal.are_between-requires-clause-ends
are_between-requires-clause-ends c =
    let ends : c.as_slice.result.now ≡ ends_from 0 c.args.self.now = c.as_slice.ensures.value ∙ c.self.invariant.0 ∙ ap (ends_from 0) c.self.view_is in
    let domains : All (λ (d : ColumnDef). HasEnds d.domain) c.args.self.now = subst (λ (ds : List ColumnDef). All (λ (d : ColumnDef). HasEnds d.domain) ds) c.self.view_is c.self.invariant.1 in
    let short : All (λ (e : ColumnEnds). AreEnds e.lo (greatest e)) (ends_from 0 c.args.self.now) =
    All-from_recursion (λ (e : ColumnEnds). AreEnds e.lo (greatest e)) (ends_from 0 c.args.self.now) (ends_short c.args.self.now 0 (recursion_from_All (λ (d : ColumnDef). HasEnds d.domain) c.args.self.now domains)) in
    subst (λ (es : List ColumnEnds). All (λ (e : ColumnEnds). AreEnds e.lo (greatest e)) es) (sym ends) short

pub returns : goal.returns
returns c =
    let ends : c.as_slice.result.now ≡ ends_from 0 c.args.self.now = c.as_slice.ensures.value ∙ c.self.invariant.0 ∙ ap (ends_from 0) c.self.view_is in
    let domains : All (λ (d : ColumnDef). HasEnds d.domain) c.args.self.now = subst (λ (ds : List ColumnDef). All (λ (d : ColumnDef). HasEnds d.domain) ds) c.self.view_is c.self.invariant.1 in
    c.are_between.ensures ∙ ap (list_all (is_between c.args.values.now)) ends
    ∙ between_within [] c.args.self.now c.args.values.now 0 (recursion_from_All (λ (d : ColumnDef). HasEnds d.domain) c.args.self.now domains) refl c.requires
