use Rattle.std.proofs.Common.{◌∙◌, ap, sym}
use Rattle.sql_catalog.specs.Streams.{all_differ}
use Rattle.sql_parser.proofs.Placed.{has_named}
use Rattle.sql_parser.proofs.Taken.{within_limits}
use Rattle.sql_parser.proofs.resolution.resolve.Goals as goal

pub query_for-requires-clause-within : goal.query_for-requires-clause-within
query_for-requires-clause-within c =
    within_limits c.args.catalog.now c.args.select.now c.len-streams.ensures.catalog c.requires
    (sym c.has_streams.ensures ∙ c.if-not-has_streams.false)
    (sym c.has_columns.ensures ∙ c.if-not-has_columns.false)
    (ap all_differ (sym c.as_slice-from.ensures.value) ∙ sym c.all_differ.ensures ∙ c.if-not-all_differ.false)

pub query_for-requires-clause-named : goal.query_for-requires-clause-named
query_for-requires-clause-named c =
    has_named c.args.catalog.now c.args.select.now (sym c.has_streams.ensures ∙ c.if-not-has_streams.false) (sym c.has_columns.ensures ∙ c.if-not-has_columns.false)

pub returns-clause-named : goal.returns-clause-named
returns-clause-named c =
    rw c.query_for.ensures (has_named c.args.catalog.now c.args.select.now
    (sym c.has_streams.ensures ∙ c.if-not-has_streams.false)
    (sym c.has_columns.ensures ∙ c.if-not-has_columns.false))
