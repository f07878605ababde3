-- The word that refuses a line, by what was found.
use Rattle.sql_catalog.specs.declared.stream_error.StreamError.{StreamError}
use Rattle.sql_catalog.specs.declared.stream_error.StreamError.TheVariants as stream_errors
use Rattle.sql_catalog.specs.declared.row_error.RowError.{RowError}
use Rattle.sql_catalog.specs.declared.row_error.RowError.TheVariants as row_errors
use Rattle.sql_parser.specs.declared.parsing.ParseError.{ParseError}
use Rattle.sql_parser.specs.declared.parsing.ParseError.TheVariants as parse_errors
use Rattle.sql_parser.specs.declared.resolution.ResolveError.{ResolveError}
use Rattle.sql_parser.specs.declared.resolution.ResolveError.TheVariants as resolve_errors
use Rattle.sql_replies.specs.declared.refusal.Refusal.{Refusal}
use Rattle.sql_replies.specs.declared.refusal.Refusal.TheVariants.{Syntax, Limit, Duplicate, TooMany, UnknownStream, UnknownColumn, SelfJoin, Arity, Value, Domain}

-- the word for a refused stream
abbrev pub stream_refusal : StreamError → Refusal
stream_refusal stream_errors.Duplicate = Duplicate
stream_refusal stream_errors.TooMany = TooMany

-- the word for a refused row
abbrev pub row_refusal : RowError → Refusal
row_refusal row_errors.Syntax = Syntax
row_refusal row_errors.Limit = Limit
row_refusal row_errors.UnknownStream = UnknownStream
row_refusal row_errors.Arity = Arity
row_refusal row_errors.Value = Value
row_refusal row_errors.Domain = Domain

-- the word for a query whose names stand for none
abbrev pub resolve_refusal : ResolveError → Refusal
resolve_refusal resolve_errors.UnknownStream = UnknownStream
resolve_refusal resolve_errors.UnknownColumn = UnknownColumn
resolve_refusal resolve_errors.SelfJoin = SelfJoin

-- the word for a text that is no statement within the limits
abbrev pub parse_refusal : ParseError → Refusal
parse_refusal (parse_errors.Syntax at) = Syntax
parse_refusal (parse_errors.Limit what) = Limit
