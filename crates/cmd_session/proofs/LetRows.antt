-- Rows that a lock lets.
use Rattle.std.proofs.Common.{◌≡◌, ℕ, ℤ, Bool, true, false, cond, List, length, Option, Some, None, refl, sym, ap, subst, IsTrue, Ok, Err}
use Rattle.std.specs.declared.result.Result.{Result}
use Rattle.std.specs.Prelude.{◌==◌, nat_lt, is_some}
use Rattle.sql_text.specs.Word.{word_of}
use Rattle.sql_text.specs.Key.{key_of}
use Rattle.sql_parser.specs.declared.line.LineKind.TheVariants as kinds
use Rattle.sql_catalog.specs.declared.column.ColumnDef.{ColumnDef}
use Rattle.sql_catalog.specs.declared.row_error.RowError.{RowError}
use Rattle.sql_catalog.specs.declared.row_error.RowError.TheVariants.{Syntax, Limit, Arity, Domain}
use Rattle.sql_catalog.specs.Rows.{Entry, entry, entry_of, fields_of, row_for, row_of, values_of}
use Rattle.sql_catalog.specs.Streams.{Shape, lie_within, shape_at, stream_number}
use Rattle.io_row_reader.specs.Open.{is_open}
use Rattle.cmd_session.specs.Lock.{Lock, LetsText, is_found_open, lets_row, open_in}

-- the stream of a row, where there is one
abbrev stream_in : Result Entry RowError → Option ℕ
stream_in (Ok e) = Some e.stream
stream_in (Err error) = None

none_some : {X : Type 0} (n : X) → None ≡ Some n → ⊥
none_some n e = cc

within_stream : (b : Bool) (n stream : ℕ) (values : List ℤ) → stream_in (cond b (Ok (entry n values)) (Err Domain)) ≡ Some stream → n ≡ stream
within_stream true n stream values e = cc
within_stream false n stream values e = absurd (none_some stream e)

entry_stream : (n stream : ℕ) (columns : List ColumnDef) (values : Option (List ℤ)) → stream_in (entry_of n columns values) ≡ Some stream → n ≡ stream
entry_stream n stream columns None e = absurd (none_some stream e)
entry_stream n stream columns (Some values) e = within_stream (lie_within columns values) n stream values e

with_stream : (b : Bool) (n stream : ℕ) (columns : List ColumnDef) (values : Option (List ℤ)) → stream_in (cond b (entry_of n columns values) (Err Arity)) ≡ Some stream → n ≡ stream
with_stream true n stream columns values e = entry_stream n stream columns values e
with_stream false n stream columns values e = absurd (none_some stream e)

for_stream : (streams : List Shape) (fields : List (List ℕ)) (o : Option ℕ) (stream : ℕ) → stream_in (row_for streams fields o) ≡ Some stream → o ≡ Some stream
for_stream streams fields None stream e = absurd (none_some stream e)
for_stream streams fields (Some n) stream e =
    ap Some (with_stream (length fields == length (shape_at streams n).columns) n stream (shape_at streams n).columns (values_of fields) e)

named_stream : (a b : Bool) (streams : List Shape) (fields : List (List ℕ)) (o : Option ℕ) (stream : ℕ) → stream_in (cond a (Err Syntax) (cond b (Err Limit) (row_for streams fields o))) ≡ Some stream → o ≡ Some stream
named_stream true b streams fields o stream e = absurd (none_some stream e)
named_stream false true streams fields o stream e = absurd (none_some stream e)
named_stream false false streams fields o stream e = for_stream streams fields o stream e

-- the first word of a row is the name of its stream
pub row_stream : (streams : List Shape) (text : List ℕ) (stream : ℕ) (values : List ℤ) → row_of streams text ≡ Ok (entry stream values) → stream_number streams (word_of text) ≡ Some stream
unfolding row_of
row_stream streams text stream values e =
    named_stream (is_some (key_of (word_of text))) (nat_lt 24 (length (word_of text))) streams (fields_of text) (stream_number streams (word_of text)) stream (ap stream_in e)

-- a row of an open stream is let
let_found : (opened : Option (List ℕ)) (streams : List Shape) (text : List ℕ) (stream : ℕ) → stream_number streams (word_of text) ≡ Some stream → IsTrue (is_open opened stream) → IsTrue (lets_row opened streams text)
let_found None streams text stream e opens = refl
let_found (Some numbers) streams text stream e opens = subst (λ (o : Option ℕ). IsTrue (is_found_open (Some numbers) o)) (sym e) opens

pub row_let : (lock : Option Lock) (streams : List Shape) (text : List ℕ) (stream : ℕ) (values : List ℤ) → IsTrue (is_open (open_in lock) stream) → row_of streams text ≡ Ok (entry stream values) → LetsText lock streams kinds.RowLine text
row_let None streams text stream values opens row = tt
row_let (Some lock) streams text stream values opens row = let_found lock.opened streams text stream (row_stream streams text stream values row) opens
