-- The statements of streams, written one after another.
use Rattle.std.proofs.Common.{◌≡◌, ℕ, ◌+◌, ◌<◌, List, [], ◌∷◌, ◌++◌, length, take, sym, ap, ◌∙◌, subst, append-nil}
use Rattle.std.proofs.lemmas.List.{take_more}
use Rattle.std.proofs.lemmas.List.Concat.{flat_map-append}
use Rattle.io_streams.specs.Sink.{SinkState, Wrote, BrokeOff}
use Rattle.io_streams.proofs.Writing.{Wrote-trans, BrokeOff-at}
use Rattle.sql_catalog.specs.Streams.{Shape, shape_at}
use Rattle.sql_script.specs.Texts.{line_text, stream_statement, streams_text}

abbrev stream_line : Shape → List ℕ
stream_line shape = line_text (stream_statement shape)

abbrev nameless : Shape
nameless = record { name = []; columns = [] }

more : (streams : List Shape) (i : ℕ) → i < length streams → streams_text (take (i + 1) streams) ≡ streams_text (take i streams) ++ stream_line (shape_at streams i)
more streams i lt =
    ap streams_text (take_more streams i nameless lt) ∙ flat_map-append stream_line (take i streams) (shape_at streams i ∷ [])
    ∙ ap (λ l. streams_text (take i streams) ++ l) (append-nil (stream_line (shape_at streams i)))

-- one more statement was written
pub wrote-more : (a b c : SinkState) (streams : List Shape) (i : ℕ) → i < length streams → Wrote a b (streams_text (take i streams)) → Wrote b c (line_text (stream_statement (shape_at streams i))) → Wrote a c (streams_text (take (i + 1) streams))
wrote-more a b c streams i lt p q = subst (Wrote a c) (sym (more streams i lt)) (Wrote-trans a b c (streams_text (take i streams)) (stream_line (shape_at streams i)) p q)

-- one of the statements broke off
pub broke-at : (a b c : SinkState) (streams : List Shape) (i : ℕ) → i < length streams → Wrote a b (streams_text (take i streams)) → BrokeOff b c (line_text (stream_statement (shape_at streams i))) → BrokeOff a c (streams_text streams)
broke-at a b c streams i lt p q = BrokeOff-at stream_line streams i nameless a b c lt p q
