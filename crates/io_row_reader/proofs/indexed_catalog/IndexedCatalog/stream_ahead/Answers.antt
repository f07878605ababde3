use Rattle.std.proofs.Common.{◌≡◌, ◌<◌, [], ◌∷◌, length, slice_index, ap, subst, ◌∙◌, arith}
use Rattle.sql_catalog.specs.Streams.{shape_at}
use Rattle.io_row_reader.specs.Ahead.{BeginsStream}
use Rattle.io_row_reader.specs.Indexed.{IndexedValue}
use Rattle.io_row_reader.proofs.NamesAhead.{single_begins, single_inside, stream_begins}
use Rattle.io_row_reader.proofs.StreamsNoted.{single_noted}
use Rattle.io_row_reader.proofs.indexed_catalog.IndexedCatalog.stream_ahead.Goals as goal

pub bounds-text-1 : goal.bounds-text-1
bounds-text-1 c =
    let stream = slice_index c.self.inside.starts.numbers c.from.result in
    let known : stream < length c.self.inside.catalog = omega (arith, c.len.ensures.len, c.if-len-stream.false) in
    let first = slice_index c.args.text.now 0 in
    let name : (shape_at c.self.inside.catalog stream).name ≡ first ∷ [] = single_noted c.self.inside.noted c.self.inside.catalog stream c.from-2.result first c.from-3.result _ c.self.invariant.0 known c.from-2.ensures c.from-3.ensures (omega (arith, c.type_inv.text 0)) c.if-self-from.true in
    (single_inside c.self.inside.catalog c.args.text.now stream c.len.ensures.catalog known c.requires name).1

pub returns-then-text-eq44-clause-begins : goal.returns-then-text-eq44-clause-begins
returns-then-text-eq44-clause-begins c =
    let stream = slice_index c.self.inside.starts.numbers c.from.result in
    let known : stream < length c.self.inside.catalog = omega (arith, c.len.ensures.len, c.if-len-stream.false) in
    let first = slice_index c.args.text.now 0 in
    let name : (shape_at c.self.inside.catalog stream).name ≡ first ∷ [] = single_noted c.self.inside.noted c.self.inside.catalog stream c.from-2.result first c.from-3.result _ c.self.invariant.0 known c.from-2.ensures c.from-3.ensures (omega (arith, c.type_inv.text 0)) c.if-self-from.true in
    subst (λ (v : IndexedValue). BeginsStream v.streams c.args.text.now stream 2) c.self.view_is
    (single_begins c.self.inside.catalog c.args.text.now stream c.len.ensures.catalog known c.requires name c.if-text-eq44.true)

pub returns-in-Some-clause-begins : goal.returns-in-Some-clause-begins
returns-in-Some-clause-begins c =
    let stream = slice_index c.self.inside.starts.numbers c.from.result in
    let known : stream < length c.self.inside.catalog = omega (arith, c.len.ensures.len, c.if-len-stream.false) in
    subst (λ (v : IndexedValue). BeginsStream v.streams c.args.text.now stream c.in-Some.len) c.self.view_is
    (stream_begins c.self.inside.catalog c.args.text.now stream c.in-Some.len c.bytes.result.now c.len.ensures.catalog known (c.bytes.ensures.bytes ∙ c.stream_name.ensures)
    (omega (arith, c.bytes.ensures.short, ap length c.bytes.ensures.bytes)) c.in-Some.ensures)
