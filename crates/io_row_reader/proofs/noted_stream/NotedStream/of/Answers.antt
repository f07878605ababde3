use Rattle.std.proofs.Common.{◌≡◌, length, true, ap, sym, subst, ◌∙◌, refl, arith}
use Rattle.sql_catalog.specs.Streams.{lie_within}
use Rattle.io_row_reader.proofs.RowsCounted.{keep_all}
use Rattle.io_row_reader.proofs.noted_stream.NotedStream.of.Goals as goal

pub returns : goal.returns
returns c =
    let columns = c.columns-columns.ensures.columns in
    record {
      single = λ less. sym (c.bytes.ensures.bytes ∙ c.stream_name.ensures) ∙ c.single_of.ensures less;
      width = ap length (c.as_slice-width.ensures ∙ columns);
      some = omega (arith, c.columns-columns.ensures.some, ap length c.as_slice-width.ensures);
      few = omega (arith, c.columns-columns.ensures.few, ap length c.as_slice-width.ensures);
      room = refl;
      free = λ keeps values size.
          subst (λ cs. lie_within cs values ≡ true) columns
          (keep_all c.columns-columns.result.now (length c.as_slice-width.result.now) _ values c.columns-columns.ensures.domains (refl, (refl, (refl, (refl, (refl, (refl, (refl, (refl, tt)))))))) (sym c.keep.ensures ∙ keeps)
          (size ∙ ap length (sym columns)));
    }
