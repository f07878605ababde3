use Rattle.std.proofs.Common.{◌∙◌, sym, arith}
use Rattle.std.proofs.lemmas.List.{get_or_default}
use Rattle.exec_part_index.specs.Span.{no_span}
use Rattle.exec_part_index.proofs.part_index.PartIndex.entry_at.Goals as goal

pub returns : goal.returns
returns c =
    let x = c.args.self.now in
    let i = c.args.i in
    let inside = c.requires.inside in
    let codes = c.requires.codes in
    let links = c.requires.links in
    let spans = c.requires.spans in
    record {
      simple_box = c.simple_box_at.ensures;
      shift = c.shift_at.ensures;
      code = c.index.ensures ∙ sym (get_or_default x.codes.items i 0 c.index.result.now (omega (arith, inside, codes)));
      next = c.index-2.ensures ∙ sym (get_or_default x.links.items i 0 c.index-2.result.now (omega (arith, inside, links)));
      span = c.index-3.ensures ∙ sym (get_or_default x.spans.items i no_span c.index-3.result.now (omega (arith, inside, spans)));
      follows = c.has_next_alike.ensures;
    }
