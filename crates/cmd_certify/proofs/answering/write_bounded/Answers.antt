use Rattle.std.proofs.Common.{List, ℕ, [], ◌∷◌, ◌++◌, codes, decimal, ap, ◌∙◌, subst}
use Rattle.io_streams.specs.Sink.{Writes}
use Rattle.cmd_certify.proofs.Grouped.{bounded}
use Rattle.cmd_certify.proofs.answering.write_bounded.Goals as goal

pub returns : goal.returns
returns g c =
    subst (λ (t : List ℕ). Writes c.write_pieces.result (g.O.Sink.seen c.args.out.now) (g.O.Sink.seen c.write_pieces.new.out) t)
    (ap (λ (p : List ℕ). codes "certified " ++ (c.args.name.now ++ (codes " bounded parts " ++ (p ++ (10 ∷ []))))) (c.as_bytes.ensures.value ∙ c.format.ensures.text) ∙ bounded c.args.name.now (decimal c.args.parts))
    c.write_pieces.ensures
