use Rattle.std.proofs.Common.{List, ℕ, ◌∙◌, ◌++◌, ◌∷◌, [], ap, codes, subst}
use Rattle.io_streams.specs.Sink.{Writes}
use Rattle.sql_replies.proofs.Grouped.{no_pages}
use Rattle.sql_replies.proofs.reply.write_no_pages.Goals as goal

pub returns : goal.returns
returns g c =
    subst (λ (t : List ℕ). Writes c.write_pieces.result (g.O.Sink.seen c.args.out.now) (g.O.Sink.seen c.write_pieces.new.out) t)
    (ap (λ (n : List ℕ). codes "refused " ++ (n ++ (codes " limit pool" ++ (10 ∷ [])))) c.bytes.ensures.bytes ∙ no_pages c.args.name.now) c.write_pieces.ensures
