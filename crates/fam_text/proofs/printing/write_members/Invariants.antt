use Rattle.std.specs.List.{flat_map}
use Rattle.io_streams.specs.Sink.{Wrote}
use Rattle.sem_query.specs.Cells.{upto}
use Rattle.fam_text.specs.Text.{member_text}
use Rattle.fam_text.proofs.Texts.{family_in}
use Rattle.fam_text.proofs.printing.write_members.Given as goal

-- the rows of the numbers so far were written
abbrev pub invariant-loop-i : goal.invariant-loop-i
invariant-loop-i g l = Wrote (g.O.Sink.seen l.fn.out) (g.O.Sink.seen l.out) (flat_map (member_text l.catalog (family_in l.stream l.m l.g)) (upto (λ i. i) l.i))
