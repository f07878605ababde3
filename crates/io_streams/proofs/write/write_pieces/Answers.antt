use Rattle.std.proofs.Common.{[]}
use Rattle.io_streams.proofs.Writing.{BrokeOff-at}
use Rattle.io_streams.proofs.write.write_pieces.Goals as goal

pub returns-in-Err : goal.returns-in-Err
returns-in-Err g c = BrokeOff-at (λ p. p.now) c.args.pieces.now c.loop-piece.piece-index (record { ref_ptr = (0, 0); now = [] }) _ _ _ c.loop-piece-test.true c.loop-piece.invariant c.in-Err.ensures
