use Rattle.std.proofs.Common.{take}
use Rattle.io_streams.specs.Sink.{Wrote}
use Rattle.cert_format.specs.Text.{certificate_text}
use Rattle.cert_format.proofs.certificate.Certificate.print.Given as goal

-- the lines so far were written
abbrev pub invariant-loop-line : goal.invariant-loop-line
invariant-loop-line g l = Wrote (g.O.Sink.seen l.fn.out) (g.O.Sink.seen l.out) (certificate_text (take l.line-index l.line-items))
