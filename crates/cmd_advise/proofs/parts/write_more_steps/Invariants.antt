use Rattle.std.proofs.Common.{take}
use Rattle.io_streams.specs.Sink.{Wrote}
use Rattle.std.specs.List.{flat_map}
use Rattle.cmd_advise.specs.Parts.{next_step}
use Rattle.cmd_advise.proofs.parts.write_more_steps.Given as goal

-- the texts so far were written
abbrev pub invariant-loop-step : goal.invariant-loop-step
invariant-loop-step g l = Wrote (g.O.Sink.seen l.fn.out) (g.O.Sink.seen l.out) (flat_map (next_step l.names.catalog.now l.names.from.now) (take l.step-index l.steps))
