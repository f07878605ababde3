use Rattle.std.proofs.Common.{take}
use Rattle.std.specs.List.{flat_map}
use Rattle.io_streams.specs.Sink.{Wrote}
use Rattle.cmd_advise_split.specs.Text.{choice_text}
use Rattle.cmd_advise_split.proofs.printing.write_choices.Given as goal

-- the choices so far were written
abbrev pub invariant-loop-told : goal.invariant-loop-told
invariant-loop-told g l = Wrote (g.O.Sink.seen l.fn.out) (g.O.Sink.seen l.out) (flat_map (choice_text l.catalog l.names) (take l.told-index l.list))
