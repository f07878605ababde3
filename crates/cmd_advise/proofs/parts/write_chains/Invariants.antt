use Rattle.std.proofs.Common.{take}
use Rattle.io_streams.specs.Sink.{Wrote}
use Rattle.std.specs.List.{flat_map}
use Rattle.cmd_advise.specs.Parts.{chain_line}
use Rattle.cmd_advise.proofs.parts.write_chains.Given as goal

-- the texts so far were written
abbrev pub invariant-loop-chain : goal.invariant-loop-chain
invariant-loop-chain g l = Wrote (g.O.Sink.seen l.fn.out) (g.O.Sink.seen l.out) (flat_map (chain_line l.names.catalog.now l.names.from.now l.part) (take l.chain-index l.chains))
