use Rattle.sql_explain.proofs.Writers.{read_broke, read_wrote}
use Rattle.cmd_advise.specs.Parts.{chain_line}
use Rattle.cmd_advise.proofs.parts.write_chains.Goals as goal

pub returns-in_err-write_chain : goal.returns-in_err-write_chain
returns-in_err-write_chain g c = read_broke (chain_line c.args.names.now.catalog.now c.args.names.now.from.now c.args.part) c.args.chains.now c.loop-chain.chain-index c.chain-item.result c.from_residual.result _ _ _ c.chain-item.is c.from_residual.ensures.0 c.loop-chain-test.true c.loop-chain.invariant c.in_err-write_chain.ensures

pub loop-chain-preserved : goal.loop-chain-preserved
loop-chain-preserved g c = read_wrote (chain_line c.args.names.now.catalog.now c.args.names.now.from.now c.args.part) c.args.chains.now c.loop-chain.chain-index c.chain-item.result _ _ _ c.chain-item.is c.loop-chain-test.true c.loop-chain.invariant c.in_ok-write_chain.ensures
