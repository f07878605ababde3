use Rattle.std.proofs.Common.{[], ◌∷◌, ◌++◌, refl}
use Rattle.cert_checker.proofs.Lines.{path_ahead, node_ahead, none_ahead}
use Rattle.cert_checker.proofs.Paths.{start_table, read_more, read_none, read_all, split_more, split_at}
use Rattle.cert_checker.proofs.bounds.bounds_of.Goals as goal

pub loop-line-init : goal.loop-line-init
loop-line-init c = record { done = []; split = refl; read = start_table c.args.attrs c.args.cs.now }

pub returns-in_err-first : goal.returns-in_err-first
returns-in_err-first c =
    let rest = path_ahead c.args.lines.now c.loop-line.line-index c.line-item.result c.in-Path.path c.loop-line-test.true c.line-item.is c.in-Path.is in
    let split = split_at _ c.loop-line.invariant.done _ _ c.loop-line.invariant.split rest in
    rw c.from_residual.ensures (read_none c.args.attrs c.args.cs.now _ c.loop-line.invariant.done c.in-Path.path _ c.loop-line.first c.loop-line.bounds c.loop-line.bounds c.add_path.new.bounds c.requires.attrs c.loop-line.invariant.read split c.in_err-first.ensures)

pub loop-line-preserved : goal.loop-line-preserved
loop-line-preserved c =
    let rest = path_ahead c.args.lines.now c.loop-line.line-index c.line-item.result c.in-Path.path c.loop-line-test.true c.line-item.is c.in-Path.is in
    record {
      done = c.loop-line.invariant.done ++ c.in-Path.path ∷ [];
      split = split_more _ c.loop-line.invariant.done _ _ c.in-Path.path c.loop-line.invariant.split rest;
      read = read_more c.args.attrs c.args.cs.now c.loop-line.invariant.done c.in-Path.path c.loop-line.first c.in_ok-first.first c.loop-line.bounds c.add_path.new.bounds c.requires.attrs c.loop-line.invariant.read c.in_ok-first.ensures;
    }

pub returns-in_default : goal.returns-in_default
returns-in_default c =
    read_all c.args.attrs c.args.cs.now _ c.loop-line.invariant.done c.loop-line.first c.loop-line.bounds c.loop-line.invariant.read
    (split_at _ c.loop-line.invariant.done _ _ c.loop-line.invariant.split (node_ahead c.args.lines.now c.loop-line.line-index c.line-item.result c.loop-line-test.true c.line-item.is c.in_default.not-Path))

pub returns : goal.returns
returns c =
    read_all c.args.attrs c.args.cs.now _ c.loop-line.invariant.done c.loop-line.first c.loop-line.bounds c.loop-line.invariant.read
    (split_at _ c.loop-line.invariant.done _ _ c.loop-line.invariant.split (none_ahead c.args.lines.now c.loop-line.line-index c.loop-line-test.false))
