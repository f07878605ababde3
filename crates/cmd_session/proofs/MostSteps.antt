-- Bounds for the cells of a line, whatever its kind is.
use Rattle.std.proofs.Common.{ℕ, ◌+◌, ◌≤◌, List, arith}
use Rattle.std.proofs.Math.Nat.{le-max_left, le-max_right, max-le}
use Rattle.exec_pool.specs.Counted.{StepsValue}
use Rattle.sql_parser.specs.declared.line.LineKind.{LineKind}
use Rattle.sql_parser.specs.declared.line.LineKind.TheVariants as kinds
use Rattle.exec_registry.specs.Live.{Live, LiveQuery, announced_reads, announced_writes, announced_cells}
use Rattle.exec_registry.specs.Registry.{RegistryValue, most_reads, most_writes, most_cells}
use Rattle.exec_registry.specs.Registry as registry
use Rattle.cmd_session.specs.Session.{line_reads, line_writes, most_line_reads, most_line_writes, most_announced_reads, most_announced_writes, TakesCells}
use Rattle.cmd_session.proofs.Resumed.{reads_at_most, writes_at_most}

pub any_reads : (kind : LineKind) (live : List Live) → line_reads kind live ≤ most_line_reads live
any_reads kinds.Nothing live = omega arith
any_reads kinds.RowLine live = le-max_left (most_reads live) (most_cells live)
any_reads kinds.StatementLine live = le-max_right (most_reads live) (most_cells live)

pub any_writes : (kind : LineKind) (live : List Live) → line_writes kind live ≤ most_line_writes live
any_writes kinds.Nothing live = omega arith
any_writes kinds.RowLine live = le-max_left (most_writes live) (most_cells live)
any_writes kinds.StatementLine live = le-max_right (most_writes live) (most_cells live)

-- a row takes no more cells than a line may
pub row_takes : (live : List Live) (old new : StepsValue) → new.reads ≤ old.reads + most_reads live → new.writes ≤ old.writes + most_writes live → TakesCells live old new
row_takes live old new reads writes = (omega (arith, reads, le-max_left (most_reads live) (most_cells live)), omega (arith, writes, le-max_left (most_writes live) (most_cells live)))

-- a bound by what is kept is one by the live queries
pub told_reads : (r : RegistryValue) (queries : List LiveQuery) (new old : ℕ) → registry.StandsFor r queries → new ≤ old + most_line_reads r.live → new ≤ old + most_announced_reads queries
told_reads r queries new old all most =
    let row = reads_at_most kinds.RowLine r.pool r.live queries (most_reads r.live) 0 all (omega arith) in
    let statement = reads_at_most kinds.StatementLine r.pool r.live queries (most_cells r.live) 0 all (omega arith) in
    let left = le-max_left (announced_reads queries) (announced_cells queries) in
    let right = le-max_right (announced_reads queries) (announced_cells queries) in
    let whole : most_line_reads r.live ≤ most_announced_reads queries = max-le (omega (arith, row, left)) (omega (arith, statement, right)) in
    omega (arith, most, whole)

pub told_writes : (r : RegistryValue) (queries : List LiveQuery) (new old : ℕ) → registry.StandsFor r queries → new ≤ old + most_line_writes r.live → new ≤ old + most_announced_writes queries
told_writes r queries new old all most =
    let row = writes_at_most kinds.RowLine r.pool r.live queries (most_writes r.live) 0 all (omega arith) in
    let statement = writes_at_most kinds.StatementLine r.pool r.live queries (most_cells r.live) 0 all (omega arith) in
    let left = le-max_left (announced_writes queries) (announced_cells queries) in
    let right = le-max_right (announced_writes queries) (announced_cells queries) in
    let whole : most_line_writes r.live ≤ most_announced_writes queries = max-le (omega (arith, row, left)) (omega (arith, statement, right)) in
    omega (arith, most, whole)
