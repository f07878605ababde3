use Rattle.std.proofs.Common.{◌≡◌, ◌≤◌, ◌++◌, drop, length}
use Rattle.sql_catalog.specs.Ends.{ends_from}
use Rattle.sql_catalog.proofs.columns.ends_of.Given as goal

-- the ends so far and those of the columns that are left are those of all
abbrev pub invariant-loop-place : goal.invariant-loop-place
invariant-loop-place l = record {
  told : l.ends.items ++ ends_from l.place (drop l.place l.columns) ≡ ends_from 0 l.columns;
  few : length l.ends.items ≤ l.place;
}
