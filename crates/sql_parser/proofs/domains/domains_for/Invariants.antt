use Rattle.std.proofs.Common.{◌≡◌, ◌≤◌, length, take}
use Rattle.sql_parser.specs.Resolution as names
use Rattle.sql_parser.proofs.domains.domains_for.Given as goal

abbrev pub invariant-loop-attr : goal.invariant-loop-attr
invariant-loop-attr l = record {
  are : l.domains.items ≡ names.domains_for l.catalog l.from (take l.attr-index l.attrs);
  few : length l.domains.items ≤ l.attr-index;
}
