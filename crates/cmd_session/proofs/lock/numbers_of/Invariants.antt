use Rattle.std.proofs.Common.{◌≡◌, ◌++◌, ◌≤◌, List, ℕ, drop, length, Some}
use Rattle.std.specs.Option.{option_map}
use Rattle.cmd_session.specs.Requests.{numbers_of}
use Rattle.cmd_session.proofs.lock.numbers_of.Given as goal

abbrev pub invariant-loop-name : goal.invariant-loop-name
invariant-loop-name l = record {
  found : List ℕ;
  are : l.opened ≡ Some found;
  few : length found ≤ l.name-index;
  whole : numbers_of l.catalog l.names ≡ option_map (λ (more : List ℕ). found ++ more) (numbers_of l.catalog (drop l.name-index l.names));
}
