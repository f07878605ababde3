use Rattle.std.proofs.Common.{◌≡◌, ◌≤◌, ◌++◌, length, suc}
use Rattle.std.specs.Option.{option_map, option_map_or}
use Rattle.sql_text.specs.Lines.{parts_behind}
use Rattle.cert_format.specs.Spelling.{numbers_of}
use Rattle.cert_format.proofs.reading.read_numbers.Given as goal

-- the numbers so far and those of the words that are left are those of all words
abbrev pub invariant-loop-rest : goal.invariant-loop-rest
invariant-loop-rest g l = record {
  told : numbers_of (parts_behind 32 l.text) ≡ option_map (λ ns. l.numbers.items ++ ns) (numbers_of (parts_behind 32 l.rest));
  few : length l.numbers.items ≤ g.row.MOST;
}

abbrev pub decreases-loop-rest : goal.decreases-loop-rest
decreases-loop-rest g l = option_map_or (λ r. suc (length r.now)) l.rest 0
