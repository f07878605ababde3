use Rattle.std.proofs.Common.{◌≡◌, drop}
use Rattle.sem_query.specs.Meaning.{by_column}
use Rattle.exec_synopsis.specs.Narrowing.{clip}
use Rattle.exec_join.proofs.beside.clip.Given as goal

abbrev pub invariant-links : goal.invariant-links
invariant-links l =
    clip l.arriving 0 (drop l.link-index l.links) (λ a. by_column l.row a.column) l.left
    ≡ clip l.arriving 0 l.links (λ a. by_column l.row a.column) l.fn.dim
