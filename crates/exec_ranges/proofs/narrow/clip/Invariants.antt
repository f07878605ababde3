use Rattle.sem_query.specs.Parts.{pairs}
use Rattle.std.proofs.Common.{◌≡◌, drop, length}
use Rattle.exec_ranges.specs.Values.{value_in}
use Rattle.exec_synopsis.specs.Narrowing.{clip}
use Rattle.exec_ranges.proofs.narrow.clip.Given as goal

abbrev pub invariant-links : goal.invariant-links
invariant-links l =
    clip l.at.arriving (length l.known) (drop l.link-index l.link-items) (value_in (pairs l.at.q.now) l.at.part.now l.at.arriving l.at.row.now.items l.known) l.left
    ≡ clip l.at.arriving (length l.known) l.at.part.now.less.items (value_in (pairs l.at.q.now) l.at.part.now l.at.arriving l.at.row.now.items l.known) l.fn.dim
