use Rattle.std.proofs.Common.{◌≡◌, ℕ, ◌<◌, false, get_or}
use Rattle.sem_query.specs.declared.atom.Attr.{Attr}
use Rattle.sem_query.specs.Query.{attr_eq}
use Rattle.sem_query.proofs.atom.column_among.Given as goal

abbrev pub invariant-loop-i : goal.invariant-loop-i
invariant-loop-i l = record {
  others : (k : ℕ) (d : Attr) → k < l.i → attr_eq (get_or l.attrs k d) l.attr ≡ false;
}
