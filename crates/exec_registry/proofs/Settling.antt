-- What is true of an executor stays where what waits is written or given up.
use Rattle.std.proofs.Common.{◌≡◌, ℤ, List, [], ◌∷◌, refl, sym, ap, subst, arith, Contains, All}
use Rattle.std.proofs.lemmas.List.{length-map}
use Rattle.exec_answer_table.specs.Entries.{Entry, entry_of, settled, tuples_of}
use Rattle.exec_answer_table.proofs.Changed.{ascends_settled}
use Rattle.sem_query.specs.Ranges.{all_tuples}
use Rattle.exec_query.specs.Executor.{ExecutorValue, parts_in, with_given, IsSound}

settled_tuples : (es : List Entry) → tuples_of (settled es) ≡ tuples_of es
settled_tuples [] = refl
settled_tuples (e ∷ es) = ap (λ (ts : List (List ℤ)). e.tuple ∷ ts) (settled_tuples es)

pub settled_sound : (e : ExecutorValue) → IsSound e → IsSound (with_given e e.given (settled e.table.entries))
settled_sound e s = record {
  limits = s.limits;
  accepted = s.accepted;
  pages = s.pages;
  width = s.width;
  capacity = s.capacity;
  entries = (let n = length-map e.table.entries (λ (x : Entry). entry_of x.tuple 0) in let m = s.entries in omega (arith, n, m));
  given = s.given;
  ascends = ascends_settled e.table.entries s.ascends;
  tuples = λ d. subst (λ (ts : List (List ℤ)). All (Contains (all_tuples e.query (parts_in e))) ts) (sym (settled_tuples e.table.entries)) (s.tuples d);
}
