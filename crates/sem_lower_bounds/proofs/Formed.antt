-- What the laws on refused queries need of a query: FROM names some stream and none twice, and each column is one of a stream of FROM.
use Rattle.std.proofs.Common.{◌≢◌, ◌<◌, length, AllPairs}
use Rattle.std.specs.Prelude.{All}
use Rattle.std.proofs.lemmas.List.Elements.{All-contains}
use Rattle.sem_query.proofs.Has.{Has, Has-from_contains, Contains-from_has}
use Rattle.sem_query.specs.declared.atom.Domain.{Domain}
use Rattle.sem_query.specs.Query.{QueryValue, IsColumn, IsWithinLimits, attrs_of}
use Rattle.sem_laws.proofs.Queries.{IsQuery, query_within}

pub record IsFormed (q : QueryValue) : Type 0 where
  pub some : 0 < length q.from
  pub different : AllPairs (λ s t. s ≢ t) q.from
  pub select : All (IsColumn (length q.from)) q.select
  pub attrs : All (IsColumn (length q.from)) (attrs_of q.atoms)
  pub placed : (d : Domain) → Has q.domains d → d.attr.stream < length q.from

pub query_formed : (q : QueryValue) → IsFormed q → IsQuery q
query_formed q w = record {
  some = w.some;
  once = w.different;
  select = λ a h. (All-contains (IsColumn (length q.from)) q.select a w.select h).stream;
  atoms = λ a h. (All-contains (IsColumn (length q.from)) (attrs_of q.atoms) a w.attrs h).stream;
  domains = λ d h. w.placed d (Has-from_contains q.domains d h);
}

-- a query within the limits is so
pub formed : (q : QueryValue) → IsWithinLimits q → IsFormed q
formed q w = record {
  some = w.streams.0;
  different = w.different;
  select = w.select;
  attrs = w.attrs;
  placed = λ d i. (query_within q w).domains d (Contains-from_has q.domains d i);
}
