-- What the laws need of a query: FROM names a stream once, and each column is of a stream of FROM.
use Rattle.std.proofs.Common.{◌≢◌, ◌<◌, inl, inr, length, Contains, AllPairs}
use Rattle.std.proofs.lemmas.List.Elements.{All-contains}
use Rattle.sem_query.specs.declared.atom.Attr.{Attr}
use Rattle.sem_query.specs.declared.atom.Domain.{Domain}
use Rattle.sem_query.specs.Query.{QueryValue, attrs_of, IsColumn, IsDomain, IsWithinLimits}

pub record IsQuery (q : QueryValue) : Type 0 where
  pub some : 0 < length q.from
  pub once : AllPairs (λ x y. x ≢ y) q.from
  pub select : (a : Attr) → Contains q.select a → a.stream < length q.from
  pub atoms : (a : Attr) → Contains (attrs_of q.atoms) a → a.stream < length q.from
  pub domains : (d : Domain) → Contains q.domains d → d.attr.stream < length q.from

pub query_within : (q : QueryValue) → IsWithinLimits q → IsQuery q
query_within q w = record {
  some = w.streams.0;
  once = w.different;
  select = of_select;
  atoms = of_atoms;
  domains = λ d h. elim (All-contains (IsDomain q) q.domains d w.domains h).column [ inl i ↦ of_atoms d.attr i | inr i ↦ of_select d.attr i ];
}
  where
    of_select : (a : Attr) → Contains q.select a → a.stream < length q.from
    of_select a h = (All-contains (IsColumn (length q.from)) q.select a w.select h).stream

    of_atoms : (a : Attr) → Contains (attrs_of q.atoms) a → a.stream < length q.from
    of_atoms a h = (All-contains (IsColumn (length q.from)) (attrs_of q.atoms) a w.attrs h).stream
