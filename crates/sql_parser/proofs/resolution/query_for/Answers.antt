use Rattle.std.proofs.Common.{◌≡◌, ℕ, List, length, map, get_or, All, ap, ap₂, sym, ◌∙◌, subst, arith}
use Rattle.std.proofs.lemmas.List.Elements.{Contains-get_or}
use Rattle.sem_query.specs.declared.atom.Attr.{Attr}
use Rattle.sem_query.specs.declared.atom.Atom.{Atom}
use Rattle.sem_query.specs.Query.{QueryValue, attrs_of}
use Rattle.sem_query.proofs.Has.{Has-from_contains}
use Rattle.sql_parser.specs.Resolution.{number_for, attr_for, atom_for, named_attrs, query_for, IsColumnOf}
use Rattle.sql_parser.proofs.NamedAttrs.{all_there}
use Rattle.sql_parser.proofs.QueryDomains.{few_named}
use Rattle.sql_parser.proofs.resolution.query_for.Goals as goal

pub named_attrs-named-requires : goal.named_attrs-named-requires
named_attrs-named-requires c =
    let streams = c.args.catalog.now in
    let s = c.args.select.now in
    let q : QueryValue = query_for streams s in
    let selected : c.as_slice-3.result.now ≡ q.select =
    c.as_slice-3.ensures.value ∙ c.attrs_for-attrs.ensures ∙ ap (λ (f : List (List ℕ)). map (attr_for streams f) c.as_slice.result.now) c.as_slice-from.ensures.value ∙ ap (map (attr_for streams s.from.items)) c.as_slice.ensures.value in
    let compared : c.as_slice-4.result.now ≡ q.atoms =
    c.as_slice-4.ensures.value ∙ c.atoms_for-atoms.ensures ∙ ap (λ (f : List (List ℕ)). map (atom_for streams f) c.as_slice-2.result.now) c.as_slice-from.ensures.value ∙ ap (map (atom_for streams s.from.items)) c.as_slice-2.ensures.value in
    omega (arith, few_named c.as_slice-3.result.now c.as_slice-4.result.now, ap length selected, ap (λ (ts : List Atom). length (attrs_of ts)) compared, c.requires.within.selected.1, c.requires.within.few_attrs)

pub domains_for-domains-requires-clause-columns : goal.domains_for-domains-requires-clause-columns
domains_for-domains-requires-clause-columns c =
    let streams = c.args.catalog.now in
    let s = c.args.select.now in
    let q : QueryValue = query_for streams s in
    let selected : c.as_slice-3.result.now ≡ q.select =
    c.as_slice-3.ensures.value ∙ c.attrs_for-attrs.ensures ∙ ap (λ (f : List (List ℕ)). map (attr_for streams f) c.as_slice.result.now) c.as_slice-from.ensures.value ∙ ap (map (attr_for streams s.from.items)) c.as_slice.ensures.value in
    let compared : c.as_slice-4.result.now ≡ q.atoms =
    c.as_slice-4.ensures.value ∙ c.atoms_for-atoms.ensures ∙ ap (λ (f : List (List ℕ)). map (atom_for streams f) c.as_slice-2.result.now) c.as_slice-from.ensures.value ∙ ap (map (atom_for streams s.from.items)) c.as_slice-2.ensures.value in
    let named : c.as_slice-5.result.now ≡ named_attrs q.select q.atoms = c.as_slice-5.ensures.value ∙ c.named_attrs-named.ensures ∙ ap₂ named_attrs selected compared in
    let from : c.as_slice-6.result.now ≡ q.from = c.as_slice-6.ensures.value ∙ c.numbers_for-numbers.ensures ∙ ap (map (number_for streams)) c.as_slice-from.ensures.value in
    let attrs : List Attr = named_attrs q.select q.atoms in
    let there : All (IsColumnOf streams q.from) attrs = λ k d inside. all_there streams q.from q.select q.atoms c.requires.named.select c.requires.named.atoms (get_or attrs k d) (Has-from_contains attrs (get_or attrs k d) (Contains-get_or attrs k d inside)) in
    subst (λ (l : List Attr). All (IsColumnOf streams c.as_slice-6.result.now) l) (sym named) (subst (λ (f : List ℕ). All (IsColumnOf streams f) attrs) (sym from) there)
