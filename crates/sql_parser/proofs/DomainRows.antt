-- A row of a stream whose values lie in the domains of its columns keeps to the domains of each query that is named.
use Rattle.std.proofs.Common.{◌≡◌, ℕ, ℤ, Bool, true, false, not, ◌&&◌, ◌||◌, nat_eq, List, [], ◌∷◌, get_or, Option, Some, None, refl, sym, ◌∙◌, subst, arith}
use Rattle.std.specs.List.{list_all}
use Rattle.std.proofs.lemmas.Bool.Decides.{nat_tests}
use Rattle.std.proofs.lemmas.List.Folds.{list_all-append}
use Rattle.sem_query.specs.declared.atom.Attr.{Attr}
use Rattle.sem_query.specs.declared.atom.Domain.{Domain}
use Rattle.sem_query.specs.Assignment.{lies_in}
use Rattle.sem_query.specs.Meaning.{by_column}
use Rattle.sql_catalog.specs.Streams.{Shape, domain_at, lies_within, KeepsDomains}
use Rattle.sql_parser.specs.Resolution.{named_attrs, domain_with, domain_for, domains_for}
use Rattle.sql_parser.specs.Laws.{RowsKeepDomains}

-- the value of a domain's column lies in it, where the column is of the stream at this place
abbrev keeps : ℕ → (ℕ → ℤ) → Domain → Bool
keeps place v d = not (nat_eq d.attr.stream place) || lies_in d (v d.attr.column)

both : (p q : Bool) → p ≡ true → q ≡ true → (p && q) ≡ true
both true q h k = k
both false q h k = h

same_place : (n m : ℕ) → nat_eq n m ≡ true → n ≡ m
same_place n m h = grind (arith, nat_tests)

elsewhere : (b c : Bool) → (b ≡ true → c ≡ true) → (not b || c) ≡ true
elsewhere true c f = f refl
elsewhere false c f = refl

keeps_with : (place : ℕ) (v : ℕ → ℤ) (a : Attr) (domain : Option (ℤ × ℤ)) → (a.stream ≡ place → lies_within domain (v a.column) ≡ true) → list_all (keeps place v) (domain_with a domain) ≡ true
keeps_with place v a None f = refl
keeps_with place v a (Some ends) f =
    both (keeps place v (record { attr = a; lo = ends.0; hi = ends.1 })) true
    (elsewhere (nat_eq a.stream place) (lies_within (Some ends) (v a.column)) (λ e. f (same_place a.stream place e))) refl

keeps_all : (streams : List Shape) (from : List ℕ) (place : ℕ) (values : List ℤ) (attrs : List Attr) → KeepsDomains streams (get_or from place 0) values → list_all (keeps place (by_column values)) (domains_for streams from attrs) ≡ true
keeps_all streams from place values [] h = refl
keeps_all streams from place values (a ∷ attrs) h =
    let here : a.stream ≡ place → lies_within (domain_for streams from a) (by_column values a.column) ≡ true = λ e.
    subst (λ n. lies_within (domain_at streams (get_or from n 0) a.column) (by_column values a.column) ≡ true) (sym e) (h a.column) in
    list_all-append (keeps place (by_column values)) (domain_with a (domain_for streams from a)) (domains_for streams from attrs)
    ∙ both (list_all (keeps place (by_column values)) (domain_with a (domain_for streams from a))) _ (keeps_with place (by_column values) a (domain_for streams from a) here)
    (keeps_all streams from place values attrs h)

pub rows_keep_domains : RowsKeepDomains
rows_keep_domains streams q r there keep place inside is =
    let at_place : KeepsDomains streams (get_or q.from place 0) r.values = subst (λ n. KeepsDomains streams n r.values) (sym is) keep in
    subst (λ (ds : List Domain). list_all (keeps place (by_column r.values)) ds ≡ true) (sym there.domains) (keeps_all streams q.from place r.values (named_attrs q.select q.atoms) at_place)
