-- What holds of the domains of columns, and of the values of rows in them.
use Rattle.std.proofs.Common.{◌≡◌, ℕ, zero, suc, ◌+◌, ◌<◌, ◌≤◌, Bool, true, false, ◌&&◌, ℤ, pos, ◌+ℤ◌, ◌-ℤ◌, ◌≤ℤ◌, List, [], ◌∷◌, ◌++◌, length, get_or, Option, Some, None, refl, ap, sym, ◌∙◌, subst, arith, append_assoc, length-append}
use Rattle.std.specs.Prelude.{nat_abs}
use Rattle.std.specs.List.{list_all, AllByRecursion}
use Rattle.std.proofs.lemmas.Int.{ints}
use Rattle.std.proofs.lemmas.List.Elements.{recursion_from_All}
use Rattle.sem_query.specs.Meaning.{by_column}
use Rattle.sql_catalog.specs.declared.column.ColumnDef.{ColumnDef}
use Rattle.sql_catalog.specs.declared.columns.ColumnEnds.{ColumnEnds}
use Rattle.sql_catalog.specs.Streams.{Shape, IsShape, IsCatalog, AreEnds, HasEnds, no_column, shape_at, domain_at, lies_within, lie_within}
use Rattle.sql_catalog.specs.Ends.{ends_at, ends_from, greatest, is_between}

-- what holds of each and of what stands for none holds at each place
at_place : {X : Type 0} (P : X → Type 0) (xs : List X) (d : X) → AllByRecursion P xs → P d → (n : ℕ) → P (get_or xs n d)
at_place P [] d h none n = none
at_place P (x ∷ xs) d h none zero = h.0
at_place P (x ∷ xs) d h none (suc n) = at_place P xs d h.1 none n

-- the domains of the columns of one stream
abbrev DomainsOf : Shape → Type 0
DomainsOf s = AllByRecursion (λ c. HasEnds c.domain) s.columns

domains_of : (streams : List Shape) → AllByRecursion IsShape streams → AllByRecursion DomainsOf streams
domains_of [] h = tt
domains_of (s ∷ streams) h = (recursion_from_All (λ c. HasEnds c.domain) s.columns h.0.domains, domains_of streams h.1)

-- each domain of a catalog has ends
pub domain_has_ends : (streams : List Shape) → IsCatalog streams → (stream column : ℕ) → HasEnds (domain_at streams stream column)
domain_has_ends streams is stream column =
    let shape : DomainsOf (shape_at streams stream) = at_place DomainsOf streams (record { name = []; columns = [] }) (domains_of streams (recursion_from_All IsShape streams is.shapes)) tt stream in
    at_place (λ c. HasEnds c.domain) (shape_at streams stream).columns no_column shape tt column

and_left : (p q : Bool) → (p && q) ≡ true → p ≡ true
and_left true q h = refl
and_left false q h = h

and_right : (p q : Bool) → (p && q) ≡ true → q ≡ true
and_right true q h = h
and_right false q h = let e : false ≡ true = h in cc

-- where the values lie in the domains, that of each column does
pub each_within : (columns : List ColumnDef) (values : List ℤ) → lie_within columns values ≡ true → (column : ℕ) → lies_within (get_or columns column no_column).domain (by_column values column) ≡ true
each_within [] values h column = refl
each_within (c ∷ columns) [] h column = let e : false ≡ true = h in cc
each_within (c ∷ columns) (v ∷ values) h zero = and_left (lies_within c.domain v) (lie_within columns values) h
each_within (c ∷ columns) (v ∷ values) h (suc column) = each_within columns values (and_right (lies_within c.domain v) (lie_within columns values) h) column

-- the value behind some others
behind : (front : List ℤ) (v : ℤ) (values : List ℤ) (n : ℕ) → length front ≡ n → by_column (front ++ v ∷ values) n ≡ v
behind [] v values zero e = refl
behind [] v values (suc n) e = absurd (omega (arith, e))
behind (x ∷ front) v values zero e = absurd (omega (arith, e))
behind (x ∷ front) v values (suc n) e = behind front v values n (omega (arith, e))

-- the greatest value between the ends of a domain
greatest_is : (lo hi : ℤ) → lo ≤ℤ hi → (lo +ℤ pos (nat_abs (hi -ℤ lo))) ≡ hi
greatest_is lo hi p = omega (arith, ints)

one_between : (all : List ℤ) (place : ℕ) (v : ℤ) (domain : Option (ℤ × ℤ)) → HasEnds domain → by_column all place ≡ v → list_all (is_between all) (ends_at place domain) ≡ lies_within domain v
one_between all place v None h e = refl
one_between all place v (Some ends) h e =
    ap (λ z. lies_within (Some (ends.0, ends.0 +ℤ pos (nat_abs (ends.1 -ℤ ends.0)))) z && true) e
    ∙ ap (λ hi. lies_within (Some (ends.0, hi)) v && true) (greatest_is ends.0 ends.1 h.some)
    ∙ and_true (lies_within (Some ends) v)
  where
    and_true : (b : Bool) → (b && true) ≡ b
    and_true true = refl
    and_true false = refl

ends_append : (all : List ℤ) (place : ℕ) (domain : Option (ℤ × ℤ)) (columns : List ColumnDef)
    → list_all (is_between all) (ends_at place domain ++ ends_from (suc place) columns) ≡ (list_all (is_between all) (ends_at place domain) && list_all (is_between all) (ends_from (suc place) columns))
ends_append all place None columns = refl
ends_append all place (Some ends) columns = one (is_between all (record { column = place; lo = ends.0; width = nat_abs (ends.1 -ℤ ends.0) })) (list_all (is_between all) (ends_from (suc place) columns))
  where
    one : (b c : Bool) → (b && c) ≡ ((b && true) && c)
    one true c = refl
    one false c = refl

-- the values whose columns have ends lie between them just where all values lie in the domains
pub between_within : (front : List ℤ) (columns : List ColumnDef) (values : List ℤ) (place : ℕ) → AllByRecursion (λ c. HasEnds c.domain) columns → length front ≡ place → length values ≡ length columns
    → list_all (is_between (front ++ values)) (ends_from place columns) ≡ lie_within columns values
between_within front [] [] place h e same = refl
between_within front [] (v ∷ values) place h e same = absurd (omega (arith, same))
between_within front (c ∷ columns) [] place h e same = absurd (omega (arith, same))
between_within front (c ∷ columns) (v ∷ values) place h e same =
    let all : List ℤ = front ++ v ∷ values in
    let moved : (front ++ v ∷ []) ++ values ≡ all = append_assoc front (v ∷ []) values in
    let rest : list_all (is_between all) (ends_from (suc place) columns) ≡ lie_within columns values =
    ap (λ (l : List ℤ). list_all (is_between l) (ends_from (suc place) columns)) (sym moved)
    ∙ between_within (front ++ v ∷ []) columns values (suc place) h.1 (omega (arith, length-append front (v ∷ []), e)) (omega (arith, same)) in
    ends_append all place c.domain columns
    ∙ ap (λ b. b && list_all (is_between all) (ends_from (suc place) columns)) (one_between all place v c.domain h.0 (behind front v values place e))
    ∙ ap (λ b. lies_within c.domain v && b) rest

-- the columns with ends are those of the list
ends_with : (place most : ℕ) (domain : Option (ℤ × ℤ)) (all : List ColumnEnds) → place < most → AllByRecursion (λ (e : ColumnEnds). e.column < most) all → AllByRecursion (λ (e : ColumnEnds). e.column < most) (ends_at place domain ++ all)
ends_with place most None all below h = h
ends_with place most (Some ends) all below h = (below, h)

pub ends_below : (columns : List ColumnDef) (place most : ℕ) → place + length columns ≤ most → AllByRecursion (λ (e : ColumnEnds). e.column < most) (ends_from place columns)
ends_below [] place most room = tt
ends_below (c ∷ columns) place most room = ends_with place most c.domain (ends_from (suc place) columns) (omega (arith, room)) (ends_below columns (suc place) most (omega (arith, room)))

-- the ends of a domain are ends with the greatest value as the second
short_with : (place : ℕ) (domain : Option (ℤ × ℤ)) (all : List ColumnEnds) → HasEnds domain → AllByRecursion (λ (e : ColumnEnds). AreEnds e.lo (greatest e)) all → AllByRecursion (λ (e : ColumnEnds). AreEnds e.lo (greatest e)) (ends_at place domain ++ all)
short_with place None all is h = h
short_with place (Some ends) all is h = (subst (AreEnds ends.0) (sym (greatest_is ends.0 ends.1 is.some)) is, h)

pub ends_short : (columns : List ColumnDef) (place : ℕ) → AllByRecursion (λ c. HasEnds c.domain) columns → AllByRecursion (λ (e : ColumnEnds). AreEnds e.lo (greatest e)) (ends_from place columns)
ends_short [] place h = tt
ends_short (c ∷ columns) place h = short_with place c.domain (ends_from (suc place) columns) h.0 (ends_short columns (suc place) h.1)
