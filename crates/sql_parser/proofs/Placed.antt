-- The streams and columns of a resolved query are there, also after more streams were added.
use Rattle.std.proofs.Common.{◌≡◌, ℕ, zero, suc, ◌<◌, Bool, true, false, cond, nat_lt, List, [], ◌∷◌, ◌++◌, length, map, get_or, Option, Some, None, is_some, unwrap_or, option_and_then, ap, sym, ◌∙◌, subst, arith, refl}
use Rattle.std.specs.List.{list_all, All, AllByRecursion}
use Rattle.std.specs.Str.{bytes_eq}
use Rattle.std.proofs.lemmas.List.{get_or-map, length-map}
use Rattle.std.proofs.lemmas.List.Elements.{All-from_recursion, All-get_or, All-map, recursion_from_All}
use Rattle.std.proofs.lemmas.List.Quantifiers.{position-Some}
use Rattle.sem_query.specs.declared.atom.Attr.{Attr}
use Rattle.sem_query.specs.declared.atom.Element.{Element}
use Rattle.sem_query.specs.declared.atom.Element.TheVariants as element
use Rattle.sem_query.specs.declared.atom.Atom.{Atom}
use Rattle.sem_query.specs.Query.{QueryValue}
use Rattle.sem_query.proofs.Has.{Has, first, later}
use Rattle.sql_catalog.specs.Streams.{Shape, is_duplicate, with_stream, stream_number, column_place, no_column, shape_at}
use Rattle.sql_parser.specs.declared.tree.ColumnAst.{ColumnAst}
use Rattle.sql_parser.specs.declared.tree.OperandAst.{OperandAst}
use Rattle.sql_parser.specs.declared.tree.OperandAst.TheVariants.{Column, Integer}
use Rattle.sql_parser.specs.declared.tree.AtomAst.{AtomAst}
use Rattle.sql_parser.specs.declared.tree.SelectAst.{SelectAst}
use Rattle.sql_parser.specs.Limits.{column_in, columns_in}
use Rattle.sql_parser.specs.Resolution.{named_columns, place_in, place_under, number_for, has_streams, has_columns, attr_for, element_for, atom_for, query_for, named_attrs, domain_with, domain_for, domains_for, IsColumnOf, HasSide, HasSides, HasNamed}
use Rattle.sql_parser.specs.Laws.{StaysNamed}
use Rattle.sql_parser.proofs.NamedAttrs.{all_there}
use Rattle.sql_parser.proofs.Said.{all_left, all_right}
use Rattle.sql_parser.proofs.Taken.{same_names, both_left, both_right, some_is, known}

-- the stream of no name and no columns
abbrev nothing : Shape
nothing = record { name = []; columns = [] }

module _ (streams : List Shape) (from : List (List ℕ)) where
  -- the streams of FROM
  abbrev numbers : List ℕ
  numbers = map (number_for streams) from

  abbrev IsThere : ColumnAst → Type 0
  IsThere c = IsColumnOf streams numbers (attr_for streams from c)

  stream_there : (name : List ℕ) → is_some (stream_number streams name) ≡ true → number_for streams name < length streams
  stream_there name h = (position-Some (λ s. bytes_eq s.name name) streams (number_for streams name) nothing (some_is (stream_number streams name) h)).0

  streams_there : (names : List (List ℕ)) → known streams names ≡ true → AllByRecursion (λ name. number_for streams name < length streams) names
  streams_there [] h = tt
  streams_there (name ∷ names) h = (stream_there name (both_left _ _ h), streams_there names (both_right (is_some (stream_number streams name)) _ h))

  place_inside : (c : ColumnAst) (o : Option ℕ) (k : ℕ) → option_and_then (λ n. column_place (shape_at streams n).columns c.column) o ≡ Some k → k < length (shape_at streams (unwrap_or o 0)).columns
  place_inside c None k h = cc
  place_inside c (Some n) k h = (position-Some (λ d. bytes_eq d.name c.column) (shape_at streams n).columns k no_column h).0

  column_there : (c : ColumnAst) → is_some (place_in from c) ≡ true → is_some (place_under streams c) ≡ true → IsThere c
  column_there c h k =
      let i : ℕ = unwrap_or (place_in from c) 0 in
      let place : ℕ = unwrap_or (place_under streams c) 0 in
      let found = position-Some (λ name. bytes_eq name c.stream) from i [] (some_is (place_in from c) h) in
      let number : get_or numbers i 0 ≡ number_for streams c.stream = get_or-map (number_for streams) from i [] 0 found.0 ∙ ap (number_for streams) (same_names _ _ found.1) in
      let inside : place < length (shape_at streams (number_for streams c.stream)).columns = place_inside c (stream_number streams c.stream) place (some_is (place_under streams c) k) in
      let P : ℕ → Type 0 = λ n. place < length (shape_at streams n).columns in
      record {
        stream = omega (arith, length-map from (number_for streams), found.0);
        column = subst P (sym number) inside;
      }

  columns_there : (cs : List ColumnAst) → list_all (λ c. is_some (place_in from c)) cs ≡ true → list_all (λ c. is_some (place_under streams c)) cs ≡ true → AllByRecursion IsThere cs
  columns_there [] h k = tt
  columns_there (c ∷ cs) h k = (
    column_there c (both_left (is_some (place_in from c)) _ h) (both_left (is_some (place_under streams c)) _ k),
    columns_there cs (both_right (is_some (place_in from c)) _ h) (both_right (is_some (place_under streams c)) _ k),
  )

  side_there : (o : OperandAst) → AllByRecursion IsThere (column_in o) → HasSide streams numbers (element_for streams from o)
  side_there (Column c) h = h.0
  side_there (Integer z) h = tt

  sides_there : (atoms : List AtomAst) → AllByRecursion IsThere (columns_in atoms) → AllByRecursion (λ a. HasSides streams numbers (atom_for streams from a)) atoms
  sides_there [] h = tt
  sides_there (a ∷ atoms) h =
      let here = all_left IsThere (column_in a.left ++ column_in a.right) (columns_in atoms) h in (
        (side_there a.left (all_left IsThere (column_in a.left) (column_in a.right) here), side_there a.right (all_right IsThere (column_in a.left) (column_in a.right) here)),
        sides_there atoms (all_right IsThere (column_in a.left ++ column_in a.right) (columns_in atoms) h),
      )

-- what a query with its names there is made of is there
pub has_named : (streams : List Shape) (s : SelectAst) → has_streams streams s ≡ true → has_columns streams s ≡ true → HasNamed streams (query_for streams s)
has_named streams s h k =
    let from = s.from.items in
    let all = columns_there streams from (named_columns s) (both_right (known streams from) _ h) k in
    let selected = all_left (IsThere streams from) s.select.items (columns_in s.atoms.items) all in
    let compared = all_right (IsThere streams from) s.select.items (columns_in s.atoms.items) all in
    record {
      from = All-map (λ n. n < length streams) (number_for streams) from (All-from_recursion _ from (streams_there streams from from (both_left _ _ h)));
      select = All-map (IsColumnOf streams (numbers streams from)) (attr_for streams from) s.select.items (All-from_recursion _ s.select.items selected);
      atoms = All-map (HasSides streams (numbers streams from)) (atom_for streams from) s.atoms.items (All-from_recursion _ s.atoms.items (sides_there streams from s.atoms.items compared));
      domains = refl;
    }

-- what holds where less is known
all_still : {X : Type 0} (P Q : X → Type 0) → ((x : X) → P x → Q x) → (xs : List X) → AllByRecursion P xs → AllByRecursion Q xs
all_still P Q f [] h = tt
all_still P Q f (x ∷ xs) h = (f x h.0, all_still P Q f xs h.1)

-- a column of a stream stays
column_stays : (streams more : List Shape) (n k : ℕ) → k < length (shape_at streams n).columns → k < length (shape_at (streams ++ more) n).columns
column_stays [] more n k h = absurd (omega arith)
column_stays (s ∷ streams) more zero k h = h
column_stays (s ∷ streams) more (suc n) k h = column_stays streams more n k h

-- a stream stays
stream_stays : (streams more : List Shape) (n : ℕ) → n < length streams → n < length (streams ++ more)
stream_stays [] more n h = absurd (omega arith)
stream_stays (s ∷ streams) more zero h = omega arith
stream_stays (s ∷ streams) more (suc n) h = let k = stream_stays streams more n (omega arith) in omega arith

module _ (streams more : List Shape) (from : List ℕ) where
  attr_stays : (a : Attr) → IsColumnOf streams from a → IsColumnOf (streams ++ more) from a
  attr_stays a h = record { stream = h.stream; column = column_stays streams more (get_or from a.stream 0) a.column h.column }

  side_stays : (e : Element) → HasSide streams from e → HasSide (streams ++ more) from e
  side_stays (element.Attr a) h = attr_stays a h
  side_stays (element.Const k) h = tt

  sides_stay : (t : Atom) → HasSides streams from t → HasSides (streams ++ more) from t
  sides_stay t h = (side_stays t.left h.0, side_stays t.right h.1)

still : {X : Type 0} (P Q : X → Type 0) → ((x : X) → P x → Q x) → (xs : List X) → All P xs → All Q xs
still P Q f xs h = All-from_recursion Q xs (all_still P Q f xs (recursion_from_All P xs h))

-- the shape of a stream stays
pub shape_stays : (streams more : List Shape) (n : ℕ) → n < length streams → shape_at (streams ++ more) n ≡ shape_at streams n
shape_stays [] more n h = absurd (omega arith)
shape_stays (s ∷ streams) more zero h = refl
shape_stays (s ∷ streams) more (suc n) h = shape_stays streams more n (omega arith)

-- the domains of its columns stay
domains_stay : (streams more : List Shape) (from : List ℕ) → All (λ n. n < length streams) from → (attrs : List Attr) → ((a : Attr) → Has attrs a → IsColumnOf streams from a)
    → domains_for (streams ++ more) from attrs ≡ domains_for streams from attrs
domains_stay streams more from there [] f = refl
domains_stay streams more from there (a ∷ attrs) f =
    let n : ℕ = get_or from a.stream 0 in
    let inside : n < length streams = All-get_or (λ m. m < length streams) from a.stream 0 (f a first).stream there in
    let same : domain_for (streams ++ more) from a ≡ domain_for streams from a = ap (λ (s : Shape). (get_or s.columns a.column no_column).domain) (shape_stays streams more n inside) in
    ap (λ d. domain_with a d ++ domains_for (streams ++ more) from attrs) same
    ∙ ap (λ ds. domain_with a (domain_for streams from a) ++ ds) (domains_stay streams more from there attrs (λ b i. f b (later i)))

-- what a query names is there after streams were added
pub stays_named : StaysNamed
stays_named streams more q there = record {
  from = still _ _ (stream_stays streams more) q.from there.from;
  select = still _ _ (attr_stays streams more q.from) q.select there.select;
  atoms = still _ _ (sides_stay streams more q.from) q.atoms there.atoms;
  domains = there.domains ∙ sym (domains_stay streams more q.from there.from (named_attrs q.select q.atoms) (all_there streams q.from q.select q.atoms there.select there.atoms));
}
