-- The query that a statement asks for is within the limits of a query.
use Rattle.std.proofs.Common.{◌≡◌, ◌≢◌, ℕ, zero, suc, ◌<◌, ◌≤◌, inl, inr, Bool, true, false, cond, not, ◌&&◌, ◌||◌, ℤ, ◌≤ℤ◌, int_lt, int_eq, nat_lt, List, [], ◌∷◌, ◌++◌, length, map, filter, get_or, Option, Some, None, is_some, unwrap_or, option_and_then, IsTrue, refl, subst, ap, ap₂, sym, ◌∙◌, append_assoc, arith}
use Rattle.std.specs.List.{list_any, list_all, AllPairs, AllByRecursion}
use Rattle.std.specs.Str.{bytes_eq}
use Rattle.std.proofs.lemmas.Bool.Decides.{nat_tests, Decides-int_eq}
use Rattle.std.proofs.lemmas.Int.{ints}
use Rattle.std.proofs.lemmas.List.{length-map}
use Rattle.std.proofs.lemmas.List.Elements.{All-from_recursion, All-get_or, All-map}
use Rattle.std.proofs.lemmas.List.Folds.{list_all-append}
use Rattle.std.proofs.lemmas.List.Quantifiers.{position-Some}
use Rattle.std.proofs.lemmas.Slice.Eq.{bytes_eq-Decides}
use Rattle.sem_query.specs.declared.atom.Attr.{Attr}
use Rattle.sem_query.specs.declared.atom.Atom.{Atom}
use Rattle.sem_query.specs.Query.{attr_lt, attrs_with, consts_with, attrs_of, consts_of, is_attr, is_soft, HasAttr, IsShort, IsWithinLimits}
use Rattle.sem_query.specs.Query as query
use Rattle.sem_query.proofs.WithNew.{attr_lt-asymmetric, int_lt-asymmetric}
use Rattle.sql_catalog.specs.Streams.{Shape, IsShape, IsCatalog, stream_number, column_place, shape_at, no_column, HasEnds, all_differ}
use Rattle.sql_catalog.specs.declared.column.ColumnDef.{ColumnDef}
use Rattle.sql_parser.specs.declared.tree.ColumnAst.{ColumnAst}
use Rattle.sql_parser.specs.declared.tree.OperandAst.{OperandAst}
use Rattle.sql_parser.specs.declared.tree.OperandAst.TheVariants.{Column, Integer}
use Rattle.sql_parser.specs.declared.tree.AtomAst.{AtomAst}
use Rattle.sql_parser.specs.declared.tree.SelectAst.{SelectAst}
use Rattle.sql_parser.specs.declared.tree.Statement.TheVariants.{CreateQuery}
use Rattle.sql_parser.specs.declared.parsing.What.TheVariants as limits
use Rattle.sql_parser.specs.Grammar.{IsColumn, HasColumn}
use Rattle.sql_parser.specs.DraftLimits.{ends_in}
use Rattle.sql_parser.specs.Limits.{names_of, integers_of, soft_in, column_in, columns_in, integer_in, integers_in, same_column, number_of_different, is_long, is_far, is_reversed}
use Rattle.sql_parser.specs.Laws.{DomainsHaveEnds}
use Rattle.sql_parser.specs.Resolution.{IsTaken, named_columns, place_in, place_under, number_for, has_streams, has_columns, attr_for, element_for, atom_for, named_attrs, query_for}
use Rattle.sql_parser.proofs.Said.{numbers_query}
use Rattle.sql_parser.proofs.Within.{kept_length, any_far, any_reversed, stream_ends}
use Rattle.sql_parser.proofs.Different.{IsOrder, put_all, length-put_all, all_put}
use Rattle.sql_parser.proofs.QueryDomains.{few_named, few_domains, named_from, Ascends-named_attrs, domains_are, domains_ascend}

-- FROM order, and then column order
attr_order : IsOrder attr_lt
attr_order = record { asymmetric = attr_lt-asymmetric; along = along; total = total }
  where
    along : (a b c : Attr) → attr_lt a b ≡ true → attr_lt b c ≡ true → attr_lt a c ≡ true
    along a b c h k = grind (arith, nat_tests)

    places : (s c t d : ℕ) → attr_lt (record { stream = s; column = c }) (record { stream = t; column = d }) ≡ false → attr_lt (record { stream = t; column = d }) (record { stream = s; column = c }) ≡ false → (s ≡ t) × (c ≡ d)
    places s c t d h k = (grind (arith, nat_tests), grind (arith, nat_tests))

    total : (a b : Attr) → attr_lt a b ≡ false → attr_lt b a ≡ false → a ≡ b
    total a b h k = let e = places a.stream a.column b.stream b.column h k in ap₂ (λ (s c : ℕ). let r : Attr = record { stream = s; column = c } in r) e.0 e.1

int_order : IsOrder int_lt
int_order = record { asymmetric = int_lt-asymmetric; along = along; total = total }
  where
    along : (a b c : ℤ) → int_lt a b ≡ true → int_lt b c ≡ true → int_lt a c ≡ true
    along a b c h k = grind (arith, ints)

    total : (a b : ℤ) → int_lt a b ≡ false → int_lt b a ≡ false → a ≡ b
    total a b h k = grind (arith, ints)

pub both_left : (a b : Bool) → (a && b) ≡ true → a ≡ true
both_left true b h = refl
both_left false b h = h

pub both_right : (a b : Bool) → (a && b) ≡ true → b ≡ true
both_right true b h = h
both_right false b h = let e : false ≡ true = h in cc

pub or_left : (a b : Bool) → (a || b) ≡ false → a ≡ false
or_left true b h = cc
or_left false b h = refl

pub or_right : (a b : Bool) → (a || b) ≡ false → b ≡ false
or_right true b h = let e : true ≡ false = h in cc
or_right false b h = h

pub not_true : (b : Bool) → not b ≡ true → b ≡ false
not_true true h = let e : false ≡ true = h in cc
not_true false h = refl

-- names that are compared as the same are the same
pub same_names : (x y : List ℕ) → bytes_eq x y ≡ true → x ≡ y
same_names x y h = (bytes_eq-Decides x y).0 h

pub same_name : (x y : List ℕ) → x ≡ y → bytes_eq x y ≡ true
same_name x y h = (bytes_eq-Decides x y).1 h

pub some_is : (o : Option ℕ) → is_some o ≡ true → o ≡ Some (unwrap_or o 0)
some_is None h = let e : false ≡ true = h in cc
some_is (Some n) h = refl

-- no limit is passed, so none of the first ones is
not_passed : {X : Type 0} (b : Bool) (x : X) (r : Option X) → cond b (Some x) r ≡ None → (b ≡ false) × (r ≡ None)
not_passed true x r e = cc
not_passed false x r e = (refl, e)

not_more : (m n : ℕ) → nat_lt n m ≡ false → m ≤ n
not_more m n h = grind (arith, nat_tests)

-- the limits of a query, by the names that it is written with
record Few (s : SelectAst) : Type 0 where
  select : length s.select.items ≤ 8
  from : length s.from.items ≤ 4
  atoms : length s.atoms.items ≤ 16
  soft : length (soft_in s.atoms.items) ≤ 8
  attrs : number_of_different same_column (columns_in s.atoms.items) ≤ 12
  near : list_any is_far (integers_in s.atoms.items) ≡ false
  consts : number_of_different int_eq (integers_in s.atoms.items) ≤ 6

few : (s : SelectAst) → IsTaken s → Few s
few s t =
    let q = CreateQuery t.name s t.shared in
    let z = numbers_query t.name s t.shared in
    let a = not_passed (list_any is_long (names_of q)) limits.Name _ t.within in
    let b = not_passed (nat_lt 8 (length s.select.items)) limits.Select _ a.1 in
    let c = not_passed (nat_lt 4 (length s.from.items)) limits.From _ b.1 in
    let d = not_passed (nat_lt 16 (length s.atoms.items)) limits.Atoms _ c.1 in
    let h = not_passed (nat_lt 8 (length (soft_in s.atoms.items))) limits.Soft _ d.1 in
    let e = not_passed (nat_lt 12 (number_of_different same_column (columns_in s.atoms.items))) limits.Attrs _ h.1 in
    let f = not_passed (list_any is_far (integers_of q)) limits.Value _ e.1 in
    let g = not_passed (nat_lt 6 (number_of_different int_eq (integers_in s.atoms.items))) limits.Consts _ f.1 in
    record {
      select = not_more _ 8 b.0;
      from = not_more _ 4 c.0;
      atoms = not_more _ 16 d.0;
      soft = not_more _ 8 h.0;
      attrs = not_more _ 12 e.0;
      near = ap (list_any is_far) (sym z) ∙ f.0;
      consts = not_more _ 6 g.0;
    }

-- an integer that is not far has at most 15 digits
not_reversed : (low high : ℤ) → int_lt high low ≡ false → low ≤ℤ high
not_reversed low high h = grind (arith, ints)

short : (z : ℤ) → is_far z ≡ false → IsShort z
short z h = record { low = grind (arith, ints); high = grind (arith, ints) }

all_short : (zs : List ℤ) → list_any is_far zs ≡ false → AllByRecursion IsShort zs
all_short [] h = tt
all_short (z ∷ zs) h = (short z (or_left (is_far z) (list_any is_far zs) h), all_short zs (or_right (is_far z) (list_any is_far zs) h))

module _ (streams : List Shape) (from : List (List ℕ)) where
  -- columns with the same names have the same places
  alike : (c d : ColumnAst) → same_column c d ≡ true → attr_for streams from c ≡ attr_for streams from d
  alike c d h =
      let e : c.stream ≡ d.stream = same_names c.stream d.stream (both_left _ _ h) in
      let f : c.column ≡ d.column = same_names c.column d.column (both_right (bytes_eq c.stream d.stream) _ h) in
      ap (λ n. attr_for streams from (record { stream = n; column = c.column })) e ∙ ap (λ n. attr_for streams from (record { stream = d.stream; column = n })) f

  attrs_side : (o : OperandAst) (cs : List ColumnAst) → attrs_with (element_for streams from o) (put_all attr_lt (attr_for streams from) cs) ≡ put_all attr_lt (attr_for streams from) (column_in o ++ cs)
  attrs_side (Column c) cs = refl
  attrs_side (Integer z) cs = refl

  -- the attributes of the query are the columns that are named
  attrs_named : (atoms : List AtomAst) → attrs_of (map (atom_for streams from) atoms) ≡ put_all attr_lt (attr_for streams from) (columns_in atoms)
  attrs_named [] = refl
  attrs_named (a ∷ atoms) =
      ap (λ rest. attrs_with (element_for streams from a.left) (attrs_with (element_for streams from a.right) rest)) (attrs_named atoms)
      ∙ ap (attrs_with (element_for streams from a.left)) (attrs_side a.right (columns_in atoms))
      ∙ attrs_side a.left (column_in a.right ++ columns_in atoms)
      ∙ ap (put_all attr_lt (attr_for streams from)) (sym (append_assoc (column_in a.left) (column_in a.right) (columns_in atoms)))

  consts_side : (o : OperandAst) (zs : List ℤ) → consts_with (element_for streams from o) (put_all int_lt (λ z. z) zs) ≡ put_all int_lt (λ z. z) (integer_in o ++ zs)
  consts_side (Column c) zs = refl
  consts_side (Integer z) zs = refl

  -- the constants of the query are the integers that are named
  consts_named : (atoms : List AtomAst) → consts_of (map (atom_for streams from) atoms) ≡ put_all int_lt (λ z. z) (integers_in atoms)
  consts_named [] = refl
  consts_named (a ∷ atoms) =
      ap (λ zs. consts_with (element_for streams from a.left) (consts_with (element_for streams from a.right) zs)) (consts_named atoms)
      ∙ ap (consts_with (element_for streams from a.left)) (consts_side a.right (integers_in atoms))
      ∙ consts_side a.left (integer_in a.right ++ integers_in atoms)
      ∙ ap (put_all int_lt (λ z. z)) (sym (append_assoc (integer_in a.left) (integer_in a.right) (integers_in atoms)))

  side : (o : OperandAst) → IsColumn o → IsTrue (is_attr (element_for streams from o))
  side (Column c) h = refl
  side (Integer z) h = absurd h

  -- as many comparisons are soft
  soft_named : (atoms : List AtomAst) → length (filter (λ (t : Atom). is_soft t.op) (map (atom_for streams from) atoms)) ≡ length (soft_in atoms)
  soft_named [] = refl
  soft_named (a ∷ atoms) = kept_length (is_soft a.op) (atom_for streams from a) (filter (λ (t : Atom). is_soft t.op) (map (atom_for streams from) atoms)) a (soft_in atoms) (soft_named atoms)

  -- each comparison has a column
  sides : (atoms : List AtomAst) → AllByRecursion HasColumn atoms → AllByRecursion (λ a. HasAttr (atom_for streams from a)) atoms
  sides [] h = tt
  sides (a ∷ atoms) h = ((elim h.0 [ inl l ↦ inl (side a.left l) | inr r ↦ inr (side a.right r) ]), sides atoms h.1)

  module _ (is : IsCatalog streams) where
    place_within : (c : ColumnAst) (o : Option ℕ) (k : ℕ) → o ≡ stream_number streams c.stream → option_and_then (λ n. column_place (shape_at streams n).columns c.column) o ≡ Some k → k < 8
    place_within c None k e h = cc
    place_within c (Some n) k e h =
        let inside = position-Some (λ s. bytes_eq s.name c.stream) streams n (record { name = []; columns = [] }) (sym e) in
        let shape : IsShape (shape_at streams n) = All-get_or IsShape streams n (record { name = []; columns = [] }) inside.0 is.shapes in
        let column = position-Some (λ d. bytes_eq d.name c.column) (shape_at streams n).columns k no_column h in
        omega (arith, shape.few, column.0)

    -- a column whose names are there is a column of a stream of FROM
    column : (n : ℕ) → length from ≤ n → (c : ColumnAst) → is_some (place_in from c) ≡ true → is_some (place_under streams c) ≡ true → query.IsColumn n (attr_for streams from c)
    column n room c h k =
        let inside = position-Some (λ name. bytes_eq name c.stream) from (unwrap_or (place_in from c) 0) [] (some_is (place_in from c) h) in
        record {
          stream = omega (arith, inside.0);
          column = place_within c (stream_number streams c.stream) (unwrap_or (place_under streams c) 0) refl (some_is (place_under streams c) k);
        }

    columns : (n : ℕ) → length from ≤ n → (cs : List ColumnAst) → list_all (λ c. is_some (place_in from c)) cs ≡ true → list_all (λ c. is_some (place_under streams c)) cs ≡ true → AllByRecursion (λ c. query.IsColumn n (attr_for streams from c)) cs
    columns n room [] h k = tt
    columns n room (c ∷ cs) h k = (
      column n room c (both_left (is_some (place_in from c)) _ h) (both_left (is_some (place_under streams c)) _ k),
      columns n room cs (both_right (is_some (place_in from c)) _ h) (both_right (is_some (place_under streams c)) _ k),
    )

-- the name of a stream that has a number
pub named : (streams : List Shape) (name : List ℕ) → is_some (stream_number streams name) ≡ true → (shape_at streams (number_for streams name)).name ≡ name
named streams name h = same_names _ _ (position-Some (λ s. bytes_eq s.name name) streams (number_for streams name) (record { name = []; columns = [] }) (some_is (stream_number streams name) h)).1

-- different streams have different numbers
apart : (streams : List Shape) (x y : List ℕ) → is_some (stream_number streams x) ≡ true → is_some (stream_number streams y) ≡ true → bytes_eq x y ≡ false → number_for streams x ≢ number_for streams y
apart streams x y h k differ e =
    let same : x ≡ y = sym (named streams x h) ∙ ap (λ n. (shape_at streams n).name) e ∙ named streams y k in
    let found : true ≡ false = sym (same_name x y same) ∙ differ in
    cc

-- each name is that of a stream
abbrev pub known : List Shape → List (List ℕ) → Bool
known streams names = list_all (λ name. is_some (stream_number streams name)) names

apart_from_all : (streams : List Shape) (x : List ℕ) (names : List (List ℕ)) → is_some (stream_number streams x) ≡ true → known streams names ≡ true → list_any (bytes_eq x) names ≡ false
    → (j d : ℕ) → j < length (map (number_for streams) names) → number_for streams x ≢ get_or (map (number_for streams) names) j d
apart_from_all streams x [] h k differ j d in' = absurd (omega arith)
apart_from_all streams x (y ∷ names) h k differ zero d in' = apart streams x y h (both_left _ _ k) (or_left (bytes_eq x y) _ differ)
apart_from_all streams x (y ∷ names) h k differ (suc j) d in' = apart_from_all streams x names h (both_right (is_some (stream_number streams y)) _ k) (or_right (bytes_eq x y) _ differ) j d (omega arith)

numbers_differ : (streams : List Shape) (names : List (List ℕ)) → known streams names ≡ true → all_differ names ≡ true → AllPairs (λ s t. s ≢ t) (map (number_for streams) names)
numbers_differ streams [] k differ i j d l m = absurd (omega arith)
numbers_differ streams (x ∷ names) k differ zero zero d l m = absurd (omega arith)
numbers_differ streams (x ∷ names) k differ zero (suc j) d l m =
    apart_from_all streams x names (both_left _ _ k) (both_right (is_some (stream_number streams x)) _ k) (not_true _ (both_left _ _ differ)) j d (omega arith)
numbers_differ streams (x ∷ names) k differ (suc i) zero d l m = absurd (omega arith)
numbers_differ streams (x ∷ names) k differ (suc i) (suc j) d l m =
    numbers_differ streams names (both_right (is_some (stream_number streams x)) _ k) (both_right (not (list_any (bytes_eq x) names)) _ differ) i j d (omega arith) (omega arith)

-- the ends of a domain that has no far end and is not reversed
has_ends : (domain : Option (ℤ × ℤ)) → list_any is_far (ends_in domain) ≡ false → is_reversed domain ≡ false → HasEnds domain
has_ends None h k = tt
has_ends (Some ends) h k = record {
  short_low = short ends.0 (or_left (is_far ends.0) _ h);
  short_high = short ends.1 (or_left (is_far ends.1) false (or_right (is_far ends.0) _ h));
  some = not_reversed ends.0 ends.1 k;
}

all_ends : (columns : List ColumnDef) → any_far columns ≡ false → any_reversed columns ≡ false → AllByRecursion (λ c. HasEnds c.domain) columns
all_ends [] h k = tt
all_ends (c ∷ columns) h k = (
  has_ends c.domain (or_left (list_any is_far (ends_in c.domain)) _ h) (or_left (is_reversed c.domain) _ k),
  all_ends columns (or_right (list_any is_far (ends_in c.domain)) _ h) (or_right (is_reversed c.domain) _ k),
)

pub domains_have_ends : DomainsHaveEnds
domains_have_ends name columns e = let h = stream_ends name columns e in All-from_recursion (λ c. HasEnds c.domain) columns (all_ends columns h.0 h.1)

-- where a statement is taken and its names are there, its query is within the limits
pub within_limits : (streams : List Shape) (s : SelectAst) → IsCatalog streams → IsTaken s → has_streams streams s ≡ true → has_columns streams s ≡ true → all_differ s.from.items ≡ true → IsWithinLimits (query_for streams s)
within_limits streams s is taken h k differ =
    let from = s.from.items in
    let atoms = s.atoms.items in
    let least = few s taken in
    let n : ℕ = length (map (number_for streams) from) in
    let room : length from ≤ n = omega (arith, length-map from (number_for streams)) in
    let placed : list_all (λ c. is_some (place_in from c)) (named_columns s) ≡ true = both_right (known streams from) _ h in
    let above = sym (list_all-append (λ c. is_some (place_in from c)) s.select.items (columns_in atoms)) ∙ placed in
    let under = sym (list_all-append (λ c. is_some (place_under streams c)) s.select.items (columns_in atoms)) ∙ k in
    let selected = columns streams from is n room s.select.items (both_left _ _ above) (both_left _ _ under) in
    let compared = columns streams from is n room (columns_in atoms) (both_right (list_all (λ c. is_some (place_in from c)) s.select.items) _ above) (both_right (list_all (λ c. is_some (place_under streams c)) s.select.items) _ under) in
    let numbers : List ℕ = map (number_for streams) from in
    let select : List Attr = map (attr_for streams from) s.select.items in
    let compares : List Atom = map (atom_for streams from) atoms in
    let few_compared : length (attrs_of compares) ≤ 12 =
    omega (arith, ap length (attrs_named streams from atoms), length-put_all attr_lt attr_order same_column (attr_for streams from) (alike streams from) (columns_in atoms), least.attrs) in
    record {
      streams = (omega (arith, length-map from (number_for streams), taken.whole.1), omega (arith, length-map from (number_for streams), least.from));
      different = numbers_differ streams from (both_left _ _ h) differ;
      selected = (omega (arith, length-map s.select.items (attr_for streams from), taken.whole.0), omega (arith, length-map s.select.items (attr_for streams from), least.select));
      select = All-map (query.IsColumn n) (attr_for streams from) s.select.items (All-from_recursion _ s.select.items selected);
      comparisons = omega (arith, length-map atoms (atom_for streams from), least.atoms);
      few_soft = subst (λ (m : ℕ). m ≤ 8) (sym (soft_named streams from atoms)) least.soft;
      sides = All-map HasAttr (atom_for streams from) atoms (All-from_recursion _ atoms (sides streams from atoms taken.whole.2));
      few_attrs = few_compared;
      attrs = rw (attrs_named streams from atoms) (All-from_recursion (query.IsColumn n) _ (all_put (query.IsColumn n) attr_lt (attr_for streams from) (columns_in atoms) compared));
      few_consts = omega (arith, ap length (consts_named streams from atoms), length-put_all int_lt int_order int_eq (λ z. z) (λ y z e. (Decides-int_eq y z).0 e) (integers_in atoms), least.consts);
      consts = rw (consts_named streams from atoms) (All-from_recursion IsShort _ (all_put IsShort int_lt (λ z. z) (integers_in atoms) (all_short (integers_in atoms) least.near)));
      few_domains = few_domains (named_attrs select compares) streams numbers (omega (arith, few_named select compares, length-map s.select.items (attr_for streams from), least.select, few_compared));
      domains = domains_are streams numbers is (query_for streams s) (named_attrs select compares) (λ a i. named_from select compares a i);
      ascending = domains_ascend streams numbers (named_attrs select compares) (Ascends-named_attrs select compares);
    }
