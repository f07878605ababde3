-- What a query is named with stands for this query.
use Rattle.std.proofs.Common.{◌≡◌, ◌≢◌, ℕ, zero, suc, ◌<◌, inl, inr, Bool, true, false, cond, not, ◌&&◌, ◌||◌, nat_lt, List, [], ◌∷◌, ◌++◌, length, map, get_or, Option, Some, None, is_some, unwrap_or, option_and_then, Result, Ok, Err, refl, ap, ap₂, sym, ◌∙◌, subst, arith}
use Rattle.std.specs.List.{list_any, list_all, position, position_or_len, All, AllPairs, AllByRecursion}
use Rattle.std.specs.Str.{bytes_eq}
use Rattle.std.proofs.lemmas.Bool.Decides.{nat_tests}
use Rattle.std.proofs.lemmas.List.{get_or-map, length-map, map-id}
use Rattle.std.proofs.lemmas.List.Elements.{recursion_from_All, All-get_or}
use Rattle.std.proofs.lemmas.List.Folds.{list_all-append}
use Rattle.std.proofs.lemmas.List.Sums.{position_or_len_is}
use Rattle.sem_query.specs.declared.atom.Attr.{Attr}
use Rattle.sem_query.specs.declared.atom.Domain.{Domain}
use Rattle.sem_query.specs.declared.atom.Element.{Element}
use Rattle.sem_query.specs.declared.atom.Element.TheVariants as element
use Rattle.sem_query.specs.declared.atom.Atom.{Atom}
use Rattle.sem_query.specs.Query.{QueryValue}
use Rattle.sql_catalog.specs.Streams.{Shape, IsShape, IsCatalog, stream_number, column_place, no_column, shape_at, all_differ}
use Rattle.sql_catalog.specs.declared.column.ColumnDef.{ColumnDef}
use Rattle.sql_parser.specs.declared.tree.ColumnAst.{ColumnAst}
use Rattle.sql_parser.specs.declared.resolution.ResolveError.{ResolveError}
use Rattle.sql_parser.specs.declared.resolution.ResolveError.TheVariants.{UnknownStream, UnknownColumn, SelfJoin}
use Rattle.sql_parser.specs.Limits.{column_in, columns_in}
use Rattle.sql_parser.specs.Resolution.{place_in, place_under, number_for, has_streams, has_columns, attr_for, element_for, atom_for, query_with, query_for, resolved, IsColumnOf, HasSide, HasSides, stream_named, column_named, operand_named, atom_named, named_select}
use Rattle.sql_parser.specs.Laws.{ResolvesBack}
use Rattle.sql_parser.proofs.Different.{flag}
use Rattle.sql_parser.proofs.Taken.{same_names, same_name, both_left, both_right, or_left, or_right, not_true}

both : (a b : Bool) → a ≡ true → b ≡ true → (a && b) ≡ true
both true b h k = k
both false b h k = h

-- the first element that passes
position_is : {X : Type 0} (p : X → Bool) (xs : List X) (i : ℕ) (d : X) → i < length xs → p (get_or xs i d) ≡ true → ((k : ℕ) → k < i → p (get_or xs k d) ≡ false) → position p xs ≡ Some i
position_is p xs i d inside here before =
    let e : position_or_len p xs ≡ i = position_or_len_is p xs i d (omega arith) before (λ _. here) in
    let l : nat_lt i (length xs) ≡ true = grind (arith, nat_tests) in
    ap (λ j. cond (nat_lt j (length xs)) (Some j) None) e ∙ ap (λ b. cond b (Some i) None) l

none_at : {X : Type 0} (p : X → Bool) (xs : List X) (i : ℕ) (d : X) → list_any p xs ≡ false → i < length xs → p (get_or xs i d) ≡ false
none_at p [] i d h inside = absurd (omega arith)
none_at p (x ∷ xs) zero d h inside = or_left (p x) (list_any p xs) h
none_at p (x ∷ xs) (suc i) d h inside = none_at p xs i d (or_right (p x) (list_any p xs) h) (omega arith)

-- two of some different names
differ_at : {X : Type 0} (f : X → List ℕ) (xs : List X) (k i : ℕ) (d : X) → all_differ (map f xs) ≡ true → k < i → i < length xs → bytes_eq (f (get_or xs k d)) (f (get_or xs i d)) ≡ false
differ_at f [] k i d h l inside = absurd (omega arith)
differ_at f (x ∷ xs) k zero d h l inside = absurd (omega arith)
differ_at f (x ∷ xs) zero (suc i) d h l inside =
    let none = none_at (bytes_eq (f x)) (map f xs) i (f d) (not_true (list_any (bytes_eq (f x)) (map f xs)) (both_left _ _ h)) (omega (arith, length-map xs f)) in
    ap (bytes_eq (f x)) (sym (get_or-map f xs i d (f d) (omega arith))) ∙ none
differ_at f (x ∷ xs) (suc k) (suc i) d h l inside = differ_at f xs k i d (both_right (not (list_any (bytes_eq (f x)) (map f xs))) _ h) (omega arith) (omega arith)

-- of different names each is found at its own place
found : {X : Type 0} (f : X → List ℕ) (xs : List X) (i : ℕ) (d : X) → all_differ (map f xs) ≡ true → i < length xs → position (λ x. bytes_eq (f x) (f (get_or xs i d))) xs ≡ Some i
found f xs i d h inside = position_is (λ x. bytes_eq (f x) (f (get_or xs i d))) xs i d inside (same_name (f (get_or xs i d)) (f (get_or xs i d)) refl) (λ k l. differ_at f xs k i d h l inside)

found_name : (names : List (List ℕ)) (i : ℕ) → all_differ names ≡ true → i < length names → position (λ c. bytes_eq c (get_or names i [])) names ≡ Some i
found_name names i h inside = found (λ c. c) names i [] (ap all_differ (map-id names) ∙ h) inside

-- the same list after a function that changes none of its elements
map_same : {X Y : Type 0} (P : X → Type 0) (f : X → Y) (g : Y → X) → ((x : X) → P x → g (f x) ≡ x) → (xs : List X) → AllByRecursion P xs → map g (map f xs) ≡ xs
map_same P f g back [] h = refl
map_same P f g back (x ∷ xs) h = ap₂ (λ y ys. y ∷ ys) (back x h.0) (map_same P f g back xs h.1)

module _ (streams : List Shape) (is : IsCatalog streams) where
  -- a stream is found by its name
  number_back : (n : ℕ) → n < length streams → stream_number streams (stream_named streams n) ≡ Some n
  number_back n inside = found (λ (s : Shape). s.name) streams n (record { name = []; columns = [] }) is.differ inside

  shape_is : (n : ℕ) → n < length streams → IsShape (shape_at streams n)
  shape_is n inside = All-get_or IsShape streams n (record { name = []; columns = [] }) inside is.shapes

  -- different streams have different names
  apart : (m n : ℕ) → m < length streams → n < length streams → m ≢ n → bytes_eq (stream_named streams m) (stream_named streams n) ≡ false
  apart m n h k differ = elim (flag (bytes_eq (stream_named streams m) (stream_named streams n))) [
    | inl e ↦
        let same : stream_named streams m ≡ stream_named streams n = same_names _ _ e in
        let one : Some m ≡ Some n = sym (number_back m h) ∙ ap (stream_number streams) same ∙ number_back n k in
        absurd (differ cc)
    | inr e ↦ e
  ]

  apart_from_all : (m : ℕ) (from : List ℕ) → m < length streams → AllByRecursion (λ n. n < length streams) from → ((j d : ℕ) → j < length from → m ≢ get_or from j d) → list_any (bytes_eq (stream_named streams m)) (map (stream_named streams) from) ≡ false
  apart_from_all m [] h k differ = refl
  apart_from_all m (n ∷ from) h k differ =
      ap₂ (λ a b. a || b) (apart m n h k.0 (differ 0 0 (omega arith))) (apart_from_all m from h k.1 (λ j d l. differ (suc j) d (omega arith)))

  names_differ : (from : List ℕ) → AllByRecursion (λ n. n < length streams) from → AllPairs (λ s t. s ≢ t) from → all_differ (map (stream_named streams) from) ≡ true
  names_differ [] h differ = refl
  names_differ (n ∷ from) h differ =
      ap₂ (λ a b. not a && b)
      (apart_from_all n from h.0 h.1 (λ j d l. differ 0 (suc j) d (omega arith) (omega arith)))
      (names_differ from h.1 (λ i j d l m. differ (suc i) (suc j) d (omega arith) (omega arith)))

  all_known : (from : List ℕ) → AllByRecursion (λ n. n < length streams) from → list_all (λ name. is_some (stream_number streams name)) (map (stream_named streams) from) ≡ true
  all_known [] h = refl
  all_known (n ∷ from) h = ap₂ (λ a b. a && b) (ap is_some (number_back n h.0)) (all_known from h.1)

  module _ (from : List ℕ) (there : All (λ n. n < length streams) from) (differ : AllPairs (λ s t. s ≢ t) from) where
    abbrev names : List (List ℕ)
    names = map (stream_named streams) from

    -- the stream of a column is found in FROM
    place_back : (a : Attr) → IsColumnOf streams from a → place_in names (column_named streams from a) ≡ Some a.stream
    place_back a h =
        let e : get_or names a.stream [] ≡ stream_named streams (get_or from a.stream 0) = get_or-map (stream_named streams) from a.stream 0 [] h.stream in
        let P : List ℕ → Type 0 = λ x. position (λ name. bytes_eq name x) names ≡ Some a.stream in
        subst P e (found_name names a.stream (names_differ from (recursion_from_All (λ n. n < length streams) from there) differ) (omega (arith, length-map from (stream_named streams), h.stream)))

    -- a column is found in its stream
    column_back : (a : Attr) → IsColumnOf streams from a → place_under streams (column_named streams from a) ≡ Some a.column
    column_back a h =
        let n : ℕ = get_or from a.stream 0 in
        let inside : n < length streams = All-get_or (λ n. n < length streams) from a.stream 0 h.stream there in
        ap (option_and_then (λ m. column_place (shape_at streams m).columns (column_named streams from a).column)) (number_back n inside)
        ∙ found (λ (c : ColumnDef). c.name) (shape_at streams n).columns a.column no_column (shape_is n inside).differ h.column

    attr_back : (a : Attr) → IsColumnOf streams from a → attr_for streams names (column_named streams from a) ≡ a
    attr_back a h = ap₂ (λ (s c : Option ℕ). let r : Attr = record { stream = unwrap_or s 0; column = unwrap_or c 0 } in r) (place_back a h) (column_back a h)

    element_back : (e : Element) → HasSide streams from e → element_for streams names (operand_named streams from e) ≡ e
    element_back (element.Attr a) h = ap (λ (b : Attr). let r : Element = element.Attr b in r) (attr_back a h)
    element_back (element.Const k) h = refl

    atom_back : (t : Atom) → HasSides streams from t → atom_for streams names (atom_named streams from t) ≡ t
    atom_back t h = ap₂ (λ (l r : Element). let u : Atom = record { left = l; op = t.op; right = r } in u) (element_back t.left h.0) (element_back t.right h.1)

    module _ (p : ColumnAst → Bool) (each : (a : Attr) → IsColumnOf streams from a → p (column_named streams from a) ≡ true) where
      all_selected : (attrs : List Attr) → AllByRecursion (IsColumnOf streams from) attrs → list_all p (map (column_named streams from) attrs) ≡ true
      all_selected [] h = refl
      all_selected (a ∷ attrs) h = both (p (column_named streams from a)) _ (each a h.0) (all_selected attrs h.1)

      in_side : (e : Element) → HasSide streams from e → list_all p (column_in (operand_named streams from e)) ≡ true
      in_side (element.Attr a) h = both (p (column_named streams from a)) true (each a h) refl
      in_side (element.Const k) h = refl

      all_compared : (atoms : List Atom) → AllByRecursion (HasSides streams from) atoms → list_all p (columns_in (map (atom_named streams from) atoms)) ≡ true
      all_compared [] h = refl
      all_compared (t ∷ atoms) h =
          let l = column_in (operand_named streams from t.left) in
          let r = column_in (operand_named streams from t.right) in
          list_all-append p (l ++ r) (columns_in (map (atom_named streams from) atoms))
          ∙ both (list_all p (l ++ r)) _ (list_all-append p l r ∙ both (list_all p l) (list_all p r) (in_side t.left h.0.0) (in_side t.right h.0.1)) (all_compared atoms h.1)

      all_columns : (attrs : List Attr) (atoms : List Atom) → All (IsColumnOf streams from) attrs → All (HasSides streams from) atoms → list_all p (map (column_named streams from) attrs ++ columns_in (map (atom_named streams from) atoms)) ≡ true
      all_columns attrs atoms h k =
          list_all-append p (map (column_named streams from) attrs) (columns_in (map (atom_named streams from) atoms))
          ∙ both (list_all p (map (column_named streams from) attrs)) _ (all_selected attrs (recursion_from_All (IsColumnOf streams from) attrs h)) (all_compared atoms (recursion_from_All (HasSides streams from) atoms k))

resolves : (a b c : Bool) (q : QueryValue) → a ≡ true → b ≡ true → c ≡ true → cond {A = Result QueryValue ResolveError} (not a) (Err UnknownStream) (cond (not b) (Err UnknownColumn) (cond (not c) (Err SelfJoin) (Ok q))) ≡ Ok q
resolves true true true q h k l = refl
resolves true true false q h k l = cc
resolves true false c q h k l = cc
resolves false b c q h k l = cc

pub resolves_back : ResolvesBack
unfolding resolved
resolves_back streams q is limits there =
    let from = q.from in
    let s = named_select streams q in
    let apart = limits.different in
    let numbers = recursion_from_All (λ n. n < length streams) from there.from in
    let placed = all_columns streams is from there.from apart (λ c. is_some (place_in s.from.items c)) (λ a h. ap is_some (place_back streams is from there.from apart a h)) q.select q.atoms there.select there.atoms in
    let under = all_columns streams is from there.from apart (λ c. is_some (place_under streams c)) (λ a h. ap is_some (column_back streams is from there.from apart a h)) q.select q.atoms there.select there.atoms in
    let numbers_back : map (number_for streams) (map (stream_named streams) from) ≡ from = map_same (λ n. n < length streams) (stream_named streams) (number_for streams) (λ n h. ap (λ o. unwrap_or o 0) (number_back streams is n h)) from numbers in
    let attrs_back = map_same (IsColumnOf streams from) (column_named streams from) (attr_for streams s.from.items) (attr_back streams is from there.from apart) q.select (recursion_from_All (IsColumnOf streams from) q.select there.select) in
    let atoms_back = map_same (HasSides streams from) (atom_named streams from) (atom_for streams s.from.items) (atom_back streams is from there.from apart) q.atoms (recursion_from_All (HasSides streams from) q.atoms there.atoms) in
    let same : query_for streams s ≡ q =
    ap (λ (f : List ℕ). let r : QueryValue = record (query_with streams q.distinct f (query_for streams s).select (query_for streams s).atoms) { compact = q.compact } in r) numbers_back
    ∙ ap₂ (λ (a : List Attr) (t : List Atom). let r : QueryValue = record (query_with streams q.distinct from a t) { compact = q.compact } in r) attrs_back atoms_back
    ∙ ap (λ (d : List Domain). let r : QueryValue = record { distinct = q.distinct; from = from; select = q.select; atoms = q.atoms; domains = d; compact = q.compact } in r) (sym there.domains) in
    resolves (has_streams streams s) (has_columns streams s) (all_differ s.from.items) (query_for streams s)
    (both (list_all (λ name. is_some (stream_number streams name)) s.from.items) _ (all_known streams is from numbers) placed)
    under
    (names_differ streams is from numbers apart)
    ∙ ap Ok same
