-- The names of a query are those that it was asked for with, also after more streams were added.
use Rattle.std.proofs.Common.{◌≡◌, ℕ, ◌<◌, Bool, true, false, cond, not, List, [], ◌∷◌, ◌++◌, length, map, get_or, Option, Some, None, is_some, unwrap_or, option_and_then, Result, Ok, Err, refl, ap, ap₂, sym, ◌∙◌}
use Rattle.std.specs.List.{list_all, All, AllByRecursion}
use Rattle.std.specs.Str.{bytes_eq}
use Rattle.std.proofs.lemmas.Bool.{false≢true}
use Rattle.std.proofs.lemmas.List.{get_or-map}
use Rattle.std.proofs.lemmas.List.Elements.{recursion_from_All, All-get_or}
use Rattle.std.proofs.lemmas.List.Folds.{list_all-append}
use Rattle.std.proofs.lemmas.List.Quantifiers.{position-Some}
use Rattle.sem_query.specs.declared.atom.Attr.{Attr}
use Rattle.sem_query.specs.declared.atom.Atom.{Atom}
use Rattle.sem_query.specs.declared.atom.Element.{Element}
use Rattle.sem_query.specs.declared.atom.Element.TheVariants as element
use Rattle.sem_query.specs.Query.{QueryValue}
use Rattle.sql_catalog.specs.Streams.{Shape, stream_number, column_place, column_at, no_column, shape_at, all_differ}
use Rattle.sql_parser.specs.declared.tree.ColumnAst.{ColumnAst}
use Rattle.sql_parser.specs.declared.tree.OperandAst.{OperandAst}
use Rattle.sql_parser.specs.declared.tree.OperandAst.TheVariants.{Column, Integer}
use Rattle.sql_parser.specs.declared.tree.AtomAst.{AtomAst}
use Rattle.sql_parser.specs.declared.tree.SelectAst.{SelectAst}
use Rattle.sql_parser.specs.declared.resolution.ResolveError.{ResolveError}
use Rattle.sql_parser.specs.declared.resolution.ResolveError.TheVariants.{UnknownStream, UnknownColumn, SelfJoin}
use Rattle.sql_parser.specs.Limits.{column_in, columns_in}
use Rattle.sql_parser.specs.Laws.{NamesBack, NamesStay}
use Rattle.sql_parser.specs.Resolution.{place_in, place_under, number_for, has_streams, has_columns, attr_for, element_for, atom_for, query_for, resolved, IsColumnOf, HasSide, HasSides, stream_named, column_named, operand_named, atom_named, named_select}
use Rattle.sql_parser.proofs.Taken.{same_names, both_left, both_right, some_is, known, named}
use Rattle.sql_parser.proofs.Placed.{shape_stays}

-- a step on from something is one from something
from_some : (f : ℕ → Option ℕ) (o : Option ℕ) → is_some (option_and_then f o) ≡ true → is_some o ≡ true
from_some f None h = absurd (false≢true h)
from_some f (Some n) h = refl

module _ (streams : List Shape) where
  names_again : (names : List (List ℕ)) → known streams names ≡ true → map (stream_named streams) (map (number_for streams) names) ≡ names
  names_again [] h = refl
  names_again (n ∷ names) h = ap₂ (λ m ms. m ∷ ms) (named streams n (both_left _ _ h)) (names_again names (both_right (is_some (stream_number streams n)) _ h))

  column_is : (c : ColumnAst) (o : Option ℕ) (k : ℕ) → option_and_then (λ n. column_place (shape_at streams n).columns c.column) o ≡ Some k → column_at (shape_at streams (unwrap_or o 0)).columns k ≡ c.column
  column_is c None k h = cc
  column_is c (Some n) k h = same_names _ _ (position-Some (λ d. bytes_eq d.name c.column) (shape_at streams n).columns k no_column h).1

  module _ (from : List (List ℕ)) where
    abbrev numbers : List ℕ
    numbers = map (number_for streams) from

    abbrev IsPlaced : ColumnAst → Bool
    IsPlaced c = is_some (place_in from c)

    abbrev IsUnder : ColumnAst → Bool
    IsUnder c = is_some (place_under streams c)

    column_again : (c : ColumnAst) → IsPlaced c ≡ true → IsUnder c ≡ true → column_named streams numbers (attr_for streams from c) ≡ c
    column_again c h k =
        let i : ℕ = unwrap_or (place_in from c) 0 in
        let place : ℕ = unwrap_or (place_under streams c) 0 in
        let found = position-Some (λ name. bytes_eq name c.stream) from i [] (some_is (place_in from c) h) in
        let number : get_or numbers i 0 ≡ number_for streams c.stream = get_or-map (number_for streams) from i [] 0 found.0 ∙ ap (number_for streams) (same_names _ _ found.1) in
        let there = from_some (λ n. column_place (shape_at streams n).columns c.column) (stream_number streams c.stream) k in
        ap₂ (λ s d. let r : ColumnAst = record { stream = s; column = d } in r)
        (ap (stream_named streams) number ∙ named streams c.stream there)
        (ap (λ n. column_at (shape_at streams n).columns place) number ∙ column_is c (stream_number streams c.stream) place (some_is (place_under streams c) k))

    columns_again : (cs : List ColumnAst) → list_all IsPlaced cs ≡ true → list_all IsUnder cs ≡ true → map (column_named streams numbers) (map (attr_for streams from) cs) ≡ cs
    columns_again [] h k = refl
    columns_again (c ∷ cs) h k =
        ap₂ (λ d ds. d ∷ ds) (column_again c (both_left (IsPlaced c) _ h) (both_left (IsUnder c) _ k))
        (columns_again cs (both_right (IsPlaced c) _ h) (both_right (IsUnder c) _ k))

    operand_again : (o : OperandAst) → list_all IsPlaced (column_in o) ≡ true → list_all IsUnder (column_in o) ≡ true → operand_named streams numbers (element_for streams from o) ≡ o
    operand_again (Column c) h k = ap Column (column_again c (both_left (IsPlaced c) _ h) (both_left (IsUnder c) _ k))
    operand_again (Integer z) h k = refl

    atom_again : (a : AtomAst) → list_all IsPlaced (column_in a.left ++ column_in a.right) ≡ true → list_all IsUnder (column_in a.left ++ column_in a.right) ≡ true → atom_named streams numbers (atom_for streams from a) ≡ a
    atom_again a h k =
        let p = sym (list_all-append IsPlaced (column_in a.left) (column_in a.right)) ∙ h in
        let u = sym (list_all-append IsUnder (column_in a.left) (column_in a.right)) ∙ k in
        ap₂ (λ l r. let b : AtomAst = record { left = l; op = a.op; right = r } in b)
        (operand_again a.left (both_left _ _ p) (both_left _ _ u))
        (operand_again a.right (both_right (list_all IsPlaced (column_in a.left)) _ p) (both_right (list_all IsUnder (column_in a.left)) _ u))

    atoms_again : (atoms : List AtomAst) → list_all IsPlaced (columns_in atoms) ≡ true → list_all IsUnder (columns_in atoms) ≡ true → map (atom_named streams numbers) (map (atom_for streams from) atoms) ≡ atoms
    atoms_again [] h k = refl
    atoms_again (a ∷ atoms) h k =
        let cs = column_in a.left ++ column_in a.right in
        let p = sym (list_all-append IsPlaced cs (columns_in atoms)) ∙ h in
        let u = sym (list_all-append IsUnder cs (columns_in atoms)) ∙ k in
        ap₂ (λ b bs. b ∷ bs) (atom_again a (both_left _ _ p) (both_left _ _ u))
        (atoms_again atoms (both_right (list_all IsPlaced cs) _ p) (both_right (list_all IsUnder cs) _ u))

  select_again : (s : SelectAst) → has_streams streams s ≡ true → has_columns streams s ≡ true → named_select streams (query_for streams s) ≡ s
  select_again s h k =
      let from = s.from.items in
      let selected = s.select.items in
      let atoms = s.atoms.items in
      let names = both_left (known streams from) _ h in
      let p = sym (list_all-append (IsPlaced from) selected (columns_in atoms)) ∙ both_right (known streams from) _ h in
      let u = sym (list_all-append (IsUnder from) selected (columns_in atoms)) ∙ k in
      let F : List ColumnAst → List (List ℕ) → List AtomAst → SelectAst = λ c n a. record { compact = s.compact; distinct = s.distinct; select = record { items = c }; from = record { items = n }; atoms = record { items = a } } in
      ap (λ c. F c (map (stream_named streams) (numbers from)) (map (atom_named streams (numbers from)) (map (atom_for streams from) atoms))) (columns_again from selected (both_left _ _ p) (both_left _ _ u))
      ∙ ap (λ n. F selected n (map (atom_named streams (numbers from)) (map (atom_for streams from) atoms))) (names_again from names)
      ∙ ap (λ a. F selected from a) (atoms_again from atoms (both_right (list_all (IsPlaced from) selected) _ p) (both_right (list_all (IsUnder from) selected) _ u))

-- what was found by all tests
record Found (a b : Bool) (p q : QueryValue) : Type 0 where
  first : a ≡ true
  second : b ≡ true
  same : p ≡ q

found_by : (a b c : Bool) (p q : QueryValue) → cond {A = Result QueryValue ResolveError} (not a) (Err UnknownStream) (cond (not b) (Err UnknownColumn) (cond (not c) (Err SelfJoin) (Ok p))) ≡ Ok q → Found a b p q
found_by true true true p q e = record { first = refl; second = refl; same = cc }
found_by true true false p q e = cc
found_by true false c p q e = cc
found_by false b c p q e = cc

pub names_back : NamesBack
unfolding resolved
names_back streams s q e =
    let f = found_by (has_streams streams s) (has_columns streams s) (all_differ s.from.items) (query_for streams s) q e in
    ap (named_select streams) (sym f.same) ∙ select_again streams s f.first f.second

-- two functions that give the same for each element
map_alike : {X Y : Type 0} (P : X → Type 0) (f g : X → Y) → ((x : X) → P x → f x ≡ g x) → (xs : List X) → AllByRecursion P xs → map f xs ≡ map g xs
map_alike P f g each [] h = refl
map_alike P f g each (x ∷ xs) h = ap₂ (λ y ys. y ∷ ys) (each x h.0) (map_alike P f g each xs h.1)

module _ (streams more : List Shape) (from : List ℕ) (there : All (λ n. n < length streams) from) where
  stream_stays : (n : ℕ) → n < length streams → stream_named (streams ++ more) n ≡ stream_named streams n
  stream_stays n inside = ap (λ (s : Shape). s.name) (shape_stays streams more n inside)

  column_stays : (a : Attr) → IsColumnOf streams from a → column_named (streams ++ more) from a ≡ column_named streams from a
  column_stays a h =
      let n : ℕ = get_or from a.stream 0 in
      let inside : n < length streams = All-get_or (λ m. m < length streams) from a.stream 0 h.stream there in
      ap (λ (s : Shape). let r : ColumnAst = record { stream = s.name; column = column_at s.columns a.column } in r) (shape_stays streams more n inside)

  side_stays : (e : Element) → HasSide streams from e → operand_named (streams ++ more) from e ≡ operand_named streams from e
  side_stays (element.Attr a) h = ap Column (column_stays a h)
  side_stays (element.Const k) h = refl

  atom_stays : (t : Atom) → HasSides streams from t → atom_named (streams ++ more) from t ≡ atom_named streams from t
  atom_stays t h = ap₂ (λ l r. let a : AtomAst = record { left = l; op = t.op; right = r } in a) (side_stays t.left h.0) (side_stays t.right h.1)

pub names_stay : NamesStay
names_stay streams more q there =
    let from = q.from in
    let both = streams ++ more in
    let F : List ColumnAst → List (List ℕ) → List AtomAst → SelectAst = λ c n a. record { compact = q.compact; distinct = q.distinct; select = record { items = c }; from = record { items = n }; atoms = record { items = a } } in
    ap (λ c. F c (map (stream_named both) from) (map (atom_named both from) q.atoms))
    (map_alike (IsColumnOf streams from) (column_named both from) (column_named streams from) (column_stays streams more from there.from) q.select (recursion_from_All (IsColumnOf streams from) q.select there.select))
    ∙ ap (λ n. F (map (column_named streams from) q.select) n (map (atom_named both from) q.atoms))
    (map_alike (λ n. n < length streams) (stream_named both) (stream_named streams) (stream_stays streams more from there.from) from (recursion_from_All (λ n. n < length streams) from there.from))
    ∙ ap (λ a. F (map (column_named streams from) q.select) (map (stream_named streams) from) a)
    (map_alike (HasSides streams from) (atom_named both from) (atom_named streams from) (atom_stays streams more from there.from) q.atoms (recursion_from_All (HasSides streams from) q.atoms there.atoms))
