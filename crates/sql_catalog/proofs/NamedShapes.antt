-- Entries of a map from name to columns, as streams.
use Rattle.std.proofs.Common.{◌≡◌, ℕ, suc, ◌+◌, ◌<◌, Bool, true, false, cond, ◌||◌, not, nat_lt, List, [], ◌∷◌, ◌++◌, length, Option, Some, None, Result, Ok, Err, IsOk, OnOk, HashMap, refl, ap, sym, ◌∙◌, is_some, arith, lt-ltb, ◌≤◌}
use Rattle.std.proofs.lemmas.Bool.Decides.{nat_tests}
use Rattle.std.proofs.lemmas.List.{map-append}
use Rattle.std.proofs.lemmas.List.Sums.{position_or_len_is}
use Rattle.indexmap.specs.IndexMap.{insert_entry}
use Rattle.indexmap.proofs.CallerLemmas.{insert_entry-new}
use Rattle.std.specs.List.{list_any, position, position_or_len}
use Rattle.std.specs.Str.{bytes_eq}
use Rattle.std.specs.Map.{lookup, keys_of}
use Rattle.std.proofs.lemmas.Cmp.{nat_list_eq_equiv}
use Rattle.sql_catalog.specs.declared.column.ColumnDef.{ColumnDef}
use Rattle.sql_catalog.specs.Streams.{Shape, shapes_of, shape_at, stream_number}

abbrev Entries : Type 0
Entries = List (List ℕ × List ColumnDef)

symmetric : (x y : List ℕ) → bytes_eq x y ≡ bytes_eq y x
symmetric x y = nat_list_eq_equiv.symm x y

not_below : (n : ℕ) → nat_lt n n ≡ false
not_below n = grind (arith, nat_tests)

-- the number of shapes is that of entries
pub length-shapes : (es : Entries) → length (shapes_of es) ≡ length es
length-shapes [] = refl
length-shapes (e ∷ es) = ap suc (length-shapes es)

place-shapes : (name : List ℕ) (es : Entries) → position_or_len (bytes_eq name) (keys_of es) ≡ position_or_len (λ (s : Shape). bytes_eq s.name name) (shapes_of es)
place-shapes name [] = refl
place-shapes name (e ∷ es) =
    ap (λ b. cond (not b) (1 + position_or_len (bytes_eq name) (keys_of es)) 0) (symmetric name e.0)
    ∙ ap (λ n. cond (not (bytes_eq e.0 name)) (1 + n) 0) (place-shapes name es)

length-keys : (es : Entries) → length (keys_of es) ≡ length (shapes_of es)
length-keys [] = refl
length-keys (e ∷ es) = ap suc (length-keys es)

-- the place of a name is its stream's number
pub position-shapes : (name : List ℕ) (es : Entries) → position (bytes_eq name) (keys_of es) ≡ stream_number (shapes_of es) name
position-shapes name es =
    ap (λ n. cond (nat_lt n (length (keys_of es))) (Some n) None) (place-shapes name es)
    ∙ ap (λ m. cond (nat_lt (position_or_len (λ (s : Shape). bytes_eq s.name name) (shapes_of es)) m) (Some (position_or_len (λ (s : Shape). bytes_eq s.name name) (shapes_of es))) None) (length-keys es)

-- a name is looked up among the names of streams
pub any-shapes : (name : List ℕ) (es : Entries) → is_some (lookup (bytes_eq name) es) ≡ list_any (λ (s : Shape). bytes_eq s.name name) (shapes_of es)
any-shapes name [] = refl
any-shapes name (e ∷ es) = by (bytes_eq name e.0) (symmetric name e.0) (any-shapes name es)
  where
    by : (b : Bool) → b ≡ bytes_eq e.0 name → is_some (lookup (bytes_eq name) es) ≡ list_any (λ (s : Shape). bytes_eq s.name name) (shapes_of es)
        → is_some (cond b (Some e.1) (lookup (bytes_eq name) es)) ≡ list_any (λ (s : Shape). bytes_eq s.name name) (shapes_of (e ∷ es))
    by true h ih = ap (λ b. b || list_any (λ (s : Shape). bytes_eq s.name name) (shapes_of es)) h
    by false h ih = ih ∙ ap (λ b. b || list_any (λ (s : Shape). bytes_eq s.name name) (shapes_of es)) h

-- a stream whose name is the first that is this one
pub number-found : (streams : List Shape) (name : List ℕ) (i : ℕ) → i < length streams → bytes_eq (shape_at streams i).name name ≡ true
    → ((k : ℕ) → k < i → bytes_eq (shape_at streams k).name name ≡ false) → Some i ≡ stream_number streams name
number-found streams name i room here before =
    let test : Shape → Bool = λ s. bytes_eq s.name name in
    let place : position_or_len test streams ≡ i = position_or_len_is test streams i (record { name = []; columns = [] }) (omega arith) before (λ _. here) in
    sym (ap (λ n. cond (nat_lt n (length streams)) (Some n) None) place ∙ ap (λ b. cond b (Some i) None) (lt-ltb _ _ room))

-- no stream has the name
pub number-none : (streams : List Shape) (name : List ℕ) (i : ℕ) → length streams ≤ i
    → ((k : ℕ) → k < i → bytes_eq (shape_at streams k).name name ≡ false) → None ≡ stream_number streams name
number-none streams name i past before =
    let test : Shape → Bool = λ s. bytes_eq s.name name in
    let n = length streams in
    let place : position_or_len test streams ≡ n = position_or_len_is test streams n (record { name = []; columns = [] }) (omega arith) (λ k lt. before k (omega arith)) (λ lt. absurd (omega arith)) in
    sym (ap (λ m. cond (nat_lt m n) (Some m) None) place ∙ ap (λ b. cond b (Some n) None) (not_below n))

none-from : {X : Type 0} (o : Option X) → is_some o ≡ false → o ≡ None
none-from None h = refl
none-from (Some x) h = cc

-- what holds where a call succeeds, which it does
pub succeeded : {T E : Type 0} (r : Result T E) (P : Type 0) → IsOk r → OnOk r P → P
succeeded (Ok x) P is h = h
succeeded (Err e) P is h = let wrong : false ≡ true = is in cc

-- a new name goes last
pub shapes-insert : {S : Type 0} (m : HashMap (List ℕ) (List ColumnDef) S) (name : List ℕ) (columns : List ColumnDef)
    → list_any (λ (s : Shape). bytes_eq s.name name) (shapes_of m.entries) ≡ false
    → shapes_of (insert_entry bytes_eq m.entries name columns) ≡ shapes_of m.entries ++ record { name = name; columns = columns } ∷ []
shapes-insert m name columns new =
    ap shapes_of (insert_entry-new bytes_eq m name columns (none-from _ (any-shapes name m.entries ∙ new)))
    ∙ map-append _ m.entries ((name, columns) ∷ [])
