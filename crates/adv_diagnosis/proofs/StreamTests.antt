-- Streams that cannot be added, and queries that cannot be decided on, test by test.
use Rattle.std.proofs.Common.{◌≡◌, ℕ, ◌<◌, ◌≤◌, Bool, true, false, cond, not, ◌||◌, nat_lt, nat_le, List, length, Some, None, Result, Ok, Err, refl, ap, sym, ◌∙◌, arith}
use Rattle.std.specs.List.{list_any}
use Rattle.std.specs.Str.{bytes_eq}
use Rattle.std.proofs.lemmas.Bool.Decides.{nat_tests}
use Rattle.sql_catalog.specs.declared.column.ColumnDef.{ColumnDef}
use Rattle.sql_catalog.specs.declared.stream_error.StreamError.{StreamError}
use Rattle.sql_catalog.specs.declared.stream_error.StreamError.TheVariants.{Duplicate, TooMany}
use Rattle.sql_catalog.specs.Streams.{Shape, added, all_differ, column_names}
use Rattle.sql_replies.specs.declared.refusal.Refusal.{Refusal}
use Rattle.sql_replies.specs.declared.refusal.Refusal.TheVariants as words
use Rattle.adv_diagnosis.specs.declared.fault.Asks.{Asks}
use Rattle.adv_diagnosis.specs.Asked.{is_live, query_asked}
use Rattle.sql_parser.specs.declared.tree.Statement.{Statement}
use Rattle.adv_diagnosis.specs.Faults.{first_repeated, name_in, IsNewStream, IsNewQuery}
use Rattle.adv_diagnosis.proofs.NamesThere.{none_repeated, one_repeated}

-- what adding a stream gives, by three tests
added_by : (streams : List Shape) (name : List ℕ) (columns : List ColumnDef) (a b c : Bool) → list_any (λ (s : Shape). bytes_eq s.name name) streams ≡ a → all_differ (column_names columns) ≡ b → nat_lt (length streams) 16 ≡ c
    → added streams (record { name = name; columns = columns }) ≡ cond (a || not b) (Err Duplicate) (cond c (Ok (length streams)) (Err TooMany))
added_by streams name columns a b c p q r =
    let R : Bool → Bool → Bool → Result ℕ StreamError = λ x y z. cond (x || not y) (Err Duplicate) (cond z (Ok (length streams)) (Err TooMany)) in
    ap (λ x. R x (all_differ (column_names columns)) (nat_lt (length streams) 16)) p ∙ ap (λ y. R a y (nat_lt (length streams) 16)) q ∙ ap (λ z. R a b z) r

-- two columns have one name
pub added_twice : (streams : List Shape) (name : List ℕ) (columns : List ColumnDef) (x : List ℕ) → list_any (λ (s : Shape). bytes_eq s.name name) streams ≡ false → first_repeated (column_names columns) ≡ Some x
    → added streams (record { name = name; columns = columns }) ≡ Err Duplicate
added_twice streams name columns x p q = added_by streams name columns false false (nat_lt (length streams) 16) p (one_repeated (column_names columns) x q) refl

-- there are 16 streams
pub added_beyond : (streams : List Shape) (name : List ℕ) (columns : List ColumnDef) → list_any (λ (s : Shape). bytes_eq s.name name) streams ≡ false → first_repeated (column_names columns) ≡ None → nat_lt (length streams) 16 ≡ false
    → added streams (record { name = name; columns = columns }) ≡ Err TooMany
added_beyond streams name columns p q r = added_by streams name columns false true false p (none_repeated (column_names columns) q) r

-- the stream can be added
pub added_last : (streams : List Shape) (name : List ℕ) (columns : List ColumnDef) → list_any (λ (s : Shape). bytes_eq s.name name) streams ≡ false → first_repeated (column_names columns) ≡ None → nat_lt (length streams) 16 ≡ true
    → added streams (record { name = name; columns = columns }) ≡ Ok (length streams)
added_last streams name columns p q r = added_by streams name columns false true true p (none_repeated (column_names columns) q) r

pub not_true : (b : Bool) → not b ≡ true → b ≡ false
not_true true h = cc
not_true false h = refl

pub not_false : (b : Bool) → not b ≡ false → b ≡ true
not_false true h = refl
not_false false h = cc

pub at_least : (n : ℕ) → nat_lt n 16 ≡ false → 16 ≤ n
at_least n h = grind (arith, nat_tests)

same_name_in : (name n : List ℕ) → Some name ≡ Some n → name ≡ n
same_name_in name n e = cc

-- the name of a stream that is new is new
pub new_stream : (streams : List Shape) (name : List ℕ) (s : Statement) → name_in s ≡ Some name → list_any (λ (x : Shape). bytes_eq x.name name) streams ≡ false → IsNewStream streams s
new_stream streams name s named e n is = ap (λ m. list_any (λ (x : Shape). bytes_eq x.name m) streams) (sym (same_name_in name n (sym named ∙ is))) ∙ e

-- the name of a query that is new is new
pub new_query : (live : List (List ℕ)) (name : List ℕ) (s : Statement) → name_in s ≡ Some name → is_live live name ≡ false → IsNewQuery live s
new_query live name s named e n is = ap (is_live live) (sym (same_name_in name n (sym named ∙ is))) ∙ e

few : (n : ℕ) → n < 64 → nat_le 64 n ≡ false
few n h = grind (arith, nat_tests)

-- a query whose names stand for none, under a name that no live query has
pub name_refused : (live : List (List ℕ)) (name : List ℕ) (named : Result Asks Refusal) (word : Refusal) → is_live live name ≡ false → length live < 64 → named ≡ Err word → Err word ≡ query_asked live name named
name_refused live name named word p l e =
    sym (ap (λ b. cond b (Err words.Duplicate) (cond (nat_le 64 (length live)) (Err words.TooMany) named)) p ∙ ap (λ b. cond b (Err words.TooMany) named) (few (length live) l) ∙ e)
