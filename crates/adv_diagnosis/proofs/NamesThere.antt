-- Names of a query that stand for none: the first that fails a test, and whether all pass it.
use Rattle.std.proofs.Common.{◌≡◌, ℕ, Bool, true, false, cond, not, ◌&&◌, List, [], ◌∷◌, Option, Some, None, Result, Ok, Err, refl, ap, ◌∙◌, is_some}
use Rattle.std.specs.List.{find, list_all, list_any}
use Rattle.std.specs.Str.{bytes_eq}
use Rattle.sem_query.specs.Query.{QueryValue}
use Rattle.sql_catalog.specs.Streams.{Shape, all_differ, stream_number}
use Rattle.sql_parser.specs.declared.tree.ColumnAst.{ColumnAst}
use Rattle.sql_parser.specs.declared.tree.SelectAst.{SelectAst}
use Rattle.sql_parser.specs.declared.resolution.ResolveError.{ResolveError}
use Rattle.sql_parser.specs.declared.resolution.ResolveError.TheVariants.{UnknownStream, UnknownColumn, SelfJoin}
use Rattle.sql_parser.specs.Resolution.{resolved, query_for, has_streams, has_columns, named_columns, place_in, place_under}
use Rattle.sql_replies.specs.declared.refusal.Refusal.{Refusal}
use Rattle.sql_replies.specs.declared.refusal.Refusal.TheVariants as words
use Rattle.adv_diagnosis.specs.Asked.{lock_asked}
use Rattle.adv_diagnosis.specs.declared.fault.Asks.{Asks}
use Rattle.adv_diagnosis.specs.declared.fault.Fault.TheVariants as faults
use Rattle.adv_diagnosis.specs.Faults.{HasNameFault, first_repeated, is_no_stream, is_not_from, is_no_column}

pass_first : {X : Type 0} (b : Bool) (x : X) (o : Option X) (l : Bool) → cond (not b) (Some x) o ≡ None → (o ≡ None → l ≡ true) → (b && l) ≡ true
pass_first true x o l e h = h e
pass_first false x o l e h = cc

all_pass : {X : Type 0} (p : X → Bool) (xs : List X) → find (λ x. not (p x)) xs ≡ None → list_all p xs ≡ true
all_pass p [] e = refl
all_pass p (x ∷ xs) e = pass_first (p x) x (find (λ y. not (p y)) xs) (list_all p xs) e (all_pass p xs)

fail_first : {X : Type 0} (b : Bool) (x y : X) (o : Option X) (l : Bool) → cond (not b) (Some x) o ≡ Some y → (o ≡ Some y → l ≡ false) → (b && l) ≡ false
fail_first true x y o l e h = h e
fail_first false x y o l e h = refl

one_fails : {X : Type 0} (p : X → Bool) (xs : List X) (y : X) → find (λ x. not (p x)) xs ≡ Some y → list_all p xs ≡ false
one_fails p [] y e = cc
one_fails p (x ∷ xs) y e = fail_first (p x) x y (find (λ z. not (p z)) xs) (list_all p xs) e (one_fails p xs y)

alone_first : (b : Bool) (x : List ℕ) (o : Option (List ℕ)) (l : Bool) → cond b (Some x) o ≡ None → (o ≡ None → l ≡ true) → (not b && l) ≡ true
alone_first true x o l e h = cc
alone_first false x o l e h = h e

-- no name stands among those behind it
pub none_repeated : (names : List (List ℕ)) → first_repeated names ≡ None → all_differ names ≡ true
none_repeated [] e = refl
none_repeated (x ∷ xs) e = alone_first (list_any (bytes_eq x) xs) x (first_repeated xs) (all_differ xs) e (none_repeated xs)

twice_first : (b : Bool) (x y : List ℕ) (o : Option (List ℕ)) (l : Bool) → cond b (Some x) o ≡ Some y → (o ≡ Some y → l ≡ false) → (not b && l) ≡ false
twice_first true x y o l e h = refl
twice_first false x y o l e h = h e

-- a name stands among those behind it
pub one_repeated : (names : List (List ℕ)) (y : List ℕ) → first_repeated names ≡ Some y → all_differ names ≡ false
one_repeated [] y e = cc
one_repeated (x ∷ xs) y e = twice_first (list_any (bytes_eq x) xs) x y (first_repeated xs) (all_differ xs) e (one_repeated xs y)

-- what the names of a query stand for, by three tests
resolved_by : (streams : List Shape) (s : SelectAst) (a b c : Bool) → has_streams streams s ≡ a → has_columns streams s ≡ b → all_differ s.from.items ≡ c
    → resolved streams s ≡ cond (not a) (Err UnknownStream) (cond (not b) (Err UnknownColumn) (cond (not c) (Err SelfJoin) (Ok (query_for streams s))))
unfolding resolved
resolved_by streams s a b c p q r =
    let chain : Bool → Bool → Bool → Result QueryValue ResolveError = λ x y z. cond (not x) (Err UnknownStream) (cond (not y) (Err UnknownColumn) (cond (not z) (Err SelfJoin) (Ok (query_for streams s)))) in
    ap (λ x. chain x (has_columns streams s) (all_differ s.from.items)) p ∙ ap (λ y. chain a y (all_differ s.from.items)) q ∙ ap (λ z. chain a b z) r

left_false : (a b : Bool) → a ≡ false → (a && b) ≡ false
left_false true b e = cc
left_false false b e = refl

both : (a b : Bool) (c : Bool) → a ≡ true → b ≡ c → (a && b) ≡ c
both true b c p q = q
both false b c p q = cc

-- a name of FROM is no stream
pub no_stream : (streams : List Shape) (s : SelectAst) (name : List ℕ) → find (is_no_stream streams) s.from.items ≡ Some name → HasNameFault streams s (faults.NoStream name)
no_stream streams s name e = record {
  error = UnknownStream;
  refused = resolved_by streams s false (has_columns streams s) (all_differ s.from.items) (left_false (list_all (λ n. is_some (stream_number streams n)) s.from.items) (list_all (λ c. is_some (place_in s.from.items c)) (named_columns s)) (one_fails (λ n. is_some (stream_number streams n)) s.from.items name e)) refl refl;
  word = refl;
  fact = λ live n shared may. (may, e);
}

-- the names of FROM are streams
names_there : (streams : List Shape) (s : SelectAst) (b : Bool) → find (is_no_stream streams) s.from.items ≡ None → list_all (λ c. is_some (place_in s.from.items c)) (named_columns s) ≡ b → has_streams streams s ≡ b
names_there streams s b e f = both (list_all (λ n. is_some (stream_number streams n)) s.from.items) (list_all (λ c. is_some (place_in s.from.items c)) (named_columns s)) b (all_pass (λ n. is_some (stream_number streams n)) s.from.items e) f

-- the stream of a column is not in FROM
pub not_in_from : (streams : List Shape) (s : SelectAst) (column : ColumnAst) → find (is_no_stream streams) s.from.items ≡ None → find (is_not_from s.from.items) (named_columns s) ≡ Some column → HasNameFault streams s (faults.NotInFrom column)
not_in_from streams s column e f = record {
  error = UnknownStream;
  refused = resolved_by streams s false (has_columns streams s) (all_differ s.from.items) (names_there streams s false e (one_fails (λ c. is_some (place_in s.from.items c)) (named_columns s) column f)) refl refl;
  word = refl;
  fact = λ live n shared may. (may, e, f);
}

-- a column is none of its stream
pub no_column : (streams : List Shape) (s : SelectAst) (column : ColumnAst) → find (is_no_stream streams) s.from.items ≡ None → find (is_not_from s.from.items) (named_columns s) ≡ None
    → find (is_no_column streams) (named_columns s) ≡ Some column → HasNameFault streams s (faults.NoColumn column)
no_column streams s column e f g = record {
  error = UnknownColumn;
  refused = resolved_by streams s true false (all_differ s.from.items) (names_there streams s true e (all_pass (λ c. is_some (place_in s.from.items c)) (named_columns s) f)) (one_fails (λ c. is_some (place_under streams c)) (named_columns s) column g) refl;
  word = refl;
  fact = λ live n shared may. (may, e, f, g);
}

-- a stream stands in FROM twice
pub self_join : (streams : List Shape) (s : SelectAst) (name : List ℕ) → find (is_no_stream streams) s.from.items ≡ None → find (is_not_from s.from.items) (named_columns s) ≡ None
    → find (is_no_column streams) (named_columns s) ≡ None → first_repeated s.from.items ≡ Some name → HasNameFault streams s (faults.SelfJoin name)
self_join streams s name e f g h = record {
  error = SelfJoin;
  refused = resolved_by streams s true true false (names_there streams s true e (all_pass (λ c. is_some (place_in s.from.items c)) (named_columns s) f)) (all_pass (λ c. is_some (place_under streams c)) (named_columns s) g) (one_repeated s.from.items name h);
  word = refl;
  fact = λ live n shared may. (may, e, f, g, h);
}

-- the streams of a lock are there, each once, or not, by two tests
lock_by : (streams : List Shape) (names : List (List ℕ)) (lock : Asks) (a b : Bool) → all_differ names ≡ a → list_all (λ n. is_some (stream_number streams n)) names ≡ b
    → lock_asked streams names lock ≡ cond (not a) (Err words.Duplicate) (cond (not b) (Err words.UnknownStream) (Ok lock))
lock_by streams names lock a b p q =
    let chain : Bool → Bool → Result Asks Refusal = λ x y. cond (not x) (Err words.Duplicate) (cond (not y) (Err words.UnknownStream) (Ok lock)) in
    ap (λ x. chain x (list_all (λ n. is_some (stream_number streams n)) names)) p ∙ ap (λ y. chain a y) q

pub lock_twice : (streams : List Shape) (names : List (List ℕ)) (lock : Asks) (name : List ℕ) → first_repeated names ≡ Some name → lock_asked streams names lock ≡ Err words.Duplicate
lock_twice streams names lock name e = lock_by streams names lock false (list_all (λ n. is_some (stream_number streams n)) names) (one_repeated names name e) refl

pub lock_no_stream : (streams : List Shape) (names : List (List ℕ)) (lock : Asks) (name : List ℕ) → first_repeated names ≡ None → find (is_no_stream streams) names ≡ Some name → lock_asked streams names lock ≡ Err words.UnknownStream
lock_no_stream streams names lock name e f = lock_by streams names lock true false (none_repeated names e) (one_fails (λ n. is_some (stream_number streams n)) names name f)

pub lock_there : (streams : List Shape) (names : List (List ℕ)) (lock : Asks) → first_repeated names ≡ None → find (is_no_stream streams) names ≡ None → lock_asked streams names lock ≡ Ok lock
lock_there streams names lock e f = lock_by streams names lock true true (none_repeated names e) (all_pass (λ n. is_some (stream_number streams n)) names f)

-- all names are there
pub all_there : (streams : List Shape) (s : SelectAst) → find (is_no_stream streams) s.from.items ≡ None → find (is_not_from s.from.items) (named_columns s) ≡ None
    → find (is_no_column streams) (named_columns s) ≡ None → first_repeated s.from.items ≡ None → resolved streams s ≡ Ok (query_for streams s)
all_there streams s e f g h =
    resolved_by streams s true true true (names_there streams s true e (all_pass (λ c. is_some (place_in s.from.items c)) (named_columns s) f)) (all_pass (λ c. is_some (place_under streams c)) (named_columns s) g) (none_repeated s.from.items h)
