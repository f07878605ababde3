-- How long the short form is, with the words that are reserved nowhere in any case.
use Rattle.std.proofs.Common.{◌≡◌, ℕ, Bool, true, false, List, [], ◌∷◌, ◌++◌, length, codes, ℤ, Option, Some, None, refl, arith, length-append}
use Rattle.sql_text.specs.declared.key.Key.TheVariants.{QueryKey, AsKey}
use Rattle.sql_parser.specs.declared.tree.Statement.{Statement}
use Rattle.sql_parser.specs.declared.tree.Statement.TheVariants.{CreateStream, CreateQuery, Explain, DropQuery, Checkpoint, ResumeRows, ResumeGiven, ResumeCell, ResumeTuple, Lock, Unlock}
use Rattle.sql_parser.specs.Grammar.{Lexeme, word, number, key, comma, separated, name_tokens, select_tokens, FreeWords, tokens_with, written, capitals, IsSpelling}
use Rattle.std.specs.Fmt.{signed_decimal}
use Rattle.sql_printer.specs.Printed.{gap_by, joins_short, spaced_by, short_form}
use Rattle.sql_parser.proofs.Compact.{create_tokens, lock_tokens, spelling_length, lock_length, unlock_length, to_length}

size_behind : (front w v rest : List ℕ) → length w ≡ length v → length (front ++ (w ++ rest)) ≡ length (front ++ (v ++ rest))
size_behind front w v rest e = omega (arith, e, length-append front (w ++ rest), length-append front (v ++ rest), length-append w rest, length-append v rest)

size_by : (w v : List ℕ) (shared k : Bool) (more : List Lexeme) → length w ≡ length v → length (spaced_by joins_short (create_tokens (word w ∷ []) shared k more)) ≡ length (spaced_by joins_short (create_tokens (word v ∷ []) shared k more))
size_by w v true true more e = size_behind (codes "CREATE SHARED ") w v (32 ∷ spaced_by joins_short (key QueryKey ∷ more)) e
size_by w v false true more e = size_behind (codes "CREATE ") w v (32 ∷ spaced_by joins_short (key QueryKey ∷ more)) e
size_by w v true false more e = refl
size_by w v false false more e = refl

to_size : (w v n : List ℕ) (ns : List (List ℕ)) → length w ≡ length v → length (spaced_by joins_short (word w ∷ separated comma name_tokens (n ∷ ns))) ≡ length (spaced_by joins_short (word v ∷ separated comma name_tokens (n ∷ ns)))
to_size w v n [] e = size_behind [] w v (32 ∷ spaced_by joins_short (separated comma name_tokens (n ∷ []))) e
to_size w v n (m ∷ ns) e = size_behind [] w v (32 ∷ spaced_by joins_short (separated comma name_tokens (n ∷ m ∷ ns))) e

sum_of : (w v a b : List ℕ) → length w ≡ length v → length a ≡ length b → length (w ++ a) ≡ length (v ++ b)
sum_of w v a b e f = omega (arith, e, f, length-append w a, length-append v b)

lock_size : (w : FreeWords (List ℕ)) (k : Option ℤ) (names : List (List ℕ)) → IsSpelling w → length (spaced_by joins_short (lock_tokens (written w) k names)) ≡ length (spaced_by joins_short (lock_tokens (written capitals) k names))
lock_size w None [] h = lock_length w.lock h.lock
lock_size w (Some z) [] h = size_behind [] w.lock (codes "LOCK") (gap_by joins_short (word (codes "LOCK")) (number z) ++ signed_decimal z) (lock_length w.lock h.lock)
lock_size w None (n ∷ ns) h =
    let names = separated comma name_tokens (n ∷ ns) in
    sum_of w.lock (codes "LOCK") (32 ∷ spaced_by joins_short (word w.to ∷ names)) (32 ∷ spaced_by joins_short (word (codes "TO") ∷ names)) (lock_length w.lock h.lock) (omega (arith, to_size w.to (codes "TO") n ns (to_length w.to h.to)))
lock_size w (Some z) (n ∷ ns) h =
    let names = separated comma name_tokens (n ∷ ns) in
    let gap = gap_by joins_short (word (codes "LOCK")) (number z) in
    sum_of w.lock (codes "LOCK") (gap ++ (signed_decimal z ++ spaced_by joins_short (word w.to ∷ names))) (gap ++ (signed_decimal z ++ spaced_by joins_short (word (codes "TO") ∷ names))) (lock_length w.lock h.lock)
    (sum_of gap gap (signed_decimal z ++ spaced_by joins_short (word w.to ∷ names)) (signed_decimal z ++ spaced_by joins_short (word (codes "TO") ∷ names)) refl
    (sum_of (signed_decimal z) (signed_decimal z) (spaced_by joins_short (word w.to ∷ names)) (spaced_by joins_short (word (codes "TO") ∷ names)) refl (to_size w.to (codes "TO") n ns (to_length w.to h.to))))

-- the short form is as long with each spelling
pub size_with : (w : FreeWords (List ℕ)) (s : Statement) → IsSpelling w → length (spaced_by joins_short (tokens_with (written w) s)) ≡ length (short_form s)
size_with w (CreateQuery name select shared) h = size_by w.compact (codes "COMPACT") shared select.compact (word name ∷ key AsKey ∷ select_tokens select) (spelling_length w.compact h.compact)
size_with w (Lock k streams) h = lock_size w k streams.items h
size_with w (Unlock k) h = size_behind [] w.unlock (codes "UNLOCK") (gap_by joins_short (word (codes "UNLOCK")) (number k) ++ signed_decimal k) (unlock_length w.unlock h.unlock)
size_with w (CreateStream name columns) h = refl
size_with w (Explain name) h = refl
size_with w (DropQuery name) h = refl
size_with w Checkpoint h = refl
size_with w (ResumeRows rows) h = refl
size_with w (ResumeGiven name rows) h = refl
size_with w (ResumeCell name index content) h = refl
size_with w (ResumeTuple name values) h = refl
