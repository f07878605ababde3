-- How long printed statements are.
use Rattle.std.proofs.Common.{◌≡◌, ℕ, ◌+◌, ◌*◌, ◌<◌, ◌≤◌, ◌^◌, ℤ, pos, negsuc, Bool, true, false, cond, nat_lt, List, [], ◌∷◌, ◌++◌, map, length, Option, Some, None, IsTrue, refl, arith, length-append, suc}
use Rattle.std.specs.List.{AllByRecursion}
use Rattle.std.specs.Fmt.{signed_decimal}
use Rattle.std.proofs.lemmas.Bool.Decides.{nat_tests}
use Rattle.std.proofs.lemmas.Fmt.{length-decimal-le}
use Rattle.std.proofs.lemmas.Int.{ints}
use Rattle.sql_text.specs.declared.key.Key.TheVariants.{CreateKey, StreamKey, ResumeKey, AsKey, FromKey, SelectKey}
use Rattle.sql_text.specs.Value.{fits_i64}
use Rattle.sem_query.specs.Query.{IsShort}
use Rattle.sql_catalog.specs.declared.column.ColumnDef.{ColumnDef}
use Rattle.sql_parser.specs.declared.tree.Statement.TheVariants.{CreateStream, ResumeRows, ResumeGiven, ResumeCell, ResumeTuple}
use Rattle.sql_parser.specs.Grammar.{Lexeme, word, number, key, comma, opening, closing, separated, domain_tokens, coldef_tokens}
use Rattle.sql_printer.specs.Printed.{text_for, joins, gap_by, printed, printed_form}

-- the lengths of tokens, and one more for each
abbrev pub width : List Lexeme → ℕ
width [] = 0
width (l ∷ ls) = length (text_for l) + 1 + width ls

short_gap : (b : Bool) → length {A = ℕ} (cond b [] (32 ∷ [])) ≤ 1
short_gap true = omega arith
short_gap false = omega arith

pub printed_within : (ls : List Lexeme) → length (printed ls) ≤ width ls
printed_within [] = omega arith
printed_within (l ∷ []) = omega arith
printed_within (l ∷ m ∷ ls) =
    let rest : length (printed (m ∷ ls)) ≤ width (m ∷ ls) = printed_within (m ∷ ls) in
    let gap : length (gap_by joins l m) ≤ 1 = short_gap (joins l m) in
    let outer : length (text_for l ++ (gap_by joins l m ++ printed (m ∷ ls))) ≡ length (text_for l) + length (gap_by joins l m ++ printed (m ∷ ls))
    = length-append (text_for l) (gap_by joins l m ++ printed (m ∷ ls)) in
    let inner : length (gap_by joins l m ++ printed (m ∷ ls)) ≡ length (gap_by joins l m) + length (printed (m ∷ ls)) = length-append (gap_by joins l m) (printed (m ∷ ls)) in
    let whole : width (l ∷ m ∷ ls) ≡ length (text_for l) + 1 + width (m ∷ ls) = refl in
    omega (arith, rest, gap, outer, inner, whole)

width_append : (ls ms : List Lexeme) → width (ls ++ ms) ≡ width ls + width ms
width_append [] ms = omega arith
width_append (l ∷ ls) ms = (let rest = width_append ls ms in omega (arith, rest))

-- an integer of 64 bits
less_than : (m n : ℕ) → nat_lt m n ≡ true → m < n
less_than m n h = grind (arith, nat_tests)

pub number_within : (z : ℤ) → IsTrue (fits_i64 z) → length (signed_decimal z) ≤ 20
number_within (pos n) h = (let l : n < 2 ^ 63 = less_than n (2 ^ 63) h in let d = length-decimal-le 19 n (omega arith) (omega (arith, l)) (omega (arith, l)) in omega (arith, d))
number_within (negsuc n) h =
    (let l : n < 2 ^ 63 = less_than n (2 ^ 63) h in let d = length-decimal-le 19 (suc n) (omega arith) (omega (arith, l)) (omega (arith, l)) in omega (arith, d))

pub count_within : (n : ℕ) → n < 2 ^ 63 → length (signed_decimal (pos n)) ≤ 20
count_within n l = (let d = length-decimal-le 19 n (omega arith) (omega (arith, l)) (omega (arith, l)) in omega (arith, d))

short_within : (z : ℤ) → IsShort z → length (signed_decimal z) ≤ 20
short_within (pos n) s = (let high = s.high in count_within n (omega (arith, ints, high)))
short_within (negsuc n) s =
    (let low = s.low in
    let l : n < 2 ^ 62 = omega (arith, ints, low) in
    let d = length-decimal-le 19 (suc n) (omega arith) (omega (arith, l)) (omega (arith, l)) in omega (arith, d))

-- the columns of a stream
abbrev pub HasShortEnds : Option (ℤ × ℤ) → Type 0
HasShortEnds None = Unit {0}
HasShortEnds (Some ends) = IsShort ends.0 × IsShort ends.1

pub record IsShortColumn (c : ColumnDef) : Type 0 where
  pub name : length c.name ≤ 24
  pub ends : HasShortEnds c.domain

domain_within : (d : Option (ℤ × ℤ)) → HasShortEnds d → width (domain_tokens d) ≤ 49
domain_within None h = omega arith
domain_within (Some ends) h =
    let low = short_within ends.0 h.0 in
    let high = short_within ends.1 h.1 in
    let whole : width (domain_tokens (Some ends)) ≡ 2 + 1 + (length (signed_decimal ends.0) + 1 + (2 + (2 + (length (signed_decimal ends.1) + 1)))) = omega arith in
    omega (arith, low, high, whole)

column_within : (c : ColumnDef) → IsShortColumn c → width (coldef_tokens c) ≤ 74
column_within c h = (let name = h.name in let ends = domain_within c.domain h.ends in omega (arith, name, ends))

columns_within : (cs : List ColumnDef) → AllByRecursion IsShortColumn cs → width (separated comma coldef_tokens cs) ≤ 76 * length cs
columns_within [] h = omega arith
columns_within (c ∷ []) h = (let one = column_within c h.0 in omega (arith, one))
columns_within (c ∷ d ∷ cs) h =
    let one = column_within c h.0 in
    let rest : width (separated comma coldef_tokens (d ∷ cs)) ≤ 76 * length (d ∷ cs) = columns_within (d ∷ cs) h.1 in
    let both : width (coldef_tokens c ++ comma ∷ separated comma coldef_tokens (d ∷ cs)) ≡ width (coldef_tokens c) + width (comma ∷ separated comma coldef_tokens (d ∷ cs))
    = width_append (coldef_tokens c) (comma ∷ separated comma coldef_tokens (d ∷ cs)) in
    let sep : width (comma ∷ separated comma coldef_tokens (d ∷ cs)) ≡ width (separated comma coldef_tokens (d ∷ cs)) + 2 = omega arith in
    omega (arith, one, rest, both, sep)

pub stream_within : (name : List ℕ) (cs : List ColumnDef) → length name ≤ 24 → length cs ≤ 8 → AllByRecursion IsShortColumn cs
    → length (printed_form (CreateStream name (record { items = cs }))) ≤ 1024
stream_within name cs short few h =
    let columns = columns_within cs h in
    let both : width (separated comma coldef_tokens cs ++ closing ∷ []) ≡ width (separated comma coldef_tokens cs) + width (closing ∷ []) = width_append (separated comma coldef_tokens cs) (closing ∷ []) in
    let end : width (closing ∷ []) ≡ 2 = refl in
    let tokens : List Lexeme = key CreateKey ∷ key StreamKey ∷ word name ∷ opening ∷ separated comma coldef_tokens cs ++ closing ∷ [] in
    let whole : width tokens ≡ 14 + (length name + 1) + 2 + width (separated comma coldef_tokens cs ++ closing ∷ []) = omega arith in
    let within : length (printed tokens) ≤ width tokens = printed_within tokens in
    omega (arith, short, few, columns, both, end, whole, within)

pub rows_within : (n : ℕ) → n ≤ 2 ^ 40 → length (printed_form (ResumeRows (pos n))) ≤ 1024
rows_within n few =
    let one = count_within n (omega (arith, few)) in
    let tokens : List Lexeme = key ResumeKey ∷ number (pos n) ∷ [] in
    let within : length (printed tokens) ≤ width tokens = printed_within tokens in
    let whole : width tokens ≡ 7 + (length (signed_decimal (pos n)) + 1) = omega arith in
    omega (arith, one, within, whole)

pub given_within : (name : List ℕ) (n : ℕ) → length name ≤ 24 → n ≤ 2 ^ 40 → length (printed_form (ResumeGiven name (pos n))) ≤ 1024
given_within name n short few =
    let one = count_within n (omega (arith, few)) in
    let tokens : List Lexeme = key ResumeKey ∷ word name ∷ key AsKey ∷ number (pos n) ∷ [] in
    let within : length (printed tokens) ≤ width tokens = printed_within tokens in
    let whole : width tokens ≡ 7 + (length name + 1) + 3 + (length (signed_decimal (pos n)) + 1) = omega arith in
    omega (arith, short, one, within, whole)

pub cell_within : (name : List ℕ) (i : ℕ) (z : ℤ) → length name ≤ 24 → i < 2 ^ 63 → IsTrue (fits_i64 z) → length (printed_form (ResumeCell name (pos i) z)) ≤ 1024
cell_within name i z short few fits =
    let one = count_within i few in
    let two = number_within z fits in
    let tokens : List Lexeme = key ResumeKey ∷ word name ∷ key FromKey ∷ number (pos i) ∷ number z ∷ [] in
    let within : length (printed tokens) ≤ width tokens = printed_within tokens in
    let whole : width tokens ≡ 7 + (length name + 1) + 5 + (length (signed_decimal (pos i)) + 1) + (length (signed_decimal z) + 1) = omega arith in
    omega (arith, short, one, two, within, whole)

numbers_within : (zs : List ℤ) → AllByRecursion (λ z. IsTrue (fits_i64 z)) zs → width (map number zs) ≤ 21 * length zs
numbers_within [] h = omega arith
numbers_within (z ∷ zs) h = (let one = number_within z h.0 in let rest = numbers_within zs h.1 in omega (arith, one, rest))

pub tuple_within : (name : List ℕ) (zs : List ℤ) → length name ≤ 24 → length zs ≤ 8 → AllByRecursion (λ z. IsTrue (fits_i64 z)) zs
    → length (printed_form (ResumeTuple name (record { items = zs }))) ≤ 1024
tuple_within name zs short few fits =
    let numbers = numbers_within zs fits in
    let tokens : List Lexeme = key ResumeKey ∷ word name ∷ key SelectKey ∷ map number zs in
    let within : length (printed tokens) ≤ width tokens = printed_within tokens in
    let whole : width tokens ≡ 7 + (length name + 1) + 7 + width (map number zs) = omega arith in
    omega (arith, short, few, numbers, within, whole)
