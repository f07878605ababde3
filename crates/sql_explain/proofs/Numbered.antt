-- A list whose items are written with their numbers.
use Rattle.std.proofs.Common.{◌≡◌, ℕ, ◌+◌, ◌<◌, ◌≤◌, List, length, get_or, take, flat_map, Result}
use Rattle.std.proofs.lemmas.List.FromFn.{length-enumerate_from, get_or-enumerate_from}
use Rattle.std.specs.List.{enumerate_from}
use Rattle.std.specs.Result.{IsErr}
use Rattle.io_streams.specs.Sink.{SinkState, Wrote, BrokeOff, Writes}
use Rattle.sql_explain.proofs.Writers.{read_broke, read_wrote, all_wrote}

-- each item has its number
inside : {X : Type 0} (n : ℕ) (xs : List X) (i : ℕ) → i < length xs → i < length (enumerate_from n xs)
inside n xs i lt = rw length-enumerate_from lt

-- the item and its number
read : {X : Type 0} (n m : ℕ) (xs : List X) (i : ℕ) (x : X) → x ≡ get_or xs i x → m ≡ n + i → i < length xs → (m, x) ≡ get_or (enumerate_from n xs) i (m, x)
read n m xs i x is number lt = let e = get_or-enumerate_from n xs i (m, x) lt in cc

-- the text of a numbered item broke off
pub numbered_broke : {T E X : Type 0} (f : ℕ → X → List ℕ) (n m : ℕ) (xs : List X) (i : ℕ) (x : X) (r : Result T E) (a b c : SinkState) → x ≡ get_or xs i x → m ≡ n + i → IsErr r → i < length xs → Wrote a b (flat_map (λ y. f y.0 y.1) (take i (enumerate_from n xs))) → BrokeOff b c (f m x) → Writes r a c (flat_map (λ y. f y.0 y.1) (enumerate_from n xs))
numbered_broke f n m xs i x r a b c is number e lt p q = read_broke (λ y. f y.0 y.1) (enumerate_from n xs) i (m, x) r a b c (read n m xs i x is number lt) e (inside n xs i lt) p q

-- the text of one more numbered item was written
pub numbered_wrote : {X : Type 0} (f : ℕ → X → List ℕ) (n m : ℕ) (xs : List X) (i : ℕ) (x : X) (a b c : SinkState) → x ≡ get_or xs i x → m ≡ n + i → i < length xs → Wrote a b (flat_map (λ y. f y.0 y.1) (take i (enumerate_from n xs))) → Wrote b c (f m x) → Wrote a c (flat_map (λ y. f y.0 y.1) (take (i + 1) (enumerate_from n xs)))
numbered_wrote f n m xs i x a b c is number lt p q = read_wrote (λ y. f y.0 y.1) (enumerate_from n xs) i (m, x) a b c (read n m xs i x is number lt) (inside n xs i lt) p q

-- the texts of all were written
pub all_numbered_wrote : {X : Type 0} (f : ℕ → X → List ℕ) (n : ℕ) (xs : List X) (i : ℕ) (a b : SinkState) → length xs ≤ i → Wrote a b (flat_map (λ y. f y.0 y.1) (take i (enumerate_from n xs))) → Wrote a b (flat_map (λ y. f y.0 y.1) (enumerate_from n xs))
all_numbered_wrote f n xs i a b le p = let short : length (enumerate_from n xs) ≤ i = rw length-enumerate_from le in all_wrote (λ y. f y.0 y.1) (enumerate_from n xs) i a b short p
