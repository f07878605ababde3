-- Texts that are written one behind another.
use Rattle.std.proofs.Common.{◌≡◌, ℕ, ◌-◌, ◌<◌, ◌≤◌, List, [], ◌∷◌, ◌++◌, length, get_or, take, drop, flat_map, Result, Ok, Err, refl, ap, sym, ◌∙◌, subst, arith}
use Rattle.std.proofs.lemmas.List.{take_rest}
use Rattle.io_streams.specs.Sink.{SinkState, Wrote, BrokeOff, Writes}
use Rattle.io_streams.proofs.Writing.{Wrote-trans, BrokeOff-then, BrokeOff-stop, BrokeOff-at}
use Rattle.sql_printer.specs.PrintedParts.{listed, each_behind}

-- a text was written, and then a second one
pub writes_behind : {T E : Type 0} (r : Result T E) (a b c : SinkState) (s t : List ℕ) → Wrote a b s → Writes r b c t → Writes r a c (s ++ t)
writes_behind (Ok x) a b c s t p q = Wrote-trans a b c s t p q
writes_behind (Err e) a b c s t p q = BrokeOff-then a b c s t p q

-- the same, of a text that is the two
pub writes_then : {T E : Type 0} (r : Result T E) (a b c : SinkState) (s t u : List ℕ) → u ≡ s ++ t → Wrote a b s → Writes r b c t → Writes r a c u
writes_then r a b c s t u e p q = let P : List ℕ → Type 0 = λ v. Writes r a c v in subst P (sym e) (writes_behind r a b c s t p q)

-- the first text broke off
pub writes_stop : (a b : SinkState) (s t u : List ℕ) → u ≡ s ++ t → BrokeOff a b s → BrokeOff a b u
writes_stop a b s t u e p = let P : List ℕ → Type 0 = λ v. BrokeOff a b v in subst P (sym e) (BrokeOff-stop a b s t p)

-- the text of one item broke off
pub stops_at_item : {X : Type 0} (f : X → List ℕ) (xs : List X) (i : ℕ) (x : X) (a b c : SinkState) → x ≡ get_or xs i x → i < length xs → Wrote a b (flat_map f (take i xs)) → BrokeOff b c (f x) → BrokeOff a c (flat_map f xs)
stops_at_item {X = X} f xs i x a b c is lt p q = let P : X → Type 0 = λ y. BrokeOff b c (f y) in BrokeOff-at f xs i x a b c lt p (subst P is q)

listed_cons : {X : Type 0} (lead sep : List ℕ) (text : X → List ℕ) (xs : List X) (d : X) → 1 ≤ length xs → listed lead sep text xs ≡ (lead ++ text (get_or xs 0 d)) ++ each_behind sep text (drop 1 xs)
listed_cons lead sep text [] d h = absurd (omega arith)
listed_cons lead sep text (x ∷ xs) d h = refl

-- a list by its first item and the others
pub listed_first : {X : Type 0} (lead sep : List ℕ) (text : X → List ℕ) (xs : List X) (x : X) → 1 ≤ length xs → x ≡ get_or xs 0 x → listed lead sep text xs ≡ (lead ++ text x) ++ each_behind sep text (take (length xs - 1) (drop 1 xs))
listed_first lead sep text xs x h is = rw take_rest (listed_cons lead sep text xs x h ∙ ap (λ y. (lead ++ text y) ++ each_behind sep text (drop 1 xs)) (sym is))

-- the same text, written in another way
pub writes_as : {T E : Type 0} (r : Result T E) (a b : SinkState) (s t : List ℕ) → t ≡ s → Writes r a b s → Writes r a b t
writes_as r a b s t e p = let P : List ℕ → Type 0 = λ v. Writes r a b v in subst P (sym e) p
