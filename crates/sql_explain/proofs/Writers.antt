-- Texts that are written item by item, and broken off by a `?`.
use Rattle.std.proofs.Common.{◌≡◌, ℕ, ◌+◌, ◌<◌, ◌≤◌, List, [], ◌∷◌, ◌++◌, length, get_or, take, flat_map, Result, Ok, Err, ap, ◌∙◌, subst, append-nil}
use Rattle.std.proofs.lemmas.List.{take_all, take_more}
use Rattle.std.proofs.lemmas.List.Concat.{flat_map-append}
use Rattle.std.specs.Result.{IsErr}
use Rattle.io_streams.specs.Sink.{SinkState, Wrote, BrokeOff, Writes}
use Rattle.io_streams.proofs.Writing.{Wrote-trans, BrokeOff-then, BrokeOff-stop, BrokeOff-at}

-- a `?` gives the fault back with which a text broke off
pub broke : {T E : Type 0} (r : Result T E) (a b : SinkState) (t : List ℕ) → IsErr r → BrokeOff a b t → Writes r a b t
broke (Ok x) a b t i p = absurd (cc)
broke (Err e) a b t i p = p

-- the text of one item broke off, and a `?` gives the fault back
pub item_broke : {T E X : Type 0} (f : X → List ℕ) (xs : List X) (i : ℕ) (d : X) (r : Result T E) (a b c : SinkState) → IsErr r → i < length xs → Wrote a b (flat_map f (take i xs)) → BrokeOff b c (f (get_or xs i d)) → Writes r a c (flat_map f xs)
item_broke f xs i d r a b c e lt p q = broke r a c (flat_map f xs) e (BrokeOff-at f xs i d a b c lt p q)

-- the text of one more item
flat_map-take : {X : Type 0} (f : X → List ℕ) (xs : List X) (i : ℕ) (d : X) → i < length xs → flat_map f (take (i + 1) xs) ≡ flat_map f (take i xs) ++ f (get_or xs i d)
flat_map-take f xs i d lt =
    ap (flat_map f) (take_more xs i d lt) ∙ flat_map-append f (take i xs) (get_or xs i d ∷ [])
    ∙ ap (λ l. flat_map f (take i xs) ++ l) (append-nil (f (get_or xs i d)))

-- the text of one more item was written
pub item_wrote : {X : Type 0} (f : X → List ℕ) (xs : List X) (i : ℕ) (d : X) (a b c : SinkState) → i < length xs → Wrote a b (flat_map f (take i xs)) → Wrote b c (f (get_or xs i d)) → Wrote a c (flat_map f (take (i + 1) xs))
item_wrote f xs i d a b c lt p q = rw (flat_map-take f xs i d lt) (Wrote-trans a b c _ _ p q)

-- the texts of all items were written
pub all_wrote : {X : Type 0} (f : X → List ℕ) (xs : List X) (i : ℕ) (a b : SinkState) → length xs ≤ i → Wrote a b (flat_map f (take i xs)) → Wrote a b (flat_map f xs)
all_wrote f xs i a b le p = rw take_all at p

-- the text of an item broke off that was read from the list
pub read_broke : {T E X : Type 0} (f : X → List ℕ) (xs : List X) (i : ℕ) (x : X) (r : Result T E) (a b c : SinkState) → x ≡ get_or xs i x → IsErr r → i < length xs → Wrote a b (flat_map f (take i xs)) → BrokeOff b c (f x) → Writes r a c (flat_map f xs)
read_broke {X = X} f xs i x r a b c is e lt p q = let P : X → Type 0 = λ y. BrokeOff b c (f y) in item_broke f xs i x r a b c e lt p (subst P is q)

-- the text of an item was written that was read from the list
pub read_wrote : {X : Type 0} (f : X → List ℕ) (xs : List X) (i : ℕ) (x : X) (a b c : SinkState) → x ≡ get_or xs i x → i < length xs → Wrote a b (flat_map f (take i xs)) → Wrote b c (f x) → Wrote a c (flat_map f (take (i + 1) xs))
read_wrote {X = X} f xs i x a b c is lt p q = let P : X → Type 0 = λ y. Wrote b c (f y) in item_wrote f xs i x a b c lt p (subst P is q)

-- one more text behind those that were written
pub writes_after : {T E : Type 0} (r : Result T E) (a b c : SinkState) (s t : List ℕ) → Wrote a b s → Writes r b c t → Writes r a c (s ++ t)
writes_after (Ok x) a b c s t p q = Wrote-trans a b c s t p q
writes_after (Err e) a b c s t p q = BrokeOff-then a b c s t p q

-- a text broke off, so a longer one did
pub stopped : (a b : SinkState) (s t : List ℕ) → BrokeOff a b s → BrokeOff a b (s ++ t)
stopped a b s t p = BrokeOff-stop a b s t p
