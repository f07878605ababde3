-- A catalog with one stream more.
use Rattle.std.proofs.Common.{◌≡◌, ℕ, ◌<◌, Bool, true, false, not, ◌&&◌, ◌||◌, List, [], ◌∷◌, ◌++◌, length, map, refl, arith}
use Rattle.std.specs.List.{list_any}
use Rattle.std.specs.Str.{bytes_eq}
use Rattle.std.proofs.lemmas.List.Elements.{All-append, All-cons, All-nil}
use Rattle.std.proofs.lemmas.List.{length-append}
use Rattle.sql_catalog.specs.Streams.{Shape, IsShape, IsCatalog, all_differ}

-- the names of streams
abbrev names_of : List Shape → List (List ℕ)
names_of streams = map (λ (s : Shape). s.name) streams

neither : (p q : Bool) → p ≡ false → q ≡ false → (p || q) ≡ false
neither false q h k = k
neither true q h k = h

left_fails : (p q : Bool) → (p || q) ≡ false → p ≡ false
left_fails false q h = refl
left_fails true q h = h

right_fails : (p q : Bool) → (p || q) ≡ false → q ≡ false
right_fails false q h = h
right_fails true q h = let e : true ≡ false = h in cc

-- the first name differs from all others
head_differs : (p q : Bool) → (not p && q) ≡ true → p ≡ false
head_differs false q h = refl
head_differs true q h = let e : false ≡ true = h in cc

tail_differs : (p q : Bool) → (not p && q) ≡ true → q ≡ true
tail_differs false q h = h
tail_differs true q h = let e : false ≡ true = h in cc

differs : (p q : Bool) → p ≡ false → q ≡ true → (not p && q) ≡ true
differs false q h k = k
differs true q h k = let e : true ≡ false = h in cc

-- a name that is not among some is not among these and another one
not_among_more : (x : List ℕ) (streams : List Shape) (shape : Shape) → list_any (bytes_eq x) (names_of streams) ≡ false → bytes_eq x shape.name ≡ false
    → list_any (bytes_eq x) (names_of (streams ++ shape ∷ [])) ≡ false
not_among_more x [] shape h new = neither (bytes_eq x shape.name) false new refl
not_among_more x (s ∷ streams) shape h new =
    neither (bytes_eq x s.name) (list_any (bytes_eq x) (names_of (streams ++ shape ∷ [])))
    (left_fails (bytes_eq x s.name) (list_any (bytes_eq x) (names_of streams)) h)
    (not_among_more x streams shape (right_fails (bytes_eq x s.name) (list_any (bytes_eq x) (names_of streams)) h) new)

-- the names differ with a new one behind them
differ_with_new : (streams : List Shape) (shape : Shape) → all_differ (names_of streams) ≡ true → list_any (λ (s : Shape). bytes_eq s.name shape.name) streams ≡ false
    → all_differ (names_of (streams ++ shape ∷ [])) ≡ true
differ_with_new [] shape h new = refl
differ_with_new (s ∷ streams) shape h new =
    let here = list_any (bytes_eq s.name) (names_of streams) in
    let others = all_differ (names_of streams) in
    let same = bytes_eq s.name shape.name in
    let later = list_any (λ (t : Shape). bytes_eq t.name shape.name) streams in
    differs (list_any (bytes_eq s.name) (names_of (streams ++ shape ∷ []))) (all_differ (names_of (streams ++ shape ∷ [])))
    (not_among_more s.name streams shape (head_differs here others h) (left_fails same later new))
    (differ_with_new streams shape (tail_differs here others h) (right_fails same later new))

-- a catalog with a new stream is one
pub catalog_with_new : (streams : List Shape) (shape : Shape) → IsCatalog streams → IsShape shape → length streams < 16
    → list_any (λ (s : Shape). bytes_eq s.name shape.name) streams ≡ false → IsCatalog (streams ++ shape ∷ [])
catalog_with_new streams shape c is room new = record {
  few = omega (arith, length-append streams (shape ∷ []));
  shapes = All-append IsShape streams (shape ∷ []) c.shapes (All-cons IsShape shape [] is (All-nil IsShape));
  differ = differ_with_new streams shape c.differ new;
}
