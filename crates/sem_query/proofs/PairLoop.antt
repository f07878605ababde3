-- The loop over the attributes of a query that lists its pairs.
use Rattle.std.proofs.Common.{◌≡◌, ℕ, zero, suc, ℤ, ◌≤◌, ◌+◌, List, [], ◌∷◌, ◌++◌, map, filter, drop, length, length-append, append_assoc, refl, sym, ◌∙◌, ap, arith}
use Rattle.std.proofs.lemmas.List.{length-map}
use Rattle.sem_query.specs.declared.atom.Attr.{Attr}
use Rattle.sem_query.specs.declared.part.Pair.{Pair}
use Rattle.sem_query.specs.declared.atom.Element.TheVariants as element
use Rattle.sem_query.specs.Parts.{pairs_among, same_stream}

-- the pairs of an attribute with each constant
abbrev pub with_consts : Attr → List ℤ → List Pair
with_consts a ks = map (λ k. record { left = a; right = element.Const k }) ks

-- the pairs of an attribute with each of these of its stream
abbrev pub with_attrs : Attr → List Attr → List Pair
with_attrs a rest = map (λ b. record { left = a; right = element.Attr b }) (filter (same_stream a) rest)

-- a turn of the loop leaves what is listed and what is to come the same
pub more_pairs : (list mid new : List Pair) (xs rest : List Attr) (a : Attr) (ks : List ℤ) (all : List Pair) → xs ≡ a ∷ rest → list ++ pairs_among xs ks ≡ all → mid ≡ list ++ with_consts a ks → new ≡ mid ++ with_attrs a rest → new ++ pairs_among rest ks ≡ all
more_pairs list mid new xs rest a ks all e h f g =
    let one : pairs_among xs ks ≡ with_consts a ks ++ with_attrs a rest ++ pairs_among rest ks = ap (λ z. pairs_among z ks) e in
    let r : new ++ pairs_among rest ks ≡ list ++ (with_consts a ks ++ with_attrs a rest ++ pairs_among rest ks) = rw (g, f) (simp append_assoc) in
    r ∙ ap (λ z. list ++ z) (sym one) ∙ h

-- there is room for the pairs with the constants
pub room_for_consts : (list : List Pair) (xs rest : List Attr) (a : Attr) (ks : List ℤ) (all : List Pair) → xs ≡ a ∷ rest → list ++ pairs_among xs ks ≡ all → length all ≤ 114 → length list + length ks ≤ 114
room_for_consts list xs rest a ks all e h l =
    let one : pairs_among xs ks ≡ with_consts a ks ++ with_attrs a rest ++ pairs_among rest ks = ap (λ z. pairs_among z ks) e in
    let n : length all ≡ length list + (length (with_consts a ks) + length (with_attrs a rest) + length (pairs_among rest ks)) =
    ap length (sym h) ∙ length-append list (pairs_among xs ks) ∙ ap (λ z. length list + length z) one ∙ ap (λ z. length list + z) (length-append (with_consts a ks ++ with_attrs a rest) (pairs_among rest ks) ∙ ap (λ z. z + length (pairs_among rest ks)) (length-append (with_consts a ks) (with_attrs a rest))) in
    let m : length (with_consts a ks) ≡ length ks = simp length-map in
    omega (arith, n, m, l)

-- and for those with the attributes after them
pub room_for_attrs : (list mid : List Pair) (xs rest : List Attr) (a : Attr) (ks : List ℤ) (all : List Pair) → xs ≡ a ∷ rest → list ++ pairs_among xs ks ≡ all → mid ≡ list ++ with_consts a ks → length all ≤ 114 → length mid + length (filter (same_stream a) rest) ≤ 114
room_for_attrs list mid xs rest a ks all e h f l =
    let one : pairs_among xs ks ≡ with_consts a ks ++ with_attrs a rest ++ pairs_among rest ks = ap (λ z. pairs_among z ks) e in
    let n : length all ≡ length list + (length (with_consts a ks) + length (with_attrs a rest) + length (pairs_among rest ks)) =
    ap length (sym h) ∙ length-append list (pairs_among xs ks) ∙ ap (λ z. length list + length z) one ∙ ap (λ z. length list + z) (length-append (with_consts a ks ++ with_attrs a rest) (pairs_among rest ks) ∙ ap (λ z. z + length (pairs_among rest ks)) (length-append (with_consts a ks) (with_attrs a rest))) in
    let m : length mid ≡ length list + length (with_consts a ks) = ap length f ∙ length-append list (with_consts a ks) in
    let k : length (with_attrs a rest) ≡ length (filter (same_stream a) rest) = simp length-map in
    omega (arith, n, m, k, l)

-- past the end nothing is left
pub drop-past : {A : Type 0} (i : ℕ) (xs : List A) → length xs ≤ i → drop i xs ≡ []
drop-past zero [] h = refl
drop-past (suc i) [] h = refl
drop-past zero (x ∷ xs) h = absurd (omega arith)
drop-past (suc i) (x ∷ xs) h = drop-past i xs (omega arith)
