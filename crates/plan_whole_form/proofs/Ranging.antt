-- The ranges of columns, one after another.
use Rattle.std.proofs.Common.{◌≡◌, ℕ, ◌+◌, ◌<◌, ◌≤◌, List, [], ◌∷◌, ◌++◌, length, take, get_or, refl, sym, subst, ap, arith}
use Rattle.std.proofs.lemmas.List.{take_more, take_all, length-take-le}
use Rattle.sem_query.specs.declared.atom.Attr.{Attr}
use Rattle.sem_query.specs.declared.plan.Dim.{Dim}
use Rattle.sem_query.specs.Query.{QueryValue}
use Rattle.plan_whole_form.specs.Part.{IsRangeOf, AreRangesOf}

ranges_push : (q : QueryValue) (columns : List Attr) (dims : List Dim) (a : Attr) (d : Dim) → IsRangeOf q a d → AreRangesOf q columns dims → AreRangesOf q (columns ++ a ∷ []) (dims ++ d ∷ [])
ranges_push q [] [] a d i r = (i, tt)
ranges_push q [] (e ∷ dims) a d i r = absurd r
ranges_push q (b ∷ columns) [] a d i r = absurd r
ranges_push q (b ∷ columns) (e ∷ dims) a d i r = (r.0, ranges_push q columns dims a d i r.1)

ranges_length : (q : QueryValue) (columns : List Attr) (dims : List Dim) → AreRangesOf q columns dims → length dims ≡ length columns
ranges_length q [] [] r = refl
ranges_length q [] (e ∷ dims) r = absurd r
ranges_length q (b ∷ columns) [] r = absurd r
ranges_length q (b ∷ columns) (e ∷ dims) r = let e = ranges_length q columns dims r.1 in omega (arith, e)

-- there is room for one more
pub ranges_room : (q : QueryValue) (columns cs : List Attr) (dims : List Dim) (i : ℕ) → cs ≡ columns → length cs ≤ 8 → i < length columns → AreRangesOf q (take i columns) dims → length dims < 8
ranges_room q columns cs dims i e f l r =
    let a : length dims ≡ length (take i columns) = ranges_length q (take i columns) dims r in
    let b : length (take i columns) ≡ i = length-take-le i columns (omega (arith, l)) in
    let g : length cs ≡ length columns = ap length e in
    omega (arith, a, b, g, f, l)

pub ranges_more : (q : QueryValue) (columns : List Attr) (dims new : List Dim) (i : ℕ) (a : Attr) (d : Dim) → i < length columns → IsRangeOf q (get_or columns i a) d → new ≡ dims ++ d ∷ [] → AreRangesOf q (take i columns) dims → AreRangesOf q (take (i + 1) columns) new
ranges_more q columns dims new i a d l h e r = subst (AreRangesOf q (take (i + 1) columns)) (sym e) (subst (λ z. AreRangesOf q z (dims ++ d ∷ [])) (sym (take_more columns i a l)) (ranges_push q (take i columns) dims (get_or columns i a) d h r))

pub ranges_all : (q : QueryValue) (columns : List Attr) (dims : List Dim) (i : ℕ) → length columns ≤ i → AreRangesOf q (take i columns) dims → AreRangesOf q columns dims
ranges_all q columns dims i l r = subst (λ z. AreRangesOf q z dims) (take_all i columns l) r

-- the same of a list that is known by an equation
pub ranges_more_at : (q : QueryValue) (columns cs : List Attr) (dims new : List Dim) (i : ℕ) (a : Attr) (d : Dim) → cs ≡ columns → i < length columns → IsRangeOf q (get_or cs i a) d → new ≡ dims ++ d ∷ [] → AreRangesOf q (take i columns) dims → AreRangesOf q (take (i + 1) columns) new
ranges_more_at q columns cs dims new i a d same l h e r = ranges_more q columns dims new i a d l (subst (λ z. IsRangeOf q (get_or z i a) d) same h) e r
