-- What the walk from the root makes.
use Rattle.std.proofs.Common.{◌≡◌, ◌≢◌, ℕ, suc, ◌∙◌, Contains, ◌<◌, ◌≤◌, ◌+◌, ◌*◌, List, [], ◌∷◌, length, slice_index_or, AllPairs, All, IsTrue, Ok, Err, inl, inr, refl, sym, ap, subst, arith, true}
use Rattle.std.proofs.lemmas.List.Elements.{Contains-get_or, All-contains}
use Rattle.sem_query.specs.declared.part.Pair.{Pair}
use Rattle.sem_query.specs.declared.part.Sign.{Sign}
use Rattle.sem_query.specs.Query.{QueryValue, IsWithinLimits}
use Rattle.sem_query.specs.Parts.{signs_lt}
use Rattle.sem_query.proofs.Has.{Has, first, later, Has-from_contains, Contains-from_has}
use Rattle.sem_query.proofs.Unique.{Ascends, more, signs_strict}
use Rattle.sem_query.proofs.Split.{pairs_from}
use Rattle.sem_query.proofs.Pigeonhole.{AreApart, no_longer}
use Rattle.cert_format.specs.declared.line.Line.{Line}
use Rattle.cert_format.specs.Nodes.{nodes_of}
use Rattle.cert_checker.specs.declared.shown.Shown.{Shown}
use Rattle.cert_checker.specs.Branching.{HasRoom}
use Rattle.cert_checker.specs.Shown.{branching_of}
use Rattle.cert_maker.specs.Made.{IsTooLarge, Makes}
use Rattle.cert_maker.specs.Tree.{IsPartOf, IsOpenOf, SomeUnder, AllUnder, Walked, IsOver, of_parts, of_nodes, Walks}
use Rattle.cert_maker.specs.declared.error.MakeError.{MakeError}
use Rattle.cert_maker.specs.declared.error.MakeError.TheVariants as why
use Rattle.cert_maker.proofs.Forms.{branches_of}

-- ---- too many

differ_if : (s t : List Sign) → signs_lt s t ≡ true → s ≢ t
differ_if s t h e = signs_strict.apart s t h (subst (λ (z : List Sign). signs_lt z s ≡ true) e (subst (λ (z : List Sign). signs_lt s z ≡ true) (sym e) h))

differ_all : (xs : List (List Sign)) → AllPairs (λ s t. IsTrue (signs_lt s t)) xs → AllPairs (λ s t. s ≢ t) xs
differ_all xs h i j d k l = differ_if _ _ (h i j d k l)

ascending_all : (P : List Sign → Type 0) (xs : List (List Sign)) → SomeUnder P [] xs → AllPairs (λ s t. IsTrue (signs_lt s t)) xs
ascending_all P xs u = pairs_from signs_lt xs u.ascends

each_all : (P : List Sign → Type 0) (xs : List (List Sign)) → SomeUnder P [] xs → All P xs
each_all P xs u k d l = u.each _ (Has-from_contains xs _ (Contains-get_or xs k d l))

-- ascending lists of no signs are one at most
one_empty : (xs : List (List Sign)) → Ascends signs_lt xs → ((s : List Sign) → Has xs s → s ≡ []) → length xs ≤ 1
one_empty [] a f = omega arith
one_empty (x ∷ []) a f = omega arith
one_empty (x ∷ y ∷ xs) (more p a) f = absurd (differ_if x y (p y first) (f x first ∙ sym (f y (later first))))

no_signs : (s : List Sign) → length s ≡ 0 → s ≡ []
no_signs [] e = refl
no_signs (c ∷ s) e = absurd (omega (arith, e))

too_large : (s : Shown) (q : QueryValue) → IsWithinLimits q → IsOver s q [] 0 0 → IsTooLarge s q
too_large Shown.Plain q w (of_parts xs u m) = inl (record { some = xs; ascending = ascending_all _ xs u; each = each_all _ xs u; more = omega (arith, m) })
too_large Shown.Plain q w (of_nodes xs u m) = inr (record { some = xs; differ = differ_all xs (ascending_all _ xs u); each = each_all _ xs u; more = omega (arith, m) })
too_large Shown.Whole q w (of_parts xs u m) = omega (arith, m, one_empty xs u.ascends (λ s h. no_signs s ((branches_of Shown.Whole q w).long s (u.each s h))))
too_large Shown.Whole q w (of_nodes [] u m) = omega (arith, m)
too_large Shown.Whole q w (of_nodes (x ∷ xs) u m) = omega (arith, (u.each x first).left)
too_large Shown.Split q w (of_parts xs u m) = inr (inl (record { some = xs; ascending = ascending_all _ xs u; each = each_all _ xs u; more = omega (arith, m) }))
too_large Shown.Split q w (of_nodes xs u m) = inr (inr (record { some = xs; differ = differ_all xs (ascending_all _ xs u); each = each_all _ xs u; more = omega (arith, m) }))

-- ---- no more

-- a list whose elements differ
apart_from : (xs : List (List Sign)) → AllPairs (λ s t. s ≢ t) xs → AreApart (λ (s : List Sign). s) xs
apart_from [] h = tt
apart_from (x ∷ xs) h = (
  (λ z m e. let c : Contains xs z = Contains-from_has xs z m in
      let n : x ≢ slice_index_or xs c.0 z = h 0 (suc c.0) z (omega arith) (omega arith) in
      n (sym (c.2 ∙ e))),
  apart_from xs (λ i j d a b. h (suc i) (suc j) d (omega arith) (omega arith)),
)

-- is no longer than one that has all its elements
no_more : (P : List Sign → Type 0) (xs all : List (List Sign)) → AllPairs (λ s t. s ≢ t) xs → All P xs → AllUnder P [] all → length xs ≤ length all
no_more P xs all d e a = no_longer (λ (s : List Sign). s) xs all (apart_from xs d) (λ s h. a.all s (All-contains P xs s e (Contains-from_has xs s h)) (record { rest = s; is = refl }))

more_parts : (s : Shown) (q : QueryValue) (new : List Line) (after : ℕ) (w : Walked s q [] [] new 0 after) (some : List (List Sign)) → AllPairs (λ s t. IsTrue (signs_lt s t)) some → All (IsPartOf s q) some → 4096 < length some → ⊥
more_parts s q new after w some a e m =
    let l : length some ≤ length w.parts = no_more (IsPartOf s q) some w.parts (differ_all some a) e w.are_parts in
    omega (arith, l, m, w.counted, w.few)

more_nodes : (s : Shown) (q : QueryValue) (new : List Line) (after : ℕ) (w : Walked s q [] [] new 0 after) (some : List (List Sign)) → AllPairs (λ s t. s ≢ t) some → All (IsOpenOf s q) some → 262144 < 1 + 3 * length some → ⊥
more_nodes s q new after w some d e m =
    let l : length some ≤ length w.fronts = no_more (IsOpenOf s q) some w.fronts d e w.are_fronts in
    let n : length (nodes_of new) ≡ length (nodes_of w.added) = ap (λ z. length (nodes_of z)) w.lines in
    omega (arith, l, n, m, w.sized, w.fit)

not_large : (s : Shown) (q : QueryValue) (new : List Line) (after : ℕ) → HasRoom (branching_of s q) → (w : Walked s q [] [] new 0 after) → IsTooLarge s q → ⊥
not_large Shown.Plain q new after r w (inl m) = more_parts Shown.Plain q new after w m.some m.ascending m.each m.more
not_large Shown.Plain q new after r w (inr m) = more_nodes Shown.Plain q new after w m.some m.differ m.each m.more
not_large Shown.Whole q new after r w m = m
not_large Shown.Split q new after r w (inl m) = omega (arith, r, m)
not_large Shown.Split q new after r w (inr (inl m)) = more_parts Shown.Split q new after w m.some m.ascending m.each m.more
not_large Shown.Split q new after r w (inr (inr m)) = more_nodes Shown.Split q new after w m.some m.differ m.each m.more

-- ---- the certificate

room_for : (s : Shown) (q : QueryValue) (ps : List Pair) → ps ≡ (branching_of s q).pairs → length ps ≤ 114 → HasRoom (branching_of s q)
room_for s q ps e l = subst (λ (z : List Pair). length z ≤ 114) e l

pub made : (s : Shown) (q : QueryValue) (ps : List Pair) (new : List Line) (after : ℕ) → ps ≡ (branching_of s q).pairs → length ps ≤ 114 → Walked s q [] [] new 0 after → Makes s q (Ok new)
made s q ps new after e l w = (record { room = room_for s q ps e l; good = rw w.lines w.good }, not_large s q new after (room_for s q ps e l) w)

pub not_made : (w : MakeError) (s : Shown) (q : QueryValue) (new : List Line) (after : ℕ) → IsWithinLimits q → Walks (Err w) s q [] [] new 0 after → Makes s q (Err w)
not_made why.Limit s q new after l h = too_large s q l h
not_made why.Memory s q new after l h = tt
