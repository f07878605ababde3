-- Parts that are worked out, in order.
use Rattle.std.proofs.Common.{◌≡◌, ℕ, zero, suc, ◌+◌, ◌<◌, List, [], ◌∷◌, ◌++◌, length, take, get_or, slice_get, Some, refl, sym, ap, subst, arith}
use Rattle.std.proofs.lemmas.List.{take_more}
use Rattle.std.proofs.lemmas.Option.{get_or_from_slice_get}
use Rattle.sem_query.specs.declared.part.Pair.{Pair}
use Rattle.sem_query.specs.declared.plan.PartPlan.{PartPlan}
use Rattle.exec_synopsis.specs.declared.prepared.Prepared.{Prepared}
use Rattle.exec_synopsis.specs.Preparing.{IsPrepared}
use Rattle.exec_part_index.specs.Prepared.{ArePrepared}

prepared-push : (ps : List Pair) (parts : List PartPlan) (xs : List Prepared) (part : PartPlan) (x : Prepared) → ArePrepared ps parts xs → IsPrepared ps part x → ArePrepared ps (parts ++ part ∷ []) (xs ++ x ∷ [])
prepared-push ps [] [] part x h p = (p, tt)
prepared-push ps [] (y ∷ xs) part x h p = absurd h
prepared-push ps (q ∷ parts) [] part x h p = absurd h
prepared-push ps (q ∷ parts) (y ∷ xs) part x h p = (h.0, prepared-push ps parts xs part x h.1 p)

-- one part more
pub prepared-more : (ps : List Pair) (parts : List PartPlan) (xs more : List Prepared) (i : ℕ) (part o : PartPlan) (x : Prepared) → i < length parts → part ≡ get_or parts i o → more ≡ xs ++ x ∷ []
    → ArePrepared ps (take i parts) xs → IsPrepared ps part x → ArePrepared ps (take (i + 1) parts) more
prepared-more ps parts xs more i part o x l e f h p =
    subst (λ ys. ArePrepared ps (take (i + 1) parts) ys) (sym f)
    (subst (λ list. ArePrepared ps list (xs ++ x ∷ [])) (sym (take_more parts i o l))
    (prepared-push ps (take i parts) xs (get_or parts i o) x h (subst (λ y. IsPrepared ps y x) e p)))

-- there are as many as parts
pub prepared-length : (ps : List Pair) (parts : List PartPlan) (xs : List Prepared) → ArePrepared ps parts xs → length xs ≡ length parts
prepared-length ps [] [] h = refl
prepared-length ps [] (x ∷ xs) h = absurd h
prepared-length ps (part ∷ parts) [] h = absurd h
prepared-length ps (part ∷ parts) (x ∷ xs) h = ap suc (prepared-length ps parts xs h.1)

-- each is that of its part
pub prepared-at : (ps : List Pair) (parts : List PartPlan) (xs : List Prepared) (i : ℕ) (o : PartPlan) (d : Prepared) → i < length parts → ArePrepared ps parts xs → IsPrepared ps (get_or parts i o) (get_or xs i d)
prepared-at ps [] xs i o d l h = absurd (omega (arith, l))
prepared-at ps (part ∷ parts) [] i o d l h = absurd h
prepared-at ps (part ∷ parts) (x ∷ xs) zero o d l h = h.0
prepared-at ps (part ∷ parts) (x ∷ xs) (suc i) o d l h = prepared-at ps parts xs i o d (omega (arith, l)) h.1

-- what is worked out of a part
pub part_prepared : (ps : List Pair) (parts : List PartPlan) (xs : List Prepared) (x : Prepared) (i : ℕ) → ArePrepared ps parts xs → i < length parts → x ≡ get_or xs i x
    → (part : PartPlan) → slice_get parts i ≡ Some part → IsPrepared ps part x
part_prepared ps parts xs x i prepared within is part at_i =
    subst (λ y. IsPrepared ps y x) (get_or_from_slice_get parts i part part at_i)
    (subst (λ y. IsPrepared ps (get_or parts i part) y) (sym is) (prepared-at ps parts xs i part x within prepared))

-- there is a part at a place within the list
pub part_at : (parts : List PartPlan) (i : ℕ) → i < length parts → (part : PartPlan) × (slice_get parts i ≡ Some part)
part_at [] i l = absurd (omega (arith, l))
part_at (part ∷ parts) zero l = (part, refl)
part_at (part ∷ parts) (suc i) l = part_at parts i (omega (arith, l))
