-- The share of a part, dim by dim and stream by stream.
use Rattle.std.proofs.Common.{◌≡◌, ℕ, zero, suc, ◌+◌, ◌-◌, ◌*◌, ◌^◌, ◌<◌, min, max, Bool, true, false, not, cond, List, [], ◌∷◌, ◌++◌, map, filter, length, take, get_or, slice_index_or, sym, ap, ◌∙◌, arith}
use Rattle.std.specs.List.{flat_map, range_with_len}
use Rattle.std.proofs.lemmas.List.Elements.{filter_more}
use Rattle.std.proofs.lemmas.List.FromFn.{map-range_with_len_more}
use Rattle.std.proofs.lemmas.Grind.{flat_map-append}
use Rattle.sem_query.specs.declared.plan.Dim.{Dim}
use Rattle.sem_query.specs.declared.plan.PartPlan.{PartPlan}
use Rattle.sem_query.specs.Boxes.{dim_size, box_size}
use Rattle.sem_query.specs.Numbers.{is_fixed, free_dims, share_of, greatest_of}
use Rattle.sem_laws.proofs.Tests.{append-nothing}
use Rattle.plan_layout.specs.Capped.{capped}
use Rattle.plan_layout.proofs.Capping.{capped-max}
use Rattle.plan_layout.proofs.Products.{size-append, size-push, one_more}

-- one more dim, which counts where it is free
size-kept : (b : Bool) (xs : List Dim) (d : Dim) → box_size (xs ++ cond (not b) (d ∷ []) []) ≡ box_size xs * cond b 1 (dim_size d)
size-kept true xs d = ap box_size (append-nothing xs) ∙ omega arith
size-kept false xs d = size-push xs d

pub free_next : (part : PartPlan) (arriving place : ℕ) (dims : List Dim) (i : ℕ) (d : Dim) (size more : ℕ) → i < length dims
    → size ≡ capped (box_size (filter (λ e. not (is_fixed part arriving place e)) (take i dims)))
    → more ≡ capped (cond (is_fixed part arriving place (slice_index_or dims i d)) 1 (dim_size (slice_index_or dims i d)))
    → min (size * more) (2 ^ 64 - 1) ≡ capped (box_size (filter (λ e. not (is_fixed part arriving place e)) (take (i + 1) dims)))
free_next part arriving place dims i d size more l e f =
    let P : Dim → Bool = λ o. not (is_fixed part arriving place o) in
    one_more size more (box_size (filter P (take i dims))) (cond (is_fixed part arriving place (get_or dims i d)) 1 (dim_size (get_or dims i d))) e f
    ∙ ap capped (sym (ap box_size (filter_more P dims i d l) ∙ size-kept (is_fixed part arriving place (get_or dims i d)) (filter P (take i dims)) (get_or dims i d)))

range-more : (a n : ℕ) → range_with_len a (n + 1) ≡ range_with_len a n ++ (a + n) ∷ []
range-more a zero = ap (λ k. k ∷ []) (omega arith)
range-more a (suc n) =
    let e : suc n + 1 ≡ suc (n + 1) = omega arith in
    let f : (a + 1) + n ≡ a + suc n = omega arith in
    ap (range_with_len a) e ∙ ap (λ l. a ∷ l) (range-more (a + 1) n ∙ ap (λ k. range_with_len (a + 1) n ++ k ∷ []) f)

pub range-push : (n : ℕ) → range_with_len 0 (n + 1) ≡ range_with_len 0 n ++ n ∷ []
range-push n = range-more 0 n ∙ ap (λ k. range_with_len 0 n ++ k ∷ []) (omega arith)

pub share_next : (part : PartPlan) (arriving place size more : ℕ)
    → size ≡ capped (box_size (flat_map (free_dims part arriving) (range_with_len 0 place)))
    → more ≡ capped (box_size (free_dims part arriving place))
    → min (size * more) (2 ^ 64 - 1) ≡ capped (box_size (flat_map (free_dims part arriving) (range_with_len 0 (place + 1))))
share_next part arriving place size more e f =
    let F : ℕ → List Dim = free_dims part arriving in
    let R : List ℕ = range_with_len 0 place in
    one_more size more (box_size (flat_map F R)) (box_size (F place)) e f
    ∙ ap capped (sym (ap (λ ns. box_size (flat_map F ns)) (range-push place) ∙ ap box_size (flat_map-append F R (place ∷ []) ∙ ap (λ l. flat_map F R ++ l) (append-nothing (F place))) ∙ size-append (flat_map F R) (F place)))

greatest-push : (ns : List ℕ) (n : ℕ) → greatest_of (ns ++ n ∷ []) ≡ max (greatest_of ns) n
greatest-push [] n = omega arith
greatest-push (m ∷ ns) n = ap (λ k. max m k) (greatest-push ns n) ∙ by m (greatest_of ns) n
  where
    by : (a b c : ℕ) → max a (max b c) ≡ max (max a b) c
    by a b c = omega arith

pub greatest_next : (part : PartPlan) (arriving greatest more : ℕ)
    → greatest ≡ capped (greatest_of (map (share_of part) (range_with_len 0 arriving)))
    → more ≡ capped (share_of part arriving)
    → max greatest more ≡ capped (greatest_of (map (share_of part) (range_with_len 0 (arriving + 1))))
greatest_next part arriving greatest more e f =
    let S : List ℕ = map (share_of part) (range_with_len 0 arriving) in
    ap (λ n. max n more) e ∙ ap (λ n. max (capped (greatest_of S)) n) f ∙ capped-max (greatest_of S) (share_of part arriving)
    ∙ ap capped (sym (ap greatest_of (map-range_with_len_more (share_of part) 0 arriving arriving (omega arith)) ∙ greatest-push S (share_of part arriving)))
