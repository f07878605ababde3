-- What the loops over fronts and pairs need.
use Rattle.std.proofs.Common.{◌≡◌, ◌≤◌, ◌<◌, ◌+◌, ◌↔◌, ℕ, ◌⊎◌, inl, inr, Bool, true, false, cond, nat_lt, IsTrue, Result, Ok, Err, OnOk, List, [], ◌∷◌, ◌++◌, take, get_or, length, append-nil, sym, ◌∙◌, ap, subst, arith}
use Rattle.std.specs.List.{flat_map}
use Rattle.std.proofs.lemmas.Bool.Decides.{nat_tests}
use Rattle.std.proofs.lemmas.List.{length-map, take_more, take_all}
use Rattle.std.proofs.Math.ListN.{get_or-map}
use Rattle.std.proofs.lemmas.List.Concat.{flat_map-append}
use Rattle.std.proofs.lemmas.List.Elements.{Contains-get_or}
use Rattle.sem_query.specs.declared.part.Pair.{Pair}
use Rattle.sem_query.specs.declared.part.Sign.{Sign}
use Rattle.sem_query.specs.Query.{QueryValue, attrs_of, IsWithinLimits}
use Rattle.sem_query.proofs.Has.{Has, Has-from_contains}
use Rattle.plan_split_pairs.specs.Pairs.{unlike_pairs, split_pairs}
use Rattle.plan_split_pairs.specs.Laws.{IsNamed}
use Rattle.plan_split_pairs.proofs.Naming.{split_pairs_are_named}
use Rattle.plan_split_parts.specs.declared.front.Front.{Front}
use Rattle.plan_split_parts.specs.Sifting.{Sifts}
use Rattle.plan_split_parts.specs.Fronts.{IsFront, IsFrontOf, fronts_of, AreFronts, signs_behind, signs_at, candidates, Pushes}
use Rattle.plan_split_parts.proofs.Sifted.{sifts_append}
use Rattle.plan_split_parts.proofs.Stepped.{front_place, pushes_both}

-- a place of the pairs is one of the split pairs
pub place_in : (q : QueryValue) (pairs : List Pair) (n : ℕ) → pairs ≡ split_pairs q → n < length pairs → n < length (split_pairs q)
place_in q pairs n e l = let k = ap length e in omega (arith, k, l)

-- the pair at a place is of attributes, or of one with an integer that may be written
pub named_at : (q : QueryValue) → IsWithinLimits q → (pairs : List Pair) → pairs ≡ split_pairs q → (i : ℕ) (d : Pair) → i < length pairs → IsNamed (attrs_of q.atoms) (get_or pairs i d)
named_at q w pairs e i d l = split_pairs_are_named q w (get_or pairs i d) (subst (λ (z : List Pair). Has z (get_or pairs i d)) e (Has-from_contains pairs _ (Contains-get_or pairs i d l)))

-- the front at a place
module _ (q : QueryValue) (n : ℕ) (l : n < length (split_pairs q)) (fronts : List Front) (are : AreFronts q n fronts) (i : ℕ) (x : Front) (k : i < length fronts) (is : x ≡ get_or fronts i x) where
  item_in : Has fronts x
  item_in = Has-from_contains fronts x (i, k, sym is)

  pub item_length : length x.signs.items ≡ n
  item_length = front_place q n x.signs.items (omega (arith, l)) (are.each x item_in).signs

  pub item_front : IsFrontOf q (length x.signs.items) x
  item_front = subst (λ m. IsFrontOf q m x) (sym item_length) (are.each x item_in)

  item_more : take (i + 1) (fronts_of fronts) ≡ take i (fronts_of fronts) ++ x.signs.items ∷ []
  item_more =
      let e = length-map fronts (λ (f : Front). f.signs.items) in
      take_more (fronts_of fronts) i x.signs.items (omega (arith, k, e)) ∙ ap (λ z. take i (fronts_of fronts) ++ z ∷ []) (get_or-map (λ (f : Front). f.signs.items) fronts i x ∙ ap (λ f. f.signs.items) (sym is))

  -- its candidates come to those before it
  module _ (before after : List Front) (p : Pushes q (length x.signs.items + 1) (candidates (signs_at q (length x.signs.items)) x.signs.items) before after) where
    pushed : Pushes q (n + 1) (candidates (signs_at q n) x.signs.items) before after
    pushed = subst (λ m. Pushes q (m + 1) (candidates (signs_at q m) x.signs.items) before after) item_length p

    pub reach_more : Sifts (IsFront q (n + 1)) (flat_map (candidates (signs_at q n)) (take i (fronts_of fronts))) (fronts_of before)
        → Sifts (IsFront q (n + 1)) (flat_map (candidates (signs_at q n)) (take (i + 1) (fronts_of fronts))) (fronts_of after)
    reach_more s =
        let f = candidates (signs_at q n) in
        let e : flat_map f (take (i + 1) (fronts_of fronts)) ≡ flat_map f (take i (fronts_of fronts)) ++ f x.signs.items =
        ap (flat_map f) item_more ∙ flat_map-append f (take i (fronts_of fronts)) (x.signs.items ∷ []) ∙ ap (λ z. flat_map f (take i (fronts_of fronts)) ++ z) (append-nil (f x.signs.items)) in
        subst (λ z. Sifts (IsFront q (n + 1)) z (fronts_of after)) (sym e) (subst (Sifts (IsFront q (n + 1)) (flat_map f (take i (fronts_of fronts)) ++ f x.signs.items)) (sym pushed.added) (sifts_append (IsFront q (n + 1)) s pushed.sifted))

    pub reach_each : ((f : Front) → Has before f → IsFrontOf q (n + 1) f) → (f : Front) → Has after f → IsFrontOf q (n + 1) f
    reach_each g f h = elim (pushed.each f h) [ inl j ↦ g f j | inr j ↦ j ]

-- past the last front all are reached
pub reach_all : (q : QueryValue) (n i : ℕ) (fronts list : List Front) → length fronts ≤ i → Sifts (IsFront q (n + 1)) (flat_map (candidates (signs_at q n)) (take i (fronts_of fronts))) (fronts_of list)
    → Sifts (IsFront q (n + 1)) (flat_map (candidates (signs_at q n)) (fronts_of fronts)) (fronts_of list)
reach_all q n i fronts list l s =
    let e = length-map fronts (λ (f : Front). f.signs.items) in
    subst (λ z. Sifts (IsFront q (n + 1)) (flat_map (candidates (signs_at q n)) z) (fronts_of list)) (take_all i (fronts_of fronts) (omega (arith, l, e))) s

-- a list that is not too long
pub not_many : (b : Bool) (k n m : ℕ) → (IsTrue b ↔ ((k ≤ n) × (4096 < m))) → b ≡ false → k ≤ n → m ≤ 4096
not_many b k n m f e l = elim (either m) [ inl h ↦ h | inr h ↦ absurd (apart (sym (f.1 (l, h)) ∙ e)) ]
  where
    either : (m : ℕ) → (m ≤ 4096) ⊎ (4096 < m)
    either m = grind arith

    apart : true ≡ false → ⊥
    apart h = cc

-- candidates that are pushed after others, where there is memory
pub pushes_on : {A E : Type 0} (r : Result A E) (q : QueryValue) (n : ℕ) (xs ys : List (List Sign)) (a b c : List Front) → Pushes q n xs a b → OnOk r (Pushes q n ys b c) → OnOk r (Pushes q n (xs ++ ys) a c)
pushes_on (Ok u) q n xs ys a b c f g = pushes_both q n xs ys a b c f g
pushes_on (Err u) q n xs ys a b c f g = tt

-- a pair that is of no `<>` has the sign equal too
pub behind_others : (q : QueryValue) (n k : ℕ) (xs : List Sign) → k ≡ length (unlike_pairs q) → k ≤ n → candidates (signs_behind q n) xs ≡ (xs ++ Sign.Eq ∷ []) ∷ (xs ++ Sign.Gt ∷ []) ∷ []
behind_others q n k xs e l =
    let t : nat_lt n (length (unlike_pairs q)) ≡ false = grind (arith, nat_tests) in
    ap (λ b. candidates (cond b (Sign.Gt ∷ []) (Sign.Eq ∷ Sign.Gt ∷ [])) xs) t
