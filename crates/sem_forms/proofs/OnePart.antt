-- One part has no two boxes that are the same: with shared cells it is as without.
use Rattle.std.proofs.Common.{inl, inr, ◌≡◌, ℕ, zero, suc, ◌+◌, ◌<◌, ◌≤◌, ◌&&◌, not, cond, nat_eq, Bool, true, false, List, [], ◌∷◌, ◌++◌, map, filter, length, refl, sym, ap, ◌∙◌, subst, arith, append-nil}
use Rattle.std.proofs.lemmas.Bool.Decides.{nat_tests}
use Rattle.std.specs.List.{range_with_len}
use Rattle.sem_query.specs.declared.plan.PartPlan.{PartPlan}
use Rattle.sem_query.specs.Query.{QueryValue}
use Rattle.sem_query.specs.Plan.{Follow}
use Rattle.sem_query.specs.Numbers.{numbers_of}
use Rattle.sem_query.specs.Serving.{AreBased}
use Rattle.sem_query.specs.Sharing.{Box, box_at, boxes_in, boxes, same_box, different_boxes, sizes_in, start_in, numbers_for}
use Rattle.sem_query.proofs.Has.{Has, first, later, Has-from_contains}
use Rattle.sem_laws.proofs.OnePartFits.{has_cases}
use Rattle.sem_laws.proofs.PlanBoxes.{Apart, apart-different, count-of-boxes, stands-plan, start-own}
use Rattle.sem_forms.specs.Parts.{form_numbers}
use Rattle.sem_forms.proofs.Counted.{one_part_answers}

-- the boxes of a part from a place of FROM on
abbrev listed : PartPlan → ℕ → ℕ → List Box
listed part start n = map (box_at part) (range_with_len start n)

-- they are at no earlier place
from_on : (part : PartPlan) (start n : ℕ) (b : Box) → Has (listed part start n) b → start ≤ b.place
from_on part start zero b h = elim h [ ]
from_on part start (suc n) b h = elim (has_cases (box_at part start) b (listed part (start + 1) n) h) [
  | inl e ↦ (let p : start ≡ b.place = ap (λ (c : Box). c.place) e in omega (arith, p))
  | inr m ↦ (let l = from_on part (start + 1) n b m in omega (arith, l))
]

-- and so none of them is the same as one at an earlier place
none_same : (q : QueryValue) (part : PartPlan) (place : ℕ) (b : Box) → place < b.place → same_box q (box_at part place) b ≡ false
none_same q part place b l = by (nat_eq place b.place) _ (let f : nat_eq place b.place ≡ false = grind (arith, nat_tests, l) in f)
  where
    by : (t u : Bool) → t ≡ false → (t && u) ≡ false
    by true u f = absurd cc
    by false u f = refl

all_pass : {A : Type 0} (p : A → Bool) (xs : List A) → ((x : A) → Has xs x → p x ≡ true) → filter p xs ≡ xs
all_pass p [] f = refl
all_pass p (x ∷ xs) f = ap (λ t. cond t (x ∷ filter p xs) (filter p xs)) (f x first) ∙ ap (λ ys. x ∷ ys) (all_pass p xs (λ y h. f y (later h)))

all_different : (q : QueryValue) (part : PartPlan) (start n : ℕ) → different_boxes q (listed part start n) ≡ listed part start n
all_different q part start zero = refl
all_different q part start (suc n) =
    ap (λ bs. box_at part start ∷ filter (λ c. not (same_box q (box_at part start) c)) bs) (all_different q part (start + 1) n)
    ∙ ap (λ bs. box_at part start ∷ bs)
    (all_pass (λ c. not (same_box q (box_at part start) c)) (listed part (start + 1) n)
    (λ b h. ap not (none_same q part start b (let l = from_on part (start + 1) n b h in omega (arith, l)))))

-- the different boxes are all its boxes
one_part_boxes : (q : QueryValue) (part : PartPlan) → boxes q (part ∷ []) ≡ boxes_in (part ∷ [])
one_part_boxes q part =
    let e : boxes_in (part ∷ []) ≡ listed part 0 (length part.streams.items) = append-nil (listed part 0 (length part.streams.items)) in
    ap (different_boxes q) e ∙ all_different q part 0 (length part.streams.items) ∙ sym e

one_part_cells : (shared : Bool) (q : QueryValue) (part : PartPlan) → numbers_for shared q (part ∷ []) ≡ numbers_of q (part ∷ [])
one_part_cells false q part = refl
one_part_cells true q part =
    ap (λ (n : ℕ). record (numbers_of q (part ∷ [])) { cells = n }) (ap sizes_in (one_part_boxes q part) ∙ sym (count-of-boxes (part ∷ [])))

-- and one part is its own hull
pub one_part_numbers : (shared : Bool) (q : QueryValue) (part : PartPlan) → form_numbers shared q (part ∷ []) ≡ numbers_of q (part ∷ [])
one_part_numbers shared q part = λ i. record (one_part_cells shared q part i) { answers = one_part_answers q part i }

-- boxes one after another begin where they should, with shared cells and without
pub one_part_based : (shared : Bool) (q : QueryValue) (part : PartPlan) → Follow 0 (part ∷ []) → AreBased shared q (part ∷ [])
one_part_based false q part f = f
one_part_based true q part f =
    λ p k place l.
    let s = stands-plan 0 (part ∷ []) f p (Has-from_contains (part ∷ []) p k) place l in
    let whole : boxes q (part ∷ []) ≡ s.before ++ box_at p place ∷ s.after = one_part_boxes q part ∙ s.whole in
    let o : start_in q (boxes q (part ∷ [])) (box_at p place) ≡ sizes_in s.before
    = ap (λ (bs : List Box). start_in q bs (box_at p place)) whole
    ∙ start-own q s.before (box_at p place) s.after (subst (Apart q) whole (apart-different q (boxes_in (part ∷ [])))) in
    let t = s.there in omega (arith, t, o)
