-- The signs that parts show at the pairs that are tested.
use Rattle.std.proofs.Common.{◌≡◌, true, ℕ, zero, suc, ◌+◌, ◌<◌, List, [], ◌∷◌, ◌++◌, map, length, take, get_or, slice_get, slice_index_or, Some, refl, sym, ap, ap₂, ◌∙◌, subst, arith, length-append}
use Rattle.std.proofs.lemmas.List.{take_more, map-append}
use Rattle.std.proofs.lemmas.Option.{slice_get-get_or, get_or_from_slice_get}
use Rattle.arrayvec.specs.ArrayVec.{ArrayVec}
use Rattle.sem_query.specs.declared.part.Pair.{Pair}
use Rattle.sem_query.specs.declared.part.Sign.{Sign}
use Rattle.sem_query.specs.declared.plan.PartPlan.{PartPlan}
use Rattle.sem_query.specs.Query.{QueryValue}
use Rattle.sem_query.specs.Parts.{pairs, sign_at, pair_eq}
use Rattle.sem_query.proofs.Once.{pair_same}
use Rattle.sem_query.specs.Admission.{alone}
use Rattle.plan_implied_signs.specs.declared.showing.Test.{Test}
use Rattle.exec_synopsis.proofs.PrepareLaws.{pushed-get}
use Rattle.exec_part_index.specs.declared.tests.Asking.{Asking}
use Rattle.exec_part_index.specs.declared.tests.Tested.{Tested}
use Rattle.exec_part_index.specs.PartIndex.{Shows}
use Rattle.plan_implied_signs.specs.Showing.{ShowsSign}
use Rattle.exec_part_index.specs.Showing.{shown_signs, AreShown, IsAsking, AreAskings, pairs_tested, IsShownBy, AreSignsOf}

-- one pair more
shown_more : (q : QueryValue) (part : PartPlan) (place : ℕ) (ps : List Pair) (ss : List Sign) (p : Pair) (s : Sign) → Shows q part place ps ss → ShowsSign q part place p s
    → Shows q part place (ps ++ p ∷ []) (ss ++ s ∷ [])
shown_more q part place ps ss p s shows has v h =
    map-append (sign_at (alone v)) ps (p ∷ [])
    ∙ ap₂ (λ (xs : List Sign) (x : Sign). xs ++ x ∷ []) (shows v h) (has v h)

-- the pairs of the first tests, with one more
pub pairs_more : (tests : List Test) (i : ℕ) (d : Test) → i < length tests → pairs_tested (take (i + 1) tests) ≡ pairs_tested (take i tests) ++ (get_or tests i d).pair ∷ []
pairs_more tests i d within =
    let f : Test → Pair = λ t. t.pair in
    ap (map f) (take_more tests i d within) ∙ map-append f (take i tests) (get_or tests i d ∷ [])

-- the same of a list of pairs
pub pair_pushed : (tests : List Test) (i : ℕ) (d : Test) (pairs more : List Pair) → i < length tests → more ≡ pairs ++ (get_or tests i d).pair ∷ [] → pairs ≡ pairs_tested (take i tests)
    → more ≡ pairs_tested (take (i + 1) tests)
pair_pushed tests i d pairs more within pushed are =
    pushed ∙ ap (λ (ps : List Pair). ps ++ (get_or tests i d).pair ∷ []) are ∙ sym (pairs_more tests i d within)

-- one test more
pub signs_more : (q : QueryValue) (part : PartPlan) (place : ℕ) (tests : List Test) (i : ℕ) (d : Test) (signs more : ArrayVec Sign) (s : Sign) → i < length tests → more.items ≡ signs.items ++ s ∷ []
    → ShowsSign q part place (get_or tests i d).pair s → IsShownBy q place (pairs_tested (take i tests)) part signs → IsShownBy q place (pairs_tested (take (i + 1) tests)) part more
signs_more q part place tests i d signs more s within all has shown = record {
  many =
      ap length all ∙ length-append signs.items (s ∷ []) ∙ ap (λ (n : ℕ). n + 1) shown.many
      ∙ sym (ap length (pairs_more tests i d within) ∙ length-append (pairs_tested (take i tests)) ((get_or tests i d).pair ∷ []));
  shown =
      subst (λ (ps : List Pair). Shows q part place ps more.items) (sym (pairs_more tests i d within))
      (subst (λ (ss : List Sign). Shows q part place (pairs_tested (take i tests) ++ (get_or tests i d).pair ∷ []) ss) (sym all)
      (shown_more q part place (pairs_tested (take i tests)) signs.items (get_or tests i d).pair s shown.shown has));
}

signs-push : (q : QueryValue) (place : ℕ) (ps : List Pair) (parts : List PartPlan) (all : List (ArrayVec Sign)) (part : PartPlan) (signs : ArrayVec Sign)
    → AreSignsOf q place ps parts all → IsShownBy q place ps part signs → AreSignsOf q place ps (parts ++ part ∷ []) (all ++ signs ∷ [])
signs-push q place ps [] [] part signs h s = (s, tt)
signs-push q place ps [] (x ∷ all) part signs h s = absurd h
signs-push q place ps (y ∷ parts) [] part signs h s = absurd h
signs-push q place ps (y ∷ parts) (x ∷ all) part signs h s = (h.0, signs-push q place ps parts all part signs h.1 s)

-- one part more
pub part_more : (q : QueryValue) (place : ℕ) (ps : List Pair) (parts : List PartPlan) (all more : List (ArrayVec Sign)) (i : ℕ) (part o : PartPlan) (signs : ArrayVec Sign) → i < length parts → part ≡ get_or parts i o
    → more ≡ all ++ signs ∷ [] → AreSignsOf q place ps (take i parts) all → IsShownBy q place ps part signs → AreSignsOf q place ps (take (i + 1) parts) more
part_more q place ps parts all more i part o signs within is pushed h s =
    subst (λ (xs : List (ArrayVec Sign)). AreSignsOf q place ps (take (i + 1) parts) xs) (sym pushed)
    (subst (λ (ys : List PartPlan). AreSignsOf q place ps ys (all ++ signs ∷ [])) (sym (take_more parts i o within))
    (signs-push q place ps (take i parts) all (get_or parts i o) signs h (subst (λ (y : PartPlan). IsShownBy q place ps y signs) is s)))

-- no pair, and no sign
pub none_shown : (q : QueryValue) (place : ℕ) (part : PartPlan) (signs : ArrayVec Sign) → signs.items ≡ [] → IsShownBy q place [] part signs
none_shown q place part signs none = record {
  many = ap length none;
  shown = λ v h. sym none;
}

many_signs : (q : QueryValue) (place : ℕ) (ps : List Pair) (parts : List PartPlan) (all : List (ArrayVec Sign)) → AreSignsOf q place ps parts all → length all ≡ length parts
many_signs q place ps [] [] h = refl
many_signs q place ps [] (x ∷ all) h = absurd h
many_signs q place ps (y ∷ parts) [] h = absurd h
many_signs q place ps (y ∷ parts) (x ∷ all) h = ap suc (many_signs q place ps parts all h.1)

full_signs : (q : QueryValue) (place : ℕ) (ps : List Pair) (parts : List PartPlan) (all : List (ArrayVec Sign)) → AreSignsOf q place ps parts all
    → (k : ℕ) → k < length parts → length (slice_index_or all k (record { items = [] })).items ≡ length ps
full_signs q place ps [] all h k within = absurd (omega (arith, within))
full_signs q place ps (y ∷ parts) [] h k within = absurd h
full_signs q place ps (y ∷ parts) (x ∷ all) h zero within = (h.0).many
full_signs q place ps (y ∷ parts) (x ∷ all) h (suc k) within = full_signs q place ps parts all h.1 k (omega (arith, within))

each_shown : (q : QueryValue) (place : ℕ) (ps : List Pair) (parts : List PartPlan) (all : List (ArrayVec Sign)) → AreSignsOf q place ps parts all
    → (k : ℕ) (part : PartPlan) → slice_get parts k ≡ Some part → Shows q part place ps (slice_index_or all k (record { items = [] })).items
each_shown q place ps [] all h k part at_k = absurd cc
each_shown q place ps (y ∷ parts) [] h k part at_k = absurd h
each_shown q place ps (y ∷ parts) (x ∷ all) h zero part at_k =
    let same : y ≡ part = cc in
    subst (λ (z : PartPlan). Shows q z place ps x.items) same (h.0).shown
each_shown q place ps (y ∷ parts) (x ∷ all) h (suc k) part at_k = each_shown q place ps parts all h.1 k part at_k

-- what is listed is shown
pub all_shown : (q : QueryValue) (place : ℕ) (ps : List Pair) (parts : List PartPlan) (t : Tested) → t.pairs.items ≡ ps → AreSignsOf q place ps parts t.signs.items → AreAskings (pairs q) place t.pairs.items t.askings.items → AreShown q parts place t
all_shown q place ps parts t are h askings = record {
  askings = askings;
  many = many_signs q place ps parts t.signs.items h;
  full = λ k within. full_signs q place ps parts t.signs.items h k within ∙ sym (ap length are);
  each = λ k part at_k. subst (λ (xs : List Pair). Shows q part place xs (shown_signs t k)) (sym are) (each_shown q place ps parts t.signs.items h k part at_k);
}

-- a pair that is found among some
pub pair_found : (ps : List Pair) (i : ℕ) (d p : Pair) → i < length ps → d ≡ get_or ps i d → pair_eq d p ≡ true → slice_get ps i ≡ Some p
pair_found ps i d p within is same = slice_get-get_or ps i d within ∙ ap (λ (x : Pair). Some x) (sym is ∙ pair_same d p same)

-- how a row is asked for one pair more
pub asking_more : (ps : List Pair) (place : ℕ) (tested : List Pair) (askings more : List Asking) (a : Asking) (i : ℕ) (d : Pair) → length askings ≡ i → more ≡ askings ++ a ∷ []
    → AreAskings ps place tested askings → IsAsking place tested (get_or ps i d) a → AreAskings ps place tested more
asking_more ps place tested askings more a i d many pushed are is =
    let P : ℕ → Asking → Type 0 = λ k x. (p : Pair) → slice_get ps k ≡ Some p → IsAsking place tested p x in
    subst (λ (xs : List Asking). AreAskings ps place tested xs) (sym pushed)
    (pushed-get P askings a are
    (λ p at_p. subst (λ (x : Pair). IsAsking place tested x a) (get_or_from_slice_get ps i p d (subst (λ n. slice_get ps n ≡ Some p) many at_p)) is))

-- where nothing is listed
pub no_askings : (ps : List Pair) (place : ℕ) (tested : List Pair) (askings : List Asking) → askings ≡ [] → AreAskings ps place tested askings
no_askings ps place tested [] none i a at_i p at_p = absurd cc
no_askings ps place tested (x ∷ xs) none i a at_i p at_p = absurd cc

-- the same lists
pub askings_over : (ps rs : List Pair) (place : ℕ) (ts us : List Pair) (askings : List Asking) → ps ≡ rs → ts ≡ us → AreAskings ps place ts askings → AreAskings rs place us askings
askings_over ps rs place ts us askings same_pairs same_tested are =
    subst (λ (xs : List Pair). AreAskings xs place us askings) same_pairs (subst (λ (xs : List Pair). AreAskings ps place xs askings) same_tested are)

-- there are as many pairs as tests
pub many_pairs : (tests : List Test) → length (pairs_tested tests) ≡ length tests
many_pairs [] = refl
many_pairs (t ∷ tests) = ap suc (many_pairs tests)
