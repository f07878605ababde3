-- What a code does not tell of a part, and the list in which the conditions of all parts stand.
use Rattle.std.proofs.Common.{◌≡◌, ◌≢◌, ℕ, ◌+◌, ◌<◌, ◌≤◌, nat_eq, ◌&&◌, Bool, true, false, not, ◌||◌, suc, ℤ, List, [], ◌∷◌, ◌++◌, ◌+ℤ◌, pos, take, drop, set, length, get_or, slice_get, Option, Some, All, inl, inr, refl, sym, ap, ap₂, subst, ◌∙◌, arith}
use Rattle.std.specs.List.{list_all}
use Rattle.std.proofs.lemmas.Bool.Decides.{nat_tests}
use Rattle.std.proofs.lemmas.Int.{ints}
use Rattle.std.proofs.lemmas.List.{take_all, take_more, take-take, length-take, get_or-map, get_or-set_same, get_or-set_other}
use Rattle.std.proofs.lemmas.List.Folds.{list_all-append}
use Rattle.std.proofs.lemmas.Option.{slice_get_within, get_or_from_slice_get}
use Rattle.std.proofs.lemmas.Slice.{between_is}
use Rattle.sem_query.specs.declared.atom.Element.{Element}
use Rattle.sem_query.specs.declared.atom.Element.TheVariants as element
use Rattle.sem_query.specs.declared.part.Pair.{Pair}
use Rattle.sem_query.specs.declared.part.Sign.{Sign}
use Rattle.sem_query.specs.declared.plan.LocalCondition.{LocalCondition}
use Rattle.sem_query.specs.declared.plan.PartPlan.{PartPlan}
use Rattle.sem_query.specs.Query.{QueryValue, attr_eq}
use Rattle.sem_query.specs.declared.atom.Op.{Op}
use Rattle.sem_query.specs.Assignment.{value, compares}
use Rattle.sem_query.specs.Parts.{pairs, is_within, sign, sign_at, element_eq}
use Rattle.sem_query.specs.Admission.{alone, sign_eq, meets_local, keeps_local}
use Rattle.sem_laws.proofs.Tests.{sign_eq-itself, attr_eq-is, not_both, true_or_false, nat_true}
use Rattle.exec_synopsis.specs.declared.prepared.Prepared.{Prepared}
use Rattle.exec_synopsis.specs.Preparing.{IsPrepared, keeps_pair, keeps_tests}
use Rattle.exec_part_index.specs.declared.span.Span.{Span}
use Rattle.exec_part_index.specs.Span.{no_span, in_span, IsSpan}
use Rattle.exec_part_index.specs.PartIndex.{signs_at, code_after, AsksOnly}
use Rattle.plan_implied_signs.specs.Showing.{SaysCondition}
use Rattle.exec_part_index.specs.Remaining.{meets_any}
use Rattle.exec_part_index.proofs.Codes.{same_code}

many_signs : (v : ℕ → ℤ) (ps : List Pair) → length (signs_at v ps) ≡ length ps
many_signs v [] = refl
many_signs v (p ∷ ps) = ap suc (many_signs v ps)

-- a condition that the sign of one of some pairs says
pub said_or_not : (v : ℕ → ℤ) (ps : List Pair) (ss : List Sign) (i : ℕ) (p : Pair) (s : Sign) (t : LocalCondition) → i < length ps → p ≡ get_or ps i p → s ≡ get_or ss i s → SaysCondition p s t
    → signs_at v ps ≡ ss → meets_local (alone v) t ≡ true
said_or_not v ps ss i p s t within pair sign says has =
    says v
    (ap (sign_at (alone v)) pair
    ∙ sym (get_or-map (sign_at (alone v)) ps i p s within)
    ∙ ap (λ (xs : List Sign). get_or xs i s) has
    ∙ sym sign)

-- one of some pairs, and a sign that is its own
pub has_sign : (v : ℕ → ℤ) (ps : List Pair) (ss : List Sign) (i : ℕ) (p : Pair) (e s : Sign) → slice_get ps i ≡ Some p → sign_eq (get_or ss i e) s ≡ true
    → signs_at v ps ≡ ss → sign_eq (sign_at (alone v) p) s ≡ true
has_sign v ps ss i p e s pair sign has =
    let at : sign_at (alone v) (get_or ps i p) ≡ get_or ss i e = sym (get_or-map (sign_at (alone v)) ps i p e (slice_get_within ps i p pair)) ∙ ap (λ (xs : List Sign). get_or xs i e) has in
    ap (λ x. sign_eq (sign_at (alone v) x) s) (sym (get_or_from_slice_get ps i p p pair)) ∙ ap (λ x. sign_eq x s) at ∙ sign

-- a condition that asks for a sign of a pair
pub asks_sign : (p : Pair) (s : Sign) (o : Op) (t : LocalCondition) → ((x y : ℤ) → compares o x (y +ℤ pos 0) ≡ sign_eq (sign x y) s)
    → t ≡ record { left = p.left; op = o; right = p.right; by = pos 0 } → SaysCondition p s t
asks_sign p s o t means is =
    subst (λ (u : LocalCondition). SaysCondition p s u) (sym is)
    (λ v has. means (v p.left.column) (value p.right (alone v)) ∙ ap (λ (x : Sign). sign_eq x s) has ∙ sign_eq-itself s)

and_true : (b : Bool) → (b && true) ≡ b
and_true true = refl
and_true false = refl

all_more : {X : Type 0} (f : X → Bool) (xs : List X) (x : X) → list_all f (xs ++ x ∷ []) ≡ (list_all f xs && f x)
all_more f xs x = list_all-append f xs (x ∷ []) ∙ ap (λ b. list_all f xs && b) (and_true (f x))

all_taken : {X : Type 0} (f : X → Bool) (xs : List X) (i : ℕ) (d : X) → i < length xs → list_all f (take (i + 1) xs) ≡ (list_all f (take i xs) && f (get_or xs i d))
all_taken f xs i d within = ap (list_all f) (take_more xs i d within) ∙ all_more f (take i xs) (get_or xs i d)

-- a condition more
pub pushed_all : (v : ℕ → ℤ) (list more : List LocalCondition) (t : LocalCondition) → more ≡ list ++ t ∷ [] → list_all (meets_local (alone v)) more ≡ (list_all (meets_local (alone v)) list && meets_local (alone v) t)
pushed_all v list more t is = ap (list_all (meets_local (alone v))) is ∙ all_more (meets_local (alone v)) list t

-- a condition that is met anyway
pub nothing_more : (v : ℕ → ℤ) (list : List LocalCondition) (b : Bool) → b ≡ true → list_all (meets_local (alone v)) list ≡ (list_all (meets_local (alone v)) list && b)
nothing_more v list b is = sym (and_true (list_all (meets_local (alone v)) list)) ∙ ap (λ x. list_all (meets_local (alone v)) list && x) (sym is)

module _ (place : ℕ) (tested : List Pair) (shown : List Sign) where
  -- the conditions of a list are met where a test holds
  abbrev pub MeetWhere : List LocalCondition → ((ℕ → ℤ) → Bool) → Type 0
  MeetWhere list test = (v : ℕ → ℤ) → signs_at v tested ≡ shown → list_all (meets_local (alone v)) list ≡ test v

  -- what a condition more asks
  abbrev pub AsksMore : List LocalCondition → List LocalCondition → Option LocalCondition → Type 0
  AsksMore list more t = (v : ℕ → ℤ) → signs_at v tested ≡ shown → list_all (meets_local (alone v)) more ≡ (list_all (meets_local (alone v)) list && meets_any v t)

  -- one test more, of pairs, signs and tests as they are listed
  pub tests_more : (ps pairs : List Pair) (ss signs : List Sign) (tests items : List ℕ) (list more : List LocalCondition) (i d : ℕ)
      → pairs ≡ ps → signs ≡ ss → items ≡ tests → i < length items
      → ((v : ℕ → ℤ) → signs_at v tested ≡ shown → list_all (meets_local (alone v)) more ≡ (list_all (meets_local (alone v)) list && keeps_pair place (alone v) (slice_get pairs (get_or items i d)) (slice_get signs (get_or items i d))))
      → MeetWhere list (λ v. keeps_tests place (alone v) ps ss (take i tests)) → MeetWhere more (λ v. keeps_tests place (alone v) ps ss (take (i + 1) tests))
  tests_more ps pairs ss signs tests items list more i d same_pairs same_signs same within asks done v has =
      let f : ℕ → Bool = λ k. keeps_pair place (alone v) (slice_get ps k) (slice_get ss k) in
      let n : ℕ = get_or items i d in
      asks v has
      ∙ ap₂ (λ a b. a && b) (done v has ∙ ap (λ (xs : List ℕ). list_all f (take i xs)) (sym same))
      (ap₂ (λ (xs : List Pair) (ys : List Sign). keeps_pair place (alone v) (slice_get xs n) (slice_get ys n)) same_pairs same_signs)
      ∙ sym (all_taken f items i d within)
      ∙ ap (λ (xs : List ℕ). list_all f (take (i + 1) xs)) same

  -- before the first condition all tests are done
  pub tests_done : (ps : List Pair) (ss : List Sign) (tests items : List ℕ) (list : List LocalCondition) (asked : List LocalCondition) (i : ℕ) → items ≡ tests → length items ≤ i
      → MeetWhere list (λ v. keeps_tests place (alone v) ps ss (take i tests))
      → MeetWhere list (λ v. keeps_tests place (alone v) ps ss tests && keeps_local place (alone v) (take 0 asked))
  tests_done ps ss tests items list asked i same all done v has =
      let f : ℕ → Bool = λ k. keeps_pair place (alone v) (slice_get ps k) (slice_get ss k) in
      done v has
      ∙ ap (list_all f) (take_all i tests (subst (λ (xs : List ℕ). length xs ≤ i) same all))
      ∙ sym (and_true (list_all f tests))

  -- one condition more
  pub asked_more : (test : (ℕ → ℤ) → Bool) (asked items : List LocalCondition) (list more : List LocalCondition) (i : ℕ) (d : LocalCondition) (t : Option LocalCondition)
      → items ≡ asked → i < length items
      → ((v : ℕ → ℤ) → meets_any v t ≡ (not (is_within place (get_or items i d).left (get_or items i d).right) || meets_local (alone v) (get_or items i d))) → AsksMore list more t
      → MeetWhere list (λ v. test v && keeps_local place (alone v) (take i asked)) → MeetWhere more (λ v. test v && keeps_local place (alone v) (take (i + 1) asked))
  asked_more test asked items list more i d t same within own asks done v has =
      let f : LocalCondition → Bool = λ x. not (is_within place x.left x.right) || meets_local (alone v) x in
      asks v has
      ∙ ap₂ (λ a b. a && b) (done v has ∙ ap (λ (xs : List LocalCondition). test v && list_all f (take i xs)) (sym same)) (own v)
      ∙ together (test v) (list_all f (take i items)) (f (get_or items i d))
      ∙ ap (λ b. test v && b) (sym (all_taken f items i d within))
      ∙ ap (λ (xs : List LocalCondition). test v && list_all f (take (i + 1) xs)) same
    where
      together : (a b c : Bool) → ((a && b) && c) ≡ (a && (b && c))
      together true b c = refl
      together false b c = refl

  -- behind the last one all is asked
  pub asked_done : (test : (ℕ → ℤ) → Bool) (asked items : List LocalCondition) (list : List LocalCondition) (i : ℕ) → items ≡ asked → length items ≤ i
      → MeetWhere list (λ v. test v && keeps_local place (alone v) (take i asked)) → MeetWhere list (λ v. test v && keeps_local place (alone v) asked)
  asked_done test asked items list i same all done v has =
      done v has ∙ ap (λ (xs : List LocalCondition). test v && keeps_local place (alone v) xs) (take_all i asked (subst (λ (xs : List LocalCondition). length xs ≤ i) same all))

-- of a row that has the code of a part, the part asks what it asks of one that has its signs
pub said_or_left : (q : QueryValue) (part : PartPlan) (place : ℕ) (x : Prepared) (tested : List Pair) (ss : List Sign) (list : List LocalCondition) → length ss ≡ length tested → length tested ≤ 20
    → IsPrepared (pairs q) part x
    → ((v : ℕ → ℤ) → signs_at v tested ≡ ss → list_all (meets_local (alone v)) list ≡ (keeps_tests place (alone v) (pairs q) part.signs.items x.tests.items && keeps_local place (alone v) x.asked.items))
    → AsksOnly q part place tested (code_after 0 ss) list
said_or_left q part place x tested ss list full few prepared is v inside same =
    let many = many_signs v tested in
    let signs = (same_code 0 0 0 (signs_at v tested) ss (omega (arith, few, many)) (many ∙ sym full) (omega arith) (omega arith) same).1 in
    ap₂ (λ a b. a && b) (prepared.tests place v inside) (prepared.asked place v inside) ∙ sym (is v signs)

element_is : (x y : Element) → element_eq x y ≡ true → x ≡ y
element_is (element.Attr a) (element.Attr b) h = ap (λ z. element.Attr z) (attr_eq-is a b h)
element_is (element.Attr a) (element.Const k) h = absurd cc
element_is (element.Const j) (element.Attr b) h = absurd cc
element_is (element.Const j) (element.Const k) h = (let e : j ≡ k = grind (arith, ints, h) in ap (λ z. element.Const z) e)

-- two conditions with the same sides, operator and number
pub same_condition : (c d : LocalCondition) → attr_eq c.left d.left ≡ true → c.op ≡ d.op → element_eq c.right d.right ≡ true → c.by ≡ d.by → c ≡ d
same_condition c d left op right by =
    let l = attr_eq-is c.left d.left left in
    let r = element_is c.right d.right right in
    λ i. record { left = l i; op = op i; right = r i; by = by i }

-- a list that goes on is as long at least
longer : {X : Type 0} (xs more : List X) → take (length xs) more ≡ xs → length xs ≤ length more
longer xs more kept =
    let least = length-take (length xs) more in
    let same = ap length kept in
    grind (arith, least, same)

-- a span stays where the list goes on
pub in_span_kept : (xs more : List LocalCondition) (s : Span) → take (length xs) more ≡ xs → s.to ≤ length xs → in_span more s ≡ in_span xs s
in_span_kept xs more s kept low =
    between_is more s.from s.to
    ∙ ap (drop s.from) (sym (take-take s.to (length xs) more low) ∙ ap (take s.to) kept)
    ∙ sym (between_is xs s.from s.to)

pub spans_kept : (xs more : List LocalCondition) (spans : List Span) → take (length xs) more ≡ xs → All (IsSpan (length xs)) spans → All (IsSpan (length more)) spans
spans_kept xs more spans kept within k d l =
    let own = within k d l in
    let long = longer xs more kept in
    (own.0, let high = own.1 in omega (arith, high, long))

module _ (q : QueryValue) (parts : List PartPlan) (place : ℕ) (tested : List Pair) (code : ℕ → ℕ) where
  -- the conditions of the parts from a number on are listed
  abbrev pub AreListed : ℕ → List LocalCondition → List Span → Type 0
  AreListed i conditions spans =
      (k : ℕ) (part : PartPlan) → i ≤ k → slice_get parts k ≡ Some part → AsksOnly q part place tested (code k) (in_span conditions (get_or spans k no_span))

  -- those of one part more
  pub listed_more : (i : ℕ) (conditions more own : List LocalCondition) (spans : List Span) (s : Span) → i < length parts → length spans ≡ length parts → All (IsSpan (length conditions)) spans
      → take (length conditions) more ≡ conditions → in_span more s ≡ own → ((part : PartPlan) → slice_get parts i ≡ Some part → AsksOnly q part place tested (code i) own)
      → AreListed (i + 1) conditions spans → AreListed i more (set spans i s)
  listed_more i conditions more own spans s inside many within kept is asks done k part behind at_k = elim (true_or_false (nat_eq k i)) [
    | inl same ↦ (
        let here : k ≡ i = nat_true k i same in
        let placed : get_or (set spans i s) k no_span ≡ s = ap (λ n. get_or (set spans i s) n no_span) here ∙ get_or-set_same spans i s no_span (omega (arith, inside, many)) in
        subst (λ (xs : List LocalCondition). AsksOnly q part place tested (code k) xs) (sym (ap (in_span more) placed ∙ is))
        (subst (λ n. AsksOnly q part place tested (code n) own) (sym here) (asks part (subst (λ n. slice_get parts n ≡ Some part) here at_k))))
    | inr apart ↦ (
        let other : k ≢ i = λ e. not_both (nat_eq k i) (grind (arith, nat_tests, e)) apart in
        let there : k < length spans = (let l = slice_get_within parts k part at_k in omega (arith, l, many)) in
        let span : Span = get_or spans k no_span in
        let placed : get_or (set spans i s) k no_span ≡ span = get_or-set_other spans i k s no_span other in
        subst (λ (xs : List LocalCondition). AsksOnly q part place tested (code k) xs)
        (sym (ap (in_span more) placed ∙ in_span_kept conditions more span kept ((within k no_span there).1)))
        (done k part (grind (arith, nat_tests, behind, apart)) at_k))
  ]
