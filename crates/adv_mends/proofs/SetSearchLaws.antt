-- Looking at one more set keeps least sets.
use Rattle.std.proofs.Common.{◌≡◌, ℕ, ◌+◌, ◌<◌, ◌≤◌, ◌⊎◌, inl, inr, ◌↔◌, Bool, true, List, [], ◌∷◌, ◌++◌, length, take, slice_index_or, min, nat_lt, All, IsTrue, IsFalse, refl, sym, ap, subst, ◌∙◌, arith}
use Rattle.std.proofs.lemmas.Bool.Decides.{nat_tests}
use Rattle.std.proofs.lemmas.List.{take_more, take_all}
use Rattle.std.proofs.lemmas.List.Elements.{All-contains}
use Rattle.plan_links.proofs.Searching.{no_more}
use Rattle.sem_query.specs.declared.atom.Attr.{Attr}
use Rattle.sem_query.specs.Query.{QueryValue}
use Rattle.sem_query.proofs.Has.{Has, first, later, Has-append_left, Has-append_right, Has-append_cases, Contains-from_has}
use Rattle.adv_mends.specs.declared.mend.ChangeKind.{ChangeKind}
use Rattle.adv_mends.specs.Ends.{MendsBy}
use Rattle.adv_mends.specs.Sublists.{IsSublist}
use Rattle.adv_mends.specs.Sets.{open_columns, sets_of, IsLeastSet, HasWithin, AreLeastAmong, AreLeastSets}
use Rattle.adv_mends.specs.SetSearch.{Looks, passed, failed, found}
use Rattle.adv_mends.proofs.Sublists.{sublist-refl, sublist-trans, sublist-shorter, le_or_lt, at_place}
use Rattle.adv_mends.proofs.Listing.{IsOfSize, sized, listed-is, listed, listed-by_size, smaller-before}

-- what stands in a list of one is that one
only_one : {A : Type 0} {x y : A} → Has (x ∷ []) y → x ≡ y
only_one first = refl
only_one (later k) = elim k [ ]

-- what stands among one more is that one, or stands among those before it
last_or_before : {A : Type 0} (xs : List A) (x y : A) → Has (xs ++ x ∷ []) y → Has xs y ⊎ (x ≡ y)
last_or_before xs x y h = elim (Has-append_cases xs (x ∷ []) y h) [ inl k ↦ inl k | inr k ↦ inr (only_one k) ]

-- a loop that looks for a set that is contained in some columns
pub more_none : (list : List (List Attr)) (i : ℕ) (columns set d : List Attr) → i < length list → All (λ (z : List Attr). ¬ IsSublist z columns) (take i list) → set ≡ slice_index_or list i d
    → ¬ IsSublist set columns → All (λ (z : List Attr). ¬ IsSublist z columns) (take (i + 1) list)
more_none list i columns set d l a e n = no_more (λ (z : List Attr). IsSublist z columns) list i d l a (λ s. n (subst (λ z. IsSublist z columns) (sym e) s))

pub within_one : (list : List (List Attr)) (i : ℕ) (columns set d : List Attr) → i < length list → set ≡ slice_index_or list i d → IsSublist set columns → HasWithin list columns
within_one list i columns set d l e s = record { one = set; there = subst (Has list) (sym e) (at_place list i d l); within = s }

pub none_within : (list : List (List Attr)) (i : ℕ) (columns : List Attr) → length list ≤ i → All (λ (z : List Attr). ¬ IsSublist z columns) (take i list) → HasWithin list columns → ⊥
none_within list i columns l a w =
    let b : All (λ (z : List Attr). ¬ IsSublist z columns) list = subst (All (λ (z : List Attr). ¬ IsSublist z columns)) (take_all i list l) a in
    All-contains (λ (z : List Attr). ¬ IsSublist z columns) list w.one b (Contains-from_has list w.one w.there) w.within

-- whether a search is cut short
pub cut-by : (m n most size : ℕ) → m ≡ most → n ≡ size → (nat_lt m n ≡ true → most < size) × (most < size → nat_lt m n ≡ true)
cut-by m n most size e f = ((λ h. grind (arith, nat_tests)), (λ h. grind (arith, nat_tests)))

module _ (kind : ChangeKind) (q : QueryValue) where
  abbrev sets : List (List Attr)
  sets = sets_of (open_columns q)

  -- at the start nothing was looked at
  pub least_none : AreLeastAmong kind q 0 []
  least_none = record { each = λ set h. elim h [ ]; all = λ set h m. elim h [ ] }

  -- a set that contains none of those found, and mends the query, is a least one
  least_set : (i : ℕ) (d set : List Attr) (before : List (List Attr)) → i < length sets → set ≡ slice_index_or sets i d → Has sets set → AreLeastAmong kind q i before
      → (HasWithin before set → ⊥) → MendsBy kind set q → IsLeastSet kind q set
  least_set i d set before l e h are apart m = by_size (listed-is (open_columns q) set h) where
    by_size : IsOfSize (open_columns q) set → IsLeastSet kind q set
    by_size (sized s few) = record {
      columns = s;
      few = few;
      mends = m;
      least = λ fewer t differs k.
          let small : length fewer < length set = sublist-shorter t differs in
          let there : Has sets fewer = listed (open_columns q) fewer (sublist-trans t s) (omega (arith, small, few)) in
          let looked : Has (take i sets) fewer = smaller-before sets i d fewer (listed-by_size (open_columns q)) l there (subst (λ z. length fewer < length z) e small) in
          let w = are.all fewer looked k in
          apart record { one = w.one; there = w.there; within = sublist-trans w.within t };
    }

  -- and it is found
  pub least_more : (i : ℕ) (d set : List Attr) (before after : List (List Attr)) → i < length sets → set ≡ slice_index_or sets i d → AreLeastAmong kind q i before
      → Looks kind q set before after → AreLeastAmong kind q (i + 1) after
  least_more i d set before after l e are looks = by_looks looks where
    h : Has sets set
    h = subst (Has sets) (sym e) (at_place sets i d l)

    among : (other : List Attr) → Has (take (i + 1) sets) other → Has (take i sets) other ⊎ (set ≡ other)
    among other k = last_or_before (take i sets) set other (subst (λ z. Has z other) (take_more sets i d l ∙ ap (λ z. take i sets ++ z ∷ []) (sym e)) k)

    stays : after ≡ before → (MendsBy kind set q → HasWithin before set) → AreLeastAmong kind q (i + 1) after
    stays same f = subst (AreLeastAmong kind q (i + 1)) (sym same) record {
      each = are.each;
      all = λ other k m. elim (among other k) [
        | inl j ↦ are.all other j m
        | inr w ↦ subst (HasWithin before) w (f (subst (λ z. MendsBy kind z q) (sym w) m))
      ];
    }

    by_looks : Looks kind q set before after → AreLeastAmong kind q (i + 1) after
    by_looks (passed w same) = stays same (λ m. w)
    by_looks (failed n same) = stays same (λ m. absurd (n m))
    by_looks (found apart m same) = subst (AreLeastAmong kind q (i + 1)) (sym same) record {
      each = λ other k. elim (last_or_before before set other k) [
        | inl j ↦ are.each other j
        | inr w ↦ subst (IsLeastSet kind q) w (least_set i d set before l e h are apart m)
      ];
      all = λ other k n. elim (among other k) [
        | inl j ↦ let w = are.all other j n in record { one = w.one; there = Has-append_left (set ∷ []) w.there; within = w.within }
        | inr w ↦ record { one = set; there = Has-append_right before first; within = subst (IsSublist set) w (sublist-refl set) }
      ];
    }

  -- the set at a place is one of the columns
  pub within_columns : (i : ℕ) (d : List Attr) → i < length sets → IsSublist (slice_index_or sets i d) (open_columns q)
  within_columns i d l = by_size (listed-is (open_columns q) (slice_index_or sets i d) (at_place sets i d l)) where
    by_size : {set : List Attr} → IsOfSize (open_columns q) set → IsSublist set (open_columns q)
    by_size (sized s few) = s

  -- the same of a list that is known by an equation
  pub least_step : (i : ℕ) (d set : List Attr) (list before after : List (List Attr)) → list ≡ sets → i < length list → set ≡ slice_index_or list i d → AreLeastAmong kind q i before
      → Looks kind q set before after → AreLeastAmong kind q (i + 1) after
  least_step i d set list before after is l e are looks =
      least_more i d set before after (subst (λ z. i < length z) is l) (subst (λ z. set ≡ slice_index_or z i d) is e) are looks

  pub within_there : (i : ℕ) (d set : List Attr) (list : List (List Attr)) → list ≡ sets → i < length list → set ≡ slice_index_or list i d → IsSublist set (open_columns q)
  within_there i d set list is l e =
      subst (λ z. IsSublist z (open_columns q)) (sym e) (subst (λ z. IsSublist (slice_index_or z i d) (open_columns q)) (sym is) (within_columns i d (subst (λ z. i < length z) is l)))

  -- what was found when all that may be looked at was looked at
  pub least_all : (most n : ℕ) (found_sets : List (List Attr)) (cut : Bool) → AreLeastAmong kind q n found_sets → n ≡ min (length sets) most → (IsTrue cut ↔ most < length sets) → AreLeastSets kind q most found_sets cut
  least_all most n found_sets cut are e c = record {
    each = are.each;
    all = λ f set s few m. are.all set (subst (λ k. Has k set) (sym (whole f)) (listed (open_columns q) set s few)) m;
    cut = c;
  }
    where
      false_true : IsFalse cut → IsTrue cut → ⊥
      false_true f t = absurd cc

      whole : IsFalse cut → take n sets ≡ sets
      whole f = elim (le_or_lt (length sets) most) [
        | inl l ↦ take_all n sets (omega (arith, e, l))
        | inr l ↦ absurd (false_true f (c.1 l))
      ]
