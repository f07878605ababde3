-- The table has room for what is found.
use Rattle.std.proofs.Common.{◌≡◌, ℕ, zero, suc, min, ◌^◌, ap₂, ◌+◌, ◌<◌, ◌≤◌, ◌⊎◌, inl, inr, ℤ, Bool, true, false, cond, List, [], ◌∷◌, map, length, refl, sym, ap, ◌∙◌, subst, arith, All, Contains, IsTrue, AllPairs, get_or}
use Rattle.std.proofs.lemmas.List.{length-map, get_or-map}
use Rattle.std.proofs.lemmas.List.Elements.{All-contains}
use Rattle.sem_query.specs.declared.plan.PartPlan.{PartPlan}
use Rattle.sem_query.specs.Query.{QueryValue}
use Rattle.sem_query.specs.Tuples.{is_before, insert_sorted}
use Rattle.sem_query.specs.Ranges.{all_tuples, at_column, different, selected_ranges}
use Rattle.sem_query.specs.Boxes.{box}
use Rattle.sem_query.specs.Combinations.{Found}
use Rattle.sem_query.proofs.Has.{Has, first, later, Has-head, Has-from_contains, Contains-from_has, Has-map_from}
use Rattle.sem_laws.proofs.Tests.{true_or_false}
use Rattle.sem_laws.proofs.OnePartFits.{has_cases}
use Rattle.sem_laws.proofs.Order.{cond_has}
use Rattle.sem_laws.proofs.Extremes.{flat_map-from}
use Rattle.exec_answer_table.specs.Entries.{Entry, entry_of, TableValue, with_entries, changed, has, Ascends, Fits, tuples_of}
use Rattle.exec_answer_table.proofs.Changed.{ascends_changed, ascends_get}
use Rattle.exec_answer_table.proofs.Tuples.{before_less, tuples_new, tuples_old}
use Rattle.sem_forms.specs.Answers.{HoldsAllTuples}
use Rattle.exec_query.specs.FoundTable.{with_found, with_all, HaveRoom}
use Rattle.exec_query.proofs.TableLaws.{ascends_found}

-- what holds of each member
pub all_from : {X : Type 0} (P : X → Type 0) (xs : List X) → ((x : X) → Has xs x → P x) → All P xs
all_from P [] f k d l = absurd (omega (arith, l))
all_from P (x ∷ xs) f zero d l = f x first
all_from P (x ∷ xs) f (suc k) d l = all_from P xs (λ y h. f y (later h)) k d (omega (arith, l))

-- each of these tuples lies in the ranges of some part
abbrev pub Lie : QueryValue → List PartPlan → List (List ℤ) → Type 0
Lie q plan ts = (t : List ℤ) → Has ts t → Has (all_tuples q plan) t

pub lie_from : (q : QueryValue) (plan : List PartPlan) (ts : List (List ℤ)) → All (Contains (all_tuples q plan)) ts → Lie q plan ts
lie_from q plan ts h t k = Has-from_contains (all_tuples q plan) t (All-contains (Contains (all_tuples q plan)) ts t h (Contains-from_has ts t k))

pub lie_all : (q : QueryValue) (plan : List PartPlan) (ts : List (List ℤ)) → Lie q plan ts → All (Contains (all_tuples q plan)) ts
lie_all q plan ts h = all_from (Contains (all_tuples q plan)) ts (λ t k. Contains-from_has (all_tuples q plan) t (h t k))

length-placed : (t : List ℤ) (us : List (List ℤ)) → length (insert_sorted t us) ≡ suc (length us)
length-placed t [] = refl
length-placed t (u ∷ us) = by (is_before u t) (length-placed t us)
  where
    by : (b : Bool) → length (insert_sorted t us) ≡ suc (length us) → length (cond b (u ∷ insert_sorted t us) (t ∷ u ∷ us)) ≡ suc (suc (length us))
    by true h = omega (arith, h)
    by false h = refl

has-placed : (t : List ℤ) (us : List (List ℤ)) (z : List ℤ) → Has (insert_sorted t us) z → (t ≡ z) ⊎ Has us z
has-placed t [] z h = has_cases t z [] h
has-placed t (u ∷ us) z h =
    elim (cond_has (is_before u t) (u ∷ insert_sorted t us) (t ∷ u ∷ us) z h) [
      | inl k ↦ elim (has_cases u z (insert_sorted t us) k.1) [
        | inl e ↦ inr (Has-head z u us e)
        | inr l ↦ elim (has-placed t us z l) [ inl e ↦ inl e | inr m ↦ inr (later m) ]
      ]
      | inr k ↦ has_cases t z (u ∷ us) k.1
    ]

-- the tuples after a change are the old ones and the tuple
pub tuples_changed : (t : List ℤ) (f : ℕ → ℕ) (es : List Entry) → Ascends es → (z : List ℤ) → Has (tuples_of (changed f t es)) z → (t ≡ z) ⊎ Has (tuples_of es) z
tuples_changed t f es a z h = elim (true_or_false (has t es)) [
  | inl e ↦ inr (subst (λ ts. Has ts z) (tuples_old t f es a e) h)
  | inr e ↦ has-placed t (tuples_of es) z (subst (λ ts. Has ts z) (tuples_new t f es e) h)
]

tuples_found : (d : Bool) (f : Found) (es : List Entry) → Ascends es → (z : List ℤ) → Has (tuples_of (with_found d f es)) z → (f.tuple ≡ z) ⊎ Has (tuples_of es) z
tuples_found true f es a z h = by (has f.tuple es) h
  where
    by : (b : Bool) → Has (tuples_of (cond b es (changed (λ waiting. waiting + 1) f.tuple es))) z → (f.tuple ≡ z) ⊎ Has (tuples_of es) z
    by true k = inr k
    by false k = tuples_changed f.tuple (λ waiting. waiting + 1) es a z k
tuples_found false f es a z h = tuples_changed f.tuple (λ waiting. min (waiting + f.count) (2 ^ 127)) es a z h

length-old : (t : List ℤ) (f : ℕ → ℕ) (es : List Entry) → Ascends es → has t es ≡ true → length (changed f t es) ≡ length es
length-old t f es a e = sym (length-map (changed f t es) (λ x. x.tuple)) ∙ ap length (tuples_old t f es a e) ∙ length-map es (λ x. x.tuple)

length-new : (t : List ℤ) (f : ℕ → ℕ) (es : List Entry) → has t es ≡ false → length (changed f t es) ≡ suc (length es)
length-new t f es e =
    sym (length-map (changed f t es) (λ x. x.tuple)) ∙ ap length (tuples_new t f es e) ∙ length-placed t (tuples_of es)
    ∙ ap (λ n. suc n) (length-map es (λ x. x.tuple))

-- a tuple that fits leaves the entries within the capacity
pub changed_within : (t : List ℤ) (f : ℕ → ℕ) (table : TableValue) → Ascends table.entries → Fits t table → length table.entries ≤ table.capacity
    → length (changed f t table.entries) ≤ table.capacity
changed_within t f table a fits few = elim (true_or_false (has t table.entries)) [
  | inl e ↦ (let n = length-old t f table.entries a e in omega (arith, n, few))
  | inr e ↦ (let n = length-new t f table.entries e in let room = fits e in omega (arith, n, room))
]

found_within : (d : Bool) (f : Found) (table : TableValue) → Ascends table.entries → Fits f.tuple table → length table.entries ≤ table.capacity
    → length (with_found d f table.entries) ≤ table.capacity
found_within true f table a fits few = by (has f.tuple table.entries)
  where
    by : (b : Bool) → length (cond b table.entries (changed (λ waiting. waiting + 1) f.tuple table.entries)) ≤ table.capacity
    by true = few
    by false = changed_within f.tuple (λ waiting. waiting + 1) table a fits few
found_within false f table a fits few = changed_within f.tuple (λ waiting. min (waiting + f.count) (2 ^ 127)) table a fits few

-- and so does all that is found
pub all_within : (d : Bool) (fs : List Found) (table : TableValue) → Ascends table.entries → HaveRoom d fs table → length table.entries ≤ table.capacity
    → length (with_all d fs table.entries) ≤ table.capacity
unfolding with_all
all_within d [] table a room few = few
all_within d (f ∷ fs) table a room few =
    all_within d fs (with_entries table (with_found d f table.entries)) (ascends_found d f table.entries a) room.2 (found_within d f table a room.1 few)

-- the tuples of entries in order stand in order
pairs-ascend : (es : List Entry) → Ascends es → AllPairs (λ t u. IsTrue (is_before t u)) (tuples_of es)
pairs-ascend es a i j d h l =
    let o : Entry = entry_of d 0 in
    let n : length (tuples_of es) ≡ length es = length-map es (λ e. e.tuple) in
    let k : j < length es = omega (arith, l, n) in
    let x : get_or (tuples_of es) i d ≡ (get_or es i o).tuple = get_or-map (λ e. e.tuple) es i o d (omega (arith, h, k)) in
    let y : get_or (tuples_of es) j d ≡ (get_or es j o).tuple = get_or-map (λ e. e.tuple) es j o d k in
    ap₂ is_before x y ∙ before_less (get_or es i o).tuple (get_or es j o).tuple (ascends_get o es i j a h k)

module _ (q : QueryValue) (plan : List PartPlan) where
  -- each tuple of the ranges has as many values as there are selected columns
  wide : (t : List ℤ) → Has (all_tuples q plan) t → length t ≡ length q.select
  wide t h =
      let m = flat_map-from (λ part. map (λ xs. map (at_column (different q.select) xs) q.select) (box (selected_ranges q part))) plan t h in
      let o = Has-map_from (λ xs. map (at_column (different q.select) xs) q.select) (box (selected_ranges q m.0)) t m.2 in
      ap length (sym o.2) ∙ length-map q.select (at_column (different q.select) o.0)

  -- the tuples stay within the ranges
  pub lie_found : (d : Bool) (f : Found) (es : List Entry) → Ascends es → Lie q plan (tuples_of es) → Has (all_tuples q plan) f.tuple
      → Lie q plan (tuples_of (with_found d f es))
  lie_found d f es a lie k z h = elim (tuples_found d f es a z h) [
    | inl e ↦ subst (λ u. Has (all_tuples q plan) u) e k
    | inr m ↦ lie z m
  ]

  pub lie_with_all : (d : Bool) (fs : List Found) (es : List Entry) → Ascends es → Lie q plan (tuples_of es)
      → ((f : Found) → Has fs f → Has (all_tuples q plan) f.tuple) → Lie q plan (tuples_of (with_all d fs es))
  unfolding with_all
  lie_with_all d [] es a lie k = lie
  lie_with_all d (f ∷ fs) es a lie k =
      lie_with_all d fs (with_found d f es) (ascends_found d f es a) (lie_found d f es a lie (k f first)) (λ g h. k g (later h))

module _ (q : QueryValue) (plan : List PartPlan) (most : ℕ) (holds : HoldsAllTuples q plan most) where
  -- a table within the ranges has room for one more tuple of them
  pub room_for : (t : List ℤ) (es : List Entry) → Ascends es → Lie q plan (tuples_of es) → Has (all_tuples q plan) t → has t es ≡ false
      → length es < most
  room_for t es a lie k none =
      let own : ℕ → ℕ = λ waiting. waiting in
      let more : List Entry = changed own t es in
      let all : Lie q plan (tuples_of more) = λ z h. elim (tuples_changed t own es a z h) [
        | inl e ↦ subst (λ u. Has (all_tuples q plan) u) e k
        | inr m ↦ lie z m
      ] in
      let n : length (tuples_of more) ≤ most = holds (tuples_of more) (pairs-ascend more (ascends_changed t own es a)) (lie_all q plan (tuples_of more) all) in
      let e : length (tuples_of more) ≡ suc (length (tuples_of es)) = ap length (tuples_new t own es none) ∙ length-placed t (tuples_of es) in
      let m : length (tuples_of es) ≡ length es = length-map es (λ e. e.tuple) in
      omega (arith, n, e, m)

  -- the table has room for all that is found
  pub have_room : (d : Bool) (fs : List Found) (table : TableValue) → table.width ≡ length q.select → table.capacity ≡ most
      → Ascends table.entries → Lie q plan (tuples_of table.entries) → ((f : Found) → Has fs f → Has (all_tuples q plan) f.tuple)
      → HaveRoom d fs table
  have_room d [] table width capacity a lie k = tt
  have_room d (f ∷ fs) table width capacity a lie k = (
    wide q plan f.tuple (k f first) ∙ sym width,
    λ none. (let r = room_for f.tuple table.entries a lie (k f first) none in omega (arith, r, capacity)),
    have_room d fs (with_entries table (with_found d f table.entries)) width capacity (ascends_found d f table.entries a)
        (lie_found q plan d f table.entries a lie (k f first)) (λ g h. k g (later h)),
  )
