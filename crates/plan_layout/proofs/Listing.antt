-- Boxes that are listed: what an entry tells, how the same box is found, and one box more.
use Rattle.std.proofs.Common.{◌≡◌, ◌≢◌, ℕ, suc, ◌+◌, ◌-◌, ◌%◌, ◌^◌, ◌<◌, ◌≤◌, min, ◌⊎◌, inl, inr, Bool, true, false, ◌||◌, nat_eq, cond, List, [], ◌∷◌, ◌++◌, map, length, set, get_or, slice_index_or, Some, All, Contains, refl, sym, ap, ap₂, ◌∙◌, subst, arith, length-append, length-set}
use Rattle.std.specs.List.{list_any}
use Rattle.std.proofs.lemmas.Bool.Decides.{nat_tests}
use Rattle.std.proofs.Math.ListN.{get_or-append}
use Rattle.std.proofs.Math.Seq.{get_or-append_seam}
use Rattle.std.proofs.lemmas.List.{map-append, length-map, get_or-map, get_or-set_same, get_or-set_other, get_or_default}
use Rattle.std.proofs.lemmas.List.Sums.{sum_by_push}
use Rattle.std.proofs.lemmas.List.Elements.{All-push, All-contains, Contains-get_or}
use Rattle.sem_query.specs.declared.plan.PartPlan.{PartPlan}
use Rattle.sem_query.specs.Query.{QueryValue}
use Rattle.sem_query.specs.Plan.{dims_at}
use Rattle.sem_query.specs.Sharing.{Box, box_at, size_in, same_box, sizes_in, start_in}
use Rattle.sem_query.proofs.Has.{Has-from_contains, Has-map}
use Rattle.sem_laws.proofs.Tests.{true_or_false, not_both, false_if, same_bool, any_if, nat_true}
use Rattle.sem_laws.proofs.SameBoxes.{are-same, same-itself, same-then, same-turned}
use Rattle.sem_laws.proofs.GrowingBoxes.{start-stays, start-new}
use Rattle.plan_layout.specs.declared.boxes.Slot.{Slot}
use Rattle.plan_layout.specs.declared.boxes.BoxEntry.{BoxEntry}
use Rattle.plan_layout.specs.declared.boxes.Boxes.{Boxes}
use Rattle.plan_layout.specs.Capped.{capped}
use Rattle.plan_layout.specs.Boxed.{cells_over, boxed}
use Rattle.plan_layout.specs.Codes.{code_of}
use Rattle.plan_layout.specs.Listed.{no_part, box_in, box_of, listed, with_box, buckets_of, IsFound, IsLast, AreChained, IsSlot, IsEntry, AreListed}
use Rattle.plan_layout.proofs.Setting.{as_many}
use Rattle.plan_layout.proofs.Coding.{code_same}
use Rattle.plan_layout.proofs.Bare.{same_left, same_right, size_by_dims, streams_in}
use Rattle.plan_layout.proofs.DraftLaws.{whole, small_left, sum_kept}

-- ---- one entry

-- an entry of another code is of another box
pub other_code : (q : QueryValue) (b c : Box) (m n : ℕ) → m ≢ n → m ≡ code_of q b → n ≡ code_of q c → nat_eq m n ≡ same_box q b c
other_code q b c m n h e f =
    false_if (nat_eq m n) (λ same. h (nat_true m n same)) ∙ sym (false_if (same_box q b c) (λ same. h (e ∙ code_same q b c same ∙ sym f)))

-- an entry is compared with a box by their parts
pub entry_told : (q : QueryValue) (parts : List PartPlan) (e : BoxEntry) (i place : ℕ) (p o : PartPlan) (r : Bool) → e.part < length parts → i < length parts
    → p ≡ slice_index_or parts e.part p → o ≡ slice_index_or parts i o → r ≡ same_box q (box_at p e.place) (box_at o place)
    → r ≡ same_box q (box_of (boxed q 0 parts) e) (box_in (boxed q 0 parts) i place)
entry_told q parts e i place p o r l m f g h =
    let s : p ≡ slice_index_or parts e.part no_part = f ∙ get_or_default parts e.part p no_part l in
    let t : o ≡ slice_index_or parts i no_part = g ∙ get_or_default parts i o no_part m in
    h
    ∙ (λ j. same_box q (box_at (s j) e.place) (box_at (t j) place))
    ∙ sym (same_left q parts e.part l e.place (box_in (boxed q 0 parts) i place) ∙ same_right q parts i m place (box_at (slice_index_or parts e.part no_part) e.place))

-- ---- the same box is found

-- no box from this entry on is the same
abbrev pub NoneFrom : QueryValue → List PartPlan → List BoxEntry → Box → ℕ → Type 0
NoneFrom q plan entries b i = (k : ℕ) (e : BoxEntry) → i ≤ k → k < length entries → same_box q (box_of plan (get_or entries k e)) b ≡ false

-- the entries from this one on are looked at, and the one before it is of the bucket of the box
pub record AreLooked (q : QueryValue) (plan : List PartPlan) (entries : List BoxEntry) (count : ℕ) (b : Box) (i : ℕ) : Type 0 where
  pub within : i ≤ length entries
  pub there : 0 < i → get_or (buckets_of count entries) (i - 1) 0 ≡ code_of q b % count
  pub none : NoneFrom q plan entries b i

module _ (q : QueryValue) (plan : List PartPlan) (entries : List BoxEntry) (are : All (IsEntry q plan) entries) (count : ℕ) (b : Box) where
  -- an entry of another bucket is of another box
  apart : (k : ℕ) (e : BoxEntry) → k < length entries → get_or (buckets_of count entries) k 0 ≢ code_of q b % count → same_box q (box_of plan (get_or entries k e)) b ≡ false
  apart k e l other =
      false_if (same_box q (box_of plan (get_or entries k e)) b) (λ h.
      other (get_or-map (λ (x : BoxEntry). x.code % count) entries k e 0 l ∙ ap (λ (n : ℕ). n % count) ((are k e l).code ∙ code_same q (box_of plan (get_or entries k e)) b h)))

  pub looked_none : (code i : ℕ) → code ≡ code_of q b → IsLast (buckets_of count entries) (code % count) (length entries) i → AreLooked q plan entries count b i
  looked_none code i is h =
      let same : code % count ≡ code_of q b % count = ap (λ (n : ℕ). n % count) is in
      record {
        within = h.within;
        there = λ l. h.there l ∙ same;
        none = λ k e low high. apart k e high (λ g. h.passed k low high (g ∙ sym same));
      }

  pub looked_one : (i j : ℕ) (e : BoxEntry) → 0 < i → AreLooked q plan entries count b i → same_box q (box_of plan (get_or entries (i - 1) e)) b ≡ false
      → IsLast (buckets_of count entries) (get_or (buckets_of count entries) (i - 1) 0) (i - 1) j → AreLooked q plan entries count b j
  looked_one i j e some h other next =
      let w = h.within in
      let n = next.within in
      record {
        within = omega (arith, some, w, n);
        there = λ l. next.there l ∙ h.there some;
        none = λ k d low high. elim (before_at_or_behind k (i - 1)) [
          | inl before ↦ apart k d high (λ g. next.passed k low before (g ∙ sym (h.there some)))
          | inr r ↦ elim r [
            | inl here ↦ subst (λ (m : ℕ). same_box q (box_of plan (get_or entries m d)) b ≡ false) (sym here)
                (ap (λ (x : BoxEntry). same_box q (box_of plan x) b) (get_or_default entries (i - 1) d e (omega (arith, some, w))) ∙ other)
            | inr behind ↦ h.none k d (omega (arith, behind, some)) high
          ]
        ];
      }
    where
      before_at_or_behind : (k m : ℕ) → (k < m) ⊎ ((k ≡ m) ⊎ (m < k))
      before_at_or_behind k m = grind arith

-- the last entry of a bucket, as it is looked up
pub last_at : (q : QueryValue) (plan : List PartPlan) (boxes : Boxes) → AreListed q plan boxes → (code count bucket number : ℕ) → count ≡ length boxes.lasts.items → bucket ≡ code % count → bucket < count
    → number ≡ get_or boxes.lasts.items bucket number → IsLast (buckets_of (length boxes.lasts.items) boxes.entries.items) (code % length boxes.lasts.items) (length boxes.entries.items) number
last_at q plan boxes h code count bucket number e is l f =
    let m : bucket < length boxes.lasts.items = omega (arith, e, l) in
    subst (λ (n : ℕ). IsLast (buckets_of (length boxes.lasts.items) boxes.entries.items) (code % length boxes.lasts.items) (length boxes.entries.items) n)
    (sym (f ∙ get_or_default boxes.lasts.items bucket number 0 m))
    (subst (λ (n : ℕ). IsLast (buckets_of (length boxes.lasts.items) boxes.entries.items) n (length boxes.entries.items) (get_or boxes.lasts.items bucket 0))
    (is ∙ ap (λ (n : ℕ). code % n) e) (h.chained.last bucket m))

-- an entry that is looked at and is not of the same box
pub looked_at : (q : QueryValue) (plan : List PartPlan) (boxes : Boxes) → AreListed q plan boxes → (b : Box) (i : ℕ) (e : BoxEntry) → 0 < i → e ≡ get_or boxes.entries.items (i - 1) e
    → same_box q (box_of plan e) b ≡ false → AreLooked q plan boxes.entries.items (length boxes.lasts.items) b i → AreLooked q plan boxes.entries.items (length boxes.lasts.items) b e.before
looked_at q plan boxes h b i e some is other k =
    let w = k.within in
    looked_one q plan boxes.entries.items h.entries (length boxes.lasts.items) b i e.before e some k
    (subst (λ (x : BoxEntry). same_box q (box_of plan x) b ≡ false) is other)
    (subst (λ (x : BoxEntry). IsLast (buckets_of (length boxes.lasts.items) boxes.entries.items) (get_or (buckets_of (length boxes.lasts.items) boxes.entries.items) (i - 1) 0) (i - 1) x.before) (sym is)
    (h.chained.before (i - 1) e (omega (arith, some, w))))

none_any : (f : BoxEntry → Bool) (entries : List BoxEntry) → ((k : ℕ) (e : BoxEntry) → k < length entries → f (get_or entries k e) ≡ false) → list_any f entries ≡ false
none_any f [] h = refl
none_any f (x ∷ xs) h = ap₂ (λ s t. s || t) (h 0 x (omega arith)) (none_any f xs (λ k e l. h (suc k) e (omega (arith, l))))

any-map : (f : Box → Bool) (g : BoxEntry → Box) (xs : List BoxEntry) → list_any f (map g xs) ≡ list_any (λ e. f (g e)) xs
any-map f g [] = refl
any-map f g (x ∷ xs) = ap (λ t. f (g x) || t) (any-map f g xs)

-- after the last of its bucket the box is not listed
pub looked_all : (q : QueryValue) (plan : List PartPlan) (entries : List BoxEntry) (count : ℕ) (b : Box) (i : ℕ) → i ≤ 0 → AreLooked q plan entries count b i
    → list_any (λ c. same_box q c b) (map (box_of plan) entries) ≡ false
looked_all q plan entries count b i l h =
    any-map (λ c. same_box q c b) (box_of plan) entries ∙ none_any (λ e. same_box q (box_of plan e) b) entries (λ k e m. h.none k e (omega (arith, l)) m)

-- ---- one box more

last_here : (buckets : List ℕ) (x n : ℕ) → n ≡ length buckets → IsLast (buckets ++ x ∷ []) x (n + 1) (n + 1)
last_here buckets x n e = record {
  within = omega arith;
  passed = λ k low high. absurd (omega (arith, low, high));
  there = λ l. subst (λ (m : ℕ). get_or (buckets ++ x ∷ []) m 0 ≡ x) (omega (arith, e)) (get_or-append_seam buckets x [] 0);
}

last_kept : (buckets : List ℕ) (x b n i : ℕ) → n ≤ length buckets → IsLast buckets b n i → IsLast (buckets ++ x ∷ []) b n i
last_kept buckets x b n i l h = record {
  within = h.within;
  passed = λ k low high. subst (λ (m : ℕ). m ≢ b) (sym (get_or-append buckets (x ∷ []) 0 k (omega (arith, high, l)))) (h.passed k low high);
  there = λ m. get_or-append buckets (x ∷ []) 0 (i - 1) (let w = h.within in omega (arith, m, w, l)) ∙ h.there m;
}

last_behind : (buckets : List ℕ) (x b n i : ℕ) → n ≡ length buckets → x ≢ b → IsLast buckets b n i → IsLast (buckets ++ x ∷ []) b (n + 1) i
last_behind buckets x b n i e other h =
    let kept = last_kept buckets x b n i (omega (arith, e)) h in
    let w = h.within in
    record {
      within = omega (arith, w);
      passed = λ k low high. elim (before_or k n high) [
        | inl before ↦ kept.passed k low before
        | inr here ↦ subst (λ (m : ℕ). m ≢ b) (sym (ap (λ m. get_or (buckets ++ x ∷ []) m 0) (here ∙ e) ∙ get_or-append_seam buckets x [] 0)) other
      ];
      there = kept.there;
    }
  where
    before_or : (k n : ℕ) → k < n + 1 → (k < n) ⊎ (k ≡ n)
    before_or k n l = grind arith

module _ (count : ℕ) (entries : List BoxEntry) (lasts : List ℕ) (e : BoxEntry) (bucket : ℕ) where
  B : List ℕ
  B = buckets_of count entries

  more : buckets_of count (entries ++ e ∷ []) ≡ buckets_of count entries ++ (e.code % count) ∷ []
  more = map-append (λ (x : BoxEntry). x.code % count) entries (e ∷ [])

  long : length entries ≡ length (buckets_of count entries)
  long = sym (length-map entries (λ (x : BoxEntry). x.code % count))

  pub chained_more : AreChained count entries lasts → length lasts ≡ count → bucket ≡ e.code % count → bucket < count → e.before ≡ get_or lasts bucket 0
      → AreChained count (entries ++ e ∷ []) (set lasts bucket (length entries + 1))
  chained_more h many is low begin = record {
    some = h.some;
    last = λ b l. subst (λ (bs : List ℕ). IsLast bs b (length (entries ++ e ∷ [])) (get_or (set lasts bucket (length entries + 1)) b 0)) (sym more)
        (subst (λ (n : ℕ). IsLast (buckets_of count entries ++ (e.code % count) ∷ []) b n (get_or (set lasts bucket (length entries + 1)) b 0)) (sym (length-append entries (e ∷ [])))
        (last_of b l (true_or_false (nat_eq b bucket))));
    before = λ k d l. subst (λ (bs : List ℕ). IsLast bs (get_or bs k 0) k (get_or (entries ++ e ∷ []) k d).before) (sym more) (before_of k d (before_or k (length entries) (omega (arith, l, length-append entries (e ∷ [])))));
  }
    where
      before_or : (k n : ℕ) → k < n + 1 → (k < n) ⊎ (k ≡ n)
      before_or k n l = grind arith

      last_of : (b : ℕ) → b < count → (nat_eq b bucket ≡ true) ⊎ (nat_eq b bucket ≡ false)
          → IsLast (buckets_of count entries ++ (e.code % count) ∷ []) b (length entries + 1) (get_or (set lasts bucket (length entries + 1)) b 0)
      last_of b l (inl same) =
          let s : b ≡ bucket = nat_true b bucket same in
          subst (λ (i : ℕ). IsLast (buckets_of count entries ++ (e.code % count) ∷ []) b (length entries + 1) i)
          (sym (ap (λ (m : ℕ). get_or (set lasts bucket (length entries + 1)) m 0) s ∙ get_or-set_same lasts bucket (length entries + 1) 0 (omega (arith, low, many))))
          (subst (λ (m : ℕ). IsLast (buckets_of count entries ++ (e.code % count) ∷ []) m (length entries + 1) (length entries + 1)) (sym (s ∙ is))
          (last_here (buckets_of count entries) (e.code % count) (length entries) long))
      last_of b l (inr differ) =
          let other : b ≢ bucket = λ g. not_both (nat_eq b bucket) (grind (arith, nat_tests, g)) differ in
          subst (λ (i : ℕ). IsLast (buckets_of count entries ++ (e.code % count) ∷ []) b (length entries + 1) i) (sym (get_or-set_other lasts bucket b (length entries + 1) 0 other))
          (last_behind (buckets_of count entries) (e.code % count) b (length entries) (get_or lasts b 0) long (λ g. other (sym g ∙ sym is)) (h.last b l))

      before_of : (k : ℕ) (d : BoxEntry) → (k < length entries) ⊎ (k ≡ length entries)
          → IsLast (buckets_of count entries ++ (e.code % count) ∷ []) (get_or (buckets_of count entries ++ (e.code % count) ∷ []) k 0) k (get_or (entries ++ e ∷ []) k d).before
      before_of k d (inl early) =
          subst (λ (x : BoxEntry). IsLast (buckets_of count entries ++ (e.code % count) ∷ []) (get_or (buckets_of count entries ++ (e.code % count) ∷ []) k 0) k x.before) (sym (get_or-append entries (e ∷ []) d k early))
          (subst (λ (b : ℕ). IsLast (buckets_of count entries ++ (e.code % count) ∷ []) b k (get_or entries k d).before)
          (sym (get_or-append (buckets_of count entries) ((e.code % count) ∷ []) 0 k (omega (arith, early, long))))
          (last_kept (buckets_of count entries) (e.code % count) (get_or (buckets_of count entries) k 0) k (get_or entries k d).before (omega (arith, early, long)) (h.before k d early)))
      before_of k d (inr here) =
          subst (λ (m : ℕ). IsLast (buckets_of count entries ++ (e.code % count) ∷ []) (get_or (buckets_of count entries ++ (e.code % count) ∷ []) m 0) m (get_or (entries ++ e ∷ []) m d).before) (sym here)
          (subst (λ (x : BoxEntry). IsLast (buckets_of count entries ++ (e.code % count) ∷ []) (get_or (buckets_of count entries ++ (e.code % count) ∷ []) (length entries) 0) (length entries) x.before)
          (sym (get_or-append_seam entries e [] d))
          (subst (λ (b : ℕ). IsLast (buckets_of count entries ++ (e.code % count) ∷ []) b (length entries) e.before)
          (sym (ap (λ m. get_or (buckets_of count entries ++ (e.code % count) ∷ []) m 0) long ∙ get_or-append_seam (buckets_of count entries) (e.code % count) [] 0))
          (last_kept (buckets_of count entries) (e.code % count) (e.code % count) (length entries) e.before (omega (arith, long))
          (subst (λ (i : ℕ). IsLast (buckets_of count entries) (e.code % count) (length entries) i) (sym begin)
          (subst (λ (b : ℕ). IsLast (buckets_of count entries) b (length entries) (get_or lasts bucket 0)) is (h.last bucket low))))))

-- where a box begins does not depend on which of two that are the same it is
pub start-same : (q : QueryValue) (list : List Box) (b c : Box) → same_box q b c ≡ true → start_in q list b ≡ start_in q list c
start-same q [] b c h = refl
start-same q (x ∷ xs) b c h = λ i. cond (tests i) 0 (size_in x + start-same q xs b c h i)
  where
    tests : same_box q x b ≡ same_box q x c
    tests = same_bool (same_box q x b) (same_box q x c) (λ k. same-then q x b c k h) (λ k. same-then q x c b k (same-turned q b c h))

-- an entry that is listed has its box among those that are listed
pub is_listed : (q : QueryValue) (plan : List PartPlan) (entries : List BoxEntry) (e : BoxEntry) (b : Box) → Contains entries e → same_box q (box_of plan e) b ≡ true
    → list_any (λ c. same_box q c b) (map (box_of plan) entries) ≡ true
is_listed q plan entries e b k h = any_if (λ c. same_box q c b) (map (box_of plan) entries) (box_of plan e) (Has-map (box_of plan) (Has-from_contains entries e k)) h

module _ (q : QueryValue) (plan : List PartPlan) (old new : Boxes) (e : BoxEntry) (bucket size : ℕ) (h : AreListed q plan old) (good : IsEntry q plan e)
    (fresh : list_any (λ c. same_box q c (box_of plan e)) (listed plan old) ≡ false) (pushed : new.entries.items ≡ old.entries.items ++ e ∷ [])
    (sized : size ≡ capped (size_in (box_of plan e))) (summed : new.cells ≡ min (old.cells + size) (2 ^ 64 - 1))
    (based : old.cells < 2 ^ 32 → e.slot.base ≡ old.cells) (fits : size < 2 ^ 32 → e.slot.size ≡ size) where
  longer : listed plan new ≡ listed plan old ++ box_of plan e ∷ []
  longer = ap (map (box_of plan)) pushed ∙ map-append (box_of plan) old.entries.items (e ∷ [])

  cells_more : new.cells ≡ capped (sizes_in (listed plan new))
  cells_more =
      summed ∙ sum_kept old.cells size (sizes_in (listed plan old)) (size_in (box_of plan e)) h.cells sized
      ∙ ap capped (sym (ap sizes_in longer ∙ sum_by_push size_in (listed plan old) (box_of plan e)))

  pub slot_new : new.cells < 2 ^ 32 → IsSlot q (listed plan new) (box_of plan e) e.slot
  slot_new l =
      let m = small_left new.cells old.cells size summed l in
      record {
        base =
            based m.0 ∙ whole old.cells (sizes_in (listed plan old)) h.cells m.0
            ∙ sym (ap (λ (list : List Box). start_in q list (box_of plan e)) longer ∙ start-new q (listed plan old) (box_of plan e) fresh);
        size = fits m.1 ∙ whole size (size_in (box_of plan e)) sized m.1;
      }

  slot_old : new.cells < 2 ^ 32 → (o : BoxEntry) → Contains old.entries.items o → IsSlot q (listed plan old) (box_of plan o) o.slot → IsSlot q (listed plan new) (box_of plan o) o.slot
  slot_old l o k s = record {
    base =
        s.base
        ∙ sym (ap (λ (list : List Box). start_in q list (box_of plan o)) longer
        ∙ start-stays q (listed plan old) (box_of plan e ∷ []) (box_of plan o) (is_listed q plan old.entries.items o (box_of plan o) k (same-itself q (box_of plan o))));
    size = s.size;
  }

  slots_more : new.cells < 2 ^ 32 → All (λ o. IsSlot q (listed plan new) (box_of plan o) o.slot) new.entries.items
  slots_more l =
      let m = small_left new.cells old.cells size summed l in
      subst (All (λ (o : BoxEntry). IsSlot q (listed plan new) (box_of plan o) o.slot)) (sym pushed)
      (All-push (λ (o : BoxEntry). IsSlot q (listed plan new) (box_of plan o) o.slot) old.entries.items e
      (λ k d i. slot_old l (get_or old.entries.items k d) (Contains-get_or old.entries.items k d i) (h.slots m.0 k d i)) (slot_new l))

  pub box_added : new.lasts.items ≡ set old.lasts.items bucket (length new.entries.items) → bucket ≡ e.code % length old.lasts.items → bucket < length old.lasts.items
      → e.before ≡ get_or old.lasts.items bucket 0 → AreListed q plan new
  box_added lasts is low begin = record {
    entries = subst (All (IsEntry q plan)) (sym pushed) (All-push (IsEntry q plan) old.entries.items e h.entries good);
    chained =
        let f : length new.entries.items ≡ length old.entries.items + 1 = ap length pushed ∙ length-append old.entries.items (e ∷ []) in
        let k : new.lasts.items ≡ set old.lasts.items bucket (length old.entries.items + 1) = lasts ∙ ap (set old.lasts.items bucket) f in
        let n : length new.lasts.items ≡ length old.lasts.items = ap length lasts ∙ length-set old.lasts.items bucket (length new.entries.items) in
        subst (λ (count : ℕ). AreChained count new.entries.items new.lasts.items) (sym n)
        (subst (λ (xs : List BoxEntry). AreChained (length old.lasts.items) xs new.lasts.items) (sym pushed)
        (subst (AreChained (length old.lasts.items) (old.entries.items ++ e ∷ [])) (sym k)
        (chained_more (length old.lasts.items) old.entries.items old.lasts.items e bucket h.chained refl is low begin)));
    cells = cells_more;
    slots = slots_more;
  }

-- the box of a part, as an entry
pub is_entry_of : (q : QueryValue) (parts : List PartPlan) (e : BoxEntry) → e.part < length parts → e.place < length (slice_index_or parts e.part no_part).streams.items
    → e.code ≡ code_of q (box_in (boxed q 0 parts) e.part e.place) → IsEntry q (boxed q 0 parts) e
is_entry_of q parts e l m h = record { known = omega (arith, l, as_many q 0 parts); here = omega (arith, m, streams_in q parts e.part l e.place); code = h }

-- ---- a box that is listed

module _ (q : QueryValue) (parts : List PartPlan) (boxes : Boxes) (b : Box) (slot : Slot) (found : IsFound q (boxed q 0 parts) boxes b (Some slot)) where
  pub found_boxes : listed (boxed q 0 parts) boxes ≡ with_box q (listed (boxed q 0 parts) boxes) b
  found_boxes =
      sym (ap (λ t. cond t (listed (boxed q 0 parts) boxes) (listed (boxed q 0 parts) boxes ++ b ∷ []))
      (is_listed q (boxed q 0 parts) boxes.entries.items found.0 b found.1 found.2))

  pub found_slot : (i place : ℕ) → b ≡ box_in (boxed q 0 parts) i place → i < length parts → place < length (slice_index_or parts i no_part).streams.items → AreListed q (boxed q 0 parts) boxes
      → boxes.cells < 2 ^ 32 → IsSlot q (listed (boxed q 0 parts) boxes) b slot
  found_slot i place is l m h small =
      let e : BoxEntry = found.0 in
      let good : IsEntry q (boxed q 0 parts) e = All-contains (IsEntry q (boxed q 0 parts)) boxes.entries.items e h.entries found.1 in
      let s : IsSlot q (listed (boxed q 0 parts) boxes) (box_of (boxed q 0 parts) e) e.slot
      = All-contains (λ (o : BoxEntry). IsSlot q (listed (boxed q 0 parts) boxes) (box_of (boxed q 0 parts) o) o.slot) boxes.entries.items e (h.slots small) found.1 in
      let same = are-same q (box_of (boxed q 0 parts) e) b found.2 in
      let k : e.part < length parts = (let g = good.known in omega (arith, g, as_many q 0 parts)) in
      record {
        base = ap (λ (x : Slot). x.base) found.3 ∙ s.base ∙ start-same q (listed (boxed q 0 parts) boxes) (box_of (boxed q 0 parts) e) b found.2;
        size =
            ap (λ (x : Slot). x.size) found.3 ∙ s.size
            ∙ size_by_dims q parts e.part k e.place (let g = good.here in omega (arith, g, streams_in q parts e.part k e.place))
            ∙ ap (cells_over q) (same.dims ∙ ap (λ (x : Box). dims_at x.part x.place) is)
            ∙ sym (ap size_in is ∙ size_by_dims q parts i l place m);
      }
