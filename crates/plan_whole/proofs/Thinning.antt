-- The comparisons between streams, each once, and then one after another: each goes or stays.
use Rattle.std.proofs.Common.{◌≡◌, ℕ, suc, zero, ◌+◌, ◌-◌, ◌<◌, ◌≤◌, ◌⊎◌, inl, inr, ◌↔◌, IsTrue, List, [], ◌∷◌, ◌++◌, map, filter, length, take, drop, get_or, Bool, true, false, not, cond, nat_eq, Option, Some, None, Contains, append-nil, append_assoc, length-append, length-drop, refl, sym, ◌∙◌, ap, subst, arith}
use Rattle.std.proofs.lemmas.List.{take_more, take_all, map-append}
use Rattle.std.proofs.lemmas.List.Elements.{filter-append}
use Rattle.sem_query.specs.declared.atom.Attr.{Attr}
use Rattle.sem_query.specs.declared.atom.Atom.{Atom}
use Rattle.sem_query.specs.declared.atom.Element.{Element}
use Rattle.sem_query.specs.declared.atom.Element.TheVariants as element
use Rattle.sem_query.specs.Query.{QueryValue}
use Rattle.sem_query.specs.Parts.{element_eq}
use Rattle.sem_query.proofs.Has.{Has, first, later, Has-nil, Has-from_contains, Contains-from_has, Has-map, Has-map_from}
use Rattle.sem_laws.proofs.Tests.{true_or_false, not_both, and-both, attr_eq-itself}
use Rattle.sem_laws.proofs.OnePartFits.{has_cases}
use Rattle.sem_whole.specs.System.{Difference, system}
use Rattle.sem_whole.specs.Links.{op_index, are_across, turned_by, atom_eq, each_once, between_streams, across, Goes, Thins, done, goes, stays, AreLinks}
use Rattle.sem_whole.proofs.Suffice.{atom_same, once_has, once_from}
use Rattle.plan_whole.specs.declared.links.ColumnLink.{ColumnLink}
use Rattle.plan_whole.specs.Columns.{atom_of, listed, IsOnceWith, known, added, IsAddedTo}

element_itself : (e : Element) → element_eq e e ≡ true
element_itself (element.Attr a) = attr_eq-itself a
element_itself (element.Const k) = grind arith

index_itself : (n : ℕ) → nat_eq n n ≡ true
index_itself n = grind arith

atom_itself : (t : Atom) → atom_eq t t ≡ true
atom_itself t = and-both (nat_eq (op_index t.op) (op_index t.op)) _ (index_itself (op_index t.op)) (and-both (element_eq t.left t.left) _ (element_itself t.left) (element_itself t.right))

not_same : (x t : Atom) → (x ≡ t → ⊥) → atom_eq x t ≡ false
not_same x t n = elim (true_or_false (atom_eq x t)) [ inl e ↦ absurd (n (atom_same x t e)) | inr e ↦ e ]

-- it is there or not
once_either : (ts : List Atom) (t : Atom) → (Has ts t) ⊎ (Has ts t → ⊥)
once_either [] t = inr (λ h. Has-nil h)
once_either (x ∷ ts) t = elim (true_or_false (atom_eq x t)) [
  | inl e ↦ inl (subst (Has (x ∷ ts)) (atom_same x t e) first)
  | inr e ↦ elim (once_either ts t) [
    | inl h ↦ inl (later h)
    | inr n ↦ inr (λ h. elim (has_cases x t ts h) [ inl f ↦ not_both (atom_eq x t) (subst (λ z. atom_eq x z ≡ true) f (atom_itself x)) e | inr k ↦ n k ])
  ]
]

-- another comparison stands behind, and one that is there already adds nothing
once_new : (ts : List Atom) (t : Atom) → (Has ts t → ⊥) → each_once (ts ++ t ∷ []) ≡ each_once ts ++ t ∷ []
once_new [] t n = refl
once_new (x ∷ ts) t n =
    let d : atom_eq x t ≡ false = not_same x t (λ e. n (subst (Has (x ∷ ts)) e first)) in
    let f : filter (λ u. not (atom_eq x u)) (t ∷ []) ≡ t ∷ [] = ap (λ b. cond (not b) (t ∷ []) []) d in
    ap (λ z. x ∷ filter (λ u. not (atom_eq x u)) z) (once_new ts t (λ h. n (later h)))
    ∙ ap (λ z. x ∷ z) (filter-append (λ u. not (atom_eq x u)) (each_once ts) (t ∷ []) ∙ ap (λ z. filter (λ u. not (atom_eq x u)) (each_once ts) ++ z) f)

once_known : (ts : List Atom) (t : Atom) → Has ts t → each_once (ts ++ t ∷ []) ≡ each_once ts
once_known [] t h = Has-nil h
once_known (x ∷ ts) t h = elim (once_either ts t) [
  | inl k ↦ ap (λ z. x ∷ filter (λ u. not (atom_eq x u)) z) (once_known ts t k)
  | inr n ↦ (let e : x ≡ t = elim (has_cases x t ts h) [ inl f ↦ f | inr k ↦ absurd (n k) ] in
      let d : atom_eq x t ≡ true = subst (λ z. atom_eq x z ≡ true) e (atom_itself x) in
      let f : filter (λ u. not (atom_eq x u)) (t ∷ []) ≡ [] = ap (λ b. cond (not b) (t ∷ []) []) d in
      ap (λ z. x ∷ filter (λ u. not (atom_eq x u)) z) (once_new ts t n)
      ∙ ap (λ z. x ∷ z) (filter-append (λ u. not (atom_eq x u)) (each_once ts) (t ∷ []) ∙ ap (λ z. filter (λ u. not (atom_eq x u)) (each_once ts) ++ z) f ∙ append-nil (filter (λ u. not (atom_eq x u)) (each_once ts))))
]

-- the comparisons between streams of one more atom, behind some others
between_more : (base ts : List Atom) (i : ℕ) (t : Atom) → i < length ts → between_streams (base ++ take (i + 1) ts) ≡ between_streams (base ++ take i ts) ++ between_streams (get_or ts i t ∷ [])
between_more base ts i t l =
    ap (λ z. between_streams (base ++ z)) (take_more ts i t l)
    ∙ ap between_streams (sym (append_assoc base (take i ts) (get_or ts i t ∷ [])))
    ∙ ap (map (λ t. turned_by t.op t.left t.right)) (filter-append (λ t. are_across t.left t.right) (base ++ take i ts) (get_or ts i t ∷ []))
    ∙ map-append (λ t. turned_by t.op t.left t.right) (filter (λ t. are_across t.left t.right) (base ++ take i ts)) (filter (λ t. are_across t.left t.right) (get_or ts i t ∷ []))

same_links : (x y : ColumnLink) → atom_of x ≡ atom_of y → x ≡ y
same_links x y e =
    let l : x.left ≡ y.left = column_of (ap (λ t. t.left) e) in
    let r : x.right ≡ y.right = column_of (ap (λ t. t.right) e) in
    let o : x.op ≡ y.op = ap (λ t. t.op) e in
    λ i. record { left = l i; op = o i; right = r i }
  where
    column_of : {a b : Attr} → element.Attr a ≡ element.Attr b → a ≡ b
    column_of {a} {b} f = cc

-- no link of an atom
pub across_none : (base ts : List Atom) (i : ℕ) (t : Atom) (list : List ColumnLink) → i < length ts → map atom_of (listed None) ≡ between_streams (get_or ts i t ∷ [])
    → map atom_of list ≡ each_once (between_streams (base ++ take i ts)) → map atom_of list ≡ each_once (between_streams (base ++ take (i + 1) ts))
across_none base ts i t list l e h = h ∙ ap each_once (sym (append-nil (between_streams (base ++ take i ts))) ∙ ap (λ z. between_streams (base ++ take i ts) ++ z) e ∙ sym (between_more base ts i t l))

-- one link, which is there already or stands behind
pub across_some : (base ts : List Atom) (i : ℕ) (t : Atom) (list new : List ColumnLink) (k : ColumnLink) → i < length ts
    → map atom_of (listed (Some k)) ≡ between_streams (get_or ts i t ∷ []) → IsOnceWith list k new
    → map atom_of list ≡ each_once (between_streams (base ++ take i ts)) → map atom_of new ≡ each_once (between_streams (base ++ take (i + 1) ts))
across_some base ts i t list new k l e o h =
    by o ∙ ap each_once (ap (λ z. between_streams (base ++ take i ts) ++ z) e ∙ sym (between_more base ts i t l))
  where
    among : Contains list k → Has (between_streams (base ++ take i ts)) (atom_of k)
    among c = once_from (between_streams (base ++ take i ts)) (atom_of k) (subst (λ z. Has z (atom_of k)) h (Has-map atom_of (Has-from_contains list k c)))

    not_among : (Contains list k → ⊥) → Has (between_streams (base ++ take i ts)) (atom_of k) → ⊥
    not_among n m =
        let r : (x : ColumnLink) × Has list x × (atom_of x ≡ atom_of k) = Has-map_from atom_of list (atom_of k) (subst (λ z. Has z (atom_of k)) (sym h) (once_has (between_streams (base ++ take i ts)) (atom_of k) m)) in
        n (subst (Contains list) (same_links r.0 k r.2) (Contains-from_has list r.0 r.1))

    by : IsOnceWith list k new → map atom_of new ≡ each_once (between_streams (base ++ take i ts) ++ atom_of k ∷ [])
    by (known c f) = ap (map atom_of) f ∙ h ∙ sym (once_known (between_streams (base ++ take i ts)) (atom_of k) (among c))
    by (added n f) = ap (map atom_of) f ∙ map-append atom_of list (k ∷ []) ∙ ap (λ z. z ++ atom_of k ∷ []) h ∙ sym (once_new (between_streams (base ++ take i ts)) (atom_of k) (not_among n))

-- one atom more
pub across_step : (base ts : List Atom) (i : ℕ) (t : Atom) (list new : List ColumnLink) (o : Option ColumnLink) → i < length ts
    → map atom_of (listed o) ≡ between_streams (get_or ts i t ∷ []) → IsAddedTo list o new
    → map atom_of list ≡ each_once (between_streams (base ++ take i ts)) → map atom_of new ≡ each_once (between_streams (base ++ take (i + 1) ts))
across_step base ts i t list new None l e a h = ap (map atom_of) a ∙ across_none base ts i t list l e h
across_step base ts i t list new (Some k) l e a h = across_some base ts i t list new k l e a h

pub across_few : (list new : List ColumnLink) (o : Option ColumnLink) (i : ℕ) → IsAddedTo list o new → length list ≤ i → length new ≤ i + 1
across_few list new None i a l = let e = ap length a in omega (arith, e, l)
across_few list new (Some k) i (known c e) l = let f = ap length e in omega (arith, f, l)
across_few list new (Some k) i (added c e) l = let f = ap length e in let g = length-append list (k ∷ []) in omega (arith, f, g, l)

pub across_all : (base ts : List Atom) (i : ℕ) (list : List ColumnLink) → length ts ≤ i → map atom_of list ≡ each_once (between_streams (base ++ take i ts)) → map atom_of list ≡ across (base ++ ts)
across_all base ts i list l h = h ∙ ap (λ z. each_once (between_streams (base ++ z))) (take_all i ts l)

-- ---- one after another

-- what comes of those that are left comes of all
pub record LeadsTo (ds : List Difference) (all kept : List ColumnLink) (i : ℕ) : Type 0 where
  pub few : length kept ≤ i
  pub thins : (result : List Atom) → Thins ds (map atom_of kept) (map atom_of (drop i all)) result → Thins ds [] (map atom_of all) result

drop_suc : {X : Type 0} (xs : List X) (i : ℕ) (d : X) → i < length xs → drop i xs ≡ get_or xs i d ∷ drop (suc i) xs
drop_suc [] i d l = absurd (omega (arith, l))
drop_suc (x ∷ xs) zero d l = refl
drop_suc (x ∷ xs) (suc i) d l = drop_suc xs i d (omega (arith, l))

drop_next : {X : Type 0} (xs : List X) (i : ℕ) (d : X) → i < length xs → drop i xs ≡ get_or xs i d ∷ drop (i + 1) xs
drop_next xs i d l = drop_suc xs i d l ∙ ap (λ n. get_or xs i d ∷ drop n xs) (let e : suc i ≡ i + 1 = omega arith in e)

drop_past : {X : Type 0} (xs : List X) (i : ℕ) → length xs ≤ i → drop i xs ≡ []
drop_past [] zero l = refl
drop_past [] (suc i) l = refl
drop_past (x ∷ xs) zero l = absurd (omega (arith, l))
drop_past (x ∷ xs) (suc i) l = drop_past xs i (omega (arith, l))

pub leads_first : (ds : List Difference) (all : List ColumnLink) → LeadsTo ds all [] 0
leads_first ds all = record { few = omega arith; thins = λ result t. t }

pub leads_end : (ds : List Difference) (all kept : List ColumnLink) (i : ℕ) → length all ≤ i → LeadsTo ds all kept i → Thins ds [] (map atom_of all) (map atom_of kept)
leads_end ds all kept i l h = h.thins (map atom_of kept) (subst (λ z. Thins ds (map atom_of kept) (map atom_of z) (map atom_of kept)) (sym (drop_past all i l)) done)

pub leads_goes : (ds : List Difference) (all kept : List ColumnLink) (i : ℕ) (d : ColumnLink) → i < length all → Goes ds (map atom_of (kept ++ drop (i + 1) all)) (atom_of (get_or all i d)) → LeadsTo ds all kept i → LeadsTo ds all kept (i + 1)
leads_goes ds all kept i d l g h = record {
  few = (let f = h.few in omega (arith, f));
  thins = λ result t. h.thins result (subst (λ z. Thins ds (map atom_of kept) (map atom_of z) result) (sym (drop_next all i d l)) (goes (subst (λ z. Goes ds z (atom_of (get_or all i d))) (map-append atom_of kept (drop (i + 1) all)) g) t));
}

pub leads_stays : (ds : List Difference) (all kept : List ColumnLink) (i : ℕ) (d : ColumnLink) → i < length all → (Goes ds (map atom_of (kept ++ drop (i + 1) all)) (atom_of (get_or all i d)) → ⊥) → LeadsTo ds all kept i
    → LeadsTo ds all (kept ++ get_or all i d ∷ []) (i + 1)
leads_stays ds all kept i d l n h = record {
  few = (let f = h.few in let e = length-append kept (get_or all i d ∷ []) in omega (arith, f, e));
  thins = λ result t. h.thins result (subst (λ z. Thins ds (map atom_of kept) (map atom_of z) result) (sym (drop_next all i d l))
      (stays (λ g. n (subst (λ z. Goes ds z (atom_of (get_or all i d))) (sym (map-append atom_of kept (drop (i + 1) all))) g)) (subst (λ z. Thins ds z (map atom_of (drop (i + 1) all)) result) (map-append atom_of kept (get_or all i d ∷ [])) t)));
}

-- the rest of a slice
rest_is : {X : Type 0} (xs : List X) (i : ℕ) → take (length xs - i) (drop i xs) ≡ drop i xs
rest_is xs i = take_all (length xs - i) (drop i xs) (let e = length-drop i xs in omega (arith, e))

-- one more of them goes or stays
pub leads_more : (ds : List Difference) (all kept given new : List ColumnLink) (i : ℕ) (d : ColumnLink) (b : Bool) → i < length all → given ≡ kept
    → IsTrue b ↔ Goes ds (map atom_of (given ++ take (length all - (i + 1)) (drop (i + 1) all))) (atom_of (get_or all i d)) → new ≡ cond b kept (kept ++ get_or all i d ∷ []) → LeadsTo ds all kept i
    → LeadsTo ds all new (i + 1)
leads_more ds all kept given new i d b l same g e h = subst (λ z. LeadsTo ds all z (i + 1)) (sym e) (by b refl)
  where
    told : IsTrue b ↔ Goes ds (map atom_of (kept ++ drop (i + 1) all)) (atom_of (get_or all i d))
    told = subst (λ z. IsTrue b ↔ Goes ds (map atom_of (kept ++ z)) (atom_of (get_or all i d))) (rest_is all (i + 1)) (subst (λ z. IsTrue b ↔ Goes ds (map atom_of (z ++ take (length all - (i + 1)) (drop (i + 1) all))) (atom_of (get_or all i d))) same g)

    by : (c : Bool) → b ≡ c → LeadsTo ds all (cond c kept (kept ++ get_or all i d ∷ [])) (i + 1)
    by true f = leads_goes ds all kept i d l (told.0 f) h
    by false f = leads_stays ds all kept i d l (λ k. not_both b (told.1 k) f) h

pub leads_links : (q : QueryValue) (all kept : List ColumnLink) (i : ℕ) → map atom_of all ≡ across q.atoms → length all ≤ i → LeadsTo (system q) all kept i → AreLinks q (map atom_of kept)
leads_links q all kept i e l h = subst (λ ts. Thins (system q) [] ts (map atom_of kept)) e (leads_end (system q) all kept i l h)
