-- What the loops over comparisons, domains and integers need.
use Rattle.std.proofs.Common.{◌≡◌, ℕ, ◌≤◌, ◌<◌, ◌+◌, ℤ, int_lt, Bool, true, false, cond, List, [], ◌∷◌, ◌++◌, map, length, take, get_or, slice_index_or, append-nil, length-append, Contains, Option, None, MatchOption, sym, ◌∙◌, ap, subst, arith, FitsSigned, w64}
use Rattle.std.specs.List.{flat_map}
use Rattle.std.proofs.lemmas.Int.{ints}
use Rattle.std.proofs.lemmas.List.{take_more, map-append}
use Rattle.std.proofs.lemmas.List.Concat.{flat_map-append}
use Rattle.std.proofs.lemmas.List.Sums.{fold_push}
use Rattle.std.proofs.lemmas.List.Elements.{All-contains, Contains-get_or}
use Rattle.sem_query.specs.declared.atom.Attr.{Attr}
use Rattle.sem_query.specs.declared.atom.Atom.{Atom}
use Rattle.sem_query.specs.declared.atom.Domain.{Domain}
use Rattle.sem_query.specs.declared.atom.Element.{Element}
use Rattle.sem_query.specs.declared.atom.Element.TheVariants as element
use Rattle.sem_query.specs.declared.atom.Op.{Op}
use Rattle.sem_query.specs.Query.{QueryValue, with_new, attrs_of, consts_of, IsShort, IsDomain, IsWithinLimits}
use Rattle.sem_query.specs.Groups.{same_group}
use Rattle.sem_query.proofs.Has.{Has, Has-from_contains, Contains-from_has}
use Rattle.sem_query.proofs.Elements.{HasElement, SidesIn, sides_in}
use Rattle.plan_split_pairs.specs.Outer.{flipped, outer_of, outer_in, nearest_short, ascending_once}
use Rattle.plan_split_pairs.specs.Listed.{IsShortSide, IsWrittenShort}

short_side : (q : QueryValue) → IsWithinLimits q → (e : Element) → HasElement (attrs_of q.atoms) (consts_of q.atoms) e → IsShortSide e
short_side q w (element.Attr a) h = tt
short_side q w (element.Const k) h = All-contains IsShort (consts_of q.atoms) k w.consts (Contains-from_has (consts_of q.atoms) k h)

-- the integers of a comparison of a query may be written
pub short_at : (q : QueryValue) (ts : List Atom) (i : ℕ) (d : Atom) → ts ≡ q.atoms → i < length ts → IsWithinLimits q → IsWrittenShort (slice_index_or ts i d)
short_at q ts i d e l w =
    let s : SidesIn q.atoms (slice_index_or ts i d) = sides_in q.atoms _ (subst (λ (z : List Atom). Has z (slice_index_or ts i d)) e (Has-from_contains ts _ (Contains-get_or ts i d l))) in
    record { left = short_side q w (slice_index_or ts i d).left s.left; right = short_side q w (slice_index_or ts i d).right s.right }

-- and so may the ends of its domains
pub domain_at : (q : QueryValue) (ds : List Domain) (i : ℕ) (d : Domain) → ds ≡ q.domains → i < length ds → IsWithinLimits q → IsDomain q (slice_index_or ds i d)
domain_at q ds i d e l w = All-contains (IsDomain q) q.domains _ w.domains (subst (λ (z : List Domain). Contains z (slice_index_or ds i d)) e (Contains-get_or ds i d l))

-- an integer that is put in makes a list longer by one at most
put_longer : (x : ℤ) (ys : List ℤ) → length (with_new int_lt x ys) ≤ length ys + 1
put_longer x [] = omega arith
put_longer x (y ∷ ys) = by (int_lt x y) (int_lt y x) (put_longer x ys)
  where
    by : (a b : Bool) → length (with_new int_lt x ys) ≤ length ys + 1 → length (cond {A = List ℤ} a (x ∷ y ∷ ys) (cond b (y ∷ with_new int_lt x ys) (y ∷ ys))) ≤ length (y ∷ ys) + 1
    by true b h = omega arith
    by false true h = omega (arith, h)
    by false false h = omega arith

-- there is room for it
pub put_room : (x : ℤ) (ys : List ℤ) (i n : ℕ) → length ys ≤ i → i < n → n ≤ 56 → length (with_new int_lt x ys) ≤ 56
put_room x ys i n l m h = omega (arith, put_longer x ys, l, m, h)

-- the nearest integer of at most 15 digits is one of 64 bits
pub near_fits : (k : ℤ) → FitsSigned w64 (nearest_short k)
near_fits k = grind (arith, ints)

-- a turn of the loop that puts integers in order
pub put_more : (ks : List ℤ) (i : ℕ) (k : ℤ) → take (i + 1) ks ≡ take i ks ++ k ∷ [] → (list : List ℤ) → list ≡ ascending_once (map nearest_short (take i ks))
    → (after : List ℤ) → after ≡ with_new int_lt (nearest_short k) list → after ≡ ascending_once (map nearest_short (take (i + 1) ks))
put_more ks i k more list before after f =
    f ∙ ap (with_new int_lt (nearest_short k)) before
    ∙ sym (ap (λ l. ascending_once (map nearest_short l)) more ∙ ap ascending_once (map-append nearest_short (take i ks) (k ∷ []))
    ∙ fold_push (λ l x. with_new int_lt x l) [] (map nearest_short (take i ks)) (nearest_short k))

pub put_length : (x : ℤ) (list after : List ℤ) (i : ℕ) → length list ≤ i → after ≡ with_new int_lt x list → length after ≤ i + 1
put_length x list after i l e = let n = ap length e in omega (arith, n, put_longer x list, l)

-- what is said of none holds of an answer that is none
pub answers_none : {A : Type 0} (r : Option A) (P : Type 0) (Q : A → Type 0) → r ≡ None → P → MatchOption r P Q
answers_none r P Q e p = subst (λ z. MatchOption z P Q) (sym e) p

-- a comparison gives one integer at most
outer_one : (atoms : List Atom) (a : Attr) (x : Element) (o : Op) (y : Element) → length (outer_in atoms a x o y) ≤ 1
outer_one atoms a (element.Attr b) o (element.Const k) = by (same_group atoms a b)
  where
    by : (c : Bool) → length (cond {A = List ℤ} c (outer_of o k ∷ []) []) ≤ 1
    by true = omega arith
    by false = omega arith
outer_one atoms a (element.Const k) o (element.Attr b) = by (same_group atoms a b)
  where
    by : (c : Bool) → length (cond {A = List ℤ} c (outer_of (flipped o) k ∷ []) []) ≤ 1
    by true = omega arith
    by false = omega arith
outer_one atoms a (element.Attr b) o (element.Attr c) = omega arith
outer_one atoms a (element.Const j) o (element.Const k) = omega arith

-- a turn of the loop over the comparisons
pub given_more : (q : QueryValue) (a : Attr) (i : ℕ) (d : Atom) (list after : List ℤ) → i < length q.atoms → list ≡ flat_map (λ t. outer_in q.atoms a t.left t.op t.right) (take i q.atoms) → length list ≤ i
    → after ≡ list ++ outer_in q.atoms a (get_or q.atoms i d).left (get_or q.atoms i d).op (get_or q.atoms i d).right
    → (after ≡ flat_map (λ t. outer_in q.atoms a t.left t.op t.right) (take (i + 1) q.atoms)) × (length after ≤ i + 1)
given_more q a i d list after l e n f = (moved, (let k = ap length f in omega (arith, k, length-append list (outer_in q.atoms a t.left t.op t.right), n, outer_one q.atoms a t.left t.op t.right)))
  where
    t : Atom
    t = get_or q.atoms i d

    moved : after ≡ flat_map (λ t. outer_in q.atoms a t.left t.op t.right) (take (i + 1) q.atoms)
    moved = f ∙ ap (λ z. z ++ outer_in q.atoms a t.left t.op t.right) e
        ∙ sym (ap (flat_map (λ t. outer_in q.atoms a t.left t.op t.right)) (take_more q.atoms i d l)
        ∙ flat_map-append (λ t. outer_in q.atoms a t.left t.op t.right) (take i q.atoms) (t ∷ [])
        ∙ ap (λ z. flat_map (λ t. outer_in q.atoms a t.left t.op t.right) (take i q.atoms) ++ z) (append-nil (outer_in q.atoms a t.left t.op t.right)))
