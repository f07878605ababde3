-- That a list has all parts of a query, by going through the signs of its pairs with a table of bounds.
use Rattle.std.proofs.Common.{◌≡◌, inl, inr, List, [], ◌∷◌, ◌++◌, map, cond, Bool, true, false, ◌&&◌, ◌||◌, not, refl, subst, arith, ℤ, pos, ◌+ℤ◌, ◌-ℤ◌, ◌≤ℤ◌}
use Rattle.std.proofs.lemmas.Int.{ints}
use Rattle.std.specs.List.{list_all, list_any}
use Rattle.sem_query.proofs.Has.{Has, first, later}
use Rattle.sem_query.proofs.Domains.{keeps_each, lies_low, lies_high}
use Rattle.sem_query.proofs.Holding.{Compares-from_test}
use Rattle.sem_query.proofs.Local.{lt_from_sign, eq_from_sign, gt_from_sign}
use Rattle.sem_query.specs.declared.atom.Atom.{Atom}
use Rattle.sem_query.specs.declared.atom.Domain.{Domain}
use Rattle.sem_query.specs.declared.atom.Element.{Element}
use Rattle.sem_query.specs.declared.atom.Element.TheVariants as element
use Rattle.sem_query.specs.declared.atom.Op.{Op}
use Rattle.sem_query.specs.declared.part.Pair.{Pair}
use Rattle.sem_query.specs.declared.part.Sign.{Sign}
use Rattle.sem_query.specs.Query.{QueryValue, attrs_of, consts_of}
use Rattle.sem_query.specs.Admission.{sign_eq}
use Rattle.sem_query.specs.Assignment.{Assignment, value, compares, meets, lies_in, KeepsDomains}
use Rattle.sem_query.specs.Parts.{pairs, sign, sign_at, InPart}
use Rattle.sem_laws.proofs.Tests.{and-left, and-right, sign_eq-is}
use Rattle.sem_laws.proofs.OnePartFits.{has_cases}
use Rattle.sem_laws.proofs.Tables.{Bound, TableHolds, first_table, first_table-holds, Stands, with_bound, with_bound-holds, with_sign, with_sign-holds, possible, possible-if}

-- the attributes of a query and then its constants
abbrev pub elements_of : QueryValue → List Element
elements_of q = map element.Attr (attrs_of q.atoms) ++ map element.Const (consts_of q.atoms)

-- the table where a comparison of two elements holds: that they are unequal bounds neither
abbrev pub with_op : List Element → List (List Bound) → Op → Element → Element → List (List Bound)
with_op all table Op.Lt x y = with_sign all table Sign.Lt x y
with_op all table Op.Eq x y = with_sign all table Sign.Eq x y
with_op all table Op.Gt x y = with_sign all table Sign.Gt x y
with_op all table Op.Le x y = with_bound all table x y (pos 0)
with_op all table Op.Ge x y = with_bound all table y x (pos 0)
with_op all table Op.Ne x y = table

no_more : (x y : ℤ) → compares Op.Le x y ≡ true → x ≤ℤ (y +ℤ pos 0)
no_more x y h = grind (arith, ints, h)

with_op-holds : (v : Assignment) (all : List Element) (table : List (List Bound)) (o : Op) (x y : Element)
    → compares o (value x v) (value y v) ≡ true → TableHolds v all all table → TableHolds v all all (with_op all table o x y)
with_op-holds v all table Op.Lt x y h t = with_sign-holds v all table Sign.Lt x y (Compares-from_test Op.Lt (value x v) (value y v) h) t
with_op-holds v all table Op.Eq x y h t = with_sign-holds v all table Sign.Eq x y (Compares-from_test Op.Eq (value x v) (value y v) h) t
with_op-holds v all table Op.Gt x y h t = with_sign-holds v all table Sign.Gt x y (Compares-from_test Op.Gt (value x v) (value y v) h) t
with_op-holds v all table Op.Le x y h t = with_bound-holds v all table x y (pos 0) (no_more (value x v) (value y v) h) t
with_op-holds v all table Op.Ge x y h t = with_bound-holds v all table y x (pos 0) (no_more (value y v) (value x v) h) t
with_op-holds v all table Op.Ne x y h t = t

stands-signed : (s : Sign) (x y : ℤ) → sign x y ≡ s → Stands s x y
stands-signed Sign.Lt x y h = lt_from_sign x y h
stands-signed Sign.Eq x y h = eq_from_sign x y h
stands-signed Sign.Gt x y h = gt_from_sign x y h

-- the table with the bounds of all atoms
abbrev pub with_atoms : List Element → List (List Bound) → List Atom → List (List Bound)
with_atoms all table [] = table
with_atoms all table (t ∷ ts) = with_atoms all (with_op all table t.op t.left t.right) ts

with_atoms-holds : (v : Assignment) (all : List Element) (table : List (List Bound)) (ts : List Atom)
    → list_all (meets v) ts ≡ true → TableHolds v all all table → TableHolds v all all (with_atoms all table ts)
with_atoms-holds v all table [] h t = t
with_atoms-holds v all table (a ∷ ts) h t =
    with_atoms-holds v all (with_op all table a.op a.left a.right) ts (and-right (meets v a) (list_all (meets v) ts) h)
    (with_op-holds v all table a.op a.left a.right (and-left (meets v a) (list_all (meets v) ts) h) t)

-- and of signs of pairs
abbrev pub with_signs : List Element → List (List Bound) → List Pair → List Sign → List (List Bound)
with_signs all table [] signs = table
with_signs all table (p ∷ ps) [] = table
with_signs all table (p ∷ ps) (s ∷ signs) = with_signs all (with_sign all table s (element.Attr p.left) p.right) ps signs

with_signs-holds : (v : Assignment) (all : List Element) (table : List (List Bound)) (ps : List Pair)
    → TableHolds v all all table → TableHolds v all all (with_signs all table ps (map (sign_at v) ps))
with_signs-holds v all table [] t = t
with_signs-holds v all table (p ∷ ps) t =
    with_signs-holds v all (with_sign all table (sign_at v p) (element.Attr p.left) p.right) ps
    (with_sign-holds v all table (sign_at v p) (element.Attr p.left) p.right
    (stands-signed (sign_at v p) (v p.left) (value p.right v) refl) t)

-- and of domains, over a constant
abbrev pub with_domain : List Element → List (List Bound) → ℤ → Domain → List (List Bound)
with_domain all table k d =
    with_bound all (with_bound all table (element.Attr d.attr) (element.Const k) (d.hi -ℤ k)) (element.Const k) (element.Attr d.attr) (k -ℤ d.lo)

abbrev pub with_domains : List Element → List (List Bound) → ℤ → List Domain → List (List Bound)
with_domains all table k [] = table
with_domains all table k (d ∷ ds) = with_domains all (with_domain all table k d) k ds

-- where there is one
abbrev pub with_ends : List Element → List (List Bound) → List ℤ → List Domain → List (List Bound)
with_ends all table [] ds = table
with_ends all table (k ∷ ks) ds = with_domains all table k ds

with_domains-holds : (v : Assignment) (all : List Element) (table : List (List Bound)) (k : ℤ) (ds : List Domain)
    → ((d : Domain) → Has ds d → lies_in d (v d.attr) ≡ true) → TableHolds v all all table → TableHolds v all all (with_domains all table k ds)
with_domains-holds v all table k [] f t = t
with_domains-holds v all table k (d ∷ ds) f t =
    let low : d.lo ≤ℤ v d.attr = lies_low d (v d.attr) (f d first) in
    let high : v d.attr ≤ℤ d.hi = lies_high d (v d.attr) (f d first) in
    with_domains-holds v all (with_domain all table k d) k ds (λ e i. f e (later i))
    (with_bound-holds v all (with_bound all table (element.Attr d.attr) (element.Const k) (d.hi -ℤ k)) (element.Const k) (element.Attr d.attr) (k -ℤ d.lo) (omega (arith, ints, low))
    (with_bound-holds v all table (element.Attr d.attr) (element.Const k) (d.hi -ℤ k) (omega (arith, ints, high)) t))

with_ends-holds : (v : Assignment) (all : List Element) (table : List (List Bound)) (ks : List ℤ) (ds : List Domain)
    → ((d : Domain) → Has ds d → lies_in d (v d.attr) ≡ true) → TableHolds v all all table → TableHolds v all all (with_ends all table ks ds)
with_ends-holds v all table [] ds f t = t
with_ends-holds v all table (k ∷ ks) ds f t = with_domains-holds v all table k ds f t

abbrev pub root_table : QueryValue → List (List Bound)
root_table q = with_ends (elements_of q) (with_atoms (elements_of q) (first_table (elements_of q)) q.atoms) (consts_of q.atoms) q.domains

root-holds : (q : QueryValue) (v : Assignment) → list_all (meets v) q.atoms ≡ true → KeepsDomains q v → TableHolds v (elements_of q) (elements_of q) (root_table q)
root-holds q v h k =
    with_ends-holds v (elements_of q) (with_atoms (elements_of q) (first_table (elements_of q)) q.atoms) (consts_of q.atoms) q.domains (keeps_each q v k)
    (with_atoms-holds v (elements_of q) (first_table (elements_of q)) q.atoms h (first_table-holds v (elements_of q)))

-- the table of a part
abbrev pub part_table : QueryValue → List Sign → List (List Bound)
part_table q s = with_signs (elements_of q) (root_table q) (pairs q) s

pub part_table-holds : (q : QueryValue) (s : List Sign) (v : Assignment) → InPart q s v → TableHolds v (elements_of q) (elements_of q) (part_table q s)
part_table-holds q s v i =
    subst (λ (t : List Sign). TableHolds v (elements_of q) (elements_of q) (with_signs (elements_of q) (root_table q) (pairs q) t)) i.signs
    (with_signs-holds v (elements_of q) (root_table q) (pairs q) (root-holds q v i.holds i.domains))

-- what follows a sign in the vectors that begin with it
abbrev pub behind : Sign → List (List Sign) → List (List Sign)
behind c [] = []
behind c ([] ∷ xs) = behind c xs
behind c ((d ∷ s) ∷ xs) = cond (sign_eq d c) (s ∷ behind c xs) (behind c xs)

has-behind : (c : Sign) (xs : List (List Sign)) (s : List Sign) → Has (behind c xs) s → Has xs (c ∷ s)
has-behind c [] s h = elim h [ ]
has-behind c ([] ∷ xs) s h = later (has-behind c xs s h)
has-behind c ((d ∷ t) ∷ xs) s h = by (sign_eq d c) (λ e. sign_eq-is d c e) h (has-behind c xs s)
  where
    head : (d c : Sign) (t s : List Sign) → d ≡ c → t ≡ s → Has ((d ∷ t) ∷ xs) (c ∷ s)
    head d c t s e f = subst (λ (u : List Sign). Has ((d ∷ t) ∷ xs) u) (λ i. e i ∷ f i) first

    by : (b : Bool) → (b ≡ true → d ≡ c) → Has (cond b (t ∷ behind c xs) (behind c xs)) s → (Has (behind c xs) s → Has xs (c ∷ s)) → Has ((d ∷ t) ∷ xs) (c ∷ s)
    by true f k again = elim (has_cases t s (behind c xs) k) [ inl e ↦ head d c t s (f refl) e | inr i ↦ later (again i) ]
    by false f k again = later (again k)

abbrev pub is_nothing : List Sign → Bool
is_nothing [] = true
is_nothing (c ∷ s) = false

has-nothing : (xs : List (List Sign)) → list_any is_nothing xs ≡ true → Has xs []
has-nothing [] h = absurd cc
has-nothing ([] ∷ xs) h = first
has-nothing ((c ∷ s) ∷ xs) h = later (has-nothing xs h)

-- whichever signs the pairs can have are among these
abbrev pub covers : List Element → List (List Bound) → List Pair → List (List Sign) → Bool
covers all table [] xs = list_any is_nothing xs
covers all table (p ∷ ps) xs =
    (not (possible all table Sign.Lt (element.Attr p.left) p.right) || covers all (with_sign all table Sign.Lt (element.Attr p.left) p.right) ps (behind Sign.Lt xs))
    && (not (possible all table Sign.Eq (element.Attr p.left) p.right) || covers all (with_sign all table Sign.Eq (element.Attr p.left) p.right) ps (behind Sign.Eq xs))
    && (not (possible all table Sign.Gt (element.Attr p.left) p.right) || covers all (with_sign all table Sign.Gt (element.Attr p.left) p.right) ps (behind Sign.Gt xs))

not-both : (b c : Bool) → b ≡ true → (not b || c) ≡ true → c ≡ true
not-both true c h k = k
not-both false c h k = absurd cc

three : (a b c : Bool) → (a && b && c) ≡ true → (a ≡ true) × (b ≡ true) × (c ≡ true)
three true true true h = (refl, refl, refl)
three true true false h = absurd cc
three true false c h = absurd cc
three false b c h = absurd cc

abbrev Passes : List Element → List (List Bound) → Pair → List Pair → List (List Sign) → Sign → Type 0
Passes all table p ps xs s =
    (not (possible all table s (element.Attr p.left) p.right) || covers all (with_sign all table s (element.Attr p.left) p.right) ps (behind s xs)) ≡ true

module _ (v : Assignment) (all : List Element) where
  -- the same of the pairs behind the first, whatever sign that has
  abbrev Again : List (List Bound) → Pair → List Pair → Type 0
  Again table p ps =
      (s : Sign) (ys : List (List Sign)) → TableHolds v all all (with_sign all table s (element.Attr p.left) p.right)
      → covers all (with_sign all table s (element.Attr p.left) p.right) ps ys ≡ true → Has ys (map (sign_at v) ps)

  go : (table : List (List Bound)) (p : Pair) (ps : List Pair) (xs : List (List Sign)) → TableHolds v all all table
      → (s : Sign) → sign_at v p ≡ s → Passes all table p ps xs s → Again table p ps → Has xs (s ∷ map (sign_at v) ps)
  go table p ps xs t s e k again =
      let st : Stands s (v p.left) (value p.right v) = stands-signed s (v p.left) (value p.right v) e in
      has-behind s xs (map (sign_at v) ps) (again s (behind s xs)
      (with_sign-holds v all table s (element.Attr p.left) p.right st t)
      (not-both _ _ (possible-if v all table s (element.Attr p.left) p.right t st) k))

  by : (table : List (List Bound)) (p : Pair) (ps : List Pair) (xs : List (List Sign)) → TableHolds v all all table
      → (s : Sign) → sign_at v p ≡ s → Passes all table p ps xs Sign.Lt × Passes all table p ps xs Sign.Eq × Passes all table p ps xs Sign.Gt → Again table p ps
      → Has xs (s ∷ map (sign_at v) ps)
  by table p ps xs t Sign.Lt e k again = go table p ps xs t Sign.Lt e k.0 again
  by table p ps xs t Sign.Eq e k again = go table p ps xs t Sign.Eq e k.1 again
  by table p ps xs t Sign.Gt e k again = go table p ps xs t Sign.Gt e k.2 again

  pub covers-has : (table : List (List Bound)) (ps : List Pair) (xs : List (List Sign))
      → TableHolds v all all table → covers all table ps xs ≡ true → Has xs (map (sign_at v) ps)
  covers-has table [] xs t h = has-nothing xs h
  covers-has table (p ∷ ps) xs t h =
      by table p ps xs t (sign_at v p) refl (three _ _ _ h) (λ s ys u k. covers-has (with_sign all table s (element.Attr p.left) p.right) ps ys u k)

pub all-parts : (q : QueryValue) (v : Assignment) (xs : List (List Sign)) → covers (elements_of q) (root_table q) (pairs q) xs ≡ true
    → list_all (meets v) q.atoms ≡ true → KeepsDomains q v → Has xs (map (sign_at v) (pairs q))
all-parts q v xs c h k = covers-has v (elements_of q) (root_table q) (pairs q) xs (root-holds q v h k) c
