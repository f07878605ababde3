-- How the links of a whole form read, and the dims of a plan beside those of its form.
use Rattle.std.proofs.Common.{◌≡◌, ℕ, zero, suc, ◌<◌, ◌≤◌, inl, inr, List, [], ◌∷◌, filter, length, AllPairs, slice_index_or, Bool, true, false, not, ◌&&◌, cond, Some, refl, sym, ◌∙◌, ap, subst, arith}
use Rattle.std.proofs.lemmas.Bool.Decides.{nat_tests}
use Rattle.sem_query.specs.declared.atom.Attr.{Attr}
use Rattle.sem_query.specs.declared.atom.Atom.{Atom}
use Rattle.sem_query.specs.declared.atom.Element.{Element}
use Rattle.sem_query.specs.declared.atom.Element.TheVariants as element
use Rattle.sem_query.specs.declared.atom.Op.{Op}
use Rattle.sem_query.specs.declared.part.Pair.{Pair}
use Rattle.sem_query.specs.declared.plan.Dim.{Dim}
use Rattle.sem_query.specs.declared.plan.Kind.{Kind}
use Rattle.sem_query.specs.declared.plan.StreamPlan.{StreamPlan}
use Rattle.sem_query.specs.Admission.{keeps_signs}
use Rattle.sem_query.specs.Assignment.{Assignment}
use Rattle.sem_query.specs.Ranges.{different, first_tied}
use Rattle.sem_query.specs.Combinations.{compares_both, any_ties}
use Rattle.sem_query.specs.Query.{QueryValue, attr_eq, attr_lt}
use Rattle.sem_query.proofs.Has.{Has, first, later, Has-nil, Has-map_from, Has-filter_from, Has-filter_holds}
use Rattle.sem_laws.proofs.Tests.{not_both, and-both, or-right, attr_eq-itself}
use Rattle.sem_laws.proofs.OnePartFits.{has_cases}
use Rattle.sem_whole.specs.System.{system}
use Rattle.sem_whole.specs.Links.{are_across, comparison, comes_late, turned_by, across, between_streams, AreLinks}
use Rattle.sem_whole.specs.Ranges.{range}
use Rattle.sem_whole.specs.Kept.{IsRange}
use Rattle.sem_whole.specs.Whole.{KeptDim}
use Rattle.sem_whole.proofs.Suffice.{once_from, thins_among}
use Rattle.sem_forms.specs.Part.{AreOwnDims}

pub no_signs : (place : ℕ) (v : Assignment) (ps : List Pair) → keeps_signs place v ps [] ≡ true
no_signs place v [] = refl
no_signs place v (p ∷ ps) = refl

pub no_ties : (a b : Attr) (ps : List Pair) → any_ties a b ps [] ≡ false
no_ties a b [] = refl
no_ties a b (p ∷ ps) = refl

-- ---- ties

pub both_if : (a b : Attr) → compares_both a b b (element.Attr a) ≡ true
both_if a b = or-right (attr_eq b a && attr_eq a b) (attr_eq b b && attr_eq a a) (and-both (attr_eq b b) (attr_eq a a) (attr_eq-itself b) (attr_eq-itself a))

pub differ : (a b : Attr) → attr_eq a b ≡ false → a ≡ b → ⊥
differ a b e f = not_both (attr_eq a b) (subst (λ z. attr_eq a z ≡ true) f (attr_eq-itself a)) e

pub not_above : (m b : Attr) → (attr_lt m b ≡ true → ⊥) → b.stream ≡ m.stream → b.column ≤ m.column
not_above m b n e = by (attr_lt m b) refl
  where
    by : (c : Bool) → attr_lt m b ≡ c → b.column ≤ m.column
    by true h = absurd (n h)
    by false h = grind (arith, nat_tests, h, e)

has_at : {A : Type 0} (xs : List A) (k : ℕ) (d : A) → k < length xs → Has xs (slice_index_or xs k d)
has_at [] k d l = absurd (omega (arith, l))
has_at (x ∷ xs) zero d l = first
has_at (x ∷ xs) (suc k) d l = later (has_at xs k d (omega (arith, l)))

pub pairs_cons : {A : Type 0} (P : A → A → Type 0) (x : A) (xs : List A) → ((y : A) → Has xs y → P x y) → AllPairs P xs → AllPairs P (x ∷ xs)
pairs_cons P x xs f h zero zero d a b = absurd (omega (arith, a))
pairs_cons P x xs f h zero (suc j) d a b = f (slice_index_or xs j d) (has_at xs j d (omega (arith, b)))
pairs_cons P x xs f h (suc i) zero d a b = absurd (omega (arith, a))
pairs_cons P x xs f h (suc i) (suc j) d a b = h i j d (omega (arith, a)) (omega (arith, b))

-- the first dim that is tied to a column to which one is tied
with_first : (t : Attr → Attr → Bool) (d : Dim) (ds : List Dim) (a : Attr) (b : Bool) → t d.attr a ≡ b → (b ≡ false → (f : Dim) × Has ds f × (t f.attr a ≡ true) × (first_tied t ds a ≡ f))
    → (f : Dim) × Has (d ∷ ds) f × (t f.attr a ≡ true) × (first_tied t (d ∷ ds) a ≡ f)
with_first t d ds a true i r = (d, first, i, ap (λ b. cond b d (first_tied t ds a)) i)
with_first t d ds a false i r = (let k = r refl in (k.0, later k.1, k.2, ap (λ b. cond b d (first_tied t ds a)) i ∙ k.3))

behind : (t : Attr → Attr → Bool) (d : Dim) (ds : List Dim) (a : Attr) (e : Dim) → t e.attr a ≡ true → t d.attr a ≡ false → Has (d ∷ ds) e → Has ds e
behind t d ds a e k n i = elim (has_cases d e ds i) [ inl f ↦ absurd (not_both (t d.attr a) (subst (λ z. t z.attr a ≡ true) (sym f) k) n) | inr j ↦ j ]

pub first_is : (t : Attr → Attr → Bool) (ds : List Dim) (a : Attr) (e : Dim) → Has ds e → t e.attr a ≡ true → (f : Dim) × Has ds f × (t f.attr a ≡ true) × (first_tied t ds a ≡ f)
first_is t [] a e h k = Has-nil h
first_is t (d ∷ ds) a e h k = with_first t d ds a (t d.attr a) refl (λ n. first_is t ds a e (behind t d ds a e k n h) k)

pub from_different : (xs : List Attr) (a : Attr) → Has (different xs) a → Has xs a
from_different [] a h = Has-nil h
from_different (x ∷ xs) a h = elim (has_cases x a (filter (λ b. not (attr_eq x b)) (different xs)) h) [
  | inl e ↦ subst (Has (x ∷ xs)) e first
  | inr i ↦ later (from_different xs a (Has-filter_from (λ b. not (attr_eq x b)) (different xs) a i))
]

-- the operators that links have
pub data Reads (o : Op) : Type 0 where
  lt : o ≡ Op.Lt → Reads o
  le : o ≡ Op.Le → Reads o
  eq : o ≡ Op.Eq → Reads o
  ne : o ≡ Op.Ne → Reads o

turned_reads : (o : Op) (x y : Element) → Reads (turned_by o x y).op
turned_reads Op.Lt x y = lt refl
turned_reads Op.Le x y = le refl
turned_reads Op.Gt x y = lt refl
turned_reads Op.Ge x y = le refl
turned_reads Op.Eq x y = by (comes_late x y)
  where
    by : (b : Bool) → Reads (cond b (comparison y Op.Eq x) (comparison x Op.Eq y)).op
    by true = eq refl
    by false = eq refl
turned_reads Op.Ne x y = by (comes_late x y)
  where
    by : (b : Bool) → Reads (cond b (comparison y Op.Ne x) (comparison x Op.Ne y)).op
    by true = ne refl
    by false = ne refl

pub link_reads : (q : QueryValue) (links : List Atom) → AreLinks q links → (t : Atom) → Has links t → Reads t.op
link_reads q links are t h =
    let r : (u : Atom) × Has (filter (λ t. are_across t.left t.right) q.atoms) u × (turned_by u.op u.left u.right ≡ t)
    = Has-map_from (λ t. turned_by t.op t.left t.right) (filter (λ t. are_across t.left t.right) q.atoms) t (once_from (between_streams q.atoms) t (thins_among (system q) [] (across q.atoms) links are t h)) in
    subst (λ t. Reads t.op) r.2 (turned_reads r.0.op r.0.left r.0.right)

-- a dim of the plan has the column and the own range of one of the form
pub record OwnDim (q : QueryValue) (kept : List KeptDim) (d : Dim) : Type 0 where
  pub dim : KeptDim
  pub among : Has kept dim
  pub attr : d.attr ≡ dim.attr
  pub own : IsRange (system q) d.attr (range (Some d.lo) (Some d.hi))

pub own_from : (q : QueryValue) (ks : List KeptDim) (ds : List Dim) → AreOwnDims q ks ds → (d : Dim) → Has ds d → OwnDim q ks d
own_from q [] [] o d h = Has-nil h
own_from q [] (e ∷ ds) o d h = absurd o
own_from q (k ∷ ks) [] o d h = absurd o
own_from q (k ∷ ks) (e ∷ ds) o d h = elim (has_cases e d ds h) [
  | inl i ↦ subst (OwnDim q (k ∷ ks)) i record { dim = k; among = first; attr = o.0; own = o.1 }
  | inr i ↦ (let r : OwnDim q ks d = own_from q ks ds o.2 d i in record { dim = r.dim; among = later r.among; attr = r.attr; own = r.own })
]

-- and back
pub record OwnOf (q : QueryValue) (dims : List Dim) (k : KeptDim) : Type 0 where
  pub dim : Dim
  pub among : Has dims dim
  pub attr : dim.attr ≡ k.attr
  pub own : IsRange (system q) dim.attr (range (Some dim.lo) (Some dim.hi))

pub own_to : (q : QueryValue) (ks : List KeptDim) (ds : List Dim) → AreOwnDims q ks ds → (k : KeptDim) → Has ks k → OwnOf q ds k
own_to q [] [] o k h = Has-nil h
own_to q [] (e ∷ ds) o k h = absurd o
own_to q (j ∷ ks) [] o k h = absurd o
own_to q (j ∷ ks) (d ∷ ds) o k h = elim (has_cases j k ks h) [
  | inl i ↦ subst (OwnOf q (d ∷ ds)) i record { dim = d; among = first; attr = o.0; own = o.1 }
  | inr i ↦ (let r : OwnOf q ds k = own_to q ks ds o.2 k i in record { dim = r.dim; among = later r.among; attr = r.attr; own = r.own })
]

pub turned_unlike : (x y : Element) → (turned_by Op.Ne x y).op ≡ Op.Ne
turned_unlike x y = by (comes_late x y)
  where
    by : (b : Bool) → (cond b (comparison y Op.Ne x) (comparison x Op.Ne y)).op ≡ Op.Ne
    by true = refl
    by false = refl

pub unequal : Op.Ne ≡ Op.Eq → ⊥
unequal e = absurd cc

-- the sides of a link are of different streams
pub across_apart : (a b : Attr) → are_across (element.Attr a) (element.Attr b) ≡ true → a.stream ≡ b.stream → ⊥
across_apart a b h e = grind (arith, nat_tests, h, e)

across_turned : (o : Op) (x y : Element) → are_across x y ≡ true → are_across (turned_by o x y).left (turned_by o x y).right ≡ true
across_turned o x y h = turned_sides_across o x y h (across_back x y h)
  where
    across_back : (x y : Element) → are_across x y ≡ true → are_across y x ≡ true
    across_back (element.Attr a) (element.Attr b) h = grind (arith, nat_tests, h)
    across_back (element.Attr a) (element.Const k) h = absurd cc
    across_back (element.Const k) y h = absurd cc

    by : (b : Bool) (o : Op) (x y : Element) → are_across x y ≡ true → are_across y x ≡ true → are_across (cond b (comparison y o x) (comparison x o y)).left (cond b (comparison y o x) (comparison x o y)).right ≡ true
    by true o x y h k = k
    by false o x y h k = h

    turned_sides_across : (o : Op) (x y : Element) → are_across x y ≡ true → are_across y x ≡ true → are_across (turned_by o x y).left (turned_by o x y).right ≡ true
    turned_sides_across Op.Lt x y h k = h
    turned_sides_across Op.Le x y h k = h
    turned_sides_across Op.Gt x y h k = k
    turned_sides_across Op.Ge x y h k = k
    turned_sides_across Op.Eq x y h k = by (comes_late x y) Op.Eq x y h k
    turned_sides_across Op.Ne x y h k = by (comes_late x y) Op.Ne x y h k

pub link_across : (q : QueryValue) (links : List Atom) → AreLinks q links → (t : Atom) → Has links t → are_across t.left t.right ≡ true
link_across q links are t h =
    let r : (u : Atom) × Has (filter (λ t. are_across t.left t.right) q.atoms) u × (turned_by u.op u.left u.right ≡ t)
    = Has-map_from (λ t. turned_by t.op t.left t.right) (filter (λ t. are_across t.left t.right) q.atoms) t (once_from (between_streams q.atoms) t (thins_among (system q) [] (across q.atoms) links are t h)) in
    subst (λ t. are_across t.left t.right ≡ true) r.2 (across_turned r.0.op r.0.left r.0.right (Has-filter_holds (λ t. are_across t.left t.right) q.atoms r.0 r.1))

abbrev pub no_stream : StreamPlan
no_stream = record { dims = record { items = [] }; kind = Kind.Present; base = 0; size = 0 }
