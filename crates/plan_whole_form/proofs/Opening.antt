-- What tests of open ranges tell.
use Rattle.std.proofs.Common.{◌≡◌, ℕ, ◌+◌, ◌<◌, ◌⊎◌, inl, inr, ◌↔◌, IsTrue, List, map, Contains, Bool, true, false, not, ◌&&◌, refl, sym, ◌∙◌, ap, subst, arith}
use Rattle.std.proofs.lemmas.Bool.Decides.{nat_tests}
use Rattle.std.specs.List.{Any}
use Rattle.sem_query.specs.declared.atom.Attr.{Attr}
use Rattle.sem_query.specs.declared.atom.Atom.{Atom}
use Rattle.sem_query.specs.declared.atom.Element.TheVariants as element
use Rattle.sem_query.specs.Query.{QueryValue, attr_lt}
use Rattle.sem_query.proofs.Has.{Has, Has-from_contains, Contains-from_has, Has-map, Has-map_from}
use Rattle.sem_laws.proofs.Tests.{and-left, and-right, and-both, not_both}
use Rattle.sem_whole.specs.System.{Difference, system, AreOneClass}
use Rattle.sem_whole.specs.Kept.{IsRange, IsKeptRange}
use Rattle.sem_whole.specs.Whole as Whole
use Rattle.sem_whole.specs.Whole.{IsRead, IsFinite, IsOpen, IsOpenSide, IsUnlike, IsOneWay, HasEarlier}
use Rattle.sem_whole.specs.Plan.{HasRead}
use Rattle.sem_whole.proofs.Cases.{range_one}
use Rattle.sem_whole.proofs.CutLaw.{class_itself}
use Rattle.sem_whole.proofs.Unbroken.{kept_one}
use Rattle.plan_whole.specs.declared.closed.Ends.{Ends}
use Rattle.plan_whole.specs.declared.links.ColumnLink.{ColumnLink}
use Rattle.plan_whole.specs.Closed.{ends_of}
use Rattle.plan_whole.specs.Columns.{atom_of}
use Rattle.plan_whole.specs.Classes.{beside}
use Rattle.plan_whole_form.specs.Sides.{IsSide, DiffersAt, IsEarlier}

column_of : {a b : Attr} → element.Attr a ≡ element.Attr b → a ≡ b
column_of {a} {b} f = cc

not_true : (b : Bool) → not b ≡ true → b ≡ true → ⊥
not_true true h k = cc
not_true false h k = cc

true_not : (b : Bool) → (b ≡ true → ⊥) → not b ≡ true
true_not true h = absurd (h refl)
true_not false h = refl

-- ---- ranges

pub open_range_told : (ds : List Difference) (a : Attr) (e : Ends) (b : Bool) → IsRange ds a (ends_of e) → IsTrue b ↔ IsFinite (ends_of e) → IsTrue (not b) ↔ IsOpen (IsRange ds a)
open_range_told ds a e b is t = (
  λ h. (ends_of e, is, λ f. not_true b h (t.1 f)),
  λ o. true_not b (λ i. o.2 (subst IsFinite (range_one ds a (ends_of e) o.0 is o.1) (t.0 i))),
)

-- ---- columns in links

pub read_side : (q : QueryValue) (links : List ColumnLink) (a : Attr) → Any (IsSide a) links → HasRead q (map atom_of links) a
read_side q links a w = record { member = a; inside = class_itself (system q) a; read = by w.4 }
  where
    h : Has links w.1
    h = Has-from_contains links w.1 (w.0, w.2, w.3)

    by : IsSide a w.1 → IsRead q (map atom_of links) a
    by (inl e) = Whole.left (atom_of w.1) (Has-map atom_of h) (ap (λ z. element.Attr z) e)
    by (inr e) = Whole.right (atom_of w.1) (Has-map atom_of h) (ap (λ z. element.Attr z) e)

side_of : (q : QueryValue) (links : List ColumnLink) (a : Attr) → IsOpenSide q (map atom_of links) a → Any (IsSide a) links
side_of q links a o = (c.0, p.0, c.1, c.2, by o.side)
  where
    p : (l : ColumnLink) × Has links l × (atom_of l ≡ o.link)
    p = Has-map_from atom_of links o.link o.among

    c : Contains links p.0
    c = Contains-from_has links p.0 p.1

    by : (o.link.left ≡ element.Attr a) ⊎ (o.link.right ≡ element.Attr a) → IsSide a p.0
    by (inl e) = inl (column_of (ap (λ t. t.left) p.2 ∙ e))
    by (inr e) = inr (column_of (ap (λ t. t.right) p.2 ∙ e))

pub no_side : (q : QueryValue) (links : List ColumnLink) (a : Attr) (b : Bool) → IsTrue b ↔ Any (IsSide a) links → b ≡ false → IsTrue false ↔ IsOpenSide q (map atom_of links) a
no_side q links a b t e = (λ h. absurd cc, λ o. absurd (not_both b (t.1 (side_of q links a o)) e))

pub open_side_told : (q : QueryValue) (links : List ColumnLink) (a : Attr) (e : Ends) (s b : Bool) → IsTrue s ↔ Any (IsSide a) links → s ≡ true
    → IsKeptRange q (map atom_of links) a (ends_of e) → IsTrue b ↔ IsFinite (ends_of e) → IsTrue (not b) ↔ IsOpenSide q (map atom_of links) a
open_side_told q links a e s b u i k t = (
  λ h. onto (u.0 i) (ends_of e, k, λ f. not_true b h (t.1 f)),
  λ o. true_not b (λ j. o.unbounded.2 (subst IsFinite (kept_one q (map atom_of links) a a (class_itself (system q) a) (ends_of e) o.unbounded.0 k o.unbounded.1) (t.0 j))),
)
  where
    onto : Any (IsSide a) links → IsOpen (IsKeptRange q (map atom_of links) a) → IsOpenSide q (map atom_of links) a
    onto w o = record { link = atom_of w.1; among = Has-map atom_of (Has-from_contains links w.1 (w.0, w.2, w.3)); side = by w.4; unbounded = o }
      where
        by : IsSide a w.1 → ((atom_of w.1).left ≡ element.Attr a) ⊎ ((atom_of w.1).right ≡ element.Attr a)
        by (inl e) = inl (ap (λ z. element.Attr z) e)
        by (inr e) = inr (ap (λ z. element.Attr z) e)

pub unlike_told : (q : QueryValue) (links : List ColumnLink) (a : Attr) (b : Bool) → IsTrue b ↔ Any (DiffersAt (system q) a) links → IsTrue b ↔ IsUnlike q (map atom_of links) a
unlike_told q links a b t = (λ h. onto (t.0 h), λ u. t.1 (from u))
  where
    onto : Any (DiffersAt (system q) a) links → IsUnlike q (map atom_of links) a
    onto w = by w.4.1
      where
        h : Has (map atom_of links) (atom_of w.1)
        h = Has-map atom_of (Has-from_contains links w.1 (w.0, w.2, w.3))

        by : AreOneClass (system q) a w.1.left ⊎ AreOneClass (system q) a w.1.right → IsUnlike q (map atom_of links) a
        by (inl c) = record { link = atom_of w.1; among = h; unlike = w.4.0; other = w.1.left; class = c; side = inl refl }
        by (inr c) = record { link = atom_of w.1; among = h; unlike = w.4.0; other = w.1.right; class = c; side = inr refl }

    from : IsUnlike q (map atom_of links) a → Any (DiffersAt (system q) a) links
    from u = (c.0, p.0, c.1, c.2, (ap (λ t. t.op) p.2 ∙ u.unlike, by u.side))
      where
        p : (l : ColumnLink) × Has links l × (atom_of l ≡ u.link)
        p = Has-map_from atom_of links u.link u.among

        c : Contains links p.0
        c = Contains-from_has links p.0 p.1

        by : (u.link.left ≡ element.Attr u.other) ⊎ (u.link.right ≡ element.Attr u.other) → AreOneClass (system q) a p.0.left ⊎ AreOneClass (system q) a p.0.right
        by (inl e) = inl (subst (AreOneClass (system q) a) (sym (column_of (ap (λ t. t.left) p.2 ∙ e))) u.class)
        by (inr e) = inr (subst (AreOneClass (system q) a) (sym (column_of (ap (λ t. t.right) p.2 ∙ e))) u.class)

-- ---- an earlier class

pub earlier_told : (q : QueryValue) (links : List Atom) (a first : Attr) (o w s : Bool) → IsTrue o ↔ IsOpenSide q links first → IsTrue w ↔ IsOneWay q links first → IsTrue s ↔ AreOneClass (system q) first a
    → IsTrue (o && w && not s) ↔ IsEarlier q links a first
earlier_told q links a first o w s eo ew es = (
  λ h. record {
    unbounded = eo.0 (and-left o w (and-left (o && w) (not s) h));
    way = ew.0 (and-right o w (and-left (o && w) (not s) h));
    apart = λ c. not_true s (and-right (o && w) (not s) h) (es.1 c);
  },
  λ i. and-both (o && w) (not s) (and-both o w (eo.1 i.unbounded) (ew.1 i.way)) (true_not s (λ k. i.apart (es.0 k))),
)

-- none of the columns before one is such a column
abbrev pub NoEarlier : QueryValue → List Atom → Attr → ℕ → Type 0
NoEarlier q links a n = (c : ℕ) → c < n → ¬ IsEarlier q links a (beside a c)

pub no_earlier_first : (q : QueryValue) (links : List Atom) (a : Attr) → NoEarlier q links a 0
no_earlier_first q links a c l = absurd (omega (arith, l))

pub no_earlier_more : (q : QueryValue) (links : List Atom) (a : Attr) (n : ℕ) (b : Bool) → NoEarlier q links a n → IsTrue b ↔ IsEarlier q links a (beside a n) → b ≡ false → NoEarlier q links a (n + 1)
no_earlier_more q links a n b h t e c l = by (same c l)
  where
    same : (c : ℕ) → c < n + 1 → (c < n) ⊎ (c ≡ n)
    same c l = grind (arith, l)

    by : (c < n) ⊎ (c ≡ n) → ¬ IsEarlier q links a (beside a c)
    by (inl m) = h c m
    by (inr f) = λ i. not_both b (t.1 (subst (λ c. IsEarlier q links a (beside a c)) f i)) e

before : (a : Attr) (c : ℕ) → c < a.column → attr_lt (beside a c) a ≡ true
before a c l = grind (arith, nat_tests, l)

lower : (b a : Attr) → b.stream ≡ a.stream → attr_lt b a ≡ true → b.column < a.column
lower b a e l = grind (arith, nat_tests, e, l)

pub has_one : (q : QueryValue) (links : List Atom) (a : Attr) (c : ℕ) (b : Bool) → c < a.column → IsTrue b ↔ IsEarlier q links a (beside a c) → b ≡ true → IsTrue true ↔ HasEarlier q links a
has_one q links a c b l t e = (
  λ h. record { first = beside a c; stream = refl; unbounded = (t.0 e).unbounded; way = (t.0 e).way; before = before a c l; apart = (t.0 e).apart },
  λ h. refl,
)

pub has_none : (q : QueryValue) (links : List Atom) (a : Attr) (n : ℕ) → a.column ≡ n → NoEarlier q links a n → IsTrue false ↔ HasEarlier q links a
has_none q links a n e h = (λ t. absurd cc, from)
  where
    from : HasEarlier q links a → false ≡ true
    from i =
        let l : i.first.column < a.column = lower i.first a i.stream i.before in
        let f : i.first ≡ beside a i.first.column = (λ j. record { stream = i.stream j; column = i.first.column }) in
        absurd (h i.first.column (omega (arith, l, e)) (subst (IsEarlier q links a) f record { unbounded = i.unbounded; way = i.way; apart = i.apart }))
