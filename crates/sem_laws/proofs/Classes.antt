-- Attributes that a part's signs tie are equal in its rows, and those of one class are tied.
use Rattle.std.proofs.Common.{◌≡◌, ℕ, ◌⊎◌, inl, inr, List, [], ◌∷◌, map, cond, not, Bool, true, false, ◌&&◌, ◌||◌, refl, sym, ap, ◌∙◌, subst, arith, nat_eq, ℤ, Contains}
use Rattle.std.specs.List.{list_any}
use Rattle.sem_query.specs.declared.atom.Element.TheVariants as element
use Rattle.sem_query.proofs.Has.{Has, first, later, Has-from_contains, Contains-from_has}
use Rattle.sem_query.proofs.Elements.{HasElement}
use Rattle.sem_query.proofs.Local.{PairOf, PairIn, of_one_stream, among_pairs, pair_named, eq_from_sign, sign-eq}
use Rattle.sem_laws.proofs.Tests.{and-left, and-right, and-both, or-cases, or-left, or-right, sign_eq-is, attr_eq-is, attr_eq-itself}
use Rattle.sem_query.specs.declared.atom.Attr.{Attr}
use Rattle.sem_query.specs.declared.part.Pair.{Pair}
use Rattle.sem_query.specs.declared.atom.Element.{Element}
use Rattle.sem_query.specs.declared.part.Sign.{Sign}
use Rattle.sem_query.specs.Query.{QueryValue, attrs_of, consts_of, attr_eq}
use Rattle.sem_query.specs.Assignment.{Assignment, value}
use Rattle.sem_query.specs.Parts.{pairs, is_within, same_stream, sign_at, InPart, IsPart}
use Rattle.sem_query.specs.declared.plan.Dim.{Dim}
use Rattle.sem_query.specs.declared.plan.PartPlan.{PartPlan}
use Rattle.sem_query.specs.Plan.{AreOneClass, IsPartPlan}
use Rattle.sem_query.specs.Admission.{alone, keeps_signs, sign_eq}
use Rattle.sem_query.specs.Combinations.{compares_both, ties, any_ties, tied, binds, is_tied, looked_up}

-- a pair that ties them, with its sign kept
tie_equal : (v : ℕ → ℤ) (place : ℕ) (a b : Attr) (l : Attr) (x : Element) (s : Sign) → a.stream ≡ place → b.stream ≡ place
    → ties a b record { left = l; right = x } s ≡ true
    → (not (is_within place l x) || sign_eq (sign_at (alone v) record { left = l; right = x }) s) ≡ true → v a.column ≡ v b.column
tie_equal v place a b l (element.Const k) s ea eb t h = absurd (let g : false ≡ true = and-right (sign_eq s Sign.Eq) false t in cc)
tie_equal v place a b l (element.Attr c) s ea eb t h =
    let is_eq : s ≡ Sign.Eq = sign_eq-is s Sign.Eq (and-left (sign_eq s Sign.Eq) _ t) in
    let same : l.stream ≡ place → c.stream ≡ place → v l.column ≡ v c.column = λ e f.
    elim (or-cases (not (nat_eq l.stream place && nat_eq c.stream place)) _ h) [
      | inl g ↦ absurd (grind (arith, g, e, f))
      | inr g ↦ eq_from_sign (v l.column) (v c.column) (sign_eq-is _ s g ∙ is_eq)
    ] in
    elim (or-cases (attr_eq l a && attr_eq c b) (attr_eq l b && attr_eq c a) (and-right (sign_eq s Sign.Eq) _ t)) [
      | inl g ↦ (
          let la : l ≡ a = attr_eq-is l a (and-left _ _ g) in
          let cb : c ≡ b = attr_eq-is c b (and-right (attr_eq l a) _ g) in
          ap (λ (z : Attr). v z.column) (sym la) ∙ same (ap (λ (z : Attr). z.stream) la ∙ ea) (ap (λ (z : Attr). z.stream) cb ∙ eb) ∙ ap (λ (z : Attr). v z.column) cb)
      | inr g ↦ (
          let lb : l ≡ b = attr_eq-is l b (and-left _ _ g) in
          let ca : c ≡ a = attr_eq-is c a (and-right (attr_eq l b) _ g) in
          ap (λ (z : Attr). v z.column) (sym ca) ∙ sym (same (ap (λ (z : Attr). z.stream) lb ∙ eb) (ap (λ (z : Attr). z.stream) ca ∙ ea)) ∙ ap (λ (z : Attr). v z.column) lb)
    ]

any_equal : (v : ℕ → ℤ) (place : ℕ) (a b : Attr) (ps : List Pair) (ss : List Sign) → a.stream ≡ place → b.stream ≡ place
    → any_ties a b ps ss ≡ true → keeps_signs place (alone v) ps ss ≡ true → v a.column ≡ v b.column
any_equal v place a b [] ss ea eb t h = absurd cc
any_equal v place a b (p ∷ ps) [] ea eb t h = absurd cc
any_equal v place a b (p ∷ ps) (s ∷ ss) ea eb t h =
    elim (or-cases (ties a b p s) (any_ties a b ps ss) t) [
      | inl g ↦ tie_equal v place a b p.left p.right s ea eb g (and-left _ _ h)
      | inr g ↦ any_equal v place a b ps ss ea eb g (and-right (not (is_within place p.left p.right) || sign_eq (sign_at (alone v) p) s) _ h)
    ]

pub tied-equal : (q : QueryValue) (s : List Sign) (v : ℕ → ℤ) (place : ℕ) (a b : Attr) → a.stream ≡ place → b.stream ≡ place
    → tied q s a b ≡ true → keeps_signs place (alone v) (pairs q) s ≡ true → v a.column ≡ v b.column
tied-equal q s v place a b ea eb t h =
    elim (or-cases (attr_eq a b) (any_ties a b (pairs q) s) t) [
      | inl g ↦ ap (λ (z : Attr). v z.column) (attr_eq-is a b g)
      | inr g ↦ any_equal v place a b (pairs q) s ea eb g h
    ]

any_at : (a b : Attr) (w : Assignment) (ps : List Pair) (p : Pair) → Has ps p → ties a b p (sign_at w p) ≡ true
    → any_ties a b ps (map (sign_at w) ps) ≡ true
any_at a b w [] p k t = elim k [ ]
any_at a b w (o ∷ ps) p first t = or-left _ _ t
any_at a b w (o ∷ ps) p (later k) t = or-right (ties a b o (sign_at w o)) _ (any_at a b w ps p k t)

pub class-tied : (q : QueryValue) (s : List Sign) → IsPart q s → (a b : Attr) → AreOneClass q s a b → tied q s a b ≡ true
class-tied q s some a b c = elim c.named [
  | inl e ↦ or-left _ _ (subst (λ z. attr_eq a z ≡ true) e (attr_eq-itself a))
  | inr h ↦ of_attrs h.0 h.1
]
  where
    same : some.one a ≡ some.one b
    same = c.equal.equal some.one some.inside

    stream : same_stream a b ≡ true
    stream = grind (arith, c.stream)

    from : any_ties a b (pairs q) (map (sign_at some.one) (pairs q)) ≡ true → tied q s a b ≡ true
    from h = or-right (attr_eq a b) _ (subst (λ z. any_ties a b (pairs q) z ≡ true) some.inside.signs h)

    of_attrs : Contains (attrs_of q.atoms) a → Contains (attrs_of q.atoms) b → tied q s a b ≡ true
    of_attrs h i = elim (of_one_stream (attrs_of q.atoms) (consts_of q.atoms) a b (Has-from_contains _ a h) (Has-from_contains _ b i) stream) [
      | inl e ↦ or-left _ _ (subst (λ z. attr_eq a z ≡ true) e (attr_eq-itself a))
      | inr o ↦ elim o [
        | inl k ↦ (
            let g : sign_at some.one (PairOf a b) ≡ Sign.Eq = sign-eq (some.one a) (some.one b) same in
            from (any_at a b some.one (pairs q) (PairOf a b) (among_pairs q _ k) (and-both _ _ (rw g refl) (or-left _ _ (and-both _ _ (attr_eq-itself a) (attr_eq-itself b))))))
        | inr k ↦ (
            let g : sign_at some.one (PairOf b a) ≡ Sign.Eq = sign-eq (some.one b) (some.one a) (sym same) in
            from (any_at a b some.one (pairs q) (PairOf b a) (among_pairs q _ k) (and-both _ _ (rw g refl) (or-right (attr_eq b a && attr_eq a b) _ (and-both _ _ (attr_eq-itself b) (attr_eq-itself a))))))
      ]
    ]

tie_in : (v : Assignment) (a b l : Attr) (x : Element) → v l ≡ value x v → compares_both a b l x ≡ true → v a ≡ v b
tie_in v a b l (element.Const k) e h = absurd cc
tie_in v a b l (element.Attr r) e h = elim (or-cases (attr_eq l a && attr_eq r b) (attr_eq l b && attr_eq r a) h) [
  | inl g ↦ ap v (sym (attr_eq-is l a (and-left _ _ g))) ∙ e ∙ ap v (attr_eq-is r b (and-right (attr_eq l a) _ g))
  | inr g ↦ ap v (sym (attr_eq-is r a (and-right (attr_eq l b) _ g))) ∙ sym e ∙ ap v (attr_eq-is l b (and-left _ _ g))
]

any_in : (v : Assignment) (a b : Attr) (ps : List Pair) → any_ties a b ps (map (sign_at v) ps) ≡ true → v a ≡ v b
any_in v a b [] h = absurd cc
any_in v a b (p ∷ ps) h = elim (or-cases (ties a b p (sign_at v p)) _ h) [
  | inl g ↦ tie_in v a b p.left p.right (eq_from_sign (v p.left) (value p.right v) (sign_eq-is (sign_at v p) Sign.Eq (and-left _ _ g))) (and-right _ (compares_both a b p.left p.right) g)
  | inr g ↦ any_in v a b ps g
]

-- tied columns are equal in every assignment of the part
pub tied-in : (q : QueryValue) (s : List Sign) (v : Assignment) → InPart q s v → (a b : Attr) → tied q s a b ≡ true → v a ≡ v b
tied-in q s v i a b t = elim (or-cases (attr_eq a b) _ t) [
  | inl g ↦ ap v (attr_eq-is a b g)
  | inr g ↦ any_in v a b (pairs q) (subst (λ ss. any_ties a b (pairs q) ss ≡ true) (sym i.signs) g)
]

tie_named : (xs : List Attr) (ks : List ℤ) (a b l : Attr) (x : Element) → Has xs l → HasElement xs ks x → compares_both a b l x ≡ true
    → Has xs a × Has xs b
tie_named xs ks a b l (element.Const k) h i t = absurd cc
tie_named xs ks a b l (element.Attr r) h i t = elim (or-cases (attr_eq l a && attr_eq r b) (attr_eq l b && attr_eq r a) t) [
  | inl g ↦ (subst (Has xs) (attr_eq-is l a (and-left _ _ g)) h, subst (Has xs) (attr_eq-is r b (and-right (attr_eq l a) _ g)) i)
  | inr g ↦ (subst (Has xs) (attr_eq-is r a (and-right (attr_eq l b) _ g)) i, subst (Has xs) (attr_eq-is l b (and-left _ _ g)) h)
]

any_named : (xs : List Attr) (ks : List ℤ) (a b : Attr) (ps : List Pair) (ss : List Sign) → ((p : Pair) → Has ps p → PairIn xs ks p)
    → any_ties a b ps ss ≡ true → Has xs a × Has xs b
any_named xs ks a b [] ss f t = absurd cc
any_named xs ks a b (p ∷ ps) [] f t = absurd cc
any_named xs ks a b (p ∷ ps) (s ∷ ss) f t = elim (or-cases (ties a b p s) (any_ties a b ps ss) t) [
  | inl g ↦ tie_named xs ks a b p.left p.right (f p first).left (f p first).right (and-right (sign_eq s Sign.Eq) (compares_both a b p.left p.right) g)
  | inr g ↦ any_named xs ks a b ps ss (λ p k. f p (later k)) g
]

-- tied columns of one stream are of one class
pub tied-class : (q : QueryValue) (s : List Sign) (a b : Attr) → a.stream ≡ b.stream → tied q s a b ≡ true → AreOneClass q s a b
tied-class q s a b e t = record {
  named = elim (or-cases (attr_eq a b) (any_ties a b (pairs q) s) t) [
    | inl g ↦ inl (attr_eq-is a b g)
    | inr g ↦ (let n = any_named (attrs_of q.atoms) (consts_of q.atoms) a b (pairs q) s (pair_named q) g in inr (Contains-from_has _ a n.0, Contains-from_has _ b n.1))
  ];
  stream = e;
  equal = record { equal = λ v i. tied-in q s v i a b t };
}

-- some dim is tied to the column, or z is its value
abbrev pub IsFound : (Attr → Attr → Bool) → List Dim → (ℕ → ℤ) → ℤ → Attr → Type 0
IsFound are_tied dims v z a = ((d : Dim) × Has dims d × (are_tied d.attr a ≡ true)) ⊎ (z ≡ v a.column)

found_later : (are_tied : Attr → Attr → Bool) (d o : Dim) (dims : List Dim) (v : ℕ → ℤ) (z : ℤ) (a : Attr)
    → are_tied d.attr a ≡ false → Has (d ∷ dims) o → are_tied o.attr a ≡ true → IsFound are_tied dims v z a
found_later are_tied d o dims v z a e first t = absurd (let c : true ≡ false = sym t ∙ e in cc)
found_later are_tied d o dims v z a e (later l) t = inl (o, l, t)

-- looking up a column in the dim values of a row gives the row's value there, or the extreme
pub looked-row : (are_tied : Attr → Attr → Bool) (dims : List Dim) (v : ℕ → ℤ) (z : ℤ) (a : Attr)
    → ((d : Dim) → Has dims d → are_tied d.attr a ≡ true → v d.attr.column ≡ v a.column)
    → IsFound are_tied dims v z a
    → looked_up are_tied dims (map (λ d. v d.attr.column) dims) z a ≡ v a.column
looked-row are_tied [] v z a h (inl k) = elim k.1 [ ]
looked-row are_tied [] v z a h (inr e) = e
looked-row are_tied (d ∷ dims) v z a h k = by (are_tied d.attr a) refl (looked-row are_tied dims v z a (λ d l. h d (later l)))
  where
    narrowed : are_tied d.attr a ≡ false → IsFound are_tied dims v z a
    narrowed e = elim k [
      | inl o ↦ found_later are_tied d o.0 dims v z a e o.1 o.2
      | inr e ↦ inr e
    ]

    by : (b : Bool) → are_tied d.attr a ≡ b
        → (IsFound are_tied dims v z a → looked_up are_tied dims (map (λ d. v d.attr.column) dims) z a ≡ v a.column)
        → cond b (v d.attr.column) (looked_up are_tied dims (map (λ d. v d.attr.column) dims) z a) ≡ v a.column
    by true e f = h d first e
    by false e f = f (narrowed e)

-- looking up a column gives the row's value there or the extreme
pub looked-either : (are_tied : Attr → Attr → Bool) (dims : List Dim) (v : ℕ → ℤ) (z : ℤ) (a : Attr)
    → ((d : Dim) → Has dims d → are_tied d.attr a ≡ true → v d.attr.column ≡ v a.column)
    → (looked_up are_tied dims (map (λ d. v d.attr.column) dims) z a ≡ v a.column) ⊎ (looked_up are_tied dims (map (λ d. v d.attr.column) dims) z a ≡ z)
looked-either are_tied [] v z a h = inr refl
looked-either are_tied (d ∷ dims) v z a h = by (are_tied d.attr a) refl (looked-either are_tied dims v z a (λ d l. h d (later l)))
  where
    L : ℤ
    L = looked_up are_tied dims (map (λ d. v d.attr.column) dims) z a

    by : (b : Bool) → are_tied d.attr a ≡ b → (L ≡ v a.column) ⊎ (L ≡ z)
        → (cond b (v d.attr.column) L ≡ v a.column) ⊎ (cond b (v d.attr.column) L ≡ z)
    by true e f = inl (h d first e)
    by false e f = f

-- of a part whose signs say all that rows of a stream are asked, these alone tie columns
or_none : (b : Bool) → (b || false) ≡ b
or_none true = refl
or_none false = refl

plain_tied : (q : QueryValue) (part : PartPlan) → part.local ≡ [] → (a b : Attr) → is_tied q part a b ≡ tied q part.signs.items a b
plain_tied q part e a b = ap (λ ts. tied q part.signs.items a b || list_any (binds a b) ts) e ∙ or_none (tied q part.signs.items a b)

pub to_tied : (q : QueryValue) (part : PartPlan) → IsPartPlan q part → (a b : Attr) → is_tied q part a b ≡ true → tied q part.signs.items a b ≡ true
to_tied q part plan a b t = sym (plain_tied q part plan.local a b) ∙ t

pub from_tied : (q : QueryValue) (part : PartPlan) (a b : Attr) → tied q part.signs.items a b ≡ true → is_tied q part a b ≡ true
from_tied q part a b t = or-left (tied q part.signs.items a b) (list_any (binds a b) part.local) t
