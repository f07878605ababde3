-- The conditions that are asked, one by one.
use Rattle.std.proofs.Common.{◌≡◌, ℕ, ◌+◌, ◌<◌, ◌≤◌, ◌⊎◌, inl, inr, ◌↔◌, IsTrue, ℤ, pos, ◌+ℤ◌, ◌-ℤ◌, ◌≤ℤ◌, Contains, List, [], ◌∷◌, ◌++◌, length, take, get_or, set, below_more, get_or-set_other, get_or-set_same, ◌≢◌, Bool, true, false, not, ◌&&◌, Option, Some, None, length-append, refl, sym, ◌∙◌, ap, subst, arith}
use Rattle.std.proofs.lemmas.Int.{ints}
use Rattle.std.proofs.lemmas.List.{take_more, take_all}
use Rattle.sem_query.specs.declared.atom.Attr.{Attr}
use Rattle.sem_query.specs.declared.atom.Atom.{Atom}
use Rattle.sem_query.specs.declared.atom.Element.{Element}
use Rattle.sem_query.specs.declared.atom.Element.TheVariants as element
use Rattle.sem_query.specs.declared.atom.Op.{Op}
use Rattle.sem_query.specs.Assignment.{Assignment}
use Rattle.sem_query.specs.Query.{QueryValue, attr_eq, attr_lt, attrs_of, is_attr}
use Rattle.sem_query.proofs.Elements.{attr_separates}
use Rattle.sem_query.proofs.Has.{Has, Contains-from_has, first, Has-nil, Has-append_left, Has-append_right, Has-append_cases}
use Rattle.sem_laws.proofs.Tests.{and-left, and-right, and-both, not_both, false_if, attr_eq-is, attr_eq-itself}
use Rattle.sem_laws.proofs.OnePartFits.{has_cases}
use Rattle.sem_whole.specs.System.{Difference, system, IsOf, AreOneClass, Bound, Solves}
use Rattle.sem_whole.specs.Kept.{IsLowest, IsHighest}
use Rattle.sem_whole.specs.Plan.{NamesClass}
use Rattle.sem_whole.specs.Laws.{IsLeastBound}
use Rattle.sem_whole.specs.Signed.{all_said, IsWellFormed}
use Rattle.sem_whole.proofs.Signed.{said_no_unlike}
use Rattle.sem_whole.proofs.Unbroken.{class_turned, class_on}
use Rattle.plan_whole.specs.Closed.{IsWithSigns, IsSolvable, apart}
use Rattle.plan_whole.proofs.Unnamed.{apart_least, mixed_left, mixed_right}
use Rattle.plan_whole.specs.Classes.{IsNameOf}
use Rattle.plan_whole.specs.Columns.{listed}
use Rattle.plan_whole.specs.Extremes.{column_at}
use Rattle.sem_query.specs.declared.plan.LocalCondition.{LocalCondition}
use Rattle.plan_whole_form.specs.declared.conditions.KnownColumn.{KnownColumn}
use Rattle.plan_whole_form.specs.Conditions.{condition, IsKnownColumn, AreKnownColumns, IsTie, IsLeastEnd, IsGreatestEnd, IsSaid, IsUnsaid, AreTwoNames, IsBetween, IsOwnUnlike, IsTurned, IsUnlikeAt}
use Rattle.plan_whole_form.specs.Listed.{AreListed, AreUnlikes}

not_true : (b : Bool) → not b ≡ true → b ≡ true → ⊥
not_true true h k = cc
not_true false h k = cc

true_not : (b : Bool) → (b ≡ true → ⊥) → not b ≡ true
true_not true h = absurd (h refl)
true_not false h = refl

-- ---- names

pub name_one : (q : QueryValue) (a b : Attr) → NamesClass q a → NamesClass q b → AreOneClass (system q) a b → a ≡ b
name_one q a b n m c = attr_separates a b (false_if (attr_lt a b) (m a c)) (false_if (attr_lt b a) (n b (class_turned (system q) a b c)))

pub names_told : (q : QueryValue) (a n : Attr) (b : Bool) → IsNameOf q a n → b ≡ attr_eq n a → IsTrue b ↔ NamesClass q a
names_told q a n b i e = (
  λ h. subst (NamesClass q) (attr_eq-is n a (sym e ∙ h)) i.name,
  λ m. e ∙ subst (λ z. attr_eq n z ≡ true) (name_one q n a i.name m i.inside) (attr_eq-itself n),
)

-- one column more

abbrev pub no_column : KnownColumn
no_column = record { name = column_at 0 0; is_compared = false }

pub columns_first : (q : QueryValue) (place : ℕ) (c : ℕ) → c < 0 → {k : KnownColumn} → IsKnownColumn q (column_at place c) k
columns_first q place c l = absurd (omega (arith, l))

pub columns_more : (q : QueryValue) (place : ℕ) (columns : List KnownColumn) (k i : ℕ) (n : KnownColumn) → i ≡ k → k < length columns → ((c : ℕ) → c < k → IsKnownColumn q (column_at place c) (get_or columns c no_column)) → IsKnownColumn q (column_at place k) n
    → (c : ℕ) → c < k + 1 → IsKnownColumn q (column_at place c) (get_or (set columns i n) c no_column)
columns_more q place columns k i n e l h known = subst (λ i. (c : ℕ) → c < k + 1 → IsKnownColumn q (column_at place c) (get_or (set columns i n) c no_column)) (sym e)
    (below_more (λ c. IsKnownColumn q (column_at place c) (get_or (set columns k n) c no_column)) k
    (λ c m. let ne : c ≢ k = omega (arith, m) in rw get_or-set_other (h c m))
    (rw get_or-set_same known))

pub column_known : (q : QueryValue) (a : Attr) (columns : List KnownColumn) (i : ℕ) → i ≡ a.column → a.column < 8 → AreKnownColumns q a.stream columns → IsKnownColumn q a (get_or columns i no_column)
column_known q a columns i e l h = subst (λ i. IsKnownColumn q a (get_or columns i no_column)) (sym e) (h a.column l)

-- one of two columns is named by no comparison
pub not_compared : (q : QueryValue) (a b : Attr) (k l : KnownColumn) → IsKnownColumn q a k → IsKnownColumn q b l → (k.is_compared && l.is_compared) ≡ false
    → (Contains (attrs_of q.atoms) a → ⊥) ⊎ (Contains (attrs_of q.atoms) b → ⊥)
not_compared q a b k l i j e = by k.is_compared l.is_compared i.compared j.compared e
  where
    by : (s t : Bool) → IsTrue s ↔ Contains (attrs_of q.atoms) a → IsTrue t ↔ Contains (attrs_of q.atoms) b → (s && t) ≡ false → (Contains (attrs_of q.atoms) a → ⊥) ⊎ (Contains (attrs_of q.atoms) b → ⊥)
    by false t f g e = inl (λ h. (let m = f.1 h in cc))
    by true false f g e = inr (λ h. (let m = g.1 h in cc))
    by true true f g e = absurd cc

pub differ : (a b : Attr) → attr_eq a b ≡ false → a ≡ b → ⊥
differ a b e f = let g : attr_eq b b ≡ true = attr_eq-itself b in not_both (attr_eq a b) (subst (λ z. attr_eq z b ≡ true) (sym f) g) e

pub two_names_told : (q : QueryValue) (a b : Attr) (l r s : Bool) → IsTrue l ↔ NamesClass q a → IsTrue r ↔ NamesClass q b → s ≡ attr_eq a b → IsTrue (l && r && not s) ↔ AreTwoNames q a b
two_names_told q a b l r s el er e = (
  λ h. record {
    left = el.0 (and-left l r (and-left (l && r) (not s) h));
    right = er.0 (and-right l r (and-left (l && r) (not s) h));
    apart = λ f. not_true s (and-right (l && r) (not s) h) (e ∙ subst (λ z. attr_eq a z ≡ true) f (attr_eq-itself a));
  },
  λ n. and-both (l && r) (not s) (and-both l r (el.1 n.left) (er.1 n.right)) (true_not s (λ i. n.apart (attr_eq-is a b (sym e ∙ i)))),
)

pub own_told : (place : ℕ) (s : Atom) (o c l r : Bool) → IsTrue o ↔ (s.op ≡ Op.Ne) → IsTrue c ↔ (IsTrue (is_attr s.left) ⊎ IsTrue (is_attr s.right)) → IsTrue l ↔ IsOf place s.left → IsTrue r ↔ IsOf place s.right
    → IsTrue (o && c && l && r) ↔ IsOwnUnlike place s
own_told place s o c l r eo ec el er = (
  λ h. record {
    op = eo.0 (and-left o c (and-left (o && c) l (and-left (o && c && l) r h)));
    column = ec.0 (and-right o c (and-left (o && c) l (and-left (o && c && l) r h)));
    left = el.0 (and-right (o && c) l (and-left (o && c && l) r h));
    right = er.0 (and-right (o && c && l) r h);
  },
  λ i. and-both (o && c && l) r (and-both (o && c) l (and-both o c (eo.1 i.op) (ec.1 i.column)) (el.1 i.left)) (er.1 i.right),
)

-- ---- each gives one condition or none

lowest_one : (ds : List Difference) (a : Attr) (l m : ℤ) → IsLowest ds a (Some l) → IsLowest ds a (Some m) → l ≡ m
lowest_one ds a l m h k = let i = k.1 l h.0 in let j = h.1 m k.0 in omega (arith, ints, i, j)

highest_one : (ds : List Difference) (a : Attr) (l m : ℤ) → IsHighest ds a (Some l) → IsHighest ds a (Some m) → l ≡ m
highest_one ds a l m h k = let i = k.1 l h.0 in let j = h.1 m k.0 in omega (arith, ints, i, j)

bound_one : (ds : List Difference) (x y : Element) (l m : ℤ) → IsLeastBound ds x y (Some l) → IsLeastBound ds x y (Some m) → l ≡ m
bound_one ds x y l m h k = let i = k.1 l h.0 in let j = h.1 m k.0 in omega (arith, ints, i, j)

pub tie_one : (q : QueryValue) (a : Attr) (o : Option LocalCondition) (t : LocalCondition) → IsTie q a o → IsTie q a (Some t) → o ≡ Some t
tie_one q a None t n (m, i, d, e) = absurd (d (name_one q m a i.name n i.inside))
tie_one q a (Some s) t (n, h, c, f) (m, i, d, e) =
    let g : n ≡ m = name_one q n m h.name i.name (class_on (system q) n a m h.inside (class_turned (system q) m a i.inside)) in
    ap (λ z. Some z) (f ∙ ap (λ z. condition a Op.Eq (element.Attr z) (pos 0)) g ∙ sym e)

pub least_one : (q : QueryValue) (a : Attr) (o : Option LocalCondition) (t : LocalCondition) → IsLeastEnd q a o → IsLeastEnd q a (Some t) → o ≡ Some t
least_one q a None t n (i, l, k, e) = absurd (n i l k.0)
least_one q a (Some s) t (i, l, k, e) (j, m, h, f) = ap (λ z. Some z) (e ∙ ap (λ z. condition a Op.Ge (element.Const z) (pos 0)) (lowest_one (system q) a l m k h) ∙ sym f)

pub greatest_one : (q : QueryValue) (a : Attr) (o : Option LocalCondition) (t : LocalCondition) → IsGreatestEnd q a o → IsGreatestEnd q a (Some t) → o ≡ Some t
greatest_one q a None t n (i, l, k, e) = absurd (n i l k.0)
greatest_one q a (Some s) t (i, l, k, e) (j, m, h, f) = ap (λ z. Some z) (e ∙ ap (λ z. condition a Op.Le (element.Const z) (pos 0)) (highest_one (system q) a l m k h) ∙ sym f)

pub between_one : (q : QueryValue) (a b : Attr) (o : Option LocalCondition) (t : LocalCondition) → IsBetween q a b o → IsBetween q a b (Some t) → o ≡ Some t
between_one q a b None t n (i, u, k, d, e) = absurd (d (n i u k))
between_one q a b (Some s) t (i, u, k, c, e) (j, w, h, d, f) =
    ap (λ z. Some z) (e ∙ ap (λ z. condition a Op.Le (element.Attr b) z) (bound_one (system q) (element.Attr a) (element.Attr b) u w k h) ∙ sym f)

turned_one : (x y : Element) (s t : LocalCondition) → IsTurned x y s → IsTurned x y t → s ≡ t
turned_one (element.Attr a) y s t e f = e ∙ sym f
turned_one (element.Const k) (element.Attr b) s t e f = e ∙ sym f
turned_one (element.Const j) (element.Const k) s t e f = absurd e

pub unlike_one : (place : ℕ) (s : Atom) (o : Option LocalCondition) (t : LocalCondition) → IsUnlikeAt place s o → IsUnlikeAt place s (Some t) → o ≡ Some t
unlike_one place s None t n (i, e) = absurd (n i)
unlike_one place s (Some r) t (i, e) (j, f) = ap (λ z. Some z) (turned_one s.left s.right r t e f)

pub unsaid_between : (q : QueryValue) (a b : Attr) (u : ℤ) (o : Option LocalCondition) → AreTwoNames q a b → IsLeastBound (system q) (element.Attr a) (element.Attr b) (Some u) → IsUnsaid q a b u o → IsBetween q a b o
unsaid_between q a b u None n l s = λ m w k. subst (IsSaid q a b) (bound_one (system q) (element.Attr a) (element.Attr b) u w l k) s
unsaid_between q a b u (Some t) n l s = (n, u, l, s.0, s.1)

pub no_between : (q : QueryValue) (a b : Attr) → IsLeastBound (system q) (element.Attr a) (element.Attr b) None → IsBetween q a b None
no_between q a b n = λ m u k. absurd (n u k.0)

-- what bounds a column that no comparison names, and another, is said by their ranges
pub said_by_ranges : (q : QueryValue) → IsWellFormed q → IsSolvable q → (a b : Attr) → (a ≡ b → ⊥) → (Contains (attrs_of q.atoms) a → ⊥) ⊎ (Contains (attrs_of q.atoms) b → ⊥)
    → (u : ℤ) → IsLeastBound (system q) (element.Attr a) (element.Attr b) (Some u) → IsSaid q a b u
said_by_ranges q w s a b d n u k =
    let r = s.range a in
    let t = s.range b in
    by r.0.hi t.0.lo r.1.high t.1.low (apart_least q a b s.at s.solves (mixed n) r.0.hi t.0.lo r.1.high t.1.low)
  where
    mixed : (Contains (attrs_of q.atoms) a → ⊥) ⊎ (Contains (attrs_of q.atoms) b → ⊥)
        → (c : ℤ) → Bound (system q) (element.Attr a) (element.Attr b) c → (v o : Assignment) → Solves (system q) v → Solves (system q) o → o a ≤ℤ (c +ℤ v b)
    mixed (inl n) = mixed_left q w a (λ h. n (Contains-from_has (attrs_of q.atoms) a h)) b d
    mixed (inr n) = mixed_right q w b (λ h. n (Contains-from_has (attrs_of q.atoms) b h)) a (λ e. d (sym e))

    by : (high low : Option ℤ) → IsHighest (system q) a high → IsLowest (system q) b low → IsLeastBound (system q) (element.Attr a) (element.Attr b) (apart high low) → IsSaid q a b u
    by None low h l m = absurd (m u k.0)
    by (Some x) None h l m = absurd (m u k.0)
    by (Some x) (Some y) h l m = record {
      high = x;
      low = y;
      most = h.0;
      least = l.0;
      within = (let e = bound_one (system q) (element.Attr a) (element.Attr b) (x -ℤ y) u m k in omega (arith, ints, e));
    }

-- ---- lists

has_listed : {t : LocalCondition} (o : Option LocalCondition) → Has (listed o) t → o ≡ Some t
has_listed None h = Has-nil h
has_listed {t} (Some s) h = elim (has_cases s t [] h) [ inl e ↦ ap (λ z. Some z) e | inr n ↦ Has-nil n ]

in_listed : (t : LocalCondition) (o : Option LocalCondition) → o ≡ Some t → Has (listed o) t
in_listed t o e = subst (λ z. Has (listed z) t) (sym e) first

few_listed : (o : Option LocalCondition) → length (listed o) ≤ 1
few_listed None = omega arith
few_listed (Some s) = omega arith

pub listed_few : (n : ℕ) (o : Option LocalCondition) (ts new : List LocalCondition) → new ≡ ts ++ listed o → length ts ≤ n → length new ≤ n + 1
listed_few n o ts new e f = let g = length-append ts (listed o) in let i = few_listed o in let k = ap length e in omega (arith, f, g, i, k)

earlier : (c n : ℕ) → c < n + 1 → (c < n) ⊎ (c ≡ n)
earlier c n l = grind (arith, l)

module _ (P : ℕ → Option LocalCondition → Type 0) where
  pub listed_first : AreListed P 0 []
  listed_first = record { few = omega arith; each = λ t h. Has-nil h; all = λ c l t p. absurd (omega (arith, l)) }

  pub listed_more : (n : ℕ) (o : Option LocalCondition) (ts new : List LocalCondition) → ((t : LocalCondition) → P n (Some t) → o ≡ Some t) → P n o → new ≡ ts ++ listed o → AreListed P n ts → AreListed P (n + 1) new
  listed_more n o ts new one p e h = subst (AreListed P (n + 1)) (sym e) record {
    few = (let f = h.few in let g = length-append ts (listed o) in let i = few_listed o in omega (arith, f, g, i));
    each = λ t k. by t (Has-append_cases ts (listed o) t k);
    all = λ c l t i. elim (earlier c n l) [
      | inl m ↦ Has-append_left (listed o) (h.all c m t i)
      | inr f ↦ Has-append_right ts (in_listed t o (one t (subst (λ c. P c (Some t)) f i)))
    ];
  }
    where
      by : (t : LocalCondition) → Has ts t ⊎ Has (listed o) t → (c : ℕ) × (c < n + 1) × P c (Some t)
      by t (inl k) = let r = h.each t k in let l = r.1 in (r.0, omega (arith, l), r.2)
      by t (inr k) = (n, omega arith, subst (P n) (has_listed o k) p)

pub unlikes_first : (place : ℕ) → AreUnlikes place [] []
unlikes_first place = record { few = omega arith; each = λ t h. Has-nil h; all = λ s h t i. Has-nil h }

pub unlikes_push : (place : ℕ) (atoms : List Atom) (s : Atom) (o : Option LocalCondition) (ts new : List LocalCondition) → IsUnlikeAt place s o → new ≡ ts ++ listed o → AreUnlikes place atoms ts → AreUnlikes place (atoms ++ s ∷ []) new
unlikes_push place atoms s o ts new p e h = subst (AreUnlikes place (atoms ++ s ∷ [])) (sym e) record {
  few = (let f = h.few in let g = length-append ts (listed o) in let i = few_listed o in let j = length-append atoms (s ∷ []) in omega (arith, f, g, i, j));
  each = λ t k. by t (Has-append_cases ts (listed o) t k);
  all = λ r k t i. elim (Has-append_cases atoms (s ∷ []) r k) [
    | inl m ↦ Has-append_left (listed o) (h.all r m t i)
    | inr m ↦ Has-append_right ts (in_listed t o (unlike_one place s o t p (subst (λ r. IsUnlikeAt place r (Some t)) (sym (only r m)) i)))
  ];
}
  where
    only : (r : Atom) → Has (s ∷ []) r → s ≡ r
    only r m = elim (has_cases s r [] m) [ inl f ↦ f | inr n ↦ Has-nil n ]

    by : (t : LocalCondition) → Has ts t ⊎ Has (listed o) t → (r : Atom) × Has (atoms ++ s ∷ []) r × IsUnlikeAt place r (Some t)
    by t (inl k) = let r = h.each t k in (r.0, Has-append_left (s ∷ []) r.1, r.2)
    by t (inr k) = (s, Has-append_right atoms first, subst (IsUnlikeAt place s) (has_listed o k) p)

pub unlikes_more : (place : ℕ) (atoms : List Atom) (i : ℕ) (d : Atom) (o : Option LocalCondition) (ts new : List LocalCondition) → i < length atoms → IsUnlikeAt place (get_or atoms i d) o → new ≡ ts ++ listed o
    → AreUnlikes place (take i atoms) ts → AreUnlikes place (take (i + 1) atoms) new
unlikes_more place atoms i d o ts new l p e h = subst (λ z. AreUnlikes place z new) (sym (take_more atoms i d l)) (unlikes_push place (take i atoms) (get_or atoms i d) o ts new p e h)

pub unlikes_all : (place : ℕ) (atoms : List Atom) (i : ℕ) (ts : List LocalCondition) → length atoms ≤ i → AreUnlikes place (take i atoms) ts → AreUnlikes place atoms ts
unlikes_all place atoms i ts l h = subst (λ z. AreUnlikes place z ts) (take_all i atoms l) h

-- no sign says `<>`
pub unlikes_signed : (place : ℕ) (own : List Atom) (q r : QueryValue) (ts : List LocalCondition) → own ≡ q.atoms → IsWithSigns q r → AreUnlikes place own ts → AreUnlikes place r.atoms ts
unlikes_signed place own q r ts same signed h =
    subst (λ z. AreUnlikes place z.atoms ts) (sym signed.is) (subst (λ z. AreUnlikes place (all_said signed.pairs signed.signs ++ z) ts) same record {
      few = (let f = h.few in let g = length-append (all_said signed.pairs signed.signs) own in omega (arith, f, g));
      each = λ t k. (let r = h.each t k in (r.0, Has-append_right (all_said signed.pairs signed.signs) r.1, r.2));
      all = λ s k t i. elim (Has-append_cases (all_said signed.pairs signed.signs) own s k) [
        | inl m ↦ absurd (said_no_unlike signed.pairs signed.signs s m i.0.op)
        | inr m ↦ h.all s m t i
      ];
    })
