-- What tests of a class tell.
use Rattle.std.proofs.Common.{◌≡◌, ℕ, ◌+◌, ◌<◌, ◌≤◌, ◌⊎◌, inl, inr, ◌↔◌, IsTrue, List, map, Bool, true, false, not, ◌&&◌, ◌||◌, All, refl, sym, ◌∙◌, ap, subst, arith}
use Rattle.std.proofs.lemmas.Bool.Decides.{nat_tests}
use Rattle.std.proofs.lemmas.List.Elements.{All-contains}
use Rattle.std.specs.List.{Any}
use Rattle.sem_query.specs.declared.atom.Attr.{Attr}
use Rattle.sem_query.specs.declared.atom.Atom.{Atom}
use Rattle.sem_query.specs.declared.atom.Op.{Op}
use Rattle.sem_query.specs.declared.atom.Element.TheVariants as element
use Rattle.sem_query.specs.Query.{QueryValue, attr_lt}
use Rattle.sem_query.proofs.Has.{Has, Has-from_contains, Contains-from_has, Has-map, Has-map_from}
use Rattle.sem_laws.proofs.Tests.{or-cases, or-left, or-right, and-left, and-right, and-both}
use Rattle.plan_constraints.proofs.Joined.{All-from_has}
use Rattle.sem_whole.specs.System.{Difference, system, AreOneClass}
use Rattle.sem_whole.specs.Kept.{IsKeptAsItIs}
use Rattle.sem_whole.specs.Whole as Whole
use Rattle.sem_whole.specs.Whole.{IsRead, IsLeftAlone, IsRightAlone}
use Rattle.sem_whole.specs.Plan.{HasRead}
use Rattle.sem_whole.proofs.CutLaw.{class_itself}
use Rattle.sem_whole.proofs.Unbroken.{class_on}
use Rattle.plan_whole.specs.declared.links.ColumnLink.{ColumnLink}
use Rattle.plan_whole.specs.Columns.{atom_of}
use Rattle.plan_whole.specs.Asked.{IsSideOf}
use Rattle.plan_whole.specs.Classes.{beside, IsNameOf, IsLeftAt, IsRightAt}

column_of : {a b : Attr} → element.Attr a ≡ element.Attr b → a ≡ b
column_of {a} {b} f = cc

-- ---- names

-- none of the columns before one is in its class
abbrev pub NoneBefore : QueryValue → Attr → ℕ → Type 0
NoneBefore q a n = (c : ℕ) → c < n → ¬ AreOneClass (system q) (beside a c) a

pub none_first : (q : QueryValue) (a : Attr) → NoneBefore q a 0
none_first q a c l = absurd (omega (arith, l))

pub none_more : (q : QueryValue) (a : Attr) (n : ℕ) → NoneBefore q a n → ¬ AreOneClass (system q) (beside a n) a → NoneBefore q a (n + 1)
none_more q a n h k c l i = by (same c l)
  where
    same : (c : ℕ) → c < n + 1 → (c < n) ⊎ (c ≡ n)
    same c l = grind (arith, l)

    by : (c < n) ⊎ (c ≡ n) → ⊥
    by (inl m) = h c m i
    by (inr e) = k (subst (λ c. AreOneClass (system q) (beside a c) a) e i)

lower : (b n : Attr) → b.stream ≡ n.stream → attr_lt b n ≡ true → b.column < n.column
lower b n e l = grind (arith, nat_tests, e, l)

pub named_by : (q : QueryValue) (a n : Attr) → n.column ≤ a.column → AreOneClass (system q) n a → NoneBefore q a n.column → IsNameOf q a n
named_by q a n l c h = record {
  inside = c;
  early = l;
  name = λ b m k.
      (let i : AreOneClass (system q) b a = class_on (system q) b n a m c in
      let e : b ≡ beside a b.column = (λ j. record { stream = i.stream j; column = b.column }) in
      h b.column (lower b n m.stream k) (subst (λ b. AreOneClass (system q) b a) e i));
}

pub named_itself : (q : QueryValue) (a : Attr) → NoneBefore q a a.column → IsNameOf q a a
named_itself q a h = named_by q a a (omega arith) (class_itself (system q) a) h

-- ---- reading

module _ (q : QueryValue) (links : List ColumnLink) (a : Attr) where
  any_has : {X : Type 0} (P : X → Type 0) (xs : List X) → Any P xs → (x : X) × Has xs x × P x
  any_has P xs w = (w.1, Has-from_contains xs w.1 (w.0, w.2, w.3), w.4)

  any_if : {X : Type 0} (P : X → Type 0) (xs : List X) (x : X) → Has xs x → P x → Any P xs
  any_if P xs x h p = let c = Contains-from_has xs x h in (c.0, x, c.1, c.2, p)

  side_read : (l : ColumnLink) → Has links l → IsSideOf (system q) a l → HasRead q (map atom_of links) a
  side_read l h (inl c) = record { member = l.left; inside = c; read = Whole.left (atom_of l) (Has-map atom_of h) refl }
  side_read l h (inr c) = record { member = l.right; inside = c; read = Whole.right (atom_of l) (Has-map atom_of h) refl }

  pub selected_read : Any (AreOneClass (system q) a) q.select → HasRead q (map atom_of links) a
  selected_read i = let w = any_has (AreOneClass (system q) a) q.select i in record { member = w.0; inside = w.2; read = Whole.selected (Contains-from_has q.select w.0 w.1) }

  pub read_told : (r s : Bool) → IsTrue r ↔ Any (AreOneClass (system q) a) q.select → IsTrue s ↔ Any (IsSideOf (system q) a) links → IsTrue (r || s) ↔ HasRead q (map atom_of links) a
  read_told r s er es = (onto, λ h. from h.member h.inside h.read)
    where
      onto : IsTrue (r || s) → HasRead q (map atom_of links) a
      onto h = elim (or-cases r s h) [
        | inl i ↦ selected_read (er.0 i)
        | inr i ↦ (let w = any_has (IsSideOf (system q) a) links (es.0 i) in side_read w.0 w.1 w.2)
      ]

      from : (b : Attr) → AreOneClass (system q) a b → IsRead q (map atom_of links) b → IsTrue (r || s)
      from b c (Whole.selected h) = or-left r s (er.1 (any_if (AreOneClass (system q) a) q.select b (Has-from_contains q.select b h) c))
      from b c (Whole.left t h e) =
          let p : (l : ColumnLink) × Has links l × (atom_of l ≡ t) = Has-map_from atom_of links t h in
          let f : p.0.left ≡ b = column_of (ap (λ t. t.left) p.2 ∙ e) in
          or-right r s (es.1 (any_if (IsSideOf (system q) a) links p.0 p.1 (inl (subst (AreOneClass (system q) a) (sym f) c))))
      from b c (Whole.right t h e) =
          let p : (l : ColumnLink) × Has links l × (atom_of l ≡ t) = Has-map_from atom_of links t h in
          let f : p.0.right ≡ b = column_of (ap (λ t. t.right) p.2 ∙ e) in
          or-right r s (es.1 (any_if (IsSideOf (system q) a) links p.0 p.1 (inr (subst (AreOneClass (system q) a) (sym f) c))))

-- ---- sides

not_true : (b : Bool) → not b ≡ true → b ≡ true → ⊥
not_true true h k = cc
not_true false h k = cc

true_not : (b : Bool) → (b ≡ true → ⊥) → not b ≡ true
true_not true h = absurd (h refl)
true_not false h = refl

pub left_at_told : (ds : List Difference) (a : Attr) (l : ColumnLink) (o x y : Bool) → IsTrue o ↔ ((l.op ≡ Op.Lt) ⊎ (l.op ≡ Op.Le)) → IsTrue x ↔ AreOneClass ds a l.left → IsTrue y ↔ AreOneClass ds a l.right
    → IsTrue ((o || not x) && not y) ↔ IsLeftAt ds a l
left_at_told ds a l o x y eo ex ey = (
  (λ h. record {
    left = λ c. elim (or-cases o (not x) (and-left (o || not x) (not y) h)) [ inl i ↦ eo.0 i | inr i ↦ absurd (not_true x i (ex.1 c)) ];
    right = λ c. not_true y (and-right (o || not x) (not y) h) (ey.1 c);
  }),
  (λ k. and-both (o || not x) (not y) (by x refl k) (true_not y (λ i. k.right (ey.0 i)))),
)
  where
    by : (b : Bool) → x ≡ b → IsLeftAt ds a l → (o || not x) ≡ true
    by true e k = or-left o (not x) (eo.1 (k.left (ex.0 e)))
    by false e k = or-right o (not x) (ap not e)

pub right_at_told : (ds : List Difference) (a : Attr) (l : ColumnLink) (o x y : Bool) → IsTrue o ↔ ((l.op ≡ Op.Lt) ⊎ (l.op ≡ Op.Le)) → IsTrue x ↔ AreOneClass ds a l.left → IsTrue y ↔ AreOneClass ds a l.right
    → IsTrue ((o || not y) && not x) ↔ IsRightAt ds a l
right_at_told ds a l o x y eo ex ey = (
  (λ h. record {
    right = λ c. elim (or-cases o (not y) (and-left (o || not y) (not x) h)) [ inl i ↦ eo.0 i | inr i ↦ absurd (not_true y i (ey.1 c)) ];
    left = λ c. not_true x (and-right (o || not y) (not x) h) (ex.1 c);
  }),
  (λ k. and-both (o || not y) (not x) (by y refl k) (true_not x (λ i. k.left (ex.0 i)))),
)
  where
    by : (b : Bool) → y ≡ b → IsRightAt ds a l → (o || not y) ≡ true
    by true e k = or-left o (not y) (eo.1 (k.right (ey.0 e)))
    by false e k = or-right o (not y) (ap not e)

module _ (q : QueryValue) (links : List ColumnLink) (a : Attr) where
  back_to : (P : ColumnLink → Type 0) → All P links → (t : Atom) → Has (map atom_of links) t → (l : ColumnLink) × (atom_of l ≡ t) × P l
  back_to P h t k = let p : (l : ColumnLink) × Has links l × (atom_of l ≡ t) = Has-map_from atom_of links t k in (p.0, p.2, All-contains P links p.0 h (Contains-from_has links p.0 p.1))

  pub left_alone_told : (r s : Bool) → IsTrue r ↔ IsKeptAsItIs q (map atom_of links) a → IsTrue s ↔ All (IsLeftAt (system q) a) links → IsTrue (not r && s) ↔ IsLeftAlone q (map atom_of links) a
  left_alone_told r s er es = (onto, from)
    where
      onto : IsTrue (not r && s) → IsLeftAlone q (map atom_of links) a
      onto h = record {
        other = λ k. not_true r (and-left (not r) s h) (er.1 k);
        left = λ t k b c e.
            (let p = back_to (IsLeftAt (system q) a) (es.0 (and-right (not r) s h)) t k in
            let f : p.0.left ≡ b = column_of (ap (λ t. t.left) p.1 ∙ e) in
            subst (λ o. (o ≡ Op.Lt) ⊎ (o ≡ Op.Le)) (ap (λ t. t.op) p.1) (p.2.left (subst (AreOneClass (system q) a) (sym f) c)));
        right = λ t k b c e.
            (let p = back_to (IsLeftAt (system q) a) (es.0 (and-right (not r) s h)) t k in
            let f : p.0.right ≡ b = column_of (ap (λ t. t.right) p.1 ∙ e) in
            p.2.right (subst (AreOneClass (system q) a) (sym f) c));
      }

      from : IsLeftAlone q (map atom_of links) a → IsTrue (not r && s)
      from k = and-both (not r) s (true_not r (λ i. k.other (er.0 i))) (es.1 (All-from_has (IsLeftAt (system q) a) links (λ l h. record {
        left = λ c. k.left (atom_of l) (Has-map atom_of h) l.left c refl;
        right = λ c. k.right (atom_of l) (Has-map atom_of h) l.right c refl;
      })))

  pub right_alone_told : (r s : Bool) → IsTrue r ↔ IsKeptAsItIs q (map atom_of links) a → IsTrue s ↔ All (IsRightAt (system q) a) links → IsTrue (not r && s) ↔ IsRightAlone q (map atom_of links) a
  right_alone_told r s er es = (onto, from)
    where
      onto : IsTrue (not r && s) → IsRightAlone q (map atom_of links) a
      onto h = record {
        other = λ k. not_true r (and-left (not r) s h) (er.1 k);
        left = λ t k b c e.
            (let p = back_to (IsRightAt (system q) a) (es.0 (and-right (not r) s h)) t k in
            let f : p.0.left ≡ b = column_of (ap (λ t. t.left) p.1 ∙ e) in
            p.2.left (subst (AreOneClass (system q) a) (sym f) c));
        right = λ t k b c e.
            (let p = back_to (IsRightAt (system q) a) (es.0 (and-right (not r) s h)) t k in
            let f : p.0.right ≡ b = column_of (ap (λ t. t.right) p.1 ∙ e) in
            subst (λ o. (o ≡ Op.Lt) ⊎ (o ≡ Op.Le)) (ap (λ t. t.op) p.1) (p.2.right (subst (AreOneClass (system q) a) (sym f) c)));
      }

      from : IsRightAlone q (map atom_of links) a → IsTrue (not r && s)
      from k = and-both (not r) s (true_not r (λ i. k.other (er.0 i))) (es.1 (All-from_has (IsRightAt (system q) a) links (λ l h. record {
        left = λ c. k.left (atom_of l) (Has-map atom_of h) l.left c refl;
        right = λ c. k.right (atom_of l) (Has-map atom_of h) l.right c refl;
      })))
