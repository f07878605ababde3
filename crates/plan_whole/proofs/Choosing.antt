-- The best of the columns of a stream, one after another, is its extreme.
use Rattle.std.proofs.Common.{◌≡◌, ℕ, ◌+◌, ◌<◌, ◌≤◌, ◌⊎◌, inl, inr, ◌↔◌, IsTrue, List, [], filter, length, Bool, true, false, cond, Option, Some, None, nat_lt, refl, sym, ◌∙◌, subst, arith}
use Rattle.std.proofs.lemmas.Bool.Decides.{nat_tests}
use Rattle.std.proofs.lemmas.List.Elements.{All-contains}
use Rattle.sem_query.specs.declared.atom.Attr.{Attr}
use Rattle.sem_query.specs.declared.atom.Atom.{Atom}
use Rattle.sem_query.specs.declared.atom.Element.{Element}
use Rattle.sem_query.specs.declared.atom.Element.TheVariants as element
use Rattle.sem_query.specs.declared.plan.Kind.{Kind}
use Rattle.sem_query.specs.Query.{QueryValue, attr_eq, attr_lt, attrs_of, consts_of, IsColumn}
use Rattle.sem_query.proofs.Has.{Has, Contains-from_has, Has-map_from, Has-filter_from}
use Rattle.sem_query.proofs.Elements.{HasElement, SidesIn, sides_in, attr_separates}
use Rattle.sem_laws.proofs.Tests.{not_both, false_if, attr_eq-is, attr_eq-itself}
use Rattle.sem_whole.specs.System.{system, AreOneClass}
use Rattle.sem_whole.specs.Links.{are_across, turned_by, across, between_streams, AreLinks}
use Rattle.sem_whole.specs.Kept.{IsKeptRange}
use Rattle.sem_whole.specs.Whole as Whole
use Rattle.sem_whole.specs.Whole.{IsRead, IsLeftAlone, IsRightAlone, IsOneWay}
use Rattle.sem_whole.specs.Plan.{NamesClass, HasRead, room, is_more, is_larger, MayBeExtreme, IsExtreme, IsPlannedKind}
use Rattle.sem_whole.specs.Signed.{IsWellFormed}
use Rattle.sem_whole.proofs.CutLaw.{class_itself}
use Rattle.sem_whole.proofs.Suffice.{thins_among, once_from, turned_sides}
use Rattle.sem_whole.proofs.Unbroken.{class_turned, kept_one}
use Rattle.plan_whole.specs.declared.closed.Ends.{Ends}
use Rattle.plan_whole.specs.declared.extreme.KeptClass.{KeptClass}
use Rattle.plan_whole.specs.Closed.{ends_of}
use Rattle.plan_whole.specs.Classes.{IsNameOf}
use Rattle.plan_whole.specs.Extremes.{column_at, IsCandidate, better, IsBestClass, IsBest}

-- ---- one number more than another

more_itself : (a : Option ℕ) → is_more a a ≡ true → ⊥
more_itself None h = absurd cc
more_itself (Some n) h = grind (arith, nat_tests, h)

more_over : (m o e : Option ℕ) → (is_more m o ≡ true → ⊥) → is_more e o ≡ true → is_more e m ≡ true
more_over m None None n h = absurd cc
more_over m None (Some i) n h = absurd cc
more_over None (Some k) e n h = absurd (n refl)
more_over (Some j) (Some k) None n h = refl
more_over (Some j) (Some k) (Some i) n h = by (nat_lt k j) refl
  where
    by : (b : Bool) → nat_lt k j ≡ b → nat_lt j i ≡ true
    by true e = absurd (n e)
    by false e = grind (arith, nat_tests, e, h)

not_over : (m o e : Option ℕ) → (is_more m o ≡ true → ⊥) → is_more e o ≡ true → is_more m e ≡ true → ⊥
not_over m o e n h k = n (through m e o k h)
  where
    through : (a b c : Option ℕ) → is_more a b ≡ true → is_more b c ≡ true → is_more a c ≡ true
    through None None c h k = absurd cc
    through None (Some n) None h k = absurd cc
    through None (Some n) (Some p) h k = refl
    through (Some m) None c h k = absurd cc
    through (Some m) (Some n) None h k = absurd cc
    through (Some m) (Some n) (Some p) h k = grind (arith, nat_tests, h, k)

-- ---- columns that are read are among the first eight

column_of : {a b : Attr} → element.Attr a ≡ element.Attr b → a ≡ b
column_of {a} {b} f = cc

module _ (q : QueryValue) (links : List Atom) (are : AreLinks q links) where
  abbrev pub IsNamed : Element → Type 0
  IsNamed e = (a : Attr) → e ≡ element.Attr a → Has (attrs_of q.atoms) a

  named_side : (e : Element) → HasElement (attrs_of q.atoms) (consts_of q.atoms) e → IsNamed e
  named_side (element.Attr b) h a f = subst (Has (attrs_of q.atoms)) (column_of f) h
  named_side (element.Const k) h a f = absurd cc

  pub link_named : (t : Atom) → Has links t → IsNamed t.left × IsNamed t.right
  link_named t h =
      let r : (u : Atom) × Has (filter (λ t. are_across t.left t.right) q.atoms) u × (turned_by u.op u.left u.right ≡ t)
      = Has-map_from (λ t. turned_by t.op t.left t.right) (filter (λ t. are_across t.left t.right) q.atoms) t (once_from (between_streams q.atoms) t (thins_among (system q) [] (across q.atoms) links are t h)) in
      let s : SidesIn q.atoms r.0 = sides_in q.atoms r.0 (Has-filter_from (λ t. are_across t.left t.right) q.atoms r.0 r.1) in
      subst (λ t. IsNamed t.left × IsNamed t.right) r.2 (turned_sides IsNamed r.0.op r.0.left r.0.right (named_side r.0.left s.left) (named_side r.0.right s.right))

  module _ (w : IsWellFormed q) where
    named_column : (a : Attr) → Has (attrs_of q.atoms) a → a.column < 8
    named_column a h = (All-contains (IsColumn (length q.from)) (attrs_of q.atoms) a w.attrs (Contains-from_has _ a h)).column

    pub read_column : (a : Attr) → IsRead q links a → a.column < 8
    read_column a (Whole.selected h) = (All-contains (IsColumn (length q.from)) q.select a w.select h).column
    read_column a (Whole.left t h e) = named_column a ((link_named t h).0 a e)
    read_column a (Whole.right t h e) = named_column a ((link_named t h).1 a e)

    lower : (m b : Attr) → (attr_lt m b ≡ true → ⊥) → b.stream ≡ m.stream → b.column ≤ m.column
    lower m b n e = by (attr_lt m b) refl
      where
        by : (c : Bool) → attr_lt m b ≡ c → b.column ≤ m.column
        by true h = absurd (n h)
        by false h = grind (arith, nat_tests, h, e)

    pub may_column : (place : ℕ) (b : Attr) → MayBeExtreme q links place b → b.column < 8
    may_column place b m =
        let l : m.read.member.column < 8 = read_column m.read.member m.read.read in
        let k : b.column ≤ m.read.member.column = lower m.read.member b (m.name m.read.member (class_turned (system q) b m.read.member m.read.inside)) m.read.inside.stream in
        omega (arith, l, k)

-- ---- whether a class may be the extreme

named_itself : (q : QueryValue) (a n : Attr) → IsNameOf q a n → NamesClass q a → n ≡ a
named_itself q a n i m = attr_separates n a (false_if (attr_lt n a) (m n i.inside)) (false_if (attr_lt a n) (i.name a (class_turned (system q) n a i.inside)))

pub not_itself : (a n : Attr) → attr_eq n a ≡ false → n ≡ a → ⊥
not_itself a n e f = let g : attr_eq a a ≡ true = attr_eq-itself a in not_both (attr_eq n a) (subst (λ z. attr_eq z a ≡ true) (sym f) g) e

module _ (q : QueryValue) (links : List Atom) (a : Attr) where
  pub other_name : (n : Attr) → IsNameOf q a n → attr_eq n a ≡ false → IsCandidate q links a None
  other_name n i e m = not_itself a n e (named_itself q a n i m.name)

  pub not_read : (b : Bool) → IsTrue b ↔ HasRead q links a → b ≡ false → IsCandidate q links a None
  not_read b t e m = not_both b (t.1 m.read) e

  pub no_way : (b : Bool) → IsTrue b ↔ IsOneWay q links a → b ≡ false → IsCandidate q links a None
  no_way b t e m = not_both b (t.1 m.way) e

  pub not_several : (r : Ends) → IsKeptRange q links a (ends_of r) → is_more (room r.lo r.hi) (Some 1) ≡ false → IsCandidate q links a None
  not_several r k e m =
      let f : m.range ≡ ends_of r = kept_one q links a a (class_itself (system q) a) m.range (ends_of r) m.is_kept k in
      not_both (is_more (room r.lo r.hi) (Some 1)) (subst (λ z. is_more (room z.lo z.hi) (Some 1) ≡ true) f m.several) e

  pub may_be : (n : Attr) (r : Ends) → IsNameOf q a n → attr_eq n a ≡ true → HasRead q links a → IsOneWay q links a → IsKeptRange q links a (ends_of r) → is_more (room r.lo r.hi) (Some 1) ≡ true → IsCandidate q links a (Some record { attr = a; ends = r })
  may_be n r i e h w k t = (
    record { here = refl; name = subst (NamesClass q) (attr_eq-is n a e) i.name; read = h; way = w; range = ends_of r; is_kept = k; several = t },
    refl,
    refl,
  )

-- ---- the best so far

module _ (q : QueryValue) (links : List Atom) (place : ℕ) where
  same_range : (a : Attr) (m n : MayBeExtreme q links place a) → m.range ≡ n.range
  same_range a m n = kept_one q links a a (class_itself (system q) a) m.range n.range m.is_kept n.is_kept

  pub best_first : IsBest q links place 0 None
  best_first c l = absurd (omega (arith, l))

  earlier : (c n : ℕ) → c < n + 1 → (c < n) ⊎ (c ≡ n)
  earlier c n l = grind (arith, l)

  no_more : (n : ℕ) → (MayBeExtreme q links place (column_at place n) → ⊥) → (o : Option KeptClass) → IsBest q links place n o → IsBest q links place (n + 1) o
  no_more n no_one None h = λ c l m. elim (earlier c n l) [ inl k ↦ h c k m | inr e ↦ no_one (subst (λ c. MayBeExtreme q links place (column_at place c)) e m) ]
  no_more n no_one (Some k) h = record {
    may = h.may;
    range = h.range;
    early = (let e = h.early in omega (arith, e));
    largest = λ c l m. elim (earlier c n l) [ inl i ↦ h.largest c i m | inr e ↦ absurd (no_one (subst (λ c. MayBeExtreme q links place (column_at place c)) e m)) ];
    first = h.first;
  }

  alone_is : (n : ℕ) (r : Ends) (m : MayBeExtreme q links place (column_at place n)) → m.range ≡ ends_of r → IsBest q links place n None → IsBestClass q links place (n + 1) record { attr = column_at place n; ends = r }
  alone_is n r m e h = record {
    may = m;
    range = e;
    early = omega arith;
    largest = λ c l o. elim (earlier c n l) [ inl k ↦ absurd (h c k o) | inr f ↦ itself c f o ];
    first = λ c l o. absurd (h c l o);
  }
    where
      itself : (c : ℕ) → c ≡ n → (o : MayBeExtreme q links place (column_at place c)) → is_larger o.range (ends_of r) ≡ true → ⊥
      itself c f o i =
          let p : MayBeExtreme q links place (column_at place n) = subst (λ c. MayBeExtreme q links place (column_at place c)) f o in
          let g : o.range ≡ m.range = kept_one q links (column_at place c) (column_at place n) (subst (λ c. AreOneClass (system q) (column_at place c) (column_at place n)) (sym f) (class_itself (system q) (column_at place n))) o.range m.range o.is_kept m.is_kept in
          more_itself (room r.lo r.hi) (subst (λ s. is_larger s (ends_of r) ≡ true) (g ∙ e) i)

  larger_is : (n : ℕ) (r : Ends) (k : KeptClass) (m : MayBeExtreme q links place (column_at place n)) → m.range ≡ ends_of r → is_larger (ends_of r) (ends_of k.ends) ≡ true → IsBestClass q links place n k
      → IsBestClass q links place (n + 1) record { attr = column_at place n; ends = r }
  larger_is n r k m e t h = record {
    may = m;
    range = e;
    early = omega arith;
    largest = λ c l o. elim (earlier c n l) [
      | inl i ↦ not_over (room o.range.lo o.range.hi) (room k.ends.lo k.ends.hi) (room r.lo r.hi) (h.largest c i o) t
      | inr f ↦ (λ i. (let g : o.range ≡ m.range = kept_one q links (column_at place c) (column_at place n) (subst (λ c. AreOneClass (system q) (column_at place c) (column_at place n)) (sym f) (class_itself (system q) (column_at place n))) o.range m.range o.is_kept m.is_kept in
          more_itself (room r.lo r.hi) (subst (λ s. is_larger s (ends_of r) ≡ true) (g ∙ e) i)))
    ];
    first = λ c l o. more_over (room o.range.lo o.range.hi) (room k.ends.lo k.ends.hi) (room r.lo r.hi) (h.largest c l o) t;
  }

  kept_is : (n : ℕ) (r : Ends) (k : KeptClass) (m : MayBeExtreme q links place (column_at place n)) → m.range ≡ ends_of r → is_larger (ends_of r) (ends_of k.ends) ≡ false → IsBestClass q links place n k
      → IsBestClass q links place (n + 1) k
  kept_is n r k m e t h = record {
    may = h.may;
    range = h.range;
    early = (let f = h.early in omega (arith, f));
    largest = λ c l o. elim (earlier c n l) [
      | inl i ↦ h.largest c i o
      | inr f ↦ (λ i. (let g : o.range ≡ m.range = kept_one q links (column_at place c) (column_at place n) (subst (λ c. AreOneClass (system q) (column_at place c) (column_at place n)) (sym f) (class_itself (system q) (column_at place n))) o.range m.range o.is_kept m.is_kept in
          not_both (is_larger (ends_of r) (ends_of k.ends)) (subst (λ s. is_larger s (ends_of k.ends) ≡ true) (g ∙ e) i) t))
    ];
    first = h.first;
  }

  with_column : (n : ℕ) (k : KeptClass) → k.attr ≡ column_at place n → k ≡ record { attr = column_at place n; ends = k.ends }
  with_column n k e = λ i. record { attr = e i; ends = k.ends }

  pub best_more : (n : ℕ) (old e new : Option KeptClass) → IsBest q links place n old → IsCandidate q links (column_at place n) e → new ≡ better old e → IsBest q links place (n + 1) new
  best_more n old None new h c g = subst (IsBest q links place (n + 1)) (sym g) (no_more n c old h)
  best_more n None (Some k) new h c g = subst (IsBest q links place (n + 1)) (sym g) (subst (IsBestClass q links place (n + 1)) (sym (with_column n k c.2)) (alone_is n k.ends c.0 c.1 h))
  best_more n (Some o) (Some k) new h c g = subst (IsBest q links place (n + 1)) (sym g) (by (is_larger (ends_of k.ends) (ends_of o.ends)) refl)
    where
      by : (b : Bool) → is_larger (ends_of k.ends) (ends_of o.ends) ≡ b → IsBestClass q links place (n + 1) (cond b k o)
      by true t = subst (IsBestClass q links place (n + 1)) (sym (with_column n k c.2)) (larger_is n k.ends o c.0 c.1 t h)
      by false t = kept_is n k.ends o c.0 c.1 t h

  -- ---- the extreme

  at_column : (b : Attr) → b.stream ≡ place → column_at place b.column ≡ b
  at_column b e = (let f : place ≡ b.stream = sym e in λ i. record { stream = f i; column = b.column })

  module _ (are : AreLinks q links) (w : IsWellFormed q) where
    moved : (b : Attr) (m : MayBeExtreme q links place b) → (o : MayBeExtreme q links place (column_at place b.column)) × (o.range ≡ m.range)
    moved b m =
        let e : b ≡ column_at place b.column = sym (at_column b m.here) in (
          subst (MayBeExtreme q links place) e m,
          kept_one q links (column_at place b.column) b (subst (λ z. AreOneClass (system q) z b) e (class_itself (system q) b)) (subst (MayBeExtreme q links place) e m).range m.range (subst (MayBeExtreme q links place) e m).is_kept m.is_kept,
        )

    pub best_none : IsBest q links place 8 None → (b : Attr) → MayBeExtreme q links place b → ⊥
    best_none h b m = h b.column (may_column q links are w place b m) (moved b m).0

    before : (b a : Attr) → attr_lt b a ≡ true → b.stream ≡ a.stream → b.column < a.column
    before b a l e = grind (arith, nat_tests, l, e)

    pub best_extreme : (k : KeptClass) → IsBestClass q links place 8 k → IsExtreme q links place k.attr
    best_extreme k h = record {
      may = h.may;
      largest = λ b other i.
          (let o = moved b other in
          h.largest b.column (may_column q links are w place b other) o.0 (subst (λ s. is_larger s (ends_of k.ends) ≡ true) (sym o.1) (subst (λ s. is_larger other.range s ≡ true) h.range i)));
      first = λ b other l.
          (let o = moved b other in
          subst (λ s. is_larger s other.range ≡ true) (sym h.range) (subst (λ s. is_larger (ends_of k.ends) s ≡ true) o.1 (h.first b.column (before b k.attr l (other.here ∙ sym h.may.here)) o.0)));
    }

    pub present_is : q.distinct ≡ true → IsBest q links place 8 None → IsPlannedKind q links place Kind.Present
    present_is t h = (t, best_none h)

    pub least_is : (k : KeptClass) → q.distinct ≡ true → IsBestClass q links place 8 k → IsLeftAlone q links k.attr → IsPlannedKind q links place (Kind.Least k.attr)
    least_is k t h l = (t, best_extreme k h, l)

    pub greatest_is : (k : KeptClass) → q.distinct ≡ true → IsBestClass q links place 8 k → (IsLeftAlone q links k.attr → ⊥) → IsPlannedKind q links place (Kind.Greatest k.attr)
    greatest_is k t h n = (t, best_extreme k h, elim h.may.way [ inl l ↦ absurd (n l) | inr r ↦ r ])
