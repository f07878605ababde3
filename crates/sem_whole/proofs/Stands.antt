-- Links and tuple go over from rows to other rows of the same cells.
use Rattle.std.proofs.Common.{◌≡◌, ℕ, ℤ, pos, ◌≤ℤ◌, ◌<◌, ◌⊎◌, inl, inr, List, [], filter, length, true, Contains, refl, sym, ◌∙◌, subst, arith}
use Rattle.std.proofs.lemmas.Int.{ints}
use Rattle.sem_query.specs.declared.atom.Attr.{Attr}
use Rattle.sem_query.specs.declared.atom.Atom.{Atom}
use Rattle.sem_query.specs.declared.atom.Element.{Element}
use Rattle.sem_query.specs.declared.atom.Element.TheVariants as element
use Rattle.sem_query.specs.declared.atom.Op.{Op}
use Rattle.sem_query.specs.declared.plan.Kind.{Kind}
use Rattle.sem_query.specs.Query.{QueryValue, attrs_of, consts_of}
use Rattle.sem_query.specs.Assignment.{Assignment, value, AtomHolds}
use Rattle.sem_query.proofs.Has.{Has, Has-map_from, Has-filter_from, Has-filter_holds}
use Rattle.sem_query.proofs.Holding.{Compares}
use Rattle.sem_query.proofs.Elements.{HasElement, SidesIn, sides_in}
use Rattle.sem_laws.proofs.Queries.{IsQuery}
use Rattle.sem_whole.specs.System.{system, MeetsLocal, AreOneClass}
use Rattle.sem_whole.specs.Links.{are_across, turned_by, across, between_streams, AreLinks}
use Rattle.sem_whole.specs.Ranges as Ranges
use Rattle.sem_whole.specs.Kept as Kept
use Rattle.sem_whole.specs.Ranges.{Range, IsIn, kept, window, flipped, Fits}
use Rattle.sem_whole.specs.Kept.{IsRange, IsAsked, left, right, IsKeptRange}
use Rattle.sem_whole.specs.Whole as whole
use Rattle.sem_whole.specs.Whole.{KeptDim, StreamKeep, IsRead, IsLeftAlone, IsRightAlone, IsWholeKind, IsServed, dim, least, greatest, Serves, Form, IsWholeForm}
use Rattle.sem_whole.proofs.Suffice.{atom_says, atom_if, thins_among, once_from, turned_sides, named}
use Rattle.sem_whole.proofs.Cut.{left_over, right_over}
use Rattle.sem_whole.proofs.CutLaw.{in_range, kept_fits}

-- the columns of a class are equal in a row that meets the local conditions
pub class_equal : (q : QueryValue) (v : Assignment) (a b : Attr) → AreOneClass (system q) a b → MeetsLocal q a.stream v → v a ≡ v b
class_equal q v a b c m =
    let i = m.bounds (element.Attr a) (element.Attr b) (pos 0) refl (sym c.stream) c.below in
    let j = m.bounds (element.Attr b) (element.Attr a) (pos 0) (sym c.stream) refl c.above in
    omega (arith, ints, i, j)

-- a column of a stream of FROM
pub record IsColumnOf (q : QueryValue) (x : Element) : Type 0 where
  pub attr : Attr
  pub is : x ≡ element.Attr attr
  pub stream : attr.stream < length q.from

pub record AreColumnsOf (q : QueryValue) (t : Atom) : Type 0 where
  pub left : IsColumnOf q t.left
  pub right : IsColumnOf q t.right

module _ (q : QueryValue) (well : IsQuery q) where
  columns : (x y : Element) → are_across x y ≡ true → HasElement (attrs_of q.atoms) (consts_of q.atoms) x → HasElement (attrs_of q.atoms) (consts_of q.atoms) y
      → IsColumnOf q x × IsColumnOf q y
  columns (element.Attr a) (element.Attr b) e h k =
      (record { attr = a; is = refl; stream = named q well a h }, record { attr = b; is = refl; stream = named q well b k })
  columns (element.Attr a) (element.Const k) e h i = absurd cc
  columns (element.Const k) y e h i = absurd cc

  pub link_columns : (links : List Atom) → AreLinks q links → (t : Atom) → Has links t → AreColumnsOf q t
  link_columns links are t h =
      let r : (u : Atom) × Has (filter (λ t. are_across t.left t.right) q.atoms) u × (turned_by u.op u.left u.right ≡ t)
      = Has-map_from (λ t. turned_by t.op t.left t.right) (filter (λ t. are_across t.left t.right) q.atoms) t (once_from (between_streams q.atoms) t (thins_among (system q) [] (across q.atoms) links are t h)) in
      let s : SidesIn q.atoms r.0 = sides_in q.atoms r.0 (Has-filter_from (λ t. are_across t.left t.right) q.atoms r.0 r.1) in
      let e = columns r.0.left r.0.right (Has-filter_holds (λ t. are_across t.left t.right) q.atoms r.0 r.1) s.left s.right in
      let f = turned_sides (IsColumnOf q) r.0.op r.0.left r.0.right e.0 e.1 in
      subst (λ t. AreColumnsOf q t) r.2 record { left = f.0; right = f.1 }

-- two assignments that meet the local conditions, of which the second can stand for the first: the same kept values, and no worse extremes
pub record StandsFor (q : QueryValue) (f : Form) (v w : Assignment) : Type 0 where
  pub first : (place : ℕ) → place < length q.from → MeetsLocal q place v
  pub second : (place : ℕ) → place < length q.from → MeetsLocal q place w
  pub same : (place : ℕ) → place < length q.from → (d : KeptDim) → Has (f.keeps place).dims d → kept d.range (v d.attr) ≡ kept d.range (w d.attr)
  pub low : (place : ℕ) → place < length q.from → (e : Attr) → (f.keeps place).kind ≡ Kind.Least e → w e ≤ℤ v e
  pub high : (place : ℕ) → place < length q.from → (e : Attr) → (f.keeps place).kind ≡ Kind.Greatest e → v e ≤ℤ w e

lower_left : (o : Op) (x z y : ℤ) → (o ≡ Op.Lt) ⊎ (o ≡ Op.Le) → z ≤ℤ x → Compares o x y → Compares o z y
lower_left Op.Lt x z y e l h = omega (arith, ints, l, h)
lower_left Op.Le x z y e l h = omega (arith, ints, l, h)
lower_left Op.Gt x z y e l h = absurd (elim e [ inl k ↦ cc | inr k ↦ cc ])
lower_left Op.Ge x z y e l h = absurd (elim e [ inl k ↦ cc | inr k ↦ cc ])
lower_left Op.Eq x z y e l h = absurd (elim e [ inl k ↦ cc | inr k ↦ cc ])
lower_left Op.Ne x z y e l h = absurd (elim e [ inl k ↦ cc | inr k ↦ cc ])

higher_right : (o : Op) (x y z : ℤ) → (o ≡ Op.Lt) ⊎ (o ≡ Op.Le) → y ≤ℤ z → Compares o x y → Compares o x z
higher_right Op.Lt x y z e l h = omega (arith, ints, l, h)
higher_right Op.Le x y z e l h = omega (arith, ints, l, h)
higher_right Op.Gt x y z e l h = absurd (elim e [ inl k ↦ cc | inr k ↦ cc ])
higher_right Op.Ge x y z e l h = absurd (elim e [ inl k ↦ cc | inr k ↦ cc ])
higher_right Op.Eq x y z e l h = absurd (elim e [ inl k ↦ cc | inr k ↦ cc ])
higher_right Op.Ne x y z e l h = absurd (elim e [ inl k ↦ cc | inr k ↦ cc ])

module _ (q : QueryValue) (well : IsQuery q) (f : Form) (is : IsWholeForm q f) (v w : Assignment) (s : StandsFor q f v w) where
  -- at a place, the class of a column in either assignment
  first_class : (e a : Attr) → a.stream < length q.from → AreOneClass (system q) e a → v e ≡ v a
  first_class e a l c = class_equal q v e a c (s.first e.stream (subst (λ n. n < length q.from) (sym c.stream) l))

  second_class : (e a : Attr) → a.stream < length q.from → AreOneClass (system q) e a → w e ≡ w a
  second_class e a l c = class_equal q w e a c (s.second e.stream (subst (λ n. n < length q.from) (sym c.stream) l))

  -- the left column may have the second value
  left_step : (t : Atom) → Has f.links t → (a b : Attr) → t.left ≡ element.Attr a → t.right ≡ element.Attr b → a.stream < length q.from → b.stream < length q.from
      → IsServed q (f.keeps a.stream) a → Compares t.op (v a) (v b) → Compares t.op (w a) (v b)
  left_step t h a b ea eb la lb (dim d k c) g =
      let other = is.ranges b (whole.right t h eb) in
      let place : Serves q f.links a.stream (f.keeps a.stream) = is.serves a.stream la in
      let o : IsKeptRange q f.links d.attr d.range = place.range d k in
      let ld : d.attr.stream < length q.from = subst (λ n. n < length q.from) (sym (place.stream d k)) la in
      let asked : IsAsked q f.links d.attr (window t.op other.0) = left t h a b ea eb c other.0 other.1 in
      let x : Compares t.op (v d.attr) (v b) = subst (λ z. Compares t.op z (v b)) (sym (first_class d.attr a la c)) g in
      let y : Compares t.op (w d.attr) (v b)
      = left_over t.op d.range o.own other.0 (v d.attr) (w d.attr) (v b) (kept_fits q f.links is.links d.attr d.range o (window t.op other.0) asked)
      (in_range q d.attr o.own v o.is_own (s.first d.attr.stream ld)) (in_range q d.attr o.own w o.is_own (s.second d.attr.stream ld))
      (in_range q b other.0 v other.1 (s.first b.stream lb)) (s.same a.stream la d k) x in
      subst (λ z. Compares t.op z (v b)) (second_class d.attr a la c) y
  left_step t h a b ea eb la lb (least e k c) g =
      let kind : IsWholeKind q f.links a.stream (Kind.Least e) = subst (IsWholeKind q f.links a.stream) k (is.serves a.stream la).kind in
      let l : w a ≤ℤ v a = subst (λ z. z ≤ℤ v a) (second_class e a la c) (subst (λ z. w e ≤ℤ z) (first_class e a la c) (s.low a.stream la e k)) in
      lower_left t.op (v a) (w a) (v b) (kind.2.left t h a c ea) l g
  left_step t h a b ea eb la lb (greatest e k c) g =
      let kind : IsWholeKind q f.links a.stream (Kind.Greatest e) = subst (IsWholeKind q f.links a.stream) k (is.serves a.stream la).kind in
      absurd (kind.2.left t h a c ea)

  -- and then the right column
  right_step : (t : Atom) → Has f.links t → (a b : Attr) → t.left ≡ element.Attr a → t.right ≡ element.Attr b → a.stream < length q.from → b.stream < length q.from
      → IsServed q (f.keeps b.stream) b → Compares t.op (w a) (v b) → Compares t.op (w a) (w b)
  right_step t h a b ea eb la lb (dim d k c) g =
      let other = is.ranges a (whole.left t h ea) in
      let place : Serves q f.links b.stream (f.keeps b.stream) = is.serves b.stream lb in
      let o : IsKeptRange q f.links d.attr d.range = place.range d k in
      let ld : d.attr.stream < length q.from = subst (λ n. n < length q.from) (sym (place.stream d k)) lb in
      let asked : IsAsked q f.links d.attr (window (flipped t.op) other.0) = right t h b a ea eb c other.0 other.1 in
      let x : Compares t.op (w a) (v d.attr) = subst (λ z. Compares t.op (w a) z) (sym (first_class d.attr b lb c)) g in
      let y : Compares t.op (w a) (w d.attr)
      = right_over t.op d.range o.own other.0 (w a) (v d.attr) (w d.attr) (kept_fits q f.links is.links d.attr d.range o (window (flipped t.op) other.0) asked)
      (in_range q d.attr o.own v o.is_own (s.first d.attr.stream ld)) (in_range q d.attr o.own w o.is_own (s.second d.attr.stream ld))
      (in_range q a other.0 w other.1 (s.second a.stream la)) (s.same b.stream lb d k) x in
      subst (λ z. Compares t.op (w a) z) (second_class d.attr b lb c) y
  right_step t h a b ea eb la lb (least e k c) g =
      let kind : IsWholeKind q f.links b.stream (Kind.Least e) = subst (IsWholeKind q f.links b.stream) k (is.serves b.stream lb).kind in
      absurd (kind.2.right t h b c eb)
  right_step t h a b ea eb la lb (greatest e k c) g =
      let kind : IsWholeKind q f.links b.stream (Kind.Greatest e) = subst (IsWholeKind q f.links b.stream) k (is.serves b.stream lb).kind in
      let l : v b ≤ℤ w b = subst (λ z. v b ≤ℤ z) (second_class e b lb c) (subst (λ z. z ≤ℤ w e) (first_class e b lb c) (s.high b.stream lb e k)) in
      higher_right t.op (w a) (v b) (w b) (kind.2.right t h b c eb) l g

  -- each link goes over
  pub link_over : (t : Atom) → Has f.links t → AtomHolds v t → AtomHolds w t
  link_over t h g =
      let c : AreColumnsOf q t = link_columns q well f.links is.links t h in
      let a : Attr = c.left.attr in
      let b : Attr = c.right.attr in
      let x : Compares t.op (v a) (v b) = subst (λ y. Compares t.op (v a) (value y v)) c.right.is (subst (λ x. Compares t.op (value x v) (value t.right v)) c.left.is (atom_says v t g)) in
      let y : Compares t.op (w a) (v b) = left_step t h a b c.left.is c.right.is c.left.stream c.right.stream ((is.serves a.stream c.left.stream).all a refl (whole.left t h c.left.is)) x in
      let z : Compares t.op (w a) (w b) = right_step t h a b c.left.is c.right.is c.left.stream c.right.stream ((is.serves b.stream c.right.stream).all b refl (whole.right t h c.right.is)) y in
      atom_if w t (subst (λ x. Compares t.op (value x w) (value t.right w)) (sym c.left.is) (subst (λ y. Compares t.op (w a) (value y w)) (sym c.right.is) z))

  -- so does each selected column
  pub selected_over : (a : Attr) → Contains q.select a → v a ≡ w a
  selected_over a h = by (is.serves a.stream l) ((is.serves a.stream l).all a refl (whole.selected h))
    where
      l : a.stream < length q.from
      l = well.select a h

      by : Serves q f.links a.stream (f.keeps a.stream) → IsServed q (f.keeps a.stream) a → v a ≡ w a
      by place (dim d k c) =
          let o : IsKeptRange q f.links d.attr d.range = place.range d k in
          let ld : d.attr.stream < length q.from = subst (λ n. n < length q.from) (sym (place.stream d k)) l in
          first_class_back d c ∙ whole_same d o c ld k ∙ second_class d.attr a l c
        where
          first_class_back : (d : KeptDim) → AreOneClass (system q) d.attr a → v a ≡ v d.attr
          first_class_back d c = sym (first_class d.attr a l c)

          whole_same : (d : KeptDim) → IsKeptRange q f.links d.attr d.range → AreOneClass (system q) d.attr a → d.attr.stream < length q.from → Has (f.keeps a.stream).dims d → v d.attr ≡ w d.attr
          whole_same d o c ld k =
              sym (left_over Op.Eq d.range o.own Ranges.whole (v d.attr) (w d.attr) (v d.attr)
              (kept_fits q f.links is.links d.attr d.range o Ranges.whole (Kept.as_it_is (Kept.selected a c h)))
              (in_range q d.attr o.own v o.is_own (s.first d.attr.stream ld)) (in_range q d.attr o.own w o.is_own (s.second d.attr.stream ld)) (tt, tt)
              (s.same a.stream l d k) refl)
      by place (least e k c) =
          let kind : IsWholeKind q f.links a.stream (Kind.Least e) = subst (IsWholeKind q f.links a.stream) k place.kind in
          absurd (kind.2.other (Kept.selected a c h))
      by place (greatest e k c) =
          let kind : IsWholeKind q f.links a.stream (Kind.Greatest e) = subst (IsWholeKind q f.links a.stream) k place.kind in
          absurd (kind.2.other (Kept.selected a c h))
