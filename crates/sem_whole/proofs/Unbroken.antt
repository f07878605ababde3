-- A query with a form of finite ranges breaks no condition: the kept range is one for a class.
use Rattle.std.proofs.Common.{◌≡◌, ℤ, ◌<◌, ◌⊎◌, inl, inr, List, [], ◌∷◌, length, Bool, true, false, cond, int_lt, Option, Some, None, refl, sym, ap, ◌∙◌, subst, arith}
use Rattle.std.proofs.lemmas.Int.{ints}
use Rattle.sem_query.specs.declared.atom.Attr.{Attr}
use Rattle.sem_query.specs.declared.atom.Atom.{Atom}
use Rattle.sem_query.specs.declared.atom.Element.TheVariants as element
use Rattle.sem_query.specs.declared.atom.Op.{Op}
use Rattle.sem_query.specs.declared.condition.Condition.{Condition}
use Rattle.sem_query.specs.declared.condition.Condition.TheVariants.{C1, C2, C3}
use Rattle.sem_query.specs.declared.plan.Kind.{Kind}
use Rattle.sem_query.specs.Query.{QueryValue}
use Rattle.sem_query.specs.Members as members
use Rattle.sem_query.proofs.Has.{Has, first, Has-nil}
use Rattle.sem_laws.proofs.Queries.{IsQuery}
use Rattle.sem_whole.specs.System.{Difference, system, AreOneClass}
use Rattle.sem_whole.specs.Ranges.{Range, whole, lesser, greater, widest, later, sooner, cut}
use Rattle.sem_whole.specs.Kept as Kept
use Rattle.sem_whole.specs.Kept.{IsRange, IsKeptAsItIs, IsAsked, IsKeptRange}
use Rattle.sem_whole.specs.Whole as Whole
use Rattle.sem_whole.specs.Whole.{KeptDim, StreamKeep, IsRead, IsLeftAlone, IsRightAlone, IsOneWay, IsWholeKind, IsServed, dim, least, greatest, Serves, Form, IsWholeForm, IsFinite, IsOpen, IsOpenSide, IsUnlike, HasEarlier, WholeBreaks, HasFiniteRanges}
use Rattle.sem_whole.specs.Laws.{FiniteFormsBreakNothing}
use Rattle.sem_whole.proofs.Formed.{query_formed}
use Rattle.sem_whole.proofs.Keeping.{LowTo, HighTo, widest_low, widest_high}
use Rattle.sem_whole.proofs.Boxed.{range_over}
use Rattle.sem_whole.proofs.Cases.{range_one}
use Rattle.sem_whole.proofs.Stands.{AreColumnsOf, link_columns}

low_same : (a b : Option ℤ) → LowTo a b → LowTo b a → a ≡ b
low_same None None h k = refl
low_same None (Some b) h k = absurd k
low_same (Some a) None h k = absurd h
low_same (Some a) (Some b) h k = ap (λ z. Some z) (omega (arith, ints, h, k))

high_same : (a b : Option ℤ) → HighTo a b → HighTo b a → a ≡ b
high_same None None h k = refl
high_same None (Some b) h k = absurd k
high_same (Some a) None h k = absurd h
high_same (Some a) (Some b) h k = ap (λ z. Some z) (omega (arith, ints, h, k))

lesser_either : (a b : Option ℤ) → (lesser a b ≡ a) ⊎ (lesser a b ≡ b)
lesser_either None b = inl refl
lesser_either (Some a) None = inr refl
lesser_either (Some a) (Some b) = by (int_lt a b)
  where
    by : (c : Bool) → (cond c (Some a) (Some b) ≡ Some a) ⊎ (cond c (Some a) (Some b) ≡ Some b)
    by true = inl refl
    by false = inr refl

greater_either : (a b : Option ℤ) → (greater a b ≡ a) ⊎ (greater a b ≡ b)
greater_either None b = inl refl
greater_either (Some a) None = inr refl
greater_either (Some a) (Some b) = by (int_lt a b)
  where
    by : (c : Bool) → (cond c (Some b) (Some a) ≡ Some a) ⊎ (cond c (Some b) (Some a) ≡ Some b)
    by true = inr refl
    by false = inl refl

-- each end of the widest is that of a member
low_member : (ws : List Range) (w : Range) → Has ws w → (v : Range) × Has ws v × ((widest ws).lo ≡ v.lo)
low_member [] w h = Has-nil h
low_member (r ∷ []) w h = (r, first, refl)
low_member (r ∷ s ∷ rs) w h = elim (lesser_either r.lo (widest (s ∷ rs)).lo) [
  | inl e ↦ (r, first, e)
  | inr e ↦ (let m : (v : Range) × Has (s ∷ rs) v × ((widest (s ∷ rs)).lo ≡ v.lo) = low_member (s ∷ rs) s first in (m.0, members.later m.1, e ∙ m.2))
]

high_member : (ws : List Range) (w : Range) → Has ws w → (v : Range) × Has ws v × ((widest ws).hi ≡ v.hi)
high_member [] w h = Has-nil h
high_member (r ∷ []) w h = (r, first, refl)
high_member (r ∷ s ∷ rs) w h = elim (greater_either r.hi (widest (s ∷ rs)).hi) [
  | inl e ↦ (r, first, e)
  | inr e ↦ (let m : (v : Range) × Has (s ∷ rs) v × ((widest (s ∷ rs)).hi ≡ v.hi) = high_member (s ∷ rs) s first in (m.0, members.later m.1, e ∙ m.2))
]

-- the widest of the same ranges, in whatever order
low_under : (ws vs : List Range) (w : Range) → Has ws w → ((x : Range) → Has ws x → Has vs x) → LowTo (widest vs).lo (widest ws).lo
low_under ws vs w h f = let m = low_member ws w h in subst (LowTo (widest vs).lo) (sym m.2) (widest_low vs m.0 (f m.0 m.1))

high_under : (ws vs : List Range) (w : Range) → Has ws w → ((x : Range) → Has ws x → Has vs x) → HighTo (widest vs).hi (widest ws).hi
high_under ws vs w h f = let m = high_member ws w h in subst (HighTo (widest vs).hi) (sym m.2) (widest_high vs m.0 (f m.0 m.1))

widest_same : (ws vs : List Range) (w : Range) → Has ws w → ((x : Range) → Has ws x → Has vs x) → ((x : Range) → Has vs x → Has ws x) → widest ws ≡ widest vs
widest_same ws vs w h f g =
    let x : (widest ws).lo ≡ (widest vs).lo = low_same _ _ (low_under vs ws w (f w h) g) (low_under ws vs w h f) in
    let y : (widest ws).hi ≡ (widest vs).hi = high_same _ _ (high_under vs ws w (f w h) g) (high_under ws vs w h f) in
    λ i. record { lo = x i; hi = y i }

pub class_turned : (ds : List Difference) (a b : Attr) → AreOneClass ds a b → AreOneClass ds b a
class_turned ds a b c = record { stream = sym c.stream; below = c.above; above = c.below }

pub class_on : (ds : List Difference) (a b c : Attr) → AreOneClass ds a b → AreOneClass ds b c → AreOneClass ds a c
class_on ds a b c x y = record {
  stream = x.stream ∙ y.stream;
  below = λ v s. (let i = x.below v s in let j = y.below v s in omega (arith, ints, i, j));
  above = λ v s. (let i = x.above v s in let j = y.above v s in omega (arith, ints, i, j));
}

module _ (q : QueryValue) (links : List Atom) (a b : Attr) (c : AreOneClass (system q) a b) where
  back : (d : Attr) → AreOneClass (system q) a d → AreOneClass (system q) b d
  back d e = class_on (system q) b a d (class_turned (system q) a b c) e

  as_it_is_over : IsKeptAsItIs q links a → IsKeptAsItIs q links b
  as_it_is_over (Kept.selected d e h) = Kept.selected d (back d e) h
  as_it_is_over (Kept.linked t h o d s e) = Kept.linked t h o d s (back d e)
  as_it_is_over (Kept.equal d h n i j) =
      Kept.equal d h (λ e. n (e ∙ sym c.stream))
      (λ v s. (let x = i v s in let y = c.above v s in omega (arith, ints, x, y)))
      (λ v s. (let x = j v s in let y = c.below v s in omega (arith, ints, x, y)))

  pub asked_over : (w : Range) → IsAsked q links a w → IsAsked q links b w
  asked_over w (Kept.as_it_is k) = Kept.as_it_is (as_it_is_over k)
  asked_over w (Kept.left t h d e x y cl r i) = Kept.left t h d e x y (back d cl) r i
  asked_over w (Kept.right t h d e x y cl r i) = Kept.right t h d e x y (back d cl) r i

  pub left_over_class : IsLeftAlone q links b → IsLeftAlone q links a
  left_over_class k = record {
    other = λ m. k.other (as_it_is_over m);
    left = λ t h d e. k.left t h d (back d e);
    right = λ t h d e. k.right t h d (back d e);
  }

  pub right_over_class : IsRightAlone q links b → IsRightAlone q links a
  right_over_class k = record {
    other = λ m. k.other (as_it_is_over m);
    left = λ t h d e. k.left t h d (back d e);
    right = λ t h d e. k.right t h d (back d e);
  }

-- the kept range of a class
pub kept_one : (q : QueryValue) (links : List Atom) (a b : Attr) → AreOneClass (system q) a b → (r s : Range) → IsKeptRange q links a r → IsKeptRange q links b s → r ≡ s
kept_one q links a b c r s k m =
    let own : k.own ≡ m.own = range_one (system q) b k.own m.own (range_over (system q) a b k.own c k.is_own) m.is_own in
    let w : widest k.asked ≡ widest m.asked
    = widest_same k.asked m.asked k.some.0 k.some.1
    (λ x h. (m.all x).1 (asked_over q links a b c x ((k.all x).0 h)))
    (λ x h. (k.all x).1 (asked_over q links b a (class_turned (system q) a b c) x ((m.all x).0 h))) in
    k.is ∙ ap (λ o. cut o (widest k.asked)) own ∙ ap (cut m.own) w ∙ sym m.is

low_none : (a : Option ℤ) → LowTo a None → a ≡ None
low_none None h = refl
low_none (Some k) h = absurd h

high_none : (a : Option ℤ) → HighTo a None → a ≡ None
high_none None h = refl
high_none (Some k) h = absurd h

later_none : (a : Option ℤ) → later a None ≡ a
later_none None = refl
later_none (Some k) = refl

sooner_none : (a : Option ℤ) → sooner a None ≡ a
sooner_none None = refl
sooner_none (Some k) = refl

-- kept as it is, the kept range is the own one
pub kept_own_range : (q : QueryValue) (links : List Atom) (a : Attr) (r : Range) (k : IsKeptRange q links a r) → IsKeptAsItIs q links a → r ≡ k.own
kept_own_range q links a r k i =
    let h : Has k.asked whole = (k.all whole).1 (Kept.as_it_is i) in
    let x : (widest k.asked).lo ≡ None = low_none _ (widest_low k.asked whole h) in
    let y : (widest k.asked).hi ≡ None = high_none _ (widest_high k.asked whole h) in
    let e : later k.own.lo (widest k.asked).lo ≡ k.own.lo = ap (later k.own.lo) x ∙ later_none k.own.lo in
    let f : sooner k.own.hi (widest k.asked).hi ≡ k.own.hi = ap (sooner k.own.hi) y ∙ sooner_none k.own.hi in
    k.is ∙ (λ i. record { lo = e i; hi = f i })

module _ (q : QueryValue) (well : IsQuery q) (f : Form) (is : IsWholeForm q f) (finite : HasFiniteRanges q f) where
  stream_in : (a : Attr) (t : Atom) → Has f.links t → (t.left ≡ element.Attr a) ⊎ (t.right ≡ element.Attr a) → a.stream < length q.from
  stream_in a t h s =
      let c : AreColumnsOf q t = link_columns q well f.links is.links t h in
      elim s [
        | inl e ↦ (let g : element.Attr c.left.attr ≡ element.Attr a = sym c.left.is ∙ e in let k : c.left.attr ≡ a = cc in subst (λ a. a.stream < length q.from) k c.left.stream)
        | inr e ↦ (let g : element.Attr c.right.attr ≡ element.Attr a = sym c.right.is ∙ e in let k : c.right.attr ≡ a = cc in subst (λ a. a.stream < length q.from) k c.right.stream)
      ]

  read_side : (a : Attr) (t : Atom) → Has f.links t → (t.left ≡ element.Attr a) ⊎ (t.right ≡ element.Attr a) → IsRead q f.links a
  read_side a t h (inl e) = Whole.left t h e
  read_side a t h (inr e) = Whole.right t h e

  -- a class with an open kept range has no dim
  no_dim : (a : Attr) → a.stream < length q.from → IsOpenSide q f.links a → (d : KeptDim) → Has (f.keeps a.stream).dims d → AreOneClass (system q) d.attr a → ⊥
  no_dim a l o d k c =
      let e : d.range ≡ o.unbounded.0 = kept_one q f.links d.attr a c d.range o.unbounded.0 ((is.serves a.stream l).range d k) o.unbounded.1 in
      o.unbounded.2 (subst IsFinite e (finite a.stream l d k))

  ne_lt : (o : Op) → o ≡ Op.Ne → (o ≡ Op.Lt) ⊎ (o ≡ Op.Le) → ⊥
  ne_lt o e (inl g) = let k : Op.Ne ≡ Op.Lt = sym e ∙ g in cc
  ne_lt o e (inr g) = let k : Op.Ne ≡ Op.Le = sym e ∙ g in cc

  unlike_left : (a : Attr) → IsLeftAlone q f.links a → IsUnlike q f.links a → ⊥
  unlike_left a k u = elim u.side [ inl e ↦ ne_lt u.link.op u.unlike (k.left u.link u.among u.other u.class e) | inr e ↦ k.right u.link u.among u.other u.class e ]

  unlike_right : (a : Attr) → IsRightAlone q f.links a → IsUnlike q f.links a → ⊥
  unlike_right a k u = elim u.side [ inl e ↦ k.left u.link u.among u.other u.class e | inr e ↦ ne_lt u.link.op u.unlike (k.right u.link u.among u.other u.class e) ]

  kind_at : (a : Attr) → a.stream < length q.from → (k : Kind) → (f.keeps a.stream).kind ≡ k → IsWholeKind q f.links a.stream k
  kind_at a l k e = subst (IsWholeKind q f.links a.stream) e (is.serves a.stream l).kind

  by_first : (a : Attr) → WholeBreaks q f.links C1 a → ⊥
  by_first a b = at (well.select a b.0) ((is.serves a.stream (well.select a b.0)).all a refl (Whole.selected b.0))
    where
      at : a.stream < length q.from → IsServed q (f.keeps a.stream) a → ⊥
      at l (dim d k c) =
          let m : IsKeptRange q f.links d.attr d.range = (is.serves a.stream l).range d k in
          let e : d.range ≡ m.own = kept_own_range q f.links d.attr d.range m (Kept.selected a c b.0) in
          let g : m.own ≡ b.1.0 = range_one (system q) a m.own b.1.0 (range_over (system q) d.attr a m.own c m.is_own) b.1.1 in
          b.1.2 (subst IsFinite (e ∙ g) (finite a.stream l d k))
      at l (least e k c) = (kind_at a l (Kind.Least e) k).2.other (Kept.selected a c b.0)
      at l (greatest e k c) = (kind_at a l (Kind.Greatest e) k).2.other (Kept.selected a c b.0)

  by_second : (a : Attr) → WholeBreaks q f.links C2 a → ⊥
  by_second a b = at (stream_in a o.link o.among o.side) ((is.serves a.stream (stream_in a o.link o.among o.side)).all a refl (read_side a o.link o.among o.side))
    where
      o : IsOpenSide q f.links a
      o = b.0

      at : a.stream < length q.from → IsServed q (f.keeps a.stream) a → ⊥
      at l (dim d k c) = no_dim a l b.0 d k c
      at l (least e k c) =
          let way : IsLeftAlone q f.links a = left_over_class q f.links a e (class_turned (system q) e a c) (kind_at a l (Kind.Least e) k).2 in
          elim b.1 [ inl i ↦ way.other i | inr u ↦ unlike_left a way u ]
      at l (greatest e k c) =
          let way : IsRightAlone q f.links a = right_over_class q f.links a e (class_turned (system q) e a c) (kind_at a l (Kind.Greatest e) k).2 in
          elim b.1 [ inl i ↦ way.other i | inr u ↦ unlike_right a way u ]

  -- no other open class of the stream is served beside the extreme
  least_alone : (a e : Attr) → a.stream < length q.from → (f.keeps a.stream).kind ≡ Kind.Least e → AreOneClass (system q) e a → HasEarlier q f.links a → ⊥
  least_alone a e l k c h =
      let m : h.first.stream < length q.from = subst (λ n. n < length q.from) (sym h.stream) l in
      at m ((is.serves h.first.stream m).all h.first refl (read_side h.first h.unbounded.link h.unbounded.among h.unbounded.side))
    where
      at : h.first.stream < length q.from → IsServed q (f.keeps h.first.stream) h.first → ⊥
      at m (dim d i x) = no_dim h.first m h.unbounded d i x
      at m (least g i x) =
          let j : Kind.Least g ≡ Kind.Least e = sym i ∙ ap (λ n. (f.keeps n).kind) h.stream ∙ k in
          let y : g ≡ e = cc in
          h.apart (class_on (system q) h.first e a (class_turned (system q) e h.first (subst (λ g. AreOneClass (system q) g h.first) y x)) c)
      at m (greatest g i x) =
          let j : Kind.Greatest g ≡ Kind.Least e = sym i ∙ ap (λ n. (f.keeps n).kind) h.stream ∙ k in
          absurd cc

  greatest_alone : (a e : Attr) → a.stream < length q.from → (f.keeps a.stream).kind ≡ Kind.Greatest e → AreOneClass (system q) e a → HasEarlier q f.links a → ⊥
  greatest_alone a e l k c h =
      let m : h.first.stream < length q.from = subst (λ n. n < length q.from) (sym h.stream) l in
      at m ((is.serves h.first.stream m).all h.first refl (read_side h.first h.unbounded.link h.unbounded.among h.unbounded.side))
    where
      at : h.first.stream < length q.from → IsServed q (f.keeps h.first.stream) h.first → ⊥
      at m (dim d i x) = no_dim h.first m h.unbounded d i x
      at m (greatest g i x) =
          let j : Kind.Greatest g ≡ Kind.Greatest e = sym i ∙ ap (λ n. (f.keeps n).kind) h.stream ∙ k in
          let y : g ≡ e = cc in
          h.apart (class_on (system q) h.first e a (class_turned (system q) e h.first (subst (λ g. AreOneClass (system q) g h.first) y x)) c)
      at m (least g i x) =
          let j : Kind.Least g ≡ Kind.Greatest e = sym i ∙ ap (λ n. (f.keeps n).kind) h.stream ∙ k in
          absurd cc

  by_third : (a : Attr) → WholeBreaks q f.links C3 a → ⊥
  by_third a b = at (stream_in a o.link o.among o.side) ((is.serves a.stream (stream_in a o.link o.among o.side)).all a refl (read_side a o.link o.among o.side))
    where
      o : IsOpenSide q f.links a
      o = b.0

      at : a.stream < length q.from → IsServed q (f.keeps a.stream) a → ⊥
      at l (dim d k c) = no_dim a l b.0 d k c
      at l (least e k c) =
          let kind : IsWholeKind q f.links a.stream (Kind.Least e) = kind_at a l (Kind.Least e) k in
          least_alone a e l k c (b.3 kind.0 (inl (left_over_class q f.links a e (class_turned (system q) e a c) kind.2)))
      at l (greatest e k c) =
          let kind : IsWholeKind q f.links a.stream (Kind.Greatest e) = kind_at a l (Kind.Greatest e) k in
          greatest_alone a e l k c (b.3 kind.0 (inr (right_over_class q f.links a e (class_turned (system q) e a c) kind.2)))

  unbroken : (c : Condition) (a : Attr) → WholeBreaks q f.links c a → ⊥
  unbroken C1 a b = by_first a b
  unbroken C2 a b = by_second a b
  unbroken C3 a b = by_third a b

pub finite_forms_break_nothing : FiniteFormsBreakNothing
finite_forms_break_nothing q within f is finite c a b = unbroken q (query_formed q within) f is finite c a b
