-- From a motion that keeps rows apart to a family.
use Rattle.std.proofs.Common.{◌≡◌, ◌≢◌, ℕ, suc, ◌-◌, ◌<◌, inl, inr, List, [], ◌∷◌, map, length, refl, sym, ap, ◌∙◌, subst, arith, ℤ, pos, ◌≤ℤ◌, slice_index_or, Contains}
use Rattle.std.specs.List.{list_all}
use Rattle.sem_query.specs.declared.atom.Attr.{Attr}
use Rattle.sem_query.specs.declared.atom.Atom.{Atom}
use Rattle.sem_query.specs.declared.atom.Element.{Element}
use Rattle.sem_query.specs.declared.atom.Element.TheVariants as element
use Rattle.sem_query.specs.declared.condition.Condition.TheVariants.{C3}
use Rattle.sem_query.specs.declared.part.Sign.{Sign}
use Rattle.sem_query.specs.Query.{QueryValue, attrs_of, consts_of, IsWithinLimits}
use Rattle.sem_query.specs.Assignment.{Assignment, value, lies_in, AtomHolds}
use Rattle.sem_query.specs.Parts.{pairs, sign, sign_at, InPart, IsPart}
use Rattle.sem_query.specs.Links.{IsInequality}
use Rattle.sem_query.proofs.Has.{Has, Has-from_contains, Contains-from_has, same_map}
use Rattle.sem_query.proofs.Holding.{Compares-from_test, compares-true, Holds-each, Holds-from_each}
use Rattle.sem_query.proofs.Elements.{SidesIn, sides_in, HasElement}
use Rattle.sem_query.proofs.Local.{PairIn, pair_named, compares_alike}
use Rattle.sem_laws.proofs.Queries.{query_within}
use Rattle.plan_constraints.specs.Nodes.{place_of, assignment_of}
use Rattle.plan_constraints.proofs.NodeFacts.{assignment_agrees, place_below}
use Rattle.plan_constraints.proofs.InPart.{in_part_from_solves}
use Rattle.plan_closure.specs.Answers.{at_nodes}
use Rattle.fam_fooling_sets.specs.declared.ground.Ground.{Ground}
use Rattle.fam_fooling_sets.specs.declared.motion.Motion.{Motion}
use Rattle.fam_fooling_sets.specs.Family.{FamilyValue}
use Rattle.fam_fooling_sets.specs.Making.{IsMade, IsLeftAt, IsRightAt, LaterFails, EarlierFails, KeepsApart, left, right, both, later, earlier}
use Rattle.fam_fooling_sets.specs.Blanks.{IsRead, AreBlanks}
use Rattle.fam_fooling_sets.specs.Laws.{AreLocalFor}
use Rattle.fam_fooling_sets.specs.Lowered.{IsBroken, IsWhole, AreLike, HasFamily}
use Rattle.fam_fooling_sets.specs.Members.{IsFarWithin, IsGroundOf}
use Rattle.fam_fooling_sets.specs.Moving.{moved, value_at, IsMotionOf, AreMovedMembers}
use Rattle.fam_fooling_sets.specs.Passing as passing
use Rattle.fam_fooling_sets.specs.Passing.{value_in, PassesFor, PassesEarlierFor, LaterPasses, EarlierPasses, PassesApart, Suits}
use Rattle.fam_fooling_sets.specs.Shown.{rows_in}
use Rattle.fam_fooling_sets.proofs.Cells.{nodes-at, far-fits}
use Rattle.fam_fooling_sets.proofs.Moving.{Used, moved-inside, moved-sign, apart-above, apart-below}
use Rattle.fam_fooling_sets.proofs.Apart.{inequalities-tell}
use Rattle.fam_fooling_sets.proofs.Motions.{has-at, place-in, u-at, w-at, far-moved}
use Rattle.fam_fooling_sets.proofs.Made.{IsDrawn, family-made, family-at, family-asks, family-like}
use Rattle.fam_fooling_sets.proofs.FromPart.{reads, stands-in, is-free}

module _ (q : QueryValue) (within : IsWithinLimits q) (none : q.domains ≡ []) (s : List Sign) (part : IsPart q s) (m : Motion) (is : IsMotionOf q s m) where
  abbrev us : List ℤ
  us = m.values.items

  -- the assignment of the motion, and of a number
  abbrev u : Assignment
  u = assignment_of (attrs_of q.atoms) q.domains (at_nodes us)

  abbrev xs : ℕ → List ℤ
  xs k = map (moved m k) us

  abbrev w : ℕ → Assignment
  w k = assignment_of (attrs_of q.atoms) q.domains (at_nodes (xs k))

  u-inside : InPart q s u
  u-inside = in_part_from_solves q s within part (at_nodes us) is.solves

  module _ (k : ℕ) (below : k < m.n) where
    element-used : (e : Element) → HasElement (attrs_of q.atoms) (consts_of q.atoms) e → Used m is.motion (value e u)
    element-used (element.Attr b) h = inl (subst (λ z. Has us z) (sym (u-at q s m is b h)) (has-at us (place_of (attrs_of q.atoms) b) (place-in q s m is b h)))
    element-used (element.Const c) h = inr (is.between c (Contains-from_has (consts_of q.atoms) c h))

    element-moved : (e : Element) → HasElement (attrs_of q.atoms) (consts_of q.atoms) e → value e (w k) ≡ moved m k (value e u)
    element-moved (element.Attr b) h = w-at q s m is k b h ∙ ap (moved m k) (sym (u-at q s m is b h))
    element-moved (element.Const c) h = let o = is.between c (Contains-from_has (consts_of q.atoms) c h) in sym (moved-inside m is.motion k c o.0 o.1)

    signs-kept : (x y : Element) → HasElement (attrs_of q.atoms) (consts_of q.atoms) x → HasElement (attrs_of q.atoms) (consts_of q.atoms) y → sign (value x (w k)) (value y (w k)) ≡ sign (value x u) (value y u)
    signs-kept x y h g = (λ j. sign (element-moved x h j) (element-moved y g j)) ∙ moved-sign m is.motion k below (value x u) (value y u) (element-used x h) (element-used y g)

    -- it is one of the part
    pub w-inside : InPart q s (w k)
    w-inside = record {
      holds = Holds-from_each q (w k) holds;
      domains = ap (list_all (λ d. lies_in d (w k d.attr))) none;
      signs = same_map (sign_at (w k)) (sign_at u) (pairs q) (λ p h. let sides : PairIn (attrs_of q.atoms) (consts_of q.atoms) p = pair_named q p h in signs-kept (element.Attr p.left) p.right sides.left sides.right) ∙ u-inside.signs;
    }
      where
        holds : (t : Atom) → Has q.atoms t → AtomHolds (w k) t
        holds t h =
            let sides : SidesIn q.atoms t = sides_in q.atoms t h in
            compares-true t.op _ _ (compares_alike t.op _ _ _ _ (sym (signs-kept t.left t.right sides.left sides.right)) (Compares-from_test t.op _ _ (Holds-each q u u-inside.holds t h)))

module _ (q : QueryValue) (s : List Sign) (a : Attr) (broken : IsBroken q s C3 a) (whole : IsWhole q) (local : AreLocalFor q C3) (g : Ground) (ground : IsGroundOf q s a g)
    (m : Motion) (is : IsMotionOf q s m) (suits : Suits q s a m) (n : ℕ) (size : m.n ≡ n) (f : FamilyValue) (blanks : List (List ℤ)) (same : rows_in g.blanks.now ≡ blanks) (are : AreBlanks q blanks)
    (stream : f.stream ≡ slice_index_or q.from a.stream 0) (filled : AreMovedMembers g m a.stream m.n f.rows f.asking) where
  made : AreMovedMembers g m a.stream n f.rows f.asking
  made = subst (λ (k : ℕ). AreMovedMembers g m a.stream k f.rows f.asking) size filled

  named : Contains (attrs_of q.atoms) a
  named = elim broken.breaks.0 [ inl r ↦ r.inequality.across.left | inr r ↦ r.inequality.across.right ]

  node : g.node ≡ suc (place_of (attrs_of q.atoms) a)
  node = ground.node_is named

  before : (k : ℕ) → k < n → k < m.n
  before k l = omega (arith, l, size)

  abbrev values : ℕ → List ℤ
  values k = xs q broken.within whole.domains s broken.part m is k

  value-is : (k : ℕ) → value_at g m k ≡ slice_index_or (values k) (place_of (attrs_of q.atoms) a) (pos 0)
  value-is k = let e : g.node - 1 ≡ place_of (attrs_of q.atoms) a = omega (arith, node) in ap (λ i. slice_index_or (values k) i (pos 0)) e

  value-moved : (k : ℕ) → value_at g m k ≡ moved m k (value_in q m a)
  value-moved k =
      value-is k ∙ sym (nodes-at (values k) (place_of (attrs_of q.atoms) a))
      ∙ (assignment_agrees (attrs_of q.atoms) q.domains (at_nodes (values k)) refl).each a (Has-from_contains _ a named)
      ∙ w-at q s m is k a (Has-from_contains _ a named)

  named-far : (k : ℕ) → k < n → IsFarWithin (value_at g m k)
  named-far k l =
      far-moved m is.motion k (before k l) (g.node - 1) (pos 0)
      (let p = place_below (attrs_of q.atoms) a (Has-from_contains _ a named) in let e = is.many in let z = long (moved m k) m.values.items in omega (arith, p, e, z, node))
    where
      long : (f : ℤ → ℤ) (zs : List ℤ) → length (map f zs) ≡ length zs
      long f [] = refl
      long f (z ∷ zs) = ap suc (long f zs)

  drawn : IsDrawn q s a g n f values (value_at g m)
  drawn = record {
    solves = λ k l. w-inside q broken.within whole.domains s broken.part m is k (before k l);
    value = λ k l c. nodes-at (values k) (place_of (attrs_of q.atoms) a) ∙ sym (value-is k);
    apart = λ i j l o e. elim suits.out [
      | inl h ↦ apart-above m is.motion (value_in q m a) h i j (before i l) (before j o) (sym (value-moved i) ∙ e ∙ value-moved j)
      | inr h ↦ apart-below m is.motion (value_in q m a) h i j (before i l) (before j o) (sym (value-moved i) ∙ e ∙ value-moved j)
    ];
    value_fits = λ k l. far-fits (value_at g m k) (named-far k l);
    far = λ k l. far-moved m is.motion k (before k l);
    own = λ k l. (made.each k l).row_is;
    asks = λ k l. (made.each k l).asked_is;
  }

  read : IsRead q a
  read = reads q s C3 a broken local

  there : a.stream < length q.from
  there = stands-in q s C3 a broken local

  taken : AreBlanks q (rows_in g.blanks.now)
  taken = subst (AreBlanks q) (sym same) are

  abbrev F : IsMade q s a n f
  F = family-made q broken.within s a g n f ground read (is-free q s C3 a broken local) there taken stream values (value_at g m) drawn

  at-is : (k : ℕ) → k < n → (b : Attr) → Contains (attrs_of q.atoms) b → F.at k b ≡ moved m k (value_in q m b)
  at-is k l b c =
      family-at q broken.within s a g n f ground read (is-free q s C3 a broken local) there taken stream values (value_at g m) drawn k l b (Has-from_contains _ b c)
      ∙ w-at q s m is k b (Has-from_contains _ b c)

  along : (k j : ℕ) → k < n → j < n → (x y : Attr) → Contains (attrs_of q.atoms) x → Contains (attrs_of q.atoms) y → moved m k (value_in q m x) ≤ℤ moved m j (value_in q m y) → F.at k x ≤ℤ F.at j y
  along k j l o x y c d h = subst (λ z. z ≤ℤ F.at j y) (sym (at-is k l x c)) (subst (λ z. moved m k (value_in q m x) ≤ℤ z) (sym (at-is j o y d)) h)

  sooner : (i j : ℕ) → i < j → j < n → i < n
  sooner i j l o = omega (arith, l, o)

  left-at : (x y : Attr) → IsInequality q s x y → x.stream ≡ a.stream → IsLeftAt q s a.stream x y
  left-at x y i e = record { less = i.less; here = e; beside = λ o. i.across.across (e ∙ sym o) }

  right-at : (x y : Attr) → IsInequality q s x y → y.stream ≡ a.stream → IsRightAt q s a.stream x y
  right-at x y i e = record { less = i.less; here = e; beside = λ o. i.across.across (o ∙ sym e) }

  later-of : LaterPasses q s m a.stream → LaterFails q s a.stream n F.at
  later-of p = by p.passes
    where
      by : PassesFor q s m a.stream p.x p.y → LaterFails q s a.stream n F.at
      by (passing.left i e c) = left p.x p.y (left-at p.x p.y i e) record { rises = λ k j l o. along k j (sooner k j l o) o p.y p.x i.across.right i.across.left (c k j l (before j o)) }
      by (passing.right i e c) = right p.x p.y (right-at p.x p.y i e) record { falls = λ k j l o. along j k o (sooner k j l o) p.y p.x i.across.right i.across.left (c k j l (before j o)) }

  earlier-of : EarlierPasses q s m a.stream → EarlierFails q s a.stream n F.at
  earlier-of p = by p.passes
    where
      by : PassesEarlierFor q s m a.stream p.x p.y → EarlierFails q s a.stream n F.at
      by (passing.left i e c) = left p.x p.y (left-at p.x p.y i e) record { falls = λ k j l o. along j k o (sooner k j l o) p.y p.x i.across.right i.across.left (c k j l (before j o)) }
      by (passing.right i e c) = right p.x p.y (right-at p.x p.y i e) record { rises = λ k j l o. along k j (sooner k j l o) o p.y p.x i.across.right i.across.left (c k j l (before j o)) }

  apart-of : PassesApart q s m a.stream → KeepsApart q s a.stream n F.at
  apart-of (passing.both l e) = both (later-of l) (earlier-of e)
  apart-of (passing.later d l) = later d (later-of l)
  apart-of (passing.earlier d e) = earlier d (earlier-of e)

  several : 1 < length q.from
  several = elim broken.breaks.0 [
    | inl r ↦ two a r.other r.inequality.across.across r.inequality.across.left r.inequality.across.right
    | inr r ↦ two r.other a r.inequality.across.across r.inequality.across.left r.inequality.across.right
  ]
    where
      places : (x y z : ℕ) → x ≢ y → x < z → y < z → 1 < z
      places x y z d l o = grind (arith, d, l, o)

      two : (x y : Attr) → x.stream ≢ y.stream → Contains (attrs_of q.atoms) x → Contains (attrs_of q.atoms) y → 1 < length q.from
      two x y d c e = places x.stream y.stream (length q.from) d ((query_within q broken.within).atoms x c) ((query_within q broken.within).atoms y e)

  pub apart-family : HasFamily q blanks C3 a n f
  apart-family = record {
    local = local;
    whole = whole;
    family = inequalities-tell q s a n f broken.within several there local stream made.many made.asked
        (family-asks q broken.within s a g n f ground read (is-free q s C3 a broken local) there taken stream values (value_at g m) drawn)
        F (apart-of suits.apart);
    like = subst (λ (z : List (List ℤ)). AreLike q z n f) same (family-like q broken.within s a g n f ground read (is-free q s C3 a broken local) there taken stream values (value_at g m) drawn);
  }
