-- Where a part breaks a condition values of the whole query move: what is free in a part is free in the whole, and what nothing ties there nothing ties here.
use Rattle.std.proofs.Common.{◌≡◌, ◌≢◌, ℕ, ℤ, pos, ◌⊎◌, inl, inr, List, ◌++◌, true, false, sym, ap, ◌∙◌}
use Rattle.std.specs.List.{flat_map}
use Rattle.sem_query.specs.declared.atom.Atom.{Atom}
use Rattle.sem_query.specs.declared.atom.Attr.{Attr}
use Rattle.sem_query.specs.declared.atom.Element.{Element}
use Rattle.sem_query.specs.declared.atom.Element.TheVariants as element
use Rattle.sem_query.specs.declared.atom.Op.{Op}
use Rattle.sem_query.specs.declared.condition.Condition.{Condition}
use Rattle.sem_query.specs.declared.condition.Condition.TheVariants.{C1, C2, C3}
use Rattle.sem_query.specs.declared.part.Pair.{Pair}
use Rattle.sem_query.specs.declared.part.Sign.{Sign}
use Rattle.sem_query.specs.Groups.{same_group}
use Rattle.sem_query.specs.Parts.{same_stream}
use Rattle.sem_query.specs.Query.{QueryValue, IsWithinLimits}
use Rattle.sem_query.proofs.Has.{Has, Has-append_cases, Has-append_left, Has-append_right, Has-flat_map, Has-flat_map_from}
use Rattle.sem_laws.proofs.Tests.{and-left, nat_true, true_or_false, not_both}
use Rattle.plan_split_pairs.specs.Pairs.{split_pairs}
use Rattle.plan_split_pairs.specs.SplitParts.{IsSplitPart}
use Rattle.sem_whole.specs.System.{Difference, bounds_of, atom_bounds, domain_bounds, system, Bound}
use Rattle.sem_whole.specs.Links.{AreLinks}
use Rattle.sem_whole.specs.Signed.{op_of, all_said, with_signs}
use Rattle.sem_whole.specs.Whole.{WholeBreaks}
use Rattle.sem_forms.specs.Split.{part_query}
use Rattle.sem_split_bounds.specs.Near.{near_pairs, NearBreak}
use Rattle.sem_split_bounds.specs.Split.{HasClosedUnlikes}
use Rattle.sem_split_bounds.specs.Steps.{NoTop, NoBottom, Step, OneEnd}
use Rattle.sem_split_bounds.specs.Moving.{IsLoose, IsCompared, LackOneEnd, AreBeside, ShareStream, HasMotion, BrokenPartsMove, NearBreaksMove, StillQueriesHaveFewStates}
use Rattle.sem_split_bounds.specs.Moving as moving
use Rattle.sem_split_bounds.proofs.Paths.{Leads, step_leads, leads_bound}
use Rattle.sem_split_bounds.proofs.Ends.{Free, up, down, top_over, bottom_under}
use Rattle.sem_split_bounds.proofs.Motions.{tight}
use Rattle.sem_split_bounds.proofs.Parts.{IsPart, based, split_part, near_part}
use Rattle.sem_split_bounds.proofs.PartSolutions.{base_solves}
use Rattle.sem_split_bounds.proofs.Standing.{sides_of}
use Rattle.sem_split_bounds.proofs.Between.{no_integer, same_column, pair_sides, Source, of_pair, of_atom, of_domain, source, from_pair}
use Rattle.sem_split_bounds.proofs.FreeSteps.{IsPairOf, AreOfQuery, step_of_query, near_step_of_query}
use Rattle.sem_split_bounds.proofs.UnlikeLinks.{no_unlike_link}
use Rattle.sem_split_bounds.proofs.OpposedFamilies.{Side, at_left, at_right, OneSide, lefts, rights}
use Rattle.sem_split_bounds.proofs.Telling.{ColumnTells, TwoSidesTell, OneStepTells, BesideTells, OpposedTell}
use Rattle.sem_split_bounds.proofs.PartsTell.{breaks_need}
use Rattle.sem_split_bounds.proofs.PartsNeed.{distinct_breaks}
use Rattle.sem_split_bounds.proofs.NearNeed.{near_breaks}
use Rattle.sem_split_bounds.proofs.NearFew.{unbroken-near-parts-have-few-states}

-- that values move refutes this claim
abbrev pub IsStill : QueryValue → Type 0
IsStill q = ¬ HasMotion q

beside : (place : ℕ) (x1 y1 x2 y2 : Attr) → OneSide place x1 y1 x2 y2 → AreBeside x1 y1 x2 y2
beside place x1 y1 x2 y2 (lefts e f) = inl (e ∙ sym f)
beside place x1 y1 x2 y2 (rights e f) = inr (e ∙ sym f)

shared : (place : ℕ) (x1 y1 x2 y2 : Attr) → Side place x1 y1 → Side place x2 y2 → ShareStream x1 y1 x2 y2
shared place x1 y1 x2 y2 (at_left e) (at_left f) = inl (inl (e ∙ sym f))
shared place x1 y1 x2 y2 (at_left e) (at_right f) = inr (inl (e ∙ sym f))
shared place x1 y1 x2 y2 (at_right e) (at_left f) = inr (inr (e ∙ sym f))
shared place x1 y1 x2 y2 (at_right e) (at_right f) = inl (inr (e ∙ sym f))

module _ (q : QueryValue) (within : IsWithinLimits q) (ps : List Pair) (ss : List Sign) (is : IsPart q ps ss) where
  abbrev r : QueryValue
  r = with_signs ps ss q

  -- ---- the whole in place of the part

  -- each solution of the part is one of the whole
  part_solves : (d : Difference) → Has (system q) d → Has (system r) d
  part_solves d h = elim (Has-append_cases (flat_map atom_bounds q.atoms) (flat_map domain_bounds q.domains) d h) [
    | inl k ↦ (let t = Has-flat_map_from atom_bounds q.atoms d k in
        Has-append_left (flat_map domain_bounds q.domains) (Has-flat_map atom_bounds (all_said ps ss ++ q.atoms) t.0 d (Has-append_right (all_said ps ss) t.1) t.2))
    | inr k ↦ Has-append_right (flat_map atom_bounds (all_said ps ss ++ q.atoms)) k
  ]

  whole_bound : (x y : Element) (c : ℤ) → Bound (system q) x y c → Bound (system r) x y c
  whole_bound x y c b v s = b v (λ d h. s d (part_solves d h))

  no_top : (a : Attr) → NoTop (system r) a → NoTop (system q) a
  no_top a n k b = n k (whole_bound (element.Attr a) (element.Const k) (pos 0) b)

  no_bottom : (a : Attr) → NoBottom (system r) a → NoBottom (system q) a
  no_bottom a n k b = n k (whole_bound (element.Const k) (element.Attr a) (pos 0) b)

  one_end : (x1 y1 x2 y2 : Attr) → OneEnd (system r) x1 y1 x2 y2 → OneEnd (system q) x1 y1 x2 y2
  one_end x1 y1 x2 y2 (inl t) = inl (no_top x1 t.0, no_top x2 t.1)
  one_end x1 y1 x2 y2 (inr t) = inr (no_bottom y1 t.0, no_bottom y2 t.1)

  -- what nothing leads to in the part, and is free there, nothing ties in the whole
  loose : (x y : Attr) → Free (system r) x y → (Leads (system r) x y → ⊥) → IsLoose (system q) x y
  loose x y free away c b = tight r is.one (base_solves q within ps ss (based q ps ss is)) x y c free (whole_bound (element.Attr x) (element.Attr y) c b) away

  -- ---- each claim of a part tells that values move

  pub column_moves : ColumnTells q ps ss (IsStill q)
  column_moves a h (inl t) m = m (moving.selected a h (inl (no_top a t)))
  column_moves a h (inr t) m = m (moving.selected a h (inr (no_bottom a t)))

  -- a pair of two streams is that of a comparison
  of_a_pair : (p : Pair) → Has ps p → (a b : Attr) → IsPairOf p a b → a.stream ≢ b.stream → IsCompared q a b ⊎ IsCompared q b a
  of_a_pair p h a b i other = elim (from_pair q within ps ss is p (is.from p h)) [
    | inl t ↦ elim (pair_sides t.0.left t.0.right p t.3) [
      | inl s ↦ inl record { by = t.0; among = t.1; left = s.0 ∙ ap (λ c. element.Attr c) i.0; right = s.1 ∙ i.1; across = other }
      | inr s ↦ inr record { by = t.0; among = t.1; left = s.1 ∙ i.1; right = s.0 ∙ ap (λ c. element.Attr c) i.0; across = λ e. other (sym e) }
    ]
    | inr o ↦ elim o [
      | inl k ↦ absurd (no_integer b k.0 (sym i.1 ∙ k.1))
      | inr c ↦ absurd (other (ap (λ a. a.stream) (sym i.0) ∙ nat_true p.left.stream c.0.stream (and-left (same_stream p.left c.0) (same_group q.atoms p.left c.0) c.2)
          ∙ ap (λ a. a.stream) (same_column c.0 b (sym c.1 ∙ i.1))))
    ]
  ]

  -- a difference of the part between two streams is that of a comparison of the query
  compared : (x y : Attr) → Step (system r) x y → IsCompared q x y ⊎ IsCompared q y x
  compared x y s = by (source q ps ss s.of s.among)
    where
      sided : (o : Op) (a b : Element) → Has (bounds_of o a b) s.of → ((a ≡ element.Attr x) × (b ≡ element.Attr y)) ⊎ ((a ≡ element.Attr y) × (b ≡ element.Attr x))
      sided o a b k = elim (sides_of o a b s.of k) [
        | inl e ↦ inl (sym e.0 ∙ s.left, sym e.1 ∙ s.right)
        | inr e ↦ inr (sym e.1 ∙ s.right, sym e.0 ∙ s.left)
      ]

      by : Source q ps s.of → IsCompared q x y ⊎ IsCompared q y x
      by (of_pair p o h k) = elim (sided (op_of o) (element.Attr p.left) p.right k) [
        | inl e ↦ of_a_pair p h x y (same_column p.left x e.0, e.1) s.across
        | inr e ↦ elim (of_a_pair p h y x (same_column p.left y e.0, e.1) (λ f. s.across (sym f))) [ inl c ↦ inr c | inr c ↦ inl c ]
      ]
      by (of_atom t h k) = elim (sided t.op t.left t.right k) [
        | inl e ↦ inl record { by = t; among = h; left = e.0; right = e.1; across = s.across }
        | inr e ↦ inr record { by = t; among = h; left = e.0; right = e.1; across = λ f. s.across (sym f) }
      ]
      by (of_domain e h k) = elim (Has-append_cases (bounds_of Op.Le (element.Const e.lo) (element.Attr e.attr)) (bounds_of Op.Le (element.Attr e.attr) (element.Const e.hi)) s.of k) [
        | inl i ↦ elim (sided Op.Le (element.Const e.lo) (element.Attr e.attr) i) [ inl f ↦ absurd (no_integer x e.lo (sym f.0)) | inr f ↦ absurd (no_integer y e.lo (sym f.0)) ]
        | inr i ↦ elim (sided Op.Le (element.Attr e.attr) (element.Const e.hi) i) [ inl f ↦ absurd (no_integer y e.hi (sym f.1)) | inr f ↦ absurd (no_integer x e.hi (sym f.1)) ]
      ]

  -- without DISTINCT one that an end leaves free is enough: both sides lack that end
  pub one_step_moves : q.distinct ≡ false → OneStepTells q ps ss (IsStill q)
  one_step_moves d x y s free m = elim (compared x y s) [ inl c ↦ m (moving.counted d x y c ends) | inr c ↦ m (moving.counted d y x c turned) ]
    where
      below : Bound (system r) (element.Attr x) (element.Attr y) (pos 0)
      below = leads_bound r x y (step_leads (system r) x y s)

      by : Free (system r) x y → LackOneEnd (system q) x y
      by (up t) = inl (no_top x t, no_top y (top_over (system r) x y (pos 0) below t))
      by (down b) = inr (no_bottom x (bottom_under (system r) x y (pos 0) below b), no_bottom y b)

      ends : LackOneEnd (system q) x y
      ends = by free

      turned : LackOneEnd (system q) y x
      turned = elim ends [ inl e ↦ inl (e.1, e.0) | inr e ↦ inr (e.1, e.0) ]

  module _ (steps : AreOfQuery q ps ss) where
    pub two_sides_move : TwoSidesTell q ps ss (IsStill q)
    two_sides_move place x1 y1 x2 y2 s1 s2 e1 e2 o m = m (moving.apart x1 y1 x2 y2 (steps x1 y1 s1 (free_one o)) (steps x2 y2 s2 (free_two o)) (inl (e1 ∙ sym e2, one_end x1 y1 x2 y2 o)))
      where
        free_one : OneEnd (system r) x1 y1 x2 y2 → Free (system r) x1 y1
        free_one (inl t) = up t.0
        free_one (inr t) = down t.0

        free_two : OneEnd (system r) x1 y1 x2 y2 → Free (system r) x2 y2
        free_two (inl t) = up t.1
        free_two (inr t) = down t.1

    pub beside_moves : BesideTells q ps ss (IsStill q)
    beside_moves place x1 y1 x2 y2 s1 s2 side o away m =
        m (moving.apart x1 y1 x2 y2 (steps x1 y1 s1 (free_one o)) (steps x2 y2 s2 (free_two o)) (inr (inl (beside place x1 y1 x2 y2 side, one_end x1 y1 x2 y2 o, loose x2 y1 (free_cross o) away))))
      where
        free_one : OneEnd (system r) x1 y1 x2 y2 → Free (system r) x1 y1
        free_one (inl t) = up t.0
        free_one (inr t) = down t.0

        free_two : OneEnd (system r) x1 y1 x2 y2 → Free (system r) x2 y2
        free_two (inl t) = up t.1
        free_two (inr t) = down t.1

        free_cross : OneEnd (system r) x1 y1 x2 y2 → Free (system r) x2 y1
        free_cross (inl t) = up t.1
        free_cross (inr t) = down t.0

    pub opposed_move : OpposedTell q ps ss (IsStill q)
    opposed_move place x1 y1 x2 y2 s1 p1 s2 p2 t b away m =
        m (moving.apart x1 y1 x2 y2 (steps x1 y1 s1 (up t)) (steps x2 y2 s2 (down b)) (inr (inr (shared place x1 y1 x2 y2 p1 p2, no_top x1 t, no_bottom y2 b, loose x1 y2 (up t) away))))

-- ---- split parts

one_free : (q : QueryValue) (ps : List Pair) (ss : List Sign) (x1 y1 x2 y2 : Attr) → OneEnd (system (with_signs ps ss q)) x1 y1 x2 y2 → Free (system (with_signs ps ss q)) x1 y1
one_free q ps ss x1 y1 x2 y2 (inl t) = up t.0
one_free q ps ss x1 y1 x2 y2 (inr t) = down t.0

module _ (q : QueryValue) (within : IsWithinLimits q) (ss : List Sign) (is : IsSplitPart q ss) (links : List Atom) (are : AreLinks (part_query q ss) links) where
  part : IsPart q (split_pairs q) ss
  part = split_part q within ss is

  -- by the first or the second condition, or where one free difference is enough
  moves_by : TwoSidesTell q (split_pairs q) ss (IsStill q) → (c : Condition) (a : Attr) → WholeBreaks (part_query q ss) links c a
      → (c ≢ C3) ⊎ OneStepTells q (split_pairs q) ss (IsStill q) → ¬ IsStill q
  moves_by two_sides c a b o =
      breaks_need q within (split_pairs q) ss part (IsStill q) (column_moves q within (split_pairs q) ss part) links are links (λ t h. h) (no_unlike_link q within ss is links are)
      two_sides c a b o

  counted_moves : q.distinct ≡ false → (c : Condition) (a : Attr) → WholeBreaks (part_query q ss) links c a → ¬ IsStill q
  counted_moves d c a b = moves_by
      (λ place x1 y1 x2 y2 s1 s2 e1 e2 o. one_step_moves q within (split_pairs q) ss part d x1 y1 s1 (one_free q (split_pairs q) ss x1 y1 x2 y2 o)) c a b
      (inr (one_step_moves q within (split_pairs q) ss part d))

  distinct_moves : HasClosedUnlikes q → q.distinct ≡ true → (c : Condition) (a : Attr) → WholeBreaks (part_query q ss) links c a → ¬ IsStill q
  distinct_moves closed d c a b = by c b
    where
      steps : AreOfQuery q (split_pairs q) ss
      steps = step_of_query q within (split_pairs q) ss part closed

      two_sides : TwoSidesTell q (split_pairs q) ss (IsStill q)
      two_sides = two_sides_move q within (split_pairs q) ss part steps

      by : (c : Condition) → WholeBreaks (part_query q ss) links c a → ¬ IsStill q
      by C1 b = moves_by two_sides C1 a b (inl (λ e. absurd cc))
      by C2 b = moves_by two_sides C2 a b (inl (λ e. absurd cc))
      by C3 b = distinct_breaks q within (split_pairs q) ss part (IsStill q) two_sides links are links (λ t h. h) (no_unlike_link q within ss is links are)
          (beside_moves q within (split_pairs q) ss part steps) (opposed_move q within (split_pairs q) ss part steps) d a b

pub broken-parts-move : BrokenPartsMove
broken-parts-move q within told ss is links are c a b = elim (true_or_false q.distinct) [
  | inl d ↦ elim told [
    | inl closed ↦ distinct_moves q within ss is links are closed d c a b
    | inr n ↦ absurd (not_both q.distinct d n)
  ]
  | inr d ↦ counted_moves q within ss is links are d c a b
]

-- ---- near parts

pub near-breaks-move : NearBreaksMove
near-breaks-move q within b =
    near_breaks q within b (IsStill q) (column_moves q within (near_pairs q) b.signs part) (two_sides_move q within (near_pairs q) b.signs part steps)
    (beside_moves q within (near_pairs q) b.signs part steps) (opposed_move q within (near_pairs q) b.signs part steps) (one_step_moves q within (near_pairs q) b.signs part)
    b.condition b.breaks
  where
    part : IsPart q (near_pairs q) b.signs
    part = near_part q within b.signs b.is

    steps : AreOfQuery q (near_pairs q) b.signs
    steps = near_step_of_query q within b.signs b.is

pub still-queries-have-few-states : StillQueriesHaveFewStates
still-queries-have-few-states q within d still = unbroken-near-parts-have-few-states q within d (λ b. near-breaks-move q within b still)
