-- Links `<` and `<=` at one stream, free at an end: two of them tell, whichever paths join them.
use Rattle.std.proofs.Common.{◌≡◌, ◌≢◌, ℕ, ℤ, pos, neg_ℤ, ◌+ℤ◌, ◌≤ℤ◌, ◌⊎◌, inl, inr, List, true, refl, sym, ap, ◌∙◌, subst, arith}
use Rattle.std.proofs.lemmas.Int.{ints}
use Rattle.sem_query.specs.declared.atom.Atom.{Atom}
use Rattle.sem_query.specs.declared.atom.Attr.{Attr}
use Rattle.sem_query.specs.declared.atom.Element.{Element}
use Rattle.sem_query.specs.declared.atom.Element.TheVariants as element
use Rattle.sem_query.specs.declared.atom.Op.{Op}
use Rattle.sem_query.specs.declared.part.Pair.{Pair}
use Rattle.sem_query.specs.declared.part.Sign.{Sign}
use Rattle.sem_query.specs.Assignment.{value}
use Rattle.sem_query.specs.Groups.{group_of}
use Rattle.sem_query.specs.Query.{QueryValue, IsWithinLimits, attrs_of}
use Rattle.sem_query.proofs.Has.{Has, first, later, Has-nil}
use Rattle.sem_whole.specs.System.{Difference, bounds_of, atom_bounds, system, Bound, IsOf, AreOneClass}
use Rattle.sem_whole.specs.Links as between
use Rattle.sem_whole.specs.Links.{AreOfOne, Follows, Goes, AreLinks}
use Rattle.sem_whole.specs.Signed.{with_signs}
use Rattle.sem_lower_bounds.proofs.Possible.{either}
use Rattle.sem_split_bounds.proofs.Paths.{bounds_tight, Leads, Step, step_leads, leads_bound, leads_more, leaving}
use Rattle.sem_split_bounds.proofs.Ends.{NoTop, NoBottom, Free, up, down, top_over, bottom_under}
use Rattle.sem_split_bounds.proofs.Parts.{IsPart, based}
use Rattle.sem_split_bounds.proofs.PartSolutions.{base_solves}
use Rattle.sem_split_bounds.proofs.FreeSteps.{part_step_named}
use Rattle.sem_split_bounds.proofs.OpenLinks.{strict_not_unlike, link_steps, OpenLink}
use Rattle.sem_split_bounds.proofs.Telling.{TwoSidesTell, BesideTells, OpposedTell}
use Rattle.sem_split_bounds.proofs.OpposedFamilies.{Side, at_left, at_right, OneSide, lefts, rights, OtherSides, left_right, right_left, OneEnd}
use Rattle.sem_split_bounds.proofs.Standing.{StandsFor, link_beside, step_stands}
use Rattle.sem_split_bounds.proofs.Between.{leads_grouped, over_all, ordered}

-- what `<` and `<=` say
strict_says : (o : Op) (x y : Element) (d : Difference) → (o ≡ Op.Lt) ⊎ (o ≡ Op.Le) → Has (bounds_of o x y) d → (d.left ≡ x) × (d.right ≡ y) × (neg_ℤ (pos 1) ≤ℤ d.by)
strict_says Op.Lt x y d i first = (refl, refl, omega (arith, ints))
strict_says Op.Lt x y d i (later k) = Has-nil k
strict_says Op.Le x y d i first = (refl, refl, omega (arith, ints))
strict_says Op.Le x y d i (later k) = Has-nil k
strict_says Op.Gt x y d i h = absurd (elim i [ inl e ↦ cc | inr e ↦ cc ])
strict_says Op.Ge x y d i h = absurd (elim i [ inl e ↦ cc | inr e ↦ cc ])
strict_says Op.Eq x y d i h = absurd (elim i [ inl e ↦ cc | inr e ↦ cc ])
strict_says Op.Ne x y d i h = absurd (elim i [ inl e ↦ cc | inr e ↦ cc ])

-- the two exchanged
turned_side : (place : ℕ) (x1 y1 x2 y2 : Attr) → OneSide place x1 y1 x2 y2 → OneSide place x2 y2 x1 y1
turned_side place x1 y1 x2 y2 (lefts e f) = lefts f e
turned_side place x1 y1 x2 y2 (rights e f) = rights f e

turned_end : (ds : List Difference) (x1 y1 x2 y2 : Attr) → OneEnd ds x1 y1 x2 y2 → OneEnd ds x2 y2 x1 y1
turned_end ds x1 y1 x2 y2 (inl t) = inl (t.1, t.0)
turned_end ds x1 y1 x2 y2 (inr t) = inr (t.1, t.0)

pub turned_sides : (place : ℕ) (x1 y1 x2 y2 : Attr) → OneSide place x1 y1 x2 y2 ⊎ OtherSides place x1 y1 x2 y2 → OneSide place x2 y2 x1 y1 ⊎ OtherSides place x2 y2 x1 y1
turned_sides place x1 y1 x2 y2 (inl o) = inl (turned_side place x1 y1 x2 y2 o)
turned_sides place x1 y1 x2 y2 (inr (left_right e f)) = inr (right_left f e)
turned_sides place x1 y1 x2 y2 (inr (right_left e f)) = inr (left_right f e)

-- a link that is `<` or `<=`, by its columns
pub record IsStrict (links : List Atom) (x y : Attr) : Type 0 where
  pub one : Atom
  pub among : Has links one
  pub strict : (one.op ≡ Op.Lt) ⊎ (one.op ≡ Op.Le)
  pub left : one.left ≡ element.Attr x
  pub right : one.right ≡ element.Attr y

-- an open link of some of the links is one of them all
pub open_strict : (r : QueryValue) (all links : List Atom) → ((t : Atom) → Has links t → Has all t) → (a : Attr) (l : OpenLink r links a) → IsStrict all l.x l.y
open_strict r all links from a l = record { one = l.link; among = from l.link l.among; strict = l.strict_or; left = l.left; right = l.right }

pub strict_step : (r : QueryValue) (links : List Atom) → AreLinks r links → (x y : Attr) → IsStrict links x y → Step (system r) x y
strict_step r links are x y k = link_steps r links are k.one k.among x y k.left k.right (strict_not_unlike k.one.op k.strict)

pub strict_bound : (r : QueryValue) (links : List Atom) → AreLinks r links → (x y : Attr) → IsStrict links x y → Bound (system r) (element.Attr x) (element.Attr y) (pos 0)
strict_bound r links are x y k = leads_bound r x y (step_leads (system r) x y (strict_step r links are x y k))

-- the columns of two links at one stream are of two classes
abbrev pub AreApart : List Difference → ℕ → Attr → Attr → Attr → Attr → Type 0
AreApart ds place x1 y1 x2 y2 = (x1.stream ≡ place → x2.stream ≡ place → AreOneClass ds x1 x2 → ⊥) × (y1.stream ≡ place → y2.stream ≡ place → AreOneClass ds y1 y2 → ⊥)

module _ (q : QueryValue) (within : IsWithinLimits q) (ps : List Pair) (ss : List Sign) (is : IsPart q ps ss) (P : Type 0) (both : TwoSidesTell q ps ss P)
    (links : List Atom) (are : AreLinks (with_signs ps ss q) links) where
  abbrev ds : List Difference
  ds = system (with_signs ps ss q)

  -- ---- a link that stays

  -- it does not follow from a link between its streams that stands for more
  stuck_beside : (t : Atom) → Has links t → (t.op ≡ Op.Lt) ⊎ (t.op ≡ Op.Le) → (x y z w : Attr) → t.left ≡ element.Attr x → t.right ≡ element.Attr y
      → StandsFor ds links z w → x.stream ≡ z.stream → w.stream ≡ y.stream → (one two : ℤ)
      → Bound ds (element.Attr x) (element.Attr z) one → Bound ds (element.Attr w) (element.Attr y) two → (one +ℤ two) ≤ℤ neg_ℤ (pos 1) → ⊥
  stuck_beside t h o x y z w ex ey s e f one two b g l =
      let k : (ts : List Atom) × Has ts s.one × (Goes ds ts t → ⊥) = link_beside (with_signs ps ss q) links are t s.one h s.among other in
      k.2 (between.bounds (strict_not_unlike t.op o) (λ d i. follows k.0 k.1 d (strict_says t.op t.left t.right d o i)))
    where
      other : t ≡ s.one → ⊥
      other i =
          let m : (s.of.left ≡ t.left) × (s.of.right ≡ t.right) × (neg_ℤ (pos 1) ≤ℤ s.of.by)
          = strict_says t.op t.left t.right s.of o (subst (λ t. Has (atom_bounds t) s.of) (sym i) s.says) in
          let a : is.one s.left ≡ is.one x = ap (λ e. value e is.one) (sym s.is_left ∙ m.0 ∙ ex) in
          let c : is.one s.right ≡ is.one y = ap (λ e. value e is.one) (sym s.is_right ∙ m.1 ∙ ey) in
          let n1 = b is.one (base_solves q within ps ss (based q ps ss is)) in
          let n2 = s.before is.one (base_solves q within ps ss (based q ps ss is)) in
          let n3 = s.after is.one (base_solves q within ps ss (based q ps ss is)) in
          let n4 = g is.one (base_solves q within ps ss (based q ps ss is)) in
          omega (arith, ints, a, c, n1, n2, n3, n4, l)

      before : Bound ds (element.Attr x) s.of.left one
      before = subst (λ e. Bound ds (element.Attr x) e one) (sym s.is_left) (λ v m. let n1 = b v m in let n2 = s.before v m in omega (arith, ints, n1, n2))

      after : Bound ds s.of.right (element.Attr y) two
      after = subst (λ e. Bound ds e (element.Attr y) two) (sym s.is_right) (λ v m. let n1 = s.after v m in let n2 = g v m in omega (arith, ints, n1, n2))

      follows : (ts : List Atom) → Has ts s.one → (d : Difference) → (d.left ≡ t.left) × (d.right ≡ t.right) × (neg_ℤ (pos 1) ≤ℤ d.by) → Follows ds ts d.left d.right d.by
      follows ts i d m =
          let n = bounds_tight s.one.op s.one.left s.one.right s.of s.says in
          subst (λ e. Follows ds ts e d.right d.by) (sym (m.0 ∙ ex)) (subst (λ e. Follows ds ts (element.Attr x) e d.by) (sym (m.1 ∙ ey))
          (between.link s.one i s.of s.says one two
          (x.stream, refl, subst (IsOf x.stream) (sym s.is_left) (sym (e ∙ s.leaves))) before
          (y.stream, subst (IsOf y.stream) (sym s.is_right) (s.enters ∙ f), refl) after
          (let k = m.2 in omega (arith, ints, n, l, k))))

  -- a path between two streams that is free at an end crosses once, and then some link stands for it, or a third stream has a difference on each side
  path_needs : (x y : Attr) → x.stream ≢ y.stream → Leads ds x y → Free ds x y → (StandsFor ds links x y → ¬ P) → ¬ P
  path_needs x y n p free then m = elim (leaving ds x y p) [
    | inl e ↦ absurd (n e)
    | inr l ↦ elim (leaving ds l.1 y l.5) [
      | inl e ↦ step_stands (with_signs ps ss q) is.one (base_solves q within ps ss (based q ps ss is)) links are l.0 l.1 l.4 (kept_free l.0 l.1 l.2 l.5) (λ s.
          then record {
            one = s.one;
            among = s.among;
            of = s.of;
            says = s.says;
            left = s.left;
            right = s.right;
            is_left = s.is_left;
            is_right = s.is_right;
            leaves = sym l.3 ∙ s.leaves;
            before = λ v o. (let a = leads_bound (with_signs ps ss q) x l.0 l.2 v o in let b = s.before v o in omega (arith, ints, a, b));
            enters = s.enters ∙ e;
            after = λ v o. (let a = s.after v o in let b = leads_bound (with_signs ps ss q) l.1 y l.5 v o in omega (arith, ints, a, b));
          } m)
      | inr k ↦ both l.1.stream k.0 k.1 l.0 l.1 k.4 l.4 k.3 refl
          (both_free k.0 k.1 l.0 l.1 (leads_more ds x l.1 k.0 (leads_more ds x l.0 l.1 l.2 (step_leads ds l.0 l.1 l.4)) k.2) k.5 l.2 l.5) m
    ]
  ]
    where
      kept_free : (a b : Attr) → Leads ds x a → Leads ds b y → Free ds a b
      kept_free a b l r = by free
        where
          by : Free ds x y → Free ds a b
          by (up t) = up (top_over ds x a (pos 0) (leads_bound (with_signs ps ss q) x a l) t)
          by (down t) = down (bottom_under ds b y (pos 0) (leads_bound (with_signs ps ss q) b y r) t)

      both_free : (a b c d : Attr) → Leads ds x a → Leads ds b y → Leads ds x c → Leads ds d y → OneEnd ds a b c d
      both_free a b c d l1 r1 l2 r2 = by free
        where
          by : Free ds x y → OneEnd ds a b c d
          by (up t) = inl (top_over ds x a (pos 0) (leads_bound (with_signs ps ss q) x a l1) t, top_over ds x c (pos 0) (leads_bound (with_signs ps ss q) x c l2) t)
          by (down t) = inr (bottom_under ds b y (pos 0) (leads_bound (with_signs ps ss q) b y r1) t, bottom_under ds d y (pos 0) (leads_bound (with_signs ps ss q) d y r2) t)

  -- ---- two links at one stream

  pub strict_named : (x y : Attr) → IsStrict links x y → Has (attrs_of q.atoms) x × Has (attrs_of q.atoms) y
  strict_named x y k = part_step_named q within ps ss is x y (strict_step (with_signs ps ss q) links are x y k)

  pub strict_grouped : (x y : Attr) → IsStrict links x y → group_of q.atoms x ≡ group_of q.atoms y
  strict_grouped x y k = leads_grouped q within ps ss is x y (step_leads ds x y (strict_step (with_signs ps ss q) links are x y k))

  module _ (x1 y1 x2 y2 : Attr) (k1 : IsStrict links x1 y1) (k2 : IsStrict links x2 y2) where
    -- the left side of the first is less than that of the second, which leads to the right side of the first
    cross_lefts : x1.stream ≡ x2.stream → OneEnd ds x1 y1 x2 y2 → Bound ds (element.Attr x1) (element.Attr x2) (neg_ℤ (pos 1)) → Leads ds x2 y1 → ¬ P
    cross_lefts e end b p = path_needs x2 y1 (λ f. (strict_step (with_signs ps ss q) links are x1 y1 k1).across (e ∙ f)) p (by end) (λ s.
        absurd (stuck_beside k1.one k1.among k1.strict x1 y1 x2 y1 k1.left k1.right s e refl (neg_ℤ (pos 1)) (pos 0) b (λ v m. omega (arith, ints)) (omega (arith, ints))))
      where
        by : OneEnd ds x1 y1 x2 y2 → Free ds x2 y1
        by (inl t) = up t.1
        by (inr t) = down t.0

    -- or the right side of the first is less than that of the second
    cross_rights : y1.stream ≡ y2.stream → OneEnd ds x1 y1 x2 y2 → Bound ds (element.Attr y1) (element.Attr y2) (neg_ℤ (pos 1)) → Leads ds x2 y1 → ¬ P
    cross_rights e end b p = path_needs x2 y1 (λ f. (strict_step (with_signs ps ss q) links are x2 y2 k2).across (f ∙ e)) p (by end) (λ s.
        absurd (stuck_beside k2.one k2.among k2.strict x2 y2 x2 y1 k2.left k2.right s refl e (pos 0) (neg_ℤ (pos 1)) (λ v m. omega (arith, ints)) b (omega (arith, ints))))
      where
        by : OneEnd ds x1 y1 x2 y2 → Free ds x2 y1
        by (inl t) = up t.1
        by (inr t) = down t.0

  module _ (place : ℕ) (x1 y1 x2 y2 : Attr) (k1 : IsStrict links x1 y1) (k2 : IsStrict links x2 y2) where
    -- the left side of each leads to the right side of the other
    pub links_cross : OneSide place x1 y1 x2 y2 → OneEnd ds x1 y1 x2 y2 → AreApart ds place x1 y1 x2 y2 → Leads ds x2 y1 → Leads ds x1 y2 → ¬ P
    links_cross (lefts e f) end apart p r =
        elim (ordered q within ps ss is x1 x2 (strict_named x1 y1 k1).0 (strict_named x2 y2 k2).0 (e ∙ sym f) (strict_grouped x1 y1 k1 ∙ sym (leads_grouped q within ps ss is x2 y1 p)) (first_end end) (second_end end)) [
          | inl b ↦ cross_lefts x1 y1 x2 y2 k1 k2 (e ∙ sym f) end b p
          | inr o ↦ elim o [
            | inl b ↦ cross_lefts x2 y2 x1 y1 k2 k1 (f ∙ sym e) (turned_end ds x1 y1 x2 y2 end) b r
            | inr c ↦ absurd (apart.0 e f c)
          ]
        ]
      where
        first_end : OneEnd ds x1 y1 x2 y2 → NoTop ds x1 ⊎ NoBottom ds x1
        first_end (inl t) = inl t.0
        first_end (inr t) = inr (bottom_under ds x1 y1 (pos 0) (strict_bound (with_signs ps ss q) links are x1 y1 k1) t.0)

        second_end : OneEnd ds x1 y1 x2 y2 → NoTop ds x2 ⊎ NoBottom ds x2
        second_end (inl t) = inl t.1
        second_end (inr t) = inr (bottom_under ds x2 y2 (pos 0) (strict_bound (with_signs ps ss q) links are x2 y2 k2) t.1)
    links_cross (rights e f) end apart p r =
        elim (ordered q within ps ss is y1 y2 (strict_named x1 y1 k1).1 (strict_named x2 y2 k2).1 (e ∙ sym f) (sym (leads_grouped q within ps ss is x2 y1 p) ∙ strict_grouped x2 y2 k2) (first_end end) (second_end end)) [
          | inl b ↦ cross_rights x1 y1 x2 y2 k1 k2 (e ∙ sym f) end b p
          | inr o ↦ elim o [
            | inl b ↦ cross_rights x2 y2 x1 y1 k2 k1 (f ∙ sym e) (turned_end ds x1 y1 x2 y2 end) b r
            | inr c ↦ absurd (apart.1 e f c)
          ]
        ]
      where
        first_end : OneEnd ds x1 y1 x2 y2 → NoTop ds y1 ⊎ NoBottom ds y1
        first_end (inl t) = inl (top_over ds x1 y1 (pos 0) (strict_bound (with_signs ps ss q) links are x1 y1 k1) t.0)
        first_end (inr t) = inr t.0

        second_end : OneEnd ds x1 y1 x2 y2 → NoTop ds y2 ⊎ NoBottom ds y2
        second_end (inl t) = inl (top_over ds x2 y2 (pos 0) (strict_bound (with_signs ps ss q) links are x2 y2 k2) t.1)
        second_end (inr t) = inr t.1

    module _ (beside : BesideTells q ps ss P) (opposed : OpposedTell q ps ss P) where
      -- both are free at one end
      pub one_end_needs : OneSide place x1 y1 x2 y2 ⊎ OtherSides place x1 y1 x2 y2 → OneEnd ds x1 y1 x2 y2 → AreApart ds place x1 y1 x2 y2 → ¬ P
      one_end_needs (inl o) end apart m = either {A = Leads ds x2 y1} (λ i. elim i [
        | inl p ↦ either {A = Leads ds x1 y2} (λ j. elim j [
          | inl r ↦ links_cross o end apart p r m
          | inr n ↦ beside place x2 y2 x1 y1 (strict_step (with_signs ps ss q) links are x2 y2 k2) (strict_step (with_signs ps ss q) links are x1 y1 k1) (turned_side place x1 y1 x2 y2 o) (turned_end ds x1 y1 x2 y2 end) n m
        ])
        | inr n ↦ beside place x1 y1 x2 y2 (strict_step (with_signs ps ss q) links are x1 y1 k1) (strict_step (with_signs ps ss q) links are x2 y2 k2) o end n m
      ])
      one_end_needs (inr (left_right e f)) end apart m = both place x1 y1 x2 y2 (strict_step (with_signs ps ss q) links are x1 y1 k1) (strict_step (with_signs ps ss q) links are x2 y2 k2) e f end m
      one_end_needs (inr (right_left e f)) end apart m =
          both place x2 y2 x1 y1 (strict_step (with_signs ps ss q) links are x2 y2 k2) (strict_step (with_signs ps ss q) links are x1 y1 k1) f e (turned_end ds x1 y1 x2 y2 end) m

      -- the first is free upward, the second downward
      pub two_ends_need : OneSide place x1 y1 x2 y2 ⊎ OtherSides place x1 y1 x2 y2 → AreApart ds place x1 y1 x2 y2 → NoTop ds x1 → NoBottom ds y2 → ¬ P
      two_ends_need o apart t b m = either {A = NoTop ds x2} (λ i. elim i [
        | inl s ↦ one_end_needs o (inl (t, s)) apart m
        | inr n ↦ opposed place x1 y1 x2 y2 (strict_step (with_signs ps ss q) links are x1 y1 k1) (side_one o) (strict_step (with_signs ps ss q) links are x2 y2 k2) (side_two o) t b (λ p. ends n p) m
      ])
        where
          side_one : OneSide place x1 y1 x2 y2 ⊎ OtherSides place x1 y1 x2 y2 → Side place x1 y1
          side_one (inl (lefts e f)) = at_left e
          side_one (inl (rights e f)) = at_right e
          side_one (inr (left_right e f)) = at_left e
          side_one (inr (right_left e f)) = at_right e

          side_two : OneSide place x1 y1 x2 y2 ⊎ OtherSides place x1 y1 x2 y2 → Side place x2 y2
          side_two (inl (lefts e f)) = at_left f
          side_two (inl (rights e f)) = at_right f
          side_two (inr (left_right e f)) = at_right f
          side_two (inr (right_left e f)) = at_left f

          -- a path from x1 to y2 would put y2 over an integer that is over x2
          ends : (NoTop ds x2 → ⊥) → Leads ds x1 y2 → ⊥
          ends n p = n (λ h l.
              over_all q within ps ss is x2 x1 (strict_named x1 y1 k1).0 (strict_grouped x2 y2 k2 ∙ sym (leads_grouped q within ps ss is x1 y2 p)) t h l (λ k.
              b (k.0 +ℤ pos 1) (λ v s. (let c = k.2 v s in let d = leads_bound (with_signs ps ss q) x1 y2 p v s in omega (arith, ints, c, d)))))
