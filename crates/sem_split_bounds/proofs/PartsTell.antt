-- A part that breaks the first or the second condition, or without DISTINCT any, tells; so its query needs many states.
use Rattle.std.proofs.Common.{◌≡◌, ◌≢◌, ℕ, pos, ◌⊎◌, inl, inr, List, refl, sym, subst}
use Rattle.std.specs.Prelude.{IsFalse}
use Rattle.sem_query.specs.declared.atom.Atom.{Atom}
use Rattle.sem_query.specs.declared.atom.Attr.{Attr}
use Rattle.sem_query.specs.declared.atom.Element.TheVariants as element
use Rattle.sem_query.specs.declared.condition.Condition.{Condition}
use Rattle.sem_query.specs.declared.condition.Condition.TheVariants.{C1, C2, C3}
use Rattle.sem_query.specs.declared.atom.Op.{Op}
use Rattle.sem_query.specs.declared.part.Pair.{Pair}
use Rattle.sem_query.specs.declared.part.Sign.{Sign}
use Rattle.sem_query.specs.Query.{QueryValue, IsWithinLimits, is_filter}
use Rattle.sem_query.proofs.Has.{Has}
use Rattle.plan_split_pairs.specs.Pairs.{split_pairs}
use Rattle.plan_split_pairs.specs.SplitParts.{IsSplitPart}
use Rattle.sem_whole.specs.System.{Difference, system, Bound}
use Rattle.sem_whole.specs.Links.{AreLinks}
use Rattle.sem_whole.specs.Signed.{with_signs}
use Rattle.sem_whole.specs.Kept as kept
use Rattle.sem_whole.specs.Kept.{IsKeptAsItIs, IsKeptRange}
use Rattle.sem_whole.specs.Whole.{IsFinite, IsOpenSide, WholeBreaks}
use Rattle.sem_whole.proofs.Formed.{query_formed}
use Rattle.sem_whole.proofs.Stands.{AreColumnsOf, link_columns}
use Rattle.sem_whole.proofs.Unbroken.{kept_own_range}
use Rattle.sem_lower_bounds.specs.States.{NeedsStates}
use Rattle.sem_lower_bounds.specs.Within.{written}
use Rattle.sem_lower_bounds.proofs.Formed.{formed}
use Rattle.sem_lower_bounds.proofs.Skipping.{written-decides-at}
use Rattle.sem_split_bounds.specs.Split.{HasToldUnlikes}
use Rattle.sem_split_bounds.specs.Refused.{BrokenPartsTell, CountedPartsTell}
use Rattle.sem_split_bounds.proofs.Paths.{Leads, Step, step_leads, leads_bound, leaving, entering}
use Rattle.sem_split_bounds.proofs.Ends.{NoTop, NoBottom, Free, up, down, top_over, bottom_under, open_ends}
use Rattle.sem_split_bounds.proofs.Motions.{tight}
use Rattle.sem_split_bounds.proofs.Parts.{IsPart, based, split_part, part_well_formed}
use Rattle.sem_split_bounds.proofs.PartSolutions.{base_solves}
use Rattle.sem_split_bounds.proofs.FreeSteps.{step_of_query}
use Rattle.sem_split_bounds.proofs.OpenLinks.{strict_not_unlike, link_op, link_steps, equal_steps, OpenLink, open_link}
use Rattle.sem_split_bounds.proofs.UnlikeLinks.{no_unlike_link}
use Rattle.sem_split_bounds.proofs.MovedFamilies.{open_column_needs, both_sides_need}
use Rattle.sem_split_bounds.proofs.Telling.{NeedsNone, ColumnTells, TwoSidesTell, OneStepTells}
use Rattle.sem_split_bounds.proofs.CountedUnlike.{counted_step_needs}

module _ (q : QueryValue) (within : IsWithinLimits q) (ps : List Pair) (ss : List Sign) (is : IsPart q ps ss) (P : Type 0) (column : ColumnTells q ps ss P) where
  abbrev r : QueryValue
  r = with_signs ps ss q

  abbrev ds : List Difference
  ds = system r

  pub selected_breaks : (links : List Atom) (a : Attr) → WholeBreaks r links C1 a → ¬ P
  selected_breaks links a b = column a b.0 (open_ends ds a b.1.0 b.1.1 b.1.2)

  -- all links of the part, and some of them, none of which is `<>`
  module _ (all : List Atom) (are : AreLinks r all) (links : List Atom) (from : (t : Atom) → Has links t → Has all t)
      (none : (t : Atom) → Has links t → t.op ≡ Op.Ne → ⊥) (two_sides_need : TwoSidesTell q ps ss P) where
    -- x and y lead to each other, and lack an end
    equals_need : (x y : Attr) → Step ds x y → Step ds y x → NoTop ds x ⊎ NoBottom ds x → ¬ P
    equals_need x y s t (inl n) =
        two_sides_need x.stream x y y x s t refl refl (inl (n, top_over ds x y (pos 0) (leads_bound r x y (step_leads ds x y s)) n))
    equals_need x y s t (inr n) =
        two_sides_need x.stream x y y x s t refl refl (inr (bottom_under ds y x (pos 0) (leads_bound r y x (step_leads ds y x t)) n, n))

    -- differences lead from a to a column of another stream and back
    circle_needs : (a b : Attr) → b.stream ≢ a.stream → Leads ds a b → Leads ds b a → NoTop ds a ⊎ NoBottom ds a → ¬ P
    circle_needs a b n p k o = elim (leaving ds a b p) [
      | inl e ↦ absurd (n (sym e))
      | inr l ↦ elim (entering ds b a k) [
        | inl e ↦ absurd (n e)
        | inr m ↦ two_sides_need a.stream l.0 l.1 m.0 m.1 l.4 m.3 l.3 m.4 (elim o [
          | inl t ↦ inl (
            top_over ds a l.0 (pos 0) (leads_bound r a l.0 l.2) t,
            top_over ds b m.0 (pos 0) (leads_bound r b m.0 m.2) (top_over ds a b (pos 0) (leads_bound r a b p) t),
          )
          | inr t ↦ inr (
            bottom_under ds l.1 b (pos 0) (leads_bound r l.1 b l.5) (bottom_under ds b a (pos 0) (leads_bound r b a k) t),
            bottom_under ds m.1 a (pos 0) (leads_bound r m.1 a m.5) t,
          )
        ])
      ]
    ]

    -- equal to a column of another stream, a column without an end
    equal_needs : (a b : Attr) → b.stream ≢ a.stream → Bound ds (element.Attr a) (element.Attr b) (pos 0) → Bound ds (element.Attr b) (element.Attr a) (pos 0)
        → NoTop ds a ⊎ NoBottom ds a → ¬ P
    equal_needs a b n below above (inl t) m =
        tight r is.one (base_solves q within ps ss (based q ps ss is)) a b (pos 0) (up t) below (λ p.
        tight r is.one (base_solves q within ps ss (based q ps ss is)) b a (pos 0) (up (top_over ds a b (pos 0) below t)) above (λ k.
        circle_needs a b n p k (inl t) m))
    equal_needs a b n below above (inr t) m =
        tight r is.one (base_solves q within ps ss (based q ps ss is)) a b (pos 0) (down (bottom_under ds b a (pos 0) above t)) below (λ p.
        tight r is.one (base_solves q within ps ss (based q ps ss is)) b a (pos 0) (down t) above (λ k.
        circle_needs a b n p k (inr t) m))

    -- a class that is kept as it is and lacks an end
    unended_needs : (a : Attr) → NoTop ds a ⊎ NoBottom ds a → IsKeptAsItIs r links a → ¬ P
    unended_needs a o (kept.selected b c h) = column b h (elim o [
      | inl t ↦ inl (top_over ds a b (pos 0) c.below t)
      | inr t ↦ inr (bottom_under ds b a (pos 0) c.above t)
    ])
    unended_needs a o (kept.linked t h e b s c) = at (link_columns r (query_formed r (part_well_formed q within ps ss is)) all are t (from t h))
      where
        over : NoTop ds b ⊎ NoBottom ds b
        over = elim o [
          | inl t ↦ inl (top_over ds a b (pos 0) c.below t)
          | inr t ↦ inr (bottom_under ds b a (pos 0) c.above t)
        ]

        at : AreColumnsOf r t → ¬ P
        at k = elim s [
          | inl i ↦ (let m = equal_steps r all are t (from t h) b k.right.attr i k.right.is e in equals_need b k.right.attr m.0 m.1 over)
          | inr i ↦ (let m = equal_steps r all are t (from t h) k.left.attr b k.left.is i e in equals_need b k.left.attr m.1 m.0 over)
        ]
    unended_needs a o (kept.equal b h n below above) = equal_needs a b n below above o

    kept_breaks : (a : Attr) → IsOpenSide r links a → IsKeptAsItIs r links a → ¬ P
    kept_breaks a o i =
        let k : IsKeptRange r links a o.unbounded.0 = o.unbounded.1 in
        let e : o.unbounded.0 ≡ k.own = kept_own_range r links a o.unbounded.0 k i in
        unended_needs a (open_ends ds a k.own k.is_own (λ f. o.unbounded.2 (subst IsFinite (sym e) f))) i

    counted_breaks : OneStepTells q ps ss P → (a : Attr) → IsOpenSide r links a → (IsKeptAsItIs r links a → ⊥) → ¬ P
    counted_breaks one a o n =
        let l : OpenLink r links a = open_link r links (λ t h. link_op r all are t (from t h)) none a o.unbounded n in
        one l.x l.y (link_steps r all are l.link (from l.link l.among) l.x l.y l.left l.right (strict_not_unlike l.link.op l.strict_or)) l.free

    -- by the first or the second condition, or where one free difference is enough by any
    pub breaks_need : (c : Condition) (a : Attr) → WholeBreaks r links c a → (c ≢ C3) ⊎ OneStepTells q ps ss P → ¬ P
    breaks_need C1 a b o = selected_breaks links a b
    breaks_need C2 a b o = elim b.1 [
      | inl i ↦ kept_breaks a b.0 i
      | inr u ↦ absurd (none u.link u.among u.unlike)
    ]
    breaks_need C3 a b (inl n) = absurd (n refl)
    breaks_need C3 a b (inr one) = counted_breaks one a b.0 b.1

-- ---- split parts

module _ (q : QueryValue) (within : IsWithinLimits q) (ss : List Sign) (is : IsSplitPart q ss) (joins : IsFalse (is_filter q)) (told : HasToldUnlikes q) where
  split_sides_need : TwoSidesTell q (split_pairs q) ss (NeedsNone q)
  split_sides_need place x1 y1 x2 y2 s1 s2 e1 e2 o m = elim told [
    | inl closed ↦ both_sides_need q within (split_pairs q) ss (based q (split_pairs q) ss (split_part q within ss is)) (step_of_query q within (split_pairs q) ss (split_part q within ss is) closed)
        place x1 y1 x2 y2 s1 s2 e1 e2 o m
    | inr d ↦ counted_step_needs q within ss is joins d x1 y1 s1 (elim o [ inl t ↦ up t.0 | inr t ↦ down t.0 ]) m
  ]

pub broken-parts-tell : BrokenPartsTell
broken-parts-tell q within joins told ss is links are c a b o =
    (written-decides-at q (formed q within)).1 (breaks_need q within (split_pairs q) ss (split_part q within ss is) (NeedsNone q)
    (open_column_needs q within (split_pairs q) ss (based q (split_pairs q) ss (split_part q within ss is)) joins) links are links (λ t h. h) (no_unlike_link q within ss is links are)
    (split_sides_need q within ss is joins told) c a b (elim o [ inl n ↦ inl n | inr d ↦ inr (counted_step_needs q within ss is joins d) ]))

pub counted-parts-tell : CountedPartsTell
counted-parts-tell q within joins d ss is links are c a b = broken-parts-tell q within joins (inr d) ss is links are c a b (inr d)
