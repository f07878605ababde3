-- A part that breaks a condition tells that its query needs many states, with DISTINCT or without.
use Rattle.std.proofs.Common.{◌≡◌, ℤ, pos, neg_ℤ, ◌+ℤ◌, ◌-ℤ◌, ◌≤ℤ◌, ◌⊎◌, inl, inr, List, true, refl, sym, ◌∙◌, subst, arith}
use Rattle.std.proofs.lemmas.Int.{ints}
use Rattle.sem_query.specs.declared.atom.Atom.{Atom}
use Rattle.sem_query.specs.declared.atom.Attr.{Attr}
use Rattle.sem_query.specs.declared.atom.Element.{Element}
use Rattle.sem_query.specs.declared.atom.Element.TheVariants as element
use Rattle.sem_query.specs.declared.atom.Op.{Op}
use Rattle.sem_query.specs.declared.condition.Condition.{Condition}
use Rattle.sem_query.specs.declared.condition.Condition.TheVariants.{C1, C2, C3}
use Rattle.sem_query.specs.declared.part.Pair.{Pair}
use Rattle.sem_query.specs.declared.part.Sign.{Sign}
use Rattle.sem_query.specs.Query.{QueryValue, IsWithinLimits}
use Rattle.sem_query.proofs.Has.{Has}
use Rattle.sem_laws.proofs.Tests.{true_or_false, not_both}
use Rattle.plan_split_pairs.specs.Pairs.{split_pairs}
use Rattle.plan_split_pairs.specs.SplitParts.{IsSplitPart}
use Rattle.sem_whole.specs.System.{Difference, system, Bound, AreOneClass}
use Rattle.sem_whole.specs.Links.{AreLinks}
use Rattle.sem_whole.specs.Kept as kept
use Rattle.sem_whole.specs.Kept.{IsKeptAsItIs}
use Rattle.sem_whole.specs.Whole.{IsLeftAlone, IsRightAlone, IsOneWay, HasEarlier, WholeBreaks}
use Rattle.sem_whole.proofs.CutLaw.{Stuck, link_stuck}
use Rattle.sem_whole.proofs.Formed.{query_formed}
use Rattle.sem_whole.proofs.Stands.{AreColumnsOf, link_columns}
use Rattle.sem_whole.specs.Signed.{with_signs}
use Rattle.sem_forms.specs.Split.{part_query}
use Rattle.sem_lower_bounds.specs.States.{NeedsStates}
use Rattle.sem_lower_bounds.specs.Within.{written, NeedsStatesWithin}
use Rattle.sem_lower_bounds.proofs.Formed.{formed}
use Rattle.sem_lower_bounds.proofs.Possible.{either}
use Rattle.sem_lower_bounds.proofs.Skipping.{written-decides-at}
use Rattle.sem_split_bounds.specs.Split.{HasClosedUnlikes, BrokenPartsNeedStates}
use Rattle.sem_split_bounds.proofs.Ends.{NoTop, NoBottom, Free, up, down, top_over, bottom_under}
use Rattle.sem_split_bounds.proofs.OpenLinks.{link_op, OpenLink, open_link}
use Rattle.sem_split_bounds.proofs.UnlikeLinks.{no_unlike_link}
use Rattle.sem_split_bounds.proofs.Parts.{IsPart, based, split_part, part_well_formed}
use Rattle.sem_split_bounds.proofs.FreeSteps.{AreOfQuery, step_of_query}
use Rattle.sem_split_bounds.proofs.MovedFamilies.{both_sides_need}
use Rattle.sem_split_bounds.proofs.OpposedFamilies.{Side, at_left, at_right, OneSide, OtherSides, sides_of_both, OneEnd, apart_need, beside_need}
use Rattle.sem_split_bounds.proofs.Telling.{NeedsNone, TwoSidesTell, BesideTells, OpposedTell}
use Rattle.sem_split_bounds.proofs.Between.{over_all, under_all}
use Rattle.sem_split_bounds.proofs.CrossedLinks.{turned_sides, IsStrict, open_strict, strict_step, strict_bound, strict_named, strict_grouped, AreApart, one_end_needs, two_ends_need}
use Rattle.sem_split_bounds.proofs.PartsTell.{broken-parts-tell}

-- no two integers part the sides of `<` or `<=` where the ranges of the sides do not imply it
strict_stuck : (ds : List Difference) (o : Op) (x y : Element) → (o ≡ Op.Lt) ⊎ (o ≡ Op.Le) → Stuck ds o x y
    → (high low : ℤ) → Bound ds x (element.Const high) (pos 0) → Bound ds (element.Const low) y (pos 0) → high ≤ℤ (neg_ℤ (pos 1) +ℤ low) → ⊥
strict_stuck ds Op.Lt x y i s high low a b l = s high low a b l
strict_stuck ds Op.Le x y i s high low a b l = s high low a b (omega (arith, ints, l))
strict_stuck ds Op.Gt x y i s high low a b l = elim i [ inl e ↦ cc | inr e ↦ cc ]
strict_stuck ds Op.Ge x y i s high low a b l = elim i [ inl e ↦ cc | inr e ↦ cc ]
strict_stuck ds Op.Eq x y i s high low a b l = elim i [ inl e ↦ cc | inr e ↦ cc ]
strict_stuck ds Op.Ne x y i s high low a b l = elim i [ inl e ↦ cc | inr e ↦ cc ]

class_turned : (ds : List Difference) (a b : Attr) → AreOneClass ds a b → AreOneClass ds b a
class_turned ds a b c = record { stream = sym c.stream; below = c.above; above = c.below }

-- two classes with members of one class are one
one_class : (ds : List Difference) (a b x y : Attr) → AreOneClass ds a x → AreOneClass ds b y → AreOneClass ds x y → AreOneClass ds a b
one_class ds a b x y c d e = record {
  stream = c.stream ∙ e.stream ∙ sym d.stream;
  below = λ v s. let f = c.below v s in let g = e.below v s in let h = d.above v s in omega (arith, ints, f, g, h);
  above = λ v s. let f = c.above v s in let g = e.above v s in let h = d.below v s in omega (arith, ints, f, g, h);
}

module _ (q : QueryValue) (within : IsWithinLimits q) (ps : List Pair) (ss : List Sign) (is : IsPart q ps ss) (P : Type 0) (two_sides : TwoSidesTell q ps ss P)
    (all : List Atom) (are : AreLinks (with_signs ps ss q) all) (links : List Atom) (from : (t : Atom) → Has links t → Has all t)
    (none : (t : Atom) → Has links t → t.op ≡ Op.Ne → ⊥) where
  abbrev ds : List Difference
  ds = system (with_signs ps ss q)

  module _ (beside : BesideTells q ps ss P) (opposed : OpposedTell q ps ss P) where
    -- two open classes of one stream
    two_classes_need : (a b : Attr) → a.stream ≡ b.stream → (AreOneClass ds a b → ⊥) → OpenLink (with_signs ps ss q) links a → OpenLink (with_signs ps ss q) links b → ¬ P
    two_classes_need a b e other l m = by l.free m.free
      where
        k1 : IsStrict all l.x l.y
        k1 = open_strict (with_signs ps ss q) all links from a l

        k2 : IsStrict all m.x m.y
        k2 = open_strict (with_signs ps ss q) all links from b m

        side_of : (c : Attr) (n : OpenLink (with_signs ps ss q) links c) → c.stream ≡ a.stream → Side a.stream n.x n.y
        side_of c n f = elim n.class [
          | inl k ↦ at_left (sym k.stream ∙ f)
          | inr k ↦ at_right (sym k.stream ∙ f)
        ]

        sides : OneSide a.stream l.x l.y m.x m.y ⊎ OtherSides a.stream l.x l.y m.x m.y
        sides = sides_of_both a.stream l.x l.y m.x m.y (side_of a l refl) (side_of b m (sym e))

        -- the side of a link that is in the stream of its class is of the class
        left_class : (c : Attr) (n : OpenLink (with_signs ps ss q) links c) → c.stream ≡ n.x.stream → AreOneClass ds c n.x
        left_class c n f = elim n.class [ inl k ↦ k | inr k ↦ absurd ((strict_step (with_signs ps ss q) all are n.x n.y (open_strict (with_signs ps ss q) all links from c n)).across (sym f ∙ k.stream)) ]

        right_class : (c : Attr) (n : OpenLink (with_signs ps ss q) links c) → c.stream ≡ n.y.stream → AreOneClass ds c n.y
        right_class c n f = elim n.class [ inl k ↦ absurd ((strict_step (with_signs ps ss q) all are n.x n.y (open_strict (with_signs ps ss q) all links from c n)).across (sym k.stream ∙ f)) | inr k ↦ k ]

        apart : AreApart ds a.stream l.x l.y m.x m.y
        apart = (
          λ f g c. other (one_class ds a b l.x m.x (left_class a l (sym f)) (left_class b m (sym e ∙ sym g)) c),
          λ f g c. other (one_class ds a b l.y m.y (right_class a l (sym f)) (right_class b m (sym e ∙ sym g)) c),
        )

        apart_turned : AreApart ds a.stream m.x m.y l.x l.y
        apart_turned = (λ f g c. apart.0 g f (class_turned ds m.x l.x c), λ f g c. apart.1 g f (class_turned ds m.y l.y c))

        by : Free ds l.x l.y → Free ds m.x m.y → ¬ P
        by (up t) (up s) = one_end_needs q within ps ss is P two_sides all are a.stream l.x l.y m.x m.y k1 k2 beside opposed sides (inl (t, s)) apart
        by (down t) (down s) = one_end_needs q within ps ss is P two_sides all are a.stream l.x l.y m.x m.y k1 k2 beside opposed sides (inr (t, s)) apart
        by (up t) (down s) = two_ends_need q within ps ss is P two_sides all are a.stream l.x l.y m.x m.y k1 k2 beside opposed sides apart t s
        by (down t) (up s) = two_ends_need q within ps ss is P two_sides all are a.stream m.x m.y l.x l.y k2 k1 beside opposed (turned_sides a.stream l.x l.y m.x m.y sides) apart_turned s t

  -- an open link of a class, and one with the class on its other side
  left_then_right : (a x1 y1 x2 y2 : Attr) (k1 : IsStrict all x1 y1) (k2 : IsStrict all x2 y2) → AreOneClass ds a x1 → AreOneClass ds a y2 → Free ds x1 y1 → ¬ P
  left_then_right a x1 y1 x2 y2 k1 k2 c d (up t) m = either {A = NoTop ds x2} (λ i. elim i [
    | inl s ↦ both (inl (t, s)) m
    | inr n ↦ n (λ h l. over_all q within ps ss is x2 y2 (strict_named q within ps ss is P two_sides all are x2 y2 k2).1 (strict_grouped q within ps ss is P two_sides all are x2 y2 k2) over h l (λ k.
        strict_stuck ds k2.one.op (element.Attr x2) (element.Attr y2) k2.strict
        (subst (λ z. Stuck ds k2.one.op z (element.Attr y2)) k2.left (subst (λ z. Stuck ds k2.one.op k2.one.left z) k2.right (link_stuck (with_signs ps ss q) all are k2.one k2.among)))
        k.0 (k.0 +ℤ pos 1) k.1 k.2 (omega (arith, ints))))
  ])
    where
      both : OneEnd ds x1 y1 x2 y2 → ¬ P
      both end = two_sides a.stream x1 y1 x2 y2 (strict_step (with_signs ps ss q) all are x1 y1 k1) (strict_step (with_signs ps ss q) all are x2 y2 k2) (sym c.stream) (sym d.stream) end

      over : NoTop ds y2
      over = top_over ds a y2 (pos 0) d.below (top_over ds x1 a (pos 0) c.above t)
  left_then_right a x1 y1 x2 y2 k1 k2 c d (down b) m =
      two_sides a.stream x1 y1 x2 y2 (strict_step (with_signs ps ss q) all are x1 y1 k1) (strict_step (with_signs ps ss q) all are x2 y2 k2) (sym c.stream) (sym d.stream)
      (inr (b, bottom_under ds y2 a (pos 0) d.above (bottom_under ds a x1 (pos 0) c.below (bottom_under ds x1 y1 (pos 0) (strict_bound (with_signs ps ss q) all are x1 y1 k1) b)))) m

  -- the same with left and right exchanged
  right_then_left : (a x1 y1 x2 y2 : Attr) (k1 : IsStrict all x1 y1) (k2 : IsStrict all x2 y2) → AreOneClass ds a y1 → AreOneClass ds a x2 → Free ds x1 y1 → ¬ P
  right_then_left a x1 y1 x2 y2 k1 k2 c d (up t) m =
      two_sides a.stream x2 y2 x1 y1 (strict_step (with_signs ps ss q) all are x2 y2 k2) (strict_step (with_signs ps ss q) all are x1 y1 k1) (sym d.stream) (sym c.stream)
      (inl (top_over ds a x2 (pos 0) d.below (top_over ds y1 a (pos 0) c.above (top_over ds x1 y1 (pos 0) (strict_bound (with_signs ps ss q) all are x1 y1 k1) t)), t)) m
  right_then_left a x1 y1 x2 y2 k1 k2 c d (down b) m = either {A = NoBottom ds y2} (λ i. elim i [
    | inl s ↦ both (inr (s, b)) m
    | inr n ↦ n (λ h l. under_all q within ps ss is y2 x2 (strict_named q within ps ss is P two_sides all are x2 y2 k2).0 (sym (strict_grouped q within ps ss is P two_sides all are x2 y2 k2)) under h l (λ k.
        strict_stuck ds k2.one.op (element.Attr x2) (element.Attr y2) k2.strict
        (subst (λ z. Stuck ds k2.one.op z (element.Attr y2)) k2.left (subst (λ z. Stuck ds k2.one.op k2.one.left z) k2.right (link_stuck (with_signs ps ss q) all are k2.one k2.among)))
        (k.0 -ℤ pos 1) k.0 k.2 k.1 (omega (arith, ints))))
  ])
    where
      both : OneEnd ds x2 y2 x1 y1 → ¬ P
      both end = two_sides a.stream x2 y2 x1 y1 (strict_step (with_signs ps ss q) all are x2 y2 k2) (strict_step (with_signs ps ss q) all are x1 y1 k1) (sym d.stream) (sym c.stream) end

      under : NoBottom ds x2
      under = bottom_under ds x2 a (pos 0) d.above (bottom_under ds a y1 (pos 0) c.below b)

  -- ---- the third condition

  module _ (a : Attr) (other : IsKeptAsItIs (with_signs ps ss q) links a → ⊥) (l : OpenLink (with_signs ps ss q) links a) (goal : ¬ ¬ P) where
    -- a link of the class is neither `=` nor `<>`
    strict_link : (t : Atom) → Has links t → (b : Attr) → AreOneClass ds a b → (t.left ≡ element.Attr b) ⊎ (t.right ≡ element.Attr b) → (t.op ≡ Op.Lt) ⊎ (t.op ≡ Op.Le)
    strict_link t h b c s = elim (link_op (with_signs ps ss q) all are t (from t h)) [
      | inl o ↦ o
      | inr o ↦ elim o [ inl e ↦ absurd (other (kept.linked t h e b s c)) | inr e ↦ absurd (none t h e) ]
    ]

    columns_of : (t : Atom) → Has links t → AreColumnsOf (with_signs ps ss q) t
    columns_of t h = link_columns (with_signs ps ss q) (query_formed (with_signs ps ss q) (part_well_formed q within ps ss is)) all are t (from t h)

    -- where its open link has it on the left, no link has it on the right
    left_alone : AreOneClass ds a l.x → IsLeftAlone (with_signs ps ss q) links a
    left_alone c = record {
      other = other;
      left = λ t h b d e. strict_link t h b d (inl e);
      right = λ t h b d e. (let k : AreColumnsOf (with_signs ps ss q) t = columns_of t h in
          goal (left_then_right a l.x l.y k.left.attr b (open_strict (with_signs ps ss q) all links from a l)
          record { one = t; among = from t h; strict = strict_link t h b d (inr e); left = k.left.is; right = e } c d l.free));
    }

    -- where it has it on the right, no link has it on the left
    right_alone : AreOneClass ds a l.y → IsRightAlone (with_signs ps ss q) links a
    right_alone c = record {
      other = other;
      left = λ t h b d e. (let k : AreColumnsOf (with_signs ps ss q) t = columns_of t h in
          goal (right_then_left a l.x l.y b k.right.attr (open_strict (with_signs ps ss q) all links from a l)
          record { one = t; among = from t h; strict = strict_link t h b d (inl e); left = e; right = k.right.is } c d l.free));
      right = λ t h b d e. strict_link t h b d (inr e);
    }

    one_way : IsOneWay (with_signs ps ss q) links a
    one_way = elim l.class [ inl c ↦ inl (left_alone c) | inr c ↦ inr (right_alone c) ]

  not_kept : (a : Attr) → IsOneWay (with_signs ps ss q) links a → IsKeptAsItIs (with_signs ps ss q) links a → ⊥
  not_kept a (inl w) = w.other
  not_kept a (inr w) = w.other

  -- with DISTINCT: so it may be the extreme of its stream, and an earlier open class is that already
  pub distinct_breaks : BesideTells q ps ss P → OpposedTell q ps ss P → q.distinct ≡ true → (a : Attr) → WholeBreaks (with_signs ps ss q) links C3 a → ¬ P
  distinct_breaks beside opposed distinct a b m =
      let l : OpenLink (with_signs ps ss q) links a = open_link (with_signs ps ss q) links (λ t h. link_op (with_signs ps ss q) all are t (from t h)) none a b.0.unbounded b.1 in
      let e : HasEarlier (with_signs ps ss q) links a = b.3 distinct (one_way a b.1 l (λ n. n m)) in
      let k : OpenLink (with_signs ps ss q) links e.first
      = open_link (with_signs ps ss q) links (λ t h. link_op (with_signs ps ss q) all are t (from t h)) none e.first e.unbounded.unbounded (not_kept e.first e.way) in
      two_classes_need beside opposed e.first a e.stream e.apart k l m

-- ---- split parts

closed_breaks : (q : QueryValue) → IsWithinLimits q → HasClosedUnlikes q → (ss : List Sign) → IsSplitPart q ss → (links : List Atom) → AreLinks (part_query q ss) links
    → q.distinct ≡ true → (a : Attr) → WholeBreaks (part_query q ss) links C3 a → NeedsStates (written q)
closed_breaks q within closed ss is links are d =
    distinct_breaks q within (split_pairs q) ss part (NeedsNone q) (both_sides_need q within (split_pairs q) ss (based q (split_pairs q) ss part) steps) links are links (λ t h. h) (no_unlike_link q within ss is links are)
    (beside_need q within (split_pairs q) ss (based q (split_pairs q) ss part) steps d) (apart_need q within (split_pairs q) ss (based q (split_pairs q) ss part) steps d) d
  where
    part : IsPart q (split_pairs q) ss
    part = split_part q within ss is

    steps : AreOfQuery q (split_pairs q) ss
    steps = step_of_query q within (split_pairs q) ss part closed

pub broken-parts-need-states : BrokenPartsNeedStates
broken-parts-need-states q within joins told ss is links are c a b = elim (true_or_false q.distinct) [
  | inl d ↦ by c b d
  | inr d ↦ broken-parts-tell q within joins told ss is links are c a b (inr d)
]
  where
    by : (c : Condition) → WholeBreaks (part_query q ss) links c a → q.distinct ≡ true → NeedsStatesWithin q
    by C1 b d = broken-parts-tell q within joins told ss is links are C1 a b (inl (λ e. absurd cc))
    by C2 b d = broken-parts-tell q within joins told ss is links are C2 a b (inl (λ e. absurd cc))
    by C3 b d = elim told [
      | inl closed ↦ (written-decides-at q (formed q within)).1 (closed_breaks q within closed ss is links are d a b)
      | inr n ↦ absurd (not_both q.distinct d n)
    ]
