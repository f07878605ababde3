-- A difference between two streams is one of the query or of a pair of the part; one that an end leaves free is one of the query, where each `<>` between
-- streams has a closed side, and so is each difference of a near part.
use Rattle.std.proofs.Common.{◌≡◌, ◌≢◌, pos, ◌⊎◌, inl, inr, List, ◌++◌, true, false, sym, ap, ◌∙◌, subst}
use Rattle.std.specs.List.{flat_map}
use Rattle.sem_query.specs.declared.atom.Attr.{Attr}
use Rattle.sem_query.specs.declared.atom.Element.TheVariants as element
use Rattle.sem_query.specs.declared.part.Pair.{Pair}
use Rattle.sem_query.specs.declared.part.Sign.{Sign}
use Rattle.sem_query.specs.Groups.{same_group}
use Rattle.sem_query.specs.Parts.{same_stream}
use Rattle.sem_query.specs.Query.{QueryValue, attrs_of, IsWithinLimits}
use Rattle.sem_query.proofs.Has.{Has, Has-append_left, Has-append_right, Has-flat_map}
use Rattle.sem_laws.proofs.Tests.{and-left, nat_true, not_both}
use Rattle.plan_split_pairs.specs.Ends.{has_both_ends}
use Rattle.plan_split_pairs.specs.Pairs.{split_pairs}
use Rattle.sem_whole.specs.System.{Difference, atom_bounds, domain_bounds, system}
use Rattle.sem_whole.specs.Links.{are_across}
use Rattle.sem_whole.specs.Signed.{op_of, all_said, with_signs}
use Rattle.sem_whole.proofs.Signed.{signed_attrs}
use Rattle.sem_split_bounds.specs.Near.{near_pairs, IsNearPart}
use Rattle.sem_split_bounds.specs.Split.{HasClosedUnlikes}
use Rattle.sem_split_bounds.proofs.Paths.{Step, step_leads, leads_bound}
use Rattle.sem_split_bounds.proofs.Ends.{Free, up, down, top_over, bottom_under}
use Rattle.sem_split_bounds.proofs.Parts.{IsPart, near_part, near_beside}
use Rattle.sem_split_bounds.proofs.PartSolutions.{step_named}
use Rattle.sem_split_bounds.proofs.Standing.{sides_of, across_if}
use Rattle.sem_split_bounds.proofs.Between.{no_integer, same_column, pair_sides, Source, of_pair, of_atom, of_domain, source, from_pair, lacks_both}

-- the sides of a pair
abbrev pub IsPairOf : Pair → Attr → Attr → Type 0
IsPairOf p a b = (p.left ≡ a) × (p.right ≡ element.Attr b)

-- each difference of a part between two streams that an end leaves free is one of the query
abbrev pub AreOfQuery : QueryValue → List Pair → List Sign → Type 0
AreOfQuery q ps ss = (x y : Attr) → Step (system (with_signs ps ss q)) x y → Free (system (with_signs ps ss q)) x y → Step (system q) x y

module _ (q : QueryValue) (within : IsWithinLimits q) (ps : List Pair) (ss : List Sign) (is : IsPart q ps ss) where
  abbrev ds : List Difference
  ds = system (with_signs ps ss q)

  -- the columns of a difference of a part are attributes of the query
  pub part_step_named : (x y : Attr) → Step ds x y → Has (attrs_of q.atoms) x × Has (attrs_of q.atoms) y
  part_step_named x y s =
      let n = step_named (with_signs ps ss q) x y s in
      let e : attrs_of (all_said ps ss ++ q.atoms) ≡ attrs_of q.atoms = signed_attrs q ps ss is.signed in
      (subst (λ xs. Has xs x) e n.0, subst (λ xs. Has xs y) e n.1)

  -- a difference of a part between two streams is one of the query, or of a pair of the part
  pub step_source : (x y : Attr) → Step ds x y → Step (system q) x y ⊎ ((p : Pair) × Has ps p × (IsPairOf p x y ⊎ IsPairOf p y x))
  step_source x y s = by (source q ps ss s.of s.among)
    where
      of_query : Has (system q) s.of → Step (system q) x y
      of_query h = record { of = s.of; among = h; left = s.left; right = s.right; across = s.across }

      by : Source q ps s.of → Step (system q) x y ⊎ ((p : Pair) × Has ps p × (IsPairOf p x y ⊎ IsPairOf p y x))
      by (of_pair p o h k) = inr (
        p,
        h,
        elim (sides_of (op_of o) (element.Attr p.left) p.right s.of k) [
          | inl e ↦ inl (same_column p.left x (sym e.0 ∙ s.left), sym e.1 ∙ s.right)
          | inr e ↦ inr (same_column p.left y (sym e.1 ∙ s.right), sym e.0 ∙ s.left)
        ],
      )
      by (of_atom t h k) = inl (of_query (Has-append_left (flat_map domain_bounds q.domains) (Has-flat_map atom_bounds q.atoms t s.of h k)))
      by (of_domain e h k) = inl (of_query (Has-append_right (flat_map atom_bounds q.atoms) (Has-flat_map domain_bounds q.domains e s.of h k)))

  -- neither side of a free difference has both ends by the text
  free_sides : (x y : Attr) → Step ds x y → Free ds x y → (has_both_ends q x ≡ false) × (has_both_ends q y ≡ false)
  free_sides x y s (up t) = (
    lacks_both q within ps ss is x (inl t),
    lacks_both q within ps ss is y (inl (top_over ds x y (pos 0) (leads_bound (with_signs ps ss q) x y (step_leads ds x y s)) t)),
  )
  free_sides x y s (down t) = (
    lacks_both q within ps ss is x (inr (bottom_under ds x y (pos 0) (leads_bound (with_signs ps ss q) x y (step_leads ds x y s)) t)),
    lacks_both q within ps ss is y (inr t),
  )

  module _ (closed : HasClosedUnlikes q) where
    -- a split pair of two streams has a side with both ends by the text
    pair_closed : (p : Pair) → Has (split_pairs q) p → (a b : Attr) → IsPairOf p a b → a.stream ≢ b.stream → (has_both_ends q a ≡ true) ⊎ (has_both_ends q b ≡ true)
    pair_closed p h a b i apart = elim (from_pair q within ps ss is p h) [
      | inl t ↦ elim (pair_sides t.0.left t.0.right p t.3) [
        | inl s ↦ closed t.0 t.1 t.2 a b (s.0 ∙ ap (λ c. element.Attr c) i.0) (s.1 ∙ i.1) apart
        | inr s ↦ elim (closed t.0 t.1 t.2 b a (s.1 ∙ i.1) (s.0 ∙ ap (λ c. element.Attr c) i.0) (λ e. apart (sym e))) [ inl e ↦ inr e | inr e ↦ inl e ]
      ]
      | inr o ↦ elim o [
        | inl k ↦ absurd (no_integer b k.0 (sym i.1 ∙ k.1))
        | inr c ↦ absurd (apart (ap (λ a. a.stream) (sym i.0) ∙ nat_true p.left.stream c.0.stream (and-left (same_stream p.left c.0) (same_group q.atoms p.left c.0) c.2)
            ∙ ap (λ a. a.stream) (same_column c.0 b (sym c.1 ∙ i.1))))
      ]
    ]

    pub step_of_query : AreOfQuery q ps ss
    step_of_query x y s free = elim (step_source x y s) [
      | inl o ↦ o
      | inr p ↦ absurd (elim p.2 [
        | inl e ↦ open_pair (pair_closed p.0 (is.from p.0 p.1) x y e s.across)
        | inr e ↦ open_pair (elim (pair_closed p.0 (is.from p.0 p.1) y x e (λ f. s.across (sym f))) [ inl f ↦ inr f | inr f ↦ inl f ])
      ])
    ]
      where
        open_pair : (has_both_ends q x ≡ true) ⊎ (has_both_ends q y ≡ true) → ⊥
        open_pair o = let f = free_sides x y s free in elim o [ inl e ↦ not_both (has_both_ends q x) e f.0 | inr e ↦ not_both (has_both_ends q y) e f.1 ]

-- no pair of a near part is of two streams
pub near_step_of_query : (q : QueryValue) → IsWithinLimits q → (ss : List Sign) → IsNearPart q ss → AreOfQuery q (near_pairs q) ss
near_step_of_query q within ss is x y s free = elim (step_source q within (near_pairs q) ss (near_part q within ss is) x y s) [
  | inl o ↦ o
  | inr p ↦ absurd (near_beside q p.0 p.1 (elim p.2 [ inl e ↦ between p.0 x y e s.across | inr e ↦ between p.0 y x e (λ f. s.across (sym f)) ]))
]
  where
    between : (p : Pair) (a b : Attr) → IsPairOf p a b → a.stream ≢ b.stream → are_across (element.Attr p.left) p.right ≡ true
    between p a b e n = subst (λ c. are_across (element.Attr c) p.right ≡ true) (sym e.0) (subst (λ z. are_across (element.Attr a) z ≡ true) (sym e.1) (across_if a b n))
