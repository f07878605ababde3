-- No link of a part is `<>`: the sign of its pair says which of its sides is less, and so does what remains of the links.
use Rattle.std.proofs.Common.{◌≡◌, ◌≢◌, ℤ, pos, neg_ℤ, ◌+ℤ◌, ◌-ℤ◌, ◌≤ℤ◌, ◌⊎◌, inl, inr, Bool, true, false, cond, List, [], ◌∷◌, ◌++◌, map, refl, sym, ap, ◌∙◌, subst, arith}
use Rattle.std.proofs.lemmas.Int.{ints}
use Rattle.sem_query.specs.declared.atom.Atom.{Atom}
use Rattle.sem_query.specs.declared.atom.Attr.{Attr}
use Rattle.sem_query.specs.declared.atom.Element.{Element}
use Rattle.sem_query.specs.declared.atom.Element.TheVariants as element
use Rattle.sem_query.specs.declared.atom.Op.{Op}
use Rattle.sem_query.specs.declared.part.Pair.{Pair}
use Rattle.sem_query.specs.declared.part.Sign.{Sign}
use Rattle.sem_query.specs.Assignment.{Assignment}
use Rattle.sem_query.specs.Parts.{pair, pair_of, sign_at}
use Rattle.sem_query.specs.Query.{QueryValue, attr_lt, IsWithinLimits}
use Rattle.sem_query.proofs.Elements.{attr_separates}
use Rattle.sem_query.proofs.Has.{Has, first, later, Has-nil, Has-append_left, Has-append_cases, Has-filter, Has-map}
use Rattle.sem_query.proofs.Holding.{Holds-each}
use Rattle.plan_split_pairs.specs.Pairs.{split_pairs}
use Rattle.plan_split_pairs.specs.SplitParts.{IsSplitPart}
use Rattle.plan_split_parts.proofs.Unlike.{unlike_sign}
use Rattle.sem_whole.specs.System.{Difference, bounds_of, atom_bounds, system, Bound, IsOf}
use Rattle.sem_whole.specs.Links as between
use Rattle.sem_whole.specs.Links.{are_across, turned_by, between_streams, across, AreOfOne, Follows, Goes, Thins, AreLinks}
use Rattle.sem_whole.specs.Signed.{said, all_said}
use Rattle.sem_whole.proofs.CutLaw.{Stuck, link_stuck}
use Rattle.sem_whole.proofs.Signed.{said_no_unlike}
use Rattle.sem_whole.proofs.Suffice.{thins_among, once_has}
use Rattle.sem_forms.specs.Split.{part_query}
use Rattle.sem_split_bounds.proofs.PartSolutions.{unlike_split}
use Rattle.sem_split_bounds.proofs.OpenLinks.{turned_both, turned_unlike}
use Rattle.sem_split_bounds.proofs.Standing.{between_cases, between_other, regroup, regroup_back, IsColumnLink, no_difference, link_beside, sides_columns, across_if, turned_into, turned_of, column_across}
use Rattle.sem_split_bounds.proofs.Between.{pair_sides}

-- ---- what follows from comparisons follows from what remains of them

one_stream : (x y : Element) (a : Attr) → AreOfOne x (element.Attr a) → AreOfOne (element.Attr a) y → AreOfOne x y
one_stream x y a i j = (i.0, i.1, subst (λ place. IsOf place y) (sym j.1 ∙ i.2) j.2)

module _ (ds : List Difference) where
  -- from columns of the two streams to other elements of them
  follows_between : (ts : List Atom) (x y : Element) (p o : Attr) (by one two c : ℤ) → Follows ds ts (element.Attr p) (element.Attr o) by
      → AreOfOne x (element.Attr p) → Bound ds x (element.Attr p) one → AreOfOne (element.Attr o) y → Bound ds (element.Attr o) y two → (one +ℤ by +ℤ two) ≤ℤ c → Follows ds ts x y c
  follows_between ts x y p o by one two c (between.ranges high low a b l) i f j g m =
      between.ranges (one +ℤ high) (low -ℤ two) (λ v s. let n = f v s in let k = a v s in omega (arith, ints, n, k)) (λ v s. let n = g v s in let k = b v s in omega (arith, ints, n, k)) (omega (arith, ints, l, m))
  follows_between ts x y p o by one two c (between.link t h d k start end a b e z l) i f j g m =
      between.link t h d k (one +ℤ start) (end +ℤ two)
      (one_stream x d.left p i a) (λ v s. let n = f v s in let k = b v s in omega (arith, ints, n, k))
      (one_stream d.right y o e j) (λ v s. let n = g v s in let k = z v s in omega (arith, ints, n, k)) (omega (arith, ints, l, m))

  -- without a comparison that goes
  follows_without : (kept rest : List Atom) (gone : Atom) → Goes ds (kept ++ rest) gone → ((t : Atom) → Has (kept ++ gone ∷ rest) t → IsColumnLink ds t)
      → (x y : Element) (c : ℤ) → Follows ds (kept ++ gone ∷ rest) x y c → Follows ds (kept ++ rest) x y c
  follows_without kept rest gone g each x y c (between.ranges high low a b l) = between.ranges high low a b l
  follows_without kept rest gone g each x y c (between.link t h d k one two a b e z l) = elim (between_cases kept rest gone t h) [
    | inl same ↦ by (subst (λ t. Goes ds (kept ++ rest) t) same g)
    | inr j ↦ between.link t j d k one two a b e z l
  ]
    where
      by : Goes ds (kept ++ rest) t → Follows ds (kept ++ rest) x y c
      by (between.bounds n f) =
          let s = (each t h).each d k in
          follows_between (kept ++ rest) x y s.0 s.1 d.by one two c
          (subst (λ z. Follows ds (kept ++ rest) z (element.Attr s.1) d.by) s.3 (subst (λ z. Follows ds (kept ++ rest) d.left z d.by) s.4 (f d k)))
          (subst (AreOfOne x) s.3 a) (subst (λ z. Bound ds x z one) s.3 b) (subst (λ z. AreOfOne z y) s.4 e) (subst (λ z. Bound ds z y two) s.4 z) l
      by (between.less n f) = absurd (no_difference t d k n)
      by (between.greater n f) = absurd (no_difference t d k n)

  follows_among : (ts us : List Atom) → ((t : Atom) → Has ts t → Has us t) → (x y : Element) (c : ℤ) → Follows ds ts x y c → Follows ds us x y c
  follows_among ts us f x y c (between.ranges high low a b l) = between.ranges high low a b l
  follows_among ts us f x y c (between.link t h d k one two a b e z l) = between.link t (f t h) d k one two a b e z l

  follows_thinned : (kept rest result : List Atom) → Thins ds kept rest result → ((t : Atom) → Has (kept ++ rest) t → IsColumnLink ds t)
      → (x y : Element) (c : ℤ) → Follows ds (kept ++ rest) x y c → Follows ds result x y c
  follows_thinned kept [] result between.done each x y c f = follows_among (kept ++ []) kept (λ t h. elim (Has-append_cases kept [] t h) [ inl j ↦ j | inr j ↦ Has-nil j ]) x y c f
  follows_thinned kept (o ∷ rest) result (between.goes g r) each x y c f =
      follows_thinned kept rest result r (λ t j. each t (between_other kept rest o t j)) x y c (follows_without kept rest o g each x y c f)
  follows_thinned kept (o ∷ rest) result (between.stays g r) each x y c f =
      follows_thinned (kept ++ o ∷ []) rest result r (λ t j. each t (regroup_back kept rest o t j)) x y c
      (follows_among (kept ++ o ∷ rest) ((kept ++ o ∷ []) ++ rest) (regroup kept rest o) x y c f)

-- ---- the links of a part

-- the one is less than the other by the system and the links
abbrev AreUnlike : List Difference → List Atom → Element → Element → Type 0
AreUnlike ds links x y = Follows ds links x y (neg_ℤ (pos 1)) ⊎ Follows ds links y x (neg_ℤ (pos 1))

exchanged : (ds : List Difference) (links : List Atom) (x y : Element) → AreUnlike ds links x y → AreUnlike ds links y x
exchanged ds links x y (inl f) = inr f
exchanged ds links x y (inr f) = inl f

-- two columns have a pair
some_pair : (a b : Attr) → (a ≡ b → ⊥) → (p : Pair) × Has (pair_of (element.Attr a) (element.Attr b)) p
some_pair a b n = by (attr_lt a b) (attr_lt b a) refl refl
  where
    by : (c d : Bool) → attr_lt a b ≡ c → attr_lt b a ≡ d → (p : Pair) × Has (cond {A = List Pair} c (pair a (element.Attr b) ∷ []) (cond d (pair b (element.Attr a) ∷ []) [])) p
    by true d e f = (pair a (element.Attr b), first)
    by false true e f = (pair b (element.Attr a), first)
    by false false e f = absurd (n (attr_separates a b e f))

said_there : (v : Assignment) (ps : List Pair) (p : Pair) → Has ps p → Has (all_said ps (map (sign_at v) ps)) (said p (sign_at v p))
said_there v [] p h = elim h [ ]
said_there v (r ∷ ps) p first = first
said_there v (r ∷ ps) p (later h) = later (said_there v ps p h)

-- a link `<>` would go where one of its sides is less
unlike_goes : (r : QueryValue) (links : List Atom) → AreLinks r links → (t : Atom) → Has links t → t.op ≡ Op.Ne → AreUnlike (system r) links t.left t.right → ⊥
unlike_goes r links are t h e o = elim o [
  | inl f ↦ by t.left t.right f (λ ts g. between.less e g) s.0
  | inr f ↦ by t.right t.left f (λ ts g. between.greater e g) s.1
]
  where
    s : Stuck (system r) Op.Ne t.left t.right
    s = subst (λ o. Stuck (system r) o t.left t.right) e (link_stuck r links are t h)

    by : (x y : Element) → Follows (system r) links x y (neg_ℤ (pos 1)) → ((ts : List Atom) → Follows (system r) ts x y (neg_ℤ (pos 1)) → Goes (system r) ts t)
        → ((high low : ℤ) → Bound (system r) x (element.Const high) (pos 0) → Bound (system r) (element.Const low) y (pos 0) → high ≤ℤ (neg_ℤ (pos 1) +ℤ low) → ⊥) → ⊥
    by x y (between.ranges high low a b l) goes apart = apart high low a b l
    by x y (between.link m i d k one two a b f z l) goes apart =
        let n = link_beside r links are t m h i (λ g. no_difference m d k (sym (ap (λ t. t.op) g) ∙ e)) in
        n.2 (goes n.0 (between.link m n.1 d k one two a b f z l))

module _ (q : QueryValue) (within : IsWithinLimits q) (ss : List Sign) (is : IsSplitPart q ss) (links : List Atom) (are : AreLinks (part_query q ss) links) where
  abbrev ds : List Difference
  ds = system (part_query q ss)

  -- what a comparison of two columns says follows from the links
  atom_follows : (o : Atom) → Has (part_query q ss).atoms o → are_across o.left o.right ≡ true → (a b : Attr) (c : ℤ)
      → Has (atom_bounds o) record { left = element.Attr a; right = element.Attr b; by = c } → Follows ds links (element.Attr a) (element.Attr b) c
  atom_follows o h n a b c k =
      let i : Has (across (part_query q ss).atoms) (turned_by o.op o.left o.right)
      = once_has (between_streams (part_query q ss).atoms) (turned_by o.op o.left o.right) (Has-map (λ t. turned_by t.op t.left t.right) (Has-filter (λ t. are_across t.left t.right) n h)) in
      follows_thinned ds [] (across (part_query q ss).atoms) links are (column_across (part_query q ss)) (element.Attr a) (element.Attr b) c
      (between.link (turned_by o.op o.left o.right) i record { left = element.Attr a; right = element.Attr b; by = c }
      (turned_into o.op o.left o.right record { left = element.Attr a; right = element.Attr b; by = c } k) (pos 0) (pos 0)
      (a.stream, refl, refl) (λ v s. omega (arith, ints)) (b.stream, refl, refl) (λ v s. omega (arith, ints)) (omega (arith, ints)))

  -- by the sign of a pair that is not equal one of its sides is less
  pair_unlike : (p : Pair) → Has (split_pairs q) p → (b : Attr) → p.right ≡ element.Attr b → p.left.stream ≢ b.stream → sign_at is.one p ≢ Sign.Eq → AreUnlike ds links (element.Attr p.left) p.right
  pair_unlike p h b r n other =
      by (sign_at is.one p) refl (subst (λ ss. Has (all_said (split_pairs q) ss) (said p (sign_at is.one p))) is.has (said_there is.one (split_pairs q) p h))
    where
      apart : are_across (element.Attr p.left) p.right ≡ true
      apart = subst (λ y. are_across (element.Attr p.left) y ≡ true) (sym r) (across_if p.left b n)

      by : (s : Sign) → sign_at is.one p ≡ s → Has (all_said (split_pairs q) ss) (said p s) → AreUnlike ds links (element.Attr p.left) p.right
      by Sign.Eq e i = absurd (other e)
      by Sign.Lt e i = inl (subst (λ y. Follows ds links (element.Attr p.left) y (neg_ℤ (pos 1))) (sym r)
          (atom_follows (said p Sign.Lt) (Has-append_left q.atoms i) apart p.left b (neg_ℤ (pos 1))
          (subst (λ y. Has (bounds_of Op.Lt (element.Attr p.left) y) record { left = element.Attr p.left; right = element.Attr b; by = neg_ℤ (pos 1) }) (sym r) first)))
      by Sign.Gt e i = inr (subst (λ y. Follows ds links y (element.Attr p.left) (neg_ℤ (pos 1))) (sym r)
          (atom_follows (said p Sign.Gt) (Has-append_left q.atoms i) apart b p.left (neg_ℤ (pos 1))
          (subst (λ y. Has (bounds_of Op.Gt (element.Attr p.left) y) record { left = element.Attr b; right = element.Attr p.left; by = neg_ℤ (pos 1) }) (sym r) first)))

  -- so it is of the sides of each `<>` between streams
  atom_unlike : (t : Atom) → Has q.atoms t → t.op ≡ Op.Ne → (a b : Attr) → t.left ≡ element.Attr a → t.right ≡ element.Attr b → a.stream ≢ b.stream → AreUnlike ds links t.left t.right
  atom_unlike t h e a b l r n =
      let some = some_pair a b (λ f. n (ap (λ a. a.stream) f)) in
      of some.0 (subst (λ x. Has (pair_of x t.right) some.0) (sym l) (subst (λ y. Has (pair_of (element.Attr a) y) some.0) (sym r) some.1))
    where
      of : (p : Pair) → Has (pair_of t.left t.right) p → AreUnlike ds links t.left t.right
      of p i = elim (pair_sides t.left t.right p i) [
        | inl s ↦ subst (λ x. AreUnlike ds links x t.right) (sym s.0) (subst (AreUnlike ds links (element.Attr p.left)) (sym s.1)
            (pair_unlike p among b (sym s.1 ∙ r) (λ f. n (left_is a (sym l ∙ s.0) ∙ f)) signed))
        | inr s ↦ exchanged ds links t.right t.left (subst (λ x. AreUnlike ds links x t.left) (sym s.0) (subst (AreUnlike ds links (element.Attr p.left)) (sym s.1)
            (pair_unlike p among a (sym s.1 ∙ l) (λ f. n (sym (left_is b (sym r ∙ s.0) ∙ f))) signed)))
      ]
        where
          left_is : (c : Attr) → element.Attr c ≡ element.Attr p.left → c.stream ≡ p.left.stream
          left_is c f = grind (arith, f)

          among : Has (split_pairs q) p
          among = unlike_split q within t h e p i

          signed : sign_at is.one p ≢ Sign.Eq
          signed = unlike_sign is.one t e (Holds-each q is.one is.holds t h) p i

  -- and none of these remains
  pub no_unlike_link : (t : Atom) → Has links t → t.op ≡ Op.Ne → ⊥
  no_unlike_link t h e =
      let o = turned_of (part_query q ss) t (thins_among ds [] (across (part_query q ss).atoms) links are t h) in
      let f : o.0.op ≡ Op.Ne = turned_unlike o.0.op o.0.left o.0.right (ap (λ t. t.op) o.3 ∙ e) in
      elim (Has-append_cases (all_said (split_pairs q) ss) q.atoms o.0 o.1) [
        | inl i ↦ said_no_unlike (split_pairs q) ss o.0 i f
        | inr i ↦ (
            let c = sides_columns o.0.left o.0.right o.2 in
            let n : c.0.stream ≢ c.1.stream = apart c.0 c.1 (subst (λ x. are_across x (element.Attr c.1) ≡ true) c.2 (subst (λ y. are_across o.0.left y ≡ true) c.3 o.2)) in
            let w : AreUnlike ds links o.0.left o.0.right = atom_unlike o.0 i f c.0 c.1 c.2 c.3 n in
            unlike_goes (part_query q ss) links are t h e
            (subst (λ t. AreUnlike ds links t.left t.right) o.3 (turned_both (AreUnlike ds links) o.0.op o.0.left o.0.right w (exchanged ds links o.0.left o.0.right w))))
      ]
    where
      apart : (a b : Attr) → are_across (element.Attr a) (element.Attr b) ≡ true → a.stream ≢ b.stream
      apart a b k = grind (arith, k)
