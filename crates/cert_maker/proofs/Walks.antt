-- What the walk adds.
use Rattle.std.proofs.Common.{◌≡◌, ℕ, inl, inr, ◌<◌, ◌≤◌, ◌+◌, ◌*◌, List, [], ◌∷◌, ◌++◌, map, length, length-append, append_assoc, Some, All, Result, Ok, Err, refl, sym, ◌∙◌, ap, subst, arith}
use Rattle.arrayvec.specs.ArrayVec.{ArrayVec as Items}
use Rattle.sem_query.specs.declared.atom.Attr.{Attr}
use Rattle.sem_query.specs.declared.part.Sign.{Sign}
use Rattle.sem_query.specs.declared.part.Pair.{Pair}
use Rattle.sem_query.specs.Query.{QueryValue, attrs_of, IsWithinLimits}
use Rattle.plan_constraints.specs.declared.constraint.Constraint.{Constraint}
use Rattle.plan_closure.specs.BoundsValue.{BoundsValue}
use Rattle.plan_constraints.specs.Solutions.{IsWithin, IsSatisfiable, IsNegativeCycle}
use Rattle.cert_format.specs.declared.line.Line.{Line}
use Rattle.cert_format.specs.declared.line.Line.TheVariants as line
use Rattle.cert_format.specs.Nodes.{Node, leaf as leaf_node, grouped, nodes_of}
use Rattle.cert_checker.specs.declared.shown.Shown.{Shown}
use Rattle.cert_checker.specs.Branching.{constraints_at}
use Rattle.cert_checker.specs.Branches.{AreBranches}
use Rattle.cert_checker.specs.Shown.{branching_of}
use Rattle.cert_checker.specs.Rules.{IsNextPair, IsRefuted}
use Rattle.cert_checker.specs.Reading.{AreGood, done, next, following}
use Rattle.cert_maker.specs.Leaf.{ArePathsTo, AddedLeaf, IsLeafTooMany, AddsLeaf}
use Rattle.cert_maker.specs.Tree.{AddsNext, IsPartOf, IsFrontOf, IsOpenOf, IsNode, SomeUnder, Walked, IsOver, of_parts, of_nodes, Walks}
use Rattle.cert_maker.specs.declared.error.MakeError.{MakeError}
use Rattle.cert_maker.specs.declared.error.MakeError.TheVariants as why
use Rattle.cert_maker.proofs.Forms.{branches_of, attrs_are}
use Rattle.cert_maker.proofs.Lines.{heads-append, nodes-append, length-nodes, leaf_alone}
use Rattle.cert_maker.proofs.Preorder.{three_good}
use Rattle.cert_maker.proofs.Beginnings.{none_against}
use Rattle.cert_maker.proofs.Under.{none_some, three_some, front_some, three_all, front_all, no_parts, one_part, not_part, no_fronts, whole_fronts}
use Rattle.cert_maker.proofs.AtLeaf.{good_leaf}

-- ---- a node

-- no node may be added
pub full : (w : MakeError) (l : Line) (s : Shown) (q : QueryValue) (pre : List Sign) (old mid new : List Line) (before after : ℕ) → AddsNext (Err w) l old mid → Walks (Err w) s q pre old new before after
full why.Limit l s q pre old mid new before after h = of_nodes [] (none_some (IsOpenOf s q) pre) (omega (arith, h.full))
full why.Memory l s q pre old mid new before after h = tt

-- where a part may not begin with the signs, one node that is good stands for all below them
closed_by : (s : Shown) (q : QueryValue) (pre : List Sign) (l : Line) (old new : List Line) (count : ℕ) → IsWithinLimits q → ¬ IsFrontOf s q pre → (grouped (l ∷ [])).paths ≡ [] → AreGood (branching_of s q) (Some pre) (nodes_of (l ∷ [])) (following pre) → length (nodes_of (l ∷ [])) ≡ 1
    → count ≤ 4096 → length (nodes_of (old ++ l ∷ [])) ≤ 262144 → new ≡ old ++ l ∷ [] → Walked s q pre old new count count
closed_by s q pre l old new count w n head good one few fit e =
    let b = branches_of s q w in
    record {
      added = l ∷ [];
      lines = e;
      head = head;
      good = good;
      parts = [];
      are_parts = no_parts (branching_of s q) (IsPartOf s q) (IsFrontOf s q) b pre n;
      counted = omega arith;
      few = few;
      fronts = [];
      are_fronts = no_fronts (branching_of s q) (IsPartOf s q) (IsFrontOf s q) b pre n;
      sized = omega (arith, one);
      fit = rw e fit;
    }

-- a comparison closes the branch
pub against : (s : Shown) (q : QueryValue) (pre : List Sign) (r : Result (Unit {0}) MakeError) (number : ℕ) (old new : List Line) (count : ℕ) → IsWithinLimits q → IsRefuted (branching_of s q) pre number → count ≤ 4096 → AddsNext r (line.Against number) old new → Walks r s q pre old new count count
against s q pre (Ok u) number old new count w y few h =
    closed_by s q pre (line.Against number) old new count w (none_against (branching_of s q) (IsPartOf s q) (IsFrontOf s q) (branches_of s q w) pre number y) refl (next y done) (omega arith) few h.0 h.1
against s q pre (Err e) number old new count w y few h = full e (line.Against number) s q pre old new new count count h

module _ (s : Shown) (q : QueryValue) (ps : List Pair) (pre : List Sign) (b : BoundsValue) (n : IsNode s q ps pre b) where
  branches : AreBranches (branching_of s q) (IsPartOf s q) (IsFrontOf s q)
  branches = branches_of s q n.limits

  room : length pre ≤ length (branching_of s q).pairs
  room = let e : length ps ≡ length (branching_of s q).pairs = ap length n.pairs in omega (arith, e, n.room)

  front_if : IsSatisfiable b.constraints → IsFrontOf s q pre
  front_if t = branches.opens pre room n.agree (subst IsSatisfiable n.constraints t)

  no_front : ¬ IsSatisfiable b.constraints → ¬ IsFrontOf s q pre
  no_front t f = t (subst IsSatisfiable (sym n.constraints) (branches.solved pre f))

  -- no integers meet the constraints
  pub infeasible : (r : Result (Unit {0}) MakeError) (numbers : Items ℕ) (old new : List Line) (count : ℕ) → IsNegativeCycle b.constraints numbers.items → ¬ IsSatisfiable b.constraints → count ≤ 4096 → AddsNext r (line.Infeasible numbers) old new → Walks r s q pre old new count count
  infeasible (Ok u) numbers old new count y t few h =
      closed_by s q pre (line.Infeasible numbers) old new count n.limits (no_front t) refl (next (subst (λ (z : List Constraint). IsNegativeCycle z numbers.items) n.constraints y) done) (omega arith) few h.0 h.1
  infeasible (Err w) numbers old new count y t few h = full w (line.Infeasible numbers) s q pre old new new count count h

  -- ---- a leaf

  leaf_added : (attrs : ℕ) (old new : List Line) (before after : ℕ) → length pre ≡ length ps → IsSatisfiable b.constraints → attrs ≡ length (attrs_of q.atoms) → AddedLeaf attrs b.constraints old new before after → Walked s q pre old new before after
  leaf_added attrs old new before after l t a h =
      let named : attrs ≡ length (branching_of s q).attrs = a ∙ ap length (sym (attrs_are s q)) in
      let are : ArePathsTo (length (branching_of s q).attrs) b.constraints 169 h.paths = subst (λ (z : ℕ). ArePathsTo z b.constraints 169 h.paths) named h.are in
      let within : All (IsWithin (length (branching_of s q).attrs)) (constraints_at (branching_of s q) pre) = subst (λ (z : List Attr). All (IsWithin (length z)) (constraints_at (branching_of s q) pre)) (sym (attrs_are s q)) n.within in
      let few : length (branching_of s q).attrs ≤ 12 = subst (λ (z : List Attr). length z ≤ 12) (sym (attrs_are s q)) n.limits.few_attrs in
      let whole : length pre ≡ length (branching_of s q).pairs = l ∙ ap length n.pairs in
      let nodes : nodes_of (line.Leaf ∷ map line.Path h.paths) ≡ leaf_node h.paths ∷ [] = leaf_alone h.paths in
      let good : AreGood (branching_of s q) (Some pre) (leaf_node h.paths ∷ []) (following pre) =
      next (good_leaf (branching_of s q) pre h.paths (record { whole = whole; agree = n.agree }) few within (subst IsSatisfiable n.constraints t) (subst (λ (z : List Constraint). ArePathsTo (length (branching_of s q).attrs) z 169 h.paths) n.constraints are)) done in
      record {
        added = line.Leaf ∷ map line.Path h.paths;
        lines = h.lines;
        head = refl;
        good = subst (λ (z : List Node). AreGood (branching_of s q) (Some pre) z (following pre)) (sym nodes) good;
        parts = pre ∷ [];
        are_parts = one_part (branching_of s q) (IsPartOf s q) (IsFrontOf s q) branches pre whole (front_if t);
        counted = h.counted;
        few = h.few;
        fronts = [];
        are_fronts = whole_fronts (branching_of s q) (IsPartOf s q) (IsFrontOf s q) branches pre whole;
        sized = ap length nodes;
        fit = (let whole_size : length (nodes_of new) ≡ length (nodes_of (old ++ line.Leaf ∷ map line.Path h.paths)) = ap (λ z. length (nodes_of z)) h.lines in
            omega (arith, whole_size, length-nodes old (line.Leaf ∷ map line.Path h.paths), length-nodes old (line.Leaf ∷ []), ap length nodes, h.room));
      }

  leaf_over : (old : List Line) (before : ℕ) → length pre ≡ length ps → IsSatisfiable b.constraints → IsLeafTooMany old before → IsOver s q pre (length (nodes_of old)) before
  leaf_over old before l t (inl e) = of_parts (pre ∷ []) (one_part (branching_of s q) (IsPartOf s q) (IsFrontOf s q) branches pre (l ∙ ap length n.pairs) (front_if t)).some (omega (arith, e))
  leaf_over old before l t (inr m) = of_nodes [] (none_some (IsOpenOf s q) pre) (omega (arith, m.full))

  -- all pairs have signs
  pub whole_node : (r : Result (Unit {0}) MakeError) (attrs : ℕ) (old new : List Line) (before after : ℕ) → length pre ≡ length ps → IsSatisfiable b.constraints → attrs ≡ length (attrs_of q.atoms) → AddsLeaf r attrs b.constraints old new before after → Walks r s q pre old new before after
  whole_node (Ok u) attrs old new before after l t a h = leaf_added attrs old new before after l t a h
  whole_node (Err why.Limit) attrs old new before after l t a h = leaf_over old before l t h
  whole_node (Err why.Memory) attrs old new before after l t a h = tt

-- ---- a split: its three subtrees, one after the other

module _ (s : Shown) (q : QueryValue) (ps : List Pair) (pre : List Sign) (b : BoundsValue) (n : IsNode s q ps pre b) (l : length pre < length ps) (t : IsSatisfiable b.constraints) (pair : ℕ) (number : pair ≡ length pre + 1) (old one : List Line) (e : one ≡ old ++ line.Split pair ∷ []) where
  short : length pre < length (branching_of s q).pairs
  short = let f : length ps ≡ length (branching_of s q).pairs = ap length n.pairs in omega (arith, f, l)

  front : IsOpenOf s q pre
  front = record { left = short; front = front_if s q ps pre b n t }

  size_one : length (nodes_of one) ≡ length (nodes_of old) + 1
  size_one = let a : length (nodes_of one) ≡ length (nodes_of (old ++ line.Split pair ∷ [])) = ap (λ z. length (nodes_of z)) e in omega (arith, a, length-nodes old (line.Split pair ∷ []))

  size_more : (ss : List Sign) (x y : List Line) (i j : ℕ) → (w : Walked s q ss x y i j) → length (nodes_of y) ≡ length (nodes_of x) + 1 + 3 * length w.fronts
  size_more ss x y i j w = let a : length (nodes_of y) ≡ length (nodes_of (x ++ w.added)) = ap (λ z. length (nodes_of z)) w.lines in omega (arith, a, length-nodes x w.added, w.sized)

  none : (P : List Sign → Type 0) (c : Sign) → SomeUnder P (pre ++ c ∷ []) []
  none P c = none_some P (pre ++ c ∷ [])

  three_length : {A : Type 0} (xs ys zs : List A) → length (xs ++ (ys ++ zs)) ≡ length xs + length ys + length zs
  three_length xs ys zs = omega (arith, length-append xs (ys ++ zs), length-append ys zs)

  over_less : (i : ℕ) → IsOver s q (pre ++ Sign.Lt ∷ []) (length (nodes_of one)) i → IsOver s q pre (length (nodes_of old)) i
  over_less i (of_parts xs u m) = of_parts (xs ++ ([] ++ [])) (three_some (IsPartOf s q) pre xs [] [] u (none (IsPartOf s q) Sign.Eq) (none (IsPartOf s q) Sign.Gt)) (omega (arith, m, three_length xs [] []))
  over_less i (of_nodes xs u m) = of_nodes (pre ∷ (xs ++ ([] ++ []))) (front_some (IsOpenOf s q) pre xs [] [] u (none (IsOpenOf s q) Sign.Eq) (none (IsOpenOf s q) Sign.Gt) front) (omega (arith, m, three_length xs [] [], size_one))

  -- where the first breaks off
  pub broke_less : (w : MakeError) (two new : List Line) (i j k : ℕ) → Walks (Err w) s q (pre ++ Sign.Lt ∷ []) one two i j → Walks (Err w) s q pre old new i k
  broke_less why.Limit two new i j k h = over_less i h
  broke_less why.Memory two new i j k h = tt

  module _ (two : List Line) (i j : ℕ) (x : Walked s q (pre ++ Sign.Lt ∷ []) one two i j) where
    over_equal : IsOver s q (pre ++ Sign.Eq ∷ []) (length (nodes_of two)) j → IsOver s q pre (length (nodes_of old)) i
    over_equal (of_parts ys u m) = of_parts (x.parts ++ (ys ++ [])) (three_some (IsPartOf s q) pre x.parts ys [] x.are_parts.some u (none (IsPartOf s q) Sign.Gt)) (omega (arith, m, three_length x.parts ys [], x.counted))
    over_equal (of_nodes ys u m) = of_nodes (pre ∷ (x.fronts ++ (ys ++ []))) (front_some (IsOpenOf s q) pre x.fronts ys [] x.are_fronts.some u (none (IsOpenOf s q) Sign.Gt) front) (omega (arith, m, three_length x.fronts ys [], size_one, size_more _ _ _ _ _ x))

    -- where the second does
    pub broke_equal : (w : MakeError) (three new : List Line) (k m : ℕ) → Walks (Err w) s q (pre ++ Sign.Eq ∷ []) two three j k → Walks (Err w) s q pre old new i m
    broke_equal why.Limit three new k m h = over_equal h
    broke_equal why.Memory three new k m h = tt

    module _ (three : List Line) (k : ℕ) (y : Walked s q (pre ++ Sign.Eq ∷ []) two three j k) where
      over_greater : IsOver s q (pre ++ Sign.Gt ∷ []) (length (nodes_of three)) k → IsOver s q pre (length (nodes_of old)) i
      over_greater (of_parts zs u m) = of_parts (x.parts ++ (y.parts ++ zs)) (three_some (IsPartOf s q) pre x.parts y.parts zs x.are_parts.some y.are_parts.some u) (omega (arith, m, three_length x.parts y.parts zs, x.counted, y.counted))
      over_greater (of_nodes zs u m) = of_nodes (pre ∷ (x.fronts ++ (y.fronts ++ zs))) (front_some (IsOpenOf s q) pre x.fronts y.fronts zs x.are_fronts.some y.are_fronts.some u front) (omega (arith, m, three_length x.fronts y.fronts zs, size_one, size_more _ _ _ _ _ x, size_more _ _ _ _ _ y))

      -- and the third, however it ends
      pub last : (r : Result (Unit {0}) MakeError) (new : List Line) (m : ℕ) → Walks r s q (pre ++ Sign.Gt ∷ []) three new k m → Walks r s q pre old new i m
      last (Ok u) new m z =
          let heads : (grouped (y.added ++ z.added)).paths ≡ [] = heads-append y.added z.added y.head z.head in
          let below : nodes_of (x.added ++ (y.added ++ z.added)) ≡ nodes_of x.added ++ (nodes_of y.added ++ nodes_of z.added) = nodes-append x.added (y.added ++ z.added) heads ∙ ap (λ w. nodes_of x.added ++ w) (nodes-append y.added z.added z.head) in
          let good : AreGood (branching_of s q) (Some (pre ++ Sign.Lt ∷ [])) (nodes_of (x.added ++ (y.added ++ z.added))) (following pre) =
          subst (λ (w : List Node). AreGood (branching_of s q) (Some (pre ++ Sign.Lt ∷ [])) w (following pre)) (sym below) (three_good (branching_of s q) pre (nodes_of x.added) (nodes_of y.added) (nodes_of z.added) x.good y.good z.good) in
          let size : length (nodes_of (x.added ++ (y.added ++ z.added))) ≡ length (nodes_of x.added) + length (nodes_of y.added) + length (nodes_of z.added) = ap length below ∙ three_length (nodes_of x.added) (nodes_of y.added) (nodes_of z.added) in
          let split_is : IsNextPair (branching_of s q) pre pair = record { next = omega (arith, number); left = short } in
          record {
            added = line.Split pair ∷ (x.added ++ (y.added ++ z.added));
            lines = z.lines ∙ ap (λ w. w ++ z.added) (y.lines ∙ ap (λ w. w ++ y.added) (x.lines ∙ ap (λ w. w ++ x.added) e)) ∙ simp append_assoc;
            head = refl;
            good = next split_is good;
            parts = x.parts ++ (y.parts ++ z.parts);
            are_parts = three_all (IsPartOf s q) pre x.parts y.parts z.parts x.are_parts y.are_parts z.are_parts (not_part (branching_of s q) (IsPartOf s q) (IsFrontOf s q) (branches s q ps pre b n) pre short);
            counted = omega (arith, x.counted, y.counted, z.counted, three_length x.parts y.parts z.parts);
            few = z.few;
            fronts = pre ∷ (x.fronts ++ (y.fronts ++ z.fronts));
            are_fronts = front_all (IsOpenOf s q) pre x.fronts y.fronts z.fronts x.are_fronts y.are_fronts z.are_fronts front;
            fit = z.fit;
            sized = omega (arith, size, x.sized, y.sized, z.sized, three_length x.fronts y.fronts z.fronts);
          }
      last (Err why.Limit) new m z = over_greater z
      last (Err why.Memory) new m z = tt
