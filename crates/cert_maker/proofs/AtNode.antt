-- The bounds of a node, one sign deeper.
use Rattle.std.proofs.Common.{◌≡◌, ◌<◌, ◌≤◌, ◌+◌, List, [], ◌∷◌, ◌++◌, append-nil, append_assoc, map, length, length-append, slice_get, slice_index_or, Some, None, Contains, All, refl, sym, ◌∙◌, ap, subst, arith}
use Rattle.std.proofs.lemmas.List.Elements.{All-append, Contains-get_or}
use Rattle.sem_query.specs.declared.atom.Attr.{Attr}
use Rattle.sem_query.specs.declared.atom.Atom.{Atom}
use Rattle.sem_query.specs.declared.atom.Element.TheVariants as element
use Rattle.sem_query.specs.declared.part.Pair.{Pair}
use Rattle.sem_query.specs.declared.part.Sign.{Sign}
use Rattle.sem_query.specs.Query.{QueryValue, attrs_of, IsWithinLimits}
use Rattle.sem_query.proofs.Has.{Has, Has-from_contains}
use Rattle.plan_constraints.specs.declared.constraint.Constraint.{Constraint}
use Rattle.plan_constraints.specs.Nodes.{constraints_of}
use Rattle.plan_constraints.specs.PartConstraints.{of_signs}
use Rattle.plan_constraints.specs.Solutions.{IsWithin}
use Rattle.plan_constraints.proofs.Link.{of_signs_more, of_no_signs}
use Rattle.plan_constraints.proofs.NodeFacts.{length-constraints}
use Rattle.plan_constraints.proofs.Prefix.{pair_at}
use Rattle.plan_closure.specs.BoundsValue.{BoundsValue}
use Rattle.sem_whole.specs.System.{atom_bounds}
use Rattle.sem_whole.specs.Signed.{said, IsSide}
use Rattle.plan_whole.specs.Closed.{constraint_of}
use Rattle.cert_checker.specs.declared.shown.Shown.{Shown}
use Rattle.cert_checker.specs.Branching.{Branching, constraints_at}
use Rattle.cert_checker.specs.Shown.{branching_of}
use Rattle.cert_maker.specs.Tree.{ClosesAgainst, IsNode}
use Rattle.cert_maker.proofs.Forms.{attrs_are, atoms_are, pair_sides}

-- what a sign says are its constraints
sign_says : (xs : List Attr) (p : Pair) (t : Sign) → map (constraint_of xs) (atom_bounds (said p t)) ≡ constraints_of xs (element.Attr p.left) t p.right
sign_says xs p Sign.Lt = refl
sign_says xs p Sign.Eq = refl
sign_says xs p Sign.Gt = refl

-- one more sign adds the constraints of its pair
signs_more : (b : Branching) (pre : List Sign) (p : Pair) (t : Sign) → slice_get b.pairs (length pre) ≡ Some p → constraints_at b (pre ++ t ∷ []) ≡ constraints_at b pre ++ constraints_of b.attrs (element.Attr p.left) t p.right
signs_more b pre p t h =
    ap (λ z. b.base ++ z) (of_signs_more b.attrs b.pairs pre p t h)
    ∙ sym (append_assoc b.base (of_signs b.attrs b.pairs pre) (constraints_of b.attrs (element.Attr p.left) t p.right))

-- without signs there are those of the root
no_signs : (b : Branching) → constraints_at b [] ≡ b.base
no_signs b = ap (λ z. b.base ++ z) (of_no_signs b.attrs b.pairs) ∙ append-nil b.base

module _ (s : Shown) (q : QueryValue) (ps : List Pair) (pre : List Sign) (b : BoundsValue) (n : IsNode s q ps pre b) (l : length pre < length ps) (d : Pair) where
  -- the pair of the next sign
  abbrev p : Pair
  p = slice_index_or ps (length pre) d

  -- its sides
  pub next_sides : Contains (attrs_of q.atoms) p.left × IsSide (attrs_of q.atoms) p.right
  next_sides = pair_sides s q n.limits p (subst (λ (z : List Pair). Has z p) n.pairs (Has-from_contains ps p (Contains-get_or ps (length pre) d l)))

  pub node_deeper : (t : Sign) (next : BoundsValue) (cs : List Constraint) → ClosesAgainst (branching_of s q) (pre ++ t ∷ []) None → cs ≡ map (constraint_of (attrs_of q.atoms)) (atom_bounds (said p t)) → All (IsWithin (length (attrs_of q.atoms))) cs
      → next.attrs ≡ b.attrs → next.constraints ≡ b.constraints ++ cs → IsNode s q ps (pre ++ t ∷ []) next
  node_deeper t next cs g c w e f =
      let xs = attrs_of q.atoms in
      let is : cs ≡ constraints_of xs (element.Attr p.left) t p.right = c ∙ sign_says xs p t in
      let at : slice_get (branching_of s q).pairs (length pre) ≡ Some p = subst (λ (z : List Pair). slice_get z (length pre) ≡ Some p) n.pairs (pair_at ps (length pre) d l) in
      let more : constraints_at (branching_of s q) (pre ++ t ∷ []) ≡ constraints_at (branching_of s q) pre ++ cs =
      signs_more (branching_of s q) pre p t at ∙ ap (λ (z : List Attr). constraints_at (branching_of s q) pre ++ constraints_of z (element.Attr p.left) t p.right) (attrs_are s q) ∙ ap (λ (z : List Constraint). constraints_at (branching_of s q) pre ++ z) (sym is) in
      let few : length cs ≤ 2 = subst (λ (z : List Constraint). length z ≤ 2) (sym is) (length-constraints xs (element.Attr p.left) t p.right) in
      let long : length (pre ++ t ∷ []) ≡ length pre + 1 = length-append pre (t ∷ []) in
      let grown : length (constraints_at (branching_of s q) pre ++ cs) ≡ length (constraints_at (branching_of s q) pre) + length cs = length-append (constraints_at (branching_of s q) pre) cs in
      let size : length (constraints_at (branching_of s q) (pre ++ t ∷ [])) ≡ length (constraints_at (branching_of s q) pre ++ cs) = ap length more in
      record {
        pairs = n.pairs;
        room = omega (arith, long, l);
        few = n.few;
        limits = n.limits;
        agree = g;
        attrs = e ∙ n.attrs;
        constraints = f ∙ ap (λ z. z ++ cs) n.constraints ∙ sym more;
        within = subst (All (IsWithin (length xs))) (sym more) (All-append (IsWithin (length xs)) _ _ n.within w);
        short = omega (arith, long, grown, size, n.short, few);
      }

pub node_root : (s : Shown) (q : QueryValue) (ps : List Pair) (b : BoundsValue) → ps ≡ (branching_of s q).pairs → length ps ≤ 114 → IsWithinLimits q → ClosesAgainst (branching_of s q) [] None → b.attrs ≡ length (attrs_of q.atoms) → b.constraints ≡ (branching_of s q).base
    → All (IsWithin (length (attrs_of q.atoms))) b.constraints → length b.constraints ≤ 72 → IsNode s q ps [] b
node_root s q ps b e few l g a c w m =
    let same : b.constraints ≡ constraints_at (branching_of s q) [] = c ∙ sym (no_signs (branching_of s q)) in
    record {
      pairs = e;
      room = omega arith;
      few = few;
      limits = l;
      agree = g;
      attrs = a;
      constraints = same;
      within = subst (All (IsWithin (length (attrs_of q.atoms)))) same w;
      short = omega (arith, ap length same, m, few);
    }

-- where another pair gets a sign, any comparison may close the branch
pub node_atoms : (s : Shown) (q : QueryValue) (ps : List Pair) (pre : List Sign) (b : BoundsValue) → IsNode s q ps pre b → length pre < length ps → (branching_of s q).atoms ≡ q.atoms
node_atoms s q ps pre b n l = atoms_are s q (omega (arith, l, ap length n.pairs))

pub few_atoms : (q : QueryValue) (ts : List Atom) → ts ≡ q.atoms → IsWithinLimits q → length ts ≤ 16
few_atoms q ts e w = omega (arith, ap length e, w.comparisons)
