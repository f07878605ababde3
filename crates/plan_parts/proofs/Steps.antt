-- What one more sign means for the distances of a node.
use Rattle.std.proofs.Common.{◌≡◌, ℕ, ◌<◌, ◌≤◌, ◌+◌, ℤ, false, true, List, [], ◌∷◌, ◌++◌, slice_get, length, length-append, All, pos, slice_index_or, refl, sym, ◌∙◌, ap, subst, arith}
use Rattle.sem_query.proofs.Has.{Has, Has-append_right, Contains-from_has}
use Rattle.sem_query.proofs.Elements.{HasElement}
use Rattle.sem_query.proofs.Holding.{Holds-each}
use Rattle.sem_query.proofs.Local.{PairIn, pair_named}
use Rattle.sem_query.proofs.Split.{StartsWith, IsFeasible}
use Rattle.sem_query.specs.declared.atom.Attr.{Attr}
use Rattle.sem_query.specs.declared.part.Pair.{Pair}
use Rattle.sem_query.specs.declared.part.Sign.{Sign}
use Rattle.sem_query.specs.declared.atom.Element.{Element}
use Rattle.sem_query.specs.declared.atom.Element.TheVariants as element
use Rattle.sem_query.specs.Query.{QueryValue, attrs_of, consts_of, IsWithinLimits}
use Rattle.sem_query.specs.Assignment.{Assignment}
use Rattle.sem_query.specs.Parts.{pairs, signs_of}
use Rattle.plan_constraints.specs.declared.constraint.Constraint.{Constraint}
use Rattle.plan_closure.specs.ChoiceValue.{ChoiceValue}
use Rattle.plan_closure.specs.declared.distances.Distances.{Distances}
use Rattle.plan_closure.specs.Choices.{IsChoice, AreChoices, chosen}
use Rattle.plan_closure.specs.Shortest.{AreDistancesOf, AreDistances}
use Rattle.plan_constraints.specs.Nodes.{constraints_of, nodes_of}
use Rattle.plan_constraints.specs.PartConstraints.{AddsSign, of_base, of_prefix}
use Rattle.plan_constraints.specs.Solutions.{IsWithin, Solves, IsSatisfiable, Implies}
use Rattle.plan_closure.proofs.Zips.{zip_length, zip_at}
use Rattle.plan_constraints.proofs.Joined.{solves_left, solves_right, solves_both, solves_implied}
use Rattle.plan_constraints.proofs.Link.{signs_start}
use Rattle.plan_constraints.proofs.NodeFacts.{Known, length-constraints, nodes_agree}
use Rattle.plan_constraints.proofs.Prefix.{pair_at, prefix_more, of_no_prefix}
use Rattle.plan_constraints.proofs.Feasible.{feasible_if, satisfiable_if, solves_if}
use Rattle.std.specs.List.{list_any}
use Rattle.plan_constraints.specs.Soft.{next_fails, denies_itself, SoftHold}
use Rattle.plan_parts.specs.Tree.{Before, AreOf, AreImplied, Follows}
use Rattle.plan_constraints.proofs.Softly.{agree_more, soft_root, denied}

-- ---- the pair of the next sign

-- the constraints of the pair of the next sign are those that it adds
adds_sign : (q : QueryValue) (pre : List Sign) (s : Sign) (d : Pair) (cs : List Constraint) → length pre < length (pairs q)
    → cs ≡ constraints_of (attrs_of q.atoms) (element.Attr (slice_index_or (pairs q) (length pre) d).left) s (slice_index_or (pairs q) (length pre) d).right → All (IsWithin (length (attrs_of q.atoms))) cs → AddsSign q pre s cs
adds_sign q pre s d cs l c w =
    let p : Pair = slice_index_or (pairs q) (length pre) d in
    record {
      more = prefix_more q pre p s (pair_at (pairs q) (length pre) d l) ∙ ap (λ z. of_prefix q pre ++ z) (sym c);
      within = w;
      few = subst (λ (z : List Constraint). length z ≤ 2) (sym c) (length-constraints (attrs_of q.atoms) (element.Attr p.left) s p.right);
    }

-- what the pair of the next sign adds by that sign
pub adds_choice : (q : QueryValue) (ps : List ChoiceValue) (pre : List Sign) (s : Sign) (d : ChoiceValue) (cs : List Constraint) → AreChoices q ps → length pre < length ps → cs ≡ chosen (slice_index_or ps (length pre) d) s → AddsSign q pre s cs
adds_choice q ps pre s d cs h l e =
    let p : Pair = record { left = record { stream = 0; column = 0 }; right = element.Const (pos 0) } in
    let n : length ps ≡ length (pairs q) = zip_length (IsChoice q) (pairs q) ps h in
    let m : length pre < length (pairs q) = omega (arith, l, n) in
    let k : IsChoice q (slice_index_or (pairs q) (length pre) p) (slice_index_or ps (length pre) d) = zip_at (IsChoice q) (pairs q) ps (length pre) p d h m in
    adds_sign q pre s p cs m (e ∙ k.says s) (subst (All (IsWithin (length (attrs_of q.atoms)))) (sym e) (k.within s))

-- the same, where the pair stands at the number of the signs
pub adds_here : (q : QueryValue) (ps : List ChoiceValue) (pre : List Sign) (s : Sign) (choice : ChoiceValue) (i : ℕ) → AreChoices q ps → length pre ≡ i → i < length ps → choice ≡ slice_index_or ps i choice → AddsSign q pre s (chosen choice s)
adds_here q ps pre s choice i h at l e =
    adds_choice q ps pre s choice (chosen choice s) h (omega (arith, at, l)) (ap (λ (z : ChoiceValue). chosen z s) (e ∙ ap (λ (n : ℕ). slice_index_or ps n choice) (sym at)))

-- there is a pair for one more sign
pub room_next : (q : QueryValue) (ps : List ChoiceValue) (k : Distances) (pre : List Sign) (s : Sign) → Before q ps k pre → length pre < length ps → length (pre ++ s ∷ []) ≤ length (pairs q)
room_next q ps k pre s b l =
    let n : length (pre ++ s ∷ []) ≡ length pre + 1 = length-append pre (s ∷ []) in
    let m : length ps ≡ length (pairs q) = zip_length (IsChoice q) (pairs q) ps b.choices in
    omega (arith, n, m, l)

-- ---- the constraints with those of the sign

known_from : (xs : List Attr) (ks : List ℤ) (e : Element) → HasElement xs ks e → Known xs e
known_from xs ks (element.Attr a) h = h
known_from xs ks (element.Const k) h = tt

pairs_known : (q : QueryValue) (p : Pair) → Has (pairs q) p → Has (attrs_of q.atoms) p.left × Known (attrs_of q.atoms) p.right
pairs_known q p h = let s : PairIn (attrs_of q.atoms) (consts_of q.atoms) p = pair_named q p h in (s.left, known_from _ (consts_of q.atoms) p.right s.right)

-- an assignment whose integers meet the constraints of some signs has them
starts_with : (q : QueryValue) (signs : List Sign) (v : Assignment) → length signs ≤ length (pairs q) → Solves (nodes_of (attrs_of q.atoms) v) (of_prefix q signs) → StartsWith signs (signs_of q v)
starts_with q signs v l m = signs_start (attrs_of q.atoms) _ v (nodes_agree (attrs_of q.atoms) v) (pairs q) signs l (pairs_known q) (λ c h. m.each c (Contains-from_has _ c (Has-append_right _ h)))

module _ (q : QueryValue) (pre : List Sign) (s : Sign) (ks cs : List Constraint) (m : AreOf q pre ks) (a : AddsSign q pre s cs) where
  solves_more : (x : ℕ → ℤ) → Solves x (ks ++ cs) → Solves x (of_prefix q (pre ++ s ∷ []))
  solves_more x v = subst (Solves x) (sym a.more) (solves_both x (of_prefix q pre) cs (m.into x (solves_left x ks cs v)) (solves_right x ks cs v))

  solves_back : (x : ℕ → ℤ) → Solves x (of_prefix q (pre ++ s ∷ [])) → Solves x (ks ++ cs)
  solves_back x v =
      let w : Solves x (of_prefix q pre ++ cs) = subst (Solves x) a.more v in
      solves_both x ks cs (m.from x (solves_left x (of_prefix q pre) cs w)) (solves_right x (of_prefix q pre) cs w)

  -- they are those of the signs and the one more
  pub are_more : AreOf q (pre ++ s ∷ []) (ks ++ cs)
  are_more = record {
    into = solves_more;
    from = solves_back;
  }

  module _ (i : All (Implies ks) cs) where
    -- where those of the sign are implied the others say the same
    pub are_same : AreOf q (pre ++ s ∷ []) ks
    are_same = record {
      into = λ x v. solves_more x (solves_implied x ks cs i v);
      from = λ x v. solves_left x ks cs (solves_back x v);
    }

    -- and each assignment that has the signs has this one too
    pub follows_one : length (pre ++ s ∷ []) ≤ length (pairs q) → Follows q pre (pre ++ s ∷ [])
    follows_one l = record {
      starts = record { rest = s ∷ []; is = refl };
      all = λ t p w.
          let h : Solves (nodes_of (attrs_of q.atoms) p.one) (of_prefix q pre) = solves_if q pre p.one (λ u i e. Holds-each q p.one p.inside.holds u i) p.inside.domains (subst (StartsWith pre) (sym p.inside.signs) w) in
          let g : StartsWith (pre ++ s ∷ []) (signs_of q p.one) = starts_with q (pre ++ s ∷ []) p.one l (solves_more _ (solves_implied _ ks cs i (m.from _ h))) in
          subst (StartsWith (pre ++ s ∷ [])) p.inside.signs g;
    }

feasible_of : (q : QueryValue) (signs : List Sign) (ks : List Constraint) → AreOf q signs ks → IsWithinLimits q → SoftHold q signs → length signs ≤ length (pairs q) → IsSatisfiable ks → IsFeasible q signs
feasible_of q signs ks m w f l t = feasible_if q signs w f l (record { at = t.at; solves = m.into t.at t.solves })

satisfiable_of : (q : QueryValue) (signs : List Sign) (ks : List Constraint) → AreOf q signs ks → IsFeasible q signs → IsSatisfiable ks
satisfiable_of q signs ks m f = let t : IsSatisfiable (of_prefix q signs) = satisfiable_if q signs f in record { at = t.at; solves = m.from t.at t.solves }

-- the distances of a node are those of some constraints
pub known_at : (q : QueryValue) (ps : List ChoiceValue) (k : Distances) (pre : List Sign) → Before q ps k pre → AreDistances k
known_at q ps k pre b = record { constraints = b.known.constraints; distances = subst (λ m. AreDistancesOf k m b.known.constraints) (sym b.known.distances.attrs) b.known.distances }

-- ---- the distances with the sign

module _ (q : QueryValue) (ps : List ChoiceValue) (k : Distances) (pre : List Sign) (s : Sign) (cs : List Constraint) (b : Before q ps k pre) (a : AddsSign q pre s cs) where
  -- no assignment has the sign where no integers meet its constraints
  pub not_feasible : ¬ IsSatisfiable (b.known.constraints ++ cs) → IsFeasible q (pre ++ s ∷ []) → ⊥
  not_feasible n f = n (satisfiable_of q (pre ++ s ∷ []) _ (are_more q pre s b.known.constraints cs b.known.are a) f)

  module _ (l : length pre < length ps) where
    here : length (pre ++ s ∷ []) ≤ length (pairs q)
    here = room_next q ps k pre s b l

    soft_here : next_fails q.atoms (slice_get (pairs q) (length pre)) s ≡ false → SoftHold q (pre ++ s ∷ [])
    soft_here n = agree_more q pre s (slice_get (pairs q) (length pre)) refl (let m : length ps ≡ length (pairs q) = zip_length (IsChoice q) (pairs q) ps b.choices in omega (arith, m, l)) b.soft n

    -- where the sign follows the distances stay
    pub before_same : next_fails q.atoms (slice_get (pairs q) (length pre)) s ≡ false → AreImplied k cs → Before q ps k (pre ++ s ∷ [])
    before_same n i =
        let e : All (Implies b.known.constraints) cs = i _ _ b.known.distances in
        let m : AreOf q (pre ++ s ∷ []) b.known.constraints = are_same q pre s b.known.constraints cs b.known.are a e in
        record {
          limits = b.limits;
          choices = b.choices;
          room = omega (arith, length-append pre (s ∷ []), l);
          few = b.few;
          known = record { constraints = b.known.constraints; distances = b.known.distances; are = m };
          soft = soft_here n;
          feasible = feasible_of q (pre ++ s ∷ []) _ m b.limits (soft_here n) here (satisfiable_of q pre _ b.known.are b.feasible);
        }

    pub follows_same : AreImplied k cs → Follows q pre (pre ++ s ∷ [])
    follows_same i = follows_one q pre s b.known.constraints cs b.known.are a (i _ _ b.known.distances) here

    -- else its constraints are added
    pub before_added : next_fails q.atoms (slice_get (pairs q) (length pre)) s ≡ false → (r : Distances) → AreDistancesOf r (length (attrs_of q.atoms)) (b.known.constraints ++ cs) → IsSatisfiable (b.known.constraints ++ cs) → Before q ps r (pre ++ s ∷ [])
    before_added n r h t =
        let m : AreOf q (pre ++ s ∷ []) (b.known.constraints ++ cs) = are_more q pre s b.known.constraints cs b.known.are a in
        record {
          limits = b.limits;
          choices = b.choices;
          room = omega (arith, length-append pre (s ∷ []), l);
          few = b.few;
          known = record { constraints = b.known.constraints ++ cs; distances = h; are = m };
          soft = soft_here n;
          feasible = feasible_of q (pre ++ s ∷ []) _ m b.limits (soft_here n) here t;
        }

  pub within_here : All (IsWithin k.attrs) cs
  within_here = subst (λ m. All (IsWithin m) cs) (sym b.known.distances.attrs) a.within

-- ---- the root

pub before_root : (q : QueryValue) (ps : List ChoiceValue) (k : Distances) → IsWithinLimits q → AreChoices q ps → length ps ≤ 114 → list_any (λ t. denies_itself t) q.atoms ≡ false → AreDistancesOf k (length (attrs_of q.atoms)) (of_base q) → IsSatisfiable (of_base q) → Before q ps k []
before_root q ps k l e few n h t = record {
  limits = l;
  choices = e;
  room = omega arith;
  few = few;
  known = record {
    constraints = of_base q;
    distances = h;
    are = record {
      into = λ x v. subst (Solves x) (sym (of_no_prefix q)) v;
      from = λ x v. subst (Solves x) (of_no_prefix q) v;
    };
  };
  soft = soft_root q l n;
  feasible = feasible_if q [] l (soft_root q l n) (omega arith) (subst IsSatisfiable (sym (of_no_prefix q)) t);
}

pub not_feasible_root : (q : QueryValue) → ¬ IsSatisfiable (of_base q) → IsFeasible q [] → ⊥
not_feasible_root q n f = n (subst IsSatisfiable (of_no_prefix q) (satisfiable_if q [] f))

pub denied_root : (q : QueryValue) → list_any (λ t. denies_itself t) q.atoms ≡ true → IsFeasible q [] → ⊥
denied_root q n f = denied q n f
