-- The branches of a split form: its parts, and the signs that the first split pairs can have at once.
use Rattle.std.proofs.Common.{◌≡◌, ◌≢◌, ◌≤◌, ℕ, inl, inr, Bool, true, false, ◌||◌, List, [], ◌∷◌, ◌++◌, map, take, drop, length, refl, sym, ◌∙◌, ap, subst, arith}
use Rattle.std.specs.List.{flat_map, list_any}
use Rattle.std.proofs.lemmas.List.{map-append, length-map, take-append-drop, take_all, take-map, length-take-le}
use Rattle.std.proofs.lemmas.List.Elements.{All-contains}
use Rattle.sem_query.specs.declared.atom.Attr.{Attr}
use Rattle.sem_query.specs.declared.atom.Atom.{Atom}
use Rattle.sem_query.specs.declared.atom.Element.TheVariants as element
use Rattle.sem_query.specs.declared.part.Pair.{Pair}
use Rattle.sem_query.specs.declared.part.Sign.{Sign}
use Rattle.sem_query.specs.Query.{QueryValue, attrs_of, is_soft, HasAttr, IsWithinLimits}
use Rattle.sem_query.specs.Assignment.{Assignment, Holds, KeepsDomains, AtomHolds}
use Rattle.sem_query.specs.Parts.{sign_at, pair_of}
use Rattle.sem_query.specs.Prefixes.{StartsWith}
use Rattle.sem_query.proofs.Has.{Has, Has-from_contains, Contains-from_has, Has-append_left, Has-flat_map}
use Rattle.sem_query.proofs.Holding.{Holds-each}
use Rattle.plan_constraints.specs.declared.constraint.Constraint.{Constraint}
use Rattle.plan_constraints.specs.Nodes.{constraints_of}
use Rattle.plan_constraints.specs.PartConstraints.{of_signs}
use Rattle.plan_constraints.specs.Soft.{denies_itself}
use Rattle.plan_constraints.specs.Solutions.{IsSatisfiable}
use Rattle.plan_constraints.proofs.Softly.{any_one, any_none, neither, denied_fails}
use Rattle.plan_split_pairs.specs.Pairs.{unlike_pairs, split_pairs}
use Rattle.plan_split_pairs.specs.SplitParts.{IsSplitPart}
use Rattle.plan_split_pairs.proofs.Naming.{split_pairs_are_named, unlikes_are_pairs}
use Rattle.sem_whole.specs.System.{atom_bounds, domain_bounds, system, Solves}
use Rattle.sem_whole.proofs.Signed.{solutions_satisfy}
use Rattle.sem_whole.proofs.Suffice.{solves_query, met_holds, atom_if, ne_or_not}
use Rattle.plan_whole.specs.Closed.{closed_constraints}
use Rattle.plan_whole.proofs.Signing.{said_are_signs}
use Rattle.plan_split_parts.specs.Fronts.{first_pairs, IsFront, front_constraints}
use Rattle.plan_split_parts.proofs.SignedPairs.{side_of}
use Rattle.plan_split_parts.proofs.Unlike.{unlike_holds, unlike_sign, unlikes_first, unlikes_fit}
use Rattle.plan_split_parts.proofs.Solved.{front_solution, front_satisfied}
use Rattle.plan_split_parts.proofs.Stepped.{front_length}
use Rattle.cert_checker.specs.Branching.{split_branching, constraints_at}
use Rattle.cert_checker.specs.Branches.{AreBranches}
use Rattle.cert_checker.specs.Rules.{is_false_under, is_refuted, some_refuted}
use Rattle.cert_checker.proofs.PrefixNodes.{LeadsWithin}
use Rattle.cert_checker.proofs.Refuted.{named_under, fails_under, holds_under}
use Rattle.cert_checker.proofs.WholeBranches.{signed_leads}

-- signs are those of as many first pairs
signs_of_first : (xs : List Attr) (ps : List Pair) (ss : List Sign) → of_signs xs (take (length ss) ps) ss ≡ of_signs xs ps ss
signs_of_first xs [] [] = refl
signs_of_first xs [] (s ∷ ss) = refl
signs_of_first xs (p ∷ ps) [] = refl
signs_of_first xs (p ∷ ps) (s ∷ ss) = ap (λ z. constraints_of xs (element.Attr p.left) s p.right ++ z) (signs_of_first xs ps ss)

-- the constraints of a front are those at its branch
front_is : (q : QueryValue) (ss : List Sign) → front_constraints q (length ss) ss ≡ constraints_at (split_branching q) ss
front_is q ss = ap (λ z. closed_constraints q ++ z) (said_are_signs (attrs_of q.atoms) (first_pairs q (length ss)) ss ∙ signs_of_first (attrs_of q.atoms) (split_pairs q) ss)

take_front : (xs ys : List Sign) → take (length xs) (xs ++ ys) ≡ xs
take_front [] ys = refl
take_front (x ∷ xs) ys = ap (λ z. x ∷ z) (take_front xs ys)

-- where no comparison is refuted none denies itself
undenied_by : (ps : List Pair) (ss : List Sign) (ts : List Atom) → some_refuted ps ss ts ≡ false → (b : Bool) → list_any (λ t. denies_itself t) ts ≡ b → b ≡ false
undenied_by ps ss ts n false e = refl
undenied_by ps ss ts n true e =
    let r = any_one (λ t. denies_itself t) ts e in
    let m = neither (denies_itself r.0) (is_false_under r.0 ps ss) (any_none (λ t. is_refuted ps ss t) ts n r.0 r.1) in
    sym r.2 ∙ m.0

module _ (q : QueryValue) (w : IsWithinLimits q) where
  -- the signs of all pairs begin with those of the first
  begun : (v : Assignment) (ss : List Sign) → map (sign_at v) (first_pairs q (length ss)) ≡ ss → map (sign_at v) (split_pairs q) ≡ ss ++ map (sign_at v) (drop (length ss) (split_pairs q))
  begun v ss e =
      ap (map (sign_at v)) (sym (take-append-drop (length ss) (split_pairs q))) ∙ map-append (sign_at v) (take (length ss) (split_pairs q)) (drop (length ss) (split_pairs q))
      ∙ ap (λ z. z ++ map (sign_at v) (drop (length ss) (split_pairs q))) e

  -- the assignment of a front meets a comparison whose pair, if it has one, is among the first
  front_meets : (n : ℕ) (ss : List Sign) (f : IsFront q n ss) (t : Atom) → Has q.atoms t → ((p : Pair) → Has (pair_of t.left t.right) p → Has (first_pairs q n) p) → AtomHolds f.one t
  front_meets n ss f t h d = elim (ne_or_not t.op) [
    | inl e ↦ unlike_holds f.one t (All-contains HasAttr q.atoms t w.sides (Contains-from_has q.atoms t h)) e (any_none (λ t. denies_itself t) q.atoms f.undenied t h)
        (λ p i. f.unlike p ((unlikes_are_pairs q w).each t h e p i) (d p i))
    | inr m ↦ atom_if f.one t (met_holds t.op t.left t.right f.one m (λ d k. f.solves d (Has-append_left (flat_map domain_bounds q.domains) (Has-flat_map atom_bounds q.atoms t d h k))))
  ]

  -- so no comparison is refuted at a front
  none_refuted : (ss : List Sign) → IsFront q (length ss) ss → (b : Bool) → some_refuted (split_pairs q) ss q.atoms ≡ b → b ≡ false
  none_refuted ss f false e = refl
  none_refuted ss f true e =
      let r = any_one (λ t. is_refuted (split_pairs q) ss t) q.atoms e in
      absurd (by r.0 r.1 (denies_itself r.0) refl r.2)
    where
      by : (t : Atom) → Has q.atoms t → (b : Bool) → denies_itself t ≡ b → (b || is_false_under t (split_pairs q) ss) ≡ true → ⊥
      by t i true g h = let m = any_none (λ t. denies_itself t) q.atoms f.undenied t i in true_false (sym g ∙ m)
        where
          true_false : true ≡ false → ⊥
          true_false k = cc
      by t i false g h = fails_under t f.one (split_pairs q) ss (map (sign_at f.one) (drop (length ss) (split_pairs q))) (begun f.one ss f.has) h (front_meets (length ss) ss f t i (named_under t (split_pairs q) ss h))

  -- the signs of a part begin with fronts
  part_begins : (s signs : List Sign) → IsSplitPart q s → StartsWith signs s → IsFront q (length signs) signs
  part_begins s signs p st = record {
    one = p.one;
    solves = solves_query q p.one p.holds p.domains;
    has = sym (take-map (sign_at p.one) (length signs) (split_pairs q)) ∙ ap (take (length signs)) (p.has ∙ st.is) ∙ take_front signs st.rest;
    unlike = λ r u h. (let t = (unlikes_are_pairs q w).only r u in unlike_sign p.one t.0 t.2 (Holds-each q p.one p.holds t.0 t.1) r t.3);
    undenied = undenied (list_any (λ t. denies_itself t) q.atoms) refl;
  }
    where
      undenied : (b : Bool) → list_any (λ t. denies_itself t) q.atoms ≡ b → b ≡ false
      undenied false e = refl
      undenied true e = let r = any_one (λ t. denies_itself t) q.atoms e in absurd (denied_fails r.0 p.one r.2 (Holds-each q p.one p.holds r.0 r.1))

  -- signs that refute no comparison and whose constraints some integers meet are a front: a `<>` of a pair with the sign equal would be refuted
  front_opens : (ss : List Sign) → length ss ≤ length (split_pairs q) → some_refuted (split_pairs q) ss q.atoms ≡ false → IsSatisfiable (constraints_at (split_branching q) ss) → IsFront q (length ss) ss
  front_opens ss l n s = record {
    one = r.0;
    solves = r.1;
    has = r.2;
    unlike = apart;
    undenied = undenied_by (split_pairs q) ss q.atoms n (list_any (λ t. denies_itself t) q.atoms) refl;
  }
    where
      r : (v : Assignment) × Solves (system q) v × (map (sign_at v) (first_pairs q (length ss)) ≡ ss)
      r = front_solution q (length ss) ss w (length-take-le (length ss) (split_pairs q) l) (subst IsSatisfiable (sym (front_is q ss)) s)

      apart : (p : Pair) → Has (unlike_pairs q) p → Has (first_pairs q (length ss)) p → sign_at r.0 p ≢ Sign.Eq
      apart p u h =
          let t = (unlikes_are_pairs q w).only p u in
          let m = neither (denies_itself t.0) (is_false_under t.0 (split_pairs q) ss) (any_none (λ t. is_refuted (split_pairs q) ss t) q.atoms n t.0 t.1) in
          unlike_sign r.0 t.0 t.2 (holds_under t.0 r.0 (split_pairs q) ss (map (sign_at r.0) (drop (length ss) (split_pairs q))) (begun r.0 ss r.2) m.1 (subst (λ o. is_soft o ≡ true) (sym t.2) refl) p t.3 h) p t.3

  -- a front of all pairs is a part
  front_whole : (ss : List Sign) → length ss ≡ length (split_pairs q) → IsFront q (length ss) ss → IsSplitPart q ss
  front_whole ss l f = record { one = f.one; holds = r.0; domains = r.1; has = ap (map (sign_at f.one)) (sym (take_all (length ss) (split_pairs q) (omega (arith, l)))) ∙ f.has }
    where
      r : Holds q f.one × KeepsDomains q f.one
      r = solutions_satisfy q f.one f.solves
          (λ t h e. front_meets (length ss) ss f t h (λ p i. unlikes_first q w (length ss) (let u = unlikes_fit q w in omega (arith, u, l)) p ((unlikes_are_pairs q w).each t h e p i)))

  split_leads : (signs : List Sign) (c : Constraint) → Has (constraints_at (split_branching q) signs) c → LeadsWithin (length (attrs_of q.atoms)) c
  split_leads signs c h = signed_leads q (split_pairs q) signs (λ p k. (split_pairs_are_named q w p k).left) (λ p k. side_of (attrs_of q.atoms) p.right (split_pairs_are_named q w p k).right) c h

  pub split_branches : AreBranches (split_branching q) (IsSplitPart q) (λ s. IsFront q (length s) s)
  split_branches = record {
    leads = λ signs c h. (let l = split_leads signs c (Has-from_contains (constraints_at (split_branching q) signs) c h) in (l.left, l.right));
    long = λ s p. ap length (sym p.has) ∙ length-map (split_pairs q) (sign_at p.one);
    begins = part_begins;
    solved = λ signs f. subst IsSatisfiable (front_is q signs) (front_satisfied q (length signs) signs w (sym (front_length q (length signs) signs f)) f.one f.solves f.has);
    agreed = λ signs f. none_refuted signs f (some_refuted (split_pairs q) signs q.atoms) refl;
    opens = front_opens;
    whole = front_whole;
  }
