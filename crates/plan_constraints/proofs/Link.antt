-- Solutions of the atoms' and signs' constraints are the assignments that meet the atoms and begin with the signs.
use Rattle.std.proofs.Common.{slice_get, Option, Some, append-nil, append_assoc, ◌≡◌, ℕ, ◌≤◌, ℤ, List, [], ◌∷◌, ◌++◌, map, length, cond, Bool, true, false, inl, inr, refl, sym, ◌∙◌, ap, ap₂, subst, arith}
use Rattle.std.proofs.lemmas.Int.{ints}
use Rattle.std.specs.List.{flat_map}
use Rattle.sem_query.proofs.Has.{Has, first, later, Has-append_left, Has-append_right, Has-append_cases, Has-flat_map, Has-flat_map_from}
use Rattle.sem_query.proofs.Domains.{lies, lies_low, lies_high}
use Rattle.sem_query.proofs.Local.{sign-lt, sign-eq, sign-gt, lt_from_sign, eq_from_sign, gt_from_sign}
use Rattle.sem_query.proofs.Split.{StartsWith}
use Rattle.sem_query.specs.declared.atom.Attr.{Attr}
use Rattle.sem_query.specs.declared.atom.Atom.{Atom}
use Rattle.sem_query.specs.declared.atom.Domain.{Domain}
use Rattle.sem_query.specs.declared.atom.Element.{Element}
use Rattle.sem_query.specs.declared.part.Pair.{Pair}
use Rattle.sem_query.specs.declared.atom.Element.TheVariants as element
use Rattle.sem_query.specs.declared.part.Sign.{Sign}
use Rattle.sem_query.specs.declared.atom.Op.{Op}
use Rattle.sem_query.specs.Query.{is_soft}
use Rattle.sem_query.specs.Assignment.{Assignment, value, compares, lies_in, AtomHolds}
use Rattle.sem_query.proofs.Holding.{Compares-from_test, compares-true}
use Rattle.sem_query.specs.Parts.{sign_at}
use Rattle.plan_constraints.specs.declared.constraint.Constraint.{Constraint}
use Rattle.plan_constraints.specs.Nodes.{has_node, constraints_of}
use Rattle.plan_constraints.specs.PartConstraints.{of_op, of_atoms, at_least, at_most, of_domain, of_signs}
use Rattle.plan_constraints.proofs.NodeFacts.{Agree, Known, Meets, met_from_sign, sign_from_met, node_has}

module _ (xs : List Attr) (x : ℕ → ℤ) (v : Assignment) (g : Agree xs x v) where
  -- the constraints of a comparison that is not soft are met exactly where it holds
  op_met : (o : Op) (l r : Element) → Known xs l → Known xs r → (is_soft o ≡ false → compares o (value l v) (value r v) ≡ true) → (c : Constraint) → Has (of_op xs l o r) c → Meets x c
  op_met Op.Lt l r h k f c i = met_from_sign xs x v g Sign.Lt l r h k (sign-lt (value l v) (value r v) (Compares-from_test Op.Lt (value l v) (value r v) (f refl))) c i
  op_met Op.Eq l r h k f c i = met_from_sign xs x v g Sign.Eq l r h k (sign-eq (value l v) (value r v) (Compares-from_test Op.Eq (value l v) (value r v) (f refl))) c i
  op_met Op.Gt l r h k f c i = met_from_sign xs x v g Sign.Gt l r h k (sign-gt (value l v) (value r v) (Compares-from_test Op.Gt (value l v) (value r v) (f refl))) c i
  op_met Op.Le l r h k f c i = elim i [ ]
  op_met Op.Ge l r h k f c i = elim i [ ]
  op_met Op.Ne l r h k f c i = elim i [ ]

  op_holds : (o : Op) (l r : Element) → Known xs l → Known xs r → ((c : Constraint) → Has (of_op xs l o r) c → Meets x c) → is_soft o ≡ false → compares o (value l v) (value r v) ≡ true
  op_holds Op.Lt l r h k f e = compares-true Op.Lt (value l v) (value r v) (lt_from_sign _ _ (sign_from_met xs x v g Sign.Lt l r h k f))
  op_holds Op.Eq l r h k f e = compares-true Op.Eq (value l v) (value r v) (eq_from_sign _ _ (sign_from_met xs x v g Sign.Eq l r h k f))
  op_holds Op.Gt l r h k f e = compares-true Op.Gt (value l v) (value r v) (gt_from_sign _ _ (sign_from_met xs x v g Sign.Gt l r h k f))
  op_holds Op.Le l r h k f e = absurd cc
  op_holds Op.Ge l r h k f e = absurd cc
  op_holds Op.Ne l r h k f e = absurd cc

  pub atoms_met : (ts : List Atom) → ((t : Atom) → Has ts t → Known xs t.left × Known xs t.right) → ((t : Atom) → Has ts t → is_soft t.op ≡ false → AtomHolds v t) → (c : Constraint) → Has (of_atoms xs ts) c → Meets x c
  atoms_met [] k h c i = elim i [ ]
  atoms_met (t ∷ ts) k h c i = elim (Has-append_cases (of_op xs t.left t.op t.right) (of_atoms xs ts) c i) [
    | inl j ↦ op_met t.op t.left t.right (k t first).0 (k t first).1 (h t first) c j
    | inr j ↦ atoms_met ts (λ u l. k u (later l)) (λ u l. h u (later l)) c j
  ]

  pub atoms_hold : (ts : List Atom) → ((t : Atom) → Has ts t → Known xs t.left × Known xs t.right) → ((c : Constraint) → Has (of_atoms xs ts) c → Meets x c) → (t : Atom) → Has ts t → is_soft t.op ≡ false → AtomHolds v t
  atoms_hold [] k h t i = elim i [ ]
  atoms_hold (u ∷ ts) k h t first = op_holds u.op u.left u.right (k u first).0 (k u first).1 (λ c j. h c (Has-append_left _ j))
  atoms_hold (u ∷ ts) k h t (later i) = atoms_hold ts (λ w l. k w (later l)) (λ c j. h c (Has-append_right _ j)) t i

  one_met : (d : Domain) → lies_in d (v d.attr) ≡ true → (b : Bool) → has_node xs d.attr ≡ b → (c : Constraint)
      → Has (cond b (at_least xs d ∷ at_most xs d ∷ []) []) c → Meets x c
  one_met d l true e c first =
      let n = g.each d.attr (node_has xs d.attr e) in let z = g.origin in omega (arith, ints, n, z, lies_low d (v d.attr) l)
  one_met d l true e c (later first) =
      let n = g.each d.attr (node_has xs d.attr e) in let z = g.origin in omega (arith, ints, n, z, lies_high d (v d.attr) l)
  one_met d l true e c (later (later k)) = elim k [ ]
  one_met d l false e c k = elim k [ ]

  -- the constraints of the domains are met where each column lies in its own
  pub domains_met : (ds : List Domain) → ((d : Domain) → Has ds d → lies_in d (v d.attr) ≡ true) → (c : Constraint) → Has (flat_map (of_domain xs) ds) c → Meets x c
  domains_met ds h c i =
      let r = Has-flat_map_from (of_domain xs) ds c i in one_met r.0 (h r.0 r.1) (has_node xs r.0.attr) refl c r.2

  -- and where they are met, each column that has a node lies in its domain
  pub domain_kept : (ds : List Domain) → ((c : Constraint) → Has (flat_map (of_domain xs) ds) c → Meets x c) → (d : Domain) → Has ds d → has_node xs d.attr ≡ true → lies_in d (v d.attr) ≡ true
  domain_kept ds h d i e =
      let two : List Constraint = at_least xs d ∷ at_most xs d ∷ [] in
      let is : two ≡ of_domain xs d = sym (ap (λ b. cond b two []) e) in
      let low : Meets x (at_least xs d) = h (at_least xs d) (Has-flat_map (of_domain xs) ds d (at_least xs d) i (subst (λ l. Has l (at_least xs d)) is first)) in
      let high : Meets x (at_most xs d) = h (at_most xs d) (Has-flat_map (of_domain xs) ds d (at_most xs d) i (subst (λ l. Has l (at_most xs d)) is (later first))) in
      let n = g.each d.attr (node_has xs d.attr e) in
      let z = g.origin in
      lies d (v d.attr) (omega (arith, ints, n, z, low)) (omega (arith, ints, n, z, high))

  pub signs_start : (ps : List Pair) (ss : List Sign) → length ss ≤ length ps → ((p : Pair) → Has ps p → Has xs p.left × Known xs p.right) → ((c : Constraint) → Has (of_signs xs ps ss) c → Meets x c) → StartsWith ss (map (sign_at v) ps)
  signs_start ps [] l k h = record { rest = map (sign_at v) ps; is = refl }
  signs_start [] (s ∷ ss) l k h = absurd (omega arith)
  signs_start (p ∷ ps) (s ∷ ss) l k h =
      let e : sign_at v p ≡ s = sign_from_met xs x v g s (element.Attr p.left) p.right (k p first).0 (k p first).1 (λ c j. h c (Has-append_left _ j)) in
      let r : StartsWith ss (map (sign_at v) ps) = signs_start ps ss (omega arith) (λ q i. k q (later i)) (λ c j. h c (Has-append_right _ j)) in
      record { rest = r.rest; is = ap₂ (λ (a : Sign) (b : List Sign). a ∷ b) e r.is }

  pub signs_met : (ps : List Pair) (ss : List Sign) → ((p : Pair) → Has ps p → Has xs p.left × Known xs p.right) → StartsWith ss (map (sign_at v) ps) → (c : Constraint) → Has (of_signs xs ps ss) c → Meets x c
  signs_met [] ss k w c i = elim i [ ]
  signs_met (p ∷ ps) [] k w c i = elim i [ ]
  signs_met (p ∷ ps) (s ∷ ss) k w c i =
      let e : sign_at v p ≡ s = let z = w.is in cc in
      let r : map (sign_at v) ps ≡ ss ++ w.rest = let z = w.is in cc in
      elim (Has-append_cases (constraints_of xs (element.Attr p.left) s p.right) (of_signs xs ps ss) c i) [
        | inl j ↦ met_from_sign xs x v g s (element.Attr p.left) p.right (k p first).0 (k p first).1 e c j
        | inr j ↦ signs_met ps ss (λ q l. k q (later l)) record { rest = w.rest; is = r } c j
      ]

pub of_no_signs : (xs : List Attr) (ps : List Pair) → of_signs xs ps [] ≡ []
of_no_signs xs [] = refl
of_no_signs xs (p ∷ ps) = refl

-- one sign more adds the constraints of its pair
pub of_signs_more : (xs : List Attr) (ps : List Pair) (pre : List Sign) (p : Pair) (s : Sign) → slice_get ps (length pre) ≡ Some p → of_signs xs ps (pre ++ s ∷ []) ≡ of_signs xs ps pre ++ constraints_of xs (element.Attr p.left) s p.right
of_signs_more xs [] [] p s h = cc
of_signs_more xs [] (t ∷ pre) p s h = cc
of_signs_more xs (q ∷ ps) [] p s h =
    let e : q ≡ p = some_is h in
    ap (λ z. constraints_of xs (element.Attr q.left) s q.right ++ z) (of_no_signs xs ps) ∙ append-nil _ ∙ ap (λ (z : Pair). constraints_of xs (element.Attr z.left) s z.right) e
  where
    some_is : {x y : Pair} → let A : Type 0 = Option Pair in ◌≡◌ {A = A} (Some x) (Some y) → x ≡ y
    some_is h = cc
of_signs_more xs (q ∷ ps) (t ∷ pre) p s h =
    ap (λ z. constraints_of xs (element.Attr q.left) t q.right ++ z) (of_signs_more xs ps pre p s h) ∙ sym (append_assoc (constraints_of xs (element.Attr q.left) t q.right) (of_signs xs ps pre) (constraints_of xs (element.Attr p.left) s p.right))
