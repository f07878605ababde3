-- The constraints of a front have a solution where it is one.
use Rattle.std.proofs.Common.{◌≡◌, ℕ, inl, inr, List, ◌++◌, map, length, sym, ap, subst}
use Rattle.std.specs.List.{flat_map}
use Rattle.sem_query.specs.declared.atom.Attr.{Attr}
use Rattle.sem_query.specs.declared.atom.Atom.{Atom}
use Rattle.sem_query.specs.declared.part.Sign.{Sign}
use Rattle.sem_query.specs.Query.{QueryValue, attrs_of, IsWithinLimits}
use Rattle.sem_query.specs.Assignment.{Assignment, AtomHolds}
use Rattle.sem_query.specs.Parts.{sign_at}
use Rattle.sem_query.proofs.Has.{Has, Has-from_contains, Contains-from_has, Has-append_left, Has-append_right, Has-append_cases, Has-map, Has-map_from, Has-flat_map, Has-flat_map_from}
use Rattle.plan_constraints.specs.declared.constraint.Constraint.{Constraint}
use Rattle.plan_constraints.specs.Solutions.{IsSatisfiable}
use Rattle.sem_whole.specs.System.{Difference, atom_bounds, domain_bounds, system, Solves}
use Rattle.sem_whole.specs.Signed.{all_said, with_signs}
use Rattle.sem_whole.proofs.Signed.{signs_are_said, signed_attrs, signed_well_formed, said_no_unlike}
use Rattle.sem_whole.proofs.Suffice.{bounds_met, met_holds, atom_says, atom_if}
use Rattle.plan_whole.specs.Closed.{constraint_of, named_bounds, named_system, closed_constraints}
use Rattle.plan_whole.proofs.Named.{solution, satisfied}
use Rattle.plan_split_parts.specs.Fronts.{first_pairs, front_constraints}
use Rattle.plan_split_parts.proofs.SignedPairs.{first_signed}

-- what meets all of some constraints meets those among them
fewer_met : (cs ds : List Constraint) → ((c : Constraint) → Has ds c → Has cs c) → IsSatisfiable cs → IsSatisfiable ds
fewer_met cs ds f s = record {
  at = s.at;
  solves = record { origin = s.solves.origin; each = λ c h. s.solves.each c (Contains-from_has cs c (f c (Has-from_contains ds c h))) };
}

module _ (q : QueryValue) (n : ℕ) (ss : List Sign) where
  -- the query with the signs of the first pairs
  abbrev r : QueryValue
  r = with_signs (first_pairs q n) ss q

  -- what the signs say
  abbrev S : List Atom
  S = all_said (first_pairs q n) ss

  -- the constraints of that query, on the nodes of some columns
  abbrev on : List Attr → List Constraint
  on xs = map (constraint_of xs) (flat_map atom_bounds (S ++ q.atoms) ++ flat_map (named_bounds xs) q.domains)

  closed_on : (xs : List Attr) → attrs_of (S ++ q.atoms) ≡ xs → closed_constraints r ≡ on xs
  closed_on xs e = ap on e

  -- they are those of the front
  into_front : (c : Constraint) → Has (on (attrs_of q.atoms)) c → Has (front_constraints q n ss) c
  into_front c h =
      let xs = attrs_of q.atoms in
      let f = constraint_of xs in
      let m = Has-map_from f (flat_map atom_bounds (S ++ q.atoms) ++ flat_map (named_bounds xs) q.domains) c h in
      subst (Has (front_constraints q n ss)) m.2 (elim (Has-append_cases (flat_map atom_bounds (S ++ q.atoms)) (flat_map (named_bounds xs) q.domains) m.0 m.1) [
        | inl i ↦ (let t = Has-flat_map_from atom_bounds (S ++ q.atoms) m.0 i in
            elim (Has-append_cases S q.atoms t.0 t.1) [
              | inl j ↦ Has-append_right (closed_constraints q) (Has-map f (Has-flat_map atom_bounds S t.0 m.0 j t.2))
              | inr j ↦ Has-append_left (map f (flat_map atom_bounds S)) (Has-map f (Has-append_left (flat_map (named_bounds xs) q.domains) (Has-flat_map atom_bounds q.atoms t.0 m.0 j t.2)))
            ])
        | inr i ↦ Has-append_left (map f (flat_map atom_bounds S)) (Has-map f (Has-append_right (flat_map atom_bounds q.atoms) i))
      ])

  out_of_front : (c : Constraint) → Has (front_constraints q n ss) c → Has (on (attrs_of q.atoms)) c
  out_of_front c h =
      let xs = attrs_of q.atoms in
      let f = constraint_of xs in
      let all = flat_map atom_bounds (S ++ q.atoms) in
      let ds = flat_map (named_bounds xs) q.domains in
      elim (Has-append_cases (closed_constraints q) (map f (flat_map atom_bounds S)) c h) [
        | inl i ↦ (let m = Has-map_from f (named_system q) c i in
            subst (Has (on xs)) m.2 (elim (Has-append_cases (flat_map atom_bounds q.atoms) ds m.0 m.1) [
              | inl j ↦ (let t = Has-flat_map_from atom_bounds q.atoms m.0 j in Has-map f (Has-append_left ds (Has-flat_map atom_bounds (S ++ q.atoms) t.0 m.0 (Has-append_right S t.1) t.2)))
              | inr j ↦ Has-map f (Has-append_right all j)
            ]))
        | inr i ↦ (let m = Has-map_from f (flat_map atom_bounds S) c i in
            let t = Has-flat_map_from atom_bounds S m.0 m.1 in
            subst (Has (on xs)) m.2 (Has-map f (Has-append_left ds (Has-flat_map atom_bounds (S ++ q.atoms) t.0 m.0 (Has-append_left q.atoms t.1) t.2))))
      ]

  module _ (w : IsWithinLimits q) (e : length (first_pairs q n) ≡ length ss) where
    closed_is : closed_constraints r ≡ on (attrs_of q.atoms)
    closed_is = closed_on (attrs_of q.atoms) (signed_attrs q (first_pairs q n) ss (first_signed q w n ss e))

    -- a solution of the constraints gives one of the system that has the signs
    pub front_solution : IsSatisfiable (front_constraints q n ss) → (v : Assignment) × Solves (system q) v × (map (sign_at v) (first_pairs q n) ≡ ss)
    front_solution s =
        let k : IsSatisfiable (closed_constraints r) = subst IsSatisfiable (sym closed_is) (fewer_met (front_constraints q n ss) (on (attrs_of q.atoms)) out_of_on s) in
        let v = solution r (signed_well_formed q (first_pairs q n) ss w (first_signed q w n ss e)) k in
        (v.0, (λ d h. v.1 d (own d h)), (signs_are_said v.0 (first_pairs q n) ss e).1 (λ t h. says v.0 v.1 t h))
      where
        out_of_on : (c : Constraint) → Has (on (attrs_of q.atoms)) c → Has (front_constraints q n ss) c
        out_of_on = into_front

        own : (d : Difference) → Has (system q) d → Has (system r) d
        own d h = elim (Has-append_cases (flat_map atom_bounds q.atoms) (flat_map domain_bounds q.domains) d h) [
          | inl i ↦ (let t = Has-flat_map_from atom_bounds q.atoms d i in Has-append_left (flat_map domain_bounds q.domains) (Has-flat_map atom_bounds (S ++ q.atoms) t.0 d (Has-append_right S t.1) t.2))
          | inr i ↦ Has-append_right (flat_map atom_bounds (S ++ q.atoms)) i
        ]

        says : (v : Assignment) → Solves (system r) v → (t : Atom) → Has S t → AtomHolds v t
        says v s t h = atom_if v t (met_holds t.op t.left t.right v (said_no_unlike (first_pairs q n) ss t h)
            (λ d k. s d (Has-append_left (flat_map domain_bounds q.domains) (Has-flat_map atom_bounds (S ++ q.atoms) t d (Has-append_left q.atoms h) k))))

    -- and a solution of the system that has the signs gives one of the constraints
    pub front_satisfied : (v : Assignment) → Solves (system q) v → map (sign_at v) (first_pairs q n) ≡ ss → IsSatisfiable (front_constraints q n ss)
    front_satisfied v s h = fewer_met (on (attrs_of q.atoms)) (front_constraints q n ss) out_of_front (subst IsSatisfiable closed_is (satisfied r v all))
      where
        all : Solves (system r) v
        all d k = elim (Has-append_cases (flat_map atom_bounds (S ++ q.atoms)) (flat_map domain_bounds q.domains) d k) [
          | inl i ↦ (let t = Has-flat_map_from atom_bounds (S ++ q.atoms) d i in
              elim (Has-append_cases S q.atoms t.0 t.1) [
                | inl j ↦ bounds_met t.0.op t.0.left t.0.right v (atom_says v t.0 ((signs_are_said v (first_pairs q n) ss e).0 h t.0 j)) d t.2
                | inr j ↦ s d (Has-append_left (flat_map domain_bounds q.domains) (Has-flat_map atom_bounds q.atoms t.0 d j t.2))
              ])
          | inr i ↦ s d (Has-append_right (flat_map atom_bounds q.atoms) i)
        ]
