-- Signs that begin those with which a part may begin: a part may begin with them too.
use Rattle.std.proofs.Common.{◌≡◌, ℕ, ◌+◌, Bool, true, false, inl, inr, List, [], ◌∷◌, ◌++◌, length, length-append, Option, Some, None, refl, ◌∙◌, ap, subst, arith}
use Rattle.sem_query.specs.declared.atom.Attr.{Attr}
use Rattle.sem_query.specs.declared.atom.Atom.{Atom}
use Rattle.sem_query.specs.declared.atom.Element.TheVariants as element
use Rattle.sem_query.specs.declared.part.Pair.{Pair}
use Rattle.sem_query.specs.declared.part.Sign.{Sign}
use Rattle.sem_query.proofs.Has.{Has, Has-from_contains, Contains-from_has, Has-append_left, Has-append_right, Has-append_cases}
use Rattle.sem_query.proofs.Split.{StartsWith}
use Rattle.plan_constraints.specs.declared.constraint.Constraint.{Constraint}
use Rattle.plan_constraints.specs.Nodes.{constraints_of}
use Rattle.plan_constraints.specs.PartConstraints.{of_signs}
use Rattle.plan_constraints.specs.Solutions.{IsSatisfiable}
use Rattle.plan_constraints.specs.Soft.{fails_by, denies_itself}
use Rattle.plan_constraints.proofs.Softly.{neither, any_none}
use Rattle.cert_checker.specs.Branching.{Branching, constraints_at}
use Rattle.cert_checker.specs.Branches.{AreBranches}
use Rattle.cert_checker.specs.Rules.{comparison, is_false_under, is_refuted, is_there_refuted, some_refuted, IsRefuted}
use Rattle.cert_maker.specs.Made.{IsOpen}
use Rattle.cert_maker.proofs.Closing.{neither_from, none_any, there}

-- fewer signs have fewer constraints
fewer_signs : (xs : List Attr) (ps : List Pair) (pre rest : List Sign) (c : Constraint) → Has (of_signs xs ps pre) c → Has (of_signs xs ps (pre ++ rest)) c
fewer_signs xs [] pre rest c h = elim h [ ]
fewer_signs xs (p ∷ ps) [] rest c h = elim h [ ]
fewer_signs xs (p ∷ ps) (s ∷ pre) rest c h = elim (Has-append_cases (constraints_of xs (element.Attr p.left) s p.right) (of_signs xs ps pre) c h) [
  | inl i ↦ Has-append_left (of_signs xs ps (pre ++ rest)) i
  | inr i ↦ Has-append_right (constraints_of xs (element.Attr p.left) s p.right) (fewer_signs xs ps pre rest c i)
]

fewer_at : (b : Branching) (pre rest : List Sign) (c : Constraint) → Has (constraints_at b pre) c → Has (constraints_at b (pre ++ rest)) c
fewer_at b pre rest c h = elim (Has-append_cases b.base (of_signs b.attrs b.pairs pre) c h) [
  | inl i ↦ Has-append_left (of_signs b.attrs b.pairs (pre ++ rest)) i
  | inr i ↦ Has-append_right b.base (fewer_signs b.attrs b.pairs pre rest c i)
]

satisfiable_from : (b : Branching) (pre rest : List Sign) → IsSatisfiable (constraints_at b (pre ++ rest)) → IsSatisfiable (constraints_at b pre)
satisfiable_from b pre rest t = record {
  at = t.at;
  solves = record { origin = t.solves.origin; each = λ c h. t.solves.each c (Contains-from_has _ c (fewer_at b pre rest c (Has-from_contains _ c h))) };
}

-- and refute fewer comparisons
false_from : (t : Atom) (ps : List Pair) (pre rest : List Sign) → is_false_under t ps (pre ++ rest) ≡ false → is_false_under t ps pre ≡ false
false_from t [] pre rest h = refl
false_from t (p ∷ ps) [] rest h = refl
false_from t (p ∷ ps) (s ∷ pre) rest h =
    let k = neither (fails_by t p s) (is_false_under t ps (pre ++ rest)) h in
    neither_from (fails_by t p s) (is_false_under t ps pre) k.0 (false_from t ps pre rest k.1)

agree_from : (b : Branching) (pre rest : List Sign) → some_refuted b.pairs (pre ++ rest) b.atoms ≡ false → some_refuted b.pairs pre b.atoms ≡ false
agree_from b pre rest h = none_any (λ t. is_refuted b.pairs pre t) b.atoms (λ t i.
    let k = neither (denies_itself t) (is_false_under t b.pairs (pre ++ rest)) (any_none (λ t. is_refuted b.pairs (pre ++ rest) t) b.atoms h t i) in
    neither_from (denies_itself t) (is_false_under t b.pairs pre) k.0 (false_from t b.pairs pre rest k.1))

never : (c : Bool) → c ≡ false → c ≡ true → ⊥
never true n k = absurd cc
never false n k = absurd cc

module _ (b : Branching) (Part Front : List Sign → Type 0) (a : AreBranches b Part Front) where
  -- a part may begin with what its open signs begin with
  pub front_from : (pre s : List Sign) → IsOpen b Front s → StartsWith pre s → Front pre
  front_from pre s o w =
      let long : length s ≡ length pre + length w.rest = ap length w.is ∙ length-append pre w.rest in
      a.opens pre (omega (arith, long, o.left))
      (agree_from b pre w.rest (subst (λ (z : List Sign). some_refuted b.pairs z b.atoms ≡ false) w.is (a.agreed s o.front)))
      (satisfiable_from b pre w.rest (subst (λ (z : List Sign). IsSatisfiable (constraints_at b z)) w.is (a.solved s o.front)))

  -- and with no signs that refute a comparison
  pub none_against : (pre : List Sign) (number : ℕ) → IsRefuted b pre number → ¬ Front pre
  none_against pre number h f = by (comparison b.atoms number) refl h
    where
      by : (o : Option Atom) → comparison b.atoms number ≡ o → is_there_refuted b.pairs pre o ≡ true → ⊥
      by None e k = absurd cc
      by (Some t) e k = never (is_refuted b.pairs pre t) (any_none (λ t. is_refuted b.pairs pre t) b.atoms (a.agreed pre f) t (there b.atoms number t e)) k
