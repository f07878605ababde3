-- What each solution of the system of a part has: its signs and, where it meets each `<>`, all comparisons and domains.
use Rattle.std.proofs.Common.{◌≡◌, ℕ, pos, ◌+ℤ◌, ◌-ℤ◌, ◌<ℤ◌, inl, inr, true, false, List, [], ◌∷◌, ◌++◌, refl, sym, ◌∙◌, ap, subst, arith}
use Rattle.std.specs.List.{flat_map}
use Rattle.std.proofs.lemmas.Int.{ints}
use Rattle.std.proofs.lemmas.List.Elements.{All-contains}
use Rattle.sem_query.specs.declared.atom.Attr.{Attr}
use Rattle.sem_query.specs.declared.atom.Atom.{Atom}
use Rattle.sem_query.specs.declared.atom.Domain.{Domain}
use Rattle.sem_query.specs.declared.atom.Element.{Element}
use Rattle.sem_query.specs.declared.atom.Element.TheVariants as element
use Rattle.sem_query.specs.declared.atom.Op.{Op}
use Rattle.sem_query.specs.declared.part.Pair.{Pair}
use Rattle.sem_query.specs.declared.part.Sign.{Sign}
use Rattle.sem_query.specs.Query.{QueryValue, attrs_of, consts_of, HasAttr, IsWithinLimits}
use Rattle.sem_query.specs.Assignment.{Assignment, value, lies_in, holds, AtomHolds, Holds, KeepsDomains}
use Rattle.sem_query.specs.Parts.{pair_of, sign_at}
use Rattle.sem_query.proofs.Has.{Has, first, later, Has-nil, same_at, Contains-from_has, Has-append_left, Has-append_right, Has-append_cases, Has-flat_map, Has-flat_map_from}
use Rattle.sem_query.proofs.Holding.{Holds-each, Holds-from_each}
use Rattle.sem_query.proofs.Domains.{keeps_each, each_keeps, lies, lies_low, lies_high}
use Rattle.sem_query.proofs.Elements.{HasElement, SidesIn, sides_in}
use Rattle.sem_laws.proofs.Tests.{false_if}
use Rattle.sem_laws.specs.Cases.{atom}
use Rattle.plan_constraints.specs.Soft.{denies_itself}
use Rattle.plan_constraints.proofs.Softly.{denied_fails}
use Rattle.plan_split_pairs.specs.Pairs.{split_pairs}
use Rattle.plan_split_pairs.specs.SplitParts.{IsSplitPart}
use Rattle.plan_split_pairs.proofs.Naming.{unlikes_are_pairs}
use Rattle.plan_split_parts.proofs.Unlike.{unlike_holds, unlike_sign}
use Rattle.sem_whole.specs.System.{Difference, atom_bounds, domain_bounds, system, Solves}
use Rattle.sem_whole.specs.Signed.{with_signs, all_said}
use Rattle.sem_whole.proofs.Suffice.{met_holds, bounds_sides, atom_says, atom_if, solves_query}
use Rattle.sem_whole.proofs.Signed.{said_no_unlike, signs_are_said, signed_holds, solutions_satisfy}
use Rattle.sem_forms.specs.Split.{part_query}
use Rattle.sem_lower_bounds.specs.Within.{as_comparisons, written}
use Rattle.sem_split_bounds.proofs.Paths.{Step}
use Rattle.sem_split_bounds.proofs.Parts.{IsBase, based, split_part}

-- ---- the domains as comparisons

comparison_met : (d : Domain) (v : Assignment) → lies_in d (v d.attr) ≡ true → (t : Atom) → Has (as_comparisons d) t → AtomHolds v t
comparison_met d v h t first = atom_if v t (let l = lies_low d (v d.attr) h in omega (arith, ints, l))
comparison_met d v h t (later first) = atom_if v t (let l = lies_high d (v d.attr) h in omega (arith, ints, l))
comparison_met d v h t (later (later k)) = Has-nil k

-- an assignment that satisfies a query within its domains satisfies the query with its domains written as comparisons
pub written_if : (q : QueryValue) (v : Assignment) → Holds q v → KeepsDomains q v → Holds (written q) v
written_if q v h k = Holds-from_each (written q) v (λ t i. elim (Has-append_cases q.atoms (flat_map as_comparisons q.domains) t i) [
  | inl j ↦ Holds-each q v h t j
  | inr j ↦ (let r = Has-flat_map_from as_comparisons q.domains t j in comparison_met r.0 v (keeps_each q v k r.0 r.1) t r.2)
])

-- and the other way round
pub written_only : (q : QueryValue) (v : Assignment) → Holds (written q) v → Holds q v × KeepsDomains q v
written_only q v h = (Holds-from_each q v (λ t i. each t (Has-append_left (flat_map as_comparisons q.domains) i)), each_keeps q v domain)
  where
    each : (t : Atom) → Has (written q).atoms t → AtomHolds v t
    each t i = Holds-each (written q) v h t i

    domain : (d : Domain) → Has q.domains d → lies_in d (v d.attr) ≡ true
    domain d i =
        let low = atom (element.Attr d.attr) Op.Gt (element.Const (d.lo -ℤ pos 1)) in
        let high = atom (element.Attr d.attr) Op.Lt (element.Const (d.hi +ℤ pos 1)) in
        let a = atom_says v low (each low (Has-append_right q.atoms (Has-flat_map as_comparisons q.domains d low i first))) in
        let b = atom_says v high (each high (Has-append_right q.atoms (Has-flat_map as_comparisons q.domains d high i (later first)))) in
        lies d (v d.attr) (omega (arith, ints, a)) (omega (arith, ints, b))

-- ---- differences between columns

-- a domain bounds a column by an integer
pub domain_apart : (e : Domain) (d : Difference) (x y : Attr) → Has (domain_bounds e) d → d.left ≡ element.Attr x → d.right ≡ element.Attr y → ⊥
domain_apart e d x y first l r = absurd cc
domain_apart e d x y (later first) l r = absurd cc
domain_apart e d x y (later (later k)) l r = Has-nil k

-- the columns of a difference between streams are attributes
pub step_named : (q : QueryValue) (x y : Attr) → Step (system q) x y → Has (attrs_of q.atoms) x × Has (attrs_of q.atoms) y
step_named q x y s = elim (Has-append_cases (flat_map atom_bounds q.atoms) (flat_map domain_bounds q.domains) s.of s.among) [
  | inl i ↦ (let r = Has-flat_map_from atom_bounds q.atoms s.of i in
      let n : SidesIn q.atoms r.0 = sides_in q.atoms r.0 r.1 in
      let m = bounds_sides (HasElement (attrs_of q.atoms) (consts_of q.atoms)) r.0.op r.0.left r.0.right n.left n.right s.of r.2 in
      (subst (HasElement (attrs_of q.atoms) (consts_of q.atoms)) s.left m.0, subst (HasElement (attrs_of q.atoms) (consts_of q.atoms)) s.right m.1))
  | inr i ↦ (let r = Has-flat_map_from domain_bounds q.domains s.of i in absurd (domain_apart r.0 s.of x y r.2 s.left s.right))
]

-- where it is not met the query fails
pub step_fails : (q : QueryValue) (v : Assignment) (x y : Attr) (s : Step (system q) x y) → (s.of.by +ℤ v y) <ℤ v x → holds (written q) v ≡ false
step_fails q v x y s l = false_if (holds (written q) v) (λ h.
    let r = written_only q v h in
    let m = solves_query q v r.0 r.1 s.of s.among in
    let e : value s.of.left v ≡ v x = ap (λ z. value z v) s.left in
    let f : value s.of.right v ≡ v y = ap (λ z. value z v) s.right in
    omega (arith, ints, l, m, e, f))

-- ---- the solutions of a part

-- each `<>` is met
abbrev pub KeepsApart : QueryValue → Assignment → Type 0
KeepsApart q v = (t : Atom) → Has q.atoms t → t.op ≡ Op.Ne → AtomHolds v t

pub holds_apart : (q : QueryValue) (v : Assignment) → Holds q v → KeepsApart q v
holds_apart q v h t i e = Holds-each q v h t i

-- the pair of a `<>` is a split pair
pub unlike_split : (q : QueryValue) → IsWithinLimits q → (t : Atom) → Has q.atoms t → t.op ≡ Op.Ne → (p : Pair) → Has (pair_of t.left t.right) p → Has (split_pairs q) p
unlike_split q within t h e p i = let b = unlikes_are_pairs q within in subst (λ ps. Has ps p) (sym b.joined) (Has-append_left b.others (b.each t h e p i))

module _ (q : QueryValue) (within : IsWithinLimits q) (ps : List Pair) (ss : List Sign) (is : IsBase q ps ss) where
  -- the assignment that has the signs is one
  pub base_solves : Solves (system (with_signs ps ss q)) is.one
  base_solves = solves_query (with_signs ps ss q) is.one ((signed_holds q ps ss is.same is.one).1 (is.holds, is.has)) is.domains

  -- each has the same signs
  pub signs_alike : (v : Assignment) → Solves (system (with_signs ps ss q)) v → (p : Pair) → Has ps p → sign_at v p ≡ sign_at is.one p
  signs_alike v s p h = same_at (sign_at v) (sign_at is.one) ((signs_are_said v ps ss is.same).1 says ∙ sym is.has) h
    where
      says : (t : Atom) → Has (all_said ps ss) t → AtomHolds v t
      says t i = atom_if v t (met_holds t.op t.left t.right v (said_no_unlike ps ss t i) (λ d k. s d
          (Has-append_left (flat_map domain_bounds q.domains) (Has-flat_map atom_bounds (all_said ps ss ++ q.atoms) t d (Has-append_left q.atoms i) k))))

  -- each meets a `<>` whose pair is one of the part
  paired_met : (v : Assignment) → Solves (system (with_signs ps ss q)) v → (t : Atom) → Has q.atoms t → t.op ≡ Op.Ne → ((p : Pair) → Has (pair_of t.left t.right) p → Has ps p) → AtomHolds v t
  paired_met v s t h e among = unlike_holds v t (All-contains HasAttr q.atoms t within.sides (Contains-from_has q.atoms t h)) e
      (false_if (denies_itself t) (λ n. denied_fails t is.one n at_base))
      (λ p i k. unlike_sign is.one t e at_base p i (sym (signs_alike v s p (among p i)) ∙ k))
    where
      at_base : AtomHolds is.one t
      at_base = Holds-each q is.one is.holds t h

  -- one that meets each `<>` satisfies the query within its domains
  pub part_satisfies : (v : Assignment) → Solves (system (with_signs ps ss q)) v → KeepsApart q v → Holds q v × KeepsDomains q v
  part_satisfies v s apart =
      let r = solutions_satisfy (with_signs ps ss q) v s (λ t h e. elim (Has-append_cases (all_said ps ss) q.atoms t h) [
        | inl i ↦ absurd (said_no_unlike ps ss t i e)
        | inr i ↦ apart t i e
      ]) in
      (((signed_holds q ps ss is.same v).0 r.0).0, r.1)

  pub part_written : (v : Assignment) → Solves (system (with_signs ps ss q)) v → KeepsApart q v → Holds (written q) v
  part_written v s apart = let r = part_satisfies v s apart in written_if q v r.0 r.1

-- of a split part each solution does, since the sign of the pair of each `<>` is said
pub solution_written : (q : QueryValue) (within : IsWithinLimits q) (ss : List Sign) → IsSplitPart q ss → (v : Assignment) → Solves (system (part_query q ss)) v → Holds (written q) v
solution_written q within ss is v s = part_written q within (split_pairs q) ss base v s (λ t h e. paired_met q within (split_pairs q) ss base v s t h e (unlike_split q within t h e))
  where
    base : IsBase q (split_pairs q) ss
    base = based q (split_pairs q) ss (split_part q within ss is)
