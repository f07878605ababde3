-- The constraints of a part, one after another.
use Rattle.std.proofs.Common.{◌≡◌, ℕ, ◌+◌, ◌*◌, ◌<◌, ◌≤◌, List, [], ◌++◌, filter, length, take, All, slice_get, slice_index_or, pos, Some, refl, sym, ◌∙◌, ap, subst, arith}
use Rattle.std.proofs.lemmas.List.{take_more, take-take, length-take-le, length-map}
use Rattle.plan_closure.specs.ChoiceValue.{ChoiceValue}
use Rattle.plan_closure.specs.Choices.{IsChoice, AreChoices, chosen}
use Rattle.plan_closure.proofs.Zips.{zip_length, zip_at}
use Rattle.sem_query.proofs.FewPairs.{few_with_soft}
use Rattle.sem_query.specs.declared.part.Pair.{Pair}
use Rattle.sem_query.specs.declared.part.Sign.{Sign}
use Rattle.sem_query.specs.declared.atom.Element.TheVariants as element
use Rattle.sem_query.specs.Query.{QueryValue, attrs_of, is_soft, IsWithinLimits}
use Rattle.sem_query.specs.Parts.{pairs, signs_of, IsPart}
use Rattle.plan_constraints.specs.declared.constraint.Constraint.{Constraint}
use Rattle.plan_constraints.specs.Nodes.{constraints_of}
use Rattle.plan_constraints.specs.PartConstraints.{of_base, of_prefix}
use Rattle.plan_constraints.specs.Solutions.{IsWithin}
use Rattle.plan_constraints.proofs.NodeFacts.{length-constraints}
use Rattle.plan_constraints.proofs.Prefix.{pair_at, prefix_more, of_no_prefix}
use Rattle.plan_closure.specs.declared.distances.Distances.{Distances}
use Rattle.plan_closure.specs.Shortest.{AreDistancesOf}
use Rattle.plan_links.specs.Known.{AddsSign}

-- ---- the signs

-- a part has a sign for each pair
pub long : (q : QueryValue) (s : List Sign) → IsPart q s → length s ≡ length (pairs q)
long q s p =
    let a : length (signs_of q p.one) ≡ length (pairs q) = simp length-map in
    let b : length (signs_of q p.one) ≡ length s = ap length p.inside.signs in
    omega (arith, a, b)

pub adds_sign : (q : QueryValue) (ps : List Pair) (ss : List Sign) (i : ℕ) (d : Pair) (t : Sign) (cs : List Constraint) → ps ≡ pairs q → i + 1 ≤ length ps → i + 1 ≤ length ss
    → cs ≡ constraints_of (attrs_of q.atoms) (element.Attr (slice_index_or ps i d).left) (slice_index_or ss i t) (slice_index_or ps i d).right → All (IsWithin (length (attrs_of q.atoms))) cs → AddsSign q ss i cs
adds_sign q ps ss i d t cs e l m c w =
    let n : length (take i ss) ≡ i = length-take-le i ss (omega (arith, m)) in
    let here : slice_get ps i ≡ Some (slice_index_or ps i d) = pair_at ps i d (omega (arith, l)) in
    let there : slice_get (pairs q) i ≡ Some (slice_index_or ps i d) = subst (λ (z : List Pair). slice_get z i ≡ Some (slice_index_or ps i d)) e here in
    let is : slice_get (pairs q) (length (take i ss)) ≡ Some (slice_index_or ps i d) = subst (λ (k : ℕ). slice_get (pairs q) k ≡ Some (slice_index_or ps i d)) (sym n) there in
    record {
      more = ap (of_prefix q) (take_more ss i t (omega (arith, m))) ∙ prefix_more q (take i ss) (slice_index_or ps i d) (slice_index_or ss i t) is ∙ ap (λ z. of_prefix q (take i ss) ++ z) (sym c);
      within = w;
      few = subst (λ (z : List Constraint). length z ≤ 2) (sym c) (length-constraints (attrs_of q.atoms) (element.Attr (slice_index_or ps i d).left) (slice_index_or ss i t) (slice_index_or ps i d).right);
    }

-- what the pair of a sign adds by that sign
pub adds_choice : (q : QueryValue) (ps : List ChoiceValue) (ss : List Sign) (i : ℕ) (d : ChoiceValue) (t : Sign) (cs : List Constraint) → AreChoices q ps → i + 1 ≤ length ps → i + 1 ≤ length ss → cs ≡ chosen (slice_index_or ps i d) (slice_index_or ss i t) → AddsSign q ss i cs
adds_choice q ps ss i d t cs h l m e =
    let p : Pair = record { left = record { stream = 0; column = 0 }; right = element.Const (pos 0) } in
    let n : length ps ≡ length (pairs q) = zip_length (IsChoice q) (pairs q) ps h in
    let o : i < length (pairs q) = omega (arith, l, n) in
    let k : IsChoice q (slice_index_or (pairs q) i p) (slice_index_or ps i d) = zip_at (IsChoice q) (pairs q) ps i p d h o in
    adds_sign q (pairs q) ss i p t cs refl (omega (arith, o)) m (e ∙ k.says (slice_index_or ss i t)) (subst (All (IsWithin (length (attrs_of q.atoms)))) (sym e) (k.within (slice_index_or ss i t)))

-- there is a choice for each sign of a part
pub choice_there : (q : QueryValue) (ps : List ChoiceValue) (ss : List Sign) (i : ℕ) → AreChoices q ps → IsPart q ss → i < length ss → i + 1 ≤ length ps
choice_there q ps ss i h p l = omega (arith, l, zip_length (IsChoice q) (pairs q) ps h, long q ss p)

-- there is room for the constraints of one sign more
pub room_for : (q : QueryValue) (ss : List Sign) (i n m : ℕ) → IsPart q ss → IsWithinLimits q → i < length ss → n + 2 * length (filter (λ t. is_soft t.op) q.atoms) ≤ 56 + 2 * i → m ≤ 2 → n + m ≤ 300
room_for q ss i n m p w l h k = omega (arith, l, h, k, long q ss p, few_with_soft q w)

-- ---- distances

pub distances_start : (q : QueryValue) (d e : Distances) → d ≡ e → AreDistancesOf e (length (attrs_of q.atoms)) (of_base q) → AreDistancesOf d (length (attrs_of q.atoms)) (of_prefix q [])
distances_start q d e i h = subst (λ (cs : List Constraint). AreDistancesOf d (length (attrs_of q.atoms)) cs) (sym (of_no_prefix q)) (subst (λ (z : Distances). AreDistancesOf z (length (attrs_of q.atoms)) (of_base q)) (sym i) h)

pub distances_more : (q : QueryValue) (ss : List Sign) (i n : ℕ) (cs : List Constraint) (d : Distances) → AddsSign q ss i cs → AreDistancesOf d n (of_prefix q (take i ss) ++ cs) → AreDistancesOf d n (of_prefix q (take (i + 1) ss))
distances_more q ss i n cs d a h = subst (λ (z : List Constraint). AreDistancesOf d n z) (sym a.more) h

pub within_for : (q : QueryValue) (ss : List Sign) (i : ℕ) (cs ds : List Constraint) (d : Distances) → AddsSign q ss i cs → AreDistancesOf d (length (attrs_of q.atoms)) ds → All (IsWithin d.attrs) cs
within_for q ss i cs ds d a h = subst (λ (n : ℕ). All (IsWithin n) cs) (sym h.attrs) a.within

-- ---- first signs

-- fewer first signs are shared, too
pub shared_fewer : (ss ts : List Sign) (n m : ℕ) → n ≤ m → take m ss ≡ take m ts → take n ss ≡ take n ts
shared_fewer ss ts n m l h = sym (take-take n m ss l) ∙ ap (take n) h ∙ take-take n m ts l
