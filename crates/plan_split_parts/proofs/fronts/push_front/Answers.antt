use Rattle.std.proofs.Common.{◌≡◌, ◌∷◌, [], ◌++◌, map, get_or, length, ◌∙◌, ap, sym, subst, arith}
use Rattle.sem_query.specs.Query.{attrs_of}
use Rattle.plan_closure.specs.Shortest.{AreDistancesOf}
use Rattle.plan_split_pairs.proofs.Adding.{no_pair}
use Rattle.sem_whole.specs.System.{atom_bounds}
use Rattle.sem_whole.specs.Signed.{said}
use Rattle.plan_whole.specs.Closed.{constraint_of}
use Rattle.plan_split_parts.specs.declared.front.Front.{Front}
use Rattle.plan_split_parts.specs.Fronts.{front_constraints}
use Rattle.plan_split_parts.proofs.SignedPairs.{side_of}
use Rattle.plan_constraints.specs.Solutions.{IsSatisfiable}
use Rattle.plan_split_parts.proofs.Stepped.{pair_at, constraints_more, pushes_none, pushes_one}
use Rattle.plan_split_parts.proofs.Tabled.{allowed_each}
use Rattle.plan_split_parts.proofs.Reached.{place_in, named_at}
use Rattle.plan_split_parts.proofs.fronts.push_front.Goals as goal

pub of_sign-added-requires-clause-left : goal.of_sign-added-requires-clause-left
of_sign-added-requires-clause-left c = (named_at c.args.q.now c.requires.pairs.limits c.args.pairs.now c.requires.pairs.pairs c.len.result no_pair (omega (arith, c.len.ensures.value, c.requires.room))).left

pub of_sign-added-requires-clause-right : goal.of_sign-added-requires-clause-right
of_sign-added-requires-clause-right c = side_of (attrs_of c.args.q.now.atoms) _ (named_at c.args.q.now c.requires.pairs.limits c.args.pairs.now c.requires.pairs.pairs c.len.result no_pair (omega (arith, c.len.ensures.value, c.requires.room))).right

pub returns-then-not-allows_each : goal.returns-then-not-allows_each
returns-then-not-allows_each c =
    let q = c.args.q.now in
    let pre = c.args.front.now.signs.items in
    let n = length pre in
    let k = constraint_of (attrs_of q.atoms) in
    let w = c.requires.pairs.limits in
    let l = place_in q c.args.pairs.now n c.requires.pairs.pairs c.requires.room in
    let pair : get_or c.args.pairs.now c.len.result no_pair ≡ pair_at q n = ap (λ i. get_or c.args.pairs.now i no_pair) c.len.ensures.value ∙ ap (λ ps. get_or ps n no_pair) c.requires.pairs.pairs in
    let added : c.as_slice.result.now ≡ map k (atom_bounds (said (pair_at q n) c.args.sign)) = c.as_slice.ensures.value ∙ c.of_sign-added.ensures.value ∙ ap (λ p. map k (atom_bounds (said p c.args.sign))) pair in
    pushes_none q w n l pre c.args.sign c.args.list.now.items c.requires.front.signs
    (λ s. let y = (c.allows_each.ensures _ _ c.requires.front.distances).1 (allowed_each (front_constraints q n pre) c.as_slice.result.now
    (subst IsSatisfiable (sym (ap (λ z. front_constraints q n pre ++ z) added ∙ constraints_more q w n l pre c.args.sign c.requires.front.signs)) s)) in cc)

pub returns-then-not-satisfiable : goal.returns-then-not-satisfiable
returns-then-not-satisfiable c =
    let q = c.args.q.now in
    let pre = c.args.front.now.signs.items in
    let n = length pre in
    let k = constraint_of (attrs_of q.atoms) in
    let w = c.requires.pairs.limits in
    let l = place_in q c.args.pairs.now n c.requires.pairs.pairs c.requires.room in
    let pair : get_or c.args.pairs.now c.len.result no_pair ≡ pair_at q n = ap (λ i. get_or c.args.pairs.now i no_pair) c.len.ensures.value ∙ ap (λ ps. get_or ps n no_pair) c.requires.pairs.pairs in
    let added : c.as_slice-2.result.now ≡ map k (atom_bounds (said (pair_at q n) c.args.sign)) = c.as_slice-2.ensures.value ∙ c.of_sign-added.ensures.value ∙ ap (λ p. map k (atom_bounds (said p c.args.sign))) pair in
    let stepped = subst (AreDistancesOf c.add_all.new.self (length (attrs_of q.atoms))) (ap (λ z. front_constraints q n pre ++ z) added ∙ constraints_more q w n l pre c.args.sign c.requires.front.signs) (c.add_all.ensures _ _ c.requires.front.distances) in
    pushes_none q w n l pre c.args.sign c.args.list.now.items c.requires.front.signs (λ s. let y = (c.satisfiable.ensures _ _ stepped).1 s in cc)

pub returns-in-Ok : goal.returns-in-Ok
returns-in-Ok c =
    let q = c.args.q.now in
    let pre = c.args.front.now.signs.items in
    let n = length pre in
    let k = constraint_of (attrs_of q.atoms) in
    let w = c.requires.pairs.limits in
    let l = place_in q c.args.pairs.now n c.requires.pairs.pairs c.requires.room in
    let pair : get_or c.args.pairs.now c.len.result no_pair ≡ pair_at q n = ap (λ i. get_or c.args.pairs.now i no_pair) c.len.ensures.value ∙ ap (λ ps. get_or ps n no_pair) c.requires.pairs.pairs in
    let added : c.as_slice-2.result.now ≡ map k (atom_bounds (said (pair_at q n) c.args.sign)) = c.as_slice-2.ensures.value ∙ c.of_sign-added.ensures.value ∙ ap (λ p. map k (atom_bounds (said p c.args.sign))) pair in
    let stepped = subst (AreDistancesOf c.add_all.new.self (length (attrs_of q.atoms))) (ap (λ z. front_constraints q n pre ++ z) added ∙ constraints_more q w n l pre c.args.sign c.requires.front.signs) (c.add_all.ensures _ _ c.requires.front.distances) in
    let g : Front = record { signs = c.longer-signs.result; distances = c.add_all.new.self } in
    pushes_one q w n l pre c.args.sign c.args.list.now.items c.push.new.self.items g c.requires.front.signs (λ m. c.requires.sign (omega (arith, m, c.requires.pairs.unlikes)))
    ((c.satisfiable.ensures _ _ stepped).0 c.if-not-satisfiable.false) (c.longer-signs.ensures ∙ ap (λ z. z ++ c.args.sign ∷ []) c.as_slice-3.ensures.value) stepped c.in-Ok.ensures.items
