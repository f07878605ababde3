use Rattle.std.proofs.Common.{◌≡◌, ◌∙◌, pos, neg_ℤ, ◌≤ℤ◌, ap, arith, to_z, of_z, List}
use Rattle.std.proofs.lemmas.Int.{ints}
use mir.Syntax.{w64}
use Rattle.sem_query.specs.declared.atom.Attr.{Attr}
use Rattle.sem_query.specs.declared.atom.Element.TheVariants as element
use Rattle.plan_constraints.specs.Nodes.{node_of}
use Rattle.plan_links.proofs.InPartFacts.{solvable}
use Rattle.adv_key_decision.proofs.AllParts.{node-within, at-most-some, at-most-none}
use Rattle.adv_key_decision.proofs.equal.is_at_most.Goals as goal

pub upper-requires-clause-left : goal.upper-requires-clause-left
upper-requires-clause-left c = node-within _ _ _ c.requires.known _ c.args.a c.requires.left (c.node-left.ensures.value ∙ ap (λ (xs : List Attr). node_of xs (element.Attr c.args.a)) c.attrs.ensures.value)

pub upper-requires-clause-right : goal.upper-requires-clause-right
upper-requires-clause-right c = node-within _ _ _ c.requires.known _ c.args.b c.requires.right (c.node-right.ensures.value ∙ ap (λ (xs : List Attr). node_of xs (element.Attr c.args.b)) c.attrs-2.ensures.value)

pub upper-requires-clause-satisfiable : goal.upper-requires-clause-satisfiable
upper-requires-clause-satisfiable c = solvable _ _ _ c.requires.known

pub returns-in-Some : goal.returns-in-Some
returns-in-Some c =
    let s : (neg_ℤ (pos 100000000000000000) ≤ℤ c.in-Some.bound) × (c.in-Some.bound ≤ℤ pos 100000000000000000) = c.in-Some.ensures.small in
    let u1 : to_z w64 (of_z w64 c.in-Some.bound) ≡ c.in-Some.bound = omega (arith, ints, s.0, s.1) in
    let k = at-most-some _ _ _ c.requires.known c.args.a c.args.b c.requires.left c.requires.right _ _
    (c.node-left.ensures.value ∙ ap (λ (xs : List Attr). node_of xs (element.Attr c.args.a)) c.attrs.ensures.value)
    (c.node-right.ensures.value ∙ ap (λ (xs : List Attr). node_of xs (element.Attr c.args.b)) c.attrs-2.ensures.value)
    c.in-Some.bound (c.in-Some.ensures.answer _ _ c.requires.known.distances) in
    ((λ h. k.0 (omega (arith, ints, h, u1))), (λ a. let g = k.1 a in grind (arith, ints, g, u1)))

pub returns-in-None : goal.returns-in-None
returns-in-None c = (
  (λ h. cc),
  (λ a. absurd (at-most-none _ _ _ c.requires.known c.args.a c.args.b c.requires.left c.requires.right _ _
      (c.node-left.ensures.value ∙ ap (λ (xs : List Attr). node_of xs (element.Attr c.args.a)) c.attrs.ensures.value)
      (c.node-right.ensures.value ∙ ap (λ (xs : List Attr). node_of xs (element.Attr c.args.b)) c.attrs-2.ensures.value)
      (c.in-None.ensures.answer _ _ c.requires.known.distances) a)),
)
