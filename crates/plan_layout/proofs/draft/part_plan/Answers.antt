use Rattle.std.proofs.Common.{◌≡◌, [], refl, sym, ◌∙◌, subst, length, List, rules}
use Rattle.sem_query.specs.declared.part.Sign.{Sign}
use Rattle.plan_links.specs.Refs.{AreRefs}
use Rattle.plan_layout.specs.Drafts.{AreStreamDrafts}
use Rattle.plan_layout.proofs.DraftLaws.{draft_of}
use Rattle.plan_layout.proofs.draft.part_plan.Goals as goal

pub returns-clause-draft : goal.returns-clause-draft
returns-clause-draft c =
    let e = sym (c.copied.ensures ∙ c.as_slice.ensures.value) in
    let none : c.of.result ≡ [] = search rules in
    let alone : c.new-2.result.items ≡ [] = search rules in
    draft_of c.args.q.now c.args.refs
    record { signs = c.copied.result; local = c.of.result; streams = c.streams-streams.result.0; equal = c.args.refs.equal; less = c.args.refs.less; soft = c.new-2.result }
    (subst (λ (z : List Sign). AreRefs c.args.q.now z c.args.refs) e c.requires.refs) refl refl none alone
    (subst (λ (z : List Sign). AreStreamDrafts c.args.q.now z (length c.args.q.now.from) c.streams-streams.result.0.items) e c.streams-streams.ensures.drafts)
