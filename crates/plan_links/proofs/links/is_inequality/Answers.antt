use Rattle.plan_links.proofs.Gathered.{not_iff, not_from}
use Rattle.plan_links.proofs.links.is_inequality.Goals as goal

pub returns-then-is_less_across : goal.returns-then-is_less_across
returns-then-is_less_across c =
    let n = not_iff c.is_redundant.result c.is_redundant.ensures.0 c.is_redundant.ensures.1 in
    let l = c.is_less_across.ensures.0 c.if-is_less_across.true in
    ((λ h. record { across = record { left = c.requires.left; right = c.requires.right; across = l.0 }; less = l.1; needed = n.0 h }), (λ i. n.1 i.needed))

pub returns-else-is_less_across : goal.returns-else-is_less_across
returns-else-is_less_across c = ((λ h. cc), (λ i. absurd (not_from _ c.is_less_across.ensures.1 c.if-is_less_across.false (i.across.across, i.less))))
