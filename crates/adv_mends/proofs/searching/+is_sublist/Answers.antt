use Rattle.std.proofs.Common.{refl}
use Rattle.adv_mends.proofs.Sublists.{sublist-step, sublist-nothing}
use Rattle.adv_mends.proofs.searching.+is_sublist.Goals as goal

pub returns-in-empty : goal.returns-in-empty
returns-in-empty t c = sublist-nothing c.args.columns.now c.args.others.now _ c.in-empty.len_below refl

pub returns-in-len1-up : goal.returns-in-len1-up
returns-in-len1-up t c =
    let s = sublist-step c.args.columns.now c.args.others.now _ _ c.in-len1-up.len_at_least c.behind.ensures in
    ((λ h. s.0 (c.is_sublist.ensures.0 h)), (λ w. c.is_sublist.ensures.1 (s.1 w)))
