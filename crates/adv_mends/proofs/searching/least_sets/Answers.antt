use Rattle.std.proofs.Common.{◌≡◌, List, length, min, ap, sym, ◌∙◌}
use Rattle.sem_query.specs.declared.atom.Attr.{Attr}
use Rattle.adv_mends.specs.Sets.{open_columns, sets_of}
use Rattle.adv_mends.proofs.SetSearchLaws.{least_all, cut-by}
use Rattle.adv_mends.proofs.searching.least_sets.Goals as goal

pub returns : goal.returns
returns c =
    let q = c.args.query.now in
    let named : c.in_ok-sets.sets.items ≡ sets_of (open_columns q) = c.in_ok-sets.ensures ∙ ap sets_of (c.as_slice.ensures.value ∙ c.open_columns-columns.ensures) in
    least_all c.args.kind q c.args.most _ c.in_ok-found.found.items _ c.in_ok-found.ensures (ap (λ (l : List (List Attr)). min (length l) c.args.most) (c.deref.ensures.value ∙ named))
    (cut-by _ _ c.args.most _ c.from.ensures (c.len.ensures ∙ (sym c.deref.ensures.len ∙ ap length (c.deref.ensures.value ∙ named))))
