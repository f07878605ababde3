use Rattle.std.proofs.Common.{sym, ap, ◌∙◌}
use Rattle.std.specs.Option.{option_copied}
use Rattle.adv_templates.proofs.Sequences.{writes_as}
use Rattle.adv_sentences.proofs.Writers.{writes_after}
use Rattle.adv_sentences.proofs.Listing.{like_found}
use Rattle.adv_sentences.proofs.lists.write_there_like.Goals as goal

pub returns-in-Some : goal.returns-in-Some
returns-in-Some g c =
    let found = sym c.alike.ensures ∙ ap option_copied c.in-Some.is in
    let meant = rw (c.bytes.ensures.bytes) at c.write_filled.ensures in
    writes_as c.write_filled.result _ _ _ _ (like_found c.args.word.now c.args.names.now c.in-Some.name.now found) (writes_after _ _ _ _ _ _ c.in_ok-write_there_are.ensures meant)
