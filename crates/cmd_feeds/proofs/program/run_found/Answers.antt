use Rattle.std.proofs.Common.{◌∙◌, sym, arith}
use Rattle.cmd_feeds.proofs.Bounds.{size-map}
use Rattle.cmd_feeds.proofs.Scripted.{found-end}
use Rattle.cmd_feeds.proofs.WordForms.{rest-of}
use Rattle.cmd_feeds.proofs.program.run_found.Goals as goal

pub returns-in-Some-clause-ends : goal.returns-in-Some-clause-ends
returns-in-Some-clause-ends g c = found-end _ _ c.args.words.now c.args.found.now c.in-Some.field-0 _ _ _ _ _ c.requires.form c.in-Some.is
    (rest-of c.args.found.now.first c.args.words.now (omega (arith, c.requires.form.count))) (c.requires.many ∙ sym (size-map g.I.Source.seen c.args.feeds.now)) c.run_behind.ensures.ran
