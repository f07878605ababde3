use Rattle.std.proofs.Common.{ℕ, ◌+◌, sym, subst}
use Rattle.cmd_dispatch.specs.Loading.{Counted}
use Rattle.cmd_dispatch.proofs.LoadSteps.{LoadProgress, load_begins, load_next, load_done}
use Rattle.cmd_dispatch.proofs.load.answer_lines.Goals as goal

pub answering-init : goal.answering-init
answering-init g c = load_begins c.args.script.now c.args.session.now c.requires.stands

pub answering-preserved : goal.answering-preserved
answering-preserved g c =
    let more = c.in-Some-reply_lines.more in
    let after = c.reply_lines.new.session in
    let P : ℕ → Type 0 = λ n. LoadProgress c.args.script.now c.next.new.self after (c.answering.lines + n) in
    subst P (sym c.from-lines.ensures)
    (load_next c.args.script.now c.answering.script c.next.new.self c.in-Some.line.items c.answering.session after c.answering.lines more c.answering.invariant c.in-Some.ensures
    (λ s stands. subst (λ l. Counted s l after more) c.as_slice.ensures.value (c.in-Some-reply_lines.ensures.counted s stands)) c.in-Some-reply_lines.ensures.few)

pub returns : goal.returns
returns g c = load_done c.args.script.now c.answering.session c.answering.lines
    (subst (λ l. LoadProgress c.args.script.now l c.answering.session c.answering.lines) c.in_default.ensures.0 c.answering.invariant)
