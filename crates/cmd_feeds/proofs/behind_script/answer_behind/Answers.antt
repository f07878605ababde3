use Rattle.std.proofs.Common.{◌∙◌, map, refl, sym, subst, arith}
use Rattle.std.specs.String.{string_bytes}
use Rattle.cmd_session.specs.State.{State, empty}
use Rattle.cmd_session.specs.Session.{StandsFor}
use Rattle.cmd_feeds.proofs.ScriptLines.{script-room, cut-sources}
use Rattle.cmd_feeds.proofs.Scripted.{behind, script-ran, script-cut}
use Rattle.cmd_feeds.proofs.behind_script.answer_behind.Goals as goal

pub take_gated_turns-requires-clause-stands : goal.take_gated_turns-requires-clause-stands
take_gated_turns-requires-clause-stands g c =
    let t = c.in-Done.ensures.done refl c.requires.stands.state c.requires.stands.stands in
    record { state = _; stands = t.holds.stands }

pub take_gated_turns-requires-clause-room : goal.take_gated_turns-requires-clause-room
take_gated_turns-requires-clause-room g c =
    let known = c.requires.stands in
    let t = c.in-Done.ensures.done refl known.state known.stands in
    script-room _ known.state t.text t.holds.answers (sym known.stands.lines ∙ c.requires.lines) t.holds.are t.holds.stands t.few

pub returns-in-Done-clause-ran : goal.returns-in-Done-clause-ran
returns-in-Done-clause-ran g c = λ limit file stands.
    let t = c.in-Done.ensures.done refl (empty limit) stands in
    let run = c.in-Done.ensures.streams (empty limit) stands in
    let cut = cut-sources g.I.Source.seen c.args.sources.now c.split_at_mut-script.result.0.now c.split_at_mut-script.result.1.now c.take_gated_turns.new.feeds c.run_lines.new.input c.index-script-0.result
    c.split_at_mut-script.ensures.value c.split_at_mut-script.ensures.front_len in
    let words = map string_bytes c.args.words.now in
    let ran = script-ran c.take_gated_turns.result limit words _ _ _ _ _ _
    (behind c.take_gated_turns.result limit words _ _ _ _ _ _ _ _ t run.input_later run.output_later (λ s e. (c.take_gated_turns.ensures.ran s (subst (λ (u : State). StandsFor c.run_lines.new.session u) (sym e) t.holds.stands)).ends)) in
    script-cut c.take_gated_turns.result limit file words _ _ _ _ _ _ _ _ cut.before cut.after ran

pub returns-in-Done-clause-later : goal.returns-in-Done-clause-later
returns-in-Done-clause-later g c =
    let known = c.requires.stands in
    let t = c.in-Done.ensures.done refl known.state known.stands in
    let first = (c.in-Done.ensures.streams known.state known.stands).output_later in
    let second = (c.take_gated_turns.ensures.ran _ t.holds.stands).later in
    omega (arith, first, second)

pub returns-in-ReadFault-clause-later : goal.returns-in-ReadFault-clause-later
returns-in-ReadFault-clause-later g c = (c.in-ReadFault.ensures.streams c.requires.stands.state c.requires.stands.stands).output_later

pub returns-in-WriteFault-clause-later : goal.returns-in-WriteFault-clause-later
returns-in-WriteFault-clause-later g c = (c.in-WriteFault.ensures.streams c.requires.stands.state c.requires.stands.stands).output_later

pub returns-in-Memory-clause-later : goal.returns-in-Memory-clause-later
returns-in-Memory-clause-later g c = (c.in-Memory.ensures.streams c.requires.stands.state c.requires.stands.stands).output_later

pub returns-in-ByteLimit-clause-later : goal.returns-in-ByteLimit-clause-later
returns-in-ByteLimit-clause-later g c = (c.in-ByteLimit.ensures.streams c.requires.stands.state c.requires.stands.stands).output_later
