-- The cells that a run took, where it ends.
use Rattle.std.proofs.Common.{◌≡◌, ℕ, inl, inr, Bool, List, [], ◌∷◌, ◌++◌, sym, ap, ◌∙◌, subst, append_assoc, append-nil, arith}
use Rattle.io_line_reader.specs.GivenLines.{LastGiven}
use Rattle.io_line_reader.specs.Reading.{Reading}
use Rattle.io_line_reader.specs.declared.reader.LineAnswer.TheVariants as reads
use Rattle.io_line_reader.proofs.GivenEnds.{text-lines, all-given, last-text, last-given}
use Rattle.io_streams.specs.Sink.{SinkState}
use Rattle.io_streams.specs.Source.{SourceState}
use Rattle.exec_pool.specs.Counted.{StepsValue}
use Rattle.sql_text.specs.Lines.{lines}
use Rattle.cmd_session.specs.Events.{lines_of}
use Rattle.cmd_session.specs.Events as events
use Rattle.cmd_session.specs.Fetched.{Came, Read, StoppedHere}
use Rattle.cmd_session.specs.Run.{Took}
use Rattle.cmd_session.specs.Session.{SessionValue, StandsFor, TakesCells}
use Rattle.cmd_session.specs.Spent.{SpentOver}
use Rattle.cmd_session.specs.State.{State}
use Rattle.cmd_session.specs.Turned.{Turned, ahead, reply, behind}
use Rattle.cmd_session.specs.Uncounted.{EndsUncounted}
use Rattle.cmd_session.specs.declared.one_turn.Turn.{Turn}
use Rattle.cmd_session.specs.declared.one_turn.Turn.TheVariants as turns
use Rattle.cmd_session.specs.declared.run.Ending.{Ending}
use Rattle.cmd_session.specs.declared.run.Ending.TheVariants as ending
use Rattle.cmd_session.proofs.Held.{moves-all}
use Rattle.cmd_session.proofs.Progress.{Progress, waits, only-moved}
use Rattle.cmd_session.proofs.SpentCells.{Spent, spent-over}
use Rattle.cmd_session.proofs.ToldEvents.{Told, at, events_of, events_of-append, lines_of-append, only-append}

-- all lines were given
spent-all : (s : State) (source now now' : SourceState) (old new : Reading) (session : SessionValue) (before below below' : SinkState) (held kept : List ℕ) (steps spent last : StepsValue)
    → Progress s source now old session before below held steps spent → Read reads.End old new now now' below below' held kept → TakesCells session.registry.live spent last
    → Took source now' (λ (text : List ℕ). SpentOver s text steps last)
spent-all s source now now' old new session before below below' held kept steps spent last p r takes =
    let all = p.answered ++ p.pending in
    let a = all-given source now now' old new p.given.front (lines_of 1 (events_of p.answered ++ events_of p.pending)) p.given.given r.next in
    let listed : lines p.given.front ≡ lines_of 1 (events_of all) ++ [] = a.are ∙ ap (lines_of 1) (sym (events_of-append p.answered p.pending)) ∙ sym (append-nil (lines_of 1 (events_of all))) in
    record {
      text = p.given.front;
      taken = a.all.taken;
      holds = spent-over s p.given.front all [] session steps spent last (inl listed) (only-append p.answered p.pending p.only.0 p.only.1) p.has.are p.spent p.stands takes;
    }

-- no more lines are given
spent-last : (s : State) (source now now' : SourceState) (old new : Reading) (session : SessionValue) (before below : SinkState) (held text : List ℕ) (steps spent last : StepsValue)
    → (p : Progress s source now old session before below held steps spent) → LastGiven source now' new text (lines_of 1 (events_of p.answered ++ events_of p.pending)) → TakesCells session.registry.live spent last
    → Took source now' (λ (text : List ℕ). SpentOver s text steps last)
spent-last s source now now' old new session before below held text steps spent last p u takes =
    let all = p.answered ++ p.pending in
    let listed = u.are ∙ ap (lines_of 1) (sym (events_of-append p.answered p.pending)) ∙ sym (append-nil (lines_of 1 (events_of all))) in
    record {
      text = text;
      taken = u.taken;
      holds = spent-over s text all [] session steps spent last (inr listed) (only-append p.answered p.pending p.only.0 p.only.1) p.has.are p.spent p.stands takes;
    }

spent-read_fault : (s : State) (source now now' : SourceState) (old new : Reading) (session : SessionValue) (before below below' : SinkState) (held kept : List ℕ) (steps spent last : StepsValue)
    → Progress s source now old session before below held steps spent → Read reads.ReadFault old new now now' below below' held kept → TakesCells session.registry.live spent last
    → Took source now' (λ (text : List ℕ). SpentOver s text steps last)
spent-read_fault s source now now' old new session before below below' held kept steps spent last p r takes =
    let g = p.given in
    let t = r.next.tells in
    spent-last s source now now' old new session before below held (last-text reads.ReadFault old new now now' g.front r.next) steps spent last p
    (last-given reads.ReadFault source now now' old new g.front (lines_of 1 (events_of p.answered ++ events_of p.pending)) g.given r.next t.0 t.1 t.2) takes

spent-byte_limit : (s : State) (source now now' : SourceState) (old new : Reading) (session : SessionValue) (before below below' : SinkState) (held kept : List ℕ) (steps spent last : StepsValue)
    → Progress s source now old session before below held steps spent → Read reads.ByteLimit old new now now' below below' held kept → TakesCells session.registry.live spent last
    → Took source now' (λ (text : List ℕ). SpentOver s text steps last)
spent-byte_limit s source now now' old new session before below below' held kept steps spent last p r takes =
    let g = p.given in
    let t = r.next.tells in
    spent-last s source now now' old new session before below held (last-text reads.ByteLimit old new now now' g.front r.next) steps spent last p
    (last-given reads.ByteLimit source now now' old new g.front (lines_of 1 (events_of p.answered ++ events_of p.pending)) g.given r.next t.0 t.1 t.2) takes

-- the source was not read
spent-here : (s : State) (source now now' : SourceState) (old new : Reading) (session : SessionValue) (before below below' : SinkState) (held kept : List ℕ) (steps spent last : StepsValue)
    → Progress s source now old session before below held steps spent → StoppedHere old new now now' below below' held kept → TakesCells session.registry.live spent last
    → Took source now' (λ (text : List ℕ). SpentOver s text steps last)
spent-here s source now now' old new session before below below' held kept steps spent last p r takes =
    let all = p.answered ++ p.pending in
    let g = p.given in
    let listed = text-lines source now old g.front (lines_of 1 (events_of p.answered ++ events_of p.pending)) g.given
    ∙ ap (λ es. lines_of 1 es ++ lines old.ahead) (sym (events_of-append p.answered p.pending)) in
    rw r.left record {
      text = g.front ++ old.ahead;
      taken = g.given.taken;
      holds = spent-over s (g.front ++ old.ahead) all (lines old.ahead) session steps spent last (inl listed) (only-append p.answered p.pending p.only.0 p.only.1) p.has.are p.spent p.stands takes;
    }

-- a line came
spent-came : (s : State) (long : Bool) (source now now' : SourceState) (old new : Reading) (session : SessionValue) (before below between : SinkState) (held left : List ℕ) (steps spent last : StepsValue)
    → Progress s source now old session before below held steps spent → Came long old new now now' below between held left → TakesCells session.registry.live spent last
    → Took source now' (λ (text : List ℕ). SpentOver s text steps last)
spent-came s long source now now' old new session before below between held left steps spent last p came takes =
    let w = waits 1 long s source now now' old new before below between held left p.answered p.pending p.has p.given came in
    let only = only-moved p.answered p.pending w.answered w.pending w.moves p.only.0 p.only.1 in
    let all = w.answered ++ w.pending in
    let same = sym (moves-all p.answered p.pending w.answered w.pending w.moves) in
    let here = events.line 1 w.text ∷ [] in
    let g = w.given in
    let cut : lines_of 1 (events_of w.answered ++ (events_of w.pending ++ here)) ≡ lines_of 1 (events_of all) ++ lines_of 1 here =
    ap (lines_of 1) (sym (append_assoc (events_of w.answered) (events_of w.pending) here) ∙ ap (λ es. es ++ here) (sym (events_of-append w.answered w.pending))) ∙ lines_of-append 1 (events_of all) here in
    let listed = text-lines source now' new g.front (lines_of 1 (events_of w.answered ++ (events_of w.pending ++ here))) g.given
    ∙ ap (λ ls. ls ++ lines new.ahead) cut ∙ append_assoc (lines_of 1 (events_of all)) (lines_of 1 here) (lines new.ahead) in
    record {
      text = g.front ++ new.ahead;
      taken = g.given.taken;
      holds = spent-over s (g.front ++ new.ahead) all (lines_of 1 here ++ lines new.ahead) session steps spent last (inl listed) (only-append w.answered w.pending only.0 only.1) w.has.are
          (subst (λ (ts : List Told). Spent s ts steps spent) same p.spent) (subst (λ (ts : List Told). StandsFor session (at s ts)) same p.stands) takes;
    }

-- a turn was taken
pub spent-turned : (turn : Turn) (s : State) (source now now' : SourceState) (old new : Reading) (session session' : SessionValue) (before below below' : SinkState) (held kept : List ℕ) (steps spent last : StepsValue)
    → (p : Progress s source now old session before below held steps spent) → Turned turn (at s (p.answered ++ p.pending)) old new now now' session session' below below' held kept → TakesCells session.registry.live spent last
    → Took source now' (λ (text : List ℕ). SpentOver s text steps last)
spent-turned turns.Answered s source now now' old new session session' before below below' held kept steps spent last p t takes =
    spent-came s t.long source now now' old new session before below t.between held t.left steps spent last p t.came takes
spent-turned turns.Ended s source now now' old new session session' before below below' held kept steps spent last p t takes = spent-all s source now now' old new session before below below' held kept steps spent last p t.0 takes
spent-turned turns.Failed s source now now' old new session session' before below below' held kept steps spent last p t takes = spent-read_fault s source now now' old new session before below below' held kept steps spent last p t.0 takes
spent-turned turns.Full s source now now' old new session session' before below below' held kept steps spent last p t takes = spent-byte_limit s source now now' old new session before below below' held kept steps spent last p t.0 takes
spent-turned turns.Stopped s source now now' old new session session' before below below' held kept steps spent last p (ahead r same) takes = spent-here s source now now' old new session before below below' held kept steps spent last p r takes
spent-turned turns.Stopped s source now now' old new session session' before below below' held kept steps spent last p (reply t) takes =
    spent-came s t.long source now now' old new session before below t.between held t.left steps spent last p t.came takes
spent-turned turns.Stopped s source now now' old new session session' before below below' held kept steps spent last p (behind m) takes =
    let t = m.lacks in
    spent-came s t.long source now now' old new session before below t.between held t.left steps spent last p t.came takes
spent-turned turns.Memory s source now now' old new session session' before below below' held kept steps spent last p m takes =
    let t = m.lacks in
    spent-came s t.long source now now' old new session before below t.between held t.left steps spent last p t.came takes

-- no line more can be counted
pub spent-uncounted : (how : Ending) (s : State) (source now now' : SourceState) (old new : Reading) (session : SessionValue) (before below below' : SinkState) (held kept : List ℕ) (steps spent : StepsValue)
    → Progress s source now old session before below held steps spent → EndsUncounted how old new now now' below below' held kept → Took source now' (λ (text : List ℕ). SpentOver s text steps spent)
spent-uncounted ending.Done s source now now' old new session before below below' held kept steps spent p e = spent-all s source now now' old new session before below below' held kept steps spent spent p e (omega arith, omega arith)
spent-uncounted ending.ReadFault s source now now' old new session before below below' held kept steps spent p e =
    spent-read_fault s source now now' old new session before below below' held kept steps spent spent p e (omega arith, omega arith)
spent-uncounted ending.WriteFault s source now now' old new session before below below' held kept steps spent p (inl e) =
    spent-here s source now now' old new session before below below' held kept steps spent spent p e (omega arith, omega arith)
spent-uncounted ending.WriteFault s source now now' old new session before below below' held kept steps spent p (inr m) =
    spent-came s m.long source now now' old new session before below m.between held m.left steps spent spent p m.came (omega arith, omega arith)
spent-uncounted ending.Memory s source now now' old new session before below below' held kept steps spent p e = absurd e
spent-uncounted ending.ByteLimit s source now now' old new session before below below' held kept steps spent p (inl e) =
    spent-byte_limit s source now now' old new session before below below' held kept steps spent spent p e (omega arith, omega arith)
spent-uncounted ending.ByteLimit s source now now' old new session before below below' held kept steps spent p (inr m) =
    spent-came s m.long source now now' old new session before below m.between held m.left steps spent spent p m.came (omega arith, omega arith)
