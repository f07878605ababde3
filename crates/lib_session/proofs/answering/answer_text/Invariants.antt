use Rattle.std.proofs.Common.{◌+◌, ◌-◌, ◌≤◌, length}
use Rattle.cmd_session.specs.State.{State}
use Rattle.cmd_session.specs.Session.{StandsFor}
use Rattle.cmd_session.specs.Run.{HasState}
use Rattle.lib_session.specs.Fed.{FedWithin}
use Rattle.lib_session.proofs.answering.answer_text.Given as goal

abbrev pub invariant-answering : goal.invariant-answering
invariant-answering g l = record {
  fed : (s : State) → StandsFor l.fn.session s → FedWithin s l.text l.taken l.most l.fn.replies.bytes.items l.replies.bytes.items l.session;
  known : HasState l.session;
  within : l.taken ≤ length l.text;
  lines : l.session.lines ≤ l.fn.session.lines + l.taken;
}

abbrev pub decreases-answering : goal.decreases-answering
decreases-answering g l = length l.text - l.taken
