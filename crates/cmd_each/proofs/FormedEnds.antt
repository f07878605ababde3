-- How a run ends that came to an ending, where replies are written in a form.
use Rattle.std.proofs.Common.{◌≡◌, ℕ, ◌-◌, ◌^◌, ◌≤◌, ◌++◌, ◌∙◌, Bool, List, [], sym, subst}
use Rattle.io_streams.specs.Source.{SourceState}
use Rattle.io_streams.specs.Sink.{SinkState}
use Rattle.io_streams.specs.Gathered.{gathered_seen}
use Rattle.io_line_reader.specs.Reading.{Reading}
use Rattle.cmd_session.specs.State.{State}
use Rattle.cmd_session.specs.Session.{SessionValue}
use Rattle.cmd_session.specs.Fetched.{Came}
use Rattle.cmd_session.specs.Run.{TookAll}
use Rattle.cmd_session.specs.declared.outcome.LineOutcome.{LineOutcome}
use Rattle.cmd_session.specs.declared.outcome.LineOutcome.TheVariants as outcome
use Rattle.cmd_session.specs.declared.run.Ending.{Ending}
use Rattle.cmd_session.specs.declared.run.Ending.TheVariants as ending
use Rattle.cmd_session.proofs.ToldEvents.{at}
use Rattle.cmd_each.specs.declared.run.Next.TheVariants.{Over}
use Rattle.cmd_each.specs.Answered.{FormedAnswered, FormedLine}
use Rattle.cmd_each.specs.Fetching.{Comes, EndsFlushed, whole, broke}
use Rattle.cmd_each.specs.Run.{AnsweredFormed, FormedRan}
use Rattle.cmd_each.proofs.FormedProgress.{Progress}
use Rattle.cmd_each.proofs.FormedExits.{ends-done, ends-answered, ends-read_fault, ends-byte_limit, ends-before, ends-uncounted, ends-held, ends-memory, ends-behind}

-- there is no line more
pub ends-over : (form : List ℕ → List ℕ) (how : Ending) (s : State) (source now now' : SourceState) (old new : Reading) (session : SessionValue) (before below below' : SinkState) (held kept : List ℕ)
    → Progress form s source now old session before below held → Comes (Over how) old new now now' below below' held kept → FormedRan form how s source now' before below'
ends-over form ending.Done s source now now' old new session before below below' held kept p r = ends-done form s source now now' old new session before below below' held kept p r
ends-over form ending.ReadFault s source now now' old new session before below below' held kept p r = ends-read_fault form s source now now' old new session before below below' held kept p r
ends-over form ending.ByteLimit s source now now' old new session before below below' held kept p r = ends-byte_limit form s source now now' old new session before below below' held kept p r
ends-over form ending.WriteFault s source now now' old new session before below below' held kept p r = ends-before form s source now now' old new session before below below' held kept p r
ends-over form ending.Memory s source now now' old new session before below below' held kept p r = absurd r

-- and where that is since all lines were given, the session stands for the state after them
pub over-answered : (form : List ℕ → List ℕ) (how : Ending) (s : State) (source now now' : SourceState) (old new : Reading) (session : SessionValue) (before below below' : SinkState) (held kept : List ℕ)
    → how ≡ ending.Done → Progress form s source now old session before below held → Comes (Over how) old new now now' below below' held kept → TookAll source now' (λ (text : List ℕ). AnsweredFormed form s text before below' session)
over-answered form how s source now now' old new session before below below' held kept is p r =
    ends-answered form s source now now' old new session before below below' held kept p (subst (λ (e : Ending). Comes (Over e) old new now now' below below' held kept) is r)

-- and nothing is held
pub over-flushed : (how : Ending) (old new : Reading) (source now : SourceState) (below after : SinkState) (held kept : List ℕ) → how ≡ ending.Done → Comes (Over how) old new source now below after held kept → kept ≡ []
over-flushed how old new source now below after held kept is r =
    let ended : Comes (Over ending.Done) old new source now below after held kept = subst (λ (e : Ending). Comes (Over e) old new source now below after held kept) is r in
    ended.none

-- what was held is written, or it broke off: neither is the end of a source
pub not-done : (result how : Ending) (below after : SinkState) (held kept : List ℕ) → EndsFlushed result how below after held kept → result ≡ ending.Done → how ≡ ending.Done
not-done result how below after held kept (whole is wrote none) done = sym is ∙ done
not-done result how below after held kept (broke is stays) done = cc

-- a line came that is not answered, since no line more can be counted
pub ends-full : (form : List ℕ → List ℕ) (result : Ending) (long : Bool) (s : State) (source now now' : SourceState) (old new : Reading) (session : SessionValue) (before below between after : SinkState) (held left kept : List ℕ)
    → Progress form s source now old session before below held → 2 ^ 64 - 2 ≤ session.lines → Came long old new now now' below between held left → EndsFlushed result ending.ByteLimit between after left kept
    → FormedRan form result s source now' before after
ends-full form result long s source now now' old new session before below between after held left kept p full came (whole is wrote none) =
    subst (λ (e : Ending). FormedRan form e s source now' before after) (sym is)
    (ends-uncounted form s source now now' old new session before below after held p full (record { long = long; between = between; left = left; came = came; flushes = wrote }))
ends-full form result long s source now now' old new session before below between after held left kept p full came (broke is stays) =
    subst (λ (e : Ending). FormedRan form e s source now' before after) (sym is)
    (ends-held form s source now now' old new session before below after held kept p (record { long = long; between = between; left = left; came = came; flushes = stays }))

-- no memory was found for a line that came
pub ends-lacking : (form : List ℕ → List ℕ) (result : Ending) (s : State) (source now now' : SourceState) (old new : Reading) (session session' : SessionValue) (before below below' after : SinkState) (held held' kept : List ℕ)
    → (p : Progress form s source now old session before below held) → FormedLine form outcome.Memory (at s (p.answered ++ p.pending)) old new now now' session' below below' held held'
    → EndsFlushed result ending.Memory below' after held' kept → FormedRan form result s source now' before after
ends-lacking form result s source now now' old new session session' before below below' after held held' kept p line (whole is wrote none) =
    subst (λ (e : Ending). FormedRan form e s source now' before after) (sym is)
    (ends-memory form s source now now' old new session session' before below after held p (record { sink = below'; full = held'; lacks = line; flushes = wrote }))
ends-lacking form result s source now now' old new session session' before below below' after held held' kept p line (broke is stays) =
    subst (λ (e : Ending). FormedRan form e s source now' before after) (sym is)
    (ends-behind form s source now now' old new session session' before below below' after held held' kept p line stays)

-- an answer leaves the reference to the sink as it was
pub same-name : (form : List ℕ → List ℕ) (how : LineOutcome) (s : State) (line : List ℕ) (new : SessionValue) (below after : SinkState) (name name' : ℕ) (held kept : List ℕ)
    → FormedAnswered form how s line new (gathered_seen below name held) (gathered_seen after name' kept) → name' ≡ name
same-name form outcome.Done s line new below after name name' held kept h = h.does.reply.later.below
same-name form outcome.WriteFault s line new below after name name' held kept h = h.does.reply.wrote.later.below
same-name form outcome.Memory s line new below after name name' held kept h = h.does.2.later.below
