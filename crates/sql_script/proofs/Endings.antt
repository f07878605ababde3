-- How the commands end, whatever they come to.
use Rattle.std.proofs.Common.{◌≡◌, ℕ, suc, ◌-◌, ◌^◌, ◌<◌, None, List, [], ◌∷◌, ◌++◌, length, refl, sym, ap, ◌∙◌, subst, length-append, arith}
use Rattle.std.specs.Prelude.{⊤}
use Rattle.std.proofs.KnownBytes.{Keeps-refl}
use Rattle.std.specs.Io.KnownBytes.{Keeps}
use Rattle.io_streams.specs.declared.status.Status.{Status}
use Rattle.io_streams.specs.declared.status.Status.TheVariants as status
use Rattle.io_streams.specs.Source.{SourceState}
use Rattle.io_streams.specs.Sink.{SinkState, BrokeOff}
use Rattle.sql_text.specs.Lines.{lines}
use Rattle.io_line_reader.specs.Reading.{Reading, TakesAll}
use Rattle.io_line_reader.specs.Texts.{ended_part}
use Rattle.sql_replies.specs.declared.refusal.Refusal.{Refusal}
use Rattle.sql_replies.specs.declared.refusal.Refusal.TheVariants.{Syntax}
use Rattle.sql_script.specs.declared.end.ScriptEnd.{ScriptEnd}
use Rattle.sql_script.specs.declared.end.ScriptEnd.TheVariants.{Refused, ReadFault, ByteLimit, Memory}
use Rattle.sql_script.specs.Script.{CreateStreams, IsRefusedAt, at_line, at_end}
use Rattle.sql_script.specs.Ends.{EndsEarly, GaveStreams, IfAtEnd, IsFull, IsLast}
use Rattle.sql_script.specs.Commands.{Outcome, AreNeeded, ComesTo, TookUnsettled, WroteFront, CommandEnds, error_text, lines_for, early_refusal}
use Rattle.sql_script.specs.Ending.{StopsAt, EndsWith, EndsBy}

-- as many lines were read as a refusal before the query needs
pub early-needed : (text : List ℕ) (number : ℕ) (word : Refusal) (source now : SourceState) (refused : IsRefusedAt (lines text) number word) → IsLast refused → IfAtEnd refused (TakesAll source now text × (length text < 2 ^ 64 - 1))
    → AreNeeded (lines_for number refused) source now text
early-needed text number word source now (at_line before line behind streams whole create is number_is) last all =
    omega (arith, ap length (whole ∙ ap (λ l. before ++ line ∷ l) last), length-append before (line ∷ []), number_is)
early-needed text number word source now (at_end streams create word_is number_is) last all = all

-- where one outcome over some lines needs all of them, each does
abbrev pub NeedsOne : (List (List ℕ) → Outcome → Type 0) → Type 0
NeedsOne IsOutcome = (all : List (List ℕ)) (o p : Outcome) → IsOutcome all o → IsOutcome all p → p.needs ≡ None → o.needs ≡ None

-- The reader broke off before the query. The lines that came whole settle nothing, since they create streams: were they all, the script would
-- end before its query.
pub unsettled-streams : (IsOutcome : List (List ℕ) → Outcome → Type 0)
    → ((all : List (List ℕ)) (number : ℕ) (word : Refusal) (refused : IsRefusedAt all number word) → IsOutcome all (early_refusal number word refused)) → NeedsOne IsOutcome
    → (source now : SourceState) (reader : Reading) (P : List ℕ → Type 0) → GaveStreams source now reader P → TookUnsettled IsOutcome source now P
unsettled-streams IsOutcome early one source now reader P e =
    let all = lines (ended_part e.text) in
    let refused : IsRefusedAt all (suc (length all)) Syntax = at_end e.streams (subst (λ l. CreateStreams [] l e.streams) (sym e.lines.are) e.create) refl refl in
    record {
      text = e.text;
      taken = e.lines.taken;
      unsettled = λ o is. one all o (early_refusal (suc (length all)) Syntax refused) is (early all (suc (length all)) Syntax refused) refl;
      holds = e.holds;
    }

-- what an early end of the script comes to
pub stops-early : (IsOutcome : List (List ℕ) → Outcome → Type 0)
    → ((all : List (List ℕ)) (number : ℕ) (word : Refusal) (refused : IsRefusedAt all number word) → IsOutcome all (early_refusal number word refused)) → NeedsOne IsOutcome
    → (end : ScriptEnd) (source now : SourceState) (reader : Reading) → EndsEarly end source now reader → StopsAt IsOutcome end source now
stops-early IsOutcome early one (Refused number word) source now reader e = record {
  needs = lines_for number e.refused;
  comes = record {
    text = e.text;
    took = e.took;
    comes = early (lines e.text) number word e.refused;
    needed = early-needed e.text number word source now e.refused e.last e.all;
  };
}
stops-early IsOutcome early one ReadFault source now reader e = (e.0, unsettled-streams IsOutcome early one source now reader (λ text. ⊤) e.1)
stops-early IsOutcome early one ByteLimit source now reader e = unsettled-streams IsOutcome early one source now reader IsFull e
stops-early IsOutcome early one Memory source now reader e = tt

-- the statuses that go with a text
abbrev pub HasText : Status → Type 0
HasText status.Done = Unit {0}
HasText status.Invalid = Unit {0}
HasText status.Usage = ⊥
HasText status.ReadFault = ⊥
HasText status.WriteFault = ⊥
HasText status.Memory = ⊥
HasText status.ByteLimit = ⊥

-- a command ends with the text of what it comes to, or the sink failed
pub finishes : (IsOutcome : List (List ℕ) → Outcome → Type 0) (o : Outcome) (s : Status) (source now : SourceState) (before after : SinkState)
    → HasText o.status → ComesTo IsOutcome source now o → EndsWith o.status o.text s before after → CommandEnds IsOutcome s source now before after
finishes IsOutcome o status.Done source now before after final p e = record { outcome = o; comes = p; status_is = e.0; written = e.1 }
finishes IsOutcome o status.Invalid source now before after final p e = record { outcome = o; comes = p; status_is = e.0; written = e.1 }
finishes IsOutcome o status.Usage source now before after final p e = absurd (subst HasText e.0 final)
finishes IsOutcome o status.ReadFault source now before after final p e = absurd (subst HasText e.0 final)
finishes IsOutcome o status.WriteFault source now before after final p e = record { outcome = o; comes = p; broke = e }
finishes IsOutcome o status.Memory source now before after final p e = absurd (subst HasText e.0 final)
finishes IsOutcome o status.ByteLimit source now before after final p e = absurd (subst HasText e.0 final)

keeps-same : (before after : SinkState) → after ≡ before → Keeps before.written after.written
keeps-same before after e = subst (λ (s : SinkState). Keeps before.written s.written) (sym e) (Keeps-refl before.written)

-- a command ends that stops before it has an answer
pub stops : (IsOutcome : List (List ℕ) → Outcome → Type 0) (end : ScriptEnd) (s : Status) (source now : SourceState) (before after : SinkState)
    → StopsAt IsOutcome end source now → EndsBy end s before after → CommandEnds IsOutcome s source now before after
stops IsOutcome (Refused number word) s source now before after p e = finishes IsOutcome (record { status = status.Invalid; text = error_text number word; needs = p.needs }) s source now before after tt p.comes e
stops IsOutcome ReadFault s source now before after p e = subst (λ t. CommandEnds IsOutcome t source now before after) (sym e.0) (p.0, p.1, keeps-same before after e.1)
stops IsOutcome ByteLimit s source now before after p e = subst (λ t. CommandEnds IsOutcome t source now before after) (sym e.0) (p, keeps-same before after e.1)
stops IsOutcome Memory s source now before after p e = subst (λ t. CommandEnds IsOutcome t source now before after) (sym e.0) (keeps-same before after e.1)

-- a text broke off, so a front of it was written
pub front-written : (before after : SinkState) (text : List ℕ) → BrokeOff before after text → WroteFront before after text
front-written before after text b = record { front = b.front; rest = b.rest; whole = b.whole; written = b.wrote.bytes; rose = b.rose }
