-- What is found before a certificate is written.
use Rattle.std.specs.Prelude.{◌≡◌, ℕ, ⊤, None, List, ◌++◌}
use Rattle.std.specs.declared.result.Result.{Result}
use Rattle.std.specs.declared.result.Result.TheVariants.{Ok, Err}
use Rattle.io_streams.specs.declared.status.Status.TheVariants as status
use Rattle.io_streams.specs.Source.{SourceState}
use Rattle.cert_format.specs.declared.line.Line.{Line}
use Rattle.cert_format.specs.Nodes.{nodes_of}
use Rattle.cert_format.specs.Certificate.{AreLines}
use Rattle.cert_format.specs.Text.{certificate_text}
use Rattle.sql_script.specs.declared.end.ScriptEnd.{ScriptEnd}
use Rattle.sql_script.specs.declared.end.ScriptEnd.TheVariants.{Refused, ReadFault, ByteLimit, Memory}
use Rattle.sql_script.specs.declared.script.Script.{Script}
use Rattle.sql_script.specs.Texts.{script_text}
use Rattle.cmd_certify.specs.declared.certifying.Certified.{Certified}
use Rattle.sql_script.specs.Commands.{Outcome, ComesTo}
use Rattle.cmd_certify.specs.Certifying.{Certifies}
use Rattle.cmd_certify.specs.Judged.{IsGoodOf, IsCertified, IsUncertified}
use Rattle.sql_script.specs.Ending.{StopsAt}

-- what making a certificate for a script comes to: a query of which none is written is refused at its line
abbrev pub MakesFor : Result (List Line) ScriptEnd → Script → Type 0
MakesFor (Ok lines) script = AreLines lines × IsGoodOf script.query (nodes_of lines) × IsCertified script.query
MakesFor (Err (Refused number word)) script = (number ≡ script.line) × IsUncertified script.query word
MakesFor (Err ReadFault) script = ⊥
MakesFor (Err ByteLimit) script = ⊥
MakesFor (Err Memory) script = ⊤

-- the statements of a script in printed form, and its certificate
abbrev pub text_with : Script → List Line → List ℕ
text_with script lines = script_text script.catalog script.statement ++ certificate_text lines

-- they are what is written at the end
abbrev pub ends_with : Script → List Line → Outcome
ends_with script lines = record { status = status.Done; text = text_with script lines; needs = None }

-- how reading ends: with a script and its certificate, or before
abbrev pub ReadsCertified : Result Certified ScriptEnd → SourceState → SourceState → Type 0
ReadsCertified (Ok c) source now = ComesTo Certifies source now (ends_with c.script c.certificate)
ReadsCertified (Err end) source now = StopsAt Certifies end source now
