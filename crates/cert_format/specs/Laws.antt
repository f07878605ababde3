-- What holds of the lines of every certificate and their texts.
use Rattle.std.specs.Prelude.{◌≡◌, ℕ, List, [], ◌∷◌, ◌++◌}
use Rattle.std.specs.List.{AllZip}
use Rattle.std.specs.declared.result.Result.{Result}
use Rattle.std.specs.declared.result.Result.TheVariants.{Ok, Err}
use Rattle.sql_text.specs.Lines.{lines}
use Rattle.cert_format.specs.declared.line.Line.{Line}
use Rattle.cert_format.specs.declared.error.CertError.{CertError}
use Rattle.cert_format.specs.declared.error.CertError.TheVariants as why
use Rattle.cert_format.specs.Text.{IsLine, IsWhole, line_text, certificate_text}
use Rattle.cert_format.specs.Certificate.{AreLines, Adds}

-- a text is one line at most
abbrev pub OneLine : Type 0
OneLine = (text : List ℕ) → (l : Line) → (m : Line) → IsLine text l → IsLine text m → l ≡ m

-- a line that a text spells has the numbers that a text can spell
abbrev pub LinesAreWhole : Type 0
LinesAreWhole = (text : List ℕ) → (l : Line) → IsLine text l → IsWhole l

-- what is printed for a line is this line
abbrev pub PrintsBack : Type 0
PrintsBack = (l : Line) → IsWhole l → IsLine (line_text l) l

-- what is printed for a certificate is, line by line, its lines
abbrev pub CertificatesPrintBack : Type 0
CertificatesPrintBack = (ls : List Line) → AreLines ls → AllZip IsLine (lines (certificate_text ls)) ls

-- a line is taken: it stands behind the others, or memory was not found
abbrev pub IsTaken : Result (Unit {0}) CertError → Line → List Line → List Line → Type 0
IsTaken (Ok u) l old new = new ≡ old ++ l ∷ []
IsTaken (Err why.Syntax) l old new = ⊥
IsTaken (Err why.Limit) l old new = ⊥
IsTaken (Err why.Memory) l old new = new ≡ old

-- what is printed for the lines of a certificate, added in turn to one without lines, gives these lines, where memory is found
abbrev pub CertificatesAreTaken : Type 0
CertificatesAreTaken = (old : List Line) → (l : Line) → (behind : List Line) → (new : List Line) → (result : Result (Unit {0}) CertError)
    → AreLines (old ++ l ∷ behind) → Adds result (line_text l) old new → IsTaken result l old new
