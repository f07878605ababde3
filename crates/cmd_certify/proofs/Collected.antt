-- How far a certificate was read, and how it ends.
use Rattle.std.proofs.Common.{◌≡◌, ℕ, ◌^◌, ◌<◌, List, [], ◌∷◌, ◌++◌, refl, sym, ap, ◌∙◌, subst, append_assoc, append-nil, length-append, arith, Ok, Err}
use Rattle.std.specs.Prelude.{⊤}
use Rattle.std.specs.List.{AllByRecursion}
use Rattle.io_streams.specs.Source.{SourceState}
use Rattle.io_line_reader.specs.Reading.{Reading}
use Rattle.io_line_reader.specs.GivenLines.{GivenLines}
use Rattle.io_line_reader.proofs.GivenEnds.{front-lines, took-lines}
use Rattle.sql_parser.specs.LineKind.{stripped}
use Rattle.sql_replies.specs.declared.refusal.Refusal.{Refusal}
use Rattle.sql_replies.specs.declared.refusal.Refusal.TheVariants as words
use Rattle.cert_format.specs.declared.line.Line.{Line}
use Rattle.cert_format.specs.declared.error.CertError.{CertError}
use Rattle.cert_format.specs.declared.error.CertError.TheVariants as why
use Rattle.cert_format.specs.Text.{IsLine}
use Rattle.cert_format.specs.Certificate.{Adds, IsNoNextText}
use Rattle.sql_script.specs.declared.end.ScriptEnd.{ScriptEnd}
use Rattle.sql_script.specs.declared.end.ScriptEnd.TheVariants.{Refused, ReadFault, ByteLimit}
use Rattle.sql_script.specs.declared.texts.TextAnswer.TheVariants as answers
use Rattle.sql_script.specs.Script.{IsBlank}
use Rattle.sql_script.specs.Ends.{GaveLast, GaveLine, GivesText, IsFull}
use Rattle.cmd_certify.specs.Checking as checking
use Rattle.cmd_certify.specs.Checking.{Collect, IsRefusedLine}
use Rattle.cmd_certify.specs.Collecting.{end_at, GaveLines, GaveRefused, ReadsCertificate}

-- lines behind lines
collect-behind : {old between new : List Line} {texts others : List (List ℕ)} → Collect old texts between → Collect between others new → Collect old (texts ++ others) new
collect-behind checking.none rest = rest
collect-behind (checking.blank is front) rest = checking.blank is (collect-behind front rest)
collect-behind (checking.one l short loud is next room front) rest = checking.one l short loud is next room (collect-behind front rest)

-- blank lines add nothing
collect-blank : (certificate : List Line) (blanks : List (List ℕ)) → AllByRecursion IsBlank blanks → Collect certificate blanks certificate
collect-blank certificate [] all = checking.none
collect-blank certificate (line ∷ blanks) all = checking.blank all.0 (collect-blank certificate blanks all.1)

-- and blank lines behind some
collect-then-blank : (certificate : List Line) (texts blanks : List (List ℕ)) → Collect [] texts certificate → AllByRecursion IsBlank blanks → Collect [] (texts ++ blanks) certificate
collect-then-blank certificate texts blanks front blank = collect-behind front (collect-blank certificate blanks blank)

-- behind the lines that were given, these were given, and they make the certificate
pub record Collected (source now : SourceState) (given : List (List ℕ)) (reader : Reading) (certificate : List Line) : Type 0 where
  pub behind : List (List ℕ)
  pub front : List ℕ
  pub lines : GivenLines source now reader front (given ++ behind)
  pub collect : Collect [] behind certificate

pub collected-none : (source now : SourceState) (reader : Reading) (front : List ℕ) (given : List (List ℕ)) (certificate : List Line) → certificate ≡ [] → GivenLines source now reader front given → Collected source now given reader certificate
collected-none source now reader front given certificate none g = record {
  behind = [];
  front = front;
  lines = subst (GivenLines source now reader front) (sym (append-nil given)) g;
  collect = subst (Collect [] []) (sym none) checking.none;
}

-- more lines were given than before, and they can be counted
pub counts : (source now now' : SourceState) (old new : Reading) (given : List (List ℕ)) (certificate : List Line) (P : ℕ → List ℕ → Type 0) → (c : Collected source now given old certificate) → GaveLine source now' (given ++ c.behind) new P
    → (old.lines < new.lines) × (new.lines < 2 ^ 64)
counts source now now' old new given certificate P c t = (
  omega (arith, c.lines.numbered, t.lines.numbered, length-append (given ++ c.behind) (t.blanks ++ t.line ∷ []), length-append t.blanks (t.line ∷ [])),
  omega (arith, t.lines.counted.0, t.lines.counted.1),
)

-- a line was added
pub goes-on : (source now now' : SourceState) (old new : Reading) (given : List (List ℕ)) (certificate certificate' : List Line) → (c : Collected source now given old certificate) → GivesText answers.Text source now' (given ++ c.behind) new
    → Adds (Ok tt) (stripped new.line) certificate certificate' → Collected source now' given new certificate'
goes-on source now now' old new given certificate certificate' c t (l, is, (next, room, added)) = record {
  behind = (c.behind ++ t.blanks) ++ t.line ∷ [];
  front = t.front;
  lines = subst (GivenLines source now' new t.front) (regrouped given c.behind t.blanks t.line) t.lines;
  collect = subst (Collect [] ((c.behind ++ t.blanks) ++ t.line ∷ [])) (sym added)
      (collect-behind (collect-then-blank certificate c.behind t.blanks c.collect t.blank)
      (checking.one l t.holds.2 t.holds.3 (subst (λ x. IsLine (stripped x) l) t.holds.1 is) next room checking.none));
}
  where
    regrouped : (given behind blanks : List (List ℕ)) (line : List ℕ) → (given ++ behind) ++ (blanks ++ line ∷ []) ≡ given ++ ((behind ++ blanks) ++ line ∷ [])
    regrouped given behind blanks line = append_assoc given behind (blanks ++ line ∷ []) ∙ ap (λ l. given ++ l) (sym (append_assoc behind blanks (line ∷ [])))

-- a line is refused
refused-line : (source now now' : SourceState) (old new : Reading) (given : List (List ℕ)) (certificate : List Line) (word : Refusal) (P : ℕ → List ℕ → Type 0) → (c : Collected source now given old certificate)
    → (t : GaveLine source now' (given ++ c.behind) new P) → IsRefusedLine certificate t.line word → GaveRefused source now' given new.lines word
refused-line source now now' old new given certificate word P c t refused = record {
  text = t.front;
  took = took-lines source now' new t.front ((given ++ c.behind) ++ (t.blanks ++ t.line ∷ []))
      (omega (arith, length-append (given ++ c.behind) (t.blanks ++ t.line ∷ []), length-append t.blanks (t.line ∷ []))) t.lines;
  before = c.behind ++ t.blanks;
  line = t.line;
  are = front-lines source now' new t.front ((given ++ c.behind) ++ (t.blanks ++ t.line ∷ [])) t.lines
      ∙ sym (append-nil ((given ++ c.behind) ++ (t.blanks ++ t.line ∷ []))) ∙ grouped given c.behind t.blanks t.line [];
  certificate = certificate;
  collect = collect-then-blank certificate c.behind t.blanks c.collect t.blank;
  refused = refused;
  number_is = omega (
    arith,
    t.lines.numbered,
    length-append (given ++ c.behind) (t.blanks ++ t.line ∷ []),
    length-append given c.behind,
    length-append t.blanks (t.line ∷ []),
    length-append c.behind t.blanks,
  );
}
  where
    grouped : (given behind blanks : List (List ℕ)) (line : List ℕ) (others : List (List ℕ)) → ((given ++ behind) ++ (blanks ++ line ∷ [])) ++ others ≡ given ++ ((behind ++ blanks) ++ line ∷ others)
    grouped given behind blanks line others =
        append_assoc (given ++ behind) (blanks ++ line ∷ []) others
        ∙ append_assoc given behind ((blanks ++ line ∷ []) ++ others)
        ∙ ap (λ l. given ++ (behind ++ l)) (append_assoc blanks (line ∷ []) others)
        ∙ ap (λ l. given ++ l) (sym (append_assoc behind blanks (line ∷ others)))

-- a line is not added
pub ends-refused : (source now now' : SourceState) (old new : Reading) (given : List (List ℕ)) (certificate certificate' : List Line) (error : CertError) (end : ScriptEnd) → (c : Collected source now given old certificate)
    → GivesText answers.Text source now' (given ++ c.behind) new → Adds (Err error) (stripped new.line) certificate certificate' → end ≡ end_at new.lines error → ReadsCertificate (Err end) source now' given
ends-refused source now now' old new given certificate certificate' why.Syntax end c t (none, same) e =
    subst (λ x. ReadsCertificate (Err x) source now' given) (sym e)
    (refused-line source now now' old new given certificate words.Syntax _ c t
    (checking.no_line t.holds.2 t.holds.3 (subst (λ l. IsNoNextText certificate (stripped l)) t.holds.1 none) refl))
ends-refused source now now' old new given certificate certificate' why.Limit end c t (l, is, (next, many, same)) e =
    subst (λ x. ReadsCertificate (Err x) source now' given) (sym e)
    (refused-line source now now' old new given certificate words.Limit _ c t
    (checking.too_many l t.holds.2 t.holds.3 (subst (λ x. IsLine (stripped x) l) t.holds.1 is) next many refl))
ends-refused source now now' old new given certificate certificate' why.Memory end c t adds e =
    subst (λ x. ReadsCertificate (Err x) source now' given) (sym e) tt

-- a line is too long
pub ends-long : (source now now' : SourceState) (old new : Reading) (given : List (List ℕ)) (certificate : List Line) (end : ScriptEnd) → (c : Collected source now given old certificate)
    → GivesText answers.TooLong source now' (given ++ c.behind) new → end ≡ Refused new.lines words.LineTooLong → ReadsCertificate (Err end) source now' given
ends-long source now now' old new given certificate end c t e =
    subst (λ x. ReadsCertificate (Err x) source now' given) (sym e)
    (refused-line source now now' old new given certificate words.LineTooLong _ c t (checking.too_long t.holds.1 refl))

-- the source is at its end
pub ends-whole : (source now now' : SourceState) (old new : Reading) (given : List (List ℕ)) (certificate : List Line) → (c : Collected source now given old certificate)
    → GivesText answers.End source now' (given ++ c.behind) new → ReadsCertificate (Ok certificate) source now' given
ends-whole source now now' old new given certificate c t = record {
  text = t.text;
  behind = c.behind ++ t.blanks;
  all = t.lines.all;
  few = t.lines.few;
  are = t.lines.are ∙ append_assoc given c.behind t.blanks;
  collect = collect-then-blank certificate c.behind t.blanks c.collect t.blank;
}

-- the reader broke off
breaks-off : (source now now' : SourceState) (old new : Reading) (given : List (List ℕ)) (certificate : List Line) (P : List ℕ → Type 0) → (c : Collected source now given old certificate)
    → GaveLast source now' (given ++ c.behind) new P → GaveLines source now' given P
breaks-off source now now' old new given certificate P c t = record {
  text = t.text;
  taken = t.lines.taken;
  behind = c.behind ++ t.blanks;
  are = t.lines.are ∙ append_assoc given c.behind t.blanks;
  certificate = certificate;
  collect = collect-then-blank certificate c.behind t.blanks c.collect t.blank;
  holds = t.holds;
}

-- the source failed
pub ends-fault : (source now now' : SourceState) (old new : Reading) (given : List (List ℕ)) (certificate : List Line) → (c : Collected source now given old certificate)
    → GivesText answers.ReadFault source now' (given ++ c.behind) new → ReadsCertificate (Err ReadFault) source now' given
ends-fault source now now' old new given certificate c t = (t.0, breaks-off source now now' old new given certificate (λ text. ⊤) c t.1)

-- as many bytes were taken as can be counted
pub ends-limit : (source now now' : SourceState) (old new : Reading) (given : List (List ℕ)) (certificate : List Line) → (c : Collected source now given old certificate)
    → GivesText answers.ByteLimit source now' (given ++ c.behind) new → ReadsCertificate (Err ByteLimit) source now' given
ends-limit source now now' old new given certificate c t = breaks-off source now now' old new given certificate IsFull c t
