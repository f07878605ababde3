-- How far a script was read, and how it ends.
use Rattle.std.proofs.Common.{◌≡◌, ℕ, suc, ◌+◌, ◌^◌, ◌<◌, List, [], ◌∷◌, ◌++◌, length, refl, sym, ap, ◌∙◌, subst, append_assoc, append-nil, length-append, arith, Ok, Err}
use Rattle.io_streams.specs.Source.{SourceState}
use Rattle.io_line_reader.specs.Reading.{Reading, fresh}
use Rattle.io_line_reader.specs.GivenLines.{GivenLines}
use Rattle.io_line_reader.proofs.GivenLines.{given-none}
use Rattle.io_line_reader.proofs.GivenEnds.{front-lines, took-lines, took-all}
use Rattle.sql_catalog.specs.Streams.{Shape}
use Rattle.sql_replies.specs.declared.refusal.Refusal.{Refusal}
use Rattle.sql_replies.specs.declared.refusal.Refusal.TheVariants.{LineTooLong, Syntax}
use Rattle.sql_script.specs.declared.end.ScriptEnd.{ScriptEnd}
use Rattle.sql_script.specs.declared.end.ScriptEnd.TheVariants.{Refused, ReadFault, ByteLimit}
use Rattle.sql_script.specs.declared.texts.TextAnswer.TheVariants as answers
use Rattle.sql_script.specs.declared.creation.Asked.{Asked}
use Rattle.sql_script.specs.declared.creation.Creation.TheVariants.{Stream, Query}
use Rattle.sql_script.specs.Script.{ScriptLine, stream, query, refused, IsScriptLine, too_long, CreateStreams, none, at_line, at_end}
use Rattle.sql_script.specs.Creations.{TakesLine}
use Rattle.sql_script.specs.Ends.{GaveLine, GivesText, GaveQuery, IsRefused, EndsEarly}
use Rattle.sql_script.proofs.Creating.{create-then-blank, create-then-one}

-- these lines were given, and they create the streams
pub record Progress (source now : SourceState) (reader : Reading) (streams : List Shape) : Type 0 where
  pub front : List ℕ
  pub given : List (List ℕ)
  pub lines : GivenLines source now reader front given
  pub create : CreateStreams [] given streams

pub begins : (source : SourceState) (reader : Reading) (streams : List Shape) → reader ≡ fresh → streams ≡ [] → Progress source source reader streams
begins source reader streams new empty = record {
  front = [];
  given = [];
  lines = subst (λ r. GivenLines source source r [] []) (sym new) (given-none source);
  create = subst (CreateStreams [] []) (sym empty) none;
}

-- more lines were given than before, and they can be counted
pub counts : (source now now' : SourceState) (old new : Reading) (streams : List Shape) (P : ℕ → List ℕ → Type 0) → (p : Progress source now old streams) → GaveLine source now' p.given new P → (old.lines < new.lines) × (new.lines < 2 ^ 64)
counts source now now' old new streams P p t = (
  omega (arith, p.lines.numbered, t.lines.numbered, length-append p.given (t.blanks ++ t.line ∷ []), length-append t.blanks (t.line ∷ [])),
  omega (arith, t.lines.counted.0, t.lines.counted.1),
)

-- a stream was created
pub goes-on : (source now now' : SourceState) (old new : Reading) (streams streams' : List Shape) → (p : Progress source now old streams) → GivesText answers.Text source now' p.given new → TakesLine (Ok Stream) streams new.line streams'
    → Progress source now' new streams'
goes-on source now now' old new streams streams' p t took =
    let is : IsScriptLine streams t.line (stream took.takes.shape) = subst (λ l. IsScriptLine streams l (stream took.takes.shape)) t.holds.1 (subst (IsScriptLine streams new.line) took.takes.is took.is_line) in
    record {
      front = t.front;
      given = p.given ++ (t.blanks ++ t.line ∷ []);
      lines = t.lines;
      create = subst (CreateStreams [] (p.given ++ (t.blanks ++ t.line ∷ []))) (sym took.takes.added)
          (create-then-one [] streams p.given t.blanks t.line took.takes.shape p.create t.blank is);
    }

-- the lines up to one of them, by those before it
grouped : (given blanks : List (List ℕ)) (line : List ℕ) (others : List (List ℕ)) → (given ++ (blanks ++ line ∷ [])) ++ others ≡ (given ++ blanks) ++ line ∷ others
grouped given blanks line others =
    ap (λ l. l ++ others) (sym (append_assoc given blanks (line ∷ []))) ∙ append_assoc (given ++ blanks) (line ∷ []) others

length-grouped : (given blanks : List (List ℕ)) (line : List ℕ) → length (given ++ (blanks ++ line ∷ [])) ≡ suc (length (given ++ blanks))
length-grouped given blanks line = omega (arith, length-append given (blanks ++ line ∷ []), length-append blanks (line ∷ []), length-append given blanks)

-- the query came
pub ends-query : (source now now' : SourceState) (old new : Reading) (streams streams' : List Shape) (asked : Asked) → (p : Progress source now old streams) → GivesText answers.Text source now' p.given new
    → TakesLine (Ok (Query asked)) streams new.line streams' → GaveQuery asked streams' source now' new
ends-query source now now' old new streams streams' asked p t took =
    let q = took.takes in
    let line : ScriptLine = query q.name q.select q.shared asked.query in
    let is : IsScriptLine streams t.line line = subst (λ l. IsScriptLine streams l line) t.holds.1 (subst (IsScriptLine streams new.line) q.is took.is_line) in
    rw q.same record {
      front = t.front;
      given = p.given ++ (t.blanks ++ t.line ∷ []);
      lines = t.lines;
      name = q.name;
      select = q.select;
      shared = q.shared;
      states = q.states;
      asks = record {
        before = p.given ++ t.blanks;
        line = t.line;
        behind = [];
        whole = sym (append-nil (p.given ++ (t.blanks ++ t.line ∷ []))) ∙ grouped p.given t.blanks t.line [];
        create = create-then-blank [] streams p.given t.blanks p.create t.blank;
        is = is;
        number_is = length-grouped p.given t.blanks t.line;
      };
      named = q.named;
    }

-- a line is refused
refused-line : (source now now' : SourceState) (old new : Reading) (streams : List Shape) (word : Refusal) (P : ℕ → List ℕ → Type 0) → (p : Progress source now old streams) → (t : GaveLine source now' p.given new P) → IsScriptLine streams t.line (refused word)
    → IsRefused new.lines word source now'
refused-line source now now' old new streams word P p t is = record {
  text = t.front;
  took = took-lines source now' new t.front (p.given ++ (t.blanks ++ t.line ∷ [])) (omega (arith, length-grouped p.given t.blanks t.line)) t.lines;
  refused = at_line (p.given ++ t.blanks) t.line [] streams
      (front-lines source now' new t.front (p.given ++ (t.blanks ++ t.line ∷ [])) t.lines ∙ sym (append-nil (p.given ++ (t.blanks ++ t.line ∷ []))) ∙ grouped p.given t.blanks t.line [])
      (create-then-blank [] streams p.given t.blanks p.create t.blank)
      is
      (t.lines.numbered ∙ length-grouped p.given t.blanks t.line);
  last = refl;
  all = tt;
}

-- a line is refused that is not too long
pub ends-refused : (source now now' : SourceState) (old new : Reading) (streams streams' : List Shape) (word : Refusal) (end : ScriptEnd) → (p : Progress source now old streams) → GivesText answers.Text source now' p.given new
    → TakesLine (Err word) streams new.line streams' → end ≡ Refused new.lines word → EndsEarly end source now' new
ends-refused source now now' old new streams streams' word end p t took e =
    let is : IsScriptLine streams t.line (refused word) = subst (λ l. IsScriptLine streams l (refused word)) t.holds.1 (subst (IsScriptLine streams new.line) took.takes.0 took.is_line) in
    subst (λ x. EndsEarly x source now' new) (sym e) (refused-line source now now' old new streams word _ p t is)

-- a line is too long
pub ends-long : (source now now' : SourceState) (old new : Reading) (streams : List Shape) (end : ScriptEnd) → (p : Progress source now old streams) → GivesText answers.TooLong source now' p.given new → end ≡ Refused new.lines LineTooLong
    → EndsEarly end source now' new
ends-long source now now' old new streams end p t e =
    subst (λ x. EndsEarly x source now' new) (sym e) (refused-line source now now' old new streams LineTooLong _ p t (too_long t.holds.1 refl))

-- the script ends before its query
pub ends-before : (source now now' : SourceState) (old new : Reading) (streams : List Shape) (end : ScriptEnd) → (p : Progress source now old streams) → GivesText answers.End source now' p.given new → end ≡ Refused (new.lines + 1) Syntax
    → EndsEarly end source now' new
ends-before source now now' old new streams end p t e =
    let here = create-then-blank [] streams p.given t.blanks p.create t.blank in
    subst (λ x. EndsEarly x source now' new) (sym e) record {
      text = t.text;
      took = took-all source now' t.text t.lines.all;
      refused = at_end streams (subst (λ l. CreateStreams [] l streams) (sym t.lines.are) here) refl (omega (arith, t.lines.numbered, ap length t.lines.are));
      last = tt;
      all = (t.lines.all, t.lines.few);
    }

-- the source failed
pub ends-fault : (source now now' : SourceState) (old new : Reading) (streams : List Shape) → (p : Progress source now old streams) → GivesText answers.ReadFault source now' p.given new → EndsEarly ReadFault source now' new
ends-fault source now now' old new streams p (rose, t) = (
  rose,
  record {
    given = p.given ++ t.blanks;
    text = t.text;
    lines = t.lines;
    streams = streams;
    create = create-then-blank [] streams p.given t.blanks p.create t.blank;
    holds = tt;
  },
)

-- as many bytes were taken as can be counted
pub ends-limit : (source now now' : SourceState) (old new : Reading) (streams : List Shape) → (p : Progress source now old streams) → GivesText answers.ByteLimit source now' p.given new → EndsEarly ByteLimit source now' new
ends-limit source now now' old new streams p t = record {
  given = p.given ++ t.blanks;
  text = t.text;
  lines = t.lines;
  streams = streams;
  create = create-then-blank [] streams p.given t.blanks p.create t.blank;
  holds = t.holds;
}
