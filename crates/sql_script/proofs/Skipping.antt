-- What comes behind blank lines.
use Rattle.std.proofs.Common.{◌≡◌, ℕ, suc, ◌≤◌, Bool, true, false, List, [], ◌∷◌, ◌++◌, length, refl, sym, ◌∙◌, subst, append_assoc, append-nil, length-append, arith}
use Rattle.std.specs.List.{AllByRecursion}
use Rattle.io_streams.specs.Source.{SourceState}
use Rattle.io_line_reader.specs.declared.reader.LineAnswer.TheVariants.{Line, TooLong, End, ReadFault, ByteLimit}
use Rattle.io_line_reader.specs.Reading.{Reading, NextLine}
use Rattle.io_line_reader.specs.GivenLines.{GivenLines}
use Rattle.io_line_reader.proofs.GivenLines.{Step, step-read, given-line}
use Rattle.io_line_reader.proofs.GivenEnds.{all-given, last-given, last-text, rose-given}
use Rattle.sql_script.specs.declared.texts.TextAnswer.TheVariants as answers
use Rattle.sql_script.specs.Script.{SaysNothing, IsBlank}
use Rattle.sql_script.specs.Ends.{GivesText}

-- behind the lines that were given, blank lines were given
pub record Skipped (source now : SourceState) (given : List (List ℕ)) (reader : Reading) : Type 0 where
  pub blanks : List (List ℕ)
  pub front : List ℕ
  pub lines : GivenLines source now reader front (given ++ blanks)
  pub blank : AllByRecursion IsBlank blanks

pub skipped-none : (source now : SourceState) (reader : Reading) (front : List ℕ) (given : List (List ℕ)) → GivenLines source now reader front given → Skipped source now given reader
skipped-none source now reader front given g = record {
  blanks = [];
  front = front;
  lines = subst (GivenLines source now reader front) (sym (append-nil given)) g;
  blank = tt;
}

blank-push : (blanks : List (List ℕ)) (line : List ℕ) → AllByRecursion IsBlank blanks → IsBlank line → AllByRecursion IsBlank (blanks ++ line ∷ [])
blank-push [] line all one = (one, tt)
blank-push (x ∷ blanks) line all one = (all.0, blank-push blanks line all.1 one)

-- one more line, behind the blank ones
lines-more : (long : Bool) (source now now' : SourceState) (old new : Reading) (given : List (List ℕ)) → (s : Skipped source now given old) → (step : Step long old new now now')
    → GivenLines source now' new (s.front ++ step.given) (given ++ (s.blanks ++ step.line ∷ []))
lines-more long source now now' old new given s step =
    subst (GivenLines source now' new (s.front ++ step.given)) (append_assoc given s.blanks (step.line ∷ []))
    (given-line long old new source now now' s.front (given ++ s.blanks) s.lines step)

-- a blank line more
pub skipped-line : (source now now' : SourceState) (old new : Reading) (given : List (List ℕ)) → Skipped source now given old → NextLine Line old new now now' → SaysNothing new.line → Skipped source now' given new
skipped-line source now now' old new given s n nothing =
    let step = step-read false old new now now' n in
    let blank : IsBlank new.line = record { short = step.short refl; nothing = nothing } in
    record {
      blanks = s.blanks ++ step.line ∷ [];
      front = s.front ++ step.given;
      lines = lines-more false source now now' old new given s step;
      blank = blank-push s.blanks step.line s.blank (subst IsBlank step.begun blank);
    }

-- the number of a line is how many were given
number-of : (source now : SourceState) (reader : Reading) (front : List ℕ) (given blanks : List (List ℕ)) (line : List ℕ) → GivenLines source now reader front (given ++ (blanks ++ line ∷ [])) → reader.lines ≡ suc (length (given ++ blanks))
number-of source now reader front given blanks line g =
    omega (arith, g.numbered, length-append given (blanks ++ line ∷ []), length-append blanks (line ∷ []), length-append given blanks)

-- a line that says something
pub gives-text : (source now now' : SourceState) (old new : Reading) (given : List (List ℕ)) → Skipped source now given old → NextLine Line old new now now' → ¬ (SaysNothing new.line) → GivesText answers.Text source now' given new
gives-text source now now' old new given s n loud =
    let step = step-read false old new now now' n in
    let lines = lines-more false source now now' old new given s step in
    let short : length new.line ≤ 1024 = step.short refl in
    record {
      blanks = s.blanks;
      line = step.line;
      front = s.front ++ step.given;
      lines = lines;
      blank = s.blank;
      holds = (
        number-of source now' new (s.front ++ step.given) given s.blanks step.line lines,
        step.begun,
        subst (λ l. length l ≤ 1024) step.begun short,
        (λ blank. loud (subst SaysNothing (sym step.begun) blank.nothing)),
      );
    }

-- a line that is too long
pub gives-long : (source now now' : SourceState) (old new : Reading) (given : List (List ℕ)) → Skipped source now given old → NextLine TooLong old new now now' → GivesText answers.TooLong source now' given new
gives-long source now now' old new given s n =
    let step = step-read true old new now now' n in
    let lines = lines-more true source now now' old new given s step in
    record {
      blanks = s.blanks;
      line = step.line;
      front = s.front ++ step.given;
      lines = lines;
      blank = s.blank;
      holds = (number-of source now' new (s.front ++ step.given) given s.blanks step.line lines, step.begun);
    }

-- the end of the source
pub gives-end : (source now now' : SourceState) (old new : Reading) (given : List (List ℕ)) → Skipped source now given old → NextLine End old new now now' → GivesText answers.End source now' given new
gives-end source now now' old new given s n = record {
  blanks = s.blanks;
  text = s.front;
  lines = all-given source now now' old new s.front (given ++ s.blanks) s.lines n;
  blank = s.blank;
}

-- the source failed
pub gives-fault : (source now now' : SourceState) (old new : Reading) (given : List (List ℕ)) → Skipped source now given old → NextLine ReadFault old new now now' → GivesText answers.ReadFault source now' given new
gives-fault source now now' old new given s n =
    let t = n.tells in (
      rose-given source now now' old new s.front (given ++ s.blanks) s.lines n,
      record {
        blanks = s.blanks;
        text = last-text ReadFault old new now now' s.front n;
        lines = last-given ReadFault source now now' old new s.front (given ++ s.blanks) s.lines n t.0 t.1 t.2;
        blank = s.blank;
        holds = tt;
      },
    )

-- as many bytes were taken as can be counted
pub gives-limit : (source now now' : SourceState) (old new : Reading) (given : List (List ℕ)) → Skipped source now given old → NextLine ByteLimit old new now now' → GivesText answers.ByteLimit source now' given new
gives-limit source now now' old new given s n =
    let t = n.tells in
    let last = last-given ByteLimit source now now' old new s.front (given ++ s.blanks) s.lines n t.0 t.1 t.2 in
    record {
      blanks = s.blanks;
      text = last-text ByteLimit old new now now' s.front n;
      lines = last;
      blank = s.blank;
      holds = sym last.count ∙ t.3;
    }
