-- The lines that were given so far, out of the bytes that were taken.
use Rattle.std.proofs.Common.{◌≡◌, ℕ, ◌+◌, ◌-◌, ◌^◌, ◌<◌, ◌≤◌, ◌⊎◌, inl, inr, Bool, true, false, List, [], ◌∷◌, ◌++◌, length, refl, sym, ap, ◌∙◌, subst, append_assoc, append-nil, length-append, arith, None, Some, IfSome}
use Rattle.std.specs.declared.option.Option.{Option}
use Rattle.std.specs.Io.KnownBytes.{Consumes}
use Rattle.std.proofs.KnownBytes.{Consumes-nil, Consumes-trans}
use Rattle.std.proofs.lemmas.Bool.{false≢true}
use Rattle.io_streams.specs.Source.{SourceState}
use Rattle.sql_text.specs.Lines.{lines}
use Rattle.io_line_reader.specs.Reading.{Reading, fresh, IsPlain, IsLine, fed, last, IsBuffered, ReadsNoFurther, unread, needed, NextLine, TakesAll, IsBegun, answer_to}
use Rattle.io_line_reader.proofs.LineTexts.{lines-given}
use Rattle.io_line_reader.specs.Texts.{text_of, IsNear}
use Rattle.io_line_reader.specs.GivenLines.{GivenLines}
use Rattle.io_line_reader.proofs.TextLines.{text_of-append, text_of-one, length-text_of-append, length-text_of-cons}

-- The reader gave a line, or called it too long.
pub record Step (long : Bool) (old new : Reading) (source now : SourceState) : Type 0 where
  pub got : List ℕ
  pub given : List ℕ
  pub line : List ℕ
  pub whole : old.ahead ++ got ≡ given ++ new.ahead
  pub taken : Consumes source.left now.left got
  pub count : new.taken ≡ old.taken + length got
  pub near : length old.ahead ≤ 4096 → length new.ahead ≤ 4096
  pub recent : length old.ahead ≤ source.last → new.ended ≡ false → length new.ahead < now.last
  pub counted : (new.lines ≤ new.taken) × (new.taken < 2 ^ 64)
  pub unended : old.ended ≡ false
  pub unfailed : new.failed ≡ false
  pub form : IsLine given line new.ended
  pub plain : IsPlain line
  pub begun : IsBegun long new.line line
  pub short : long ≡ false → length new.line ≤ 1024
  pub lines : new.lines ≡ old.lines + 1
  pub over : new.ended ≡ true → (new.ahead ≡ []) × (new.taken < 2 ^ 64 - 1) × TakesAll source now got
  pub later : source.faults ≤ now.faults

pub shorter : (old line new : List ℕ) → old ≡ line ++ 10 ∷ new → length new < length old
shorter old line new e = omega (arith, ap length e, length-append line (10 ∷ new))

line-size : (given line : List ℕ) (ended : Bool) → IsLine given line ended → length given ≤ length line + 1
line-size given line ended (fed e u) = omega (arith, ap length e, length-append line (10 ∷ []))
line-size given line ended (last e s d) = omega (arith, ap length e)

line-whole : (given line : List ℕ) (ended : Bool) → IsLine given line ended → ended ≡ false → given ≡ line ++ 10 ∷ []
line-whole given line ended (fed e u) f = e
line-whole given line ended (last e s d) f = absurd (false≢true (sym f ∙ d))

-- a line that lay whole in what was read
abbrev pub step-buffered : (old new : Reading) (source : SourceState) → IsBuffered old new → Step false old new source source
step-buffered old new source b = record {
  got = [];
  given = new.line ++ 10 ∷ [];
  line = new.line;
  whole = append-nil old.ahead ∙ b.whole ∙ sym (append_assoc new.line (10 ∷ []) new.ahead);
  taken = Consumes-nil source.left;
  count = omega (arith, b.taken);
  near = λ le. omega (arith, le, shorter old.ahead new.line new.ahead b.whole);
  recent = λ le _. omega (arith, le, shorter old.ahead new.line new.ahead b.whole);
  counted = b.counted;
  unended = b.ended.0;
  unfailed = b.unfailed.1;
  form = fed refl b.ended.1;
  plain = b.plain;
  begun = refl;
  short = λ _. b.short;
  lines = b.lines;
  over = λ e. absurd (false≢true (sym b.ended.1 ∙ e));
  later = omega arith;
}

-- the source has ended in this call
over-now : (old new : Reading) (source now : SourceState) (got : List ℕ) → old.ended ≡ false → (new.ahead ≡ []) × (new.taken < 2 ^ 64 - 1) × ((old.ended ≡ true) ⊎ TakesAll source now got)
    → (new.ahead ≡ []) × (new.taken < 2 ^ 64 - 1) × TakesAll source now got
over-now old new source now got unended (none, few, inl ended) = absurd (false≢true (sym unended ∙ ended))
over-now old new source now got unended (none, few, inr all) = (none, few, all)

-- a line was given for which the source was read no further
recent-read : (old new : Reading) (source now : SourceState) (got given line : List ℕ) → ReadsNoFurther old new source now got given → old.ahead ++ got ≡ given ++ new.ahead → IsLine given line new.ended
    → length old.ahead ≤ source.last → new.ended ≡ false → length new.ahead < now.last
recent-read old new source now got given line (unread none same) whole form le open-yet =
    let kept : old.ahead ≡ line ++ 10 ∷ new.ahead =
    sym (append-nil old.ahead) ∙ ap (λ l. old.ahead ++ l) (sym none) ∙ whole ∙ ap (λ l. l ++ new.ahead) (line-whole given line new.ended form open-yet) ∙ append_assoc line (10 ∷ []) new.ahead in
    omega (arith, le, shorter old.ahead line new.ahead kept, ap (λ (s : SourceState). s.last) same)
recent-read old new source now got given line (needed plain late) whole form le open-yet = late line (line-whole given line new.ended form open-yet)

-- a line for which the source was read
pub step-read : (long : Bool) (old new : Reading) (source now : SourceState) → NextLine (answer_to long) old new source now → Step long old new source now
step-read true old new source now n = record {
  got = n.got;
  given = n.given;
  line = n.tells.0;
  whole = n.whole;
  taken = n.taken;
  count = n.count;
  near = λ _. n.near;
  recent = recent-read old new source now n.got n.given n.tells.0 n.prompt n.whole n.tells.1;
  counted = n.counted;
  unended = n.tells.4;
  unfailed = n.fails.1;
  form = n.tells.1;
  plain = n.tells.2;
  begun = n.tells.3;
  short = λ e. absurd (false≢true (sym e));
  lines = n.tells.5;
  over = λ e. over-now old new source now n.got n.tells.4 (n.over e);
  later = n.later;
}
step-read false old new source now n = record {
  got = n.got;
  given = n.given;
  line = new.line;
  whole = n.whole;
  taken = n.taken;
  count = n.count;
  near = λ _. n.near;
  recent = recent-read old new source now n.got n.given new.line n.prompt n.whole n.tells.0;
  counted = n.counted;
  unended = n.tells.3;
  unfailed = n.fails.1;
  form = n.tells.0;
  plain = n.tells.1;
  begun = refl;
  short = λ _. n.tells.2;
  lines = n.tells.4;
  over = λ e. over-now old new source now n.got n.tells.3 (n.over e);
  later = n.later;
}

-- nothing was taken
pub given-none : (source : SourceState) → GivenLines source source fresh [] []
given-none source = record {
  taken = Consumes-nil source.left;
  count = refl;
  ahead = omega arith;
  recent = omega arith;
  strict = λ _ some. absurd (omega (arith, some));
  cut = λ rest _. refl;
  whole = λ _. refl;
  size = omega arith;
  over = λ e. absurd (false≢true e);
  later = omega arith;
  unfailed = refl;
  numbered = refl;
  counted = (omega arith, omega arith);
}

-- what was left before is what was taken since, where that was all
pub spent : (a b : Option (List ℕ)) (bytes got front : List ℕ) → Consumes a b bytes → IfSome b (λ left. left ≡ got) → bytes ++ got ≡ front → IfSome a (λ all. all ≡ front)
spent None b bytes got front p q e = tt
spent (Some x) None bytes got front p q e = absurd p
spent (Some x) (Some y) bytes got front p q e = p ∙ ap (λ l. bytes ++ l) q ∙ e

-- what is ahead came by the last read
recent-line : (long : Bool) (old new : Reading) (source now : SourceState) → Step long old new source now → length old.ahead ≤ source.last → length new.ahead ≤ now.last
recent-line long old new source now step le = by_end new.ended refl
  where
    by_end : (b : Bool) → new.ended ≡ b → length new.ahead ≤ now.last
    by_end false open-yet = omega (arith, step.recent le open-yet)
    by_end true over = omega (arith, ap length (step.over over).0)

-- one more line was given
pub given-line : (long : Bool) (old new : Reading) (source now now' : SourceState) (front : List ℕ) (given : List (List ℕ)) → GivenLines source now old front given
    → (step : Step long old new now now') → GivenLines source now' new (front ++ step.given) (given ++ step.line ∷ [])
given-line long old new source now now' front given g step =
    let moved : (front ++ old.ahead) ++ step.got ≡ (front ++ step.given) ++ new.ahead =
    append_assoc front old.ahead step.got ∙ ap (λ l. front ++ l) step.whole ∙ sym (append_assoc front step.given new.ahead) in
    record {
      taken = subst (Consumes source.left now'.left) moved (Consumes-trans source.left now.left now'.left (front ++ old.ahead) step.got g.taken step.taken);
      count = omega (arith, step.count, g.count, ap length moved, length-append (front ++ old.ahead) step.got);
      ahead = step.near g.ahead;
      recent = recent-line long old new now now' step g.recent;
      strict = λ open-yet _. step.recent g.recent open-yet;
      cut = λ rest none.
          ap lines (append_assoc front step.given rest) ∙ g.cut (step.given ++ rest) (λ ended. absurd (false≢true (sym step.unended ∙ ended)))
          ∙ ap (λ l. given ++ l) (lines-given step.given step.line new.ended step.form step.plain rest none)
          ∙ sym (append_assoc given (step.line ∷ []) (lines rest));
      whole = λ unended.
          ap (λ l. l ++ step.given) (g.whole step.unended)
          ∙ ap (λ l. text_of given ++ l) (line-whole step.given step.line new.ended step.form unended ∙ sym (text_of-one step.line))
          ∙ sym (text_of-append given (step.line ∷ []));
      size = omega (
        arith,
        g.size,
        length-append front step.given,
        line-size step.given step.line new.ended step.form,
        length-text_of-append given (step.line ∷ []),
        length-text_of-cons step.line [],
      );
      over = λ ended.
          let done = step.over ended in
          let all : (front ++ old.ahead) ++ step.got ≡ front ++ step.given = moved ∙ ap (λ l. (front ++ step.given) ++ l) done.0 ∙ append-nil (front ++ step.given) in
          (done.0, done.1, spent source.left now.left (front ++ old.ahead) step.got (front ++ step.given) g.taken done.2.whole all);
      later = omega (arith, g.later, step.later);
      unfailed = step.unfailed;
      numbered = omega (arith, g.numbered, step.lines, length-append given (step.line ∷ []));
      counted = step.counted;
    }

-- little lies beyond a line that was given
pub near-line : (long : Bool) (old new : Reading) (source now now' : SourceState) (front : List ℕ) (given : List (List ℕ)) → GivenLines source now old front given
    → (step : Step long old new now now') → IsNear ((front ++ step.given) ++ new.ahead) (given ++ step.line ∷ []) now'.last
near-line long old new source now now' front given g step =
    let g' = given-line long old new source now now' front given g step in
    record { within = omega (arith, g'.size, g'.ahead, length-append (front ++ step.given) new.ahead); recent = by_form step.form }
  where
    by_form : IsLine step.given step.line new.ended → length ((front ++ step.given) ++ new.ahead) < length (text_of (given ++ step.line ∷ [])) + now'.last
    by_form (fed e open-yet) = omega (
      arith,
      g.size,
      ap length e,
      length-append step.line (10 ∷ []),
      length-append (front ++ step.given) new.ahead,
      length-append front step.given,
      length-text_of-append given (step.line ∷ []),
      length-text_of-cons step.line [],
      step.recent g.recent open-yet,
    )
    by_form (last e some over) = omega (
      arith,
      g.size,
      ap length e,
      ap length (step.over over).0,
      length-append (front ++ step.given) new.ahead,
      length-append front step.given,
      length-text_of-append given (step.line ∷ []),
      length-text_of-cons step.line [],
    )
