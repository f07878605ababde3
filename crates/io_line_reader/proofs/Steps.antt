-- What a call for the next line came to.
use Rattle.std.proofs.Common.{◌≡◌, ℕ, ◌+◌, ◌-◌, ◌^◌, ◌<◌, ◌≤◌, Bool, true, false, List, ◌++◌, length, slice_index, refl, sym, ap, ◌∙◌, subst, ◌⊎◌, inl, inr, [], arith, append-nil, length-append}
use Rattle.std.specs.declared.option.Option.{Option}
use Rattle.std.specs.Io.KnownBytes.{Consumes, IsAtEnd, Keeps}
use Rattle.std.proofs.KnownBytes.{Consumes-kept, Consumes-whole}
use Rattle.io_streams.specs.Source.{SourceState}
use Rattle.io_line_reader.specs.declared.reader.LineAnswer.{LineAnswer}
use Rattle.io_line_reader.specs.declared.reader.LineAnswer.TheVariants.{Line, TooLong, End, ReadFault, ByteLimit}
use Rattle.io_line_reader.specs.Buffers.{GivesLast}
use Rattle.io_line_reader.specs.Reading.{Reading, IsPlain, IsLine, last, IsBegun, ReadsNoFurther, unread, needed, NextLine, TakesAll, answer_to}
use Rattle.io_line_reader.proofs.Pieces.{not-plain, plain-begin}

-- The source was not read, or no LF was ahead, and what stands from the first LF that is ahead on came by the last read.
abbrev pub HasRead : Reading → SourceState → SourceState → List ℕ → List ℕ → Type 0
HasRead old before now got ahead = ((got ≡ []) × (now ≡ before)) ⊎ (IsPlain old.ahead × ((place : ℕ) → slice_index ahead place ≡ 10 → length ahead ≤ place + now.last))

-- a line was given that ends at this place of what was ahead
pub prompt-line : (old new : Reading) (before now : SourceState) (got given ahead : List ℕ) (place : ℕ) → HasRead old before now got ahead → slice_index ahead place ≡ 10 → length new.ahead + place < length ahead → ReadsNoFurther old new before now got given
prompt-line old new before now got given ahead place (inl kept) feed lt = unread kept.0 kept.1
prompt-line old new before now got given ahead place (inr read) feed lt = needed read.0 (λ line e. omega (arith, lt, read.1 place feed))

-- what was given up has no LF
pub prompt-plain : (old new : Reading) (before now : SourceState) (got given : List ℕ) → IsPlain given → old.ahead ++ got ≡ given → ReadsNoFurther old new before now got given
prompt-plain old new before now got given plain e =
    needed (plain-begin old.ahead got given plain e) (λ line f. absurd (not-plain line [] (subst IsPlain f plain)))

-- a line was given or called too long
pub given-next : (long : Bool) (answer : LineAnswer) (old new : Reading) (before after : SourceState) (got given line : List ℕ) → answer ≡ answer_to long
    → old.ahead ++ got ≡ given ++ new.ahead → Consumes before.left after.left got → new.taken ≡ old.taken + length got → length new.ahead ≤ 4096 → ReadsNoFurther old new before after got given → (new.lines ≤ new.taken) × (new.taken < 2 ^ 64)
    → (new.ended ≡ true → (new.ahead ≡ []) × (new.taken < 2 ^ 64 - 1) × ((old.ended ≡ true) ⊎ TakesAll before after got)) → before.faults ≤ after.faults → old.ended ≡ false → (old.failed ≡ false) × (new.failed ≡ false) → IsLine given line new.ended → IsPlain line
    → IsBegun long new.line line → (long ≡ false → length new.line ≤ 1024) → new.lines ≡ old.lines + 1 → NextLine answer old new before after
given-next true answer old new before after got given line e whole taken count near prompt counted over later unended unfailed form plain held short lines = rw e record {
  got = got;
  given = given;
  whole = whole;
  taken = taken;
  count = count;
  near = near;
  prompt = prompt;
  counted = counted;
  tells = (line, form, plain, held, unended, lines);
  fails = unfailed;
  over = over;
  later = later;
}
given-next false answer old new before after got given line e whole taken count near prompt counted over later unended unfailed form plain held short lines = rw e record {
  got = got;
  given = given;
  whole = whole;
  taken = taken;
  count = count;
  near = near;
  prompt = prompt;
  counted = counted;
  tells = (subst (λ l. IsLine given l new.ended) (sym held) form, subst IsPlain (sym held) plain, short refl, unended, lines);
  fails = unfailed;
  over = over;
  later = later;
}

-- the source is at its end, and what was taken is all
pub takes-all : (before after : SourceState) (now : Option (List ℕ)) (got : List ℕ) → Consumes before.left now got → IsAtEnd now → Keeps now after.left → TakesAll before after got
takes-all before after now got p e k = record {
  taken = Consumes-kept before.left now after.left got p k;
  whole = Consumes-whole before.left now got (λ left. left ≡ got) p e refl;
}

-- the last line, where something was begun
last-line : (answer : LineAnswer) (long : Bool) (old held new : Reading) (before after : SourceState) (got begun : List ℕ) → answer ≡ answer_to long → (long ≡ false → 0 < length held.ahead) → new.lines ≡ held.lines + 1 → new.ahead ≡ [] → new.line ≡ held.ahead
    → new.taken ≡ held.taken → new.lines ≤ new.taken → (new.ended ≡ true) × (new.failed ≡ false) → old.ahead ++ got ≡ begun ++ held.ahead → IsPlain (begun ++ held.ahead) → IsBegun long [] begun → length held.ahead ≤ 1024 → Consumes before.left after.left got
    → held.taken ≡ old.taken + length got → held.taken < 2 ^ 64 - 1 → TakesAll before after got → before.faults ≤ after.faults → old.ended ≡ false → old.failed ≡ false → held.lines ≡ old.lines → NextLine answer old new before after
last-line answer long old held new before after got begun is some more none line taken counted over whole plain begun-is short bytes count few all later unended unfailed lines =
    given-next long answer old new before after got (begun ++ held.ahead) (begun ++ held.ahead) is
    (whole ∙ sym (append-nil (begun ++ held.ahead)) ∙ ap (λ l. (begun ++ held.ahead) ++ l) (sym none))
    bytes (taken ∙ count) (omega (arith, ap length none))
    (prompt-plain old new before after got (begun ++ held.ahead) plain whole)
    (counted, omega (arith, taken, few))
    (λ _. (none, omega (arith, taken, few), inr all))
    later unended (unfailed, over.1)
    (last refl (begun-some long begun held.ahead begun-is some) over.0)
    plain
    (subst (λ l. IsBegun long l (begun ++ held.ahead)) (sym line) (begun-held long begun held.ahead begun-is))
    (λ _. omega (arith, ap length line, short))
    (more ∙ ap (λ k. k + 1) lines)
  where
    begun-some : (long : Bool) (begun rest : List ℕ) → IsBegun long [] begun → (long ≡ false → 0 < length rest) → 0 < length (begun ++ rest)
    begun-some true begun rest far some = omega (arith, far, length-append begun rest)
    begun-some false begun rest none some = omega (arith, some refl, length-append begun rest)

    begun-held : (long : Bool) (begun rest : List ℕ) → IsBegun long [] begun → IsBegun long rest (begun ++ rest)
    begun-held true begun rest far = omega (arith, far, length-append begun rest)
    begun-held false begun rest none = ap (λ l. l ++ rest) none

-- nothing was begun
no-last : (long : Bool) (old held new : Reading) (before after : SourceState) (got begun : List ℕ) → GivesLast End long held new → old.ahead ++ got ≡ begun ++ held.ahead → IsPlain (begun ++ held.ahead) → IsBegun long [] begun
    → length held.ahead ≤ 1024 → Consumes before.left after.left got → held.taken ≡ old.taken + length got → held.taken < 2 ^ 64 - 1 → TakesAll before after got → before.faults ≤ after.faults → old.ended ≡ false → old.failed ≡ false → held.lines ≡ old.lines
    → NextLine End old new before after
no-last long old held new before after got begun g whole plain begun-is short bytes count few all later unended unfailed lines =
    let nothing : [] ≡ begun = subst (λ b. IsBegun b [] begun) g.says.0 begun-is in
    let none : old.ahead ++ got ≡ [] = whole ∙ ap (λ l. l ++ held.ahead) (sym nothing) ∙ g.says.1 in
    record {
      got = got;
      given = [];
      whole = none ∙ sym g.ahead;
      taken = bytes;
      count = g.taken ∙ count;
      near = omega (arith, ap length g.ahead);
      prompt = prompt-plain old new before after got [] (λ k d lt. absurd (omega (arith, lt))) none;
      counted = (g.counted, omega (arith, g.taken, few));
      tells = (refl, g.over.0, g.says.2 ∙ lines);
      fails = (unfailed, g.over.1);
      over = λ _. (g.ahead, omega (arith, g.taken, few), inr all);
      later = later;
    }

-- the source has ended
pub given-last : (answer : LineAnswer) (long : Bool) (old held new : Reading) (before after : SourceState) (got begun : List ℕ) → GivesLast answer long held new → old.ahead ++ got ≡ begun ++ held.ahead → IsPlain (begun ++ held.ahead) → IsBegun long [] begun
    → length held.ahead ≤ 1024 → Consumes before.left after.left got → held.taken ≡ old.taken + length got → held.taken < 2 ^ 64 - 1 → TakesAll before after got → before.faults ≤ after.faults → old.ended ≡ false → old.failed ≡ false → held.lines ≡ old.lines
    → NextLine answer old new before after
given-last End long old held new before after got begun g = no-last long old held new before after got begun g
given-last Line long old held new before after got begun g = last-line Line long old held new before after got begun g.says.0 g.says.1 g.says.2 g.ahead g.line g.taken g.counted g.over
given-last TooLong long old held new before after got begun g = last-line TooLong long old held new before after got begun g.says.0 g.says.1 g.says.2 g.ahead g.line g.taken g.counted g.over
given-last ReadFault long old held new before after got begun g = last-line ReadFault long old held new before after got begun g.says.0 g.says.1 g.says.2 g.ahead g.line g.taken g.counted g.over
given-last ByteLimit long old held new before after got begun g = last-line ByteLimit long old held new before after got begun g.says.0 g.says.1 g.says.2 g.ahead g.line g.taken g.counted g.over
