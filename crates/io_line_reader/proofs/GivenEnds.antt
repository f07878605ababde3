-- What was given where no more lines come.
use Rattle.std.proofs.Common.{◌≡◌, ℕ, ◌<◌, ◌⊎◌, inl, inr, Bool, true, false, List, [], ◌++◌, length, refl, sym, ap, ◌∙◌, subst, append_assoc, append-nil, length-append, arith, IfSome}
use Rattle.std.specs.Io.KnownBytes.{Consumes}
use Rattle.std.proofs.KnownBytes.{Consumes-trans}
use Rattle.std.proofs.lemmas.Bool.{false≢true}
use Rattle.io_streams.specs.Counts.{Rose}
use Rattle.io_streams.specs.Source.{SourceState}
use Rattle.io_streams.proofs.Writing.{Rose-earlier}
use Rattle.sql_text.specs.Lines.{lines}
use Rattle.io_line_reader.specs.declared.reader.LineAnswer.{LineAnswer}
use Rattle.io_line_reader.specs.declared.reader.LineAnswer.TheVariants.{End, ReadFault}
use Rattle.io_line_reader.specs.Reading.{Reading, IsPlain, Fails, NextLine, TakesAll}
use Rattle.io_line_reader.specs.Texts.{text_of, ended_part}
use Rattle.io_line_reader.specs.GivenLines.{GivenLines, TookLines, AllGiven, LastGiven}
use Rattle.io_line_reader.proofs.GivenLines.{spent}
use Rattle.io_line_reader.proofs.TextLines.{append-nothing, ended_part-text_of}

-- the lines of all bytes that were taken
pub text-lines : (source now : SourceState) (reader : Reading) (front : List ℕ) (given : List (List ℕ)) → GivenLines source now reader front given → lines (front ++ reader.ahead) ≡ given ++ lines reader.ahead
text-lines source now reader front given g = g.cut reader.ahead (λ ended. (g.over ended).0)

-- the lines of the front that was given
pub front-lines : (source now : SourceState) (reader : Reading) (front : List ℕ) (given : List (List ℕ)) → GivenLines source now reader front given → lines front ≡ given
front-lines source now reader front given g = ap lines (sym (append-nil front)) ∙ g.cut [] (λ _. refl) ∙ append-nil given

-- the lines that were given are those of a front of the bytes, and the last of them is whole
pub took-lines : (source now : SourceState) (reader : Reading) (front : List ℕ) (given : List (List ℕ)) → 0 < length given → GivenLines source now reader front given → TookLines source now front
took-lines source now reader front given some g = record { ahead = reader.ahead; taken = g.taken; near = g.ahead; ended = by_end reader.ended refl }
  where
    by_end : (b : Bool) → reader.ended ≡ b → ((front ≡ text_of (lines front)) × (length reader.ahead < now.last)) ⊎ TakesAll source now front
    by_end false open-yet = inl (g.whole open-yet ∙ ap text_of (sym (front-lines source now reader front given g)), g.strict open-yet some)
    by_end true over = inr record {
      taken = subst (Consumes source.left now.left) (ap (λ l. front ++ l) (g.over over).0 ∙ append-nil front) g.taken;
      whole = (g.over over).2;
    }

-- all bytes were taken
pub took-all : (source now : SourceState) (text : List ℕ) → TakesAll source now text → TookLines source now text
took-all source now text all = record { ahead = []; taken = subst (Consumes source.left now.left) (sym (append-nil text)) all.taken; near = omega arith; ended = inr all }

-- the source is at its end, and all was given
pub all-given : (source now now' : SourceState) (old new : Reading) (front : List ℕ) (given : List (List ℕ)) → GivenLines source now old front given → NextLine End old new now now' → AllGiven source now' new front given
all-given source now now' old new front given g n =
    let over = n.over n.tells.1 in
    let none = append-nothing old.ahead n.got (n.whole ∙ ap (λ l. l ++ new.ahead) n.tells.0 ∙ over.0) in
    let all : (front ++ old.ahead) ++ n.got ≡ front = ap (λ l. (front ++ old.ahead) ++ l) none.1 ∙ append-nil (front ++ old.ahead) ∙ ap (λ l. front ++ l) none.0 ∙ append-nil front in
    record {
      all = record {
        taken = subst (Consumes source.left now'.left) all (Consumes-trans source.left now.left now'.left (front ++ old.ahead) n.got g.taken n.taken);
        whole = was-all over.2 all;
      };
      few = omega (arith, over.1, n.count, g.count, length-append front old.ahead);
      are = front-lines source now old front given g;
      later = omega (arith, g.later, n.later);
      numbered = n.tells.2 ∙ g.numbered;
      room = omega (arith, n.counted.0, over.1);
    }
  where
    was-all : (old.ended ≡ true) ⊎ TakesAll now now' n.got → (front ++ old.ahead) ++ n.got ≡ front → IfSome source.left (λ bytes. bytes ≡ front)
    was-all (inl ended) all = (g.over ended).2
    was-all (inr took) all = spent source.left now.left (front ++ old.ahead) n.got front g.taken took.whole all

-- The bytes that were taken, where the reader broke off in a line that has no LF.
abbrev pub last-text : (answer : LineAnswer) (old new : Reading) (now now' : SourceState) (front : List ℕ) → NextLine answer old new now now' → List ℕ
last-text answer old new now now' front n = front ++ n.given

-- the reader broke off in a line that has no LF
pub last-given : (answer : LineAnswer) (source now now' : SourceState) (old new : Reading) (front : List ℕ) (given : List (List ℕ)) → GivenLines source now old front given → (n : NextLine answer old new now now')
    → IsPlain n.given → new.ahead ≡ [] → old.ended ≡ false → LastGiven source now' new (last-text answer old new now now' front n) given
last-given answer source now now' old new front given g n plain none open-yet =
    let moved : (front ++ old.ahead) ++ n.got ≡ front ++ n.given =
    append_assoc front old.ahead n.got ∙ ap (λ l. front ++ l) (n.whole ∙ ap (λ l. n.given ++ l) none ∙ append-nil n.given) in
    let whole : front ≡ text_of given = g.whole open-yet in
    let part : ended_part (front ++ n.given) ≡ front = ap (λ f. ended_part (f ++ n.given)) whole ∙ ended_part-text_of given n.given plain ∙ sym whole in
    record {
      taken = subst (Consumes source.left now'.left) moved (Consumes-trans source.left now.left now'.left (front ++ old.ahead) n.got g.taken n.taken);
      count = omega (arith, n.count, g.count, ap length moved, length-append (front ++ old.ahead) n.got);
      are = ap lines part ∙ front-lines source now old front given g;
      later = omega (arith, g.later, n.later);
    }

-- the source failed since the first state
pub rose-given : (source now now' : SourceState) (old new : Reading) (front : List ℕ) (given : List (List ℕ)) → GivenLines source now old front given → NextLine ReadFault old new now now' → Rose source.faults now'.faults
rose-given source now now' old new front given g n = by_time n.fails
  where
    by_time : Fails ReadFault old new now now' → Rose source.faults now'.faults
    by_time (failed, inl here) = Rose-earlier source.faults now.faults now'.faults g.later here.1
    by_time (failed, inr kept) = absurd (false≢true (sym g.unfailed ∙ ap (λ (r : Reading). r.failed) (sym kept.0) ∙ failed))
