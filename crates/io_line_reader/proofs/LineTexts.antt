-- The lines of a text that begins with a line.
use Rattle.std.proofs.Common.{◌≡◌, ℕ, ◌-◌, ◌^◌, ◌<◌, ◌⊎◌, inl, inr, Bool, true, false, List, [], ◌∷◌, ◌++◌, length, refl, sym, ap, ◌∙◌, subst, append_assoc, append-nil, length-append, arith, None, Some, IfSome}
use Rattle.std.specs.declared.option.Option.{Option}
use Rattle.std.specs.List.{All}
use Rattle.std.specs.Io.KnownBytes.{Consumes}
use Rattle.std.proofs.lemmas.Bool.{ne_eqb, false≢true}
use Rattle.std.proofs.lemmas.List.Splits.{slice_split_at, slice_split_none}
use Rattle.io_streams.specs.Source.{SourceState}
use Rattle.sql_text.specs.Lines.{lines, is_line_feed}
use Rattle.sql_text.proofs.Cuts.{lines-some, lines-none}
use Rattle.io_line_reader.specs.declared.reader.LineAnswer.{LineAnswer}
use Rattle.io_line_reader.specs.declared.reader.LineAnswer.TheVariants.{Line, TooLong, End, ReadFault, ByteLimit}
use Rattle.io_line_reader.specs.Reading.{Reading, IsPlain, IsLine, fed, last, TakesAll, NextLine, GivesLine}
use Rattle.io_line_reader.proofs.Pieces.{empty-list}

none-passes : (line : List ℕ) → IsPlain line → All (λ b. is_line_feed b ≡ false) line
none-passes line plain = λ k d lt. ne_eqb _ _ (plain k d lt)

-- a line that ends with LF, and the others
pub lines-fed : (line rest : List ℕ) → IsPlain line → lines (line ++ 10 ∷ rest) ≡ line ∷ lines rest
lines-fed line rest plain = lines-some (line ++ 10 ∷ rest) line rest (slice_split_at is_line_feed line 10 rest (none-passes line plain) refl)

-- a last line without LF
pub lines-last : (line : List ℕ) → IsPlain line → 0 < length line → lines line ≡ line ∷ []
lines-last line plain some = lines-none line line some refl (slice_split_none is_line_feed line (none-passes line plain))

-- a line in front of what follows it, which is nothing where the source has ended
pub lines-given : (given line : List ℕ) (ended : Bool) → IsLine given line ended → IsPlain line → (rest : List ℕ) → (ended ≡ true → rest ≡ []) → lines (given ++ rest) ≡ line ∷ lines rest
lines-given given line ended (fed e unended) plain rest none = ap (λ g. lines (g ++ rest)) e ∙ ap lines (append_assoc line (10 ∷ []) rest) ∙ lines-fed line rest plain
lines-given given line ended (last e some done) plain rest none =
    let empty = none done in
    ap (λ g. lines (g ++ rest)) e ∙ ap (λ r. lines (line ++ r)) empty ∙ ap lines (append-nil line) ∙ lines-last line plain some ∙ ap (λ r. line ∷ lines r) (sym empty)

-- where all that was left was taken, nothing is left
none-left : (left now : List ℕ) (got : List ℕ) → left ≡ got ++ now → left ≡ got → now ≡ []
none-left left now got p e = empty-list now (omega (arith, ap length p, ap length e, length-append got now))

-- what is ahead and left, by what was given of it
to-come : (old new : List ℕ) (left now got given : List ℕ) → old ++ got ≡ given ++ new → left ≡ got ++ now → old ++ left ≡ given ++ (new ++ now)
to-come old new left now got given whole taken =
    ap (λ l. old ++ l) taken ∙ sym (append_assoc old got now) ∙ ap (λ l. l ++ now) whole ∙ append_assoc given new now

-- the first of the lines that are still to be given
first-line : (answer : LineAnswer) (old new : Reading) (before after : SourceState) (left now line : List ℕ) (n : NextLine answer old new before after)
    → before.left ≡ Some left → after.left ≡ Some now → old.ended ≡ false → IsLine n.given line new.ended → IsPlain line → lines (old.ahead ++ left) ≡ line ∷ lines (new.ahead ++ now)
first-line answer old new before after left now line n b a unended form plain =
    let taken : Consumes (Some left) (Some now) n.got = subst (λ o. Consumes o (Some now) n.got) b (subst (λ o. Consumes before.left o n.got) a n.taken) in
    ap lines (to-come old.ahead new.ahead left now n.got n.given n.whole taken)
    ∙ lines-given n.given line new.ended form plain (new.ahead ++ now) (λ ended. nothing (n.over ended) taken)
  where
    nothing : (new.ahead ≡ []) × (new.taken < 2 ^ 64 - 1) × ((old.ended ≡ true) ⊎ TakesAll before after n.got) → left ≡ n.got ++ now → new.ahead ++ now ≡ []
    nothing (none, few, inl ended) taken = absurd (false≢true (sym unended ∙ ended))
    nothing (none, few, inr all) taken = ap (λ l. l ++ now) none ∙ none-left left now n.got taken (subst (λ o. IfSome o (λ x. x ≡ n.got)) b all.whole)

-- at the end no line is still to be given
no-line : (old new : Reading) (before after : SourceState) (left : List ℕ) (n : NextLine End old new before after) → before.left ≡ Some left → old.ended ≡ false → lines (old.ahead ++ left) ≡ []
no-line old new before after left n b unended = ap lines (nothing (n.over n.tells.1))
  where
    nothing : (new.ahead ≡ []) × (new.taken < 2 ^ 64 - 1) × ((old.ended ≡ true) ⊎ TakesAll before after n.got) → old.ahead ++ left ≡ []
    nothing (none, few, inl ended) = absurd (false≢true (sym unended ∙ ended))
    nothing (none, few, inr all) =
        let same : left ≡ n.got = subst (λ o. IfSome o (λ x. x ≡ n.got)) b all.whole in
        ap (λ l. old.ahead ++ l) same ∙ n.whole ∙ ap (λ l. l ++ new.ahead) n.tells.0 ∙ none

one-told : (o : Option (List ℕ)) (P : List ℕ → Type 0) → ((x : List ℕ) → o ≡ Some x → P x) → IfSome o P
one-told None P h = tt
one-told (Some x) P h = h x refl

both-told : (o p : Option (List ℕ)) (P : List ℕ → List ℕ → Type 0) → ((x y : List ℕ) → o ≡ Some x → p ≡ Some y → P x y) → IfSome o (λ x. IfSome p (P x))
both-told None p P h = tt
both-told (Some x) None P h = tt
both-told (Some x) (Some y) P h = h x y refl refl

-- what is given of a source that tells its bytes are its lines
pub gives-line : (answer : LineAnswer) (old new : Reading) (before after : SourceState) → NextLine answer old new before after → GivesLine answer old new before after
gives-line Line old new before after n =
    both-told before.left after.left (λ x y. lines (old.ahead ++ x) ≡ new.line ∷ lines (new.ahead ++ y))
    (λ x y b a. first-line Line old new before after x y new.line n b a n.tells.3 n.tells.0 n.tells.1)
gives-line TooLong old new before after n =
    both-told before.left after.left (λ x y. (line : List ℕ) × (1024 < length line) × (lines (old.ahead ++ x) ≡ line ∷ lines (new.ahead ++ y)))
    (λ x y b a. (n.tells.0, n.tells.3, first-line TooLong old new before after x y n.tells.0 n b a n.tells.4 n.tells.1 n.tells.2))
gives-line End old new before after n = λ unended. one-told before.left (λ x. lines (old.ahead ++ x) ≡ []) (λ x b. no-line old new before after x n b unended)
gives-line ReadFault old new before after n = tt
gives-line ByteLimit old new before after n = tt
