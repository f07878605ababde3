-- The text of a fault: the number of its line and the word, the line, a mark below the place where there is one, and a sentence.
use Rattle.std.specs.Prelude.{ℕ, ◌+◌, ◌==◌, List, [], ◌∷◌, ◌++◌, length, map, take, if◌then◌else◌, nat_lt, decimal, codes, Option, Some, None}
use Rattle.sql_catalog.specs.Streams.{Shape}
use Rattle.sql_parser.specs.LineKind.{stripped}
use Rattle.sql_replies.specs.Texts.{word_text}
use Rattle.sql_replies.specs.declared.refusal.Refusal.{Refusal}
use Rattle.adv_diagnosis.specs.declared.fault.Fault.{Fault}
use Rattle.adv_diagnosis.specs.declared.fault.Fault.TheVariants as faults
use Rattle.adv_diagnosis.specs.FaultWords.{word_of}
use Rattle.adv_diagnosis.specs.Marks.{place_of}
use Rattle.adv_templates.specs.Template.{filled}
use Rattle.adv_sentences.specs.Sentences.{sentence_text}

-- the number of a line and the word, as `line 8: Syntax`
unfoldable pub head_text : ℕ → Refusal → List ℕ
head_text number word = filled (codes "line _: _\n") (decimal number ∷ word_text word ∷ [])

-- a text between two spaces and another text at the end of a line
abbrev pub enclosed : List ℕ → List ℕ → List ℕ
enclosed text end = filled (codes "  __\n") (text ∷ end ∷ [])

-- the first 200 bytes of a text
abbrev pub front_shown : List ℕ → List ℕ
front_shown text = take 200 text

-- what says that more bytes follow, where they do
abbrev pub more_text : List ℕ → List ℕ
more_text text = if nat_lt 200 (length text) then codes ".." else []

-- the line behind two spaces: its first 200 bytes, and `..` where there are more
unfoldable pub quoted_text : List ℕ → List ℕ
quoted_text text = enclosed (front_shown text) (more_text text)

-- a blank as wide as a byte: a tab for a tab, and else a space
abbrev pub blank_for : ℕ → ℕ
blank_for b = if b == 9 then 9 else 32

-- a mark below the place behind a front of the line
abbrev pub mark_line : List ℕ → List ℕ
mark_line front = enclosed (map blank_for front) (codes "^")

-- the mark below a place, where the place is shown
abbrev pub mark_text : List ℕ → Option ℕ → List ℕ
mark_text text None = []
mark_text text (Some at) = if nat_lt 200 at then [] else mark_line (take at text)

-- the line and the mark below a place
abbrev pub marked_text : List ℕ → Option ℕ → List ℕ
marked_text text place = quoted_text text ++ mark_text text place

-- the line and its mark; a line that is too long is not shown
unfoldable pub shown_text : List ℕ → Fault → List ℕ
shown_text text faults.LineTooLong = []
shown_text text fault = marked_text text (place_of text fault)

-- two spaces, and a place by its number from 1
abbrev pub byte_text : ℕ → List ℕ
byte_text at = filled (codes "  at byte _: ") (decimal (at + 1) ∷ [])

-- two spaces, and the place by its number from 1 where it is not shown
unfoldable pub place_text : Option ℕ → List ℕ
place_text None = codes "  "
place_text (Some at) = if nat_lt 200 at then byte_text at else codes "  "

-- the line, its mark, and a line with the place where it is not shown and the sentence
abbrev pub body_text : List ℕ → Fault → List Shape → List (List ℕ) → List ℕ
body_text text fault streams live =
    shown_text text fault ++ (place_text (place_of text fault) ++ (sentence_text text fault streams live ++ 10 ∷ []))

-- the text of a fault of a line with this number, over the streams and the names of the live queries
abbrev pub fault_text : ℕ → List ℕ → Fault → List Shape → List (List ℕ) → List ℕ
fault_text number line fault streams live = head_text number (word_of fault) ++ body_text (stripped line) fault streams live
