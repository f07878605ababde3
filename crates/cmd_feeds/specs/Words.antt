-- The words of a session over feeds.
use Rattle.std.specs.Prelude.{◌≡◌, ℕ, ◌+◌, ◌<◌, ◌≤◌, ◌^◌, drop, get_or, Bool, true, false, not, ◌==◌, List, [], ◌∷◌, Option, Some, None, map, length, codes, String, IsTrue, IfSome}
use Rattle.std.specs.List.{list_all}
use Rattle.std.specs.String.{string_bytes}
use Rattle.std.specs.declared.alloc.Global.{Global}
use Rattle.cmd_session.specs.Words.{IsRowLimit}
use Rattle.cmd_feeds.specs.FeedWord.{is_feed_word}
use Rattle.cmd_feeds.specs.declared.words.FeedWords.{FeedWords}
use Rattle.cmd_feeds.specs.declared.words.Options.{Options}
use Rattle.cmd_feeds.specs.declared.words.RowsOption.{RowsOption}
use Rattle.cmd_feeds.specs.declared.words.RowsOption.TheVariants as rows
use Rattle.cmd_feeds.specs.declared.words.ScriptOption.{ScriptOption}
use Rattle.cmd_feeds.specs.declared.words.ScriptOption.TheVariants as scripts

-- this word does not come first
abbrev pub ComesNotFirst : List ℕ → List (List ℕ) → Type 0
ComesNotFirst word texts = (others : List (List ℕ)) → texts ≡ word ∷ others → ⊥

-- the name of a script is not empty and does not begin with `-`
abbrev pub is_script_name : List ℕ → Bool
is_script_name [] = false
is_script_name (b ∷ text) = not (b == 45)

-- The words behind `feeds`: the options `--rows N` and `--script FILE`, each at most once and in any order, and then the names of feeds. The first
-- word that is no option, or one that came before, ends the options.
pub data AreOptions (texts : List (List ℕ)) (limit : ℕ) (script : Option (List ℕ)) (names : List (List ℕ)) : Type 0 where
  plain : texts ≡ names → ComesNotFirst (codes "--rows") names → ComesNotFirst (codes "--script") names → limit ≡ 2 ^ 40 → script ≡ None → AreOptions texts limit script names
  limited : (number : List ℕ) → texts ≡ codes "--rows" ∷ number ∷ names → IsRowLimit number limit → ComesNotFirst (codes "--script") names → script ≡ None → AreOptions texts limit script names
  scripted : (file : List ℕ) → texts ≡ codes "--script" ∷ file ∷ names → IsTrue (is_script_name file) → ComesNotFirst (codes "--rows") names → limit ≡ 2 ^ 40 → script ≡ Some file → AreOptions texts limit script names
  rows_first : (number file : List ℕ) → texts ≡ codes "--rows" ∷ number ∷ codes "--script" ∷ file ∷ names → IsRowLimit number limit → IsTrue (is_script_name file) → script ≡ Some file → AreOptions texts limit script names
  script_first : (number file : List ℕ) → texts ≡ codes "--script" ∷ file ∷ codes "--rows" ∷ number ∷ names → IsTrue (is_script_name file) → IsRowLimit number limit → script ≡ Some file → AreOptions texts limit script names

-- behind a script each word names a feed for rows alone; without one each is the name of a file
abbrev pub are_feed_words : Option (List ℕ) → List (List ℕ) → Bool
are_feed_words None names = true
are_feed_words (Some file) names = list_all is_feed_word names

-- how many sources there are: one for each feed, and one for the script
abbrev pub sources_with : {X : Type 0} → Option X → ℕ → ℕ
sources_with None count = count
sources_with (Some x) count = count + 1

abbrev pub sources_of : Option (List ℕ) → List (List ℕ) → ℕ
sources_of script names = sources_with script (length names)

-- The first words are the option `--rows` with its number, or the option with no such number, or they are no such option.
abbrev pub IsRowsOption : RowsOption → List (List ℕ) → Type 0
IsRowsOption rows.Absent texts = ComesNotFirst (codes "--rows") texts
IsRowsOption rows.Wrong texts = ((number : List ℕ) → (rest : List (List ℕ)) → (limit : ℕ) → texts ≡ codes "--rows" ∷ number ∷ rest → IsRowLimit number limit → ⊥) × (others : List (List ℕ)) × (texts ≡ codes "--rows" ∷ others)
IsRowsOption (rows.Given limit) texts = (number : List ℕ) × (texts ≡ codes "--rows" ∷ number ∷ drop 2 texts) × IsRowLimit number limit

-- The same of the option `--script` with its file.
abbrev pub IsScriptOption : ScriptOption → List (List ℕ) → Type 0
IsScriptOption scripts.Absent texts = ComesNotFirst (codes "--script") texts
IsScriptOption scripts.Wrong texts = ((file : List ℕ) → (rest : List (List ℕ)) → texts ≡ codes "--script" ∷ file ∷ rest → IsTrue (is_script_name file) → ⊥) × (others : List (List ℕ)) × (texts ≡ codes "--script" ∷ others)
IsScriptOption scripts.Given texts = (file : List ℕ) × (texts ≡ codes "--script" ∷ file ∷ drop 2 texts) × IsTrue (is_script_name file)

-- the word at a place, where there is one
abbrev pub word_at : List (List ℕ) → Option ℕ → Option (List ℕ)
word_at texts None = None
word_at texts (Some place) = Some (get_or texts place [])

-- the options among the words behind `feeds` were read, or there is no way to read them
abbrev pub IsRead : Option Options → List (List ℕ) → Type 0
IsRead None texts = (limit : ℕ) → (script : Option (List ℕ)) → (names : List (List ℕ)) → AreOptions texts limit script names → ⊥
IsRead (Some o) texts = AreOptions texts o.limit (word_at texts o.script) (drop o.first texts) × (o.first ≤ length texts) × (o.first ≤ 4) × IfSome o.script (λ place. place < 4) × (0 < o.limit) × (o.limit ≤ 2 ^ 40)

-- the place one further on
abbrev pub one_on : Option ℕ → Option ℕ
one_on None = None
one_on (Some place) = Some (place + 1)

-- the words for feeds behind the options: there are 2 to 8, and each may name one
pub record AreNames (script : Option (List ℕ)) (names : List (List ℕ)) : Type 0 where
  pub some : 2 ≤ length names
  pub few : length names ≤ 8
  pub fit : are_feed_words script names ≡ true

-- The words for feeds behind the options were read, or they are too few or too many, or one of them names no feed.
abbrev pub NamesRead : Option FeedWords → Options → List (List ℕ) → Type 0
NamesRead None o texts = AreNames (word_at texts o.script) (drop o.first texts) → ⊥
NamesRead (Some found) o texts =
    (found ≡ record { limit = o.limit; script = one_on o.script; first = o.first + 1; count = length (drop o.first texts) }) × AreNames (word_at texts o.script) (drop o.first texts)

-- the words behind `feeds` ask for a session over feeds
pub record AskBehind (texts : List (List ℕ)) (limit : ℕ) (script : Option (List ℕ)) (names : List (List ℕ)) : Type 0 where
  pub options : AreOptions texts limit script names
  pub are : AreNames script names

-- the words behind `feeds` were read, with places among all words, or they ask for no session over feeds
abbrev pub IsReadBehind : Option FeedWords → List (List ℕ) → Type 0
IsReadBehind None texts = (limit : ℕ) → (script : Option (List ℕ)) → (names : List (List ℕ)) → AskBehind texts limit script names → ⊥
IsReadBehind (Some found) texts =
    AskBehind texts found.limit (word_at (codes "feeds" ∷ texts) found.script) (drop found.first (codes "feeds" ∷ texts)) × (found.first + found.count ≡ length texts + 1) × (found.count ≤ 8) × (0 < found.limit) × (found.limit ≤ 2 ^ 40)

-- the words ask for a session over feeds of these names, behind this script, where there is one; it may take so many rows
pub record AreFeedNames (words : List (String Global)) (limit : ℕ) (script : Option (List ℕ)) (names : List (List ℕ)) : Type 0 where
  pub others : List (List ℕ)
  pub first : map string_bytes words ≡ codes "feeds" ∷ others
  pub ask : AskBehind others limit script names

-- so many sources belong to what was found
abbrev pub found_sources : FeedWords → ℕ
found_sources found = sources_with found.script found.count

-- the words ask for what was found: the script and the names are the words at its places
pub record AreFound (words : List (String Global)) (found : FeedWords) : Type 0 where
  pub are : AreFeedNames words found.limit (word_at (map string_bytes words) found.script) (drop found.first (map string_bytes words))
  pub count : found.first + found.count ≡ length words
  pub few : found.count ≤ 8
  pub some : 0 < found.limit
  pub rows : found.limit ≤ 2 ^ 40
