-- Words of a session over feeds.
use Rattle.std.proofs.Common.{◌≡◌, ℕ, zero, suc, ◌+◌, ◌-◌, ◌<◌, ◌≤◌, List, [], ◌∷◌, length, drop, take, map, get_or, slice_index_or, codes, String, refl, sym, ap, ◌∙◌, subst, arith, None, Some, IsTrue, Bool, true, false, MatchBool, MatchOption}
use Rattle.std.specs.Str.{bytes_eq}
use Rattle.std.specs.String.{string_bytes}
use Rattle.std.proofs.lemmas.Slice.Eq.{bytes_eq-Decides}
use Rattle.std.proofs.lemmas.Bool.{false≢true}
use Rattle.std.specs.declared.alloc.Global.{Global}
use Rattle.std.specs.declared.option.Option.{Option}
use Rattle.cmd_session.specs.Words.{IsRowLimit}
use Rattle.cmd_feeds.specs.declared.words.FeedWords.{FeedWords}
use Rattle.cmd_feeds.specs.declared.words.Options.{Options}
use Rattle.cmd_feeds.specs.Words.{IsRead, NamesRead, IsReadBehind, one_on, AreFound, AreOptions, plain, limited, scripted, rows_first, script_first, is_script_name, word_at, AreNames, AskBehind, AreFeedNames}

-- options are read in one way: the same script and the same names
pub record SameOptions (script other : Option (List ℕ)) (names others : List (List ℕ)) : Type 0 where
  pub scripts : script ≡ other
  pub rest : names ≡ others

-- the words begin with the one option, and with the other
two-options : (texts a b : List (List ℕ)) → texts ≡ codes "--rows" ∷ a → texts ≡ codes "--script" ∷ b → ⊥
two-options texts a b e f = let both : codes "--rows" ∷ a ≡ codes "--script" ∷ b = sym e ∙ f in cc

pub second : (texts : List (List ℕ)) (w a b : List ℕ) (xs ys : List (List ℕ)) → texts ≡ w ∷ a ∷ xs → texts ≡ w ∷ b ∷ ys → (a ≡ b) × (xs ≡ ys)
second texts w a b xs ys e f = let both : w ∷ a ∷ xs ≡ w ∷ b ∷ ys = sym e ∙ f in (cc, cc)

pub one-options : (texts : List (List ℕ)) (limit limit' : ℕ) (script script' : Option (List ℕ)) (names names' : List (List ℕ)) → AreOptions texts limit script names → AreOptions texts limit' script' names' → SameOptions script script' names names'
one-options texts limit limit' script script' names names' (plain e r s l n) (plain e' r' s' l' n') = record { scripts = n ∙ sym n'; rest = sym e ∙ e' }
one-options texts limit limit' script script' names names' (plain e r s l n) (limited number' e' is' s' n') = absurd (r (number' ∷ names') (sym e ∙ e'))
one-options texts limit limit' script script' names names' (plain e r s l n) (scripted file' e' is' r' l' n') = absurd (s (file' ∷ names') (sym e ∙ e'))
one-options texts limit limit' script script' names names' (plain e r s l n) (rows_first number' file' e' is' t' n') = absurd (r (number' ∷ codes "--script" ∷ file' ∷ names') (sym e ∙ e'))
one-options texts limit limit' script script' names names' (plain e r s l n) (script_first number' file' e' t' is' n') = absurd (s (file' ∷ codes "--rows" ∷ number' ∷ names') (sym e ∙ e'))
one-options texts limit limit' script script' names names' (limited number e is s n) (plain e' r' s' l' n') = absurd (r' (number ∷ names) (sym e' ∙ e))
one-options texts limit limit' script script' names names' (limited number e is s n) (limited number' e' is' s' n') = record { scripts = n ∙ sym n'; rest = (second texts (codes "--rows") number number' names names' e e').1 }
one-options texts limit limit' script script' names names' (limited number e is s n) (scripted file' e' is' r' l' n') = absurd (two-options texts _ _ e e')
one-options texts limit limit' script script' names names' (limited number e is s n) (rows_first number' file' e' is' t' n') =
    absurd (s (file' ∷ names') (second texts (codes "--rows") number number' names (codes "--script" ∷ file' ∷ names') e e').1)
one-options texts limit limit' script script' names names' (limited number e is s n) (script_first number' file' e' t' is' n') = absurd (two-options texts _ _ e e')
one-options texts limit limit' script script' names names' (scripted file e is r l n) (plain e' r' s' l' n') = absurd (s' (file ∷ names) (sym e' ∙ e))
one-options texts limit limit' script script' names names' (scripted file e is r l n) (limited number' e' is' s' n') = absurd (two-options texts _ _ e' e)
one-options texts limit limit' script script' names names' (scripted file e is r l n) (scripted file' e' is' r' l' n') =
    let same = second texts (codes "--script") file file' names names' e e' in
    record { scripts = n ∙ ap Some same.0 ∙ sym n'; rest = same.1 }
one-options texts limit limit' script script' names names' (scripted file e is r l n) (rows_first number' file' e' is' t' n') = absurd (two-options texts _ _ e' e)
one-options texts limit limit' script script' names names' (scripted file e is r l n) (script_first number' file' e' t' is' n') =
    absurd (r (number' ∷ names') (second texts (codes "--script") file file' names (codes "--rows" ∷ number' ∷ names') e e').1)
one-options texts limit limit' script script' names names' (rows_first number file e is t n) (plain e' r' s' l' n') = absurd (r' (number ∷ codes "--script" ∷ file ∷ names) (sym e' ∙ e))
one-options texts limit limit' script script' names names' (rows_first number file e is t n) (limited number' e' is' s' n') =
    absurd (s' (file ∷ names) (second texts (codes "--rows") number' number names' (codes "--script" ∷ file ∷ names) e' e).1)
one-options texts limit limit' script script' names names' (rows_first number file e is t n) (scripted file' e' is' r' l' n') = absurd (two-options texts _ _ e e')
one-options texts limit limit' script script' names names' (rows_first number file e is t n) (rows_first number' file' e' is' t' n') =
    let rest = second texts (codes "--rows") number number' (codes "--script" ∷ file ∷ names) (codes "--script" ∷ file' ∷ names') e e' in
    let same = second (codes "--script" ∷ file ∷ names) (codes "--script") file file' names names' refl rest.1 in
    record { scripts = n ∙ ap Some same.0 ∙ sym n'; rest = same.1 }
one-options texts limit limit' script script' names names' (rows_first number file e is t n) (script_first number' file' e' t' is' n') = absurd (two-options texts _ _ e e')
one-options texts limit limit' script script' names names' (script_first number file e t is n) (plain e' r' s' l' n') = absurd (s' (file ∷ codes "--rows" ∷ number ∷ names) (sym e' ∙ e))
one-options texts limit limit' script script' names names' (script_first number file e t is n) (limited number' e' is' s' n') = absurd (two-options texts _ _ e' e)
one-options texts limit limit' script script' names names' (script_first number file e t is n) (scripted file' e' is' r' l' n') =
    absurd (r' (number ∷ names) (second texts (codes "--script") file' file names' (codes "--rows" ∷ number ∷ names) e' e).1)
one-options texts limit limit' script script' names names' (script_first number file e t is n) (rows_first number' file' e' is' t' n') = absurd (two-options texts _ _ e' e)
one-options texts limit limit' script script' names names' (script_first number file e t is n) (script_first number' file' e' t' is' n') =
    let rest = second texts (codes "--script") file file' (codes "--rows" ∷ number ∷ names) (codes "--rows" ∷ number' ∷ names') e e' in
    record { scripts = n ∙ ap Some rest.0 ∙ sym n'; rest = (second (codes "--rows" ∷ number ∷ names) (codes "--rows") number number' names names' refl rest.1).1 }

abbrev pub Refused : List (List ℕ) → Type 0
Refused texts = (limit : ℕ) → (script : Option (List ℕ)) → (names : List (List ℕ)) → AreOptions texts limit script names → ⊥

-- the texts of words

pub length-map : (words : List (String Global)) → length (map string_bytes words) ≡ length words
length-map [] = refl
length-map (w ∷ words) = ap suc (length-map words)

pub head-word : (words : List (String Global)) (o : String Global) (w : List ℕ) → 1 ≤ length words → o ≡ slice_index_or words 0 o → string_bytes o ≡ w → map string_bytes words ≡ w ∷ map string_bytes (drop 1 words)
head-word [] o w l e f = absurd (omega (arith, l))
head-word (x ∷ words) o w l e f = ap (λ (u : List ℕ). u ∷ map string_bytes words) (sym (ap string_bytes e) ∙ f)

pub one-word : (words : List (String Global)) (w number : List ℕ) (rest : List (List ℕ)) → length words < 2 → map string_bytes words ≡ w ∷ number ∷ rest → ⊥
one-word words w number rest l e = omega (arith, l, length-map words, ap (length {A = List ℕ}) e)

pub two-words : (words : List (String Global)) (o n : String Global) (w : List ℕ) → 2 ≤ length words → o ≡ slice_index_or words 0 o → n ≡ slice_index_or words 1 n → string_bytes o ≡ w
    → map string_bytes words ≡ w ∷ string_bytes n ∷ drop 2 (map string_bytes words)
two-words [] o n w l e d f = absurd (omega (arith, l))
two-words (x ∷ []) o n w l e d f = absurd (omega (arith, l))
two-words (x ∷ y ∷ words) o n w l e d f =
    ap (λ (u : List ℕ). u ∷ string_bytes y ∷ map string_bytes words) (sym (ap string_bytes e) ∙ f) ∙ ap (λ (u : List ℕ). w ∷ u ∷ map string_bytes words) (ap string_bytes (sym d))

take-at : (n : ℕ) (words : List (String Global)) → n ≡ length words → take n words ≡ words
take-at zero [] e = refl
take-at zero (x ∷ words) e = absurd (omega (arith, e))
take-at (suc n) [] e = absurd (omega (arith, e))
take-at (suc n) (x ∷ words) e = ap (λ l. x ∷ l) (take-at n words (omega (arith, e)))

pub behind-two : (words : List (String Global)) → map string_bytes (take (length words - 2) (drop 2 words)) ≡ drop 2 (map string_bytes words)
behind-two [] = refl
behind-two (x ∷ []) = ap (map string_bytes) (take-at (length (x ∷ []) - 2) [] (omega arith))
behind-two (x ∷ y ∷ words) = ap (map string_bytes) (take-at (length (x ∷ y ∷ words) - 2) words (omega arith))

-- the first two of some texts
pub record Two (texts : List (List ℕ)) (b : List ℕ) : Type 0 where
  pub first : slice_index_or texts 1 [] ≡ b
  pub long : 2 ≤ length texts

pub two : (texts : List (List ℕ)) (a b : List ℕ) → texts ≡ a ∷ b ∷ drop 2 texts → Two texts b
two [] a b e = absurd (omega (arith, ap (length {A = List ℕ}) e))
two (x ∷ []) a b e = absurd (omega (arith, ap (length {A = List ℕ}) e))
two (x ∷ y ∷ texts) a b e = record { first = cc; long = omega arith }

-- the first four
pub record Four (texts : List (List ℕ)) (a b c d : List ℕ) : Type 0 where
  pub whole : texts ≡ a ∷ b ∷ c ∷ d ∷ drop 4 texts
  pub first : slice_index_or texts 1 [] ≡ b
  pub third : slice_index_or texts 3 [] ≡ d
  pub long : 4 ≤ length texts

pub four : (texts : List (List ℕ)) (a b c d : List ℕ) → texts ≡ a ∷ b ∷ drop 2 texts → drop 2 texts ≡ c ∷ d ∷ drop 2 (drop 2 texts) → Four texts a b c d
four [] a b c d e f = absurd (omega (arith, ap (length {A = List ℕ}) e))
four (x ∷ []) a b c d e f = absurd (omega (arith, ap (length {A = List ℕ}) e))
four (x ∷ y ∷ []) a b c d e f = absurd (omega (arith, ap (length {A = List ℕ}) f))
four (x ∷ y ∷ z ∷ []) a b c d e f = absurd (omega (arith, ap (length {A = List ℕ}) f))
four (x ∷ y ∷ z ∷ w ∷ texts) a b c d e f = record { whole = cc; first = cc; third = cc; long = omega arith }

-- whether the first word is `feeds`
pub asks : (r : Bool) (texts rest : List (List ℕ)) (o w : List ℕ) → r ≡ bytes_eq o w → texts ≡ o ∷ rest → MatchBool r ((others : List (List ℕ)) × (texts ≡ w ∷ others)) ((others : List (List ℕ)) → texts ≡ w ∷ others → ⊥)
asks true texts rest o w h e = (rest, e ∙ ap (λ (u : List ℕ). u ∷ rest) ((bytes_eq-Decides o w).0 (sym h)))
asks false texts rest o w h e = λ others f.
    let both : o ∷ rest ≡ w ∷ others = sym e ∙ f in
    let same : o ≡ w = cc in
    false≢true (h ∙ (bytes_eq-Decides o w).1 same)

length-drop : (n : ℕ) (xs : List (List ℕ)) → n ≤ length xs → n + length (drop n xs) ≡ length xs
length-drop zero xs l = omega arith
length-drop (suc n) [] l = absurd (omega (arith, l))
length-drop (suc n) (x ∷ xs) l = let r = length-drop n xs (omega (arith, l)) in omega (arith, r)

word-on : (w : List ℕ) (texts : List (List ℕ)) (place : Option ℕ) → word_at (w ∷ texts) (one_on place) ≡ word_at texts place
word-on w texts None = refl
word-on w texts (Some p) = ap (λ (n : ℕ). Some (get_or (w ∷ texts) n [])) (let z : p + 1 ≡ suc p = omega arith in z)

drop-on : (w : List ℕ) (texts : List (List ℕ)) (n : ℕ) → drop (n + 1) (w ∷ texts) ≡ drop n texts
drop-on w texts n = ap (λ (k : ℕ). drop k (w ∷ texts)) (let z : n + 1 ≡ suc n = omega arith in z)

-- the words behind `feeds` were read
pub read-behind : (texts : List (List ℕ)) (o : Options) (r : Option FeedWords) → IsRead (Some o) texts → NamesRead r o texts → IsReadBehind r texts
read-behind texts o None read none = λ limit script names ask.
    let same = one-options texts o.limit limit (word_at texts o.script) script (drop o.first texts) names read.0 ask.options in
    none (subst (λ (s : Option (List ℕ)). AreNames s (drop o.first texts)) (sym same.scripts) (subst (λ (ns : List (List ℕ)). AreNames script ns) (sym same.rest) ask.are))
read-behind texts o (Some found) read names =
    let ask : AskBehind texts o.limit (word_at texts o.script) (drop o.first texts) = record { options = read.0; are = names.1 } in
    let size = length-drop o.first texts read.1 in
    subst (λ (f : FeedWords). IsReadBehind (Some f) texts) (sym names.0) (
      subst (λ (s : Option (List ℕ)). AskBehind texts o.limit s (drop (o.first + 1) (codes "feeds" ∷ texts))) (sym (word-on (codes "feeds") texts o.script))
          (subst (λ (ns : List (List ℕ)). AskBehind texts o.limit (word_at texts o.script) ns) (sym (drop-on (codes "feeds") texts o.first)) ask),
      omega (arith, size),
      names.1.few,
      read.4,
      read.5,
    )

drop-one : (words : List (String Global)) (w : List ℕ) (others : List (List ℕ)) → map string_bytes words ≡ w ∷ others → map string_bytes (drop 1 words) ≡ others
drop-one [] w others e = absurd (omega (arith, ap (length {A = List ℕ}) e))
drop-one (x ∷ words) w others e = cc

-- and so were all words
pub feeds-of : (words behind : List (String Global)) (r : Option FeedWords) (others : List (List ℕ)) → map string_bytes words ≡ codes "feeds" ∷ others → behind ≡ drop 1 words → IsReadBehind r (map string_bytes behind)
    → MatchOption r ((limit : ℕ) → (script : Option (List ℕ)) → (names : List (List ℕ)) → AreFeedNames words limit script names → ⊥) (AreFound words)
feeds-of words behind None others e b h = λ limit script names are.
    let both : codes "feeds" ∷ others ≡ codes "feeds" ∷ are.others = sym e ∙ are.first in
    let same : others ≡ are.others = cc in
    h limit script names (subst (λ (t : List (List ℕ)). AskBehind t limit script names) (sym (ap (map string_bytes) b ∙ drop-one words (codes "feeds") others e ∙ same)) are.ask)
feeds-of words behind (Some found) others e b h =
    let rest : map string_bytes behind ≡ others = ap (map string_bytes) b ∙ drop-one words (codes "feeds") others e in
    let k = subst (λ (t : List (List ℕ)). IsReadBehind (Some found) t) rest h in
    record {
      are = record {
        others = others;
        first = e;
        ask = subst (λ (t : List (List ℕ)). AskBehind others found.limit (word_at t found.script) (drop found.first t)) (sym e) k.0;
      };
      count = k.1 ∙ (let size = ap (length {A = List ℕ}) e in let z : length others + 1 ≡ length words = omega (arith, size, length-map words) in z);
      few = k.2;
      some = k.3;
      rows = k.4;
    }

-- Booleans that are true
pub istrue : (b : Bool) → b ≡ true → IsTrue b
istrue b e = e

pub never : (b : Bool) → b ≡ false → IsTrue b → ⊥
never b e h = false≢true (sym e ∙ h)

-- what stands behind the first words
pub rest-of : (n : ℕ) (words : List (String Global)) → n ≤ length words → take (length words - n) (drop n words) ≡ drop n words
rest-of n words l = take-at (length words - n) (drop n words) (let r = size-drop n words l in omega (arith, r))
  where
    size-drop : (n : ℕ) (ws : List (String Global)) → n ≤ length ws → n + length (drop n ws) ≡ length ws
    size-drop zero ws l = omega arith
    size-drop (suc n) [] l = absurd (omega (arith, l))
    size-drop (suc n) (x ∷ ws) l = let r = size-drop n ws (omega (arith, l)) in omega (arith, r)

pub map-drop : (n : ℕ) (words : List (String Global)) → map string_bytes (drop n words) ≡ drop n (map string_bytes words)
map-drop zero words = refl
map-drop (suc n) [] = refl
map-drop (suc n) (x ∷ words) = map-drop n words

pub size-names : (n count : ℕ) (words : List (String Global)) → n + count ≡ length words → length (drop n (map string_bytes words)) ≡ count
size-names n count words e = let r = length-drop n (map string_bytes words) (omega (arith, e, length-map words)) in omega (arith, r, e, length-map words)
