-- Texts without LF and `;`, and lines of them.
use Rattle.std.proofs.Common.{◌≡◌, ℕ, zero, suc, ◌<◌, ◌%◌, ◌/◌, ◌==◌, ℤ, pos, negsuc, Bool, true, false, cond, List, [], ◌∷◌, ◌++◌, length, length-append, append-nil, flat_map, refl, sym, ap₂, ◌∙◌, arith}
use Rattle.std.specs.List.{AllByRecursion, list_all}
use Rattle.std.specs.Fmt.{decimal, signed_decimal, digits, digits_onto, digit_glyph}
use Rattle.std.proofs.lemmas.Bool.Decides.{nat_tests}
use Rattle.std.proofs.lemmas.List.Concat.{flat_map-append}
use Rattle.sql_parser.proofs.Names.{name_facts}
use Rattle.sql_text.proofs.Fronts.{and_left, and_right, and_both, all_weaker}
use Rattle.sql_text.specs.Name.{is_name}
use Rattle.sql_text.specs.Word.{is_letter, is_word, is_word_byte}
use Rattle.law_each.specs.ComesApart.{is_inner, IsReplyLine, IsLines}

abbrev pub Inner : List ℕ → Type 0
Inner text = list_all is_inner text ≡ true

pub inner_joined : (a b : List ℕ) → Inner a → Inner b → Inner (a ++ b)
inner_joined [] b h k = k
inner_joined (x ∷ a) b h k =
    and_both (is_inner x) (list_all is_inner (a ++ b)) (and_left (is_inner x) (list_all is_inner a) h) (inner_joined a b (and_right (is_inner x) (list_all is_inner a) h) k)

pub inner_each : {X : Type 0} (f : X → List ℕ) (xs : List X) → ((x : X) → Inner (f x)) → Inner (flat_map f xs)
inner_each f [] h = refl
inner_each f (x ∷ xs) h = inner_joined (f x) (flat_map f xs) (h x) (inner_each f xs h)

-- words and names
word_byte : (b : ℕ) → is_word_byte b ≡ true → is_inner b ≡ true
word_byte b h = grind (arith, nat_tests)

letter_byte : (b : ℕ) → is_letter b ≡ true → is_word_byte b ≡ true
letter_byte b h = grind (arith, nat_tests)

word_inner : (w : List ℕ) → is_word w ≡ true → (0 < length w) × Inner w
word_inner [] h = absurd cc
word_inner (b ∷ bs) h = (
  omega arith,
  and_both (is_inner b) (list_all is_inner bs) (word_byte b (letter_byte b (and_left (is_letter b) (list_all is_word_byte bs) h)))
      (all_weaker is_word_byte is_inner word_byte bs (and_right (is_letter b) (list_all is_word_byte bs) h)),
)

pub name_inner : (w : List ℕ) → is_name w ≡ true → (0 < length w) × Inner w
name_inner w h = word_inner w (name_facts w h).word

-- numbers
glyph_inner : (d : ℕ) → d < 10 → is_inner (digit_glyph false d) ≡ true
glyph_inner d less = grind (arith, nat_tests)

onto_inner : (k n : ℕ) (acc : List ℕ) → Inner acc → Inner (digits_onto k 10 false n acc)
onto_inner zero n acc h = h
onto_inner (suc k) n acc h = by (n / 10 == 0) (onto_inner k (n / 10) (digit_glyph false (n % 10) ∷ acc) more)
  where
    more : Inner (digit_glyph false (n % 10) ∷ acc)
    more = and_both (is_inner (digit_glyph false (n % 10))) (list_all is_inner acc) (glyph_inner (n % 10) (omega arith)) h

    by : (b : Bool) → Inner (digits_onto k 10 false (n / 10) (digit_glyph false (n % 10) ∷ acc))
        → Inner (cond b (digit_glyph false (n % 10) ∷ acc) (digits_onto k 10 false (n / 10) (digit_glyph false (n % 10) ∷ acc)))
    by true rest = more
    by false rest = rest

pub decimal_inner : (n : ℕ) → Inner (decimal n)
unfolding digits
decimal_inner n = onto_inner 64 n [] refl

pub signed_inner : (z : ℤ) → Inner (signed_decimal z)
signed_inner (pos n) = decimal_inner n
signed_inner (negsuc n) = decimal_inner (suc n)

-- lines
pub reply_line : (text : List ℕ) → 0 < length text → Inner text → IsReplyLine text
reply_line [] some h = absurd (omega (arith, some))
reply_line (b ∷ bytes) some h = h

-- pieces that are joined from the left
abbrev pub front_joined : List ℕ → List (List ℕ) → List ℕ
front_joined front [] = front
front_joined front (piece ∷ pieces) = front_joined (front ++ piece) pieces

pub pieces_inner : (front : List ℕ) (pieces : List (List ℕ)) → Inner front → AllByRecursion Inner pieces → Inner (front_joined front pieces)
pieces_inner front [] h all = h
pieces_inner front (piece ∷ pieces) h all = pieces_inner (front ++ piece) pieces (inner_joined front piece h all.0) all.1

pieces_some : (front : List ℕ) (pieces : List (List ℕ)) → 0 < length front → 0 < length (front_joined front pieces)
pieces_some front [] some = some
pieces_some front (piece ∷ pieces) some = pieces_some (front ++ piece) pieces (omega (arith, some, length-append front piece))

pub no_lines : IsLines []
no_lines = record { parts = []; are = tt; whole = refl }

pub one_line : (line : List ℕ) → IsReplyLine line → IsLines (line ++ 10 ∷ [])
one_line line is = record { parts = line ∷ []; are = (is, tt); whole = sym (append-nil (line ++ 10 ∷ [])) }

pub all_both : {X : Type 0} (P : X → Type 0) (xs ys : List X) → AllByRecursion P xs → AllByRecursion P ys → AllByRecursion P (xs ++ ys)
all_both P [] ys h k = k
all_both P (x ∷ xs) ys h k = (h.0, all_both P xs ys h.1 k)

pub lines_joined : (a b : List ℕ) → IsLines a → IsLines b → IsLines (a ++ b)
lines_joined a b h k = record {
  parts = h.parts ++ k.parts;
  are = all_both IsReplyLine h.parts k.parts h.are k.are;
  whole = ap₂ (λ (x y : List ℕ). x ++ y) h.whole k.whole ∙ sym (flat_map-append (λ line. line ++ 10 ∷ []) h.parts k.parts);
}

pub lines_each : {X : Type 0} (P : X → Type 0) (f : X → List ℕ) → ((x : X) → P x → IsLines (f x)) → (xs : List X) → AllByRecursion P xs → IsLines (flat_map f xs)
lines_each P f g [] h = no_lines
lines_each P f g (x ∷ xs) h = lines_joined (f x) (flat_map f xs) (g x h.0) (lines_each P f g xs h.1)

pub lines_all : {X : Type 0} (f : X → List ℕ) → ((x : X) → IsLines (f x)) → (xs : List X) → IsLines (flat_map f xs)
lines_all f g [] = no_lines
lines_all f g (x ∷ xs) = lines_joined (f x) (flat_map f xs) (g x) (lines_all f g xs)

pub pieces_line : (front : List ℕ) (pieces : List (List ℕ)) → 0 < length front → Inner front → AllByRecursion Inner pieces → IsLines (front_joined front pieces ++ 10 ∷ [])
pieces_line front pieces some h all = one_line (front_joined front pieces) (reply_line (front_joined front pieces) (pieces_some front pieces some) (pieces_inner front pieces h all))
