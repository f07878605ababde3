-- Names: what is known of one, and when one is kept.
use Rattle.std.proofs.Common.{◌≡◌, ℕ, ◌≤◌, Bool, true, false, cond, not, ◌&&◌, List, [], ◌∷◌, length, Option, Some, None, refl, ap, ◌∙◌, arith, nat_le, is_some}
use Rattle.std.proofs.lemmas.Bool.Decides.{nat_tests}
use Rattle.sql_text.specs.Word.{is_word}
use Rattle.sql_text.specs.Key.{key_of}
use Rattle.sql_text.specs.Name.{is_name}
use Rattle.sql_text.specs.declared.key.Key.{Key}
use Rattle.sql_parser.specs.DraftSteps.{kept}

pub record IsNameText (w : List ℕ) : Type 0 where
  pub word : is_word w ≡ true
  pub free : key_of w ≡ None
  pub short : length w ≤ 24

abbrev ThreeTrue : Bool → Bool → Bool → Type 0
ThreeTrue a b c = (a ≡ true) × (b ≡ true) × (c ≡ true)

three : (a b c : Bool) → (a && b && c) ≡ true → ThreeTrue a b c
three true true true h = (refl, refl, refl)
three true true false h = cc
three true false true h = cc
three true false false h = cc
three false true true h = cc
three false true false h = cc
three false false true h = cc
three false false false h = cc

no_key : (o : Option Key) → not (is_some o) ≡ true → o ≡ None
no_key None h = refl
no_key (Some k) h = cc

le_from : (m n : ℕ) → nat_le m n ≡ true → m ≤ n
le_from m n h = grind (arith, nat_tests)

le_test : (m n : ℕ) → m ≤ n → nat_le m n ≡ true
le_test m n h = grind (arith, nat_tests)

pub name_facts : (w : List ℕ) → is_name w ≡ true → IsNameText w
unfolding is_name
name_facts w h =
    let t = three (is_word w) (not (is_some (key_of w))) (nat_le (length w) 24) h in
    record { word = t.0; free = no_key (key_of w) t.1; short = le_from (length w) 24 t.2 }

pub name_by : (w : List ℕ) → IsNameText w → is_name w ≡ true
unfolding is_name
name_by w n =
    ap (λ t. t && not (is_some (key_of w)) && nat_le (length w) 24) n.word
    ∙ ap (λ (o : Option Key). true && not (is_some o) && nat_le (length w) 24) n.free
    ∙ le_test (length w) 24 n.short

-- a name is kept
pub kept_name : (w : List ℕ) → is_name w ≡ true → kept w ≡ w
kept_name w h = ap (λ t. cond t w (95 ∷ [])) h
