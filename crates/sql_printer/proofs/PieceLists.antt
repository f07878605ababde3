-- Lists of tokens by their first item and the others, as the code takes them.
use Rattle.std.proofs.Common.{◌≡◌, ℕ, ◌+◌, ◌-◌, ◌≤◌, Bool, nat_le, List, [], ◌∷◌, ◌++◌, length, map, get_or, take, drop, flat_map, refl, ap, sym, ◌∙◌, arith, append_assoc, append-nil}
use Rattle.std.proofs.lemmas.Bool.Decides.{nat_tests}
use Rattle.std.proofs.lemmas.List.{take_rest}
use Rattle.sql_text.specs.declared.key.Key.TheVariants.{WhereKey, AndKey}
use Rattle.sql_printer.specs.declared.pieces.Piece.{Piece}
use Rattle.sql_parser.specs.declared.tree.AtomAst.{AtomAst}
use Rattle.sql_parser.specs.Grammar.{Lexeme, key, separated, atom_tokens, where_tokens}
use Rattle.sql_printer.specs.Printed.{text_for, gap_by, spaced_by}
use Rattle.sql_printer.specs.Pieces.{said, behind_by}
use Rattle.sql_printer.proofs.PrintedText.{separated_first}

separated_cons : {X : Type 0} (sep : Lexeme) (f : X → List Lexeme) (xs : List X) (d : X) → 1 ≤ length xs → separated sep f xs ≡ f (get_or xs 0 d) ++ flat_map (λ y. sep ∷ f y) (drop 1 xs)
separated_cons sep f [] d h = absurd (omega arith)
separated_cons sep f (x ∷ xs) d h = separated_first sep f x xs

separated_rest : {X : Type 0} (sep : Lexeme) (f : X → List Lexeme) (xs : List X) (x : X) → 1 ≤ length xs → x ≡ get_or xs 0 x → separated sep f xs ≡ f x ++ flat_map (λ y. sep ∷ f y) (take (length xs - 1) (drop 1 xs))
separated_rest sep f xs x h is = rw take_rest (separated_cons sep f xs x h ∙ ap (λ y. f y ++ flat_map (λ y. sep ∷ f y) (drop 1 xs)) (sym is))

-- the first item and then the others are added
pub list_added : {X : Type 0} (sep : Lexeme) (f : X → List Lexeme) (xs : List X) (x : X) (a p n : List Lexeme) → 1 ≤ length xs → x ≡ get_or xs 0 x → p ≡ a ++ f x → n ≡ p ++ flat_map (λ y. sep ∷ f y) (take (length xs - 1) (drop 1 xs)) → n ≡ a ++ separated sep f xs
list_added sep f xs x a p n h is first others =
    let rest = flat_map (λ y. sep ∷ f y) (take (length xs - 1) (drop 1 xs)) in
    others ∙ ap (λ ls. ls ++ rest) first ∙ append_assoc a (f x) rest ∙ ap (λ ls. a ++ ls) (sym (separated_rest sep f xs x h is))

where_cons : (atoms : List AtomAst) → 1 ≤ length atoms → where_tokens atoms ≡ key WhereKey ∷ separated (key AndKey) atom_tokens atoms
where_cons [] h = absurd (omega arith)
where_cons (a ∷ atoms) h = refl

pub atoms_added : (atoms : List AtomAst) (x : AtomAst) (a w p n : List Lexeme) → 1 ≤ length atoms → x ≡ get_or atoms 0 x → w ≡ a ++ key WhereKey ∷ [] → p ≡ w ++ atom_tokens x → n ≡ p ++ flat_map (λ y. key AndKey ∷ atom_tokens y) (take (length atoms - 1) (drop 1 atoms)) → n ≡ a ++ where_tokens atoms
atoms_added atoms x a w p n h is lead first others =
    list_added (key AndKey) atom_tokens atoms x w p n h is first others
    ∙ ap (λ ls. ls ++ separated (key AndKey) atom_tokens atoms) lead
    ∙ append_assoc a (key WhereKey ∷ []) (separated (key AndKey) atom_tokens atoms)
    ∙ ap (λ ls. a ++ ls) (sym (where_cons atoms h))

module _ (close : Lexeme → Lexeme → Bool) where
  spaced_behind : (l : Lexeme) (ls : List Lexeme) → spaced_by close (l ∷ ls) ≡ text_for l ++ behind_by close l ls
  spaced_behind l [] = sym (append-nil (text_for l))
  spaced_behind l (m ∷ ls) =
      ap (λ bs. text_for l ++ (gap_by close l m ++ bs)) (spaced_behind m ls)
      ∙ ap (λ bs. text_for l ++ bs) (sym (append_assoc (gap_by close l m) (text_for m) (behind_by close m ls)))

  behind_cons : (l : Lexeme) (xs : List Piece) (d : Piece) → 1 ≤ length xs → behind_by close l (map said xs) ≡ (gap_by close l (said (get_or xs 0 d)) ++ text_for (said (get_or xs 0 d))) ++ behind_by close (said (get_or xs 0 d)) (map said (drop 1 xs))
  behind_cons l [] d h = absurd (omega arith)
  behind_cons l (x ∷ xs) d h = refl

  -- what stands behind a token, by the next one
  pub behind_rest : (l : Lexeme) (xs : List Piece) (x : Piece) → 1 ≤ length xs → x ≡ get_or xs 0 x → behind_by close l (map said xs) ≡ (gap_by close l (said x) ++ text_for (said x)) ++ behind_by close (said x) (map said (take (length xs - 1) (drop 1 xs)))
  behind_rest l xs x h is = rw take_rest (behind_cons l xs x h ∙ ap (λ y. (gap_by close l (said y) ++ text_for (said y)) ++ behind_by close (said y) (map said (drop 1 xs))) (sym is))

  spaced_cons : (xs : List Piece) (d : Piece) → 1 ≤ length xs → spaced_by close (map said xs) ≡ text_for (said (get_or xs 0 d)) ++ behind_by close (said (get_or xs 0 d)) (map said (drop 1 xs))
  spaced_cons [] d h = absurd (omega arith)
  spaced_cons (x ∷ xs) d h = spaced_behind (said x) (map said xs)

  -- tokens as text, by the first one
  pub spaced_rest : (xs : List Piece) (x : Piece) → 1 ≤ length xs → x ≡ get_or xs 0 x → spaced_by close (map said xs) ≡ text_for (said x) ++ behind_by close (said x) (map said (take (length xs - 1) (drop 1 xs)))
  spaced_rest xs x h is = rw take_rest (spaced_cons xs x h ∙ ap (λ y. text_for (said y) ++ behind_by close (said y) (map said (drop 1 xs))) (sym is))

-- a text fits where its front does and the rest fits in the room that is left
pub fits_more : (size rest whole room : ℕ) → whole ≡ size + rest → size ≤ room → nat_le rest (room - size) ≡ nat_le whole room
fits_more size rest whole room e h = grind (arith, nat_tests)
