-- RESUME lines in their printed form are statements within the limits.
use Rattle.std.proofs.Common.{◌≡◌, ℕ, ◌<◌, ◌≤◌, Bool, true, false, cond, not, ◌&&◌, ◌||◌, nat_lt, ℤ, List, [], ◌∷◌, ◌++◌, map, flat_map, length, take, drop, codes, Some, None, refl, ap, sym, ◌∙◌, subst, arith, IsTrue, append_assoc, append-nil, if◌then◌else◌}
use Rattle.std.specs.Fmt.{signed_decimal}
use Rattle.std.specs.List.{list_any, AllByRecursion}
use Rattle.std.specs.Str.{bytes_eq}
use Rattle.std.proofs.lemmas.Slice.Eq.{bytes_eq-Decides}
use Rattle.std.proofs.lemmas.Bool.Decides.{nat_tests}
use Rattle.std.proofs.lemmas.List.{take-append-drop}
use Rattle.std.proofs.lemmas.List.Concat.{flat_map-append}
use Rattle.sql_text.specs.Name.{is_name}
use Rattle.sql_text.specs.Value.{fits_i64, integer, is_integer, value_of}
use Rattle.sql_parser.specs.declared.parsing.What.TheVariants as limits
use Rattle.sql_parser.specs.declared.tree.Statement.{Statement}
use Rattle.sql_parser.specs.declared.tree.Statement.TheVariants as statements
use Rattle.sql_parser.specs.Grammar.{number, statement_tokens}
use Rattle.sql_parser.specs.Limits.{is_long, is_wide, number_in, word_in}
use Rattle.sql_parser.proofs.Names.{name_facts}
use Rattle.sql_printer.specs.Printed.{printed_form}
use Rattle.sql_printer.specs.PrintedParts.{cell_text, content_text, each_behind, tuple_text, values_text}
use Rattle.sql_printer.proofs.PrintedText.{cell_printed, tuple_printed}
use Rattle.sql_printer.proofs.Spaced.{IsSound}
use Rattle.sql_printer.proofs.ReadBack.{printed_statement}
use Rattle.cmd_session.specs.ResumeLines.{AllFit, IsResumeText}
use Rattle.cmd_session.specs.declared.resume_line.ResumeLine.TheVariants as lines

-- a text is what stands before a place and what stands from there on
pub halves : (n : ℕ) (text front rest : List ℕ) → front ≡ take n text → rest ≡ drop n text → text ≡ front ++ rest
halves n text front rest f r = sym (take-append-drop n text) ∙ ap (λ xs. xs ++ drop n text) (sym f) ∙ ap (λ xs. front ++ xs) (sym r)

-- a text whose front is these bytes
pub begins : (n : ℕ) (text front head rest : List ℕ) → head ≡ take n text → rest ≡ drop n text → bytes_eq head front ≡ true → text ≡ front ++ rest
begins n text front head rest f r e = halves n text head rest f r ∙ ap (λ xs. xs ++ rest) ((bytes_eq-Decides head front).0 e)

fits_of : (a b : Bool) (z v : ℤ) → fits_i64 z ≡ b → cond (a && b) (Some z) None ≡ Some v → fits_i64 v ≡ true
fits_of true true z v e h = let same : z ≡ v = cc in ap fits_i64 (sym same) ∙ e
fits_of true false z v e h = cc
fits_of false b z v e h = cc

-- the value of a text has 64 bits
pub value_fits : (text : List ℕ) (v : ℤ) → value_of text ≡ Some v → fits_i64 v ≡ true
unfolding value_of
value_fits text v e = fits_of (is_integer text) (fits_i64 (integer text)) (integer text) v refl e

-- a word that is a name
pub record IsNameOf (word name : List ℕ) : Type 0 where
  pub known : IsTrue (is_name word)
  pub same : name ≡ word

name_by : (b : Bool) (word name : List ℕ) → is_name word ≡ b → cond b (Some word) None ≡ Some name → IsNameOf word name
name_by true word name e h = (let same : word ≡ name = cc in record { known = e; same = sym same })
name_by false word name e h = cc

pub name_of : (word name : List ℕ) → (if is_name word then Some word else None) ≡ Some name → IsNameOf word name
name_of word name h = name_by (is_name word) word name refl h

pub not_long : (w : List ℕ) → length w ≤ 24 → is_long w ≡ false
not_long w h = grind (arith, nat_tests)

name_not_long : (name : List ℕ) → IsTrue (is_name name) → (is_long name || false) ≡ false
name_not_long name own = ap (λ b. b || false) (not_long name (name_facts name own).short)

-- where the text is that of a name and of what stands behind it
resumed : (text word fields behind : List ℕ) → text ≡ codes "RESUME " ++ (word ++ fields) → fields ≡ behind → text ≡ (codes "RESUME " ++ word) ++ behind
resumed text word fields behind e f = e ∙ ap (λ bs. codes "RESUME " ++ (word ++ bs)) f ∙ sym (append_assoc (codes "RESUME ") word behind)

-- a cell
cell_is : (name : List ℕ) (index content : ℤ) → IsTrue (is_name name) → IsTrue (fits_i64 index) → IsTrue (fits_i64 content) → IsResumeText (printed_form (statements.ResumeCell name index content)) (lines.Cell name index content)
cell_is name index content own place fits =
    let s : Statement = statements.ResumeCell name index content in
    let sound : AllByRecursion IsSound (statement_tokens s) = (tt, (own, (tt, (place, (fits, tt))))) in
    record {
      is = printed_statement s tt sound;
      within = ap (λ b. cond b (Some limits.Name) (cond (not (fits_i64 index) || (not (fits_i64 content) || false)) (Some limits.Value) None)) (name_not_long name own)
          ∙ ap (λ b. cond (not b || (not (fits_i64 content) || false)) (Some limits.Value) None) place
          ∙ ap (λ b. cond (not b || false) (Some limits.Value) None) fits;
    }

pub cell_line : (text word fields name : List ℕ) (index content : ℤ) → text ≡ codes "RESUME " ++ (word ++ fields) → (if is_name word then Some word else None) ≡ Some name
    → fields ≡ content_text index content → IsTrue (fits_i64 index) → IsTrue (fits_i64 content) → IsResumeText text (lines.Cell name index content)
cell_line text word fields name index content e named f place fits =
    let n = name_of word name named in
    let own : IsTrue (is_name name) = subst (λ w. IsTrue (is_name w)) (sym n.same) n.known in
    let printed : text ≡ printed_form (statements.ResumeCell name index content) =
    resumed text word fields (content_text index content) e f ∙ ap (λ w. cell_text w index content) (sym n.same) ∙ cell_printed name index content in
    subst (λ bs. IsResumeText bs (lines.Cell name index content)) (sym printed) (cell_is name index content own place fits)

-- integers of 64 bits are sound tokens, and none is wide
pub numbers_sound : (zs : List ℤ) → AllFit zs → AllByRecursion IsSound (map number zs)
numbers_sound [] h = tt
numbers_sound (z ∷ zs) h = (h.0, numbers_sound zs h.1)

pub none_wide : (zs : List ℤ) → AllFit zs → list_any is_wide (flat_map number_in (map number zs)) ≡ false
none_wide [] h = refl
none_wide (z ∷ zs) h = ap (λ b. not b || list_any is_wide (flat_map number_in (map number zs))) h.0 ∙ none_wide zs h.1

-- behind the name stands no name
no_names : (zs : List ℤ) → list_any is_long (flat_map word_in (map number zs)) ≡ false
no_names [] = refl
no_names (z ∷ zs) = no_names zs

one_name : (name : List ℕ) (zs : List ℤ) → IsTrue (is_name name) → (is_long name || list_any is_long (flat_map word_in (map number zs))) ≡ false
one_name name zs own = ap (λ b. is_long name || b) (no_names zs) ∙ name_not_long name own

pub few : (most n : ℕ) → n ≤ most → nat_lt most n ≡ false
few most n h = grind (arith, nat_tests)

tuple_is : (name : List ℕ) (zs : List ℤ) → IsTrue (is_name name) → AllFit zs → 0 < length zs → length zs ≤ 8
    → IsResumeText (printed_form (statements.ResumeTuple name (record { items = zs }))) (lines.Tuple name (record { items = zs }))
tuple_is name zs own fit some most =
    let s : Statement = statements.ResumeTuple name (record { items = zs }) in
    let sound : AllByRecursion IsSound (statement_tokens s) = (tt, (own, (tt, numbers_sound zs fit))) in
    record {
      is = printed_statement s some sound;
      within = ap (λ b. cond b (Some limits.Name) (cond (list_any is_wide (flat_map number_in (map number zs))) (Some limits.Value) (cond (nat_lt 8 (length zs)) (Some limits.Tuple) None)))
          (one_name name zs own)
          ∙ ap (λ b. cond b (Some limits.Value) (cond (nat_lt 8 (length zs)) (Some limits.Tuple) None)) (none_wide zs fit)
          ∙ ap (λ b. cond b (Some limits.Tuple) None) (few 8 (length zs) most);
    }

pub tuple_line : (text word fields name : List ℕ) (zs : List ℤ) → text ≡ codes "RESUME " ++ (word ++ fields) → (if is_name word then Some word else None) ≡ Some name
    → fields ≡ values_text zs → AllFit zs → 0 < length zs → length zs ≤ 8 → IsResumeText text (lines.Tuple name (record { items = zs }))
tuple_line text word fields name zs e named f fit some most =
    let n = name_of word name named in
    let own : IsTrue (is_name name) = subst (λ w. IsTrue (is_name w)) (sym n.same) n.known in
    let printed : text ≡ printed_form (statements.ResumeTuple name (record { items = zs })) =
    resumed text word fields (values_text zs) e f ∙ ap (λ w. tuple_text w zs) (sym n.same) ∙ tuple_printed name zs in
    subst (λ bs. IsResumeText bs (lines.Tuple name (record { items = zs }))) (sym printed) (tuple_is name zs own fit some most)

-- one integer more, behind those so far
pub one_more : (text rest others : List ℕ) (zs : List ℤ) (z : ℤ) → text ≡ each_behind (codes " ") signed_decimal zs ++ rest → rest ≡ (codes " " ++ signed_decimal z) ++ others
    → text ≡ each_behind (codes " ") signed_decimal (zs ++ z ∷ []) ++ others
one_more text rest others zs z e r =
    let sep : List ℕ = codes " " ++ signed_decimal z in
    let front : List ℕ = each_behind (codes " ") signed_decimal zs in
    e ∙ ap (λ bs. front ++ bs) r ∙ sym (append_assoc front sep others)
    ∙ ap (λ bs. (front ++ bs) ++ others) (sym (append-nil sep))
    ∙ ap (λ bs. bs ++ others) (sym (flat_map-append (λ x. codes " " ++ signed_decimal x) zs (z ∷ [])))
