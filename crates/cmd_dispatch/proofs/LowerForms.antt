-- Words that ask for a family.
use Rattle.std.proofs.Common.{◌≡◌, ℕ, ◌<◌, ◌≤◌, List, [], ◌∷◌, ◌++◌, length, get_or, sym, ap, ◌∙◌, subst, Some, None, arith, codes, MatchOption, IfSome, String}
use Rattle.std.specs.declared.alloc.Global.{Global}
use Rattle.std.specs.declared.option.Option.{Option}
use Rattle.std.proofs.lemmas.Fmt.{decimal_injective}
use Rattle.cmd_lower.specs.declared.form.Families.{Families}
use Rattle.cmd_lower.specs.declared.form.Families.TheVariants.{FirstTwo, All}
use Rattle.cmd_lower.specs.declared.form.LowerForm.{LowerForm}
use Rattle.cmd_dispatch.specs.LowerWords.{IsFamilySize, option_of, AreLowerTexts, AreLower}

pub three_words : {A : Type 0} (ws : List A) (u v w : A) → 3 ≤ length ws → length ws < 4 → u ≡ get_or ws 0 u → v ≡ get_or ws 1 v → w ≡ get_or ws 2 w → ws ≡ u ∷ v ∷ w ∷ []
three_words [] u v w a b e f g = absurd (omega arith)
three_words (p ∷ []) u v w a b e f g = absurd (omega arith)
three_words (p ∷ q ∷ []) u v w a b e f g = absurd (omega arith)
three_words (p ∷ q ∷ r ∷ []) u v w a b e f g = cc
three_words (p ∷ q ∷ r ∷ t ∷ ts) u v w a b e f g = absurd (omega arith)

-- what is asked for with a number of rows
abbrev pub Sized : List ℕ → Families → Option LowerForm → Type 0
Sized number families r = MatchOption r ((n : ℕ) → IsFamilySize number n → ⊥) (λ form. IsFamilySize number form.rows × (form.families ≡ families))

abbrev pub Asked : List (List ℕ) → Option LowerForm → Type 0
Asked texts r = MatchOption r ((form : LowerForm) → AreLowerTexts texts form → ⊥) (λ form. AreLowerTexts texts form)

-- the form is that of the words
pub family_words : (texts : List (List ℕ)) (number : List ℕ) (families : Families) (r : Option LowerForm) → texts ≡ codes "lower" ∷ (option_of families ++ number ∷ []) → Sized number families r → Asked texts r
family_words texts number families (Some form) e is = record { number = number; words = e ∙ ap (λ f. codes "lower" ∷ (option_of f ++ number ∷ [])) (sym is.1); size = is.0 }
family_words texts number families None e none = λ form are. none form.rows (subst (λ t. IsFamilySize t form.rows) (same families form.families are.number (sym e ∙ are.words)) are.size)
  where
    same : (f g : Families) (m : List ℕ) → codes "lower" ∷ (option_of f ++ number ∷ []) ≡ codes "lower" ∷ (option_of g ++ m ∷ []) → m ≡ number
    same FirstTwo FirstTwo m h = cc
    same All All m h = cc
    same FirstTwo All m h = absurd (let l = ap length h in omega (arith, l))
    same All FirstTwo m h = absurd (let l = ap length h in omega (arith, l))

-- the number of rows is one that a family may have
pub within_family_sizes : (words : List (String Global)) (r : Option LowerForm) → MatchOption r ((form : LowerForm) → AreLower words form → ⊥) (λ form. AreLower words form)
    → IfSome r (λ form. (0 < form.rows) × (form.rows ≤ 1000))
within_family_sizes words None h = tt
within_family_sizes words (Some form) h = (h.size.some, h.size.few)

abbrev formed : ℕ → Families → LowerForm
formed rows families = record { rows = rows; families = families }

-- words ask for one family at most
pub one_lower : (texts : List (List ℕ)) (f g : LowerForm) → AreLowerTexts texts f → AreLowerTexts texts g → f ≡ g
one_lower texts f g p q = by f.families g.families p.number q.number (sym p.words ∙ q.words) p.size q.size
  where
    by : (a b : Families) (m n : List ℕ) → codes "lower" ∷ (option_of a ++ m ∷ []) ≡ codes "lower" ∷ (option_of b ++ n ∷ []) → IsFamilySize m f.rows → IsFamilySize n g.rows
        → formed f.rows a ≡ formed g.rows b
    by FirstTwo FirstTwo m n e p q = let same : m ≡ n = cc in ap (λ r. formed r FirstTwo) (decimal_injective f.rows g.rows (omega (arith, p.few)) (omega (arith, q.few)) (sym p.digits ∙ same ∙ q.digits))
    by All All m n e p q = let same : m ≡ n = cc in ap (λ r. formed r All) (decimal_injective f.rows g.rows (omega (arith, p.few)) (omega (arith, q.few)) (sym p.digits ∙ same ∙ q.digits))
    by FirstTwo All m n e p q = absurd (let l = ap length e in omega (arith, l))
    by All FirstTwo m n e p q = absurd (let l = ap length e in omega (arith, l))
