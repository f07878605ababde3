-- Words by what they begin with.
use Rattle.std.proofs.Common.{◌≡◌, ℕ, ◌-◌, ◌<◌, ◌≤◌, ◌^◌, Bool, true, false, List, [], ◌∷◌, length, take, drop, get_or, sym, refl, ap, ◌∙◌, subst, Some, None, arith, codes, MatchOption, IfSome, map, decimal, String}
use Rattle.std.specs.declared.alloc.Global.{Global}
use Rattle.std.specs.declared.option.Option.{Option}
use Rattle.std.proofs.lemmas.List.{take_rest}
use Rattle.std.proofs.lemmas.Fmt.{decimal_injective}
use Rattle.cmd_dispatch.specs.Words.{IsFileName, IsSize, AreLast, AreOptions, AreRunTexts, AreRun, rows_or_most, nothing, named, limited, by_line, over}
use Rattle.cmd_dispatch.specs.FrontWords.{StartsWithLimit}
use Rattle.cmd_session.specs.Words.{IsRowLimit}
use Rattle.cmd_dispatch.specs.declared.words.RunForm.{RunForm}

-- a text is the shortest form of one number
pub one_size : (most : ℕ) (text : List ℕ) (number n : ℕ) → most < 2 ^ 64 → number < 2 ^ 64 → text ≡ decimal number → IsSize most text n → number ≡ n
one_size most text number n bound small e is = decimal_injective number n small (omega (arith, bound, is.few)) (sym e ∙ is.digits)

pub one_word : {A : Type 0} (ws : List A) (w : A) → 1 ≤ length ws → length ws < 2 → w ≡ get_or ws 0 w → ws ≡ w ∷ []
one_word [] w a b e = absurd (omega arith)
one_word (x ∷ []) w a b e = ap (λ y. y ∷ []) (sym e)
one_word (x ∷ y ∷ ys) w a b e = absurd (omega arith)

-- some words are the first and those behind it
pub first_word : {A : Type 0} (ws : List A) (w : A) → 1 ≤ length ws → w ≡ get_or ws 0 w → ws ≡ w ∷ take (length ws - 1) (drop 1 ws)
first_word [] w a e = absurd (omega arith)
first_word (x ∷ xs) w a e = ap (λ y. y ∷ xs) (sym e) ∙ ap (λ ys. w ∷ ys) (sym (take_rest (x ∷ xs) 1))

-- the texts behind the first one
pub texts_behind : {A B : Type 0} (f : A → B) (ws : List A) (b : B) (others : List B) → map f ws ≡ b ∷ others → map f (take (length ws - 1) (drop 1 ws)) ≡ others
texts_behind f [] b others e = let bad : [] ≡ b ∷ others = e in cc
texts_behind f (x ∷ xs) b others e = let both : f x ∷ map f xs ≡ b ∷ others = e in let tails : map f xs ≡ others = cc in ap (map f) (take_rest (x ∷ xs) 1) ∙ tails

-- a text that begins with `-` is no name of a file
pub dash : (texts : List (List ℕ)) (tail : List ℕ) (others : List (List ℕ)) (file : Bool) → texts ≡ (45 ∷ tail) ∷ others → AreLast texts file → ⊥
dash texts tail others file e (nothing f g) = let bad : (45 ∷ tail) ∷ others ≡ [] = sym e ∙ f in cc
dash texts tail others file e (named name f is g) =
    let both : (45 ∷ tail) ∷ others ≡ name ∷ [] = sym e ∙ f in
    let same : name ≡ 45 ∷ tail = cc in
    let not : IsFileName (45 ∷ tail) = subst IsFileName same is in
    not refl

pub rows_or_each : (others more : List (List ℕ)) → codes "--rows" ∷ others ≡ codes "--each" ∷ more → ⊥
rows_or_each others more e = let same : codes "--rows" ≡ codes "--each" = cc in absurd (omega (arith, ap (λ l. get_or l 2 0) same))

-- one number of rows has one shortest form
pub one_limit : (text other : List ℕ) (m n : ℕ) → text ≡ other → IsRowLimit text m → IsRowLimit other n → m ≡ n
one_limit text other m n e p q = decimal_injective m n (omega (arith, p.few)) (omega (arith, q.few)) (sym p.digits ∙ e ∙ q.digits)

-- `--each` came first, and then what the others ask for
pub then_each : (texts others : List (List ℕ)) (limit : Option ℕ) (each : Bool) (r : Option RunForm) → texts ≡ codes "--each" ∷ others → each ≡ false
    → MatchOption r ((form : RunForm) → AreOptions others limit true form → ⊥) (λ form. AreOptions others limit true form)
    → MatchOption r ((form : RunForm) → AreOptions texts limit each form → ⊥) (λ form. AreOptions texts limit each form)
then_each texts others limit each None e isnt none = refuted
  where
    refuted : (form : RunForm) → AreOptions texts limit each form → ⊥
    refuted form (limited number rest n f l is p) = rows_or_each (number ∷ rest) others (sym f ∙ e)
    refuted form (by_line rest f not p) =
        let both : codes "--each" ∷ rest ≡ codes "--each" ∷ others = sym f ∙ e in
        let same : rest ≡ others = cc in
        none form (subst (λ ts. AreOptions ts limit true form) same p)
    refuted form (over last l f) = dash texts (codes "-each") others form.file e last
then_each texts others limit each (Some form) e isnt are = by_line others e isnt are

-- no number stands behind `--rows`
pub no_limit : (texts others : List (List ℕ)) (limit : Option ℕ) (each : Bool) (form : RunForm) → texts ≡ codes "--rows" ∷ others → ((n : ℕ) → StartsWithLimit others n → ⊥) → AreOptions texts limit each form → ⊥
no_limit texts others limit each form e none (limited number rest n f l is p) =
    let both : codes "--rows" ∷ others ≡ codes "--rows" ∷ number ∷ rest = sym e ∙ f in
    none n (record { number = number; others = rest; words = cc; is = is })
no_limit texts others limit each form e none (by_line rest f isnt p) = rows_or_each others rest (sym e ∙ f)
no_limit texts others limit each form e none (over last l f) = dash texts (codes "-rows") others form.file e last

-- `--rows N` came first, and then what the others ask for
pub then_rows : (texts others behind : List (List ℕ)) (most : ℕ) (limit : Option ℕ) (each : Bool) (r : Option RunForm) → texts ≡ codes "--rows" ∷ others → limit ≡ None
    → (starts : StartsWithLimit others most) → behind ≡ starts.others
    → MatchOption r ((form : RunForm) → AreOptions behind (Some most) each form → ⊥) (λ form. AreOptions behind (Some most) each form)
    → MatchOption r ((form : RunForm) → AreOptions texts limit each form → ⊥) (λ form. AreOptions texts limit each form)
then_rows texts others behind most limit each None e isnt starts b none = refuted
  where
    refuted : (form : RunForm) → AreOptions texts limit each form → ⊥
    refuted form (limited number rest n f l is p) =
        let both : codes "--rows" ∷ number ∷ rest ≡ codes "--rows" ∷ starts.number ∷ starts.others = sym f ∙ e ∙ ap (λ ts. codes "--rows" ∷ ts) starts.words in
        let numbers : number ≡ starts.number = cc in
        let tails : rest ≡ starts.others = cc in
        let same : n ≡ most = one_limit number starts.number n most numbers is starts.is in
        none form (subst (λ ts. AreOptions ts (Some most) each form) (tails ∙ sym b) (subst (λ m. AreOptions rest (Some m) each form) same p))
    refuted form (by_line rest f not p) = rows_or_each others rest (sym e ∙ f)
    refuted form (over last l f) = dash texts (codes "-rows") others form.file e last
then_rows texts others behind most limit each (Some form) e isnt starts b are =
    limited starts.number starts.others most (e ∙ ap (λ ts. codes "--rows" ∷ ts) starts.words) isnt starts.is (subst (λ ts. AreOptions ts (Some most) each form) b are)

-- no option comes first, and the words are no last ones
pub no_option : (texts : List (List ℕ)) (limit : Option ℕ) (each : Bool) (form : RunForm) → ((others : List (List ℕ)) → texts ≡ codes "--each" ∷ others → ⊥) → ((others : List (List ℕ)) → texts ≡ codes "--rows" ∷ others → ⊥)
    → ((file : Bool) → AreLast texts file → ⊥) → AreOptions texts limit each form → ⊥
no_option texts limit each form no_each no_rows none (limited number rest n f l is p) = no_rows (number ∷ rest) f
no_option texts limit each form no_each no_rows none (by_line rest f not p) = no_each rest f
no_option texts limit each form no_each no_rows none (over last l f) = none form.file last

-- the words are `run` and others, which are options
pub run_words : (texts others : List (List ℕ)) (r : Option RunForm) → texts ≡ codes "run" ∷ others
    → MatchOption r ((form : RunForm) → AreOptions others None false form → ⊥) (λ form. AreOptions others None false form)
    → MatchOption r ((form : RunForm) → AreRunTexts texts form → ⊥) (λ form. AreRunTexts texts form)
run_words texts others None e none = refuted
  where
    refuted : (form : RunForm) → AreRunTexts texts form → ⊥
    refuted form are =
        let both : codes "run" ∷ are.others ≡ codes "run" ∷ others = sym are.words ∙ e in
        let same : are.others ≡ others = cc in
        none form (subst (λ ts. AreOptions ts None false form) same are.options)
run_words texts others (Some form) e are = record { others = others; words = e; options = are }

within-rows : (limit : Option ℕ) (n : ℕ) → IfSome limit (λ most. (0 < most) × (most ≤ 2 ^ 40)) → n ≡ rows_or_most limit → (0 < n) × (n ≤ 2 ^ 40)
within-rows None n h e = (omega (arith, e), omega (arith, e))
within-rows (Some most) n h e = (omega (arith, e, h.0), omega (arith, e, h.1))

within-options : (texts : List (List ℕ)) (limit : Option ℕ) (each : Bool) (form : RunForm) → IfSome limit (λ most. (0 < most) × (most ≤ 2 ^ 40)) → AreOptions texts limit each form → (0 < form.limit) × (form.limit ≤ 2 ^ 40)
within-options texts limit each form h (limited number rest n f l is p) = within-options rest (Some n) each form (is.some, is.few) p
within-options texts limit each form h (by_line rest f not p) = within-options rest limit true form h p
within-options texts limit each form h (over last l f) = within-rows limit form.limit h l

-- the number of rows is one that a session may take
pub within_limits : (words : List (String Global)) (r : Option RunForm) → MatchOption r ((form : RunForm) → AreRun words form → ⊥) (λ form. AreRun words form) → IfSome r (λ form. (0 < form.limit) × (form.limit ≤ 2 ^ 40))
within_limits words None h = tt
within_limits words (Some form) h = within-options h.others None false form tt h.options
