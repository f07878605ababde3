-- Words ask for one thing at most.
use Rattle.std.proofs.Common.{◌≡◌, ℕ, Bool, true, false, cond, List, String, [], ◌∷◌, map, codes, refl, sym, ap, ◌∙◌, arith, inl, inr, subst, Some, None}
use Rattle.std.specs.declared.alloc.Global.{Global}
use Rattle.std.specs.declared.option.Option.{Option}
use Rattle.std.specs.String.{string_bytes}
use Rattle.std.specs.Str.{bytes_eq}
use Rattle.std.proofs.lemmas.Fmt.{decimal_injective}
use Rattle.cmd_dispatch.specs.declared.words.RunForm.{RunForm}
use Rattle.cmd_dispatch.specs.declared.command.Command.{Command}
use Rattle.cmd_dispatch.specs.declared.command.Command.TheVariants.{Run, Load, Lower, Certify, Check, Advise, Split, Help, Version}
use Rattle.cmd_dispatch.specs.Words.{AreLast, AreOptions, AreRunTexts, rows_or_most, nothing, named, limited, by_line, over}
use Rattle.cmd_dispatch.specs.LoadWords.{AreLoadTexts}
use Rattle.cmd_dispatch.specs.CertificateWords.{AreAdviseTexts, AreSplitTexts, AreAdviseSplitTexts}
use Rattle.cmd_dispatch.specs.Commands.{Asks}
use Rattle.cmd_dispatch.specs.Laws.{AskForOne}
use Rattle.cmd_dispatch.proofs.LowerForms.{one_lower}
use Rattle.cmd_dispatch.proofs.WordForms.{dash, rows_or_each, one_limit}

one_last : (texts : List (List ℕ)) (f g : Bool) → AreLast texts f → AreLast texts g → f ≡ g
one_last texts f g (nothing e p) (nothing h q) = p ∙ sym q
one_last texts f g (nothing e p) (named name h is q) = let bad : [] ≡ name ∷ [] = sym e ∙ h in cc
one_last texts f g (named name e is p) (nothing h q) = let bad : [] ≡ name ∷ [] = sym h ∙ e in cc
one_last texts f g (named name e is p) (named other h are q) = p ∙ sym q

one_options : (texts others : List (List ℕ)) (limit most : Option ℕ) (each every : Bool) (f g : RunForm) → others ≡ texts → most ≡ limit → every ≡ each → AreOptions texts limit each f → AreOptions others most every g → f ≡ g
one_options texts others limit most each every f g e m v (limited number rest n t l is p) (limited number' rest' n' t' l' is' p') =
    let both : codes "--rows" ∷ number' ∷ rest' ≡ codes "--rows" ∷ number ∷ rest = sym t' ∙ e ∙ t in
    let numbers : number ≡ number' = cc in
    let tails : rest' ≡ rest = cc in
    one_options rest rest' (Some n) (Some n') each every f g tails (ap Some (sym (one_limit number number' n n' numbers is is'))) v p p'
one_options texts others limit most each every f g e m v (limited number rest n t l is p) (by_line rest' t' l' p') = absurd (rows_or_each (number ∷ rest) rest' (sym t ∙ sym e ∙ t'))
one_options texts others limit most each every f g e m v (limited number rest n t l is p) (over last l' v') = absurd (dash others (codes "-rows") (number ∷ rest) g.file (e ∙ t) last)
one_options texts others limit most each every f g e m v (by_line rest t l p) (limited number' rest' n' t' l' is' p') = absurd (rows_or_each (number' ∷ rest') rest (sym t' ∙ e ∙ t))
one_options texts others limit most each every f g e m v (by_line rest t l p) (by_line rest' t' l' p') =
    let both : codes "--each" ∷ rest' ≡ codes "--each" ∷ rest = sym t' ∙ e ∙ t in
    let tails : rest' ≡ rest = cc in
    one_options rest rest' limit most true true f g tails m refl p p'
one_options texts others limit most each every f g e m v (by_line rest t l p) (over last l' v') = absurd (dash others (codes "-each") rest g.file (e ∙ t) last)
one_options texts others limit most each every f g e m v (over last l v') (limited number' rest' n' t' l' is' p') = absurd (dash texts (codes "-rows") (number' ∷ rest') f.file (sym e ∙ t') last)
one_options texts others limit most each every f g e m v (over last l v') (by_line rest' t' l' p') = absurd (dash texts (codes "-each") rest' f.file (sym e ∙ t') last)
one_options texts others limit most each every f g e m v (over last l w) (over last' l' w') =
    let files : f.file ≡ g.file = one_last texts f.file g.file last (subst (λ ts. AreLast ts g.file) e last') in
    let limits : f.limit ≡ g.limit = l ∙ ap rows_or_most (sym m) ∙ sym l' in
    let eaches : f.each ≡ g.each = w ∙ sym v ∙ sym w' in
    ap (λ n. record f { limit = n }) limits ∙ ap (λ b. record f { limit = g.limit; each = b }) eaches ∙ ap (λ b. record g { file = b }) files

one_run : (texts : List (List ℕ)) (f g : RunForm) → AreRunTexts texts f → AreRunTexts texts g → f ≡ g
one_run texts f g p q =
    let both : codes "run" ∷ q.others ≡ codes "run" ∷ p.others = sym q.words ∙ p.words in
    let tails : q.others ≡ p.others = cc in
    one_options p.others q.others None None false false f g tails refl refl p.options q.options

one_load : (texts : List (List ℕ)) (m n : ℕ) → AreLoadTexts texts m → AreLoadTexts texts n → m ≡ n
one_load texts m n p q =
    let both : codes "load" ∷ p.number ∷ [] ≡ codes "load" ∷ q.number ∷ [] = sym p.words ∙ q.words in
    let same : p.number ≡ q.number = cc in
    decimal_injective m n (omega (arith, p.size.few)) (omega (arith, q.size.few)) (sym p.size.digits ∙ same ∙ q.size.digits)

one_advise : (texts : List (List ℕ)) (f g : Bool) → AreAdviseTexts texts f → AreAdviseTexts texts g → f ≡ g
one_advise texts f g p q =
    let both : codes "advise" ∷ q.others ≡ codes "advise" ∷ p.others = sym q.words ∙ p.words in
    let tails : q.others ≡ p.others = cc in
    one_last p.others f g p.last (subst (λ ts. AreLast ts g) tails q.last)

one_behind_split : (texts : List (List ℕ)) (f g : Bool) → AreSplitTexts texts f → AreSplitTexts texts g → f ≡ g
one_behind_split texts f g p q =
    let both : codes "--split" ∷ q.others ≡ codes "--split" ∷ p.others = sym q.words ∙ p.words in
    let tails : q.others ≡ p.others = cc in
    one_last p.others f g p.last (subst (λ ts. AreLast ts g) tails q.last)

one_split : (texts : List (List ℕ)) (f g : Bool) → AreAdviseSplitTexts texts f → AreAdviseSplitTexts texts g → f ≡ g
one_split texts f g p q =
    let both : codes "advise" ∷ q.others ≡ codes "advise" ∷ p.others = sym q.words ∙ p.words in
    let tails : q.others ≡ p.others = cc in
    one_behind_split p.others f g p.split (subst (λ ts. AreSplitTexts ts g) tails q.split)

-- `--split` is no name of a file
advise_or_split : (texts : List (List ℕ)) (f g : Bool) → AreAdviseTexts texts f → AreAdviseSplitTexts texts g → ⊥
advise_or_split texts f g p q =
    let both : codes "advise" ∷ q.others ≡ codes "advise" ∷ p.others = sym q.words ∙ p.words in
    let tails : q.others ≡ p.others = cc in
    dash p.others (codes "-split") q.split.others f (sym tails ∙ q.split.words) p.last

-- the number of a command by its first word
unfoldable kind : List (List ℕ) → ℕ
kind [] = 9
kind (w ∷ ws) = cond (bytes_eq w (codes "run")) 0 (cond (bytes_eq w (codes "load")) 1 (cond (bytes_eq w (codes "lower")) 2 (cond (bytes_eq w (codes "certify")) 3 (cond (bytes_eq w (codes "check")) 4
    (cond (bytes_eq w (codes "advise")) 5 (cond (bytes_eq w (codes "--help")) 6 (cond (bytes_eq w (codes "-h")) 6 (cond (bytes_eq w (codes "--version")) 7 (cond (bytes_eq w (codes "-V")) 7 8)))))))))

unfoldable number_of : Command → ℕ
number_of (Run f) = 0
number_of (Load m) = 1
number_of (Lower m) = 2
number_of Certify = 3
number_of Check = 4
number_of (Advise m) = 5
number_of (Split m) = 5
number_of Help = 6
number_of Version = 7

by_kind : (words : List (String Global)) (c : Command) → Asks words c → kind (map string_bytes words) ≡ number_of c
unfolding kind number_of
by_kind words (Run f) p = ap kind p.words
by_kind words (Load m) p = ap kind p.words
by_kind words (Lower m) p = ap kind p.words
by_kind words Certify p = ap kind p
by_kind words Check p = ap kind p
by_kind words (Advise m) p = ap kind p.words
by_kind words (Split m) p = ap kind p.words
by_kind words Help (inl p) = ap kind p
by_kind words Help (inr p) = ap kind p
by_kind words Version (inl p) = ap kind p
by_kind words Version (inr p) = ap kind p

same_kind : (words : List (String Global)) (c d : Command) → number_of c ≡ number_of d → Asks words c → Asks words d → c ≡ d
unfolding number_of
same_kind words (Run f) (Run g) e p q = ap Run (one_run (map string_bytes words) f g p q)
same_kind words (Run f) (Load n) e p q = absurd (omega (arith, e))
same_kind words (Run f) (Lower n) e p q = absurd (omega (arith, e))
same_kind words (Run f) Certify e p q = absurd (omega (arith, e))
same_kind words (Run f) Check e p q = absurd (omega (arith, e))
same_kind words (Run f) (Advise n) e p q = absurd (omega (arith, e))
same_kind words (Run f) (Split n) e p q = absurd (omega (arith, e))
same_kind words (Run f) Help e p q = absurd (omega (arith, e))
same_kind words (Run f) Version e p q = absurd (omega (arith, e))
same_kind words (Load m) (Run g) e p q = absurd (omega (arith, e))
same_kind words (Load m) (Load n) e p q = ap Load (one_load (map string_bytes words) m n p q)
same_kind words (Load m) (Lower n) e p q = absurd (omega (arith, e))
same_kind words (Load m) Certify e p q = absurd (omega (arith, e))
same_kind words (Load m) Check e p q = absurd (omega (arith, e))
same_kind words (Load m) (Advise n) e p q = absurd (omega (arith, e))
same_kind words (Load m) (Split n) e p q = absurd (omega (arith, e))
same_kind words (Load m) Help e p q = absurd (omega (arith, e))
same_kind words (Load m) Version e p q = absurd (omega (arith, e))
same_kind words (Lower m) (Run g) e p q = absurd (omega (arith, e))
same_kind words (Lower m) (Load n) e p q = absurd (omega (arith, e))
same_kind words (Lower m) (Lower n) e p q = ap Lower (one_lower (map string_bytes words) m n p q)
same_kind words (Lower m) Certify e p q = absurd (omega (arith, e))
same_kind words (Lower m) Check e p q = absurd (omega (arith, e))
same_kind words (Lower m) (Advise n) e p q = absurd (omega (arith, e))
same_kind words (Lower m) (Split n) e p q = absurd (omega (arith, e))
same_kind words (Lower m) Help e p q = absurd (omega (arith, e))
same_kind words (Lower m) Version e p q = absurd (omega (arith, e))
same_kind words Certify (Run g) e p q = absurd (omega (arith, e))
same_kind words Certify (Load n) e p q = absurd (omega (arith, e))
same_kind words Certify (Lower n) e p q = absurd (omega (arith, e))
same_kind words Certify Certify e p q = refl
same_kind words Certify Check e p q = absurd (omega (arith, e))
same_kind words Certify (Advise n) e p q = absurd (omega (arith, e))
same_kind words Certify (Split n) e p q = absurd (omega (arith, e))
same_kind words Certify Help e p q = absurd (omega (arith, e))
same_kind words Certify Version e p q = absurd (omega (arith, e))
same_kind words Check (Run g) e p q = absurd (omega (arith, e))
same_kind words Check (Load n) e p q = absurd (omega (arith, e))
same_kind words Check (Lower n) e p q = absurd (omega (arith, e))
same_kind words Check Certify e p q = absurd (omega (arith, e))
same_kind words Check Check e p q = refl
same_kind words Check (Advise n) e p q = absurd (omega (arith, e))
same_kind words Check (Split n) e p q = absurd (omega (arith, e))
same_kind words Check Help e p q = absurd (omega (arith, e))
same_kind words Check Version e p q = absurd (omega (arith, e))
same_kind words (Advise m) (Run g) e p q = absurd (omega (arith, e))
same_kind words (Advise m) (Load n) e p q = absurd (omega (arith, e))
same_kind words (Advise m) (Lower n) e p q = absurd (omega (arith, e))
same_kind words (Advise m) Certify e p q = absurd (omega (arith, e))
same_kind words (Advise m) Check e p q = absurd (omega (arith, e))
same_kind words (Advise m) (Advise n) e p q = ap Advise (one_advise (map string_bytes words) m n p q)
same_kind words (Advise m) (Split n) e p q = absurd (advise_or_split (map string_bytes words) m n p q)
same_kind words (Advise m) Help e p q = absurd (omega (arith, e))
same_kind words (Advise m) Version e p q = absurd (omega (arith, e))
same_kind words (Split m) (Run g) e p q = absurd (omega (arith, e))
same_kind words (Split m) (Load n) e p q = absurd (omega (arith, e))
same_kind words (Split m) (Lower n) e p q = absurd (omega (arith, e))
same_kind words (Split m) Certify e p q = absurd (omega (arith, e))
same_kind words (Split m) Check e p q = absurd (omega (arith, e))
same_kind words (Split m) (Advise n) e p q = absurd (advise_or_split (map string_bytes words) n m q p)
same_kind words (Split m) (Split n) e p q = ap Split (one_split (map string_bytes words) m n p q)
same_kind words (Split m) Help e p q = absurd (omega (arith, e))
same_kind words (Split m) Version e p q = absurd (omega (arith, e))
same_kind words Help (Run g) e p q = absurd (omega (arith, e))
same_kind words Help (Load n) e p q = absurd (omega (arith, e))
same_kind words Help (Lower n) e p q = absurd (omega (arith, e))
same_kind words Help Certify e p q = absurd (omega (arith, e))
same_kind words Help Check e p q = absurd (omega (arith, e))
same_kind words Help (Advise n) e p q = absurd (omega (arith, e))
same_kind words Help (Split n) e p q = absurd (omega (arith, e))
same_kind words Help Help e p q = refl
same_kind words Help Version e p q = absurd (omega (arith, e))
same_kind words Version (Run g) e p q = absurd (omega (arith, e))
same_kind words Version (Load n) e p q = absurd (omega (arith, e))
same_kind words Version (Lower n) e p q = absurd (omega (arith, e))
same_kind words Version Certify e p q = absurd (omega (arith, e))
same_kind words Version Check e p q = absurd (omega (arith, e))
same_kind words Version (Advise n) e p q = absurd (omega (arith, e))
same_kind words Version (Split n) e p q = absurd (omega (arith, e))
same_kind words Version Help e p q = absurd (omega (arith, e))
same_kind words Version Version e p q = refl

pub one_command : AskForOne
one_command words c d p q = same_kind words c d (sym (by_kind words c p) ∙ by_kind words d q) p q
