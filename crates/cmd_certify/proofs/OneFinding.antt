-- What is found behind a query: the lines of a certificate, or the first line that is refused.
use Rattle.std.proofs.Common.{◌≡◌, ℕ, suc, List, [], ◌∷◌, ◌++◌, ◌≤◌, length, refl, sym, ap, ◌∙◌, subst, arith}
use Rattle.sql_parser.specs.LineKind.{stripped}
use Rattle.sql_replies.specs.declared.refusal.Refusal.{Refusal}
use Rattle.cert_format.specs.declared.line.Line.{Line}
use Rattle.cert_format.specs.Text.{IsLine, words}
use Rattle.cert_format.specs.Certificate.{IsNext, HasRoom, last_of}
use Rattle.cert_format.proofs.Spelled.{one_line}
use Rattle.sql_script.specs.Script.{IsBlank}
use Rattle.cmd_certify.specs.Checking as checking
use Rattle.cmd_certify.specs.Checking.{Collect, IsRefusedLine, too_long, no_line, too_many}

-- a certificate up to the end, or a line that is refused by a word
pub data Finding : Type 0 where
  collected : List Line → Finding
  stopped : Refusal → Finding

-- what is found in lines behind those of a certificate, and how many lines it takes
data Finds : List Line → List (List ℕ) → Finding → ℕ → Type 0 where
  behind : {c : List Line} {r : Finding} {n : ℕ} → r ≡ collected c → n ≡ 0 → Finds c [] r n
  here : {c : List Line} {text : List ℕ} {texts : List (List ℕ)} {r : Finding} {n : ℕ} (word : Refusal) → IsRefusedLine c text word → r ≡ stopped word → n ≡ 1 → Finds c (text ∷ texts) r n
  passes : {c : List Line} {text : List ℕ} {texts : List (List ℕ)} {r : Finding} {m n : ℕ} → IsBlank text → Finds c texts r m → n ≡ suc m → Finds c (text ∷ texts) r n
  adds : {c : List Line} {text : List ℕ} {texts : List (List ℕ)} {r : Finding} {m n : ℕ} (l : Line) → length text ≤ 1024 → ¬ IsBlank text
      → IsLine (stripped text) l → IsNext (last_of c) l → HasRoom c l → Finds (c ++ l ∷ []) texts r m → n ≡ suc m → Finds c (text ∷ texts) r n

-- a line is refused by one word
one-word : (c : List Line) (text : List ℕ) (v w : Refusal) → IsRefusedLine c text v → IsRefusedLine c text w → v ≡ w
one-word c text v w (too_long m p) (too_long n q) = p ∙ sym q
one-word c text v w (too_long m p) (no_line short loud none q) = absurd (omega (arith, m, short))
one-word c text v w (too_long m p) (too_many l short loud is next many q) = absurd (omega (arith, m, short))
one-word c text v w (no_line short loud none p) (too_long n q) = absurd (omega (arith, n, short))
one-word c text v w (no_line short loud none p) (no_line s d nil q) = p ∙ sym q
one-word c text v w (no_line short loud none p) (too_many l s d is next many q) = absurd (none l is next)
one-word c text v w (too_many l short loud is next many p) (too_long n q) = absurd (omega (arith, n, short))
one-word c text v w (too_many l short loud is next many p) (no_line s d none q) = absurd (none l is next)
one-word c text v w (too_many l short loud is next many p) (too_many k s d it follows more q) = p ∙ sym q

-- a blank line is not refused
blank-stays : (c : List Line) (text : List ℕ) (w : Refusal) → IsBlank text → IsRefusedLine c text w → ⊥
blank-stays c text w b (too_long m p) = omega (arith, m, b.short)
blank-stays c text w b (no_line short loud none p) = loud b
blank-stays c text w b (too_many l short loud is next many p) = loud b

line-same : (text : List ℕ) (l k : Line) → IsLine (stripped text) l → IsLine (stripped text) k → l ≡ k
line-same text l k is it = one_line (words (stripped text)) l k is it

-- a line that is added is not refused
added-stays : (c : List Line) (text : List ℕ) (w : Refusal) (l : Line) → length text ≤ 1024 → IsLine (stripped text) l → IsNext (last_of c) l → HasRoom c l → IsRefusedLine c text w → ⊥
added-stays c text w l short is next room (too_long m p) = omega (arith, m, short)
added-stays c text w l short is next room (no_line s loud none p) = none l is next
added-stays c text w l short is next room (too_many k s loud it follows many p) =
    let fits : HasRoom c k = subst (HasRoom c) (line-same text l k is it) room in
    omega (arith, fits, many.more)

-- one thing is found
one-finding : {c : List Line} {texts : List (List ℕ)} {r t : Finding} {m n : ℕ} → Finds c texts r m → Finds c texts t n → (r ≡ t) × (m ≡ n)
one-finding (behind e f) (behind g h) = (e ∙ sym g, f ∙ sym h)
one-finding (here v p e f) (here w q g h) = (e ∙ ap stopped (one-word _ _ v w p q) ∙ sym g, f ∙ sym h)
one-finding (here v p e f) (passes b rest h) = absurd (blank-stays _ _ v b p)
one-finding (here v p e f) (adds l short loud is next room rest h) = absurd (added-stays _ _ v l short is next room p)
one-finding (passes b rest f) (here w q g h) = absurd (blank-stays _ _ w b q)
one-finding (passes b rest f) (passes a other h) = let i = one-finding rest other in (i.0, f ∙ ap suc i.1 ∙ sym h)
one-finding (passes b rest f) (adds l short loud is next room other h) = absurd (loud b)
one-finding (adds l short loud is next room rest f) (here w q g h) = absurd (added-stays _ _ w l short is next room q)
one-finding (adds l short loud is next room rest f) (passes b other h) = absurd (loud b)
one-finding {c = c} {t = t} (adds {text = text} l short loud is next room rest f) (adds {texts = texts} {m = n} k s d it follows fits other h) =
    let same : l ≡ k = line-same text l k is it in
    let i = one-finding rest (subst (λ x. Finds (c ++ x ∷ []) texts t n) (sym same) other) in
    (i.0, f ∙ ap suc i.1 ∙ sym h)

finds-refused : {c certificate : List Line} {before : List (List ℕ)} (text : List ℕ) (others : List (List ℕ)) (word : Refusal) → Collect c before certificate → IsRefusedLine certificate text word
    → Finds c (before ++ text ∷ others) (stopped word) (suc (length before))
finds-refused text others word checking.none refused = here word refused refl refl
finds-refused text others word (checking.blank b rest) refused = passes b (finds-refused text others word rest refused) refl
finds-refused text others word (checking.one l short loud is next room rest) refused = adds l short loud is next room (finds-refused text others word rest refused) refl

finds-whole : {c certificate : List Line} {texts : List (List ℕ)} → Collect c texts certificate → Finds c texts (collected certificate) (length texts)
finds-whole checking.none = behind refl refl
finds-whole (checking.blank b rest) = passes b (finds-whole rest) refl
finds-whole (checking.one l short loud is next room rest) = adds l short loud is next room (finds-whole rest) refl

word-same : (v w : Refusal) → stopped v ≡ stopped w → v ≡ w
word-same v w e = cc

lines-same : (c d : List Line) → collected c ≡ collected d → c ≡ d
lines-same c d e = cc

not-both : (v : Refusal) (c : List Line) → stopped v ≡ collected c → ⊥
not-both v c e = cc

-- one line is refused first
pub one-refused : (texts before front : List (List ℕ)) (text line : List ℕ) (others more : List (List ℕ)) (c d : List Line) (v w : Refusal) → texts ≡ before ++ text ∷ others → texts ≡ front ++ line ∷ more
    → Collect [] before c → Collect [] front d → IsRefusedLine c text v → IsRefusedLine d line w → (length before ≡ length front) × (v ≡ w)
one-refused texts before front text line others more c d v w e f collect gather refused denied =
    let first : Finds [] texts (stopped v) (suc (length before)) = subst (λ l. Finds [] l (stopped v) (suc (length before))) (sym e) (finds-refused text others v collect refused) in
    let other : Finds [] texts (stopped w) (suc (length front)) = subst (λ l. Finds [] l (stopped w) (suc (length front))) (sym f) (finds-refused line more w gather denied) in
    let i = one-finding first other in
    (omega (arith, i.1), word-same v w i.0)

-- lines make one certificate
pub one-collected : (texts : List (List ℕ)) (c d : List Line) → Collect [] texts c → Collect [] texts d → c ≡ d
one-collected texts c d collect gather = lines-same c d (one-finding (finds-whole collect) (finds-whole gather)).0

-- no line of a certificate is refused
pub collected-stays : (texts before : List (List ℕ)) (text : List ℕ) (others : List (List ℕ)) (c d : List Line) (v : Refusal) → texts ≡ before ++ text ∷ others → Collect [] before c → IsRefusedLine c text v → Collect [] texts d → ⊥
collected-stays texts before text others c d v e collect refused whole =
    let first : Finds [] texts (stopped v) (suc (length before)) = subst (λ l. Finds [] l (stopped v) (suc (length before))) (sym e) (finds-refused text others v collect refused) in
    not-both v d (one-finding first (finds-whole whole)).0
