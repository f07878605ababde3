-- What is replied under a lock.
use Rattle.std.proofs.Common.{◌≡◌, ◌≢◌, ℕ, ℤ, ◌+◌, ◌<◌, ◌≤◌, ◌^◌, List, [], ◌∷◌, ◌++◌, codes, decimal, length, length-append, Option, refl, sym, ap, ◌∙◌, subst, arith}
use Rattle.std.proofs.lemmas.Fmt.{length-decimal-le}
use Rattle.sql_parser.specs.declared.line.LineKind.{LineKind}
use Rattle.sql_parser.specs.declared.line.LineKind.TheVariants as kinds
use Rattle.sql_parser.specs.LineKind.{stripped, kind_of_line}
use Rattle.sql_replies.specs.declared.refusal.Refusal.{Refusal}
use Rattle.sql_replies.specs.declared.refusal.Refusal.TheVariants as refusals
use Rattle.sql_replies.specs.Texts.{word_text}
use Rattle.cmd_session.specs.Answer.{Answer, plain}
use Rattle.cmd_session.specs.Answers.{Settles}
use Rattle.cmd_session.specs.Lock.{Lock, LetsText}
use Rattle.cmd_session.specs.Replies.{reply_to}
use Rattle.cmd_session.specs.Request.{Request, unlocked}
use Rattle.cmd_session.specs.Requests.{IsRequest, IsTextRequest, too_long, barred, fits}
use Rattle.cmd_session.specs.State.{State}
use Rattle.law_lock.specs.Lets.{IsLetRequest, nothing, row, unlocks, refuses, IsShortReply, none, error, unlock, answers, RepliesAreShort, locked_by, AnswersAlike, KeyIsNotTold}
use Rattle.law_lock.proofs.Classes.{key_unlocks, lines_are_few_kinds}

-- no word has more than 13 bytes
word_short : (word : Refusal) → length (word_text word) ≤ 13
word_short refusals.LineTooLong = omega arith
word_short refusals.Syntax = omega arith
word_short refusals.Limit = omega arith
word_short refusals.Duplicate = omega arith
word_short refusals.TooMany = omega arith
word_short refusals.UnknownStream = omega arith
word_short refusals.UnknownColumn = omega arith
word_short refusals.SelfJoin = omega arith
word_short refusals.UnknownQuery = omega arith
word_short refusals.Late = omega arith
word_short refusals.Arity = omega arith
word_short refusals.Value = omega arith
word_short refusals.Domain = omega arith
word_short refusals.RowLimit = omega arith
word_short refusals.Locked = omega arith

error_short : (n : ℕ) (word : Refusal) → n < 2 ^ 64 → length (codes "error " ++ decimal n ++ 32 ∷ word_text word ++ 10 ∷ []) ≤ 41
error_short n word few =
    let digits = length-decimal-le 20 n (omega arith) (omega (arith, few)) few in
    let one = word_short word in
    let w = word_text word in
    omega (
      arith,
      digits,
      one,
      length-append (decimal n) (32 ∷ w ++ 10 ∷ []),
      length-append (decimal n ++ 32 ∷ w) (10 ∷ []),
      length-append (decimal n) (32 ∷ w),
      length-append w (10 ∷ []),
      length-append (codes "error " ++ decimal n ++ 32 ∷ w) (10 ∷ []),
      length-append (codes "error " ++ decimal n) (32 ∷ w),
      length-append (codes "error ") (decimal n),
    )

pub replies_are_short : RepliesAreShort
replies_are_short s lock line answer e few is = by (lines_are_few_kinds s lock line is.request e is.asks)
  where
    by : IsLetRequest lock line is.request → IsShortReply answer (reply_to s answer)
    by (nothing p) = none (ap (reply_to s) (subst (λ r. Settles s r answer) p is.settles))
    by (row stream values opens p) = answers stream values (subst (λ r. Settles s r answer) p is.settles)
    by (unlocks key k u p) = unlock (ap (reply_to s) (subst (λ r. Settles s r answer) p is.settles))
    by (refuses word p) =
        let same : reply_to s answer ≡ codes "error " ++ decimal (s.lines + 1) ++ 32 ∷ word_text word ++ 10 ∷ [] = ap (reply_to s) (subst (λ r. Settles s r answer) p is.settles) in
        error (subst (λ t. length t ≤ 41) (sym same) (error_short (s.lines + 1) word few))

-- The key.

-- a line of this kind is let by both, or the statement unlocks
other_lets : (s : State) (opened : Option (List ℕ)) (key other : Option ℤ) (kind : LineKind) (text : List ℕ) (b : Request) → LetsText (locked_by s opened other).lock s.streams kind text
    → IsTextRequest (locked_by s opened other) kind text b → b ≢ unlocked → LetsText (locked_by s opened key).lock s.streams kind text
other_lets s opened key other kinds.Nothing text b lets is apart = tt
other_lets s opened key other kinds.RowLine text b lets is apart = lets
other_lets s opened key other kinds.StatementLine text b lets is apart = absurd (apart (key_unlocks (locked_by s opened other) (record { key = other; opened = opened }) text b refl other lets is))

-- what a line asks for that unlocks neither
same_text : (s : State) (opened : Option (List ℕ)) (key other : Option ℤ) (kind : LineKind) (text : List ℕ) (a b : Request) → LetsText (locked_by s opened key).lock s.streams kind text
    → IsTextRequest (locked_by s opened key) kind text a → IsTextRequest (locked_by s opened other) kind text b → a ≢ unlocked → a ≡ b
same_text s opened key other kinds.Nothing text a b lets p q apart = p ∙ sym q
same_text s opened key other kinds.RowLine text a b lets p q apart = p ∙ sym q
same_text s opened key other kinds.StatementLine text a b lets p q apart = absurd (apart (key_unlocks (locked_by s opened key) (record { key = key; opened = opened }) text a refl key lets p))

same_request : (s : State) (opened : Option (List ℕ)) (key other : Option ℤ) (line : List ℕ) (a b : Request) → IsRequest (locked_by s opened key) line a → IsRequest (locked_by s opened other) line b → a ≢ unlocked → b ≢ unlocked → a ≡ b
same_request s opened key other line a b (too_long n p) (too_long m q) x y = p ∙ sym q
same_request s opened key other line a b (too_long n p) (barred m bar q) x y = absurd (omega arith)
same_request s opened key other line a b (too_long n p) (fits m lets q) x y = absurd (omega arith)
same_request s opened key other line a b (barred n bar p) (too_long m q) x y = absurd (omega arith)
same_request s opened key other line a b (barred n bar p) (barred m other_bar q) x y = p ∙ sym q
same_request s opened key other line a b (barred n bar p) (fits m lets q) x y = absurd (bar (other_lets s opened key other (kind_of_line (stripped line)) (stripped line) b lets q y))
same_request s opened key other line a b (fits n lets p) (too_long m q) x y = absurd (omega arith)
same_request s opened key other line a b (fits n lets p) (barred m bar q) x y = absurd (bar (other_lets s opened other key (kind_of_line (stripped line)) (stripped line) a lets p x))
same_request s opened key other line a b (fits n lets p) (fits m lats q) x y = same_text s opened key other (kind_of_line (stripped line)) (stripped line) a b lets p q x

-- an answer under a lock is what was asked for
plain_answer : (s : State) (lock : Lock) (line : List ℕ) (r : Request) (answer : Answer) → IsLetRequest lock line r → Settles s r answer → answer ≡ plain r
plain_answer s lock line r answer (nothing p) e = subst (λ q. Settles s q answer) p e ∙ ap plain (sym p)
plain_answer s lock line r answer (row stream values opens p) e = subst (λ q. Settles s q answer) p e ∙ ap plain (sym p)
plain_answer s lock line r answer (unlocks key k u p) e = subst (λ q. Settles s q answer) p e ∙ ap plain (sym p)
plain_answer s lock line r answer (refuses word p) e = subst (λ q. Settles s q answer) p e ∙ ap plain (sym p)

request_alike : (s : State) (opened : Option (List ℕ)) (key other : Option ℤ) (line : List ℕ) (r : Request) → IsLetRequest (record { key = key; opened = opened }) line r → r ≢ unlocked
    → AnswersAlike (locked_by s opened key) (locked_by s opened other) opened key (plain r) (plain r)
request_alike s opened key other line r (nothing p) apart =
    subst (λ q. AnswersAlike (locked_by s opened key) (locked_by s opened other) opened key (plain q) (plain q)) (sym p) (record { same = refl; reply = refl; next = refl })
request_alike s opened key other line r (row stream values opens p) apart =
    subst (λ q. AnswersAlike (locked_by s opened key) (locked_by s opened other) opened key (plain q) (plain q)) (sym p) (record { same = refl; reply = refl; next = refl })
request_alike s opened key other line r (unlocks number k u p) apart = absurd (apart p)
request_alike s opened key other line r (refuses word p) apart =
    subst (λ q. AnswersAlike (locked_by s opened key) (locked_by s opened other) opened key (plain q) (plain q)) (sym p) (record { same = refl; reply = refl; next = refl })

pub key_is_not_told : KeyIsNotTold
key_is_not_told s opened key other line x y p q apart away =
    let mine : Lock = record { key = key; opened = opened } in
    let his : Lock = record { key = other; opened = opened } in
    let few = lines_are_few_kinds (locked_by s opened key) mine line p.request refl p.asks in
    let many = lines_are_few_kinds (locked_by s opened other) his line q.request refl q.asks in
    let a : x ≡ plain p.request = plain_answer (locked_by s opened key) mine line p.request x few p.settles in
    let b : y ≡ plain q.request = plain_answer (locked_by s opened other) his line q.request y many q.settles in
    let not_a : p.request ≢ unlocked = λ e. apart (a ∙ ap plain e) in
    let not_b : q.request ≢ unlocked = λ e. away (b ∙ ap plain e) in
    let same : p.request ≡ q.request = same_request s opened key other line p.request q.request p.asks q.asks not_a not_b in
    subst (λ u. AnswersAlike (locked_by s opened key) (locked_by s opened other) opened key u y) (sym a)
    (subst (λ u. AnswersAlike (locked_by s opened key) (locked_by s opened other) opened key (plain p.request) u) (sym (b ∙ ap plain (sym same)))
    (request_alike s opened key other line p.request few not_a))
