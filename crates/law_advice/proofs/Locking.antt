-- What is found for a line of a locked session is what the session answers, case by case.
use Rattle.std.proofs.Common.{◌≡◌, ℕ, ℤ, Bool, true, false, ◌||◌, cond, nat_eq, List, [], ◌∷◌, get_or, Option, Some, None, Result, Ok, Err, IsTrue, refl, ap, sym, ◌∙◌, subst, arith}
use Rattle.std.specs.Prelude.{option_and_then}
use Rattle.std.specs.Option.{option_map}
use Rattle.std.specs.List.{list_any}
use Rattle.std.specs.Str.{bytes_eq}
use Rattle.std.proofs.lemmas.Bool.Decides.{nat_tests}
use Rattle.std.proofs.lemmas.List.Quantifiers.{position-Some}
use Rattle.sql_text.specs.Word.{word_of}
use Rattle.sql_catalog.specs.Streams.{Shape, stream_number, all_differ}
use Rattle.sql_catalog.specs.Rows.{row_of}
use Rattle.sql_parser.specs.declared.line.LineKind.{LineKind}
use Rattle.sql_parser.specs.declared.line.LineKind.TheVariants as kinds
use Rattle.sql_parser.specs.declared.tree.Statement.TheVariants.{Unlock}
use Rattle.sql_parser.specs.LineKind.{stripped, kind_of_line}
use Rattle.sql_parser.proofs.Taken.{same_names, same_name}
use Rattle.sql_printer.proofs.ReadBack.{one_statement}
use Rattle.sql_replies.specs.declared.refusal.Refusal.{Refusal}
use Rattle.sql_replies.specs.declared.refusal.Refusal.TheVariants as words
use Rattle.adv_diagnosis.specs.declared.fault.Asks.{Asks}
use Rattle.adv_diagnosis.specs.declared.fault.Asks.TheVariants as asks
use Rattle.adv_diagnosis.specs.Asked.{row_asked}
use Rattle.adv_diagnosis.specs.Locked as told
use Rattle.adv_diagnosis.specs.Locked.{let_asked}
use Rattle.cmd_session.specs.Lock as lock
use Rattle.cmd_session.specs.Lock.{Lock, Lets, is_found_open}
use Rattle.cmd_session.specs.Request.{Request, silent, unlocked, refused}
use Rattle.cmd_session.specs.Requests as session
use Rattle.cmd_session.specs.Requests.{entry_request, numbers_of, found_open, opened_by, statement_request, unlock_request, IsTextRequest, IsStatementRequest}
use Rattle.cmd_session.specs.State.{State, has_room}
use Rattle.law_advice.specs.Laws.{IsAnsweredBy, IsToldBy, FindsLockedAnswers}
use Rattle.law_advice.proofs.Agreement.{row_agrees, by_both, limits_differ}

-- whether a stream that was found has the number
abbrev is_number : ℕ → Option ℕ → Bool
is_number n None = false
is_number n (Some k) = nat_eq k n

same_number : (n : ℕ) → nat_eq n n ≡ true
same_number n = grind (arith, nat_tests)

number_is : (k n : ℕ) → nat_eq k n ≡ true → k ≡ n
number_is k n h = grind (arith, nat_tests)

some_is : (k n : ℕ) → (let o : Option ℕ = Some k in o ≡ Some n) → k ≡ n
some_is k n e = cc

-- a name of a stream that has a number has it alone
named_is : (streams : List Shape) (x y : List ℕ) (n : ℕ) → stream_number streams x ≡ Some n → stream_number streams y ≡ Some n → x ≡ y
named_is streams x y n e f =
    let d : Shape = record { name = []; columns = [] } in
    let p = position-Some (λ (s : Shape). bytes_eq s.name x) streams n d e in
    let q = position-Some (λ (s : Shape). bytes_eq s.name y) streams n d f in
    sym (same_names (get_or streams n d).name x p.1) ∙ same_names (get_or streams n d).name y q.1

-- two names are the same where the number of the one is that of the other
by_number : (streams : List Shape) (x y : List ℕ) (n : ℕ) → stream_number streams x ≡ Some n → bytes_eq x y ≡ is_number n (stream_number streams y)
by_number streams x y n e = by (bytes_eq x y) (stream_number streams y) refl refl where
  same : (o : Option ℕ) → stream_number streams y ≡ o → x ≡ y → true ≡ is_number n o
  same o f g = sym (ap (is_number n) (sym f ∙ ap (stream_number streams) (sym g) ∙ e) ∙ same_number n)

  other : (k : ℕ) (b : Bool) → stream_number streams y ≡ Some k → bytes_eq x y ≡ false → nat_eq k n ≡ b → false ≡ b
  other k false f g h = refl
  other k true f g h =
      let z : true ≡ false = sym (same_name x y (named_is streams x y n e (f ∙ ap (λ (m : ℕ). Some m) (number_is k n h)))) ∙ g in cc

  by : (b : Bool) (o : Option ℕ) → bytes_eq x y ≡ b → stream_number streams y ≡ o → b ≡ is_number n o
  by true o g f = same o f (same_names x y g)
  by false None g f = refl
  by false (Some k) g f = other k (nat_eq k n) f g refl

-- whether a stream that was found is one of some
abbrev is_one : List ℕ → Option ℕ → Bool
is_one numbers o = is_found_open (Some numbers) o

more : (n : ℕ) (ns : List ℕ) (o : Option ℕ) → is_number n o || is_one ns o ≡ is_one (n ∷ ns) o
more n ns None = refl
more n ns (Some k) = refl

-- a word is one of some names where its stream is one of theirs
among : (streams : List Shape) (names : List (List ℕ)) (word : List ℕ) (numbers : List ℕ) → numbers_of streams names ≡ Some numbers
    → list_any (λ n. bytes_eq n word) names ≡ is_one numbers (stream_number streams word)
among streams [] word numbers e = by numbers (stream_number streams word) e where
  by : (ns : List ℕ) (o : Option ℕ) → (let z : Option (List ℕ) = Some [] in z ≡ Some ns) → false ≡ is_one ns o
  by [] None e = refl
  by [] (Some k) e = refl
  by (n ∷ ns) o e = cc
among streams (name ∷ names) word numbers e = by (stream_number streams name) (numbers_of streams names) (λ ns g. among streams names word ns g) refl refl e
  where
    by : (o : Option ℕ) (found : Option (List ℕ)) → ((ns : List ℕ) → numbers_of streams names ≡ Some ns → list_any (λ n. bytes_eq n word) names ≡ is_one ns (stream_number streams word))
        → stream_number streams name ≡ o → numbers_of streams names ≡ found → option_and_then (λ n. option_map (λ ns. n ∷ ns) found) o ≡ Some numbers
        → bytes_eq name word || list_any (λ n. bytes_eq n word) names ≡ is_one numbers (stream_number streams word)
    by None found rest f g h = cc
    by (Some n) None rest f g h = cc
    by (Some n) (Some ns) rest f g h =
        let is : n ∷ ns ≡ numbers = cc in
        ap (λ (b : Bool). b || list_any (λ n. bytes_eq n word) names) (by_number streams name word n f)
        ∙ ap (λ (b : Bool). is_number n (stream_number streams word) || b) (rest ns g)
        ∙ more n ns (stream_number streams word)
        ∙ ap (λ (l : List ℕ). is_one l (stream_number streams word)) is

-- rows are let by the names of a lock as by its streams
lets_agree : (streams : List Shape) (names : List (List ℕ)) (opened : Option (List ℕ)) (text : List ℕ) → opened_by streams names ≡ Ok opened
    → told.lets_row names (word_of text) ≡ lock.lets_row opened streams text
lets_agree streams [] None text e = refl
lets_agree streams [] (Some numbers) text e = cc
lets_agree streams (name ∷ names) opened text e = by (all_differ (name ∷ names)) (numbers_of streams (name ∷ names)) opened refl e
  where
    by : (b : Bool) (found : Option (List ℕ)) (o : Option (List ℕ)) → numbers_of streams (name ∷ names) ≡ found → cond b (found_open found) (Err words.Duplicate) ≡ Ok o
        → list_any (λ n. bytes_eq n (word_of text)) (name ∷ names) ≡ lock.lets_row o streams text
    by false found o f h = cc
    by true None o f h = cc
    by true (Some numbers) None f h = cc
    by true (Some numbers) (Some others) f h =
        let is : numbers ≡ others = cc in
        among streams (name ∷ names) (word_of text) numbers f ∙ ap (λ (l : List ℕ). is_one l (stream_number streams (word_of text))) is

true_from : (a b : Bool) → a ≡ b → a ≡ true → IsTrue b
true_from a b e h = sym e ∙ h

true_back : (a b : Bool) → a ≡ b → IsTrue b → a ≡ true
true_back a b e h = e ∙ h

module _ (s : State) (key : Option ℤ) (names : List (List ℕ)) (is : IsToldBy s key names) where
  abbrev standing : Lock
  standing = record { key = key; opened = is.opened }

  to_session : (kind : LineKind) (text : List ℕ) → told.LetsText key names kind text → lock.LetsText (Some standing) s.streams kind text
  to_session kinds.Nothing text h = tt
  to_session kinds.RowLine text h = true_from _ _ (lets_agree s.streams names is.opened text is.found) h
  to_session kinds.StatementLine text h = unlocks key h where
    unlocks : (k : Option ℤ) → told.Unlocks k text → lock.Unlocks k text
    unlocks None h = h
    unlocks (Some k) h = record { says = h.0; within = h.1 }

  to_told : (kind : LineKind) (text : List ℕ) → lock.LetsText (Some standing) s.streams kind text → told.LetsText key names kind text
  to_told kinds.Nothing text h = tt
  to_told kinds.RowLine text h = true_back _ _ (lets_agree s.streams names is.opened text is.found) h
  to_told kinds.StatementLine text h = unlocks key h where
    unlocks : (k : Option ℤ) → lock.Unlocks k text → told.Unlocks k text
    unlocks None h = h
    unlocks (Some k) h = (h.says, h.within)

  -- a text that unlocks asks for just that
  unlocks_asks : (text : List ℕ) (r : Request) (k : Option ℤ) → told.Unlocks k text → IsStatementRequest s text r → r ≡ unlocked
  unlocks_asks text r None h q = absurd h
  unlocks_asks text r (Some k) h (session.outside none q) = absurd (none (Unlock k) h.0)
  unlocks_asks text r (Some k) h (session.limited u v j m q) = absurd (limits_differ u (Unlock k) v (one_statement text u (Unlock k) j h.0) m h.1)
  unlocks_asks text r (Some k) h (session.stated u j m q) =
      q ∙ ap (statement_request s) (one_statement text u (Unlock k) j h.0) ∙ ap unlock_request is.stands

  let_agrees : (kind : LineKind) (text : List ℕ) (a : Result Asks Refusal) (r : Request) → told.LetsText key names kind text → a ≡ let_asked s.streams kind text → IsTextRequest s kind text r → IsAnsweredBy s.streams a r
  let_agrees kinds.Nothing text a r lets p q = by_both s.streams a (Ok asks.Nothing) r silent p q refl
  let_agrees kinds.RowLine text a r lets p q = by_both s.streams a (row_asked (row_of s.streams text)) r (entry_request (has_room s) (row_of s.streams text)) p q (row_agrees s.streams (row_of s.streams text) (has_room s))
  let_agrees kinds.StatementLine text a r lets p q = by_both s.streams a (Ok asks.Unlock) r unlocked p (unlocks_asks text r key lets q) refl

  -- a line is let by the lock of the session as by the one that is told
  lets_told : (line : List ℕ) → Lets s.lock s.streams line → told.LetsText key names (kind_of_line (stripped line)) (stripped line)
  lets_told line lets = to_told (kind_of_line (stripped line)) (stripped line) (subst (λ (l : Option Lock). Lets l s.streams line) is.stands lets)

  told_lets : (line : List ℕ) → told.LetsText key names (kind_of_line (stripped line)) (stripped line) → Lets s.lock s.streams line
  told_lets line lets = subst (λ (l : Option Lock). Lets l s.streams line) (sym is.stands) (to_session (kind_of_line (stripped line)) (stripped line) lets)

pub finds_locked_answers : FindsLockedAnswers
finds_locked_answers s key names is line a r (told.too_long l p) (session.too_long m q) = by_both s.streams a (Err words.LineTooLong) r (refused words.LineTooLong) p q refl
finds_locked_answers s key names is line a r (told.too_long l p) (session.barred m n q) = absurd (omega (arith, l, m))
finds_locked_answers s key names is line a r (told.too_long l p) (session.fits m lets q) = absurd (omega (arith, l, m))
finds_locked_answers s key names is line a r (told.barred l n p) (session.too_long m q) = absurd (omega (arith, l, m))
finds_locked_answers s key names is line a r (told.barred l n p) (session.barred m o q) = by_both s.streams a (Err words.Locked) r (refused words.Locked) p q refl
finds_locked_answers s key names is line a r (told.barred l n p) (session.fits m lets q) = absurd (n (lets_told s key names is line lets))
finds_locked_answers s key names is line a r (told.fits l lets p) (session.too_long m q) = absurd (omega (arith, l, m))
finds_locked_answers s key names is line a r (told.fits l lets p) (session.barred m n q) = absurd (n (told_lets s key names is line lets))
finds_locked_answers s key names is line a r (told.fits l lets p) (session.fits m others q) = let_agrees s key names is (kind_of_line (stripped line)) (stripped line) a r lets p q
