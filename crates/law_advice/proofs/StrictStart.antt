-- The status to which `advise` comes tells whether a session refuses a line.
use Rattle.std.proofs.Common.{◌≡◌, ℕ, ◌+◌, ◌≤◌, ◌<◌, ◌↔◌, Bool, true, false, not, ◌||◌, cond, nat_eq, if◌then◌else◌, All, List, [], ◌∷◌, ◌++◌, IsFalse, refl, ap, sym, ◌∙◌, subst, arith}
use Rattle.std.proofs.lemmas.Bool.Decides.{nat_tests}
use Rattle.std.proofs.lemmas.List.Elements.{All-head, All-tail, All-cons, All-nil}
use Rattle.std.proofs.lemmas.List.Folds.{list_any-append}
use Rattle.std.proofs.lemmas.List.Sums.{sum_by_push}
use Rattle.std.specs.List.{list_any}
use Rattle.io_streams.specs.declared.status.Status.TheVariants.{Done, Invalid}
use Rattle.sql_script.specs.Commands.{Outcome}
use Rattle.sql_parser.specs.LineKind.{stripped, kind_of_line}
use Rattle.cmd_advise.specs.State as advice
use Rattle.cmd_advise.specs.State.{status_for, free_pages, is_accepted}
use Rattle.cmd_advise.specs.Finding as finding
use Rattle.cmd_advise.specs.Finding.{Finding, fine, fault, query, IsFinding, is_row_kind}
use Rattle.cmd_advise.specs.Advising.{ComeTo, none, one_more}
use Rattle.adv_diagnosis.specs.declared.fault.Asks.{Asks}
use Rattle.adv_diagnosis.specs.declared.fault.Asks.TheVariants as asks
use Rattle.law_resume.specs.Continuing.{IsResumeLine}
use Rattle.law_resume.specs.Restores.{is_refused}
use Rattle.cmd_session.specs.Answer.{Answer}
use Rattle.cmd_session.specs.Answers.{IsAnswer}
use Rattle.cmd_session.specs.State.{State, empty, next_of, after}
use Rattle.cmd_session.specs.Replies.{AreAnswers}
use Rattle.cmd_session.proofs.LineRuns.{after-push}
use Rattle.law_advice.specs.StrictStart.{row_lines, AdviseTellsRefusals}
use Rattle.law_advice.proofs.Standing.{Stands, Goes, is_bad, row_count, step}

-- how many lines count against a script
abbrev bad_lines : advice.State → ℕ
bad_lines a = a.refused + a.at_fault

-- some do, or none does
abbrev Counts : advice.State → Bool → Type 0
Counts a false = bad_lines a ≡ 0
Counts a true = 0 < bad_lines a

asks-keep : (a : advice.State) (line : List ℕ) (asked : Asks) → bad_lines (finding.after a line (fine asked)) ≡ bad_lines a
asks-keep a line asks.Nothing = refl
asks-keep a line asks.Row = refl
asks-keep a line (asks.Stream name columns) = refl
asks-keep a line (asks.Query name q shared) = refl
asks-keep a line asks.Explain = refl
asks-keep a line (asks.Drop name) = refl
asks-keep a line asks.Other = refl
asks-keep a line (asks.Lock key streams) = refl
asks-keep a line asks.Unlock = refl

-- one more does where the finding is one that does
counts-one : (a : advice.State) (line : List ℕ) (f : Finding) → bad_lines (finding.after a line f) ≡ bad_lines a + cond (is_bad a f) 1 0
counts-one a line (fine asked) = asks-keep a line asked ∙ omega arith
counts-one a line (fault wrong) = omega arith
counts-one a line (query q) = by (is_accepted (free_pages a) q.advice.judgement)
  where
    by : (b : Bool)
        → bad_lines
        (if b
        then record a { live = a.live ++ q.name ∷ []; pages = a.pages ++ advice.pages_for q.advice.judgement ∷ []; lines = a.lines + 1; accepted = a.accepted + 1 }
        else record a { lines = a.lines + 1; refused = a.refused + 1 })
        ≡ bad_lines a + cond (not b) 1 0
    by true = omega arith
    by false = omega arith

more-counts : (a t : advice.State) (b c : Bool) → bad_lines t ≡ bad_lines a + cond c 1 0 → Counts a b → Counts t (b || c)
more-counts a t false false e h = omega (arith, e, h)
more-counts a t false true e h = omega (arith, e, h)
more-counts a t true false e h = omega (arith, e, h)
more-counts a t true true e h = omega (arith, e, h)

-- the answers to some lines and one more
record Parted (s : State) (front : List (List ℕ)) (line : List ℕ) (answers : List Answer) : Type 0 where
  before : List Answer
  last : Answer
  is : answers ≡ before ++ last ∷ []
  were : AreAnswers s front before
  comes : IsAnswer (after s before) line last

parted : (s : State) (front : List (List ℕ)) (line : List ℕ) (answers : List Answer) → AreAnswers s (front ++ line ∷ []) answers → Parted s front line answers
unfolding after
parted s [] line [] h = absurd h
parted s [] line (x ∷ []) h = record { before = []; last = x; is = refl; were = tt; comes = h.0 }
parted s [] line (x ∷ y ∷ others) h = absurd h.1
parted s (l ∷ front) line [] h = absurd h
parted s (l ∷ front) line (x ∷ others) h =
    let p : Parted (next_of s x) front line others = parted (next_of s x) front line others h.1 in
    record { before = x ∷ p.before; last = p.last; is = ap (λ xs. x ∷ xs) p.is; were = (h.0, p.were); comes = p.comes }

-- what holds of all of some lines and one more
all-front : (P : List ℕ → Type 0) (front : List (List ℕ)) (line : List ℕ) → All P (front ++ line ∷ []) → All P front × P line
all-front P [] line h = (All-nil P, All-head P line [] h)
all-front P (x ∷ front) line h =
    let p = all-front P front line (All-tail P x (front ++ line ∷ []) h) in
    (All-cons P x front (All-head P x (front ++ line ∷ []) h) p.0, p.1)

abbrev IsOther : List ℕ → Type 0
IsOther line = ¬ IsResumeLine line

-- both sides behind some lines
record Behind (limit : ℕ) (lines : List (List ℕ)) (a : advice.State) (answers : List Answer) : Type 0 where
  stands : Stands limit (row_lines lines) a (after (empty limit) answers)
  counts : Counts a (list_any is_refused answers)

or-false : (c : Bool) → c || false ≡ c
or-false true = refl
or-false false = refl

any-push : (xs : List Answer) (x : Answer) → list_any is_refused (xs ++ x ∷ []) ≡ list_any is_refused xs || is_refused x
any-push xs x = list_any-append is_refused xs (x ∷ []) ∙ ap (λ c. list_any is_refused xs || c) (or-false (is_refused x))

one-behind : (limit : ℕ) (lines : List (List ℕ)) (a : advice.State) (line : List ℕ) (f : Finding) (answers before : List Answer) (last : Answer) → Behind limit lines a before → answers ≡ before ++ last ∷ []
    → Goes limit (row_lines lines) a (after (empty limit) before) line f last → Behind limit (lines ++ line ∷ []) (finding.after a line f) answers
one-behind limit lines a line f answers before last b e g = subst (Behind limit (lines ++ line ∷ []) (finding.after a line f)) (sym e) (record {
  stands = subst (λ s. Stands limit (row_lines (lines ++ line ∷ [])) (finding.after a line f) s) (sym (after-push (empty limit) before last))
      (subst (λ n. Stands limit n (finding.after a line f) (next_of (after (empty limit) before) last)) (sym (sum_by_push (λ l. cond (is_row_kind (kind_of_line (stripped l))) 1 0) lines line)) g.stands);
  counts = subst (Counts (finding.after a line f)) (sym (any-push before last ∙ ap (λ c. list_any is_refused before || c) (sym g.bad)))
      (more-counts a (finding.after a line f) (list_any is_refused before) (is_bad a f) (counts-one a line f) b.counts);
})

push : (limit : ℕ) (lines : List (List ℕ)) (a : advice.State) (line : List ℕ) (f : Finding) (answers : List Answer) → IsFinding a line f → AreAnswers (empty limit) (lines ++ line ∷ []) answers
    → All IsOther (lines ++ line ∷ []) → row_lines (lines ++ line ∷ []) ≤ limit
    → ((before : List Answer) → AreAnswers (empty limit) lines before → All IsOther lines → row_lines lines ≤ limit → Behind limit lines a before) → Behind limit (lines ++ line ∷ []) (finding.after a line f) answers
push limit lines a line f answers is h others few rest =
    let p : Parted (empty limit) lines line answers = parted (empty limit) lines line answers h in
    let sorts : All IsOther lines × IsOther line = all-front IsOther lines line others in
    let sum : row_lines (lines ++ line ∷ []) ≡ row_lines lines + row_count line = sum_by_push (λ l. cond (is_row_kind (kind_of_line (stripped l))) 1 0) lines line in
    let b : Behind limit lines a p.before = rest p.before p.were sorts.0 (omega (arith, few, sum)) in
    one-behind limit lines a line f answers p.before p.last b p.is
    (step limit (row_lines lines) a (after (empty limit) p.before) line b.stands (omega (arith, few, sum)) sorts.1 f p.last is p.comes)

behind : {lines : List (List ℕ)} {text : List ℕ} {a : advice.State} → ComeTo lines text a → (limit : ℕ) (answers : List Answer) → AreAnswers (empty limit) lines answers → All IsOther lines → row_lines lines ≤ limit → Behind limit lines a answers
unfolding after
behind none limit [] h others few = record {
  stands = record { streams = refl; live = refl; pages = refl; lock = refl; most = refl; room = refl; taken = omega arith };
  counts = refl;
}
behind none limit (x ∷ answers) h others few = absurd h
behind (one_more come line f is) limit answers h others few = push limit _ _ line f answers is h others few (behind come limit)

status-fine : (m n : ℕ) → m + n ≡ 0 → (if nat_eq m 0 then (if nat_eq n 0 then Done else Invalid) else Invalid) ≡ Done
status-fine m n nothing =
    let first : nat_eq m 0 ≡ true = grind (arith, nat_tests) in
    let second : nat_eq n 0 ≡ true = grind (arith, nat_tests) in
    ap (λ (b : Bool). if b then (if nat_eq n 0 then Done else Invalid) else Invalid) first ∙ ap (λ (b : Bool). if b then Done else Invalid) second

-- Done comes where both are none
status-done : (b c : Bool) → (if b then (if c then Done else Invalid) else Invalid) ≡ Done → (b ≡ true) × (c ≡ true)
status-done true true e = (refl, refl)
status-done true false e = cc
status-done false c e = cc

some-bad : (m n : ℕ) → 0 < m + n → nat_eq m 0 ≡ true → nat_eq n 0 ≡ true → ⊥
some-bad m n some e f = grind (arith, nat_tests)

tells : (a : advice.State) (b : Bool) → Counts a b → (status_for a ≡ Done) ↔ IsFalse b
tells a true h = ((λ e. let p = status-done (nat_eq a.refused 0) (nat_eq a.at_fault 0) e in absurd (some-bad a.refused a.at_fault h p.0 p.1)), λ e. absurd cc)
tells a false h = ((λ e. refl), λ e. status-fine a.refused a.at_fault h)

pub advise-tells-refusals : AdviseTellsRefusals
advise-tells-refusals lines o h limit answers are others few =
    subst (λ (x : Outcome). (x.status ≡ Done) ↔ IsFalse (list_any is_refused answers)) (sym h.is) (tells h.state (list_any is_refused answers) (behind h.come limit answers are others few).counts)
