-- The lines of a script, and the sources behind it.
use Rattle.std.proofs.Common.{◌≡◌, ℕ, zero, suc, ◌+◌, ◌-◌, ◌^◌, ◌<◌, ◌≤◌, Bool, true, false, cond, List, [], ◌∷◌, ◌++◌, length, take, map, refl, ap, ◌∙◌, subst, arith, String, slice_index_or, slice_set}
use Rattle.std.specs.List.{slice_split, onto_first}
use Rattle.std.specs.String.{string_bytes}
use Rattle.std.specs.declared.alloc.Global.{Global}
use Rattle.std.specs.declared.option.Option.{Option}
use Rattle.io_streams.specs.Source.{SourceState}
use Rattle.io_streams.specs.Sink.{SinkState}
use Rattle.io_streams.specs.declared.status.Status.{Status}
use Rattle.sql_catalog.specs.Streams.{Shape}
use Rattle.sql_text.specs.Lines.{is_line_feed, lines, without_empty_last}
use Rattle.cmd_session.specs.Answer.{Answer}
use Rattle.cmd_session.specs.Lock.{Lock}
use Rattle.cmd_session.specs.Replies.{AreAnswers}
use Rattle.cmd_session.specs.State.{State, next_of, after}
use Rattle.cmd_session.specs.Session.{SessionValue, StandsFor}
use Rattle.cmd_session.proofs.LineRuns.{next_of-lines}
use Rattle.cmd_feeds.specs.FeedsEnd.{RanLater}
use Rattle.cmd_feeds.specs.Gates.{gate_of}

-- a text has no more lines than bytes
few-lines : (text : List ℕ) → length (lines text) ≤ length text
few-lines [] = omega arith
few-lines (x ∷ text) = by_test (is_line_feed x) (slice_split is_line_feed text) (few-lines text)
  where
    by_test : (b : Bool) (pieces : List (List ℕ)) → length (without_empty_last pieces) ≤ length text → length (without_empty_last (cond b ([] ∷ pieces) (onto_first x pieces))) ≤ suc (length text)
    by_test true [] l = omega arith
    by_test true (y ∷ ys) l = omega (arith, l)
    by_test false [] l = omega arith
    by_test false ([] ∷ []) l = omega arith
    by_test false ([] ∷ z ∷ zs) l = omega (arith, l)
    by_test false ((c ∷ cs) ∷ ys) l = omega (arith, l)

-- each line is counted
lines-after : (s : State) (ls : List (List ℕ)) (answers : List Answer) → AreAnswers s ls answers → (after s answers).lines ≡ s.lines + length ls
unfolding after
lines-after s [] [] p = omega arith
lines-after s [] (a ∷ answers) p = absurd p
lines-after s (l ∷ ls) [] p = absurd p
lines-after s (l ∷ ls) (a ∷ answers) p =
    let rest = lines-after (next_of s a) ls answers p.1 in
    let one = next_of-lines s a in
    omega (arith, rest, one)

-- behind a script there are no more lines than a session over feeds takes
pub script-room : (k : SessionValue) (s : State) (text : List ℕ) (answers : List Answer) → s.lines ≡ 0 → AreAnswers s (lines text) answers → StandsFor k (after s answers) → length text < 2 ^ 64 - 1 → k.lines ≤ 2 ^ 64 - 2
script-room k s text answers none are stands few = omega (arith, none, lines-after s (lines text) answers are, few-lines text, stands.lines, few)

-- the first source is the script
pub record Cut {X : Type 0} (seen : X → SourceState) (sources changed : List X) (script script' : X) (back back' : List X) : Type 0 where
  pub before : map seen sources ≡ seen script ∷ map seen back
  pub after : map seen changed ≡ seen script' ∷ map seen back'

pub cut-sources : {X : Type 0} (seen : X → SourceState) (sources front back back' : List X) (x d : X) → sources ≡ front ++ back → length front ≡ 1 → Cut seen sources (slice_set front 0 x ++ back') (slice_index_or front 0 d) x back back'
cut-sources seen sources [] back back' x d e l = absurd (omega (arith, l))
cut-sources seen sources (y ∷ []) back back' x d e l = record { before = ap (map seen) e; after = refl }
cut-sources seen sources (y ∷ z ∷ front) back back' x d e l = absurd (omega (arith, l))

pub ran-gates : (how : Status) (gates others : List (Option Lock)) (s : State) (sources nows : List SourceState) (sink sink' : SinkState) → gates ≡ others → RanLater how gates s sources nows sink sink' → RanLater how others s sources nows sink sink'
ran-gates how gates others s sources nows sink sink' e r = subst (λ (gs : List (Option Lock)). RanLater how gs s sources nows sink sink') e r

take-all : (n : ℕ) (words : List (String Global)) → length words ≤ n → take n words ≡ words
take-all zero [] l = refl
take-all zero (x ∷ words) l = absurd (omega (arith, l))
take-all (suc n) [] l = refl
take-all (suc n) (x ∷ words) l = ap (λ ws. x ∷ ws) (take-all n words (omega (arith, l)))

map-both : (lock : Option Lock) (streams : List Shape) (words : List (String Global)) → map (λ (word : String Global). gate_of lock streams (string_bytes word)) words ≡ map (gate_of lock streams) (map string_bytes words)
map-both lock streams [] = refl
map-both lock streams (x ∷ words) = ap (λ l. gate_of lock streams (string_bytes x) ∷ l) (map-both lock streams words)

-- the locks of all words were made
pub gates-are : (words : List (String Global)) (n : ℕ) (lock other : Option Lock) (streams others : List Shape) (gates : List (Option Lock)) → gates ≡ map (λ (word : String Global). gate_of lock streams (string_bytes word)) (take n words)
    → length words ≤ n → lock ≡ other → streams ≡ others → gates ≡ map (gate_of other others) (map string_bytes words)
gates-are words n lock other streams others gates e l same alike =
    e ∙ ap (map (λ (word : String Global). gate_of lock streams (string_bytes word))) (take-all n words l) ∙ map-both lock streams words
    ∙ ap (λ (k : Option Lock). map (gate_of k streams) (map string_bytes words)) same ∙ ap (λ (shapes : List Shape). map (gate_of other shapes) (map string_bytes words)) alike
