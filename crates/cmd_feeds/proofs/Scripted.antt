-- How a session over feeds ends behind a script, and by its words.
use Rattle.std.proofs.Common.{◌≡◌, ℕ, ◌+◌, ◌≤◌, inl, inr, Bool, true, false, List, [], ◌∷◌, length, drop, get_or, map, refl, sym, ap, ◌∙◌, subst, arith, String, None, Some}
use Rattle.std.specs.String.{string_bytes}
use Rattle.std.specs.declared.option.Option.{Option}
use Rattle.std.specs.declared.alloc.Global.{Global}
use Rattle.io_streams.specs.Counts.{Rose}
use Rattle.io_streams.specs.Source.{SourceState}
use Rattle.io_streams.specs.Sink.{SinkState}
use Rattle.io_streams.specs.declared.status.Status.{Status}
use Rattle.io_streams.specs.declared.status.Status.TheVariants as status
use Rattle.io_streams.proofs.Writing.{Rose-earlier}
use Rattle.cmd_session.specs.State.{State, empty, after}
use Rattle.cmd_session.specs.Session.{SessionValue}
use Rattle.cmd_session.specs.Run.{IsNoFault, TookAll, AnsweredText}
use Rattle.cmd_feeds.specs.Gates.{gates_in}
use Rattle.cmd_feeds.specs.FeedsEnd.{Ran, SomeRose, NoneFell, RanBehind, ScriptRan, FeedsRan, FeedsEnd, Asked}
use Rattle.cmd_feeds.specs.Words.{AreFeedNames, AreFound, found_sources, sources_of, sources_with, word_at}
use Rattle.cmd_feeds.specs.declared.words.FeedWords.{FeedWords}
use Rattle.cmd_feeds.proofs.Outcomes.{no-fault, feeds-later, same-later}
use Rattle.cmd_feeds.proofs.WordForms.{map-drop, size-names}

-- the script was answered in full, and then feeds took turns
pub behind : (how : Status) (limit : ℕ) (words : List (List ℕ)) (script script' : SourceState) (feeds nows : List SourceState) (sink middle sink' : SinkState) (session : SessionValue)
    → (t : TookAll script script' (λ text. AnsweredText (empty limit) text sink middle session)) → script.faults ≤ script'.faults → sink.faults ≤ middle.faults
    → ((s : State) → s ≡ after (empty limit) t.holds.answers → Ran how (gates_in s words) s feeds nows middle sink') → RanBehind how limit words script script' feeds nows sink sink'
behind how limit words script script' feeds nows sink middle sink' session t read later goes = record {
  text = t.text;
  all = t.all;
  few = t.few;
  read = read;
  answers = t.holds.answers;
  are = t.holds.are;
  middle = middle;
  written = t.holds.written;
  later = later;
  goes = goes (after (empty limit) t.holds.answers) refl;
}

-- the feeds ended the session
pub script-ran : (how : Status) (limit : ℕ) (words : List (List ℕ)) (script script' : SourceState) (feeds nows : List SourceState) (sink sink' : SinkState)
    → RanBehind how limit words script script' feeds nows sink sink' → ScriptRan how false limit words script script' feeds nows sink sink'
script-ran status.Done limit words script script' feeds nows sink sink' h = (refl, h)
script-ran status.Invalid limit words script script' feeds nows sink sink' h = h.goes
script-ran status.Usage limit words script script' feeds nows sink sink' h = h.goes
script-ran status.ReadFault limit words script script' feeds nows sink sink' h = h
script-ran status.WriteFault limit words script script' feeds nows sink sink' h = (refl, inr h)
script-ran status.Memory limit words script script' feeds nows sink sink' h = (refl, inr (inr h))
script-ran status.ByteLimit limit words script script' feeds nows sink sink' h = (refl, inr h)

-- the same over sources in a list
pub script-cut : (how : Status) (limit : ℕ) (file : List ℕ) (words : List (List ℕ)) (sources nows : List SourceState) (script script' : SourceState) (feeds feeds' : List SourceState) (sink sink' : SinkState) → sources ≡ script ∷ feeds → nows ≡ script' ∷ feeds'
    → ScriptRan how false limit words script script' feeds feeds' sink sink' → FeedsRan how false limit (Some file) words sources nows sink sink'
script-cut how limit file words sources nows script script' feeds feeds' sink sink' e f h =
    subst (λ (xs : List SourceState). FeedsRan how false limit (Some file) words xs nows sink sink') (sym e)
    (subst (λ (ys : List SourceState). FeedsRan how false limit (Some file) words (script ∷ feeds) ys sink sink') (sym f) h)

no-fault-behind : (how : Status) (limit : ℕ) (words : List (List ℕ)) (script script' : SourceState) (feeds nows : List SourceState) (sink sink' : SinkState) → (SomeRose (script ∷ feeds) (script' ∷ nows) → ⊥) → (Rose sink.faults sink'.faults → ⊥)
    → RanBehind how limit words script script' feeds nows sink sink' → IsNoFault how
no-fault-behind how limit words script script' feeds nows sink sink' sources output h =
    no-fault how (gates_in (after (empty limit) h.answers) words) (after (empty limit) h.answers) feeds nows h.middle sink' (λ some. sources (inr some)) (λ rose. output (Rose-earlier _ _ _ h.later rose)) h.goes

-- a session in which nothing failed ends by none of the two faults
pub no-fault-script : (how : Status) (failed : Bool) (limit : ℕ) (words : List (List ℕ)) (script script' : SourceState) (feeds nows : List SourceState) (sink sink' : SinkState) → (SomeRose (script ∷ feeds) (script' ∷ nows) → ⊥) → (Rose sink.faults sink'.faults → ⊥)
    → ScriptRan how failed limit words script script' feeds nows sink sink' → IsNoFault how
no-fault-script status.Done failed limit words script script' feeds nows sink sink' sources output h = tt
no-fault-script status.Invalid failed limit words script script' feeds nows sink sink' sources output h = tt
no-fault-script status.Usage failed limit words script script' feeds nows sink sink' sources output h = tt
no-fault-script status.ReadFault true limit words script script' feeds nows sink sink' sources output h = sources (inl h.0.ends.0)
no-fault-script status.ReadFault false limit words script script' feeds nows sink sink' sources output h = no-fault-behind status.ReadFault limit words script script' feeds nows sink sink' sources output h
no-fault-script status.WriteFault failed limit words script script' feeds nows sink sink' sources output (same, inl h) = output h.0.ends.0
no-fault-script status.WriteFault failed limit words script script' feeds nows sink sink' sources output (same, inr h) = no-fault-behind status.WriteFault limit words script script' feeds nows sink sink' sources output h
no-fault-script status.Memory failed limit words script script' feeds nows sink sink' sources output h = tt
no-fault-script status.ByteLimit failed limit words script script' feeds nows sink sink' sources output h = tt

later-in : (script script' : SourceState) (feeds nows : List SourceState) → script.faults ≤ script'.faults → nows ≡ feeds → NoneFell (script ∷ feeds) (script' ∷ nows)
later-in script script' feeds nows l e = rw e (l, same-later feeds)

later-behind : (how : Status) (limit : ℕ) (words : List (List ℕ)) (script script' : SourceState) (feeds nows : List SourceState) (sink sink' : SinkState)
    → RanBehind how limit words script script' feeds nows sink sink' → NoneFell (script ∷ feeds) (script' ∷ nows)
later-behind how limit words script script' feeds nows sink sink' h =
    (h.read, feeds-later how (gates_in (after (empty limit) h.answers) words) (after (empty limit) h.answers) feeds nows h.middle sink' h.goes)

-- no count of faults of the sources fell
pub sources-later : (how : Status) (failed : Bool) (limit : ℕ) (words : List (List ℕ)) (script script' : SourceState) (feeds nows : List SourceState) (sink sink' : SinkState)
    → ScriptRan how failed limit words script script' feeds nows sink sink' → NoneFell (script ∷ feeds) (script' ∷ nows)
sources-later status.Done failed limit words script script' feeds nows sink sink' h = later-behind status.Done limit words script script' feeds nows sink sink' h.1
sources-later status.Invalid failed limit words script script' feeds nows sink sink' h = absurd h
sources-later status.Usage failed limit words script script' feeds nows sink sink' h = absurd h
sources-later status.ReadFault true limit words script script' feeds nows sink sink' h = later-in script script' feeds nows h.0.input_later h.1
sources-later status.ReadFault false limit words script script' feeds nows sink sink' h = later-behind status.ReadFault limit words script script' feeds nows sink sink' h
sources-later status.WriteFault failed limit words script script' feeds nows sink sink' (same, inl h) = later-in script script' feeds nows h.0.input_later h.1
sources-later status.WriteFault failed limit words script script' feeds nows sink sink' (same, inr h) = later-behind status.WriteFault limit words script script' feeds nows sink sink' h
sources-later status.Memory failed limit words script script' feeds nows sink sink' (same, inl h) = same-both script script' feeds nows h.0
  where
    same-both : (a b : SourceState) (xs ys : List SourceState) → b ∷ ys ≡ a ∷ xs → NoneFell (a ∷ xs) (b ∷ ys)
    same-both a b xs ys e =
        let head : b ≡ a = cc in
        let tail : ys ≡ xs = cc in
        rw (head, tail) (same-later (a ∷ xs))
sources-later status.Memory failed limit words script script' feeds nows sink sink' (same, inr (inl h)) = later-in script script' feeds nows h.0.input_later h.1
sources-later status.Memory failed limit words script script' feeds nows sink sink' (same, inr (inr h)) = later-behind status.Memory limit words script script' feeds nows sink sink' h
sources-later status.ByteLimit failed limit words script script' feeds nows sink sink' (same, inl h) = later-in script script' feeds nows h.0.input_later h.1
sources-later status.ByteLimit failed limit words script script' feeds nows sink sink' (same, inr h) = later-behind status.ByteLimit limit words script script' feeds nows sink sink' h

-- the same over sources in a list
pub no-fault-sources : (how : Status) (failed : Bool) (limit : ℕ) (words : List (List ℕ)) (sources nows : List SourceState) (sink sink' : SinkState) → (SomeRose sources nows → ⊥) → (Rose sink.faults sink'.faults → ⊥)
    → FeedsRan how failed limit (Some []) words sources nows sink sink' → IsNoFault how
no-fault-sources how failed limit words [] nows sink sink' feeds output h = absurd h
no-fault-sources how failed limit words (script ∷ sources) [] sink sink' feeds output h = absurd h
no-fault-sources how failed limit words (script ∷ sources) (script' ∷ nows) sink sink' feeds output h = no-fault-script how failed limit words script script' sources nows sink sink' feeds output h

pub later-sources : (how : Status) (failed : Bool) (limit : ℕ) (words : List (List ℕ)) (sources nows : List SourceState) (sink sink' : SinkState)
    → FeedsRan how failed limit (Some []) words sources nows sink sink' → NoneFell sources nows
later-sources how failed limit words [] nows sink sink' h = absurd h
later-sources how failed limit words (script ∷ sources) [] sink sink' h = absurd h
later-sources how failed limit words (script ∷ sources) (script' ∷ nows) sink sink' h = sources-later how failed limit words script script' sources nows sink sink' h

-- the words ask for a session, and it ended so
asked : (words : List (String Global)) (count limit : ℕ) (script : Option (List ℕ)) (names : List (List ℕ)) (P : ℕ → Option (List ℕ) → List (List ℕ) → Type 0) → AreFeedNames words limit script names → sources_of script names ≡ count → P limit script names → Asked words count P
asked words count limit script names P are many h = record { limit = limit; script = script; names = names; asks = are; many = many; holds = h }

usage-never : (failed : Bool) (limit : ℕ) (script : Option (List ℕ)) (names : List (List ℕ)) (sources nows : List SourceState) (sink sink' : SinkState) → FeedsRan status.Usage failed limit script names sources nows sink sink' → ⊥
usage-never failed limit None names sources nows sink sink' h = h.1
usage-never failed limit (Some file) names [] nows sink sink' h = h
usage-never failed limit (Some file) names (script ∷ sources) [] sink sink' h = h
usage-never failed limit (Some file) names (script ∷ sources) (script' ∷ nows) sink sink' h = h

invalid-never : (failed : Bool) (limit : ℕ) (script : Option (List ℕ)) (names : List (List ℕ)) (sources nows : List SourceState) (sink sink' : SinkState) → FeedsRan status.Invalid failed limit script names sources nows sink sink' → ⊥
invalid-never failed limit None names sources nows sink sink' h = h.1
invalid-never failed limit (Some file) names [] nows sink sink' h = h
invalid-never failed limit (Some file) names (script ∷ sources) [] sink sink' h = h
invalid-never failed limit (Some file) names (script ∷ sources) (script' ∷ nows) sink sink' h = h

pub feeds-end : (how : Status) (failed : Bool) (words : List (String Global)) (limit : ℕ) (script : Option (List ℕ)) (names : List (List ℕ)) (sources nows : List SourceState) (sink sink' : SinkState) → AreFeedNames words limit script names
    → sources_of script names ≡ length sources → FeedsRan how failed limit script names sources nows sink sink' → FeedsEnd how failed words sources nows sink sink'
feeds-end status.Done failed words limit script names sources nows sink sink' are many h = asked words (length sources) limit script names (λ l s n. FeedsRan status.Done failed l s n sources nows sink sink') are many h
feeds-end status.Invalid failed words limit script names sources nows sink sink' are many h = invalid-never failed limit script names sources nows sink sink' h
feeds-end status.Usage failed words limit script names sources nows sink sink' are many h = absurd (usage-never failed limit script names sources nows sink sink' h)
feeds-end status.ReadFault failed words limit script names sources nows sink sink' are many h = asked words (length sources) limit script names (λ l s n. FeedsRan status.ReadFault failed l s n sources nows sink sink') are many h
feeds-end status.WriteFault failed words limit script names sources nows sink sink' are many h = asked words (length sources) limit script names (λ l s n. FeedsRan status.WriteFault failed l s n sources nows sink sink') are many h
feeds-end status.Memory failed words limit script names sources nows sink sink' are many h = asked words (length sources) limit script names (λ l s n. FeedsRan status.Memory failed l s n sources nows sink sink') are many h
feeds-end status.ByteLimit failed words limit script names sources nows sink sink' are many h = asked words (length sources) limit script names (λ l s n. FeedsRan status.ByteLimit failed l s n sources nows sink sink') are many h

-- the words that were found name a script, and it ended so
pub found-end : (how : Status) (failed : Bool) (words : List (String Global)) (found : FeedWords) (place : ℕ) (rest : List (String Global)) (sources nows : List SourceState) (sink sink' : SinkState) → AreFound words found → found.script ≡ Some place
    → rest ≡ drop found.first words → found_sources found ≡ length sources → ((file : List ℕ) → FeedsRan how failed found.limit (Some file) (map string_bytes rest) sources nows sink sink') → FeedsEnd how failed words sources nows sink sink'
found-end how failed words found place rest sources nows sink sink' are e same many ran =
    let texts = map string_bytes words in
    let names : map string_bytes rest ≡ drop found.first texts = ap (map string_bytes) same ∙ map-drop found.first words in
    let script : word_at texts found.script ≡ Some (get_or texts place []) = ap (word_at texts) e in
    let size = size-names found.first found.count words are.count in
    feeds-end how failed words found.limit (word_at texts found.script) (drop found.first texts) sources nows sink sink' are.are
    (ap (λ (o : Option (List ℕ)). sources_with o (length (drop found.first texts))) script ∙ ap (λ (n : ℕ). n + 1) size ∙ sym (ap (λ (o : Option ℕ). sources_with o found.count) e) ∙ many)
    (subst (λ (o : Option (List ℕ)). FeedsRan how failed found.limit o (drop found.first texts) sources nows sink sink') (sym script)
    (subst (λ (ns : List (List ℕ)). FeedsRan how failed found.limit (Some (get_or texts place [])) ns sources nows sink sink') names (ran (get_or texts place []))))
