-- How far a text is fed by its front: rows that are only counted, and the line behind them.
use Rattle.std.proofs.Common.{◌≡◌, ℕ, ◌+◌, ◌-◌, ◌<◌, ◌≤◌, List, [], length, take, drop, length-drop, get_or, refl, sym, ap, ◌∙◌, subst, arith, Some}
use Rattle.std.proofs.lemmas.List.{drop-drop, get_or-drop}
use Rattle.io_streams.specs.Sink.{SinkState}
use Rattle.io_line_reader.specs.Reading.{IsFirstFeed}
use Rattle.io_row_reader.specs.Ahead.{IsEnded}
use Rattle.cmd_session.specs.declared.outcome.LineOutcome.{LineOutcome}
use Rattle.cmd_session.specs.declared.outcome.LineOutcome.TheVariants.{Done, Memory, WriteFault}
use Rattle.cmd_session.specs.Counted.{AreCounted, no_row, row_more}
use Rattle.cmd_session.specs.State.{State, after}
use Rattle.cmd_session.specs.Session.{Answered, SessionValue, StandsFor}
use Rattle.cmd_session.specs.Run.{HasState}
use Rattle.lib_session.specs.Fed.{AnswersFront, FedWithin, FedToCreate, FedToReply}
use Rattle.lib_session.proofs.Feeding.{counted, leaves, grows, lacks_memory, breaks_off}

-- a sink that holds so much
abbrev holding : List ℕ → SinkState
holding mid = record { written = Some mid; faults = 0; below = 0; passed = 0 }

-- the first line was answered, and no row before it was counted
pub first_answered : (text : List ℕ) (old : SessionValue) (len : ℕ) (how : LineOutcome) (new : SessionValue) (before now : SinkState) → IsFirstFeed text len → ((s : State) → StandsFor old s → Answered how s (take len text) new before now)
    → AnswersFront text old len how new before now
first_answered text old len how new before now feed reply = record {
  count = 0;
  begin = 0;
  end = 0;
  left = old;
  rows = no_row refl refl refl;
  first = len;
  feed = feed;
  size = omega arith;
  reply = reply;
}

-- behind rows that were counted a text ends as it did
pub ended_behind : (text : List ℕ) (place : ℕ) → place < length text → IsEnded text → IsEnded (drop place text)
ended_behind text place inside ended =
    let size = length-drop place text in
    let here : place + (length (drop place text) - 1) ≡ length text - 1 = omega (arith, size, inside) in
    get_or-drop place text (length (drop place text) - 1) 0 ∙ ap (λ (n : ℕ). get_or text n 0) here ∙ ended

-- rows before it end within a text
pub counted_inside : (text : List ℕ) (old : SessionValue) (count begin end : ℕ) (kept : SessionValue) → 0 < length text → AreCounted text old count begin end kept → end < length text
counted_inside text old count begin end kept some (no_row c e same) = omega (arith, e, some)
counted_inside text old count begin end kept some (row_more before start len left first row nothing c e) = omega (arith, e, row.row.before, length-drop begin text)

-- rows that are only counted are answered by nothing
counts : (s : State) (text : List ℕ) (taken most : ℕ) (held mid rest : List ℕ) (old : SessionValue) → FedWithin s text taken most held mid old → rest ≡ drop taken text → length mid < most
    → (count begin end : ℕ) (kept : SessionValue) → AreCounted rest old count begin end kept → FedWithin s text (taken + end) most held mid kept
counts s text taken most held mid rest old p at few count begin end kept (no_row c e same) =
    let size : taken ≡ taken + end = omega (arith, e) in
    subst (λ (k : SessionValue). FedWithin s text (taken + end) most held mid k) (sym same) (subst (λ (n : ℕ). FedWithin s text n most held mid old) size p)
counts s text taken most held mid rest old p at few count begin end kept (row_more before start len left first row nothing c e) =
    let was = counts s text taken most held mid rest old p at few before start begin left first in
    let here : drop begin rest ≡ drop (taken + begin) text = ap (λ (r : List ℕ). drop begin r) at ∙ drop-drop begin taken text in
    let size : taken + begin + (len + 1) ≡ taken + end = omega (arith, e) in
    subst (λ (n : ℕ). FedWithin s text n most held mid kept) size
    (grows s text (taken + begin) len most held mid mid (drop begin rest) left kept (holding mid) (holding mid) was here row.row.feed few refl refl Done refl (nothing (after s was.fed.answers) (holding mid) was.fed.stands))

-- each is a line, and the session stands for some state then
pub counts_on : (rest : List ℕ) (old : SessionValue) → HasState old → (count begin end : ℕ) (kept : SessionValue) → AreCounted rest old count begin end kept → HasState kept × (kept.lines ≤ old.lines + end)
counts_on rest old known count begin end kept (no_row c e same) = (subst HasState (sym same) known, (let lines : kept.lines ≡ old.lines = ap (λ (k : SessionValue). k.lines) same in omega (arith, lines)))
counts_on rest old known count begin end kept (row_more before start len left first row nothing c e) =
    let was = counts_on rest old known before start begin left first in
    let stands = was.0.stands in
    let a = nothing was.0.state (holding []) stands in
    let one = counted Done was.0.state (take len (drop begin rest)) left kept (holding []) (holding []) stands a in
    (leaves Done was.0.state (take len (drop begin rest)) kept (holding []) (holding []) a, (let lines = was.1 in omega (arith, one, lines, e)))

module _ (s : State) (text : List ℕ) (taken most : ℕ) (held mid full rest : List ℕ) (old new : SessionValue) (how : LineOutcome) (len : ℕ) (before now : SinkState)
    (p : FedWithin s text taken most held mid old) (at : rest ≡ drop taken text) (few : length mid < most) (told : before.written ≡ Some mid) (told' : now.written ≡ Some full) (f : AnswersFront rest old len how new before now) where
  there : FedWithin s text (taken + f.end) most held mid f.left
  there = counts s text taken most held mid rest old p at few f.count f.begin f.end f.left f.rows

  behind : drop f.end rest ≡ drop (taken + f.end) text
  behind = ap (λ (r : List ℕ). drop f.end r) at ∙ drop-drop f.end taken text

  size : taken + f.end + (f.first + 1) ≡ taken + (len + 1)
  size = (let e = f.size in omega (arith, e))

  pub front_grows : how ≡ Done → FedWithin s text (taken + (len + 1)) most held full new
  front_grows is =
      subst (λ (n : ℕ). FedWithin s text n most held full new) size
      (grows s text (taken + f.end) f.first most held mid full (drop f.end rest) f.left new before now there behind f.feed few told told' how is (f.reply (after s there.fed.answers) there.fed.stands))

  pub front_lacks_memory : how ≡ Memory → FedToCreate s text (taken + (len + 1)) most held full new
  front_lacks_memory is =
      subst (λ (n : ℕ). FedToCreate s text n most held full new) size
      (lacks_memory s text (taken + f.end) f.first most held mid full (drop f.end rest) f.left new before now there behind f.feed few told told' how is (f.reply (after s there.fed.answers) there.fed.stands))

  pub front_breaks_off : how ≡ WriteFault → FedToReply s text (taken + (len + 1)) most held full new
  front_breaks_off is =
      subst (λ (n : ℕ). FedToReply s text n most held full new) size
      (breaks_off s text (taken + f.end) f.first most held mid full (drop f.end rest) f.left new before now there behind f.feed few told told' how is (f.reply (after s there.fed.answers) there.fed.stands))

-- so it is a front of the text, and no line more than it has bytes
pub front_within : (text rest : List ℕ) (taken len : ℕ) (old new : SessionValue) (how : LineOutcome) (before now : SinkState) → rest ≡ drop taken text → AnswersFront rest old len how new before now → taken + (len + 1) ≤ length text
front_within text rest taken len old new how before now at f =
    let here = f.feed.0 in
    let size = f.size in
    omega (arith, here, size, length-drop f.end rest, ap length at, length-drop taken text)

module _ (rest : List ℕ) (old new : SessionValue) (how : LineOutcome) (len : ℕ) (before now : SinkState) (known : HasState old) (f : AnswersFront rest old len how new before now) where
  was : HasState f.left × (f.left.lines ≤ old.lines + f.end)
  was = counts_on rest old known f.count f.begin f.end f.left f.rows

  pub front_counted : new.lines ≤ old.lines + (len + 1)
  front_counted =
      let one = counted how was.0.state (take f.first (drop f.end rest)) f.left new before now was.0.stands (f.reply was.0.state was.0.stands) in
      let lines = was.1 in
      let size = f.size in
      omega (arith, one, lines, size)

  pub front_leaves : HasState new
  front_leaves = leaves how was.0.state (take f.first (drop f.end rest)) new before now (f.reply was.0.state was.0.stands)
