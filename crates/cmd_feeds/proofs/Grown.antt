-- What was taken of each feed in the end, of which what was told is a front.
use Rattle.std.proofs.Common.{◌≡◌, ℕ, zero, suc, ◌+◌, ◌<◌, inl, inr, Bool, true, false, ◌||◌, cond, List, [], ◌∷◌, ◌++◌, map, length, refl, sym, ap, ◌∙◌, subst, append_assoc, append-nil, arith, IfSome}
use Rattle.std.specs.Prelude.{⊤}
use Rattle.std.specs.List.{list_any}
use Rattle.std.proofs.lemmas.Bool.{false≢true}
use Rattle.sql_text.specs.Lines.{is_line_feed, lines}
use Rattle.io_line_reader.specs.Texts.{text_of, ended_part}
use Rattle.io_line_reader.proofs.GivenEnds.{text-lines}
use Rattle.cmd_session.specs.Events.{Event, lines_of, IsClose}
use Rattle.cmd_session.proofs.GivenAmong.{Given, given-close}
use Rattle.cmd_feeds.specs.declared.stage.Stage.TheVariants as stage
use Rattle.cmd_feeds.specs.Turns.{event_of}
use Rattle.cmd_feeds.specs.FeedsRead.{TakenFeed, feed_of, IsTaken, OfEach}
use Rattle.cmd_feeds.proofs.Rounds.{event-grown, AgreeBelow}
use Rattle.cmd_feeds.proofs.Rows.{Row, Each, feeds_of, sources_of, nows_of}
use Rattle.cmd_feeds.proofs.Around.{Stands, gives, done, broken}

-- little was taken of a feed beyond its lines up to one of the pending events
abbrev pub NearEach : List Event → List Event → ℕ → TakenFeed → Type 0
NearEach answered pending number t =
    t.stage ≡ stage.Open → (before : List Event) (here : Event) (others : List Event) → pending ≡ before ++ here ∷ others → IsClose t.text (lines_of number (answered ++ (before ++ here ∷ []))) t.now.last

-- What was taken of a feed, so that its events in the turns that it had stay. This holds of it.
pub record Grown (P : ℕ → TakenFeed → Type 0) (number turn : ℕ) (row : Row) : Type 0 where
  pub t : TakenFeed
  pub source : t.source ≡ row.source
  pub now : t.now ≡ row.now
  pub how : t.stage ≡ row.lane.stage
  pub is : IsTaken t
  pub agrees : (r : ℕ) → r < turn → event_of number r row.feed ≡ event_of number r (feed_of t)
  pub same : (row.lane.stage ≡ stage.Open → ⊥) → feed_of t ≡ row.feed
  pub holds : P number t

or-true : (b c : Bool) → c ≡ true → (b || c) ≡ true
or-true true c e = refl
or-true false c e = e

any-line_feed : (line rest : List ℕ) → list_any is_line_feed (line ++ 10 ∷ rest) ≡ true
any-line_feed [] rest = refl
any-line_feed (b ∷ line) rest = or-true (is_line_feed b) (list_any is_line_feed (line ++ 10 ∷ rest)) (any-line_feed line rest)

ended_part-line : (line rest : List ℕ) → ended_part (line ++ 10 ∷ rest) ≡ line ++ 10 ∷ ended_part rest
ended_part-line [] rest = refl
ended_part-line (b ∷ line) rest = ap (λ c. cond c (b ∷ ended_part (line ++ 10 ∷ rest)) []) (any-line_feed (b ∷ line) rest) ∙ ap (λ l. b ∷ l) (ended_part-line line rest)

-- whole lines stay
ended_part-front : (front : List (List ℕ)) (rest : List ℕ) → ended_part (text_of front ++ rest) ≡ text_of front ++ ended_part rest
ended_part-front [] rest = refl
ended_part-front (line ∷ front) rest =
    ap ended_part (append_assoc (line ++ 10 ∷ []) (text_of front) rest ∙ append_assoc line (10 ∷ []) (text_of front ++ rest))
    ∙ ended_part-line line (text_of front ++ rest)
    ∙ ap (λ l. line ++ 10 ∷ l) (ended_part-front front rest)
    ∙ sym (append_assoc (line ++ 10 ∷ []) (text_of front) (ended_part rest) ∙ append_assoc line (10 ∷ []) (text_of front ++ ended_part rest))

-- a feed that has not ended, by whether its source is at its end
grown-open : (answered pending : List Event) (number turn : ℕ) (row : Row) → row.lane.stage ≡ stage.Open → (g : Given number row.source row.now row.lane.reader answered pending) → row.feed.lines ≡ lines_of number (answered ++ pending)
    → row.feed.failed ≡ false → length row.feed.lines ≡ turn → (b : Bool) → row.lane.reader.ended ≡ b → Grown (NearEach answered pending) number turn row
grown-open answered pending number turn row yet-open g e f n true over =
    let all = g.given.over over in
    let text = g.front ++ row.lane.reader.ahead in
    let whole : text ≡ g.front = ap (λ l. g.front ++ l) all.0 ∙ append-nil g.front in
    let given : lines text ≡ row.feed.lines = text-lines row.source row.now row.lane.reader g.front (lines_of number (answered ++ pending)) g.given ∙ ap (λ l. lines_of number (answered ++ pending) ++ lines l) all.0
    ∙ append-nil (lines_of number (answered ++ pending)) ∙ sym e in
    record {
      t = record { source = row.source; now = row.now; stage = stage.Open; text = text; lines = row.feed.lines };
      source = refl;
      now = refl;
      how = sym yet-open;
      is = record { taken = g.given.taken; are = inr (subst (λ t. IfSome row.source.left (λ bytes. bytes ≡ t)) (sym whole) all.2, sym given); later = g.given.later };
      agrees = λ r l. event-grown number r row.feed (record { lines = row.feed.lines; failed = false }) [] (sym (append-nil row.feed.lines)) (omega (arith, l, n));
      same = λ ne. absurd (ne yet-open);
      holds = λ open-yet before here others at. given-close number row.source row.now row.lane.reader answered pending before here others g at;
    }
grown-open answered pending number turn row yet-open g e f n false unended =
    let ahead = row.lane.reader.ahead in
    let given = lines_of number (answered ++ pending) in
    let more = lines (ended_part ahead) in
    let part : ended_part (g.front ++ ahead) ≡ g.front ++ ended_part ahead =
    ap (λ l. ended_part (l ++ ahead)) (g.given.whole unended) ∙ ended_part-front given ahead ∙ ap (λ l. l ++ ended_part ahead) (sym (g.given.whole unended)) in
    let all : row.feed.lines ++ more ≡ lines (ended_part (g.front ++ ahead)) =
    ap (λ l. l ++ more) e ∙ sym (ap lines part ∙ g.given.cut (ended_part ahead) (λ ended. absurd (false≢true (sym unended ∙ ended)))) in
    record {
      t = record { source = row.source; now = row.now; stage = stage.Open; text = g.front ++ ahead; lines = row.feed.lines ++ more };
      source = refl;
      now = refl;
      how = sym yet-open;
      is = record { taken = g.given.taken; are = inl all; later = g.given.later };
      agrees = λ r l. event-grown number r row.feed (record { lines = row.feed.lines ++ more; failed = false }) more refl (omega (arith, l, n));
      same = λ ne. absurd (ne yet-open);
      holds = λ open-yet before here others at. given-close number row.source row.now row.lane.reader answered pending before here others g at;
    }

pub grown : (answered pending : List Event) (number turn : ℕ) (row : Row) → Stands answered pending number turn row → Grown (NearEach answered pending) number turn row
grown answered pending number turn row (gives yet-open g e f n) = grown-open answered pending number turn row yet-open g e f n row.lane.reader.ended refl
grown answered pending number turn row (done ended text all f n) = record {
  t = record { source = row.source; now = row.now; stage = stage.Ended; text = text; lines = row.feed.lines };
  source = refl;
  now = refl;
  how = sym ended;
  is = record { taken = all.all.taken; are = (all.all.whole, all.few, sym all.are); later = all.later };
  agrees = λ r l. ap (λ b. event_of number r (record { lines = row.feed.lines; failed = b })) f;
  same = λ ne. ap (λ b. record { lines = row.feed.lines; failed = b }) (sym f);
  holds = λ open-yet before here others at. absurd (never open-yet);
}
  where
    never : stage.Ended ≡ stage.Open → ⊥
    never e = cc
grown answered pending number turn row (broken failed text last rose f n) = record {
  t = record { source = row.source; now = row.now; stage = stage.Failed; text = text; lines = row.feed.lines };
  source = refl;
  now = refl;
  how = sym failed;
  is = record { taken = last.taken; are = (rose, sym last.are); later = last.later };
  agrees = λ r l. ap (λ b. event_of number r (record { lines = row.feed.lines; failed = b })) f;
  same = λ ne. ap (λ b. record { lines = row.feed.lines; failed = b }) (sym f);
  holds = λ open-yet before here others at. absurd (never open-yet);
}
  where
    never : stage.Failed ≡ stage.Open → ⊥
    never e = cc

-- no feed is yet-open
abbrev pub NoneOpen : List Row → Type 0
NoneOpen [] = ⊤
NoneOpen (row ∷ rows) = (row.lane.stage ≡ stage.Open → ⊥) × NoneOpen rows

-- the feeds of a call, in order
pub record AllGrown (P : ℕ → TakenFeed → Type 0) (number round place : ℕ) (rows : List Row) : Type 0 where
  pub taken : List TakenFeed
  pub sources : map (λ (t : TakenFeed). t.source) taken ≡ sources_of rows
  pub nows : map (λ (t : TakenFeed). t.now) taken ≡ nows_of rows
  pub stages : map (λ (t : TakenFeed). t.stage) taken ≡ map (λ (r : Row). r.lane.stage) rows
  pub are : OfEach (λ m t. IsTaken t) number taken
  pub agree : AgreeBelow number round place (feeds_of rows) (map feed_of taken)
  pub same : NoneOpen rows → map feed_of taken ≡ feeds_of rows
  pub hold : OfEach P number taken

all-cons : (P : ℕ → TakenFeed → Type 0) (number round place turn : ℕ) (row : Row) (rows : List Row) → (g : Grown P number turn row) → (rest : AllGrown P (number + 1) round place rows)
    → (place' : ℕ) → AgreeBelow number round place' (feeds_of (row ∷ rows)) (feed_of g.t ∷ map feed_of rest.taken) → AllGrown P number round place' (row ∷ rows)
all-cons P number round place turn row rows g rest place' agree = record {
  taken = g.t ∷ rest.taken;
  sources = (λ j. g.source j ∷ rest.sources j);
  nows = (λ j. g.now j ∷ rest.nows j);
  stages = (λ j. g.how j ∷ rest.stages j);
  are = (g.is, rest.are);
  agree = agree;
  same = λ none. (λ j. g.same none.0 j ∷ rest.same none.1 j);
  hold = (g.holds, rest.hold);
}

pub all-grown : (P : ℕ → TakenFeed → Type 0) (number round place : ℕ) (rows : List Row) → Each (Grown P) number round place rows → AllGrown P number round place rows
all-grown P number round place [] p = record { taken = []; sources = refl; nows = refl; stages = refl; are = tt; agree = tt; same = λ none. refl; hold = tt }
all-grown P number round zero (row ∷ rows) p =
    let rest = all-grown P (number + 1) round zero rows p.1 in
    all-cons P number round zero round row rows p.0 rest zero (p.0.agrees, rest.agree)
all-grown P number round (suc place) (row ∷ rows) p =
    let rest = all-grown P (number + 1) round place rows p.1 in
    all-cons P number round place (round + 1) row rows p.0 rest (suc place) (p.0.agrees, rest.agree)

pub of-each-map : (P Q : ℕ → TakenFeed → Type 0) (number : ℕ) (taken : List TakenFeed) → ((m : ℕ) (t : TakenFeed) → P m t → Q m t) → OfEach P number taken → OfEach Q number taken
of-each-map P Q number [] f p = tt
of-each-map P Q number (t ∷ taken) f p = (f number t p.0, of-each-map P Q (number + 1) taken f p.1)
