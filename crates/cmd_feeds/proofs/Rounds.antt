-- What was told of the turns, when feeds grow.
use Rattle.std.proofs.Common.{◌≡◌, ℕ, zero, suc, ◌+◌, ◌-◌, ◌<◌, ◌≤◌, Bool, true, false, ◌&&◌, nat_eq, nat_lt, cond, List, [], ◌∷◌, ◌++◌, length, take, drop, refl, sym, ap, ◌∙◌, subst, arith, slice_index_or, slice_set, append_assoc, append-nil}
use Rattle.std.specs.Prelude.{⊤}
use Rattle.std.specs.List.{flat_map, range_with_len}
use Rattle.std.proofs.lemmas.Bool.Decides.{nat_tests}
use Rattle.std.proofs.lemmas.List.Concat.{flat_map-append}
use Rattle.cmd_session.specs.Events.{Event, line, fault}
use Rattle.cmd_feeds.specs.Turns.{Feed, event_of, round_of, rounds, turns}
use Rattle.cmd_feeds.specs.FeedsRead.{told_in}

-- a feed has no event in rounds behind its last
pub event-past : (number round : ℕ) (feed : Feed) → length feed.lines < round → event_of number round feed ≡ []
event-past number round feed l =
    let e : nat_lt round (length feed.lines) ≡ false = grind (arith, nat_tests, l) in
    let n : nat_eq round (length feed.lines) ≡ false = grind (arith, nat_tests, l) in
    by_failed feed.failed e n
  where
    by_failed : (b : Bool) → nat_lt round (length feed.lines) ≡ false → nat_eq round (length feed.lines) ≡ false
        → cond (nat_lt round (length feed.lines)) (line number (slice_index_or feed.lines round []) ∷ []) (cond (b && nat_eq round (length feed.lines)) (fault number ∷ []) []) ≡ []
    by_failed true e n = rw (e, n) refl
    by_failed false e n = rw e refl

-- nor behind its last line, where it did not fail
pub event-ended : (number round : ℕ) (feed : Feed) → length feed.lines ≡ round → feed.failed ≡ false → event_of number round feed ≡ []
event-ended number round feed l f =
    let e : nat_lt round (length feed.lines) ≡ false = grind (arith, nat_tests, l) in
    rw (e, f) refl

-- its fault is behind its last line
pub event-fault : (number round : ℕ) (feed : Feed) → length feed.lines ≡ round → feed.failed ≡ true → event_of number round feed ≡ fault number ∷ []
event-fault number round feed l f =
    let e : nat_lt round (length feed.lines) ≡ false = grind (arith, nat_tests, l) in
    let n : nat_eq round (length feed.lines) ≡ true = grind (arith, nat_tests, l) in
    rw (e, f, n) refl

pub event-line : (number round : ℕ) (feed : Feed) → round < length feed.lines → event_of number round feed ≡ line number (slice_index_or feed.lines round []) ∷ []
event-line number round feed l =
    let e : nat_lt round (length feed.lines) ≡ true = grind (arith, nat_tests, l) in
    rw e refl

index-front : (xs ys : List (List ℕ)) (i : ℕ) → i < length xs → slice_index_or (xs ++ ys) i [] ≡ slice_index_or xs i []
index-front [] ys i l = absurd (omega (arith, l))
index-front (x ∷ xs) ys zero l = refl
index-front (x ∷ xs) ys (suc i) l = index-front xs ys i (omega (arith, l))

index-here : (xs ys : List (List ℕ)) (x : List ℕ) → slice_index_or (xs ++ x ∷ ys) (length xs) [] ≡ x
index-here [] ys x = refl
index-here (y ∷ xs) ys x = index-here xs ys x

length-front : (xs ys : List (List ℕ)) → length xs ≤ length (xs ++ ys)
length-front [] ys = omega arith
length-front (x ∷ xs) ys = let l = length-front xs ys in omega (arith, l)

-- the lines of a feed stay where more come
pub event-grown : (number round : ℕ) (feed later : Feed) (more : List (List ℕ)) → later.lines ≡ feed.lines ++ more → round < length feed.lines → event_of number round feed ≡ event_of number round later
event-grown number round feed later more e l =
    let longer : length feed.lines ≤ length later.lines = (let a = length-front feed.lines more in let b = ap (length {A = List ℕ}) e in omega (arith, a, b)) in
    event-line number round feed l
    ∙ ap (λ (x : List ℕ). line number x ∷ []) (sym (index-front feed.lines more round l) ∙ ap (λ (ls : List (List ℕ)). slice_index_or ls round []) (sym e))
    ∙ sym (event-line number round later (omega (arith, l, longer)))

-- the line that came last
pub event-here : (number : ℕ) (feed later : Feed) (text : List ℕ) → later.lines ≡ feed.lines ++ text ∷ [] → event_of number (length feed.lines) later ≡ line number text ∷ []
event-here number feed later text e =
    let longer : length later.lines ≡ length feed.lines + 1 = ap (length {A = List ℕ}) e ∙ length-push feed.lines in
    event-line number (length feed.lines) later (omega (arith, longer))
    ∙ ap (λ (x : List ℕ). line number x ∷ []) (ap (λ (ls : List (List ℕ)). slice_index_or ls (length feed.lines) []) e ∙ index-here feed.lines [] text)
  where
    length-push : (xs : List (List ℕ)) → length (xs ++ text ∷ []) ≡ length xs + 1
    length-push [] = refl
    length-push (x ∷ xs) = let r = length-push xs in omega (arith, r)

-- functions that agree on a range
pub flat-same : (f g : ℕ → List Event) (start many : ℕ) → ((r : ℕ) → r < start + many → f r ≡ g r) → flat_map f (range_with_len start many) ≡ flat_map g (range_with_len start many)
flat-same f g start zero same = refl
flat-same f g start (suc many) same =
    (λ j. same start (omega arith) j ++ flat-same f g (start + 1) many (λ r l. same r (omega (arith, l))) j)

flat-none : (f : ℕ → List Event) (start many : ℕ) → ((r : ℕ) → start ≤ r → f r ≡ []) → flat_map f (range_with_len start many) ≡ []
flat-none f start zero none = refl
flat-none f start (suc many) none = (λ j. none start (omega arith) j ++ flat-none f (start + 1) many (λ r l. none r (omega (arith, l))) j)

range-append : (start m n : ℕ) → range_with_len start (m + n) ≡ range_with_len start m ++ range_with_len (start + m) n
range-append start zero n = ap (range_with_len start) (let z : zero + n ≡ n = omega arith in z) ∙ ap (λ (s : ℕ). range_with_len s n) (let z : start ≡ start + zero = omega arith in z)
range-append start (suc m) n = ap (range_with_len start) (let z : suc m + n ≡ suc (m + n) = omega arith in z) ∙ ap (λ (l : List ℕ). start ∷ l) (range-append (start + 1) m n ∙ ap (λ (s : ℕ). range_with_len (start + 1) m ++ range_with_len s n) (let z : (start + 1) + m ≡ start + suc m = omega arith in z))

-- a range in two
flat-append : (f : ℕ → List Event) (m n : ℕ) → flat_map f (range_with_len 0 (m + n)) ≡ flat_map f (range_with_len 0 m) ++ flat_map f (range_with_len m n)
flat-append f m n =
    ap (flat_map f) (range-append 0 m n ∙ ap (λ (start : ℕ). range_with_len 0 m ++ range_with_len start n) (let z : 0 + m ≡ m = omega arith in z)) ∙ flat_map-append f (range_with_len 0 m) (range_with_len m n)

-- the events of a round of some feeds and others
round-append : (round number : ℕ) (feeds others : List Feed) → round_of round number (feeds ++ others) ≡ round_of round number feeds ++ round_of round (number + length feeds) others
round-append round number [] others = ap (λ (n : ℕ). round_of round n others) (let z : number ≡ number + 0 = omega arith in z)
round-append round number (feed ∷ feeds) others =
    ap (λ l. event_of number round feed ++ l) (round-append round (number + 1) feeds others ∙ ap (λ (n : ℕ). round_of round (number + 1) feeds ++ round_of round n others) (let z : (number + 1) + length feeds ≡ number + suc (length feeds) = omega arith in z))
    ∙ sym (append_assoc (event_of number round feed) (round_of round (number + 1) feeds) (round_of round (number + suc (length feeds)) others))

take-drop : (k : ℕ) (feeds : List Feed) → feeds ≡ take k feeds ++ drop k feeds
take-drop zero feeds = refl
take-drop (suc k) [] = refl
take-drop (suc k) (f ∷ feeds) = ap (λ l. f ∷ l) (take-drop k feeds)

length-take-all : (k : ℕ) (feeds : List Feed) → k ≤ length feeds → length (take k feeds) ≡ k
length-take-all zero feeds l = refl
length-take-all (suc k) [] l = absurd (omega (arith, l))
length-take-all (suc k) (f ∷ feeds) l = ap suc (length-take-all k feeds (omega (arith, l)))

take-next : (k : ℕ) (feeds : List Feed) (d : Feed) → k < length feeds → take (suc k) feeds ≡ take k feeds ++ slice_index_or feeds k d ∷ []
take-next k [] d l = absurd (omega (arith, l))
take-next zero (f ∷ feeds) d l = refl
take-next (suc k) (f ∷ feeds) d l = ap (λ t. f ∷ t) (take-next k feeds d (omega (arith, l)))

-- each feed has the same events in the rounds that it has been through: one more for the first feeds, up to a place
abbrev pub AgreeBelow : ℕ → ℕ → ℕ → List Feed → List Feed → Type 0
AgreeBelow number round place [] [] = ⊤
AgreeBelow number round place [] (g ∷ later) = ⊥
AgreeBelow number round place (f ∷ feeds) [] = ⊥
AgreeBelow number round zero (f ∷ feeds) (g ∷ later) = ((r : ℕ) → r < round → event_of number r f ≡ event_of number r g) × AgreeBelow (number + 1) round zero feeds later
AgreeBelow number round (suc place) (f ∷ feeds) (g ∷ later) = ((r : ℕ) → r < round + 1 → event_of number r f ≡ event_of number r g) × AgreeBelow (number + 1) round place feeds later

round-agrees : (r number round place : ℕ) (feeds later : List Feed) → r < round → AgreeBelow number round place feeds later → round_of r number feeds ≡ round_of r number later
round-agrees r number round place [] [] l p = refl
round-agrees r number round place [] (g ∷ later) l p = absurd p
round-agrees r number round place (f ∷ feeds) [] l p = absurd p
round-agrees r number round zero (f ∷ feeds) (g ∷ later) l p = (λ j. p.0 r l j ++ round-agrees r (number + 1) round zero feeds later l p.1 j)
round-agrees r number round (suc place) (f ∷ feeds) (g ∷ later) l p = (λ j. p.0 r (omega (arith, l)) j ++ round-agrees r (number + 1) round place feeds later l p.1 j)

front-agrees : (number round place : ℕ) (feeds later : List Feed) → AgreeBelow number round place feeds later → round_of round number (take place feeds) ≡ round_of round number (take place later)
front-agrees number round zero feeds later p = refl
front-agrees number round (suc place) [] [] p = refl
front-agrees number round (suc place) [] (g ∷ later) p = absurd p
front-agrees number round (suc place) (f ∷ feeds) [] p = absurd p
front-agrees number round (suc place) (f ∷ feeds) (g ∷ later) p = (λ j. p.0 round (omega arith) j ++ front-agrees (number + 1) round place feeds later p.1 j)

-- what was told stays when feeds grow
pub told-agrees : (round place : ℕ) (feeds later : List Feed) → AgreeBelow 1 round place feeds later → told_in round place feeds ≡ told_in round place later
told-agrees round place feeds later p =
    (λ j. flat-same (λ r. round_of r 1 feeds) (λ r. round_of r 1 later) 0 round (λ r l. round-agrees r 1 round place feeds later (omega (arith, l)) p) j ++ front-agrees 1 round place feeds later p j)

-- a feed of a place takes its turn
pub told-next : (round place : ℕ) (feeds : List Feed) (d : Feed) → place < length feeds → told_in round (suc place) feeds ≡ told_in round place feeds ++ event_of (1 + place) round (slice_index_or feeds place d)
told-next round place feeds d l =
    let whole = flat_map (λ r. round_of r 1 feeds) (range_with_len 0 round) in
    let e = event_of (1 + place) round (slice_index_or feeds place d) in
    ap (λ (fs : List Feed). whole ++ round_of round 1 fs) (take-next place feeds d l)
    ∙ ap (λ es. whole ++ es) (round-append round 1 (take place feeds) (slice_index_or feeds place d ∷ [])
    ∙ ap (λ (n : ℕ). round_of round 1 (take place feeds) ++ (event_of (1 + n) round (slice_index_or feeds place d) ++ [])) (length-take-all place feeds (omega (arith, l)))
    ∙ ap (λ es. round_of round 1 (take place feeds) ++ es) (append-nil e))
    ∙ sym (append_assoc whole (round_of round 1 (take place feeds)) e)

agree-refl : (number round : ℕ) (feeds : List Feed) → AgreeBelow number round zero feeds feeds
agree-refl number round [] = tt
agree-refl number round (f ∷ feeds) = (λ r l. refl, agree-refl (number + 1) round feeds)

agree-set : (number round place : ℕ) (feeds : List Feed) (later d : Feed) → ((r : ℕ) → r < round → event_of (number + place) r (slice_index_or feeds place d) ≡ event_of (number + place) r later)
    → AgreeBelow number round place feeds (slice_set feeds place later)
agree-set number round place [] later d same = tt
agree-set number round zero (f ∷ feeds) later d same = (
  λ r l. subst (λ (m : ℕ). event_of m r f ≡ event_of m r later) (let z : number + 0 ≡ number = omega arith in z) (same r l),
  agree-refl (number + 1) round feeds,
)
agree-set number round (suc place) (f ∷ feeds) later d same = (
  λ r l. refl,
  agree-set (number + 1) round place feeds later d (λ r l. subst (λ (m : ℕ). event_of m r (slice_index_or feeds place d) ≡ event_of m r later) (let z : number + suc place ≡ (number + 1) + place = omega arith in z) (same r l)),
)

set-here : (feeds : List Feed) (place : ℕ) (later d : Feed) → place < length feeds → slice_index_or (slice_set feeds place later) place d ≡ later
set-here [] place later d l = absurd (omega (arith, l))
set-here (f ∷ feeds) zero later d l = refl
set-here (f ∷ feeds) (suc place) later d l = set-here feeds place later d (omega (arith, l))

length-set : (feeds : List Feed) (place : ℕ) (later : Feed) → length (slice_set feeds place later) ≡ length feeds
length-set [] place later = refl
length-set (f ∷ feeds) zero later = refl
length-set (f ∷ feeds) (suc place) later = ap suc (length-set feeds place later)

-- a feed of a place takes its turn, in which it may grow
pub told-set : (round place : ℕ) (feeds : List Feed) (later d : Feed) → place < length feeds → ((r : ℕ) → r < round → event_of (1 + place) r (slice_index_or feeds place d) ≡ event_of (1 + place) r later)
    → told_in round (suc place) (slice_set feeds place later) ≡ told_in round place feeds ++ event_of (1 + place) round later
told-set round place feeds later d l same =
    told-next round place (slice_set feeds place later) d (omega (arith, l, length-set feeds place later))
    ∙ ap (λ (f : Feed). told_in round place (slice_set feeds place later) ++ event_of (1 + place) round f) (set-here feeds place later d l)
    ∙ ap (λ es. es ++ event_of (1 + place) round later) (sym (told-agrees round place feeds (slice_set feeds place later) (agree-set 1 round place feeds later d same)))

-- what was told stays when the feed of a place grows
pub told-put : (round place : ℕ) (feeds : List Feed) (later d : Feed) → ((r : ℕ) → r < round → event_of (1 + place) r (slice_index_or feeds place d) ≡ event_of (1 + place) r later)
    → told_in round place feeds ≡ told_in round place (slice_set feeds place later)
told-put round place feeds later d same = told-agrees round place feeds (slice_set feeds place later) (agree-set 1 round place feeds later d same)

take-all : (feeds : List Feed) → take (length feeds) feeds ≡ feeds
take-all [] = refl
take-all (f ∷ feeds) = ap (λ l. f ∷ l) (take-all feeds)

-- a round is over
pub told-round : (round : ℕ) (feeds : List Feed) → told_in round (length feeds) feeds ≡ told_in (round + 1) 0 feeds
told-round round feeds =
    let f = (λ (r : ℕ). round_of r 1 feeds) in
    ap (λ (fs : List Feed). flat_map f (range_with_len 0 round) ++ round_of round 1 fs) (take-all feeds)
    ∙ ap (λ es. flat_map f (range_with_len 0 round) ++ es) (sym (append-nil (round_of round 1 feeds)))
    ∙ sym (flat-append f round 1)
    ∙ sym (append-nil (flat_map f (range_with_len 0 (round + 1))))

past-rounds : (r number : ℕ) (feeds : List Feed) → rounds feeds ≤ r → round_of r number feeds ≡ []
past-rounds r number [] l = refl
past-rounds r number (f ∷ feeds) l = (λ j. event-past number r f (omega (arith, l)) j ++ past-rounds r (number + 1) feeds (omega (arith, l)) j)

-- no event comes behind the last round
turns-longer : (more : ℕ) (feeds : List Feed) → flat_map (λ r. round_of r 1 feeds) (range_with_len 0 (rounds feeds + more)) ≡ turns feeds
turns-longer more feeds =
    let f = (λ (r : ℕ). round_of r 1 feeds) in
    flat-append f (rounds feeds) more
    ∙ ap (λ es. flat_map f (range_with_len 0 (rounds feeds)) ++ es) (flat-none f (rounds feeds) more (λ r l. past-rounds r 1 feeds l))
    ∙ append-nil (turns feeds)

-- what was told is a front of the turns
pub told-front : (round place : ℕ) (feeds : List Feed) → (more : List Event) × (turns feeds ≡ told_in round place feeds ++ more)
told-front round place feeds =
    let f = (λ (r : ℕ). round_of r 1 feeds) in
    let whole = flat_map f (range_with_len 0 round) in
    let here = round_of round 1 (take place feeds) in
    let beside = round_of round (1 + length (take place feeds)) (drop place feeds) in
    let rest = flat_map f (range_with_len (round + 1) (rounds feeds)) in (
      beside ++ rest,
      sym (turns-longer (round + 1) feeds)
          ∙ ap (λ (n : ℕ). flat_map f (range_with_len 0 n)) (let z : rounds feeds + (round + 1) ≡ (round + 1) + rounds feeds = omega arith in z)
          ∙ flat-append f (round + 1) (rounds feeds)
          ∙ ap (λ es. es ++ rest) (flat-append f round 1 ∙ ap (λ es. whole ++ es) (append-nil (round_of round 1 feeds) ∙ ap (λ (fs : List Feed). round_of round 1 fs) (take-drop place feeds) ∙ round-append round 1 (take place feeds) (drop place feeds)))
          ∙ ap (λ es. es ++ rest) (sym (append_assoc whole here beside))
          ∙ append_assoc (whole ++ here) beside rest,
    )

-- each feed has given its lines in earlier rounds
abbrev pub AllPast : ℕ → List Feed → Type 0
AllPast round [] = ⊤
AllPast round (f ∷ feeds) = (length f.lines < round) × AllPast round feeds

rounds-past : (round : ℕ) (feeds : List Feed) → AllPast round feeds → rounds feeds ≤ round
rounds-past round [] p = omega arith
rounds-past round (f ∷ feeds) p =
    let rest = rounds-past round feeds p.1 in
    omega (arith, rest, p.0)

-- then all was told
pub told-all : (round : ℕ) (feeds : List Feed) → AllPast round feeds → told_in round 0 feeds ≡ turns feeds
told-all round feeds p =
    let f = (λ (r : ℕ). round_of r 1 feeds) in
    let le = rounds-past round feeds p in
    append-nil (flat_map f (range_with_len 0 round)) ∙ by_more round le
  where
    by_more : (n : ℕ) → rounds feeds ≤ n → flat_map (λ r. round_of r 1 feeds) (range_with_len 0 n) ≡ turns feeds
    by_more n le = more (rounds feeds) n le refl
      where
        more : (m n : ℕ) → m ≤ n → m ≡ rounds feeds → flat_map (λ r. round_of r 1 feeds) (range_with_len 0 n) ≡ turns feeds
        more m n le e =
            let z : n ≡ rounds feeds + (n - rounds feeds) = omega (arith, le, e) in
            ap (λ (k : ℕ). flat_map (λ r. round_of r 1 feeds) (range_with_len 0 k)) z ∙ turns-longer (n - rounds feeds) feeds
