-- How a session over feeds ends, by its status.
use Rattle.std.proofs.Common.{◌≡◌, ℕ, zero, suc, ◌+◌, List, [], ◌∷◌, ◌++◌, map, replicate, inl, inr, refl, ap, subst, arith}
use Rattle.io_streams.specs.Source.{SourceState}
use Rattle.io_streams.specs.Sink.{SinkState}
use Rattle.io_streams.specs.declared.status.Status.{Status}
use Rattle.io_streams.specs.declared.status.Status.TheVariants as status
use Rattle.io_streams.specs.Counts.{Rose}
use Rattle.std.specs.declared.option.Option.{Option}
use Rattle.cmd_session.specs.Lock.{Lock}
use Rattle.cmd_session.specs.State.{State, empty}
use Rattle.cmd_session.specs.Run.{IsNoFault}
use Rattle.cmd_feeds.specs.declared.stage.Stage.{Stage}
use Rattle.cmd_feeds.specs.FeedsRead.{TakenFeed, AreLinesOf, IsTaken, OfEach, FeedsTaken}
use Rattle.cmd_feeds.specs.FeedsEnd.{SomeFailed, Ran, SomeRose, NoneFell, SessionRan}

pub session-ran : (how : Status) (limit : ℕ) (sources nows : List SourceState) (sink sink' : SinkState) → Ran how [] (empty limit) sources nows sink sink' → SessionRan how limit sources nows sink sink'
session-ran status.Done limit sources nows sink sink' h = h
session-ran status.Invalid limit sources nows sink sink' h = h
session-ran status.Usage limit sources nows sink sink' h = h
session-ran status.ReadFault limit sources nows sink sink' h = h
session-ran status.WriteFault limit sources nows sink sink' h = h
session-ran status.Memory limit sources nows sink sink' h = inr h
session-ran status.ByteLimit limit sources nows sink sink' h = h

-- a feed that has failed counted a fault
some-rose : (number : ℕ) (taken : List TakenFeed) → OfEach (λ m t. IsTaken t) number taken → SomeFailed taken → SomeRose (map (λ (t : TakenFeed). t.source) taken) (map (λ (t : TakenFeed). t.now) taken)
some-rose number [] are some = some
some-rose number (t ∷ taken) are (inl e) = inl (subst (λ (x : Stage). AreLinesOf x t) e are.0.are).0
some-rose number (t ∷ taken) are (inr some) = inr (some-rose (number + 1) taken are.1 some)

pub failed-rose : (sources nows : List SourceState) → (f : FeedsTaken sources nows) → SomeFailed f.taken → SomeRose sources nows
failed-rose sources nows f some =
    subst (λ (xs : List SourceState). SomeRose xs nows) f.before (subst (λ (xs : List SourceState). SomeRose (map (λ (t : TakenFeed). t.source) f.taken) xs) f.after (some-rose 1 f.taken f.are some))

-- a session over feeds in which nothing failed ends by none of the two faults
pub no-fault : (how : Status) (gates : List (Option Lock)) (s : State) (sources nows : List SourceState) (sink sink' : SinkState) → (SomeRose sources nows → ⊥) → (Rose sink.faults sink'.faults → ⊥) → Ran how gates s sources nows sink sink' → IsNoFault how
no-fault status.Done gates s sources nows sink sink' feeds output h = tt
no-fault status.Invalid gates s sources nows sink sink' feeds output h = tt
no-fault status.Usage gates s sources nows sink sink' feeds output h = tt
no-fault status.ReadFault gates s sources nows sink sink' feeds output h = feeds (failed-rose sources nows h.0 h.2)
no-fault status.WriteFault gates s sources nows sink sink' feeds output h = output h.0
no-fault status.Memory gates s sources nows sink sink' feeds output h = tt
no-fault status.ByteLimit gates s sources nows sink sink' feeds output h = tt

none-fell : (number : ℕ) (taken : List TakenFeed) → OfEach (λ m t. IsTaken t) number taken → NoneFell (map (λ (t : TakenFeed). t.source) taken) (map (λ (t : TakenFeed). t.now) taken)
none-fell number [] are = tt
none-fell number (t ∷ taken) are = (are.0.later, none-fell (number + 1) taken are.1)

taken-later : (sources nows : List SourceState) → FeedsTaken sources nows → NoneFell sources nows
taken-later sources nows f =
    subst (λ (xs : List SourceState). NoneFell xs nows) f.before (subst (λ (xs : List SourceState). NoneFell (map (λ (t : TakenFeed). t.source) f.taken) xs) f.after (none-fell 1 f.taken f.are))

pub same-later : (sources : List SourceState) → NoneFell sources sources
same-later [] = tt
same-later (source ∷ sources) = (omega arith, same-later sources)

-- no count of faults of the feeds fell
pub feeds-later : (how : Status) (gates : List (Option Lock)) (s : State) (sources nows : List SourceState) (sink sink' : SinkState) → Ran how gates s sources nows sink sink' → NoneFell sources nows
feeds-later status.Done gates s sources nows sink sink' h = taken-later sources nows h.0
feeds-later status.Invalid gates s sources nows sink sink' h = absurd h
feeds-later status.Usage gates s sources nows sink sink' h = absurd h
feeds-later status.ReadFault gates s sources nows sink sink' h = taken-later sources nows h.0
feeds-later status.WriteFault gates s sources nows sink sink' h = taken-later sources nows h.1
feeds-later status.Memory gates s sources nows sink sink' h = taken-later sources nows h.0
feeds-later status.ByteLimit gates s sources nows sink sink' h = taken-later sources nows h.0
