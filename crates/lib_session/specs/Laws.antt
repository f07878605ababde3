-- What holds of all texts that are fed.
use Rattle.std.specs.Prelude.{ℕ, List, [], ◌∷◌, ◌++◌, drop}
use Rattle.cmd_session.specs.Replies.{IsSessionText, AreReplies}
use Rattle.cmd_session.specs.Session.{SessionValue, StandsFor}
use Rattle.cmd_session.specs.State.{State, empty, initial}
use Rattle.lib_session.specs.Fed.{FedTo, FedAll}

-- A text of which a front was taken, and then what was not taken of it, is fed as the whole text. The replies to both, one behind the
-- other, are the replies to the whole, whatever was held before and cleared between.
abbrev pub RestIsFedLater : Type 0
RestIsFedLater = (s : State) → (text : List ℕ) → (taken : ℕ) → (between new : SessionValue) → (held held' replied replied' : List ℕ)
    → FedTo s text taken held (held ++ replied) between
    → ((s' : State) → StandsFor between s' → FedAll s' (drop taken text) held' (held' ++ replied') new)
    → FedAll s text [] (replied ++ replied') new

-- So are a text that ends with LF and another behind it.
abbrev pub FeedsInPieces : Type 0
FeedsInPieces = (s : State) → (front rest : List ℕ) → (between new : SessionValue) → (held held' replied replied' : List ℕ)
    → FedAll s (front ++ 10 ∷ []) held (held ++ replied) between
    → ((s' : State) → StandsFor between s' → FedAll s' rest held' (held' ++ replied') new)
    → FedAll s (front ++ 10 ∷ rest) [] (replied ++ replied') new

-- What a session of so many rows and pages replies to all that it is fed, from the state before the first line on, are the replies to the
-- lines of that.
abbrev pub RepliesAreToTheText : Type 0
RepliesAreToTheText = (limit pages : ℕ) → (text : List ℕ) → (new : SessionValue) → (replied : List ℕ)
    → FedAll (initial limit pages) text [] replied new → AreReplies (initial limit pages) text replied

-- With 16,384 pages it is the session text of that.
abbrev pub RepliesAreSessionText : Type 0
RepliesAreSessionText = (limit : ℕ) → (text : List ℕ) → (new : SessionValue) → (replied : List ℕ)
    → FedAll (empty limit) text [] replied new → IsSessionText limit text replied
