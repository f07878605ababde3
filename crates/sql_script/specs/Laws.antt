-- The laws of scripts.
use Rattle.std.specs.Prelude.{◌≡◌, ℕ, Bool, List}
use Rattle.sem_query.specs.Query.{QueryValue}
use Rattle.sql_catalog.specs.Streams.{Shape}
use Rattle.sql_parser.specs.declared.tree.SelectAst.{SelectAst}
use Rattle.sql_replies.specs.declared.refusal.Refusal.{Refusal}
use Rattle.sql_script.specs.Script.{Asks, IsRefusedAt}

-- these lines ask for one query at most, by one statement in one line, over one list of streams
abbrev pub AskForOne : List (List ℕ) → Type 0
AskForOne lines = (streams : List Shape) → (others : List Shape) → (name : List ℕ) → (title : List ℕ) → (select : SelectAst) → (choice : SelectAst) → (shared : Bool) → (joint : Bool) → (q : QueryValue) → (r : QueryValue) → (m : ℕ) → (n : ℕ)
    → Asks lines streams name select shared q m → Asks lines others title choice joint r n → (streams ≡ others) × (name ≡ title) × (select ≡ choice) × (shared ≡ joint) × (q ≡ r) × (m ≡ n)

-- they are refused at one line at most, by one word
abbrev pub AreRefusedOnce : List (List ℕ) → Type 0
AreRefusedOnce lines = (m : ℕ) → (n : ℕ) → (v : Refusal) → (w : Refusal) → IsRefusedAt lines m v → IsRefusedAt lines n w → (m ≡ n) × (v ≡ w)

-- they are not refused where they ask for a query
abbrev pub AreNotBoth : List (List ℕ) → Type 0
AreNotBoth lines = (streams : List Shape) → (name : List ℕ) → (select : SelectAst) → (shared : Bool) → (q : QueryValue) → (m : ℕ) → (n : ℕ) → (word : Refusal) → Asks lines streams name select shared q m → ¬ (IsRefusedAt lines n word)

-- the lines of a script determine its query, or the line that is refused and the word
abbrev pub HasOneEnd : Type 0
HasOneEnd = (lines : List (List ℕ)) → AskForOne lines × AreRefusedOnce lines × AreNotBoth lines
