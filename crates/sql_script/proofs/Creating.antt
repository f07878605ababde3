-- Lines that create streams, one after another.
use Rattle.std.proofs.Common.{ℕ, List, [], ◌∷◌, ◌++◌, refl}
use Rattle.std.specs.List.{AllByRecursion}
use Rattle.sql_catalog.specs.Streams.{Shape}
use Rattle.sql_script.specs.Script as scripts
use Rattle.sql_script.specs.Script.{IsScriptLine, fits, stream, IsBlank, CreateStreams}

-- lines behind lines
pub create-behind : {streams between all : List Shape} {lines others : List (List ℕ)} → CreateStreams streams lines between → CreateStreams between others all → CreateStreams streams (lines ++ others) all
create-behind scripts.none rest = rest
create-behind (scripts.blank is front) rest = scripts.blank is (create-behind front rest)
create-behind (scripts.one shape is front) rest = scripts.one shape is (create-behind front rest)

-- blank lines create nothing
pub create-blank : (streams : List Shape) (blanks : List (List ℕ)) → AllByRecursion IsBlank blanks → CreateStreams streams blanks streams
create-blank streams [] all = scripts.none
create-blank streams (line ∷ blanks) all =
    scripts.blank (fits all.0.short (rw all.0.nothing refl)) (create-blank streams blanks all.1)

-- and blank lines behind some
pub create-then-blank : (streams all : List Shape) (lines blanks : List (List ℕ)) → CreateStreams streams lines all → AllByRecursion IsBlank blanks → CreateStreams streams (lines ++ blanks) all
create-then-blank streams all lines blanks create blank = create-behind create (create-blank all blanks blank)

-- and then one that creates a stream
pub create-then-one : (streams all : List Shape) (lines blanks : List (List ℕ)) (line : List ℕ) (shape : Shape) → CreateStreams streams lines all → AllByRecursion IsBlank blanks → IsScriptLine all line (stream shape)
    → CreateStreams streams (lines ++ (blanks ++ line ∷ [])) (all ++ shape ∷ [])
create-then-one streams all lines blanks line shape create blank is = create-behind create (create-behind (create-blank all blanks blank) (scripts.one shape is scripts.none))
