-- The reserved words, in any case of letters.
use Rattle.std.specs.Prelude.{ℕ, if◌then◌else◌, List, codes, Option, Some, None}
use Rattle.std.specs.Str.{str_eq_ignore_ascii_case}
use Rattle.sql_text.specs.declared.key.Key.{Key}
use Rattle.sql_text.specs.declared.key.Key.TheVariants.{CreateKey, StreamKey, QueryKey, AsKey, SelectKey, DistinctKey, FromKey, WhereKey, AndKey, ExplainKey, DropKey, InKey, SharedKey, CheckpointKey, ResumeKey}

-- the reserved word that a word is
unfoldable pub key_of : List ℕ → Option Key
key_of w =
    if str_eq_ignore_ascii_case w (codes "CREATE") then Some CreateKey else
    (if str_eq_ignore_ascii_case w (codes "STREAM") then Some StreamKey else
    (if str_eq_ignore_ascii_case w (codes "QUERY") then Some QueryKey else
    (if str_eq_ignore_ascii_case w (codes "AS") then Some AsKey else
    (if str_eq_ignore_ascii_case w (codes "SELECT") then Some SelectKey else
    (if str_eq_ignore_ascii_case w (codes "DISTINCT") then Some DistinctKey else
    (if str_eq_ignore_ascii_case w (codes "FROM") then Some FromKey else
    (if str_eq_ignore_ascii_case w (codes "WHERE") then Some WhereKey else
    (if str_eq_ignore_ascii_case w (codes "AND") then Some AndKey else
    (if str_eq_ignore_ascii_case w (codes "EXPLAIN") then Some ExplainKey else
    (if str_eq_ignore_ascii_case w (codes "DROP") then Some DropKey else
    (if str_eq_ignore_ascii_case w (codes "IN") then Some InKey else
    (if str_eq_ignore_ascii_case w (codes "SHARED") then Some SharedKey else
    (if str_eq_ignore_ascii_case w (codes "CHECKPOINT") then Some CheckpointKey else
    (if str_eq_ignore_ascii_case w (codes "RESUME") then Some ResumeKey else None))))))))))))))
