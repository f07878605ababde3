-- A file as a source.
use Rattle.std.specs.Prelude.{ℕ}
use Rattle.io_streams.specs.declared.file.FileSource.{FileSource}

-- how often opening or reading has failed
abbrev pub file_faults : {R A B : Type 0} → FileSource R A B → ℕ
file_faults s = s.failed

-- how many bytes the last read gave, of the reads that gave some
abbrev pub file_last : {R A B : Type 0} → FileSource R A B → ℕ
file_last s = s.last
