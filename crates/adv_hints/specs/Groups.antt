-- Groups of what may stand at a place of a statement.
use Rattle.std.specs.Prelude.{Bool, true, false, List}
use Rattle.std.specs.List.{list_any}
use Rattle.adv_hints.specs.declared.candidates.Candidate.{Candidate}
use Rattle.adv_hints.specs.declared.candidates.Candidate.TheVariants as candidates
use Rattle.adv_hints.specs.declared.candidates.Group.{Group}
use Rattle.adv_hints.specs.declared.candidates.Group.TheVariants as groups

-- whether a name is tried
abbrev pub is_name : Candidate → Bool
is_name candidates.Name = true
is_name _ = false

-- whether the column of a stream is tried, behind a point
abbrev pub is_column : Candidate → Bool
is_column candidates.Column = true
is_column _ = false

-- whether the sign of a comparison is tried
abbrev pub is_comparison : Candidate → Bool
is_comparison candidates.Comparison = true
is_comparison _ = false

-- whether an integer is tried
abbrev pub is_operand : Candidate → Bool
is_operand candidates.Integer = true
is_operand _ = false

-- whether it is tried what stands behind a column or a comparison
abbrev pub is_behind_operand : Candidate → Bool
is_behind_operand candidates.Comparison = true
is_behind_operand candidates.And = true
is_behind_operand candidates.From = true
is_behind_operand _ = false

-- whether a point of a domain is tried
abbrev pub is_interval : Candidate → Bool
is_interval candidates.Points = true
is_interval candidates.SecondPoint = true
is_interval _ = false

-- whether IN is tried, behind a column of a stream
abbrev pub is_domain : Candidate → Bool
is_domain candidates.In = true
is_domain _ = false

-- whether WHERE is tried
abbrev pub is_where : Candidate → Bool
is_where candidates.Where = true
is_where _ = false

-- whether a comma is tried
abbrev pub is_comma : Candidate → Bool
is_comma candidates.Comma = true
is_comma _ = false

-- whether CREATE is tried
abbrev pub is_create : Candidate → Bool
is_create candidates.Create = true
is_create _ = false

-- whether a candidate is of a group
abbrev pub is_in : Group → Candidate → Bool
is_in groups.Name candidate = is_name candidate
is_in groups.Column candidate = is_column candidate
is_in groups.Comparison candidate = is_comparison candidate
is_in groups.Operand candidate = is_operand candidate
is_in groups.BehindOperand candidate = is_behind_operand candidate
is_in groups.Interval candidate = is_interval candidate
is_in groups.Domain candidate = is_domain candidate
is_in groups.Where candidate = is_where candidate
is_in groups.Comma candidate = is_comma candidate
is_in groups.Create candidate = is_create candidate

-- whether a candidate of a group may stand there
abbrev pub wants : Group → List Candidate → Bool
wants group next = list_any (is_in group) next
