-- The values that links with known columns leave of a dim.
use Rattle.std.specs.Prelude.{ℕ, ◌&&◌, List, [], ◌∷◌, ℤ, pos, int_le, int_lt, ◌+ℤ◌, ◌-ℤ◌, if◌then◌else◌, Option, Some, None}
use Rattle.sem_query.specs.declared.atom.Attr.{Attr}
use Rattle.sem_query.specs.declared.plan.Dim.{Dim}
use Rattle.sem_query.specs.declared.plan.Link.{Link}
use Rattle.sem_query.specs.Query.{attr_eq}
use Rattle.sem_query.specs.Probing.{is_known}

-- a known column that a link says is equal, if there is one
abbrev pub binding_column : ℕ → ℕ → Attr → List Link → Option Attr
binding_column arriving place a [] = None
binding_column arriving place a (l ∷ ls) =
    if attr_eq l.left a && is_known arriving place l.right then Some l.right
    else (if attr_eq l.right a && is_known arriving place l.left then Some l.left else binding_column arriving place a ls)

-- the dim with one value alone; with none where the value is outside
abbrev pub narrowed_to : Dim → ℤ → Dim
narrowed_to d v = if int_le d.lo v && int_le v d.hi then record { attr = d.attr; lo = v; hi = v } else record { attr = d.attr; lo = pos 1; hi = pos 0 }

-- the dim with its values below a number
abbrev pub below : Dim → ℤ → Dim
below d v = if int_lt d.lo v then (if int_lt d.hi v then d else record { attr = d.attr; lo = d.lo; hi = v -ℤ pos 1 }) else record { attr = d.attr; lo = pos 1; hi = pos 0 }

-- the dim with its values above a number
abbrev pub above : Dim → ℤ → Dim
above d v = if int_lt v d.hi then (if int_lt v d.lo then d else record { attr = d.attr; lo = v +ℤ pos 1; hi = d.hi }) else record { attr = d.attr; lo = pos 1; hi = pos 0 }

-- the dim with the values that an inequality with a known column leaves
abbrev pub clip_by : ℕ → ℕ → Link → (Attr → ℤ) → Dim → Dim
clip_by arriving place l values d =
    if attr_eq l.left d.attr && is_known arriving place l.right then below d (values l.right)
    else (if attr_eq l.right d.attr && is_known arriving place l.left then above d (values l.left) else d)

-- the dim with the values that the inequalities with known columns leave
abbrev pub clip : ℕ → ℕ → List Link → (Attr → ℤ) → Dim → Dim
clip arriving place [] values d = d
clip arriving place (l ∷ ls) values d = clip arriving place ls values (clip_by arriving place l values d)

-- the dim with the value of a known column alone, or another dim where there is none
abbrev pub narrowed_by : Dim → Dim → (Attr → ℤ) → Option Attr → Dim
narrowed_by d other values None = other
narrowed_by d other values (Some a) = narrowed_to d (values a)

-- the dim with the values that the links leave
unfoldable pub narrow : ℕ → ℕ → List Link → List Link → (Attr → ℤ) → Dim → Dim
narrow arriving place equal less values d = narrowed_by d (clip arriving place less values d) values (binding_column arriving place d.attr equal)
