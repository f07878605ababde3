-- What a handle owns.
use base.Fml.{Fml, feq}
use mir.Syntax.{Ty}
use denote.RawPtr.{Ptr, null_ptr}
use Rattle.std.specs.Global.{Global}
use Rattle.std.specs.Box.Ownership.{box_owns}
use Rattle.std.specs.contracts.impls.GlobalAllocator.TheImpl.{ghosts}
use Rattle.std.specs.declared.option.Option.{Option}
use Rattle.std.specs.declared.option.Option.TheVariants.{None, Some}
use Rattle.lib_session.specs.Embedded.{EmbeddedValue}
use Rattle.lib_session.specs.contracts.embedded.Embedded as embedded

-- the allocator of the C library: all its values are the same
abbrev pub heap : Global
heap = record { memory = record { seal = tt } }

-- the right to free the block at whose start a pointer points
abbrev pub may_free : Ty → Ptr → Fml
may_free = ghosts.dealloc_token heap

-- a session and its block at p; or p is null
abbrev pub session_at : Ptr → Option EmbeddedValue → Fml
session_at p None = feq Ptr p null_ptr
session_at p (Some x) = box_owns may_free embedded.the_row p x
