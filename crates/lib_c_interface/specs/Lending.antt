-- What a `&mut` to the session of a handle writes back.
use Rattle.std.specs.Borrow.{Lends, MutBor, Fml}
use Rattle.std.specs.declared.option.Option.TheVariants.{Some}
use Rattle.lib_session.specs.Embedded.{EmbeddedValue}
use Rattle.lib_session.specs.contracts.embedded.Embedded as embedded
use Rattle.lib_c_interface.specs.declared.Handle.{Handle}
use Rattle.lib_c_interface.specs.contracts.Handle.{the_row}

-- the handle h of the session x
abbrev pub with_value : Handle → EmbeddedValue → Handle
with_value h x = record h { value = Some x }

-- once the borrow r ends, the session of the handle behind h is the last one written through r
abbrev pub LendsValue : MutBor Handle → MutBor EmbeddedValue → Fml
LendsValue h r = Lends the_row embedded.the_row h r (with_value h.now)
