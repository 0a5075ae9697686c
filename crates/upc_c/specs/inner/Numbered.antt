-- Numbers of errors that fit in the result of a call.
use Rattle.std.specs.Prelude.{◌<◌}
use Rattle.upc_c.specs.declared.fault.UpcFault.{UpcFault}

-- The kind and the number are below 256, so two different pairs of them have different results. The number isn't 0, so no
-- error has the result 0.
pub record IsNumbered (fault : UpcFault) : Type 0 where
  pub kind : fault.kind < 256
  pub least : 0 < fault.number
  pub most : fault.number < 256
