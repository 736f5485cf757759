-- Between crates: objects as the program has them.
use Rattle.std.specs.Prelude.{Option, Some, None}
use Rattle.kr_mean.specs.Problem.{DomainObject}
use Rattle.kr_iso.specs.declared.object.Object.{Object}

abbrev pub object_of : Object → DomainObject
object_of o = record { domain = o.domain; number = o.number }

abbrev pub shown : Option Object → Option DomainObject
shown None = None
shown (Some o) = Some (object_of o)
