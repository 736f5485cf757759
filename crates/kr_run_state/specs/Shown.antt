-- Between crates: the meaning of the code's types.
use Rattle.std.specs.Prelude.{option_map}
use Rattle.kr_mean.specs.Places.{Parameter}
use Rattle.kr_mean.specs.Steps as steps
use Rattle.kr_run_state.specs.declared.world.Local.{Local}
use Rattle.kr_run_state.specs.declared.world.Old.{Old}

abbrev pub local_of : Local → steps.Local
local_of l = record { value = l.value; place = option_map Parameter l.parameter }

abbrev pub old_of : Old → steps.Old
old_of o = record { place = o.place; value = o.value }
