-- Between crates: stacks that are copies of each other.
use Rattle.std.specs.Prelude.{◌≡◌, List}
use Rattle.kr_value.specs.declared.value.Value.{Value}
use Rattle.kr_mean.specs.Steps.{Outcome}
use Rattle.kr_mean.specs.declared.flow.Flow.{Flow}
use Rattle.kr_code.specs.declared.code.Code.{Code}
use Rattle.kr_code.specs.Doing.{Doing}
use Rattle.kr_run_frames.specs.Frame.{Frame}
use Rattle.kr_run_frames.specs.Frames.{out_value, out_flow, out_unit}

-- whatever they receive, the run's outcome is equal
pub record GoOnAlike (fs gs : List Frame) : Type 0 where
  pub value : (code : Code) (d : Doing) (o : Outcome Value) → out_value code d fs o ≡ out_value code d gs o
  pub flow : (code : Code) (d : Doing) (o : Outcome Flow) → out_flow code d fs o ≡ out_flow code d gs o
  pub unit : (code : Code) (d : Doing) (o : Outcome (Unit {0})) → out_unit code d fs o ≡ out_unit code d gs o
