-- Between crates: a frame: what waits for a value, for a statement's end, or for something that gives nothing.
use Rattle.std.specs.Prelude.{ℕ, Bool, List}
use Rattle.kr_value.specs.declared.value.Value as v
use Rattle.kr_code.specs.declared.expression.Nodes.{Nodes}
use Rattle.kr_run_state.specs.declared.world.Local.{Local}
use Rattle.kr_run_frames.specs.declared.frame.Goal.{Goal}
use Rattle.kr_run_frames.specs.declared.frame.Up.{Up}
use Rattle.kr_run_frames.specs.declared.frame.ValueFrame.{ValueFrame}
use Rattle.kr_run_frames.specs.declared.frame.TestFrame.{TestFrame}
use Rattle.kr_run_frames.specs.declared.frame.FlowFrame.{FlowFrame}
use Rattle.kr_run_frames.specs.declared.frame.UnitFrame.{UnitFrame}

pub data Frame : Type 0 where
  Value : ValueFrame → Frame
  Test : TestFrame → Frame
  Flow : FlowFrame → Frame
  Unit : UnitFrame → Frame
  -- arguments: the nodes that are left, and the values that are there
  Arguments : Goal → Nodes → List v.Value → Frame
  UpArguments : Up → Nodes → List v.Value → Frame
  -- the unit of a written call of the superclass's constructor is spent
  UpEnter : Up → Nodes → Frame
  -- the constructors of a line of classes, on an object, with arguments
  Construct : Nodes → v.Value → List v.Value → Frame
  -- the locals of a block end: so many were there before
  Scope : ℕ → Frame
  -- the block of a `try` ends: what is thrown in it is caught by the first of these clauses that fits
  Catch : Nodes → Frame
  -- a method's body ends, and gives no value or one: `this` and the locals are those of its caller
  Leave : Bool → v.Value → List Local → Frame
  -- a constructor's body ends
  Complete : Frame
  -- `this` and the locals are those from before, where something is done on a new object
  Back : v.Value → List Local → Frame
  -- the new object is given
  Made : v.Value → Frame
  -- a field gets its initial value, on an object
  Store : ℕ → v.Value → Frame
