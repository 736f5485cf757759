-- Between crates: the frames of a stack: it keeps the lists of all frames one after another.
use Rattle.std.specs.Prelude.{ℕ, ◌≡◌, List, [], ◌∷◌, take, drop, length}
use Rattle.kr_value.specs.declared.value.Value.{Value}
use Rattle.kr_run_state.specs.declared.world.Local.{Local}
use Rattle.kr_run_frames.specs.declared.frame.Waiting.{Waiting}
use Rattle.kr_run_frames.specs.declared.frame.Waiting.TheVariants as kept
use Rattle.kr_run_frames.specs.Frame.{Frame}
use Rattle.kr_run_frames.specs.Frame as frames

-- a frame with its lists
abbrev pub frame_of : Waiting → List Value → List Local → Frame
frame_of (kept.Value f) vs ls = frames.Value f
frame_of (kept.Test f) vs ls = frames.Test f
frame_of (kept.Flow f) vs ls = frames.Flow f
frame_of (kept.Unit f) vs ls = frames.Unit f
frame_of (kept.Arguments goal ns k) vs ls = frames.Arguments goal ns vs
frame_of (kept.UpArguments up ns k) vs ls = frames.UpArguments up ns vs
frame_of (kept.UpEnter up ns) vs ls = frames.UpEnter up ns
frame_of (kept.Construct line object k) vs ls = frames.Construct line object vs
frame_of (kept.Scope n) vs ls = frames.Scope n
frame_of (kept.Catch cs) vs ls = frames.Catch cs
frame_of (kept.Leave void this k) vs ls = frames.Leave void this ls
frame_of kept.Complete vs ls = frames.Complete
frame_of (kept.Back this k) vs ls = frames.Back this ls
frame_of (kept.Made object) vs ls = frames.Made object
frame_of (kept.Store field object) vs ls = frames.Store field object

-- it has none
abbrev pub HasNoList : Waiting → Type 0
HasNoList (kept.Arguments goal ns k) = ⊥
HasNoList (kept.UpArguments up ns k) = ⊥
HasNoList (kept.Construct line object k) = ⊥
HasNoList (kept.Leave void this k) = ⊥
HasNoList (kept.Back this k) = ⊥
HasNoList _ = Unit {0}

-- where the lists of a frame begin, among so many
abbrev pub values_from : Waiting → ℕ → ℕ
values_from (kept.Arguments goal ns k) n = k
values_from (kept.UpArguments up ns k) n = k
values_from (kept.Construct line object k) n = k
values_from _ n = n

abbrev pub locals_from : Waiting → ℕ → ℕ
locals_from (kept.Leave void this k) n = k
locals_from (kept.Back this k) n = k
locals_from _ n = n

-- the frames, the topmost one first, over the values and the locals of all of them
abbrev pub unpacked : List Waiting → List Value → List Local → List Frame
unpacked [] vs ls = []
unpacked (w ∷ ws) vs ls =
    let i = values_from w (length vs) in
    let j = locals_from w (length ls) in
    frame_of w (drop i vs) (drop j ls) ∷ unpacked ws (take i vs) (take j ls)

-- the values, and the locals, that the topmost frame has
abbrev pub values_on : List Frame → List Value
values_on (frames.Arguments goal ns vs ∷ fs) = vs
values_on (frames.UpArguments up ns vs ∷ fs) = vs
values_on (frames.Construct line object vs ∷ fs) = vs
values_on _ = []

abbrev pub locals_on : List Frame → List Local
locals_on (frames.Leave void this ls ∷ fs) = ls
locals_on (frames.Back this ls ∷ fs) = ls
locals_on _ = []

-- the topmost frame is kept so
pub record IsOnTop (w : Waiting) (fs : List Frame) : Type 0 where
  pub values : List Value
  pub locals : List Local
  pub rest : List Frame
  pub is : fs ≡ frame_of w values locals ∷ rest
