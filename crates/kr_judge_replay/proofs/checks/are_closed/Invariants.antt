use Rattle.std.proofs.Common.{◌≡◌, ℕ, true, take}
use Rattle.std.specs.Prelude.{map}
use Rattle.kr_mean.specs.Places.{At}
use Rattle.kr_value.specs.declared.object.Spot.TheVariants.{Length, Element}
use Rattle.kr_run_state.specs.Noting.{is_read}
use Rattle.kr_mean.specs.Places.{place_of}
use Rattle.kr_judge_replay.proofs.checks.are_closed.Given as goal

-- of the arrays an element of which is among the first places the length was read
abbrev pub invariant-loop-place : goal.invariant-loop-place
invariant-loop-place l = (o i : ℕ) → is_read (At o (Element i)) (map place_of (take l.place-index l.places)) ≡ true → is_read (At o Length) l.reads ≡ true
