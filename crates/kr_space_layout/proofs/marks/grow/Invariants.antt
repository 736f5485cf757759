use Rattle.std.proofs.Common.{◌≡◌, ℕ, ◌-◌, false, get_or, length}
use Rattle.kr_space_layout.proofs.marks.grow.Given as goal

abbrev pub invariant-loop-marks : goal.invariant-loop-marks
invariant-loop-marks l = (m : ℕ) → get_or l.marks.items m false ≡ get_or l.initial.marks.items m false

abbrev pub decreases-loop-marks : goal.decreases-loop-marks
decreases-loop-marks l = l.count - length l.marks.items
