use Rattle.std.proofs.Common.{◌<◌, ◌^◌, ℕ, List, length, sym, subst}
use Rattle.kr_mean.specs.Problem.{slots}
use Rattle.kr_mean.specs.Space.{IsVector, space_of}
use Rattle.kr_mean.specs.WellFormed.{IsWellFormed}
use Rattle.kr_space_layout.specs.Bounds.{Bounds, bare}
use Rattle.kr_run_tests.specs.OneCell.{one_cell}
use Rattle.kr_run_tests.proofs.OneCell.{is_vector, small, well_formed}
use Rattle.kr_run_tests.proofs.tests.judge.ends_in.Goals as goal

pub judged-said-requires-clause-well : goal.judged-said-requires-clause-well
judged-said-requires-clause-well c = subst (λ (b : Bounds). IsWellFormed (bare b)) (sym c.requires.layout) (well_formed c.args.fuel)

pub judged-said-requires-clause-vector : goal.judged-said-requires-clause-vector
judged-said-requires-clause-vector c = subst (λ (b : Bounds). IsVector (space_of (bare b)) c.in_ok-vector.vector) (sym c.requires.layout) (subst (λ (v : List ℕ). IsVector (space_of (bare (one_cell c.args.fuel))) v) (sym c.in_ok-vector.ensures) (is_vector c.args.fuel c.args.value c.requires.value))

pub judged-said-requires-clause-small : goal.judged-said-requires-clause-small
judged-said-requires-clause-small c = subst (λ (b : Bounds). length (slots (bare b)) < 2 ^ 31) (sym c.requires.layout) (small c.args.fuel)
