use Rattle.std.proofs.Common.{ℕ, List, sym, subst}
use Rattle.kr_mean.specs.Space.{IsVector, space_of}
use Rattle.kr_space_layout.specs.Bounds.{Bounds, bare}
use Rattle.kr_run_tests.specs.TwoNodes.{two_nodes}
use Rattle.kr_run_tests.proofs.TwoNodes.{is_vector}
use Rattle.kr_run_tests.proofs.tests.build.is_candidate.Goals as goal

pub walks-requires-clause-vector : goal.walks-requires-clause-vector
walks-requires-clause-vector c = subst (λ (b : Bounds). IsVector (space_of (bare b)) c.in_ok-vector.vector) (sym c.requires) (subst (λ (v : List ℕ). IsVector (space_of (bare two_nodes)) v) (sym c.in_ok-vector.ensures) is_vector)

pub builds-requires-clause-vector : goal.builds-requires-clause-vector
builds-requires-clause-vector c = subst (λ (b : Bounds). IsVector (space_of (bare b)) c.in_ok-vector.vector) (sym c.requires) (subst (λ (v : List ℕ). IsVector (space_of (bare two_nodes)) v) (sym c.in_ok-vector.ensures) is_vector)
