use Rattle.std.proofs.Common.{◌≡◌, fold, take}
use Rattle.std.specs.Prelude.{None, flat_map}
use Rattle.kr_emit_meaning.specs.Buildable.{elements_fault, rank_of}
use Rattle.kr_fin.specs.Least.{lesser}
use Rattle.kr_mean.specs.Problem.{ClassDomain}
use Rattle.kr_space_problem.specs.Posed.{posed}
use Rattle.kr_emit.proofs.elements.first_elements.Given as goal

abbrev pub invariant-loop-domain : goal.invariant-loop-domain
invariant-loop-domain l = l.least ≡ fold (lesser rank_of) None (flat_map (λ (d : ClassDomain). elements_fault (posed l.problem).program d.name d.class) (take l.domain l.problem.layout.domains))
