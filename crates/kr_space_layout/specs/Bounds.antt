-- Between crates: what a problem has beside its program, and the problem that it makes with a program.
use Rattle.std.specs.Prelude.{ℕ, List, [], map}
use Rattle.std.proofs.Common.{get_or}
use Rattle.kr_mean.specs.declared.mode.Mode.{Mode}
use Rattle.kr_mean.specs.Program.{Program}
use Rattle.kr_mean.specs.Problem as problems
use Rattle.kr_mean.specs.Problem.{Problem, Domain}
use Rattle.kr_space_layout.specs.declared.classes.Spotted.{Spotted}
use Rattle.kr_space_layout.specs.declared.classes.ClassDomain.{ClassDomain}

-- root, mode, the parameters' domains, fuel and class domains
pub record Bounds : Type 0 where
  pub root : ℕ
  pub mode : Mode
  pub parameters : List Domain
  pub fuel : ℕ
  pub domains : List problems.ClassDomain

abbrev pub problem_with : Program → Bounds → Problem
problem_with program b = record {
  program = program;
  root = b.root;
  mode = b.mode;
  parameters = b.parameters;
  fuel = b.fuel;
  domains = b.domains;
}

-- Slots and their domains don't depend on the program: they are defined on the problem without classes.
abbrev pub no_program : Program
no_program = record { table = record { headings = []; classes = [] }; values = []; arrays = [] }

abbrev pub bare : Bounds → Problem
bare b = problem_with no_program b

-- ---- bounds from class domains whose spots name their domains by numbers; the domain of a number that isn't there is empty

abbrev pub spotted : List Domain → Spotted → problems.Spotted
spotted domains s = record { spot = s.spot; domain = get_or domains s.domain [] }

abbrev pub class_domain : List Domain → ClassDomain → problems.ClassDomain
class_domain domains c = record { name = c.name; class = c.class; count = c.count; spots = map (spotted domains) c.spots }

abbrev pub bounds_of : ℕ → Mode → ℕ → List ℕ → List ClassDomain → List Domain → Bounds
bounds_of root mode fuel parameters classes domains = record {
  root = root;
  mode = mode;
  parameters = map (λ p. get_or domains p []) parameters;
  fuel = fuel;
  domains = map (class_domain domains) classes;
}
