-- Between crates: the problem that code has: the program of its files with these array types, and what bounds it.
use Rattle.std.specs.Prelude.{◌^◌, ◌<◌, length, All}
use Rattle.kr_classes_names.specs.Types.{count}
use Rattle.kr_types.specs.Programs.{IsProgram}
use Rattle.kr_mean.specs.Program as meaning
use Rattle.kr_mean.specs.Problem as problems
use Rattle.kr_space_layout.specs.Bounds.{problem_with}
use Rattle.kr_space_problem.specs.declared.problem.Problem.{Problem}
use Rattle.kr_code_members.specs.Nodes.{table, run_program}

abbrev pub posed : Problem → problems.Problem
posed p = problem_with (run_program p.program p.arrays.items) p.layout

-- Its files break no rule, and its array types are among the types.
pub record IsPosed (p : Problem) : Type 0 where
  pub program : IsProgram p.program
  pub arrays : All (λ t. t < count p.program.table.types) p.arrays.items
  pub few : length p.arrays.items < 2 ^ 32
