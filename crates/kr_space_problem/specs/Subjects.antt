-- Between crates: what a problem is about: the root's class, the methods that are run on it, and the nodes of all members.
use Rattle.std.specs.Prelude.{◌≡◌, ℕ, ◌<◌, length, codes, Option, IfSome, option_and_then, slice_get}
use Rattle.kr_classes_table.specs.Table.{Method, Table, method_named}
use Rattle.kr_classes_members.specs.Rosters.{all_methods}
use Rattle.kr_code_members.specs.Nodes.{AreMemberNodes, table}
use Rattle.kr_mean.specs.Runs.{root_class, tested_method}
use Rattle.kr_space_problem.specs.declared.problem.Problem.{Problem}
use Rattle.kr_space_problem.specs.declared.subject.Subject.{Subject}
use Rattle.kr_space_problem.specs.Posed.{posed}

-- the number of a method, if there is one
pub record IsNumberOf (t : Table) (k : Option ℕ) (m : Option Method) : Type 0 where
  pub within : IfSome k (λ n. n < length (all_methods t))
  pub shown : option_and_then (slice_get (all_methods t)) k ≡ m

-- It is that of the problem.
pub record IsSubject (p : Problem) (s : Subject) : Type 0 where
  pub members : AreMemberNodes p.program s.members
  pub class : s.class ≡ root_class (posed p)
  pub rep_ok : IsNumberOf (table p.program) s.rep_ok (method_named (table p.program) (root_class (posed p)) (codes "repOk"))
  pub tested : IsNumberOf (table p.program) s.tested (tested_method (posed p) (posed p).mode)
