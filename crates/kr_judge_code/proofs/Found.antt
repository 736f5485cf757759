-- Methods of a problem's subject.
use Rattle.std.proofs.Common.{◌≡◌, sym, ◌∙◌, ℕ}
use Rattle.std.specs.Prelude.{Option, Some, None, slice_get}
use Rattle.std.proofs.lemmas.Option.{slice_get-get_or}
use Rattle.kr_classes_table.specs.Table.{Method}
use Rattle.kr_classes_members.specs.Rosters.{all_methods, method_numbered, no_method}
use Rattle.kr_types.specs.declared.program.Program.{Program}
use Rattle.kr_code_members.specs.Nodes.{table}
use Rattle.kr_space_problem.specs.Subjects.{IsNumberOf}
use Rattle.kr_code_lowering.specs.Calls.{IsFound}

pub found_numbered : (p : Program) (k : Option ℕ) (m : Option Method) → IsNumberOf (table p) k m → IsFound p k m
found_numbered p None m h = sym h.shown
found_numbered p (Some k) m h =
    let got : slice_get (all_methods (table p)) k ≡ Some (method_numbered (table p) k) = slice_get-get_or (all_methods (table p)) k (no_method (table p)) h.within in
    (method_numbered (table p) k, sym h.shown ∙ got, got)
