-- The classes from one upwards are there.
use Rattle.std.proofs.Common.{◌≡◌, refl, ℕ, zero, suc, ◌<◌, List, [], ◌∷◌, length, get_or, map, All, arith}
use Rattle.std.specs.Prelude.{IsSome, slice_get}
use Rattle.kr_ast.specs.Arena.{root}
use Rattle.kr_classes_table.specs.Table.{line_of}
use Rattle.kr_types.specs.declared.program.Program.{Program}
use Rattle.kr_types.proofs.Named as classes
use Rattle.kr_code_members.specs.Nodes.{table}

there : {A : Type 0} (xs : List A) (i : ℕ) → i < length xs → IsSome (slice_get xs i)
there [] i l = absurd (omega (arith, l))
there (x ∷ xs) zero l = refl
there (x ∷ xs) (suc i) l = there xs i (omega (arith, l))

-- of a class and its ancestors
pub line_there : {A : Type 0} (p : Program) (c : ℕ) (xs : List A) → c < length (table p).classes → length xs ≡ length (table p).classes → All (λ d. IsSome (slice_get xs d)) (line_of (table p) c)
line_there p c xs l e k d b =
    let below = classes.line_there (map root p.trees.items) c l k d b in
    there xs (get_or (line_of (table p) c) k d) (omega (arith, below, e))
