-- The scopes of the nodes of a file.
use Rattle.std.proofs.Common.{◌≡◌, refl, sym, ap, ◌∙◌, ℕ, zero, suc, ◌<◌, List, [], ◌∷◌, length, arith}
use Rattle.std.specs.Prelude.{Some, slice_get}
use Rattle.kr_ast.specs.Arena.{Arena, IsArena, IsPart}
use Rattle.kr_types_meaning.specs.Handing.{handed}
use Rattle.kr_classes_table.specs.Constants.{values_of}
use Rattle.kr_ast.specs.Files.{file_at, no_file}
use Rattle.kr_classes_members.specs.Shown.{table_in}
use Rattle.kr_types.specs.declared.program.Program.{Program}
use Rattle.kr_types.specs.declared.program.TypedFile.{TypedFile}
use Rattle.kr_types.specs.Programs.{IsProgram, IsTypedFile, scope_there}
use Rattle.kr_code_members.specs.Nodes.{node_scope, node_tree, scope_in}
use Rattle.kr_pure.specs.Reach.{AreArenas}

pub some : {A : Type 0} (xs : List A) (i : ℕ) → i < length xs → (x : A) × (slice_get xs i ≡ Some x)
some [] i l = absurd (omega (arith, l))
some (x ∷ xs) zero l = (x, refl)
some (x ∷ xs) (suc i) l = some xs i (omega (arith, l))

-- a file that is there
pub record IsFile (p : Program) (f : ℕ) (t : TypedFile) : Type 0 where
  pub at : slice_get p.files.items f ≡ Some t
  pub typed : IsTypedFile p.trees.items p.table.types f t
  pub scope : (i : ℕ) → node_scope p f i ≡ scope_there p.trees.items f t i

pub file_there : (p : Program) (f : ℕ) → IsProgram p → f < length p.trees.items → (t : TypedFile) × IsFile p f t
file_there p f is l =
    let s = some p.files.items f (let c = is.count in omega (arith, l)) in
    (s.0, record { at = s.1; typed = is.files f s.0 s.1; scope = λ i. ap (scope_in p f i) s.1 })

pub all_file : (files : List Arena) (f : ℕ) → f < length files → AreArenas files → IsArena (file_at files f).text (file_at files f).entries
all_file files f l a = a f no_file l

-- the scope of a part is the one that the node hands to it
pub part_scope : (p : Program) (f i j c : ℕ) → IsProgram p → f < length p.trees.items → i < length (file_at p.trees.items f).entries → IsPart (file_at p.trees.items f).entries i j c → node_scope p f c ≡ handed (node_scope p f i) (node_tree p f i) j
part_scope p f i j c is l at part =
    let files = p.trees.items in
    let t = file_there p f is l in
    let scoped = t.1.typed.scopes (table_in files) (values_of (table_in files)) in
    t.1.scope c ∙ (scoped.hands i j c at part ∙ ap (λ s. handed s (node_tree p f i) j) (sym (t.1.scope i)))
