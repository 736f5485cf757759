-- The numbers of nodes among those of all files.
use Rattle.std.proofs.Common.{◌≡◌, refl, ap, ◌∙◌, ℕ, zero, suc, ◌+◌, ◌<◌, ◌≤◌, List, [], ◌∷◌, length, take, arith, add-one, length-append}
use Rattle.kr_ast.specs.Arena.{Arena}
use Rattle.kr_ast.specs.declared.files.NodeId.{NodeId}
use Rattle.kr_ast.specs.Files.{IsNode, file_at}
use Rattle.kr_pure.specs.Found.{number_of}
use Rattle.kr_types.specs.Programs.{all_entries}

-- the nodes of one file more
pub one_more : (files : List Arena) (f : ℕ) → f < length files → length (all_entries (take (f + 1) files)) ≡ length (all_entries (take f files)) + length (file_at files f).entries
one_more files f l = ap (λ n. length (all_entries (take n files))) (add-one f) ∙ go files f l
  where
    go : (files : List Arena) (f : ℕ) → f < length files → length (all_entries (take (suc f) files)) ≡ length (all_entries (take f files)) + length (file_at files f).entries
    go [] f l = absurd (omega (arith, l))
    go (a ∷ files) zero l = omega (arith, length-append a.entries [])
    go (a ∷ files) (suc f) l = omega (arith, length-append a.entries (all_entries (take (suc f) files)), length-append a.entries (all_entries (take f files)), go files f (omega (arith, l)))

-- each is below the count of all
pub below_all : (files : List Arena) (f i : ℕ) → f < length files → i < length (file_at files f).entries → length (all_entries (take f files)) + i < length (all_entries files)
below_all [] f i l h = absurd (omega (arith, l))
below_all (a ∷ files) zero i l h = omega (arith, length-append a.entries (all_entries files), h)
below_all (a ∷ files) (suc f) i l h = omega (arith, length-append a.entries (all_entries (take f files)), length-append a.entries (all_entries files), below_all files f i (omega (arith, l)) h)

-- there are no more in some of the files
pub upto_all : (files : List Arena) (f : ℕ) → length (all_entries (take f files)) ≤ length (all_entries files)
upto_all [] zero = omega arith
upto_all [] (suc f) = omega arith
upto_all (a ∷ files) zero = omega arith
upto_all (a ∷ files) (suc f) = omega (arith, length-append a.entries (all_entries (take f files)), length-append a.entries (all_entries files), upto_all files f)

record Same (f i g j : ℕ) : Type 0 where
  file : f ≡ g
  node : i ≡ j

apart : (files : List Arena) (f i g j : ℕ) → f < length files → i < length (file_at files f).entries → g < length files → j < length (file_at files g).entries
    → length (all_entries (take f files)) + i ≡ length (all_entries (take g files)) + j → Same f i g j
apart [] f i g j l h m k e = absurd (omega (arith, l))
apart (a ∷ files) zero i zero j l h m k e = record { file = refl; node = omega (arith, e) }
apart (a ∷ files) zero i (suc g) j l h m k e = absurd (omega (arith, e, h, length-append a.entries (all_entries (take g files))))
apart (a ∷ files) (suc f) i zero j l h m k e = absurd (omega (arith, e, k, length-append a.entries (all_entries (take f files))))
apart (a ∷ files) (suc f) i (suc g) j l h m k e =
    let s = apart files f i g j (omega (arith, l)) h (omega (arith, m)) k (omega (arith, e, length-append a.entries (all_entries (take f files)), length-append a.entries (all_entries (take g files)))) in
    record { file = ap suc s.file; node = s.node }

-- no two nodes have one number
pub one_node : (files : List Arena) (m n : NodeId) → IsNode files m → IsNode files n → number_of files m ≡ number_of files n → m ≡ n
one_node files m n a b e =
    let s = apart files m.file m.node n.file n.node a.file a.node b.file b.node e in
    ap (λ (f : ℕ). let x : NodeId = record { file = f; node = m.node } in x) s.file ∙ ap (λ (i : ℕ). let x : NodeId = record { file = n.file; node = i } in x) s.node
