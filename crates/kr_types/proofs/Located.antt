-- The position of a node among all files.
use Rattle.std.proofs.Common.{◌≡◌, refl, sym, ap, ◌∙◌, ℕ, zero, suc, ◌+◌, ◌-◌, ◌<◌, ◌≤◌, List, [], ◌∷◌, ◌++◌, length, drop, get_or, arith}
use Rattle.std.specs.Prelude.{slice_get}
use Rattle.std.proofs.lemmas.List.{length-append}
use Rattle.std.proofs.Math.Seq.{drop-cons}
use Rattle.kr_ast.specs.declared.node.Entry.{Entry}
use Rattle.kr_ast.specs.Arena.{Arena}
use Rattle.kr_types.specs.Programs.{all_entries}

inside : (files : List Arena) (i rest : ℕ) → rest < length (all_entries (drop i files)) → i < length files
inside [] zero rest w = absurd (omega (arith, w))
inside [] (suc i) rest w = absurd (omega (arith, w))
inside (a ∷ files) zero rest w = omega arith
inside (a ∷ files) (suc i) rest w = let l = inside files i rest w in omega (arith, l)

-- the files from this one on
from_here : (files : List Arena) (i : ℕ) (a : Arena) → i < length files → a ≡ get_or files i a → all_entries (drop i files) ≡ a.entries ++ all_entries (drop (i + 1) files)
from_here files i a l is =
    let next : suc i ≡ i + 1 = omega arith in
    ap all_entries (drop-cons files i a l) ∙ ap (λ (b : Arena). b.entries ++ all_entries (drop (suc i) files)) (sym is) ∙ ap (λ (k : ℕ). a.entries ++ all_entries (drop k files)) next

behind : (xs ys : List Entry) (k : ℕ) → length xs ≤ k → slice_get (xs ++ ys) k ≡ slice_get ys (k - length xs)
behind [] ys k l = let e : k - 0 ≡ k = omega arith in ap (slice_get ys) (sym e)
behind (x ∷ xs) ys zero l = absurd (omega (arith, l))
behind (x ∷ xs) ys (suc k) l = let e : suc k - length (x ∷ xs) ≡ k - length xs = omega arith in behind xs ys k (omega (arith, l)) ∙ ap (slice_get ys) (sym e)

before : (xs ys : List Entry) (k : ℕ) → k < length xs → slice_get (xs ++ ys) k ≡ slice_get xs k
before [] ys k l = absurd (omega (arith, l))
before (x ∷ xs) ys zero l = refl
before (x ∷ xs) ys (suc k) l = before xs ys k (omega (arith, l))

-- a node after those of a file
pub onward : (files : List Arena) (i rest : ℕ) (a : Arena) → rest < length (all_entries (drop i files)) → a ≡ get_or files i a → length a.entries ≤ rest
    → (rest - length a.entries < length (all_entries (drop (i + 1) files))) × (slice_get (all_entries (drop (i + 1) files)) (rest - length a.entries) ≡ slice_get (all_entries (drop i files)) rest)
onward files i rest a w is l =
    let e = from_here files i a (inside files i rest w) is in
    (omega (arith, w, l, ap length e, length-append a.entries (all_entries (drop (i + 1) files))), sym (behind a.entries (all_entries (drop (i + 1) files)) rest l) ∙ sym (ap (λ es. slice_get es rest) e))

-- one of a file
pub here : (files : List Arena) (i rest : ℕ) (a : Arena) → rest < length (all_entries (drop i files)) → a ≡ get_or files i a → rest < length a.entries → slice_get (all_entries (drop i files)) rest ≡ slice_get a.entries rest
here files i rest a w is l =
    ap (λ es. slice_get es rest) (from_here files i a (inside files i rest w) is) ∙ before a.entries (all_entries (drop (i + 1) files)) rest l

alike : (files : List Arena) (i : ℕ) (a b : Arena) → i < length files → a ≡ get_or files i a → b ≡ get_or files i b → a ≡ b
alike [] i a b l p q = absurd (omega (arith, l))
alike (d ∷ files) zero a b l p q = p ∙ sym q
alike (d ∷ files) (suc i) a b l p q = alike files i a b (omega (arith, l)) p q

-- two reads of a file
pub read_twice : (files : List Arena) (i rest : ℕ) (a b : Arena) → rest < length (all_entries (drop i files)) → a ≡ get_or files i a → b ≡ get_or files i b → a ≡ b
read_twice files i rest a b w p q = alike files i a b (inside files i rest w) p q
