-- Arguments and parameters, one after another.
use Rattle.std.proofs.Common.{◌≡◌, refl, ap, ◌∙◌, ℕ, ◌+◌, ◌<◌, false, ◌&&◌, List, [], ◌∷◌, length, map, drop, get_or, add-one, drop-cons, arith}
use Rattle.std.specs.Prelude.{flat_map}
use Rattle.kr_ast.specs.Tree as trees
use Rattle.kr_ast.specs.Tree.{Tree}
use Rattle.kr_classes_table.specs.Types.{JavaType}
use Rattle.kr_classes_table.specs.Table.{Table, Heading, parameter_in, type_named}
use Rattle.kr_types_meaning.specs.Rules.{arguments_fit}
use Rattle.kr_types_meaning.specs.Scopes.{Scope}
use Rattle.kr_types_judging.specs.Shown.{goes_into}
use Rattle.kr_types_judging.specs.Arguments.{arguments_go_into, parameter_type}

step_drop : (xs : List ℕ) (i : ℕ) → i < length xs → drop i xs ≡ get_or xs i 0 ∷ drop (i + 1) xs
step_drop xs i l = rw (add-one, drop-cons xs i 0)

pub one_more : (t : Table) (hs : List Heading) (look : ℕ → JavaType) (xs : List ℕ) (i : ℕ) (ps qs : List Tree) (p : Tree) → i < length xs → ps ≡ p ∷ qs
    → arguments_go_into t hs (map look (drop i xs)) ps ≡ goes_into t (type_named hs p) (look (get_or xs i 0)) && arguments_go_into t hs (map look (drop (i + 1) xs)) qs
one_more t hs look xs i ps qs p l e =
    ap (λ ys. arguments_go_into t hs (map look ys) ps) (step_drop xs i l) ∙ ap (λ zs. arguments_go_into t hs (look (get_or xs i 0) ∷ map look (drop (i + 1) xs)) zs) e

pub none_left : (t : Table) (hs : List Heading) (look : ℕ → JavaType) (xs : List ℕ) (i : ℕ) (ps : List Tree) → i < length xs → ps ≡ [] → arguments_go_into t hs (map look (drop i xs)) ps ≡ false
none_left t hs look xs i ps l e =
    ap (λ ys. arguments_go_into t hs (map look ys) ps) (step_drop xs i l) ∙ ap (λ zs. arguments_go_into t hs (look (get_or xs i 0) ∷ map look (drop (i + 1) xs)) zs) e

-- the definition asks for the same, by parameters
pub asked : (s : Scope) (hs : List Heading) (ts : List JavaType) (is : List Tree) → arguments_fit s ts (flat_map (parameter_in hs) is) ≡ arguments_go_into s.table hs ts (flat_map parameter_type is)
asked s hs [] [] = refl
asked s hs (t ∷ ts) [] = refl
asked s hs [] (trees.Parameter p k n ∷ is) = refl
asked s hs (t ∷ ts) (trees.Parameter p k n ∷ is) = ap (λ b. goes_into s.table (type_named hs k) t && b) (asked s hs ts is)
asked s hs [] (_ ∷ is) = asked s hs [] is
asked s hs (t ∷ ts) (_ ∷ is) = asked s hs (t ∷ ts) is

pub single : (xs : List ℕ) → length xs ≡ 1 → xs ≡ get_or xs 0 0 ∷ []
single [] e = absurd (omega (arith, e))
single (x ∷ []) e = refl
single (x ∷ y ∷ xs) e = absurd (omega (arith, e))
