-- The parameters of the one constructor of a class.
use Rattle.std.proofs.Common.{◌≡◌, refl, sym, ap, ◌∙◌, ℕ, ◌<◌, Bool, List, [], ◌∷◌, length, map, append-nil, arith}
use Rattle.std.specs.Prelude.{Some, flat_map, slice_get}
use Rattle.std.proofs.lemmas.List.{length-map}
use Rattle.kr_ast.specs.Arena.{Arena, tree_in}
use Rattle.kr_classes_table.specs.Types.{JavaType}
use Rattle.kr_classes_table.specs.Table.{Table, Parameter, items, parameters_in, constructor_parameters}
use Rattle.kr_types_meaning.specs.Rules.{arguments_fit, is_none_of}
use Rattle.kr_types_meaning.specs.Scopes.{Scope}
use Rattle.kr_ast.specs.Files.{file_at}
use Rattle.kr_classes_members.specs.declared.methods.Constructor.{Constructor}
use Rattle.kr_classes_members.specs.Shown.{constructor_shown, headings_in, table_in}
use Rattle.kr_types_judging.specs.Arguments.{arguments_go_into, listed_types}
use Rattle.kr_types_judging.proofs.Walking.{asked}
use Rattle.kr_types_expressions.specs.Constructors.{constructors_of, IsSingle}

pub nothing_fits : (s : Scope) (ps : List Parameter) → arguments_fit s [] ps ≡ is_none_of ps
nothing_fits s [] = refl
nothing_fits s (p ∷ ps) = refl

one : {A : Type 0} (xs : List A) (x : A) → length xs < 2 → slice_get xs 0 ≡ Some x → xs ≡ x ∷ []
one [] x l e = absurd (cc)
one (y ∷ []) x l e = let s : y ≡ x = cc in ap (λ z. z ∷ []) s
one (y ∷ z ∷ xs) x l e = absurd (omega (arith, l))

pub one_constructor : (files : List Arena) (t : Table) (c : ℕ) (ks : List Constructor) (k : Constructor) → map (constructor_shown files) ks ≡ constructors_of t c → IsSingle t c → slice_get ks 0 ≡ Some k
    → constructor_parameters t c ≡ parameters_in (headings_in files) (tree_in (file_at files k.file) k.parameters)
one_constructor files t c ks k e l i =
    let few : length ks < 2 = omega (arith, l, ap length e, length-map ks (constructor_shown files)) in
    ap (flat_map (λ k. k.parameters)) (sym e ∙ ap (map (constructor_shown files)) (one ks k few i)) ∙ append-nil (constructor_shown files k).parameters

pub fits : (files : List Arena) (s : Scope) (ts : List JavaType) (c : ℕ) (ks : List Constructor) (k : Constructor) (b : Bool) → s.table ≡ table_in files → map (constructor_shown files) ks ≡ constructors_of (table_in files) c → IsSingle s.table c → slice_get ks 0 ≡ Some k
    → b ≡ arguments_go_into (table_in files) (headings_in files) ts (listed_types (file_at files k.file) k.parameters) → b ≡ arguments_fit s ts (constructor_parameters s.table c)
fits files s ts c ks k b e m l i g =
    g ∙ ap (λ (t : Table). arguments_go_into t (headings_in files) ts (listed_types (file_at files k.file) k.parameters)) (sym e)
    ∙ sym (asked s (headings_in files) ts (items (tree_in (file_at files k.file) k.parameters)))
    ∙ ap (λ ps. arguments_fit s ts ps) (sym (one_constructor files s.table c ks k (m ∙ ap (λ (t : Table). constructors_of t c) (sym e)) l i))
