-- The nodes of the code, one after another.
use Rattle.std.proofs.Common.{◌≡◌, refl, sym, ap, ◌∙◌, ℕ, zero, suc, ◌+◌, ◌≤◌, List, [], ◌∷◌, ◌++◌, length, arith, length-append, Some}
use Rattle.std.specs.Prelude.{slice_get}
use Rattle.kr_ast.specs.Arena.{Arena}
use Rattle.kr_classes_names.specs.ListedTypes.{IsGrown}
use Rattle.kr_types.specs.declared.program.Program.{Program}
use Rattle.kr_types.specs.Programs.{all_entries}
use Rattle.kr_code.specs.declared.code.Code.{Code}
use Rattle.kr_code.specs.declared.code.Node.{Node}
use Rattle.kr_code_lowering.specs.Origins.{Final, first_node}
use Rattle.kr_code_lowering.specs.Sites.{Becomes}
use Rattle.kr_code_lowering.specs.Resolving.{AreNodes, IsNode}
use Rattle.kr_code_members.proofs.Zipped.{each_push}
use Rattle.kr_code_lowering.proofs.Growth.{grown_on}

before : (p : Program) (known known' : List (List ℕ)) (linked linked' : List ℕ) (final : Final) (code : Code) → IsGrown known known' → IsGrown linked linked' → Becomes p known' linked' final code → Becomes p known linked final code
before p known known' linked linked' final code g h b = record { names = grown_on known known' final.names g b.names; links = grown_on linked linked' code.links.items h b.links; methods = b.methods; classes = b.classes }

node_grown : (p : Program) (arrays : List ℕ) (known known' : List (List ℕ)) (linked linked' : List ℕ) (k : ℕ) (n : Node) → IsGrown known known' → IsGrown linked linked' → IsNode p arrays known linked k n → IsNode p arrays known' linked' k n
node_grown p arrays known known' linked linked' k n g h is = record {
  expression = λ final code b. is.expression final code (before p known known' linked linked' final code g h b);
  statement = λ final code b d. is.statement final code (before p known known' linked linked' final code g h b) d;
  declarator = is.declarator;
  caught = is.caught;
}

-- a node more
pub nodes_push : (p : Program) (arrays : List ℕ) (known known' : List (List ℕ)) (linked linked' : List ℕ) (ns more : List Node) (n : Node) (i : ℕ) → IsGrown known known' → IsGrown linked linked' → AreNodes p arrays known linked ns → i ≡ length ns → IsNode p arrays known' linked' i n → more ≡ ns ++ n ∷ []
    → AreNodes p arrays known' linked' more
nodes_push p arrays known known' linked linked' ns more n i g h are at is e = each_push (IsNode p arrays known' linked') ns more n i e (sym at) is (λ k m got. node_grown p arrays known known' linked linked' k m g h (are k m got))

pub nodes_none : (p : Program) (arrays : List ℕ) (known : List (List ℕ)) (linked : List ℕ) (ns : List Node) → ns ≡ [] → AreNodes p arrays known linked ns
nodes_none p arrays known linked ns e k n got = let no : slice_get [] k ≡ Some n = ap (λ (xs : List Node). slice_get xs k) (sym e) ∙ got in absurd (cc (no))

-- all nodes are before the end
pub first_end : (files : List Arena) → first_node files (length files) ≡ length (all_entries files)
unfolding first_node
first_end [] = refl
first_end (a ∷ files) = ap (λ n. length a.entries + n) (first_end files) ∙ sym (length-append a.entries (all_entries files))

pub first_small : (files : List Arena) (f : ℕ) → first_node files f ≤ length (all_entries files)
unfolding first_node
first_small files zero = omega arith
first_small [] (suc f) = omega arith
first_small (a ∷ files) (suc f) = omega (arith, first_small files f, length-append a.entries (all_entries files))
