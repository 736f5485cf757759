-- Items of a list that grows.
use Rattle.std.proofs.Common.{◌≡◌, sym, ap, ◌∙◌, ℕ, zero, suc, ◌+◌, ◌-◌, ◌<◌, List, [], ◌∷◌, ◌++◌, length, length-append, map, take, drop, get_or, append_assoc, add-one, arith}
use Rattle.std.specs.List.{range_with_len}
use Rattle.std.proofs.Math.Seq.{drop-append_seam}
use Rattle.std.proofs.lemmas.List.{map-append, take_more}
use Rattle.kr_classes_names.specs.ListedTypes.{IsGrown}
use Rattle.kr_types.specs.declared.program.Program.{Program}
use Rattle.kr_code.specs.declared.code.Code.{Code}
use Rattle.kr_code.specs.declared.code.Node.{Node}
use Rattle.kr_code.specs.declared.code.Node.TheVariants as nodes
use Rattle.kr_code.specs.declared.expression.Nodes.{Nodes}
use Rattle.kr_code_lowering.specs.Origins.{Final}
use Rattle.kr_code_lowering.specs.Sites.{Becomes}
use Rattle.kr_code_lowering.proofs.Growth.{grown_on, take_grown}
use Rattle.kr_code_bodies.specs.Made.{AddsInitialisers, AreThere}

-- the items after those before them
pub there_behind : {A : Type 0} (old new items : List A) (ns : Nodes) → new ≡ old ++ items → ns.first ≡ length old → ns.count ≡ length new - ns.first → AreThere new ns items
there_behind old new items ns e f n more g =
    let k = ns.first in
    ap (λ (m : ℕ). take m (drop k more)) n ∙ take_grown k new more (omega (arith, f, ap length e, length-append old items)) g
    ∙ ap (drop k) e ∙ ap (λ (m : ℕ). drop m (old ++ items)) f ∙ drop-append_seam old items

-- one item more
pub items_step : {A B : Type 0} (f : A → B) (before kept new : List B) (x : B) (xs : List A) (i : ℕ) (d : A) → i < length xs → kept ≡ before ++ map f (take i xs) → new ≡ kept ++ x ∷ [] → x ≡ f (get_or xs i d) → new ≡ before ++ map f (take (i + 1) xs)
items_step f before kept new x xs i d l k n e =
    n ∙ ap (λ (ys : List _). ys ++ x ∷ []) k ∙ append_assoc before (map f (take i xs)) (x ∷ [])
    ∙ ap (λ (z : _). before ++ (map f (take i xs) ++ z ∷ [])) e
    ∙ ap (λ (ys : List _). before ++ ys) (sym (map-append f (take i xs) (get_or xs i d ∷ [])) ∙ ap (map f) (sym (take_more xs i d l)))

-- earlier links become the code's, too
pub becomes_before : (p : Program) (known : List (List ℕ)) (before linked : List ℕ) (final : Final) (code : Code) → IsGrown before linked → Becomes p known linked final code → Becomes p known before final code
becomes_before p known before linked final code g b = record { names = b.names; links = grown_on before linked code.links.items g b.links; methods = b.methods; classes = b.classes }

pub adds_on : (old mid new : List Node) → AddsInitialisers old mid → AddsInitialisers mid new → AddsInitialisers old new
adds_on old mid new a b = record {
  added = a.added ++ b.added;
  items = b.items ∙ ap (λ (xs : List Node). xs ++ map nodes.Initialiser b.added) a.items ∙ append_assoc old (map nodes.Initialiser a.added) (map nodes.Initialiser b.added) ∙ ap (λ (xs : List Node). old ++ xs) (sym (map-append nodes.Initialiser a.added b.added));
}

pub adds_grown : (old new : List Node) → AddsInitialisers old new → IsGrown old new
adds_grown old new a = record { more = map nodes.Initialiser a.added; items = a.items }

range_more : (a n : ℕ) → range_with_len a (suc n) ≡ range_with_len a n ++ (a + n) ∷ []
range_more a zero = ap (λ (m : ℕ). m ∷ []) (omega arith)
range_more a (suc n) = ap (λ (ms : List ℕ). a ∷ ms) (range_more (a + 1) n ∙ ap (λ (m : ℕ). range_with_len (a + 1) n ++ m ∷ []) (omega arith))

-- one number more
pub range_step : (before kept new : List ℕ) (a n x : ℕ) → kept ≡ before ++ range_with_len a n → new ≡ kept ++ x ∷ [] → x ≡ a + n → new ≡ before ++ range_with_len a (n + 1)
range_step before kept new a n x k e f =
    e ∙ ap (λ (xs : List ℕ). xs ++ x ∷ []) k ∙ append_assoc before (range_with_len a n) (x ∷ []) ∙ ap (λ (m : ℕ). before ++ (range_with_len a n ++ m ∷ [])) f
    ∙ ap (λ (xs : List ℕ). before ++ xs) (sym (range_more a n) ∙ ap (range_with_len a) (sym (add-one n)))
