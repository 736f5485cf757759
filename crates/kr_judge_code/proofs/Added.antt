-- What contract lines ask after the body, added one after another.
use Rattle.std.proofs.Common.{◌≡◌, refl, sym, ap, ◌∙◌, subst, false, ℕ, ◌+◌, List, [], ◌∷◌, ◌++◌, length, length-append, map, append-nil, append_assoc, arith}
use Rattle.std.specs.Prelude.{flat_map}
use Rattle.std.proofs.lemmas.List.{map-append}
use Rattle.std.proofs.lemmas.List.Concat.{flat_map-append}
use Rattle.kr_base.specs.declared.place.Place.{Place}
use Rattle.kr_ast.specs.Tree as trees
use Rattle.kr_ast.specs.Tree.{Tree}
use Rattle.kr_ast.specs.Arena as arenas
use Rattle.kr_ast.specs.Arena.{tree_of}
use Rattle.kr_ast.specs.declared.node.Entry.{Entry}
use Rattle.kr_ast.specs.declared.node.Node.{Node as AstNode}
use Rattle.kr_ast.specs.declared.node.Node.TheVariants as nodes
use Rattle.kr_types_meaning.specs.Handing.{handed}
use Rattle.kr_types_meaning.specs.Running.{running}
use Rattle.kr_types_meaning.specs.Scopes.{Ensuring, Scope, Signalling, after, caught_type, in_contract, in_signals}
use Rattle.kr_laws_types.proofs.Loops.{running_same}
use Rattle.kr_mean.specs.Code.{Node}
use Rattle.kr_mean.specs.Runs.{ensured_in}
use Rattle.kr_mean.specs.Verdicts.{OldNode, Signal, names_thrown, olds_in, signals_from}
use Rattle.kr_classes_names.specs.Types.{IsTypeNumber}
use Rattle.kr_code.specs.Resolved.{Numbering}
use Rattle.kr_types.specs.declared.program.Program.{Program}
use Rattle.kr_types.specs.Programs.{IsProgram}
use Rattle.kr_code_lowering.specs.declared.site.Site.{Site}
use Rattle.kr_code_lowering.specs.Origins.{Final, node_scope, node_tree, numbering_of}
use Rattle.kr_code_lowering.specs.Sites.{IsHere, IsSite, arena_at, number_at, scope_at, tree_at}
use Rattle.kr_code_lowering.proofs.Caught.{caught_running}
use Rattle.kr_code_lowering.proofs.Parts.{part_in, part_scope, tree_is}
use Rattle.kr_code_lowering.proofs.Naming.{parts_are}
use Rattle.kr_judge_prepared.specs.Tested.{old_shown, signals_shown}
use Rattle.kr_judge_prepared.specs.declared.contract.Contract.{Contract}
use Rattle.kr_judge_prepared.specs.declared.contract.SignalCode.{SignalCode}
use Rattle.kr_judge_code.specs.Lines.{ensured}
use Rattle.kr_judge_code.specs.Olds.{AreAdded, olds_below, olds_under, shown}

-- ---- `signals` by their numbers

shown_append : (n : Numbering) (k : ℕ) (xs us : List SignalCode) → signals_shown n k (xs ++ us) ≡ signals_shown n k xs ++ signals_shown n (k + length xs) us
shown_append n k [] us = ap (λ (m : ℕ). signals_shown n m us) (omega arith)
shown_append n k (x ∷ xs) us =
    let next : k + 1 + length xs ≡ k + length (x ∷ xs) = omega arith in
    ap (λ (cs : List Signal). signals_shown n k (x ∷ []) ++ cs) (shown_append n (k + 1) xs us ∙ ap (λ (m : ℕ). signals_shown n (k + 1) xs ++ signals_shown n m us) next)

shown_length : (n : Numbering) (k : ℕ) (xs : List SignalCode) → length (signals_shown n k xs) ≡ length xs
shown_length n k [] = refl
shown_length n k (x ∷ xs) = let e = shown_length n (k + 1) xs in omega (arith, e)

from_append : (s : Scope) (k : ℕ) (ts us : List Tree) → signals_from s k (ts ++ us) ≡ signals_from s k ts ++ signals_from s (k + length (signals_from s k ts)) us
from_append s k [] us = ap (λ (m : ℕ). signals_from s m us) (omega arith)
from_append s k (trees.Signals p d e ∷ ts) us =
    let next : k + 1 + length (signals_from s (k + 1) ts) ≡ k + length (signals_from s k (trees.Signals p d e ∷ ts)) = omega arith in
    ap (λ (cs : List Signal). signals_from s k (trees.Signals p d e ∷ []) ++ cs) (from_append s (k + 1) ts us ∙ ap (λ (m : ℕ). signals_from s (k + 1) ts ++ signals_from s m us) next)
from_append s k (t ∷ ts) us = from_append s k ts us

-- ---- one after another

pub none_added : (n : Numbering) (s : Scope) (k : Contract) → AreAdded n s [] k k
none_added n s k = record { method = refl; olds = sym (append-nil (map (old_shown n) k.olds.items)); postconditions = sym (append-nil (map n.origin k.postconditions.items)); signals = sym (append-nil (signals_shown n 1 k.signals.items)) }

ensured_append : (s : Scope) (ts us : List Tree) → ensured s (ts ++ us) ≡ ensured s ts ++ ensured s us
ensured_append s ts us =
    let f = λ (u : Tree). let made : Node = record { scope = in_contract Ensuring s; tree = u } in made in
    ap (map f) (flat_map-append ensured_in ts us) ∙ map-append f (flat_map ensured_in ts) (flat_map ensured_in us)

pub both_added : (n : Numbering) (s : Scope) (ts us : List Tree) (x y z : Contract) → AreAdded n s ts x y → AreAdded n s us y z → AreAdded n s (ts ++ us) x z
both_added n s ts us x y z a b =
    let before = signals_shown n 1 x.signals.items in
    let first = signals_from s (length x.signals.items + 1) ts in
    let count : length y.signals.items ≡ length x.signals.items + length first =
    omega (arith, shown_length n 1 y.signals.items, shown_length n 1 x.signals.items, ap length a.signals, length-append before first) in
    let next : length y.signals.items + 1 ≡ length x.signals.items + 1 + length first = omega (arith, count) in
    record {
      method = b.method ∙ a.method;
      olds =
          b.olds ∙ (ap (λ (os : List OldNode). os ++ flat_map (olds_in s) us) a.olds
          ∙ (append_assoc (map (old_shown n) x.olds.items) (flat_map (olds_in s) ts) (flat_map (olds_in s) us)
          ∙ ap (λ (os : List OldNode). map (old_shown n) x.olds.items ++ os) (sym (flat_map-append (olds_in s) ts us))));
      postconditions =
          b.postconditions ∙ (ap (λ (ns : List Node). ns ++ ensured s us) a.postconditions
          ∙ (append_assoc (map n.origin x.postconditions.items) (ensured s ts) (ensured s us)
          ∙ ap (λ (ns : List Node). map n.origin x.postconditions.items ++ ns) (sym (ensured_append s ts us))));
      signals =
          b.signals ∙ (ap (λ (cs : List Signal). cs ++ signals_from s (length y.signals.items + 1) us) a.signals
          ∙ (append_assoc before first (signals_from s (length y.signals.items + 1) us)
          ∙ ap (λ (cs : List Signal). before ++ cs) (ap (λ (k : ℕ). first ++ signals_from s k us) next ∙ sym (from_append s (length x.signals.items + 1) ts us))));
    }

-- ---- a line

pub part_site : (p : Program) (line : Site) (e : Entry) → IsHere p line e → (j c : ℕ) → arenas.IsPart (arena_at p line).entries line.node j c → IsSite p (record line { node = c })
part_site p line e at j c part = record { file = at.site.file; node = (let b = part.below in let n = at.site.node in omega (arith, b, n)); first = at.site.first }

-- other lines ask nothing after the body
pub other_line : (n : Numbering) (s : Scope) (text : List ℕ) (look : ℕ → Tree) (place : Place) (m : AstNode) → ((a : ℕ) → m ≡ nodes.Ensures a → ⊥) → ((a b : ℕ) → m ≡ nodes.Signals a b → ⊥) → (k : Contract) → AreAdded n s (tree_of text look place m ∷ []) k k
other_line n s text look place (nodes.Ensures a) h g k = absurd (h a refl)
other_line n s text look place (nodes.Signals a b) h g k = absurd (g a b refl)
other_line n s text look place _ h g k = let e : AreAdded n s [] k k = none_added n s k in record { method = e.method; olds = e.olds; postconditions = e.postconditions; signals = e.signals }

module _ (p : Program) (is : IsProgram p) (line : Site) (e : Entry) (at : IsHere p line e) (s : Scope) (final : Final) (runs : running (scope_at p line) ≡ s) (old new : Contract) (method : new.method ≡ old.method) where
  abbrev n : Numbering
  n = numbering_of p final

  pub postcondition_added : (a : ℕ) → e.node ≡ nodes.Ensures a → new.signals.items ≡ old.signals.items → shown p final new.olds.items ≡ shown p final old.olds.items ++ olds_below false p line.file a → new.postconditions.items ≡ old.postconditions.items ++ number_at p line a ∷ []
      → AreAdded n s (tree_at p line ∷ []) old new
  postcondition_added a it signals olds pushed =
      let ps = parts_are p line e (nodes.Ensures a) at it in
      let tree : Tree = node_tree p line.file a in
      let t : tree_at p line ≡ trees.Ensures e.place tree = tree_is p line e (nodes.Ensures a) at it in
      let scope : running (node_scope p line.file a) ≡ in_contract Ensuring s = ap running (part_scope p is line at.site 0 a ps.0 ∙ ap (λ (u : Tree). handed (scope_at p line) u 0) t) ∙ ap (λ (r : Scope). in_contract Ensuring r) runs in
      let origin = part_in p is final line e (nodes.Ensures a) at it 0 a ps.0 (in_contract Ensuring s) (ap (λ (r : Scope). in_contract Ensuring r) runs) in
      subst (λ (u : Tree). AreAdded n s (u ∷ []) old new) (sym t)
      (record {
        method = method;
        olds = olds ∙ ap (λ (os : List OldNode). shown p final old.olds.items ++ os) (ap (λ (r : Scope). olds_under false r tree) scope ∙ sym (append-nil (olds_under false (in_contract Ensuring s) tree)));
        postconditions = ap (map n.origin) pushed ∙ (map-append n.origin old.postconditions.items (number_at p line a ∷ []) ∙ ap (λ (x : Node). map n.origin old.postconditions.items ++ x ∷ []) origin);
        signals = ap (signals_shown n 1) signals ∙ sym (append-nil (signals_shown n 1 old.signals.items));
      })

  pub signals_added : (d a k : ℕ) → e.node ≡ nodes.Signals d a → IsTypeNumber p.table.types k (caught_type (scope_at p line) (node_tree p line.file d)) → new.postconditions.items ≡ old.postconditions.items
      → shown p final new.olds.items ≡ shown p final old.olds.items ++ olds_below (names_thrown (node_tree p line.file d)) p line.file a
      → new.signals.items ≡ old.signals.items ++ record { caught = k; is_named = names_thrown (node_tree p line.file d); condition = number_at p line a } ∷ [] → AreAdded n s (tree_at p line ∷ []) old new
  signals_added d a k it number postconditions olds pushed =
      let ps = parts_are p line e (nodes.Signals d a) at it in
      let tree : Tree = node_tree p line.file a in
      let declared : Tree = node_tree p line.file d in
      let t : tree_at p line ≡ trees.Signals e.place declared tree = tree_is p line e (nodes.Signals d a) at it in
      let inner : running (after (scope_at p line) declared) ≡ after s declared = sym (running_same (scope_at p line) declared).scope ∙ ap (λ (r : Scope). after r declared) runs in
      let within : running (in_contract Signalling (after (scope_at p line) declared)) ≡ in_signals declared s = ap (λ (r : Scope). in_contract Signalling r) inner in
      let scope : running (node_scope p line.file a) ≡ in_signals declared s = ap running (part_scope p is line at.site 1 a ps.1.0 ∙ ap (λ (u : Tree). handed (scope_at p line) u 1) t) ∙ within in
      let origin = part_in p is final line e (nodes.Signals d a) at it 1 a ps.1.0 (in_signals declared s) within in
      let type : n.type k ≡ caught_type s declared = number.type_is ∙ (caught_running (scope_at p line) declared ∙ ap (λ (r : Scope). caught_type r declared) runs) in
      let named = names_thrown declared in
      let x : SignalCode = record { caught = k; is_named = named; condition = number_at p line a } in
      let count : 1 + length old.signals.items ≡ length old.signals.items + 1 = omega arith in
      let one : signals_shown n (1 + length old.signals.items) (x ∷ []) ≡ signals_from s (length old.signals.items + 1) (trees.Signals e.place declared tree ∷ []) =
      ap (λ (m : ℕ). signals_shown n m (x ∷ [])) count
      ∙ (ap (λ (u : _). let made : Signal = record { number = length old.signals.items + 1; type = u; is_named = named; condition = n.origin (number_at p line a) } in made ∷ []) type
      ∙ ap (λ (u : Node). let made : Signal = record { number = length old.signals.items + 1; type = caught_type s declared; is_named = named; condition = u } in made ∷ []) origin) in
      subst (λ (u : Tree). AreAdded n s (u ∷ []) old new) (sym t)
      (record {
        method = method;
        olds = olds ∙ ap (λ (os : List OldNode). shown p final old.olds.items ++ os) (ap (λ (r : Scope). olds_under named r tree) scope ∙ sym (append-nil (olds_under named (in_signals declared s) tree)));
        postconditions = ap (map n.origin) postconditions ∙ sym (append-nil (map n.origin old.postconditions.items));
        signals = ap (signals_shown n 1) pushed ∙ (shown_append n 1 old.signals.items (x ∷ []) ∙ ap (λ (cs : List Signal). signals_shown n 1 old.signals.items ++ cs) one);
      })
