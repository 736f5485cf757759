use Rattle.std.proofs.Common.{◌≡◌, ℕ, ◌+◌, ◌<◌, List, [], ◌∷◌, ◌++◌, length, get_or, sym, ap, ◌∙◌, subst}
use Rattle.kr_ast.specs.declared.node.Entry.{Entry}
use Rattle.kr_base.specs.declared.place.Place.{Place}
use Rattle.kr_ast.specs.Arena.{tree_in, trees}
use Rattle.kr_ast.specs.Forest.{AreFree, AreRoots}
use Rattle.kr_ast.specs.Tree.{Tree, Nil, Cons, Class}
use Rattle.kr_ast.proofs.Roots.{free_front}
use Rattle.kr_classes_table.specs.Predefined.{class_tree, extended_tree}
use Rattle.kr_classes_table.proofs.Listed.{in_front, length_trees, ok_both, ok_to}
use Rattle.kr_classes_table.proofs.predefined.put_class.Goals as goal

pub put-requires-2-clause-free : goal.put-requires-2-clause-free
put-requires-2-clause-free c =
    let above = c.in_ok-above.above in
    let members = c.in_ok-members.members in
    let roots = c.in_ok-above.ensures.roots (members ∷ c.args.rest ∷ []) (c.in_ok-members.ensures.roots (c.args.rest ∷ []) c.requires) in
    subst (λ (es : List Entry). AreFree es (above ∷ members ∷ [])) (sym c.in_ok-shown.ensures.entries) (free_front c.put_extended.new.forest.entries (above ∷ members ∷ []) (c.args.rest ∷ []) roots.free)

pub put-requires-3-clause-free : goal.put-requires-3-clause-free
put-requires-3-clause-free c =
    let above = c.in_ok-above.above in
    let members = c.in_ok-members.members in
    let roots = c.in_ok-above.ensures.roots (members ∷ c.args.rest ∷ []) (c.in_ok-members.ensures.roots (c.args.rest ∷ []) c.requires) in
    (c.in_ok-class.ensures.roots (c.args.rest ∷ []) (subst (λ (es : List Entry). AreRoots es (above ∷ members ∷ c.args.rest ∷ [])) (sym c.in_ok-shown.ensures.entries) roots)).free

pub returns-clause-tree : goal.returns-clause-tree
returns-clause-tree c =
    let old = c.args.forest.now in
    let n = length old.entries in
    let rest = c.args.rest in
    let name = c.args.name.now in
    let place = c.start_of-place.result in
    let make : Tree → Tree → Tree = λ a m. Class place name a m in
    let e = extended_tree place c.args.extended.now in
    let m = c.in_ok-members.ensures in
    let a = c.in_ok-above.ensures in
    let k = c.in_ok-class.ensures in
    let members = c.in_ok-members.members in
    let ts : List Tree = trees old.text old.entries in
    let ts2 : List Tree = trees c.add_name.new.self.text c.add_name.new.self.entries in
    let ts3 : List Tree = trees c.put-2.new.self.text c.put-2.new.self.entries in
    let ts4 : List Tree = trees c.put-3.new.self.text c.put-3.new.self.entries in
    let second : ts2 ≡ (ts ++ Nil ∷ []) ++ e ∷ [] = c.in_ok-shown.ensures.trees ∙ (a.trees ∙ ap (λ (xs : List Tree). xs ++ e ∷ []) m.trees) in
    let above_at : c.in_ok-above.above ≡ n + 1 = a.at ∙ m.count in
    let counted : length c.add_name.new.self.entries ≡ n + 1 + 1 = ap length c.in_ok-shown.ensures.entries ∙ (a.count ∙ ap (λ i. i + 1) m.count) in
    let class_at : c.in_ok-class.class ≡ n + 1 + 1 = k.at ∙ counted in
    let third : ts3 ≡ ts2 ++ make (get_or ts2 (n + 1) Nil) (get_or ts2 n Nil) ∷ [] =
    k.trees
    ∙ ap (λ (x : Tree). ts2 ++ x ∷ [])
    (ap (λ (word : List ℕ). Class place word (get_or ts2 c.in_ok-above.above Nil) (get_or ts2 members Nil)) c.in_ok-shown.ensures.shown
    ∙ (ap (λ (i : ℕ). make (get_or ts2 i Nil) (get_or ts2 members Nil)) above_at ∙ ap (λ (i : ℕ). make (get_or ts2 (n + 1) Nil) (get_or ts2 i Nil)) m.at)) in
    ok_both (λ at. at ≡ length c.put-2.new.self.entries) (λ at. ts4 ≡ ts3 ++ Cons (get_or ts3 c.in_ok-class.class Nil) (get_or ts3 rest Nil) ∷ [])
    (λ at. tree_in c.put-3.new.self at ≡ Cons (class_tree c.args.number (record { name = name; extended = c.args.extended.now })) (tree_in old rest)) c.put-3.result
    (λ at is last.
    let at_is : at ≡ n + 1 + 1 + 1 = is ∙ (k.count ∙ ap (λ i. i + 1) counted) in
    let fourth : ts4 ≡ ts3 ++ Cons (get_or ts3 (n + 1 + 1) Nil) (get_or ts3 rest Nil) ∷ [] = last ∙ ap (λ (i : ℕ). ts3 ++ Cons (get_or ts3 i Nil) (get_or ts3 rest Nil) ∷ []) class_at in
    ap (λ (i : ℕ). get_or ts4 i Nil) at_is
    ∙ (in_front make ts rest n e (length_trees old.text old.entries) c.requires.free.0 ts2 ts3 ts4 second third fourth
    ∙ ap (λ (p : Place). Cons (Class p name (extended_tree p c.args.extended.now) Nil) (get_or ts rest Nil)) c.start_of-place.ensures))
    c.put-3.ensures.at c.put-3.ensures.trees

pub returns-clause-roots : goal.returns-clause-roots
returns-clause-roots c =
    let above = c.in_ok-above.above in
    let members = c.in_ok-members.members in
    let rest = c.args.rest in
    let roots = c.in_ok-above.ensures.roots (members ∷ rest ∷ []) (c.in_ok-members.ensures.roots (rest ∷ []) c.requires) in
    let three = c.in_ok-class.ensures.roots (rest ∷ []) (subst (λ (es : List Entry). AreRoots es (above ∷ members ∷ rest ∷ [])) (sym c.in_ok-shown.ensures.entries) roots) in
    ok_to (λ at. (more : List ℕ) → AreRoots c.put-2.new.self.entries (c.in_ok-class.class ∷ rest ∷ more) → AreRoots c.put-3.new.self.entries (at ∷ more))
    (λ at. AreRoots c.put-3.new.self.entries (at ∷ [])) c.put-3.result (λ at h. h [] three) c.put-3.ensures.roots
