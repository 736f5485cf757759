-- Lists of members and of declarators.
use Rattle.std.proofs.Common.{◌≡◌, refl, sym, ap, ◌∙◌, subst, ℕ, zero, suc, Bool, true, false, List, [], ◌∷◌, ◌++◌, map, append_assoc}
use Rattle.std.proofs.lemmas.List.{map-append}
use Rattle.std.specs.List.{AllByRecursion}
use Rattle.kr_ast.specs.Tree as trees
use Rattle.kr_ast.specs.Tree.{Tree}
use Rattle.kr_ast.specs.Arena.{IsPart, tree_in, tree_of}
use Rattle.kr_ast.specs.declared.node.Entry.{Entry}
use Rattle.kr_ast.specs.declared.node.Node.{Node}
use Rattle.kr_ast.specs.declared.node.Node.TheVariants as nodes
use Rattle.kr_classes_table.specs.Table.{items}
use Rattle.kr_types_meaning.specs.Handing.{handed, second}
use Rattle.kr_types_meaning.specs.Scopes.{Scope, after, declaring, field_kind, static_if}
use Rattle.kr_laws_types.specs.Derivation.{AreClasses, AreDeclarators, IsClass, IsDeclarator, IsMember}
use Rattle.kr_types.specs.declared.program.Program.{Program}
use Rattle.kr_types.specs.Programs.{IsProgram}
use Rattle.kr_code_members.specs.Nodes.{IsHere, arena_at, node_scope, node_tree}
use Rattle.kr_code_members.specs.Walk.{AreStill, IsIn, IsSplit}
use Rattle.kr_code_members.proofs.Scopes.{part_scope, part_there, parts_are, tree_is}

-- ---- a list's node

pub no_items : (p : Program) (f l : ℕ) (e : Entry) → IsHere p f l e → ((a b : ℕ) → e.node ≡ nodes.Cons a b → ⊥) → items (node_tree p f l) ≡ []
no_items p f l e at h = ap items at.tree ∙ go e.node h
  where
    go : (n : Node) → ((a b : ℕ) → n ≡ nodes.Cons a b → ⊥) → items (tree_of (arena_at p f).text (tree_in (arena_at p f)) e.place n) ≡ []
    go (nodes.Cons a b) k = absurd (k a b refl)
    go _ k = refl

same : (j : ℕ) (s t : Scope) → t ≡ s → second j s t ≡ s
same zero s t e = refl
same (suc j) s t e = e

module _ (p : Program) (program : IsProgram p) (f l : ℕ) (e : Entry) (at : IsHere p f l e) (a b : ℕ) (it : e.node ≡ nodes.Cons a b) where
  t : node_tree p f l ≡ trees.Cons (node_tree p f a) (node_tree p f b)
  t = tree_is p f l e (nodes.Cons a b) at it

  shown : items (node_tree p f l) ≡ node_tree p f a ∷ items (node_tree p f b)
  shown = ap items t

  -- the item is still, so both have the scope of the list
  in_list : (s : Scope) → IsIn p f s l → AreStill s (items (node_tree p f l)) → (j c : ℕ) → IsPart (arena_at p f).entries l j c → IsIn p f s c
  in_list s l' still j c part = record {
    there = part_there p f l j c at.there part;
    scope = part_scope p program f l j c at.there part ∙ ap (λ (u : Tree). handed (node_scope p f l) u j) t ∙ ap (λ (z : Scope). second j z (after z (node_tree p f a))) l'.scope
        ∙ same j s (after s (node_tree p f a)) (subst (AreStill s) shown still).0;
  }

  pub splits : IsSplit p f l a b
  splits = let ps = parts_are p f l e (nodes.Cons a b) at it in record {
    behind = ps.1.0.below;
    shown = shown;
    stand = λ s l' still. (in_list s l' still 0 a ps.0, in_list s l' still 1 b ps.1.0);
  }

-- an item more
pub list_step : (v : ℕ → Tree) (kept new : List ℕ) (x : ℕ) (rest at all : List Tree) → new ≡ kept ++ x ∷ [] → at ≡ v x ∷ rest → map v kept ++ at ≡ all → map v new ++ rest ≡ all
list_step v kept new x rest at all n e h =
    ap (λ (xs : List ℕ). map v xs ++ rest) n ∙ ap (λ (ts : List Tree). ts ++ rest) (map-append v kept (x ∷ [])) ∙ append_assoc (map v kept) (v x ∷ []) rest
    ∙ ap (λ (ts : List Tree). map v kept ++ ts) (sym e) ∙ h

-- ---- members

still_member : (s : Scope) (t : Tree) → IsMember false t → after s t ≡ s
still_member s (trees.Class p n e ms) h = refl
still_member s (trees.Field p st fi t ds) h = refl
still_member s (trees.Method p st n g b) h = refl
still_member s (trees.Constructor p ps c b) h = refl
still_member s _ h = absurd h

pub still_members : (s : Scope) (t : Tree) → IsMember true t → AreStill s (items t)
still_members s trees.Nil h = tt
still_members s (trees.Cons a b) h = (still_member s a h.0, still_members s b h.1)
still_members s _ h = absurd h

pub each_member : (t : Tree) → IsMember true t → AllByRecursion (IsMember false) (items t)
each_member trees.Nil h = tt
each_member (trees.Cons a b) h = (h.0, each_member b h.1)
each_member _ h = absurd h

class_member : (t : Tree) → IsClass t → IsMember false t
class_member (trees.Class p n e ms) h = h
class_member _ h = absurd h

-- a class is in a file as among members
pub each_class : (t : Tree) → AreClasses t → AllByRecursion (IsMember false) (items t)
each_class trees.Nil h = tt
each_class (trees.Cons a b) h = (class_member a h.0, each_class b h.1)
each_class _ h = absurd h

-- ---- declarators

pub still_declarators : (st fi : Bool) (type : Tree) (s : Scope) (t : Tree) → AreDeclarators t → AreStill (static_if st (declaring (field_kind st fi) type s)) (items t)
still_declarators st fi type s trees.Nil h = tt
still_declarators true fi type s (trees.Cons (trees.Declarator p n e) b) h = (refl, still_declarators true fi type s b h.1)
still_declarators false fi type s (trees.Cons (trees.Declarator p n e) b) h = (refl, still_declarators false fi type s b h.1)
still_declarators st fi type s (trees.Cons _ b) h = absurd h.0
still_declarators st fi type s _ h = absurd h

pub each_declarator : (t : Tree) → AreDeclarators t → AllByRecursion IsDeclarator (items t)
each_declarator trees.Nil h = tt
each_declarator (trees.Cons a b) h = (h.0, each_declarator b h.1)
each_declarator _ h = absurd h
