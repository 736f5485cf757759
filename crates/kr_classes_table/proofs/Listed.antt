-- A class in front of a list of classes, as the four nodes that are put make it.
use Rattle.std.proofs.Common.{◌≡◌, ℕ, ◌+◌, ◌<◌, List, [], ◌∷◌, ◌++◌, length, get_or, sym, ap, ◌∙◌, arith, length-append}
use Rattle.std.proofs.lemmas.Grind.{common_steps}
use Rattle.std.specs.Prelude.{Result, Ok, Err, IfOk}
use Rattle.kr_ast.specs.declared.node.Entry.{Entry}
use Rattle.kr_ast.specs.Arena.{entry_tree, trees}
use Rattle.kr_ast.specs.Tree.{Tree, Nil, Cons}
use Rattle.kr_ast.proofs.Grown.{length-grow}

pub ok_to : {A E : Type 0} (P Q : A → Type 0) (r : Result A E) → ((a : A) → P a → Q a) → IfOk r P → IfOk r Q
ok_to P Q (Ok a) f h = f a h
ok_to P Q (Err e) f h = tt

pub ok_both : {A E : Type 0} (P Q R : A → Type 0) (r : Result A E) → ((a : A) → P a → Q a → R a) → IfOk r P → IfOk r Q → IfOk r R
ok_both P Q R (Ok a) f h k = f a h k
ok_both P Q R (Err e) f h k = tt

pub length_trees : (text : List ℕ) (es : List Entry) → length es ≡ length (trees text es)
unfolding trees
length_trees text es = omega (arith, length-grow (entry_tree text) [] es)

at_below : (ts : List Tree) (t : Tree) (i : ℕ) → i < length ts → get_or (ts ++ t ∷ []) i Nil ≡ get_or ts i Nil
at_below ts t i h = grind (arith, common_steps)

pub at_end : (ts : List Tree) (t : Tree) (i : ℕ) → i ≡ length ts → get_or (ts ++ t ∷ []) i Nil ≡ t
at_end ts t i h = grind (arith, common_steps)

one_more : (ts : List Tree) (t : Tree) (n : ℕ) → n ≡ length ts → n + 1 ≡ length (ts ++ t ∷ [])
one_more ts t n h = omega (arith, length-append ts (t ∷ []))

pub in_front : (make : Tree → Tree → Tree) (ts : List Tree) (rest n : ℕ) (e : Tree) → n ≡ length ts → rest < n
    → (ts2 ts3 ts4 : List Tree) → ts2 ≡ (ts ++ Nil ∷ []) ++ e ∷ []
    → ts3 ≡ ts2 ++ make (get_or ts2 (n + 1) Nil) (get_or ts2 n Nil) ∷ []
    → ts4 ≡ ts3 ++ Cons (get_or ts3 (n + 1 + 1) Nil) (get_or ts3 rest Nil) ∷ []
    → get_or ts4 (n + 1 + 1 + 1) Nil ≡ Cons (make e Nil) (get_or ts rest Nil)
in_front make ts rest n e long below ts2 ts3 ts4 second third fourth =
    let ts1 = ts ++ Nil ∷ [] in
    let long1 = one_more ts Nil n long in
    let long2 : n + 1 + 1 ≡ length ts2 = one_more ts1 e (n + 1) long1 ∙ ap length (sym second) in
    let class = make (get_or ts2 (n + 1) Nil) (get_or ts2 n Nil) in
    let long3 : n + 1 + 1 + 1 ≡ length ts3 = one_more ts2 class (n + 1 + 1) long2 ∙ ap length (sym third) in
    let above : get_or ts2 (n + 1) Nil ≡ e = ap (λ (xs : List Tree). get_or xs (n + 1) Nil) second ∙ at_end ts1 e (n + 1) long1 in
    let members : get_or ts2 n Nil ≡ Nil = ap (λ (xs : List Tree). get_or xs n Nil) second ∙ (at_below ts1 e n (omega (arith, long1)) ∙ at_end ts Nil n long) in
    let first : get_or ts3 (n + 1 + 1) Nil ≡ make e Nil =
    ap (λ (xs : List Tree). get_or xs (n + 1 + 1) Nil) third ∙ (at_end ts2 class (n + 1 + 1) long2 ∙ (ap (λ (t : Tree). make t (get_or ts2 n Nil)) above ∙ ap (make e) members)) in
    let kept : get_or ts3 rest Nil ≡ get_or ts rest Nil =
    ap (λ (xs : List Tree). get_or xs rest Nil) third
    ∙ (at_below ts2 class rest (omega (arith, long2, below))
    ∙ (ap (λ (xs : List Tree). get_or xs rest Nil) second
    ∙ (at_below ts1 e rest (omega (arith, long1, below)) ∙ at_below ts Nil rest (omega (arith, long, below))))) in
    ap (λ (xs : List Tree). get_or xs (n + 1 + 1 + 1) Nil) fourth
    ∙ (at_end ts3 (Cons (get_or ts3 (n + 1 + 1) Nil) (get_or ts3 rest Nil)) (n + 1 + 1 + 1) long3
    ∙ (ap (λ (t : Tree). Cons t (get_or ts3 rest Nil)) first ∙ ap (Cons (make e Nil)) kept))
