use Rattle.std.proofs.Common.{◌≡◌, ℕ, ◌<◌, ◌≤◌, List, [], length, subst, sym, ◌∙◌, arith}
use Rattle.std.specs.Prelude.{Option, Some, None, IfSome, IfNone, slice_index_or}
use Rattle.kr_ast.specs.Arena.{Arena}
use Rattle.kr_classes_table.specs.Table.{Table}
use Rattle.kr_types_scopes.specs.declared.within.Within.{Within}
use Rattle.kr_types_scopes.specs.declared.within.Binding.{Binding}
use Rattle.kr_types_scopes.specs.Scoped.{AreScopes, nowhere}
use Rattle.kr_types_scopes.specs.Lookups.{IsLocalThere, IsNoLocal}
use Rattle.kr_types_scopes.specs.Newest.{IsStart, MayBegin}
use Rattle.kr_types_scopes.proofs.scopes.Scopes.local.Goals as goal

no_classes : Table
no_classes = record { headings = []; classes = [] }

some_weaker : {A : Type 0} (o : Option A) (P Q : A → Type 0) → ((x : A) → P x → Q x) → IfSome o P → IfSome o Q
some_weaker None P Q f h = tt
some_weaker (Some x) P Q f h = f x h

none_weaker : {A : Type 0} (o : Option A) (P Q : Type 0) → (P → Q) → IfNone o P → IfNone o Q
none_weaker None P Q f h = f h
none_weaker (Some x) P Q f h = tt

pub at-here-requires : goal.at-here-requires
at-here-requires c = omega (arith, (c.requires.scopes no_classes []).long, c.requires.within)

begins : (tree : Arena) (bs : List Binding) (ws : List Within) (node : ℕ) (name : List ℕ) (here : Within) (start : ℕ) → AreScopes tree bs ws → node < length tree.entries → here ≡ slice_index_or ws node nowhere
    → ((bs : List Binding) → here.top ≤ length bs → IsStart tree bs here.top node here.start → MayBegin tree bs here.top name start) → MayBegin tree bs here.top name start
begins tree bs ws node name here start scopes lt is f =
    let h = scopes no_classes [] in
    f bs (subst (λ (w : Within). w.top ≤ length bs) (sym is) (h.tops node)) (subst (λ (w : Within). IsStart tree bs w.top node w.start) (sym is) (h.starts node lt))

pub find_local-requires-clause-top : goal.find_local-requires-clause-top
find_local-requires-clause-top c = (begins c.args.tree.now c.args.self.now.bindings.items c.args.self.now.within.items c.args.node c.args.name.now c.at-here.result c.search_top-top.result c.requires.scopes c.requires.within c.at-here.ensures c.search_top-top.ensures).within

pub find_local-requires-clause-chain : goal.find_local-requires-clause-chain
find_local-requires-clause-chain c = (c.requires.scopes no_classes []).chain

pub find_local-requires-clause-named : goal.find_local-requires-clause-named
find_local-requires-clause-named c = (c.requires.scopes no_classes []).named

pub returns-clause-found : goal.returns-clause-found
returns-clause-found c =
    let tree = c.args.tree.now in
    let bs = c.args.self.now.bindings.items in
    let begin =
    begins c.args.tree.now c.args.self.now.bindings.items c.args.self.now.within.items c.args.node c.args.name.now c.at-here.result c.search_top-top.result c.requires.scopes c.requires.within c.at-here.ensures c.search_top-top.ensures in
    let found : IfSome c.find_local.result (IsLocalThere tree bs c.at-here.result.top c.args.name.now) =
    some_weaker c.find_local.result (IsLocalThere tree bs c.search_top-top.result c.args.name.now) (IsLocalThere tree bs c.at-here.result.top c.args.name.now)
    (λ l h t v f. sym (begin.same t v f) ∙ h t v f) c.find_local.ensures.found in
    rw c.at-here.ensures at found

pub returns-clause-none : goal.returns-clause-none
returns-clause-none c =
    let tree = c.args.tree.now in
    let bs = c.args.self.now.bindings.items in
    let begin =
    begins c.args.tree.now c.args.self.now.bindings.items c.args.self.now.within.items c.args.node c.args.name.now c.at-here.result c.search_top-top.result c.requires.scopes c.requires.within c.at-here.ensures c.search_top-top.ensures in
    let none : IfNone c.find_local.result (IsNoLocal tree bs c.at-here.result.top c.args.name.now) =
    none_weaker c.find_local.result (IsNoLocal tree bs c.search_top-top.result c.args.name.now) (IsNoLocal tree bs c.at-here.result.top c.args.name.now)
    (λ h t v f. sym (begin.same t v f) ∙ h t v f) c.find_local.ensures.none in
    rw c.at-here.ensures at none
