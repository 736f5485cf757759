-- One local more.
use Rattle.std.proofs.Common.{◌≡◌, ℕ, ◌+◌, inl, inr, List, [], ◌∷◌, ◌++◌, length, Option, refl, sym, ap, subst, ◌∙◌, arith, length-append}
use Rattle.kr_ast.specs.declared.node.Name.{Name}
use Rattle.kr_ast.specs.Arena.{Arena, name_in, AreNamesIn}
use Rattle.kr_classes_table.specs.Types.{JavaType}
use Rattle.kr_types_meaning.specs.Scopes.{Scope, Local, bind_local, bind_as}
use Rattle.kr_types_scopes.specs.declared.within.Declaring.{Declaring}
use Rattle.kr_types_scopes.specs.declared.within.Declaring.TheVariants as declarings
use Rattle.kr_types_scopes.specs.declared.within.Binding.{Binding}
use Rattle.kr_types_scopes.specs.declared.within.Within.{Within}
use Rattle.kr_types_scopes.specs.Settings.{Setting, setting, local_of, locals_at, scope_in, type_there, declaring_of, IsChain, AreNamed}
use Rattle.kr_types_scopes.specs.Tasks.{IsBound, IsStep}
use Rattle.kr_types_scopes.proofs.Chains.{keeps_push, locals_push, chain_push, with_locals}
use Rattle.kr_base.proofs.ListLemmas.{slice_get-push}

abbrev local_named : List ℕ → JavaType → Local
local_named n t = record { name = n; type = t }

-- the scope of the binding
bound_scope : (g : Setting) (old : List Binding) (b : Binding) (from : Within) (name : Name) (declared : Option ℕ) → b.name ≡ name → b.declared ≡ declared → b.below ≡ from.top
    → scope_in g (old ++ b ∷ []) (record from { top = length old + 1 }) ≡ bind_local (name_in g.tree.text name) (type_there g declared) (scope_in g old from)
bound_scope g old b from name declared n d below =
    let first : local_of g b ≡ local_named (name_in g.tree.text name) (type_there g declared) =
    ap (λ x. local_named (name_in g.tree.text x) (type_there g b.declared)) n ∙ ap (λ x. local_named (name_in g.tree.text name) (type_there g x)) d in
    let locals : locals_at g (old ++ b ∷ []) (length old + 1) ≡ local_named (name_in g.tree.text name) (type_there g declared) ∷ locals_at g old from.top =
    locals_push g old b ∙ (ap (λ l. l ∷ locals_at g old b.below) first ∙ ap (λ k. local_named (name_in g.tree.text name) (type_there g declared) ∷ locals_at g old k) below) in
    ap (with_locals g from) locals

named_push : (tree : Arena) (bs : List Binding) (b : Binding) → AreNamesIn tree.text (b.name ∷ []) → AreNamed tree bs → AreNamed tree (bs ++ b ∷ [])
named_push tree bs b n h k c is = elim (slice_get-push bs b k c is) [
  | inl l ↦ h k c l
  | inr r ↦ subst (λ (x : Binding). AreNamesIn tree.text (x.name ∷ [])) r.1 n
]

pub bound_step : (tree : Arena) (name : Name) (declared : Option ℕ) (from made : Within) (old new : List Binding) → IsChain old → AreNamesIn tree.text (name ∷ []) → IsBound name declared from old new made
    → IsStep tree old new made (λ g. bind_local (name_in g.tree.text name) (type_there g declared) (scope_in g old from))
bound_step tree name declared from made old new chain in_text h =
    let b = h.binding in
    let step : IsStep tree old (old ++ b ∷ []) (record from { top = length old + 1 }) (λ g. bind_local (name_in g.tree.text name) (type_there g declared) (scope_in g old from)) = record {
      top = omega (arith, length-append old (b ∷ []));
      scope_is = λ t v. bound_scope (setting t v tree) old b from name declared h.name_is h.declared_is h.below_is;
      keeps = λ t v. keeps_push (setting t v tree) old b;
      chain = chain_push old b chain h.link;
      named = named_push tree old b (subst (λ (n : Name). AreNamesIn tree.text (n ∷ [])) (sym h.name_is) in_text);
    } in
    subst (λ (x : List Binding). IsStep tree old x made (λ g. bind_local (name_in g.tree.text name) (type_there g declared) (scope_in g old from))) (sym h.items)
    (subst (λ (w : Within). IsStep tree old (old ++ b ∷ []) w (λ g. bind_local (name_in g.tree.text name) (type_there g declared) (scope_in g old from))) (sym h.made_is) step)

-- a declarator that declares no local
pub bind_other : (d : Declaring) (n : List ℕ) (s : Scope) → (d ≡ declarings.Locals → ⊥) → bind_as (declaring_of d) n s ≡ s
bind_other declarings.Locals n s h = absurd (h refl)
bind_other declarings.Fields n s h = refl
bind_other (declarings.Constants f) n s h = refl
