-- Bindings that refer to earlier ones.
use Rattle.std.proofs.Common.{◌≡◌, ℕ, ◌+◌, ◌-◌, ◌≤◌, ◌⊎◌, inl, inr, List, [], ◌∷◌, ◌++◌, length, Some, refl, sym, ap, subst, ◌∙◌, arith, length-append}
use Rattle.std.specs.Prelude.{slice_get}
use Rattle.std.proofs.lemmas.Option.{slice_get_within}
use Rattle.kr_classes_table.specs.Table.{Table}
use Rattle.kr_classes_table.specs.Constants.{Known}
use Rattle.kr_ast.specs.Arena.{Arena}
use Rattle.kr_ast.proofs.Grown.{grow_keeps}
use Rattle.kr_types_meaning.specs.Scopes.{Scope, Local}
use Rattle.kr_types_scopes.specs.declared.within.Binding.{Binding}
use Rattle.kr_types_scopes.specs.declared.within.Within.{Within}
use Rattle.kr_types_scopes.specs.Settings.{Setting, setting, local_of, extended, locals_at, scope_in, class_there, type_there, part_of, role_of, declaring_of, IsLink, IsChain, Keeps}
use Rattle.kr_types_scopes.specs.Tasks.{IsStep}
use Rattle.kr_types_scopes.proofs.Grown.{grow_stay, grow_made}
use Rattle.kr_base.proofs.ListLemmas.{slice_get-push}

pub locals_zero : (g : Setting) (bs : List Binding) → locals_at g bs 0 ≡ []
unfolding locals_at
locals_zero g bs = grow_keeps (extended g) [] ([] ∷ []) bs 0 (omega arith)

pub keeps_push : (g : Setting) (bs : List Binding) (b : Binding) → Keeps g bs (bs ++ b ∷ [])
unfolding locals_at
keeps_push g bs b = record {
  long = omega (arith, length-append bs (b ∷ []));
  stay = λ k le. grow_stay (extended g) [] ([] ∷ []) bs b k (omega arith);
}

pub locals_push : (g : Setting) (bs : List Binding) (b : Binding) → locals_at g (bs ++ b ∷ []) (length bs + 1) ≡ local_of g b ∷ locals_at g bs b.below
unfolding locals_at
locals_push g bs b = grow_made (extended g) [] ([] ∷ []) bs b (length bs + 1) (omega arith)

pub keeps_same : (g : Setting) (bs : List Binding) → Keeps g bs bs
keeps_same g bs = record { long = omega arith; stay = λ k le. refl }

pub keeps_on : (g : Setting) (a b c : List Binding) → Keeps g a b → Keeps g b c → Keeps g a c
keeps_on g a b c h k = record { long = omega (arith, h.long, k.long); stay = λ i le. k.stay i (omega (arith, le, h.long)) ∙ h.stay i le }

-- a link stays one where more follows
link_on : (bs : List Binding) (b : Binding) (k : ℕ) (c : Binding) → k ≤ length bs → IsLink bs k c → IsLink (bs ++ b ∷ []) k c
link_on bs b k c le h = record {
  below = h.below;
  number = h.number;
  first = h.first;
  next = λ d pos is. elim (slice_get-push bs b (c.below - 1) d is) [
    | inl l ↦ h.next d pos l
    | inr r ↦ absurd (omega (arith, r.0, h.below, le, pos))
  ];
}

pub chain_push : (bs : List Binding) (b : Binding) → IsChain bs → IsLink bs (length bs) b → IsChain (bs ++ b ∷ [])
chain_push bs b chain link k c is = go (slice_get-push bs b k c is)
  where
    go : (slice_get bs k ≡ Some c) ⊎ ((k ≡ length bs) × (b ≡ c)) → IsLink (bs ++ b ∷ []) k c
    go (inl l) = link_on bs b k c (omega (arith, slice_get_within bs k c l)) (chain k c l)
    go (inr r) =
        subst (λ (x : Binding). IsLink (bs ++ b ∷ []) k x) r.1
        (subst (λ (j : ℕ). IsLink (bs ++ b ∷ []) j b) (sym r.0) (link_on bs b (length bs) b (omega arith) link))

pub chain_none : IsChain []
chain_none k c is = absurd (omega (arith, slice_get_within [] k c is))

-- a scope stays where bindings are added
abbrev pub with_locals : Setting → Within → List Local → Scope
with_locals g w ls = record {
  table = g.table;
  values = g.values;
  class = class_there g w.class;
  is_static = w.is_static;
  result = type_there g w.result;
  locals = ls;
  is_in_loop = w.is_in_loop;
  part = part_of w.part;
  is_in_old = w.is_in_old;
  role = role_of w.role;
  declaring = declaring_of w.declaring;
  declared = type_there g w.declared;
}

pub scope_kept : (g : Setting) (old new : List Binding) (w : Within) → Keeps g old new → w.top ≤ length old → scope_in g new w ≡ scope_in g old w
scope_kept g old new w k le = ap (with_locals g w) (k.stay w.top le)

-- steps that add no binding keep the scopes
pub step_same : (tree : Arena) (bs : List Binding) (w : Within) (f : Setting → Scope) → IsChain bs → w.top ≤ length bs
    → ((t : Table) (v : List Known) → scope_in (setting t v tree) bs w ≡ f (setting t v tree)) → IsStep tree bs bs w f
step_same tree bs w f chain top e = record { top = top; scope_is = e; keeps = λ t v. keeps_same (setting t v tree) bs; chain = chain; named = λ h. h }

pub step_as : (tree : Arena) (old new : List Binding) (w : Within) (f g : Setting → Scope) → IsStep tree old new w f
    → ((t : Table) (v : List Known) → f (setting t v tree) ≡ g (setting t v tree)) → IsStep tree old new w g
step_as tree old new w f g h e = record { top = h.top; scope_is = λ t v. h.scope_is t v ∙ e t v; keeps = h.keeps; chain = h.chain; named = h.named }
