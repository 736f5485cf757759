-- Scopes handed from each node to its parts.
use Rattle.std.proofs.Common.{◌≡◌, ℕ, zero, suc, ◌+◌, ◌<◌, ◌≤◌, ◌⊎◌, inl, inr, List, [], ◌∷◌, length, get_or, Some, refl, sym, ap, ◌∙◌, arith, subst, get_or-set_other, get_or-set_same, replicate}
use Rattle.std.proofs.lemmas.List.{length-replicate}
use Rattle.std.proofs.lemmas.Bool.{cases_eq}
use Rattle.std.specs.Prelude.{slice_get}
use Rattle.std.proofs.Math.ListN.{set, length-set}
use Rattle.std.proofs.lemmas.Option.{slice_get_within, slice_get-get_or}
use Rattle.kr_ast.specs.declared.node.Entry.{Entry}
use Rattle.kr_ast.specs.Arena.{Arena, IsArena, IsPart, tree_in}
use Rattle.kr_classes_table.specs.Table.{Table}
use Rattle.kr_classes_table.specs.Constants.{Known}
use Rattle.kr_types_meaning.specs.Scopes.{Scope, scope_of}
use Rattle.kr_types_scopes.specs.declared.within.Binding.{Binding}
use Rattle.kr_types_scopes.specs.declared.within.Within.{Within}
use Rattle.kr_types_scopes.specs.Settings.{Setting, setting, scope_in, IsChain, AreNamed}
use Rattle.kr_types_meaning.specs.Handing.{handed}
use Rattle.kr_types_scopes.specs.Scoped.{nowhere, scope_at, AreScopes, AreStarts, IsHanded}
use Rattle.kr_types_scopes.specs.Kept.{begun}
use Rattle.kr_types_scopes.specs.Newest.{IsStart}
use Rattle.kr_types_scopes.specs.Tasks.{IsStep}
use Rattle.kr_types_scopes.proofs.Chains.{scope_kept, locals_zero}
use Rattle.kr_types_scopes.proofs.Begun.{begun_any, begun_length, with_start}

-- the nodes from i on have the scope that the node above them hands on
pub record Done (g : Setting) (bs : List Binding) (ws : List Within) (i : ℕ) : Type 0 where
  pub root : (k : ℕ) → k + 1 ≡ length g.tree.entries → scope_at g bs ws k ≡ scope_of g.table g.values 0
  pub done : (k : ℕ) (e : Entry) → i ≤ k → k + 1 < length g.tree.entries → slice_get g.tree.entries k ≡ Some e → scope_at g bs ws k ≡ handed (scope_at g bs ws e.parent) (tree_in g.tree e.parent) e.position

pub record AreDone (tree : Arena) (bs : List Binding) (ws : List Within) (i : ℕ) : Type 0 where
  pub long : length ws ≡ length tree.entries
  pub tops : (k : ℕ) → (get_or ws k nowhere).top ≤ length bs
  pub chain : IsChain bs
  pub named : AreNamed tree bs
  pub each : (t : Table) (v : List Known) → Done (setting t v tree) bs ws i

-- all of them, with the places where searches begin
pub scoped_of : (tree : Arena) → IsArena tree.text tree.entries → (bs : List Binding) (ws : List Within) (ss : List ℕ) → AreDone tree bs ws 0 → length ss ≡ length tree.entries → AreStarts tree bs ws ss 0 → AreScopes tree bs (begun ws ss)
scoped_of tree a bs ws ss h count starts t v = record {
  long = begun_length ws ss ∙ h.long;
  tops = λ k. subst (λ (w : Within). w.top ≤ length bs) (sym (at k)) (h.tops k);
  chain = h.chain;
  named = h.named;
  starts = λ i l. subst (λ (w : Within). IsStart tree bs w.top i w.start) (sym (at i)) (starts i (omega arith) l);
  root = λ k l. ap (scope_in g bs) (at k) ∙ (h.each t v).root k l;
  hands = λ i j c l p. ap (scope_in g bs) (at c) ∙ hands i j c l p ∙ ap (λ (s : Scope). handed s (tree_in tree i) j) (sym (ap (scope_in g bs) (at i)));
}
  where
    g : Setting
    g = setting t v tree

    at : (k : ℕ) → get_or (begun ws ss) k nowhere ≡ with_start (get_or ws k nowhere) (get_or ss k 0)
    at k = begun_any ws ss k (count ∙ sym h.long)

    hands : (i j c : ℕ) → i < length tree.entries → IsPart tree.entries i j c → scope_at (setting t v tree) bs ws c ≡ handed (scope_at (setting t v tree) bs ws i) (tree_in tree i) j
    hands i j c lt p =
        let d : Entry = get_or_entry i lt in
        let x = get_or tree.entries c d in
        let there : slice_get tree.entries c ≡ Some x = slice_get-get_or tree.entries c d (omega (arith, p.below, lt)) in
        let up = p.up x there in
        (h.each t v).done c x (omega arith) (omega (arith, p.below, lt)) there
        ∙ ap (λ q. handed (scope_at (setting t v tree) bs ws q) (tree_in tree q) x.position) up.0
        ∙ ap (λ q. handed (scope_at (setting t v tree) bs ws i) (tree_in tree i) q) up.1
      where
        get_or_entry : (i : ℕ) → i < length tree.entries → Entry
        get_or_entry i lt = first tree.entries (omega (arith, lt))
          where
            first : (es : List Entry) → 0 < length es → Entry
            first [] l = absurd (omega (arith, l))
            first (e ∷ es) l = e

-- one node more
pub done_step : (tree : Arena) → IsArena tree.text tree.entries → (old new : List Binding) (ws : List Within) (i n : ℕ) (here : Within) → AreDone tree old ws n → n ≡ i + 1 → n < length tree.entries
    → IsHanded tree old new ws i here → AreDone tree new (set ws i here) i
done_step tree a old new ws i n here h ni lt made = record {
  long = length-set ws i here ∙ h.long;
  tops = λ k. tops_at k (cases_eq k i);
  chain = step.chain;
  named = step.named h.named;
  each = λ t v. record {
    root = λ k le. other t v k (λ e. omega (arith, le, ni, lt, e)) ∙ (h.each t v).root k le;
    done = λ k x le l s. at t v k x le l s (cases_eq k i);
  };
}
  where
    entry : Entry
    entry = get_or tree.entries i (first tree.entries (omega (arith, lt)))
      where
        first : (es : List Entry) → 0 < length es → Entry
        first [] l = absurd (omega (arith, l))
        first (e ∷ es) l = e

    there : slice_get tree.entries i ≡ Some entry
    there = slice_get-get_or tree.entries i _ (omega (arith, ni, lt))

    step : IsStep tree old new here (λ g. handed (scope_in g old (get_or ws entry.parent nowhere)) (tree_in g.tree entry.parent) entry.position)
    step = made entry there

    same : get_or (set ws i here) i nowhere ≡ here
    same = get_or-set_same ws i here nowhere (omega (arith, h.long, ni, lt))

    other : (t : Table) (v : List Known) (k : ℕ) → (k ≡ i → ⊥) → scope_at (setting t v tree) new (set ws i here) k ≡ scope_at (setting t v tree) old ws k
    other t v k ne =
        ap (scope_in (setting t v tree) new) (get_or-set_other ws i k here nowhere ne) ∙ scope_kept (setting t v tree) old new (get_or ws k nowhere) (step.keeps t v) (h.tops k)

    tops_at : (k : ℕ) → (k ≡ i) ⊎ (k ≡ i → ⊥) → (get_or (set ws i here) k nowhere).top ≤ length new
    tops_at k (inl eq) = subst (λ (w : Within). w.top ≤ length new) (sym (ap (λ k. get_or (set ws i here) k nowhere) eq ∙ same)) step.top
    tops_at k (inr ne) =
        subst (λ (w : Within). w.top ≤ length new) (sym (get_or-set_other ws i k here nowhere ne)) (omega (arith, h.tops k, (step.keeps none_table []).long))
      where
        none_table : Table
        none_table = record { headings = []; classes = [] }

    above : (k : ℕ) (x : Entry) → k + 1 < length tree.entries → slice_get tree.entries k ≡ Some x → i ≤ k → x.parent ≡ i → ⊥
    above k x l s le e = omega (arith, a.parted k x s l, le, e)

    at : (t : Table) (v : List Known) (k : ℕ) (x : Entry) → i ≤ k → k + 1 < length tree.entries → slice_get tree.entries k ≡ Some x → (k ≡ i) ⊎ (k ≡ i → ⊥)
        → scope_at (setting t v tree) new (set ws i here) k ≡ handed (scope_at (setting t v tree) new (set ws i here) x.parent) (tree_in tree x.parent) x.position
    at t v k x le l s (inl eq) =
        let g = setting t v tree in
        let here_is : slice_get tree.entries i ≡ Some x = ap (slice_get tree.entries) (sym eq) ∙ s in
        ap (λ k. scope_at g new (set ws i here) k) eq
        ∙ ap (scope_in g new) same
        ∙ (made x here_is).scope_is t v
        ∙ ap (λ (s : Scope). handed s (tree_in tree x.parent) x.position) (sym (other t v x.parent (above k x l s le)))
    at t v k x le l s (inr ne) =
        let g = setting t v tree in
        other t v k ne
        ∙ (h.each t v).done k x (omega (arith, le, ne, ni)) l s
        ∙ ap (λ (s : Scope). handed s (tree_in tree x.parent) x.position) (sym (other t v x.parent (above k x l s le)))

none_at : (n k : ℕ) → get_or (replicate n nowhere) k nowhere ≡ nowhere
none_at zero k = refl
none_at (suc n) zero = refl
none_at (suc n) (suc k) = none_at n k

pub done_start : (tree : Arena) (ws : List Within) (n : ℕ) → IsChain [] → ws ≡ replicate (length tree.entries) nowhere → n + 1 ≡ length tree.entries → AreDone tree [] ws n
done_start tree ws n chain e ne =
    rw e (record {
      long = length-replicate (length tree.entries) nowhere;
      tops = λ k. rw (none_at (length tree.entries) k) (omega arith);
      chain = chain;
      named = λ k b is. absurd (omega (arith, slice_get_within [] k b is));
      each = λ t v. record {
        root = λ k lt. ap (scope_in (setting t v tree) []) (none_at (length tree.entries) k) ∙ outside t v;
        done = λ k x le l s. absurd (omega (arith, le, l, ne));
      };
    })
  where
    outside : (t : Table) (v : List Known) → scope_in (setting t v tree) [] nowhere ≡ scope_of t v 0
    outside t v = ap (λ l. let s : Scope = record (scope_of t v 0) { locals = l } in s) (locals_zero (setting t v tree) [])

pub parent_there : (tree : Arena) → IsArena tree.text tree.entries → (i : ℕ) (e : Entry) → slice_get tree.entries i ≡ Some e → e.parent < length tree.entries
parent_there tree a i e is = (a.forest.up i e is).1

pub is_handed : (tree : Arena) (old new : List Binding) (ws : List Within) (i : ℕ) (w up : Within) (x : Entry) → slice_get tree.entries i ≡ Some x → get_or ws x.parent nowhere ≡ up
    → IsStep tree old new w (λ g. handed (scope_in g old up) (tree_in g.tree x.parent) x.position) → IsHanded tree old new ws i w
is_handed tree old new ws i w up x there at h e is =
    subst (λ (y : Entry). IsStep tree old new w (λ g. handed (scope_in g old (get_or ws y.parent nowhere)) (tree_in g.tree y.parent) y.position)) same
    (subst (λ (u : Within). IsStep tree old new w (λ g. handed (scope_in g old u) (tree_in g.tree x.parent) x.position)) (sym at) h)
  where
    same : x ≡ e
    same = let z : Some x ≡ Some e = sym there ∙ is in cc
