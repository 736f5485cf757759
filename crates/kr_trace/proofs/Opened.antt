-- The nodes that a span and its cuts begin with.
use Rattle.std.proofs.Common.{◌≡◌, ℕ, zero, suc, ◌+◌, ◌<◌, ◌≤◌, List, [], ◌∷◌, ◌++◌, Bool, true, false, length, drop, refl, sym, ap, ◌∙◌, subst, arith}
use Rattle.std.specs.Prelude.{Option, Some, None, ◌==◌}
use Rattle.std.proofs.lemmas.List.{at_drop_all}
use Rattle.kr_base.specs.declared.span.Bound.{Bound}
use Rattle.kr_base.specs.declared.span.Bound.TheVariants.{At}
use Rattle.kr_core.specs.Openings.{segments_at, untouched}
use Rattle.kr_core.specs.States.{segment_of}
use Rattle.kr_core.specs.declared.segment.Segment.{Segment}
use Rattle.kr_trace.specs.declared.nodes.Node.{Node}
use Rattle.kr_trace.specs.Chains.{Differ, IsChain, entry, first_number, node_at, node_of, nodes_at}
use Rattle.kr_trace.proofs.Numbered.{entry_after, entry_here, is_number, not_here, not_number}
use Rattle.kr_trace.proofs.Views.{Becomes, Holds, holds}
use Rattle.kr_trace.proofs.Chains.{walk_is}

-- the last one
pub opened : (n i : ℕ) (begin end e : Bound) (cuts : List (List ℕ)) (made new all : List Node) (x : Node) → length cuts ≤ i → n ≡ i
    → all ≡ made ++ nodes_at i begin (drop i cuts) end → e ≡ end → x ≡ node_at (untouched n begin e) None → new ≡ made ++ x ∷ [] → new ≡ all
opened n i begin end e cuts made new all x past same before is here added =
    let none : nodes_at i begin (drop i cuts) end ≡ node_at (untouched i begin end) None ∷ [] = at_drop_all (λ (cs : List (List ℕ)). nodes_at i begin cs end) cuts i past in
    let t : x ≡ node_at (untouched i begin end) None = here ∙ (ap (λ (k : ℕ). node_at (untouched k begin e) None) same ∙ ap (λ (b : Bound). node_at (untouched i begin b) None) is) in
    added ∙ (ap (λ (y : Node). made ++ y ∷ []) t ∙ (ap (λ (xs : List Node). made ++ xs) (sym none) ∙ sym before))

pub nodes_length : (n : ℕ) (after : Bound) (cuts : List (List ℕ)) (end : Bound) → length (nodes_at n after cuts end) ≡ suc (length cuts)
nodes_length n after [] end = refl
nodes_length n after (cut ∷ cuts) end = ap suc (nodes_length (n + 1) (At cut) cuts end)

segments_length : (n : ℕ) (after : Bound) (cuts : List (List ℕ)) (end : Bound) → length (segments_at n after cuts end) ≡ suc (length cuts)
segments_length n after [] end = refl
segments_length n after (cut ∷ cuts) end = ap suc (segments_length (n + 1) (At cut) cuts end)

first_at : (n : ℕ) (after : Bound) (cuts : List (List ℕ)) (end : Bound) → first_number (segments_at n after cuts end) ≡ Some n
first_at n after [] end = refl
first_at n after (cut ∷ cuts) end = refl

none_below : (n m : ℕ) (after : Bound) (cuts : List (List ℕ)) (end : Bound) → m < n → segment_of m (segments_at n after cuts end) ≡ None
none_below n m after [] end h = let other : (n == m) ≡ false = not_number n m (λ e. omega (arith, e, h)) in not_here m (untouched n after end) [] other
none_below n m after (cut ∷ cuts) end h =
    let other : (n == m) ≡ false = not_number n m (λ e. omega (arith, e, h)) in
    not_here m (untouched n after (At cut)) (segments_at (n + 1) (At cut) cuts end) other ∙ none_below (n + 1) m (At cut) cuts end (omega (arith, h))

all_differ : (n : ℕ) (after : Bound) (cuts : List (List ℕ)) (end : Bound) → Differ (segments_at n after cuts end)
all_differ n after [] end = (refl, tt)
all_differ n after (cut ∷ cuts) end = (none_below (n + 1) n (At cut) cuts end (omega arith), all_differ (n + 1) (At cut) cuts end)

-- the node at an index is the entry of that number
entries_at : (n k m : ℕ) (after : Bound) (cuts : List (List ℕ)) (end : Bound) → m ≡ n + k → node_of (nodes_at n after cuts end) k ≡ entry m (segments_at n after cuts end)
entries_at n zero m after [] end is = sym (entry_here m (untouched n after end) [] (is_number n m (omega (arith, is))))
entries_at n (suc k) m after [] end is = sym (entry_after m (untouched n after end) [] (not_number n m (λ e. omega (arith, is, e))))
entries_at n zero m after (cut ∷ cuts) end is =
    let rest = segments_at (n + 1) (At cut) cuts end in
    ap (λ (l : Option ℕ). Some (node_at (untouched n after (At cut)) l)) (sym (first_at (n + 1) (At cut) cuts end))
    ∙ sym (entry_here m (untouched n after (At cut)) rest (is_number n m (omega (arith, is))))
entries_at n (suc k) m after (cut ∷ cuts) end is =
    entries_at (n + 1) k m (At cut) cuts end (omega (arith, is))
    ∙ sym (entry_after m (untouched n after (At cut)) (segments_at (n + 1) (At cut) cuts end) (not_number n m (λ e. omega (arith, is, e))))

begins : (after : Bound) (cuts : List (List ℕ)) (end : Bound) → IsChain (nodes_at 0 after cuts end) (Some 0) (segments_at 0 after cuts end)
begins after cuts end = record {
  first_is = sym (first_at 0 after cuts end);
  entries = λ n. entries_at 0 n n after cuts end (omega arith);
  differ = all_differ 0 after cuts end;
  few = omega (arith, nodes_length 0 after cuts end, segments_length 0 after cuts end);
}

pub chain_begins : (nodes : List Node) (after : Bound) (cuts : List (List ℕ)) (end : Bound) → nodes ≡ nodes_at 0 after cuts end → Becomes nodes (Some 0) (segments_at 0 after cuts end) (length cuts + 1)
chain_begins nodes after cuts end is =
    let chain = subst (λ (ns : List Node). IsChain ns (Some 0) (segments_at 0 after cuts end)) (sym is) (begins after cuts end) in
    record {
      holds = holds nodes (Some 0) (segments_at 0 after cuts end) chain;
      segments = walk_is nodes (Some 0) (segments_at 0 after cuts end) chain;
      made_is = omega (arith, ap (λ (ns : List Node). length ns) is, nodes_length 0 after cuts end);
    }
