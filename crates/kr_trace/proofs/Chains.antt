-- Changes of segments that are kept by number.
use Rattle.std.proofs.Common.{◌≡◌, ℕ, zero, suc, ◌+◌, ◌<◌, ◌≤◌, ◌⊎◌, inl, inr, List, [], ◌∷◌, ◌++◌, Bool, true, false, cond, length, length-append, refl, sym, ap, ◌∙◌, subst, arith}
use Rattle.std.specs.Prelude.{Option, Some, None, ◌==◌}
use Rattle.std.specs.Option.{option_map}
use Rattle.kr_core.specs.declared.segment.Segment.{Segment}
use Rattle.kr_core.specs.States.{segment_of, change}
use Rattle.kr_core.proofs.Places.{change_none}
use Rattle.kr_trace.specs.declared.nodes.Node.{Node}
use Rattle.kr_trace.specs.Chains.{Differ, IsChain, Made, at_number, dropped, entry, first_number, linked_to, node_at, node_of, split_by, walk, walked, with}
use Rattle.kr_trace.proofs.Numbered.{Around, around, at_length, beyond, change_at, differ_back, differ_front, differ_swap, entry_after, entry_append, entry_found, entry_here, entry_none, entry_past, first_append, is_number, node_added, node_before, node_beyond, node_dropped, node_other, node_same, none_both, none_here, none_parts, not_here, not_number, other_number, same_number}

-- ---- walks

-- the links lead through the segments
abbrev pub Leads : List Node → Option ℕ → List Segment → Type 0
Leads nodes link [] = link ≡ None
Leads nodes link (s ∷ ss) = (link ≡ Some s.number) × (node_of nodes s.number ≡ Some (node_at s (first_number ss))) × Leads nodes (first_number ss) ss

leads_from : (nodes : List Node) (ss : List Segment) → ((n : ℕ) → (segment_of n ss ≡ None → ⊥) → node_of nodes n ≡ entry n ss) → Differ ss → Leads nodes (first_number ss) ss
leads_from nodes [] h d = refl
leads_from nodes (s ∷ ss) h d =
    let here : (s.number == s.number) ≡ true = is_number s.number s.number refl in
    let some : segment_of s.number (s ∷ ss) ≡ None → ⊥ = λ e. let q : Some s ≡ None = sym (ap (λ (b : Bool). cond b (Some s) (segment_of s.number ss)) here) ∙ e in absurd (cc (q)) in (
      refl,
      h s.number some ∙ entry_here s.number s ss here,
      leads_from nodes ss (λ n more.
          let apart : (s.number == n) ≡ false = not_number s.number n (λ e. more (subst (λ (m : ℕ). segment_of m ss ≡ None) e d.0)) in
          h n (λ e. more (sym (not_here n s ss apart) ∙ e)) ∙ entry_after n s ss apart) d.1,
    )

pub leads : (nodes : List Node) (first : Option ℕ) (ss : List Segment) → IsChain nodes first ss → Leads nodes first ss
leads nodes first ss h = subst (λ (l : Option ℕ). Leads nodes l ss) (sym h.first_is) (leads_from nodes ss (λ n some. h.entries n) h.differ)

walk_all : (nodes : List Node) (fuel : ℕ) (link : Option ℕ) (ss : List Segment) → Leads nodes link ss → length ss ≤ fuel → walk nodes fuel link ≡ ss
walk_all nodes zero link [] h few = refl
walk_all nodes zero link (s ∷ ss) h few = absurd (omega (arith, few))
walk_all nodes (suc fuel) link [] h few = ap (walk nodes (suc fuel)) h
walk_all nodes (suc fuel) link (s ∷ ss) h few =
    ap (walk nodes (suc fuel)) h.0
    ∙ (ap (λ (o : Option Node). walked o (walk nodes fuel)) h.1
    ∙ ap (λ (zs : List Segment). s ∷ zs) (walk_all nodes fuel (first_number ss) ss h.2 (omega (arith, few))))

pub walk_is : (nodes : List Node) (first : Option ℕ) (ss : List Segment) → IsChain nodes first ss → walk nodes (length nodes) first ≡ ss
walk_is nodes first ss h = walk_all nodes (length nodes) first ss (leads nodes first ss h) h.few

-- ---- changes

pub replaced : (nodes nodes' : List Node) (first : Option ℕ) (pre xs ys : List Segment) (new : ℕ) → IsChain nodes first (pre ++ ys) → first_number xs ≡ first_number ys → Differ xs
    → segment_of new (pre ++ ys) ≡ None → ((n : ℕ) → (n ≡ new → ⊥) → segment_of n ys ≡ None → segment_of n xs ≡ None)
    → ((n : ℕ) → ((node_of nodes' n ≡ node_of nodes n) × (entry n xs ≡ entry n ys)) ⊎ ((segment_of n pre ≡ None) × (node_of nodes' n ≡ entry n xs)))
    → length (pre ++ xs) ≤ length nodes' → IsChain nodes' first (pre ++ xs)
replaced nodes nodes' first pre xs ys new h firsts differ fresh fewer each few = record {
  first_is = h.first_is ∙ sym (first_append pre xs ys firsts);
  entries = λ n. elim (each n) [
    | inl p ↦ p.0 ∙ (h.entries n ∙ sym (entry_append n pre xs ys firsts p.1))
    | inr p ↦ p.1 ∙ sym (entry_past n pre xs p.0)
  ];
  differ = differ_swap new pre xs ys h.differ differ fresh fewer;
  few = few;
}

pub fresh : (nodes : List Node) (first : Option ℕ) (ss : List Segment) → IsChain nodes first ss → (n : ℕ) → length nodes ≤ n → segment_of n ss ≡ None
fresh nodes first ss h n past = entry_found n ss ∙ ap (option_map (λ (x : Node). x.segment)) (sym (h.entries n) ∙ node_beyond nodes n past)

pub found : (nodes : List Node) (first : Option ℕ) (ss : List Segment) → IsChain nodes first ss → (n : ℕ) → segment_of n ss ≡ option_map (λ (x : Node). x.segment) (node_of nodes n)
found nodes first ss h n = entry_found n ss ∙ ap (option_map (λ (x : Node). x.segment)) (sym (h.entries n))

-- where there is none of that number
nothing_there : (nodes nodes' : List Node) (first : Option ℕ) (ss : List Segment) → IsChain nodes first ss → ((n : ℕ) → node_of nodes' n ≡ node_of nodes n) → length nodes' ≡ length nodes → IsChain nodes' first ss
nothing_there nodes nodes' first ss h same long = record {
  first_is = h.first_is;
  entries = λ n. same n ∙ h.entries n;
  differ = h.differ;
  few = omega (arith, h.few, long);
}

same_nodes : (nodes : List Node) (v : ℕ) (k : Node → Node) → ((x : Node) → (k x).there ≡ x.there) → node_of nodes v ≡ None → (n : ℕ) → node_of (at_number nodes v k) n ≡ node_of nodes n
same_nodes nodes v k keeps none n =
    elim (v == n) as (λ b. (v == n) ≡ b → node_of (at_number nodes v k) n ≡ node_of nodes n) [
      | true ↦ λ e. subst (λ (m : ℕ). node_of (at_number nodes v k) m ≡ node_of nodes m) (same_number v n e) (node_same nodes v k keeps ∙ (ap (option_map k) none ∙ sym none))
      | false ↦ λ e. node_other nodes v n k (other_number v n e)
    ] refl

-- one segment, in place
in_place_here : (nodes : List Node) (first : Option ℕ) (pre post : List Segment) (v : ℕ) (g : Segment → Segment) (s : Segment) → ((t : Segment) → (g t).number ≡ t.number)
    → IsChain nodes first (pre ++ s ∷ post) → segment_of v pre ≡ None → s.number ≡ v → node_of nodes v ≡ Some (node_at s (first_number post))
    → IsChain (at_number nodes v (with g)) first (pre ++ g s ∷ post)
in_place_here nodes first pre post v g s keeps h before number is =
    let number' : (g s).number ≡ v = keeps s ∙ number in
    let differ : Differ (s ∷ post) = differ_back pre (s ∷ post) h.differ in
    replaced nodes (at_number nodes v (with g)) first pre (g s ∷ post) (s ∷ post) (length nodes) h (ap (λ (n : ℕ). Some n) (keeps s))
    (subst (λ (n : ℕ). segment_of n post ≡ None) (sym (keeps s)) differ.0, differ.1)
    (fresh nodes first (pre ++ s ∷ post) h (length nodes) (omega arith))
    (λ n other none. let q = none_here n s post none in not_here n (g s) post (ap (λ (m : ℕ). m == n) (keeps s) ∙ q.0) ∙ q.1)
    (λ n. elim (v == n) as (λ b. (v == n) ≡ b → ((node_of (at_number nodes v (with g)) n ≡ node_of nodes n) × (entry n (g s ∷ post) ≡ entry n (s ∷ post))) ⊎ ((segment_of n pre ≡ None) × (node_of (at_number nodes v (with g)) n ≡ entry n (g s ∷ post)))) [
      | true ↦ λ e. inr (subst (λ (m : ℕ). (segment_of m pre ≡ None) × (node_of (at_number nodes v (with g)) m ≡ entry m (g s ∷ post))) (same_number v n e)
          (before, node_same nodes v (with g) (λ x. refl) ∙ (ap (option_map (with g)) is ∙ sym (entry_here v (g s) post (is_number (g s).number v number')))))
      | false ↦ λ e. inl (
        node_other nodes v n (with g) (other_number v n e),
        let apart : (s.number == n) ≡ false = ap (λ (m : ℕ). m == n) number ∙ e in
            entry_after n (g s) post (ap (λ (m : ℕ). m == n) (keeps s) ∙ apart) ∙ sym (entry_after n s post apart),
      )
    ] refl)
    (let a = length-append pre (g s ∷ post) in let b = length-append pre (s ∷ post) in omega (arith, a, b, h.few, at_length nodes v (with g)))

pub in_place : (nodes : List Node) (first : Option ℕ) (ss : List Segment) (v : ℕ) (g : Segment → Segment) → ((t : Segment) → (g t).number ≡ t.number) → IsChain nodes first ss
    → IsChain (at_number nodes v (with g)) first (change v (λ s rest. g s ∷ rest) ss)
in_place nodes first ss v g keeps h =
    elim (entry v ss) as (λ o. entry v ss ≡ o → IsChain (at_number nodes v (with g)) first (change v (λ s rest. g s ∷ rest) ss)) [
      | None ↦ λ e.
          let none : segment_of v ss ≡ None = entry_found v ss ∙ ap (option_map (λ (x : Node). x.segment)) e in
          subst (λ (zs : List Segment). IsChain (at_number nodes v (with g)) first zs) (sym (change_none v ss (λ s rest. g s ∷ rest) none))
          (nothing_there nodes (at_number nodes v (with g)) first ss h (same_nodes nodes v (with g) (λ x. refl) (h.entries v ∙ e)) (at_length nodes v (with g)))
      | Some x ↦ λ e.
          let r : Around v x ss = around v x ss e in
          let h' : IsChain nodes first (r.pre ++ x.segment ∷ r.post) = subst (λ (zs : List Segment). IsChain nodes first zs) r.whole h in
          let is : node_of nodes v ≡ Some (node_at x.segment (first_number r.post)) = h.entries v ∙ (e ∙ ap (λ (y : Node). Some y) r.is) in
          subst (λ (zs : List Segment). IsChain (at_number nodes v (with g)) first zs)
          (sym (ap (change v (λ s rest. g s ∷ rest)) r.whole ∙ change_at v (λ s rest. g s ∷ rest) r.pre x.segment r.post r.before r.number))
          (in_place_here nodes first r.pre r.post v g x.segment keeps h' r.before r.number is)
    ] refl

-- one more segment, after another
split_here : (nodes : List Node) (first : Option ℕ) (pre post : List Segment) (v : ℕ) (g : Segment → Segment) (s t : Segment) → ((u : Segment) → (g u).number ≡ u.number)
    → IsChain nodes first (pre ++ s ∷ post) → segment_of v pre ≡ None → s.number ≡ v → node_of nodes v ≡ Some (node_at s (first_number post)) → t.number ≡ length nodes
    → IsChain (at_number (nodes ++ node_at t (first_number post) ∷ []) v (split_by g (length nodes))) first (pre ++ g s ∷ t ∷ post)
split_here nodes first pre post v g s t keeps h before number is made =
    let new = length nodes in
    let y = node_at t (first_number post) in
    let k = split_by g new in
    let more = nodes ++ y ∷ [] in
    let number' : (g s).number ≡ v = keeps s ∙ number in
    let differ : Differ (s ∷ post) = differ_back pre (s ∷ post) h.differ in
    let none : segment_of new (pre ++ s ∷ post) ≡ None = fresh nodes first (pre ++ s ∷ post) h new (omega arith) in
    let parts = none_parts new pre (s ∷ post) none in
    let tail = none_here new s post parts.1 in
    let apart : v ≡ new → ⊥ = λ e. other_number s.number new tail.0 (number ∙ e) in
    let t_not_s : (t.number == (g s).number) ≡ false = not_number t.number (g s).number (λ e. apart (sym (sym made ∙ (e ∙ number')))) in
    let at_v : node_of more v ≡ Some (node_at s (first_number post)) = node_before nodes y v apart ∙ is in
    replaced nodes (at_number more v k) first pre (g s ∷ t ∷ post) (s ∷ post) new h (ap (λ (n : ℕ). Some n) (keeps s))
    (not_here (g s).number t post t_not_s ∙ subst (λ (n : ℕ). segment_of n post ≡ None) (sym (keeps s)) differ.0, (subst (λ (n : ℕ). segment_of n post ≡ None) (sym made) tail.1, differ.1))
    none
    (λ n other gone. let q = none_here n s post gone in
    not_here n (g s) (t ∷ post) (ap (λ (m : ℕ). m == n) (keeps s) ∙ q.0) ∙ (not_here n t post (not_number t.number n (λ e. other (sym e ∙ made))) ∙ q.1))
    (λ n. elim (v == n) as (λ b. (v == n) ≡ b → ((node_of (at_number more v k) n ≡ node_of nodes n) × (entry n (g s ∷ t ∷ post) ≡ entry n (s ∷ post))) ⊎ ((segment_of n pre ≡ None) × (node_of (at_number more v k) n ≡ entry n (g s ∷ t ∷ post)))) [
      | true ↦ λ e. inr (subst (λ (m : ℕ). (segment_of m pre ≡ None) × (node_of (at_number more v k) m ≡ entry m (g s ∷ t ∷ post))) (same_number v n e) (
        before,
        node_same more v k (λ x. refl) ∙ (ap (option_map k) at_v ∙ (ap (λ (m : ℕ). Some (node_at (g s) (Some m))) (sym made)
            ∙ sym (entry_here v (g s) (t ∷ post) (is_number (g s).number v number')))),
      ))
      | false ↦ λ e.
          let other : node_of (at_number more v k) n ≡ node_of more n = node_other more v n k (other_number v n e) in
          let not_s : (s.number == n) ≡ false = ap (λ (m : ℕ). m == n) number ∙ e in
          let not_g : ((g s).number == n) ≡ false = ap (λ (m : ℕ). m == n) (keeps s) ∙ not_s in
          elim (t.number == n) as (λ b. (t.number == n) ≡ b → ((node_of (at_number more v k) n ≡ node_of nodes n) × (entry n (g s ∷ t ∷ post) ≡ entry n (s ∷ post))) ⊎ ((segment_of n pre ≡ None) × (node_of (at_number more v k) n ≡ entry n (g s ∷ t ∷ post)))) [
            | true ↦ λ at. let is_new : new ≡ n = sym made ∙ same_number t.number n at in
                inr (
                  subst (λ (m : ℕ). segment_of m pre ≡ None) is_new parts.0,
                  other ∙ (subst (λ (m : ℕ). node_of more m ≡ Some y) is_new (node_added nodes y refl) ∙ sym (entry_after n (g s) (t ∷ post) not_g ∙ entry_here n t post at)),
                )
            | false ↦ λ at. inl (
              other ∙ node_before nodes y n (λ e. other_number t.number n at (made ∙ sym e)),
              entry_after n (g s) (t ∷ post) not_g ∙ (entry_after n t post at ∙ sym (entry_after n s post not_s)),
            )
          ] refl
    ] refl)
    (let a = length-append pre (g s ∷ t ∷ post) in let b = length-append pre (s ∷ post) in let c = length-append nodes (y ∷ []) in omega (arith, a, b, c, h.few, at_length more v k))

pub split : (nodes : List Node) (first : Option ℕ) (ss : List Segment) (v : ℕ) (g f : Segment → Segment) (x : Node) → ((u : Segment) → (g u).number ≡ u.number) → ((u : Segment) → (f u).number ≡ length nodes)
    → IsChain nodes first ss → node_of nodes v ≡ Some x
    → IsChain (at_number (nodes ++ node_at (f x.segment) x.later ∷ []) v (split_by g (length nodes))) first (change v (λ s rest. g s ∷ (f s ∷ rest)) ss)
split nodes first ss v g f x keeps made h here =
    let r : Around v x ss = around v x ss (sym (h.entries v) ∙ here) in
    let h' : IsChain nodes first (r.pre ++ x.segment ∷ r.post) = subst (λ (zs : List Segment). IsChain nodes first zs) r.whole h in
    let is : node_of nodes v ≡ Some (node_at x.segment (first_number r.post)) = here ∙ ap (λ (y : Node). Some y) r.is in
    let later : first_number r.post ≡ x.later = sym (ap (λ (y : Node). y.later) r.is) in
    subst (λ (l : Option ℕ). IsChain (at_number (nodes ++ node_at (f x.segment) l ∷ []) v (split_by g (length nodes))) first (change v (λ s rest. g s ∷ (f s ∷ rest)) ss)) later
    (subst (λ (zs : List Segment). IsChain (at_number (nodes ++ node_at (f x.segment) (first_number r.post) ∷ []) v (split_by g (length nodes))) first zs)
    (sym (ap (change v (λ s rest. g s ∷ (f s ∷ rest))) r.whole ∙ change_at v (λ s rest. g s ∷ (f s ∷ rest)) r.pre x.segment r.post r.before r.number))
    (split_here nodes first r.pre r.post v g x.segment (f x.segment) keeps h' r.before r.number is (made x.segment)))

pub drop_here : (nodes : List Node) (first : Option ℕ) (pre post : List Segment) (v : ℕ) (s t : Segment)
    → IsChain nodes first (pre ++ s ∷ t ∷ post) → segment_of v pre ≡ None → s.number ≡ v → node_of nodes v ≡ Some (node_at s (Some t.number))
    → IsChain (at_number (at_number nodes t.number dropped) v (linked_to (first_number post))) first (pre ++ s ∷ post)
drop_here nodes first pre post v s t h before number is =
    let u = t.number in
    let k = linked_to (first_number post) in
    let cut = at_number nodes u dropped in
    let differ : Differ (s ∷ t ∷ post) = differ_back pre (s ∷ t ∷ post) h.differ in
    let after_s = none_here s.number t post differ.0 in
    let apart : u ≡ v → ⊥ = λ e. other_number u s.number after_s.0 (e ∙ sym number) in
    let here_u : (t.number == u) ≡ true = is_number t.number u refl in
    let not_s : (s.number == u) ≡ false = not_number s.number u (λ e. apart (sym e ∙ number)) in
    let in_rest : segment_of u (s ∷ t ∷ post) ≡ None → ⊥ = λ e. let q = none_here u s (t ∷ post) e in let w = none_here u t post q.1 in let z : true ≡ false = sym here_u ∙ w.0 in absurd (cc (z)) in
    let pre_u : segment_of u pre ≡ None = differ_front u pre (s ∷ t ∷ post) h.differ in_rest in
    let at_v : node_of cut v ≡ Some (node_at s (Some t.number)) = node_other nodes u v dropped apart ∙ is in
    replaced nodes (at_number cut v k) first pre (s ∷ post) (s ∷ t ∷ post) (length nodes) h refl
    (after_s.1, differ.1.1)
    (fresh nodes first (pre ++ s ∷ t ∷ post) h (length nodes) (omega arith))
    (λ n other none. let q = none_here n s (t ∷ post) none in let w = none_here n t post q.1 in not_here n s post q.0 ∙ w.1)
    (λ n. elim (v == n) as (λ b. (v == n) ≡ b → ((node_of (at_number cut v k) n ≡ node_of nodes n) × (entry n (s ∷ post) ≡ entry n (s ∷ t ∷ post))) ⊎ ((segment_of n pre ≡ None) × (node_of (at_number cut v k) n ≡ entry n (s ∷ post)))) [
      | true ↦ λ e. inr (subst (λ (m : ℕ). (segment_of m pre ≡ None) × (node_of (at_number cut v k) m ≡ entry m (s ∷ post))) (same_number v n e)
          (before, node_same cut v k (λ x. refl) ∙ (ap (option_map k) at_v ∙ sym (entry_here v s post (is_number s.number v number)))))
      | false ↦ λ e.
          let other : node_of (at_number cut v k) n ≡ node_of cut n = node_other cut v n k (other_number v n e) in
          let away : (s.number == n) ≡ false = ap (λ (m : ℕ). m == n) number ∙ e in
          elim (t.number == n) as (λ b. (t.number == n) ≡ b → ((node_of (at_number cut v k) n ≡ node_of nodes n) × (entry n (s ∷ post) ≡ entry n (s ∷ t ∷ post))) ⊎ ((segment_of n pre ≡ None) × (node_of (at_number cut v k) n ≡ entry n (s ∷ post)))) [
            | true ↦ λ at. let is_u : u ≡ n = same_number t.number n at in
                inr (
                  subst (λ (m : ℕ). segment_of m pre ≡ None) is_u pre_u,
                  other ∙ (subst (λ (m : ℕ). node_of cut m ≡ None) is_u (node_dropped nodes u) ∙ sym (entry_after n s post away ∙ entry_none n post (subst (λ (m : ℕ). segment_of m post ≡ None) is_u differ.1.0))),
                )
            | false ↦ λ at. inl (
              other ∙ node_other nodes u n dropped (other_number u n at),
              entry_after n s post away ∙ sym (entry_after n s (t ∷ post) away ∙ entry_after n t post at),
            )
          ] refl
    ] refl)
    (let a = length-append pre (s ∷ post) in let b = length-append pre (s ∷ t ∷ post) in omega (arith, a, b, h.few, at_length cut v k, at_length nodes u dropped))

-- the first segment is dropped
pub drop_first : (nodes : List Node) (first : Option ℕ) (s : Segment) (ss : List Segment) → IsChain nodes first (s ∷ ss) → IsChain (at_number nodes s.number dropped) (first_number ss) ss
drop_first nodes first s ss h =
    let u = s.number in
    record {
      first_is = refl;
      entries = λ n. elim (u == n) as (λ b. (u == n) ≡ b → node_of (at_number nodes u dropped) n ≡ entry n ss) [
        | true ↦ λ e. subst (λ (m : ℕ). node_of (at_number nodes u dropped) m ≡ entry m ss) (same_number u n e) (node_dropped nodes u ∙ sym (entry_none u ss h.differ.0))
        | false ↦ λ e. node_other nodes u n dropped (other_number u n e) ∙ (h.entries n ∙ entry_after n s ss e)
      ] refl;
      differ = h.differ.1;
      few = omega (arith, h.few, at_length nodes u dropped);
    }
