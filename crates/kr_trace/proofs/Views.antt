-- A chain's nodes and its value.
use Rattle.std.proofs.Common.{◌≡◌, ℕ, zero, suc, ◌+◌, ◌-◌, ◌^◌, ◌<◌, ◌≤◌, List, [], ◌∷◌, ◌++◌, Bool, true, false, cond, length, length-append, get_or, refl, sym, ap, ◌∙◌, subst, arith}
use Rattle.std.specs.Prelude.{IfNone, IfSome, Option, Some, None, Result, Ok, Err, is_some, is_none, is_ok, ◌==◌, ◌&&◌, not, if◌then◌else◌}
use Rattle.std.specs.Option.{option_map}
use Rattle.std.specs.List.{list_all, sum_by}
use Rattle.std.proofs.lemmas.List.Sums.{sum_by-cons}
use Rattle.kr_base.specs.Causes.{capped}
use Rattle.kr_core.specs.declared.segment.Segment.{Segment}
use Rattle.kr_core.specs.States.{change, is_closed, segment_of}
use Rattle.kr_core.specs.Steps.{front, gone, left, lowered, stolen, stopped}
use Rattle.kr_core.proofs.Fronts.{rows_in}
use Rattle.kr_trace.specs.declared.nodes.Node.{Node}
use Rattle.kr_trace.specs.Chains.{Differ, Drops, DropsNext, IsChain, IsLast, Made, at_number, cleared, dropped, ended_at, ended_first, entry, first_number, first_of, going, going_first, linked_to, node_at, node_of, split_by, walk, with, without_first, without_rows}
use Rattle.kr_trace.proofs.Numbered.{Around, around, at_length, change_at, differ_back, differ_front, entry_after, entry_here, entry_past, is_number, node_read, node_there, node_within, none_here, not_number}
use Rattle.kr_trace.proofs.Chains.{Leads, drop_first, drop_here, found, in_place, leads, split, walk_is}

abbrev pub made_of : List Node → Option ℕ → Made
made_of nodes first = record { segments = walk nodes (length nodes) first; made = length nodes }

abbrev pub Holds : List Node → Option ℕ → Type 0
Holds nodes first = IsChain nodes first (walk nodes (length nodes) first)

-- the value's segments are the chain
pub chain_is : (nodes : List Node) (first : Option ℕ) (m : Made) → Holds nodes first → made_of nodes first ≡ m → IsChain nodes first m.segments
chain_is nodes first m h is = subst (λ (v : Made). IsChain nodes first v.segments) is h

pub holds : (nodes : List Node) (first : Option ℕ) (ss : List Segment) → IsChain nodes first ss → Holds nodes first
holds nodes first ss h = subst (λ (zs : List Segment). IsChain nodes first zs) (sym (walk_is nodes first ss h)) h

made_is : (nodes : List Node) (first : Option ℕ) (m : Made) → made_of nodes first ≡ m → length nodes ≡ m.made
made_is nodes first m is = ap (λ (v : Made). v.made) is

-- nodes that hold these segments, so many in all
pub record Becomes (nodes : List Node) (first : Option ℕ) (ss : List Segment) (made : ℕ) : Type 0 where
  pub holds : Holds nodes first
  pub segments : walk nodes (length nodes) first ≡ ss
  pub made_is : length nodes ≡ made

becomes : (nodes : List Node) (first : Option ℕ) (ss : List Segment) (made : ℕ) → IsChain nodes first ss → length nodes ≡ made → Becomes nodes first ss made
becomes nodes first ss made h is = record { holds = holds nodes first ss h; segments = walk_is nodes first ss h; made_is = is }

-- ---- one segment

pub in_place_becomes : (nodes nodes' : List Node) (first : Option ℕ) (m : Made) (v : ℕ) (g : Segment → Segment) → ((t : Segment) → (g t).number ≡ t.number) → Holds nodes first → made_of nodes first ≡ m
    → nodes' ≡ at_number nodes v (with g) → Becomes nodes' first (change v (λ s rest. g s ∷ rest) m.segments) m.made
in_place_becomes nodes nodes' first m v g keeps h is new =
    subst (λ (ns : List Node). Becomes ns first (change v (λ s rest. g s ∷ rest) m.segments) m.made) (sym new)
    (becomes (at_number nodes v (with g)) first (change v (λ s rest. g s ∷ rest) m.segments) m.made (in_place nodes first m.segments v g keeps (chain_is nodes first m h is)) (at_length nodes v (with g) ∙ made_is nodes first m is))

pub found_is : (nodes : List Node) (first : Option ℕ) (m : Made) (v : ℕ) → Holds nodes first → made_of nodes first ≡ m → segment_of v m.segments ≡ option_map (λ (x : Node). x.segment) (node_of nodes v)
found_is nodes first m v h is = found nodes first m.segments (chain_is nodes first m h is) v

some_there : (o : Option Node) → is_some (option_map (λ (x : Node). x.segment) o) ≡ true → (x : Node) × (o ≡ Some x)
some_there None h = absurd (cc (h))
some_there (Some x) h = (x, refl)

pub there_is : (nodes : List Node) (first : Option ℕ) (m : Made) (v : ℕ) → Holds nodes first → made_of nodes first ≡ m → is_some (segment_of v m.segments) ≡ true → (x : Node) × (node_of nodes v ≡ Some x)
there_is nodes first m v h is some = some_there (node_of nodes v) (ap (λ (o : Option Segment). is_some o) (sym (found_is nodes first m v h is)) ∙ some)

pub is_within : (nodes : List Node) (first : Option ℕ) (m : Made) (v : ℕ) → Holds nodes first → made_of nodes first ≡ m → is_some (segment_of v m.segments) ≡ true → v < length nodes
is_within nodes first m v h is some = let x = there_is nodes first m v h is some in node_within nodes v x.0 x.1

-- the node that is read is the one that is there
pub is_there : (nodes : List Node) (first : Option ℕ) (m : Made) (v : ℕ) (x : Node) → Holds nodes first → made_of nodes first ≡ m → is_some (segment_of v m.segments) ≡ true → x ≡ get_or nodes v x → node_of nodes v ≡ Some x
is_there nodes first m v x h is some read =
    let y = there_is nodes first m v h is some in
    y.1 ∙ ap (λ (z : Node). Some z) (sym (node_there nodes v x y.0 y.1 (node_within nodes v y.0 y.1) read))

-- ---- one more

pub split_becomes : (nodes more nodes' : List Node) (first : Option ℕ) (m : Made) (v made seat : ℕ) (cut : List ℕ) (x rest : Node) → Holds nodes first → made_of nodes first ≡ m
    → is_some (segment_of v m.segments) ≡ true → x ≡ get_or nodes v x → made ≡ length nodes → rest ≡ node_at (stolen seat cut made x.segment) x.later → more ≡ nodes ++ rest ∷ []
    → nodes' ≡ at_number more v (split_by (lowered cut) made) → Becomes nodes' first (change v (λ s ss. lowered cut s ∷ (stolen seat cut m.made s ∷ ss)) m.segments) (m.made + 1)
split_becomes nodes more nodes' first m v made seat cut x rest h is some read count rest_is more_is new =
    let there = is_there nodes first m v x h is some read in
    let chain = split nodes first m.segments v (lowered cut) (stolen seat cut (length nodes)) x (λ u. refl) (λ u. refl) (chain_is nodes first m h is) there in
    let rest' : rest ≡ node_at (stolen seat cut (length nodes) x.segment) x.later = rest_is ∙ ap (λ (k : ℕ). node_at (stolen seat cut k x.segment) x.later) count in
    let want : nodes' ≡ at_number (nodes ++ node_at (stolen seat cut (length nodes) x.segment) x.later ∷ []) v (split_by (lowered cut) (length nodes)) =
    new ∙ (ap (λ (k : ℕ). at_number more v (split_by (lowered cut) k)) count ∙ ap (λ (ns : List Node). at_number ns v (split_by (lowered cut) (length nodes))) (more_is ∙ ap (λ (y : Node). nodes ++ y ∷ []) rest')) in
    let long = at_length more v (split_by (lowered cut) made) in
    let longer = length-append nodes (rest ∷ []) in
    becomes nodes' first (change v (λ s ss. lowered cut s ∷ (stolen seat cut m.made s ∷ ss)) m.segments) (m.made + 1)
    (subst (λ (k : ℕ). IsChain nodes' first (change v (λ s ss. lowered cut s ∷ (stolen seat cut k s ∷ ss)) m.segments)) (made_is nodes first m is)
    (subst (λ (ns : List Node). IsChain ns first (change v (λ s ss. lowered cut s ∷ (stolen seat cut (length nodes) s ∷ ss)) m.segments)) (sym want) chain))
    (omega (arith, long, longer, made_is nodes first m is, ap (λ (ns : List Node). length ns) new, ap (λ (ns : List Node). length ns) more_is))

-- ---- the next one

pub record HasNext (nodes : List Node) (ss : List Segment) (v next : ℕ) : Type 0 where
  pub pre : List Segment
  pub here : Segment
  pub later : Segment
  pub post : List Segment
  pub whole : ss ≡ pre ++ here ∷ later ∷ post
  pub before : segment_of v pre ≡ None
  pub number : here.number ≡ v
  pub next_is : later.number ≡ next
  pub node : node_of nodes v ≡ Some (node_at here (Some later.number))
  pub next_node : node_of nodes next ≡ Some (node_at later (first_number post))

next_entry : (pre post : List Segment) (s t : Segment) → Differ (pre ++ s ∷ t ∷ post) → entry t.number (pre ++ s ∷ t ∷ post) ≡ Some (node_at t (first_number post))
next_entry pre post s t d =
    let here : (t.number == t.number) ≡ true = is_number t.number t.number refl in
    let differ : Differ (s ∷ t ∷ post) = differ_back pre (s ∷ t ∷ post) d in
    let apart = none_here s.number t post differ.0 in
    let not_s : (s.number == t.number) ≡ false = not_number s.number t.number (λ e. let z : true ≡ false = sym (is_number t.number s.number (sym e)) ∙ apart.0 in absurd (cc (z))) in
    let in_rest : segment_of t.number (s ∷ t ∷ post) ≡ None → ⊥ = λ e. let q = none_here t.number s (t ∷ post) e in let w = none_here t.number t post q.1 in let z : true ≡ false = sym here ∙ w.0 in absurd (cc (z)) in
    entry_past t.number pre (s ∷ t ∷ post) (differ_front t.number pre (s ∷ t ∷ post) d in_rest) ∙ (entry_after t.number s (t ∷ post) not_s ∙ entry_here t.number t post here)

next_at : (nodes : List Node) (first : Option ℕ) (ss : List Segment) (v next : ℕ) (x : Node) (pre post : List Segment) → IsChain nodes first ss → node_of nodes v ≡ Some x → ss ≡ pre ++ x.segment ∷ post → segment_of v pre ≡ None
    → x.segment.number ≡ v → x ≡ node_at x.segment (first_number post) → x.later ≡ Some next → HasNext nodes ss v next
next_at nodes first ss v next x pre [] h there whole before number is later = let q : None ≡ Some next = sym (ap (λ (y : Node). y.later) is) ∙ later in absurd (cc (q))
next_at nodes first ss v next x pre (t ∷ post) h there whole before number is later =
    let q : Some t.number ≡ Some next = sym (ap (λ (y : Node). y.later) is) ∙ later in
    let next_is : t.number ≡ next = cc (q) in
    record {
      pre = pre;
      here = x.segment;
      later = t;
      post = post;
      whole = whole;
      before = before;
      number = number;
      next_is = next_is;
      node = there ∙ ap (λ (y : Node). Some y) is;
      next_node = subst (λ (k : ℕ). node_of nodes k ≡ Some (node_at t (first_number post))) next_is
          (h.entries t.number ∙ (ap (entry t.number) whole ∙ next_entry pre post x.segment t (subst (λ (zs : List Segment). Differ zs) whole h.differ)));
    }

pub has_next : (nodes : List Node) (first : Option ℕ) (m : Made) (v next : ℕ) (x : Node) → Holds nodes first → made_of nodes first ≡ m → is_some (segment_of v m.segments) ≡ true → x ≡ get_or nodes v x
    → x.later ≡ Some next → HasNext nodes m.segments v next
has_next nodes first m v next x h is some read later =
    let there = is_there nodes first m v x h is some read in
    let chain = chain_is nodes first m h is in
    let r : Around v x m.segments = around v x m.segments (sym (chain.entries v) ∙ there) in
    next_at nodes first m.segments v next x r.pre r.post chain there r.whole r.before r.number r.is later

pub next_within : (nodes : List Node) (ss : List Segment) (v next : ℕ) → HasNext nodes ss v next → next < length nodes
next_within nodes ss v next h = node_within nodes next (node_at h.later (first_number h.post)) h.next_node

pub next_later : (nodes : List Node) (ss : List Segment) (v next : ℕ) (y : Node) (h : HasNext nodes ss v next) → y ≡ get_or nodes next y → y.later ≡ first_number h.post
next_later nodes ss v next y h read = ap (λ (z : Node). z.later) (node_there nodes next y (node_at h.later (first_number h.post)) h.next_node (next_within nodes ss v next h) read)

pub record Dropped (nodes : List Node) (first : Option ℕ) (m : Made) (v : ℕ) : Type 0 where
  pub holds : Holds nodes first
  pub drops : Drops v m (made_of nodes first) true

pub drops_next : (nodes cut nodes' : List Node) (first later : Option ℕ) (m : Made) (v next : ℕ) (y : Node) → Holds nodes first → made_of nodes first ≡ m → HasNext nodes m.segments v next → y ≡ get_or nodes next y
    → later ≡ y.later → cut ≡ at_number nodes next dropped → nodes' ≡ at_number cut v (linked_to later) → Dropped nodes' first m v
drops_next nodes cut nodes' first later m v next y h is r read later_is cut_is new =
    let chain = subst (λ (zs : List Segment). IsChain nodes first zs) r.whole (chain_is nodes first m h is) in
    let link : later ≡ first_number r.post = later_is ∙ next_later nodes m.segments v next y r read in
    let want : nodes' ≡ at_number (at_number nodes r.later.number dropped) v (linked_to (first_number r.post)) =
    new ∙ (ap (λ (l : Option ℕ). at_number cut v (linked_to l)) link ∙ ap (λ (ns : List Node). at_number ns v (linked_to (first_number r.post))) (cut_is ∙ ap (λ (k : ℕ). at_number nodes k dropped) (sym r.next_is))) in
    let done : IsChain nodes' first (r.pre ++ r.here ∷ r.post) = subst (λ (ns : List Node). IsChain ns first (r.pre ++ r.here ∷ r.post)) (sym want) (drop_here nodes first r.pre r.post v r.here r.later chain r.before r.number r.node) in
    let a = at_length cut v (linked_to later) in
    let b = at_length nodes next dropped in
    record {
      holds = holds nodes' first (r.pre ++ r.here ∷ r.post) done;
      drops = (
        record { pre = r.pre; here = r.here; next = r.later; post = r.post; old_is = r.whole; new_is = walk_is nodes' first (r.pre ++ r.here ∷ r.post) done; before = r.before; number = r.number },
        omega (arith, a, b, ap (λ (ns : List Node). length ns) new, ap (λ (ns : List Node). length ns) cut_is, made_is nodes first m is),
      );
    }

last_at : (ss : List Segment) (v : ℕ) (x : Node) (pre post : List Segment) → ss ≡ pre ++ x.segment ∷ post → segment_of v pre ≡ None → x.segment.number ≡ v → x ≡ node_at x.segment (first_number post) → x.later ≡ None → IsLast v ss ss
last_at ss v x pre [] whole before number is later = record { pre = pre; here = x.segment; old_is = whole; new_is = refl; before = before; number = number }
last_at ss v x pre (t ∷ post) whole before number is later = let q : Some t.number ≡ None = sym (ap (λ (y : Node). y.later) is) ∙ later in absurd (cc (q))

pub is_last : (nodes : List Node) (first : Option ℕ) (m : Made) (v : ℕ) (x : Node) → Holds nodes first → made_of nodes first ≡ m → is_some (segment_of v m.segments) ≡ true → x ≡ get_or nodes v x → x.later ≡ None → IsLast v m.segments m.segments
is_last nodes first m v x h is some read later =
    let there = is_there nodes first m v x h is some read in
    let chain = chain_is nodes first m h is in
    let r : Around v x m.segments = around v x m.segments (sym (chain.entries v) ∙ there) in
    last_at m.segments v x r.pre r.post r.whole r.before r.number r.is later

-- ---- those after one

abbrev pub cut_after : ℕ → List Segment → List Segment
cut_after v ss = change v (λ s rest. s ∷ []) ss

pub cut_dropped : (v : ℕ) (old new : List Segment) → DropsNext v old new → cut_after v new ≡ cut_after v old
cut_dropped v old new h =
    ap (cut_after v) h.new_is
    ∙ (change_at v (λ s rest. s ∷ []) h.pre h.here h.post h.before h.number
    ∙ (sym (change_at v (λ s rest. s ∷ []) h.pre h.here (h.next ∷ h.post) h.before h.number) ∙ ap (cut_after v) (sym h.old_is)))

pub cut_last : (v : ℕ) (old new : List Segment) → IsLast v old new → cut_after v old ≡ new
cut_last v old new h = ap (cut_after v) h.old_is ∙ (change_at v (λ s rest. s ∷ []) h.pre h.here [] h.before h.number ∙ (sym h.old_is ∙ sym h.new_is))

found_past : (v : ℕ) (pre : List Segment) (s : Segment) (post : List Segment) → s.number ≡ v → is_some (segment_of v (pre ++ s ∷ post)) ≡ true
found_past v [] s post number = ap (λ (b : Bool). is_some (cond b (Some s) (segment_of v post))) (is_number s.number v number)
found_past v (p ∷ pre) s post number = elim (p.number == v) as (λ b. is_some (cond b (Some p) (segment_of v (pre ++ s ∷ post))) ≡ true) [ true ↦ refl | false ↦ found_past v pre s post number ]

pub still_found : (v : ℕ) (old new : List Segment) → DropsNext v old new → is_some (segment_of v new) ≡ true
still_found v old new h = ap (λ (zs : List Segment). is_some (segment_of v zs)) h.new_is ∙ found_past v h.pre h.here h.post h.number

pub found_changed : (v : ℕ) (g : Segment → Segment) (ss : List Segment) → ((t : Segment) → (g t).number ≡ t.number) → is_some (segment_of v (change v (λ s rest. g s ∷ rest) ss)) ≡ is_some (segment_of v ss)
found_changed v g [] keeps = refl
found_changed v g (s ∷ ss) keeps =
    elim (s.number == v) as (λ b. (s.number == v) ≡ b → is_some (segment_of v (cond b (g s ∷ ss) (s ∷ change v (λ t rest. g t ∷ rest) ss))) ≡ is_some (cond b (Some s) (segment_of v ss))) [
      | true ↦ λ e. ap (λ (b : Bool). is_some (cond b (Some (g s)) (segment_of v ss))) (ap (λ (n : ℕ). n == v) (keeps s) ∙ e)
      | false ↦ λ e. ap (λ (b : Bool). is_some (cond b (Some s) (segment_of v (change v (λ t rest. g t ∷ rest) ss)))) e ∙ found_changed v g ss keeps
    ] refl

pub cut_changed : (v : ℕ) (g : Segment → Segment) (ss : List Segment) → ((t : Segment) → (g t).number ≡ t.number) → cut_after v (change v (λ s rest. g s ∷ rest) ss) ≡ change v (λ s rest. g s ∷ []) ss
cut_changed v g [] keeps = refl
cut_changed v g (s ∷ ss) keeps =
    elim (s.number == v) as (λ b. (s.number == v) ≡ b → cut_after v (cond b (g s ∷ ss) (s ∷ change v (λ t rest. g t ∷ rest) ss)) ≡ cond b (g s ∷ []) (s ∷ change v (λ t rest. g t ∷ []) ss)) [
      | true ↦ λ e. ap (λ (b : Bool). cond b (g s ∷ []) (g s ∷ cut_after v ss)) (ap (λ (n : ℕ). n == v) (keeps s) ∙ e)
      | false ↦ λ e. ap (λ (b : Bool). cond b (s ∷ []) (s ∷ cut_after v (change v (λ t rest. g t ∷ rest) ss))) e ∙ ap (λ (zs : List Segment). s ∷ zs) (cut_changed v g ss keeps)
    ] refl

-- ---- the first

first_change : (g : Segment → Segment) (s : Segment) (ss : List Segment) → change s.number (λ t rest. g t ∷ rest) (s ∷ ss) ≡ g s ∷ ss
first_change g s ss = ap (λ (b : Bool). cond b (g s ∷ ss) (s ∷ change s.number (λ t rest. g t ∷ rest) ss)) (is_number s.number s.number refl)

abbrev pub changed_first : (Segment → Segment) → List Segment → List Segment
changed_first g [] = []
changed_first g (s ∷ ss) = g s ∷ ss

first_place : (nodes : List Node) (first : Option ℕ) (ss : List Segment) (at : ℕ) → IsChain nodes first ss → first ≡ Some at → at < length nodes
first_place nodes first [] at h is = let q : Some at ≡ None = sym is ∙ h.first_is in absurd (cc (q))
first_place nodes first (s ∷ ss) at h is =
    let q : Some s.number ≡ Some at = sym h.first_is ∙ is in
    let number : s.number ≡ at = cc (q) in
    node_within nodes at (node_at s (first_number ss)) (subst (λ (n : ℕ). node_of nodes n ≡ Some (node_at s (first_number ss))) number (h.entries s.number ∙ entry_here s.number s ss (is_number s.number s.number refl)))

pub first_within : (nodes : List Node) (first : Option ℕ) (at : ℕ) → Holds nodes first → first ≡ Some at → at < length nodes
first_within nodes first at h is = first_place nodes first (walk nodes (length nodes) first) at h is

first_changes : (nodes : List Node) (first : Option ℕ) (ss : List Segment) (at : ℕ) (g : Segment → Segment) → ((t : Segment) → (g t).number ≡ t.number) → IsChain nodes first ss → first ≡ Some at
    → IsChain (at_number nodes at (with g)) first (changed_first g ss)
first_changes nodes first [] at g keeps h is = let q : Some at ≡ None = sym is ∙ h.first_is in absurd (cc (q))
first_changes nodes first (s ∷ ss) at g keeps h is =
    let q : Some s.number ≡ Some at = sym h.first_is ∙ is in
    let number : s.number ≡ at = cc (q) in
    subst (λ (n : ℕ). IsChain (at_number nodes n (with g)) first (g s ∷ ss)) number
    (subst (λ (zs : List Segment). IsChain (at_number nodes s.number (with g)) first zs) (first_change g s ss) (in_place nodes first (s ∷ ss) s.number g keeps h))

pub first_becomes : (nodes nodes' : List Node) (first : Option ℕ) (m : Made) (at : ℕ) (g : Segment → Segment) → ((t : Segment) → (g t).number ≡ t.number) → Holds nodes first → made_of nodes first ≡ m → first ≡ Some at
    → nodes' ≡ at_number nodes at (with g) → Becomes nodes' first (changed_first g m.segments) m.made
first_becomes nodes nodes' first m at g keeps h is at_first new =
    subst (λ (ns : List Node). Becomes ns first (changed_first g m.segments) m.made) (sym new)
    (becomes (at_number nodes at (with g)) first (changed_first g m.segments) m.made (first_changes nodes first m.segments at g keeps (chain_is nodes first m h is) at_first) (at_length nodes at (with g) ∙ made_is nodes first m is))

-- where there is no first
empty_chain : (nodes : List Node) (first : Option ℕ) (ss : List Segment) → IsChain nodes first ss → first ≡ None → ss ≡ []
empty_chain nodes first [] h none = refl
empty_chain nodes first (s ∷ ss) h none = let q : Some s.number ≡ None = sym h.first_is ∙ none in absurd (cc (q))

pub no_first : (nodes : List Node) (first : Option ℕ) (m : Made) → Holds nodes first → made_of nodes first ≡ m → first ≡ None → m.segments ≡ []
no_first nodes first m h is none = empty_chain nodes first m.segments (chain_is nodes first m h is) none

-- the node of the first
first_node_at : (nodes : List Node) (first : Option ℕ) (ss : List Segment) (at : ℕ) (x : Node) → IsChain nodes first ss → first ≡ Some at → x ≡ get_or nodes at x
    → (s : Segment) × (rest : List Segment) × (ss ≡ s ∷ rest) × (x ≡ node_at s (first_number rest)) × (s.number ≡ at)
first_node_at nodes first [] at x h is read = let q : Some at ≡ None = sym is ∙ h.first_is in absurd (cc (q))
first_node_at nodes first (s ∷ ss) at x h is read =
    let q : Some s.number ≡ Some at = sym h.first_is ∙ is in
    let number : s.number ≡ at = cc (q) in
    let there : node_of nodes at ≡ Some (node_at s (first_number ss)) = subst (λ (n : ℕ). node_of nodes n ≡ Some (node_at s (first_number ss))) number (h.entries s.number ∙ entry_here s.number s ss (is_number s.number s.number refl)) in
    (s, ss, refl, node_there nodes at x (node_at s (first_number ss)) there (node_within nodes at (node_at s (first_number ss)) there) read, number)

pub record IsFirst (m : Made) (at : ℕ) (x : Node) : Type 0 where
  pub here : Segment
  pub rest : List Segment
  pub whole : m.segments ≡ here ∷ rest
  pub is : x ≡ node_at here (first_number rest)
  pub number : here.number ≡ at

pub first_node : (nodes : List Node) (first : Option ℕ) (m : Made) (at : ℕ) (x : Node) → Holds nodes first → made_of nodes first ≡ m → first ≡ Some at → x ≡ get_or nodes at x → IsFirst m at x
first_node nodes first m at x h is at_first read =
    let r = first_node_at nodes first m.segments at x (chain_is nodes first m h is) at_first read in
    record { here = r.0; rest = r.1; whole = r.2; is = r.3; number = r.4 }

pub first_dropped : (nodes nodes' : List Node) (first later : Option ℕ) (m : Made) (at : ℕ) (x : Node) → Holds nodes first → made_of nodes first ≡ m → first ≡ Some at → x ≡ get_or nodes at x
    → later ≡ x.later → nodes' ≡ at_number nodes at dropped → Becomes nodes' later (without_first m.segments) m.made
first_dropped nodes nodes' first later m at x h is at_first read later_is new =
    let r = first_node nodes first m at x h is at_first read in
    let chain = subst (λ (zs : List Segment). IsChain nodes first zs) r.whole (chain_is nodes first m h is) in
    let link : later ≡ first_number r.rest = later_is ∙ ap (λ (y : Node). y.later) r.is in
    let want : nodes' ≡ at_number nodes r.here.number dropped = new ∙ ap (λ (k : ℕ). at_number nodes k dropped) (sym r.number) in
    let done : IsChain nodes' later r.rest = subst (λ (l : Option ℕ). IsChain nodes' l r.rest) (sym link) (subst (λ (ns : List Node). IsChain ns (first_number r.rest) r.rest) (sym want) (drop_first nodes first r.here r.rest chain)) in
    becomes nodes' later (without_first m.segments) m.made (subst (λ (zs : List Segment). IsChain nodes' later zs) (sym (ap without_first r.whole)) done)
    (ap (λ (ns : List Node). length ns) new ∙ (at_length nodes at dropped ∙ made_is nodes first m is))

alone : (ss : List Segment) (s : Segment) → is_none (first_number ss) ≡ (length (s ∷ ss) == 1)
alone [] s = refl
alone (t ∷ ss) s = let q : (length (s ∷ t ∷ ss) == 1) ≡ false = not_number (length (s ∷ t ∷ ss)) 1 (λ e. omega (arith, e)) in sym q

pub one_segment : (m : Made) (at : ℕ) (x : Node) (b : Bool) → IsFirst m at x → b ≡ is_none x.later → b ≡ (length m.segments == 1)
one_segment m at x b r is =
    is ∙ (ap (λ (y : Node). is_none y.later) r.is ∙ (alone r.rest r.here ∙ ap (λ (zs : List Segment). length zs == 1) (sym r.whole)))

-- ---- a drain

-- what is still to be drained
pub record DrainLeft (old now : List Segment) (tried : ℕ) : Type 0 where
  pub sum : capped (sum_by (λ (s : Segment). s.tried) (gone old)) ≡ capped (tried + sum_by (λ (s : Segment). s.tried) (gone now))
  pub left_is : left now ≡ left old
  pub fits : tried ≤ 2 ^ 64 - 1

not_going : (ss : List Segment) → going_first ss ≡ None → (gone ss ≡ []) × (left ss ≡ without_rows ss)
not_going [] h = (refl, refl)
not_going (s ∷ []) h = (refl, refl)
not_going (s ∷ t ∷ ss) h =
    elim (is_closed s) as (λ b. (if b then Some s.tried else None) ≡ None → (cond b (s ∷ gone (t ∷ ss)) [] ≡ []) × (cond b (left (t ∷ ss)) (cleared s ∷ (t ∷ ss)) ≡ cleared s ∷ (t ∷ ss))) [
      | true ↦ λ q. absurd (cc (q))
      | false ↦ λ q. (refl, refl)
    ] h

pub drained : (old now : List Segment) (tried : ℕ) → DrainLeft old now tried → going_first now ≡ None → (tried ≡ capped (sum_by (λ (s : Segment). s.tried) (gone old))) × (without_rows now ≡ left old)
drained old now tried h none =
    let rest = not_going now none in
    let zero_left : sum_by (λ (s : Segment). s.tried) (gone now) ≡ 0 = ap (λ (zs : List Segment). sum_by (λ (s : Segment). s.tried) zs) rest.0 in
    (omega (arith, zero_left, h.sum, h.fits), sym rest.1 ∙ h.left_is)

-- ---- walks

-- a walk is at a link, with segments left of which something holds
pub record Walks (nodes : List Node) (link : Option ℕ) (step : ℕ) (P : List Segment → Type 0) : Type 0 where
  pub rest : List Segment
  pub leads : Leads nodes link rest
  pub few : length rest + step ≤ length nodes
  pub here : P rest

pub walk_begins : (nodes : List Node) (first : Option ℕ) (P : List Segment → Type 0) → Holds nodes first → P (walk nodes (length nodes) first) → Walks nodes first 0 P
walk_begins nodes first P h p = record {
  rest = walk nodes (length nodes) first;
  leads = leads nodes first (walk nodes (length nodes) first) h;
  few = omega (arith, h.few);
  here = p;
}

next_on : (nodes : List Node) (at step : ℕ) (P Q : List Segment → Type 0) (x : Node) (rest : List Segment) → Leads nodes (Some at) rest → length rest + step ≤ length nodes → P rest → x ≡ get_or nodes at x
    → ((s : Segment) (ss : List Segment) → x.segment ≡ s → P (s ∷ ss) → Q ss) → Walks nodes x.later (step + 1) Q
next_on nodes at step P Q x [] leads few p read f = absurd (cc (leads))
next_on nodes at step P Q x (s ∷ ss) leads few p read f =
    let q : Some at ≡ Some s.number = leads.0 in
    let number : s.number ≡ at = sym (cc (q)) in
    let there : node_of nodes at ≡ Some (node_at s (first_number ss)) = subst (λ (n : ℕ). node_of nodes n ≡ Some (node_at s (first_number ss))) number leads.1 in
    let is : x ≡ node_at s (first_number ss) = node_there nodes at x (node_at s (first_number ss)) there (node_within nodes at (node_at s (first_number ss)) there) read in
    record {
      rest = ss;
      leads = subst (λ (l : Option ℕ). Leads nodes l ss) (sym (ap (λ (y : Node). y.later) is)) leads.2;
      few = omega (arith, few);
      here = f s ss (ap (λ (y : Node). y.segment) is) p;
    }

pub walk_next : (nodes : List Node) (at step : ℕ) (P Q : List Segment → Type 0) (x : Node) → Walks nodes (Some at) step P → x ≡ get_or nodes at x
    → ((s : Segment) (ss : List Segment) → x.segment ≡ s → P (s ∷ ss) → Q ss) → Walks nodes x.later (step + 1) Q
walk_next nodes at step P Q x w read f = next_on nodes at step P Q x w.rest w.leads w.few w.here read f

within_on : (nodes : List Node) (at : ℕ) (rest : List Segment) → Leads nodes (Some at) rest → at < length nodes
within_on nodes at [] leads = absurd (cc (leads))
within_on nodes at (s ∷ ss) leads =
    let q : Some at ≡ Some s.number = leads.0 in
    let number : s.number ≡ at = sym (cc (q)) in
    subst (λ (n : ℕ). n < length nodes) number (node_within nodes s.number (node_at s (first_number ss)) leads.1)

pub walk_within : (nodes : List Node) (at step : ℕ) (P : List Segment → Type 0) → Walks nodes (Some at) step P → at < length nodes
walk_within nodes at step P w = within_on nodes at w.rest w.leads

here_on : (nodes : List Node) (at : ℕ) (P : List Segment → Type 0) (Q : Type 0) (x : Node) (rest : List Segment) → Leads nodes (Some at) rest → P rest → x ≡ get_or nodes at x
    → ((s : Segment) (ss : List Segment) → x.segment ≡ s → P (s ∷ ss) → Q) → Q
here_on nodes at P Q x [] leads p read f = absurd (cc (leads))
here_on nodes at P Q x (s ∷ ss) leads p read f =
    let q : Some at ≡ Some s.number = leads.0 in
    let number : s.number ≡ at = sym (cc (q)) in
    let there : node_of nodes at ≡ Some (node_at s (first_number ss)) = subst (λ (n : ℕ). node_of nodes n ≡ Some (node_at s (first_number ss))) number leads.1 in
    let is : x ≡ node_at s (first_number ss) = node_there nodes at x (node_at s (first_number ss)) there (node_within nodes at (node_at s (first_number ss)) there) read in
    f s ss (ap (λ (y : Node). y.segment) is) p

-- of the segment that is read, and those after it
pub walk_here : (nodes : List Node) (at step : ℕ) (P : List Segment → Type 0) (Q : Type 0) (x : Node) → Walks nodes (Some at) step P → x ≡ get_or nodes at x
    → ((s : Segment) (ss : List Segment) → x.segment ≡ s → P (s ∷ ss) → Q) → Q
walk_here nodes at step P Q x w read f = here_on nodes at P Q x w.rest w.leads w.here read f

end_on : (nodes : List Node) (link : Option ℕ) (P : List Segment → Type 0) (rest : List Segment) → Leads nodes link rest → link ≡ None → P rest → P []
end_on nodes link P [] leads none p = p
end_on nodes link P (s ∷ ss) leads none p = let q : None ≡ Some s.number = sym none ∙ leads.0 in absurd (cc (q))

pub walk_ends : (nodes : List Node) (link : Option ℕ) (step : ℕ) (P : List Segment → Type 0) → Walks nodes link step P → link ≡ None → P []
walk_ends nodes link step P w none = end_on nodes link P w.rest w.leads none w.here

over_on : (nodes : List Node) (step : ℕ) (P : List Segment → Type 0) (rest : List Segment) → length rest + step ≤ length nodes → length nodes ≤ step → P rest → P []
over_on nodes step P [] few over p = p
over_on nodes step P (s ∷ ss) few over p = absurd (omega (arith, few, over))

pub walk_over : (nodes : List Node) (link : Option ℕ) (step : ℕ) (P : List Segment → Type 0) → Walks nodes link step P → length nodes ≤ step → P []
walk_over nodes link step P w over = over_on nodes step P w.rest w.few over w.here

-- ---- sums over walks

abbrev pub tried_in : List Segment → ℕ
tried_in ss = sum_by (λ (s : Segment). s.tried) ss

abbrev pub FrontLeft : List Segment → ℕ → List Segment → Type 0
FrontLeft all rows rest = (capped (rows_in all) ≡ capped (rows + rows_in rest)) × (rows ≤ 2 ^ 64 - 1)

abbrev pub TriedLeft : List Segment → ℕ → List Segment → Type 0
TriedLeft all tried rest = (capped (tried_in all) ≡ capped (tried + tried_in rest)) × (tried ≤ 2 ^ 64 - 1)

abbrev pub ClosedLeft : List Segment → List Segment → Type 0
ClosedLeft all rest = list_all is_closed all ≡ list_all is_closed rest

pub front_begins : (all : List Segment) → FrontLeft all 0 all
front_begins all = (let same : rows_in all ≡ 0 + rows_in all = omega arith in ap capped same, omega arith)

pub tried_begins : (all : List Segment) → TriedLeft all 0 all
tried_begins all = (let same : tried_in all ≡ 0 + tried_in all = omega arith in ap capped same, omega arith)

front_closed : (s : Segment) (ss : List Segment) → is_closed s ≡ true → rows_in (s ∷ ss) ≡ s.rows + rows_in ss
front_closed s ss h = ap (λ (b : Bool). sum_by (λ (u : Segment). u.rows) (s ∷ cond b (front ss) [])) h ∙ sum_by-cons (λ (u : Segment). u.rows) s (front ss)

front_open : (s : Segment) (ss : List Segment) → is_closed s ≡ false → rows_in (s ∷ ss) ≡ s.rows
front_open s ss h =
    let alone : sum_by (λ (u : Segment). u.rows) (s ∷ []) ≡ s.rows + sum_by (λ (u : Segment). u.rows) [] = sum_by-cons (λ (u : Segment). u.rows) s [] in
    let same : s.rows + 0 ≡ s.rows = omega arith in
    ap (λ (b : Bool). sum_by (λ (u : Segment). u.rows) (s ∷ cond b (front ss) [])) h ∙ (alone ∙ same)

pub front_next : (all : List Segment) (rows rows' : ℕ) (x s : Segment) (ss : List Segment) → x ≡ s → is_closed x ≡ true → rows' ≡ capped (rows + x.rows) → FrontLeft all rows (s ∷ ss) → FrontLeft all rows' ss
front_next all rows rows' x s ss same closed sum p =
    let whole = front_closed s ss (sym (ap is_closed same) ∙ closed) in
    let rows_same : x.rows ≡ s.rows = ap (λ (u : Segment). u.rows) same in
    (let before : capped (rows_in all) ≡ capped (rows + (s.rows + rows_in ss)) = p.0 ∙ ap (λ (n : ℕ). capped (rows + n)) whole in omega (arith, before, sum, rows_same), omega (arith, sum))

pub front_stops : (all : List Segment) (rows rows' : ℕ) (x s : Segment) (ss : List Segment) → x ≡ s → is_closed x ≡ false → rows' ≡ capped (rows + x.rows) → FrontLeft all rows (s ∷ ss) → rows' ≡ capped (rows_in all)
front_stops all rows rows' x s ss same closed sum p =
    let whole = front_open s ss (sym (ap is_closed same) ∙ closed) in
    let rows_same : x.rows ≡ s.rows = ap (λ (u : Segment). u.rows) same in
    let before : capped (rows_in all) ≡ capped (rows + s.rows) = p.0 ∙ ap (λ (n : ℕ). capped (rows + n)) whole in
    omega (arith, before, sum, rows_same)

pub front_ends : (all : List Segment) (rows : ℕ) → FrontLeft all rows [] → rows ≡ capped (rows_in all)
front_ends all rows p = omega (arith, p.0, p.1)

pub tried_next : (all : List Segment) (tried tried' : ℕ) (x s : Segment) (ss : List Segment) → x ≡ s → tried' ≡ capped (tried + x.tried) → TriedLeft all tried (s ∷ ss) → TriedLeft all tried' ss
tried_next all tried tried' x s ss same sum p =
    let tried_same : x.tried ≡ s.tried = ap (λ (u : Segment). u.tried) same in
    let whole = sum_by-cons (λ (u : Segment). u.tried) s ss in
    (omega (arith, p.0, sum, tried_same, whole), omega (arith, sum))

pub tried_ends : (all : List Segment) (tried : ℕ) → TriedLeft all tried [] → tried ≡ capped (tried_in all)
tried_ends all tried p = omega (arith, p.0, p.1)

pub closed_next : (all : List Segment) (x s : Segment) (ss : List Segment) → x ≡ s → is_closed x ≡ true → ClosedLeft all (s ∷ ss) → ClosedLeft all ss
closed_next all x s ss same closed p = p ∙ ap (λ (b : Bool). b && list_all is_closed ss) (sym (ap is_closed same) ∙ closed)

pub open_found : (all : List Segment) (x s : Segment) (ss : List Segment) → x ≡ s → is_closed x ≡ false → ClosedLeft all (s ∷ ss) → list_all is_closed all ≡ false
open_found all x s ss same closed p = p ∙ ap (λ (b : Bool). b && list_all is_closed ss) (sym (ap is_closed same) ∙ closed)

-- ---- what is seen of the first

pub first_seen : (m : Made) (at : ℕ) (x : Node) → IsFirst m at x → first_of m.segments ≡ Some x.segment
first_seen m at x r = ap first_of r.whole ∙ ap (λ (y : Node). Some y.segment) (sym r.is)

pub first_going : (m : Made) (at : ℕ) (x : Node) (o : Option ℕ) → IsFirst m at x → o ≡ going x → o ≡ going_first m.segments
first_going m at x o r is = is ∙ (ap going r.is ∙ ap going_first (sym r.whole))

-- ---- what is found

pub none_for : {A : Type 0} (o : Option A) (P Q : Type 0) → (P → Q) → IfNone o P → IfNone o Q
none_for None P Q f p = f p
none_for (Some a) P Q f p = p

pub some_for : {A : Type 0} (o : Option A) (P Q : A → Type 0) → ((a : A) → P a → Q a) → IfSome o P → IfSome o Q
some_for None P Q f p = p
some_for (Some a) P Q f p = f a p

pub first_cleared : (ss : List Segment) → changed_first cleared ss ≡ without_rows ss
first_cleared [] = refl
first_cleared (s ∷ ss) = refl

pub first_ended : (mark : List ℕ) (ss : List Segment) → changed_first (ended_at mark) ss ≡ ended_first mark ss
first_ended mark [] = refl
first_ended mark (s ∷ ss) = refl

-- ---- a stop

pub first_found : (ss : List Segment) (at : ℕ) → first_number ss ≡ Some at → is_some (segment_of at ss) ≡ true
first_found [] at h = absurd (cc (h))
first_found (s ∷ ss) at h = let number : s.number ≡ at = cc (h) in found_past at [] s ss number

cut_first : (s : Segment) (ss : List Segment) (at : ℕ) → s.number ≡ at → cut_after at (s ∷ ss) ≡ s ∷ []
cut_first s ss at number = change_at at (λ t rest. t ∷ []) [] s ss refl number

pub stop_some : (mark : List ℕ) (at : ℕ) (old ss : List Segment) → ss ≡ ended_first mark old → first_number ss ≡ Some at → cut_after at ss ≡ stopped mark old
stop_some mark at [] ss is first = let none : None ≡ Some at = sym (ap first_number is) ∙ first in absurd (cc (none))
stop_some mark at (s ∷ old) ss is first =
    let q : Some s.number ≡ Some at = sym (ap first_number is) ∙ first in
    let number : s.number ≡ at = cc (q) in
    ap (cut_after at) is ∙ cut_first (ended_at mark s) old at number

pub stop_none : (mark : List ℕ) (old ss : List Segment) → ss ≡ ended_first mark old → first_number ss ≡ None → ss ≡ stopped mark old
stop_none mark [] ss is first = is
stop_none mark (s ∷ old) ss is first = let none : Some s.number ≡ None = sym (ap first_number is) ∙ first in absurd (cc (none))

pub none_is : (o : Option ℕ) (b : Bool) → is_some o ≡ not b → b ≡ is_none o
none_is None true h = refl
none_is None false h = absurd (cc (h))
none_is (Some n) true h = absurd (cc (h))
none_is (Some n) false h = refl
