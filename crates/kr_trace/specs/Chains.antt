-- Between crates: segments kept by number, each with the number of the next one in the order of candidates.
use Rattle.std.specs.Prelude.{◌≡◌, ℕ, zero, suc, ◌+◌, ◌≤◌, List, [], ◌∷◌, ◌++◌, Bool, true, false, ◌&&◌, length, ◌==◌, if◌then◌else◌, Option, Some, None, is_some}
use Rattle.kr_base.specs.declared.span.Bound.{Bound}
use Rattle.kr_base.specs.declared.span.Bound.TheVariants.{At}
use Rattle.kr_core.specs.declared.segment.Segment.{Segment}
use Rattle.kr_core.specs.States.{segment_of, is_closed}
use Rattle.kr_core.specs.Openings.{untouched}
use Rattle.kr_trace.specs.declared.nodes.Node.{Node}

-- segments in the order of candidates, and how many were made
pub record Made : Type 0 where
  pub segments : List Segment
  pub made : ℕ

-- the node at a number, where its segment wasn't dropped
abbrev pub node_of : List Node → ℕ → Option Node
node_of [] n = None
node_of (x ∷ xs) zero = if x.there then Some x else None
node_of (x ∷ xs) (suc n) = node_of xs n

abbrev pub walked : Option Node → (Option ℕ → List Segment) → List Segment
walked None later = []
walked (Some x) later = x.segment ∷ later x.later

-- the segments that the links lead to, so many at most
abbrev pub walk : List Node → ℕ → Option ℕ → List Segment
walk nodes zero link = []
walk nodes (suc fuel) None = []
walk nodes (suc fuel) (Some n) = walked (node_of nodes n) (walk nodes fuel)

abbrev pub node_at : Segment → Option ℕ → Node
node_at s later = record { segment = s; later = later; there = true }

abbrev pub first_number : List Segment → Option ℕ
first_number [] = None
first_number (s ∷ ss) = Some s.number

-- the node of a number in such a list
abbrev pub entry : ℕ → List Segment → Option Node
entry n [] = None
entry n (s ∷ ss) = if s.number == n then Some (node_at s (first_number ss)) else entry n ss

abbrev pub Differ : List Segment → Type 0
Differ [] = Unit {0}
Differ (s ∷ ss) = (segment_of s.number ss ≡ None) × Differ ss

-- the nodes are those of the list, and no others are there
pub record IsChain (nodes : List Node) (first : Option ℕ) (ss : List Segment) : Type 0 where
  pub first_is : first ≡ first_number ss
  pub entries : (n : ℕ) → node_of nodes n ≡ entry n ss
  pub differ : Differ ss
  pub few : length ss ≤ length nodes

-- a change of the node at a number
abbrev pub at_number : List Node → ℕ → (Node → Node) → List Node
at_number [] n k = []
at_number (x ∷ xs) zero k = k x ∷ xs
at_number (x ∷ xs) (suc n) k = x ∷ at_number xs n k

abbrev pub with : (Segment → Segment) → Node → Node
with g x = record x { segment = g x.segment }

abbrev pub linked_to : Option ℕ → Node → Node
linked_to later x = record x { later = later }

abbrev pub dropped : Node → Node
dropped x = record x { there = false }

-- where a candidate is lowered to a cut, before another
abbrev pub split_by : (Segment → Segment) → ℕ → Node → Node
split_by g new x = record { segment = g x.segment; later = Some new; there = x.there }

abbrev pub ended_at : List ℕ → Segment → Segment
ended_at mark s = record s { upto = At mark; owner = None }

abbrev pub ended_first : List ℕ → List Segment → List Segment
ended_first mark [] = []
ended_first mark (s ∷ ss) = ended_at mark s ∷ ss

abbrev pub cleared : Segment → Segment
cleared s = record s { rows = 0 }

-- the first has no rows any more
abbrev pub without_rows : List Segment → List Segment
without_rows [] = []
without_rows (s ∷ ss) = cleared s ∷ ss

-- what was tried in a closed segment that isn't the last
abbrev pub going : Node → Option ℕ
going x = if is_some x.later && is_closed x.segment then Some x.segment.tried else None

-- the same of the first
abbrev pub going_first : List Segment → Option ℕ
going_first [] = None
going_first (s ∷ ss) = going (node_at s (first_number ss))

abbrev pub first_of : List Segment → Option Segment
first_of [] = None
first_of (s ∷ ss) = Some s

abbrev pub without_first : List Segment → List Segment
without_first [] = []
without_first (s ∷ ss) = ss

-- the one after that of a number is dropped
pub record DropsNext (v : ℕ) (old new : List Segment) : Type 0 where
  pub pre : List Segment
  pub here : Segment
  pub next : Segment
  pub post : List Segment
  pub old_is : old ≡ pre ++ here ∷ next ∷ post
  pub new_is : new ≡ pre ++ here ∷ post
  pub before : segment_of v pre ≡ None
  pub number : here.number ≡ v

-- there is none after it, and nothing is changed
pub record IsLast (v : ℕ) (old new : List Segment) : Type 0 where
  pub pre : List Segment
  pub here : Segment
  pub old_is : old ≡ pre ++ here ∷ []
  pub new_is : new ≡ old
  pub before : segment_of v pre ≡ None
  pub number : here.number ≡ v

abbrev pub Drops : ℕ → Made → Made → Bool → Type 0
Drops v old new true = DropsNext v old.segments new.segments × (new.made ≡ old.made)
Drops v old new false = IsLast v old.segments new.segments × (new.made ≡ old.made)

-- nodes for the segments that a span and its cuts begin with
abbrev pub nodes_at : ℕ → Bound → List (List ℕ) → Bound → List Node
nodes_at n after [] end = node_at (untouched n after end) None ∷ []
nodes_at n after (cut ∷ cuts) end = node_at (untouched n after (At cut)) (Some (n + 1)) ∷ nodes_at (n + 1) (At cut) cuts end
