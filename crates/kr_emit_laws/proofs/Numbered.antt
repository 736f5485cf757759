-- Classes that names of a finitization mean: their own names mean them, and so do those of their outer classes.
use Rattle.std.proofs.Common.{◌≡◌, ℕ, zero, suc, ◌+◌, ◌<◌, ◌≤◌, Bool, true, false, List, [], ◌∷◌, length, Option, Some, None, refl, ap, ◌∙◌, arith}
use Rattle.std.specs.Prelude.{flat_map, bytes_eq, if◌then◌else◌}
use Rattle.std.proofs.lemmas.List.{length-append}
use Rattle.std.proofs.lemmas.Slice.Eq.{bytes_eq-Decides}
use Rattle.kr_ast.specs.Tree as trees
use Rattle.kr_ast.specs.Tree.{Tree}
use Rattle.kr_classes_table.specs.Rules.{class_fault}
use Rattle.kr_classes_table.specs.Table.{Class, Heading, class_at, class_of, classes_from, heading_of, headings_from, headings_of, items, number_from, number_of, outer_of, table_of, with_nested}
use Rattle.kr_types_meaning.specs.Typing.{IsWellTyped}
use Rattle.kr_laws_runs.proofs.Respects.{AllOf}
use Rattle.kr_laws_pruning.proofs.SlotForks.{all_append, all_map}
use Rattle.kr_laws_never_stuck.proofs.Files.{class_good_at}
use Rattle.kr_laws_never_stuck.proofs.Files as files_proofs
use Rattle.kr_laws_never_stuck.specs.WellTyped.{AreFiles}
use Rattle.kr_emit_meaning.specs.Builders.{heading_at}
use Rattle.kr_emit_laws.proofs.Wider.{IsNumbered}

-- ---- the heading that a name means

name_found : (k : ℕ) (hs : List Heading) (n : List ℕ) (c : ℕ) → number_from k hs n ≡ Some c → (i : ℕ) × (c ≡ k + i) × (i < length hs) × ((heading_at hs i).name ≡ n)
name_found k [] n c e = absurd (cc (e))
name_found k (h ∷ hs) n c e = go (bytes_eq h.name n) refl e (λ q. name_found (k + 1) hs n c q)
  where
    go : (b : Bool) → bytes_eq h.name n ≡ b → (if b then Some k else number_from (k + 1) hs n) ≡ Some c → (number_from (k + 1) hs n ≡ Some c → (i : ℕ) × (c ≡ k + 1 + i) × (i < length hs) × ((heading_at hs i).name ≡ n))
        → (i : ℕ) × (c ≡ k + i) × (i < length (h ∷ hs)) × ((heading_at (h ∷ hs) i).name ≡ n)
    go true q e r = let same : k ≡ c = cc (e) in (0, omega (arith, same), omega arith, (bytes_eq-Decides h.name n).0 q)
    go false q e r = let x = r e in (suc x.0, omega (arith, x.1), omega (arith, x.2), x.3)

-- ---- outer classes are among those of the files

abbrev IsWithin : ℕ → Heading → Type 0
IsWithin bound h = (o : ℕ) → h.outer ≡ Some o → o < bound

outer_given : (outer : Option ℕ) (t : Tree) → AllOf (λ (h : Heading). h.outer ≡ outer) (heading_of outer t)
outer_given outer (trees.Class p n e ms) = (refl, tt)
outer_given outer _ = tt

none_within : (bound : ℕ) (h : Heading) → h.outer ≡ None → IsWithin bound h
none_within bound h e o q = absurd (cc (e, q))

some_within : (bound k : ℕ) → k < bound → (h : Heading) → h.outer ≡ Some k → IsWithin bound h
some_within bound k l h e o q = let same : k ≡ o = cc (e, q) in omega (arith, same, l)

members_within : (bound k : ℕ) (ms : List Tree) → k < bound → AllOf (IsWithin bound) (flat_map (heading_of (Some k)) ms)
members_within bound k [] l = tt
members_within bound k (m ∷ ms) l = all_append (IsWithin bound) (heading_of (Some k) m) (flat_map (heading_of (Some k)) ms) (all_map (λ (h : Heading). h.outer ≡ Some k) (IsWithin bound) (heading_of (Some k) m) (some_within bound k l) (outer_given (Some k) m)) (members_within bound k ms l)

own_within : (bound k : ℕ) (hs : List Heading) → k + length (with_nested k hs) ≤ bound → AllOf (λ (h : Heading). h.outer ≡ None) hs → AllOf (IsWithin bound) (with_nested k hs)
own_within bound k [] l h = tt
own_within bound k (x ∷ hs) l h = (none_within bound x h.0, members_within bound k x.members (omega (arith, l)))

headings_within : (bound k : ℕ) (ts : List Tree) → k + length (headings_from k ts) ≤ bound → AllOf (IsWithin bound) (headings_from k ts)
headings_within bound k [] l = tt
headings_within bound k (t ∷ ts) l =
    let own : List Heading = with_nested k (heading_of None t) in
    let long : length (headings_from k (t ∷ ts)) ≡ length own + length (headings_from (k + length own) ts) = length-append own (headings_from (k + length own) ts) in
    all_append (IsWithin bound) own (headings_from (k + length own) ts) (own_within bound k (heading_of None t) (omega (arith, l, long)) (outer_given None t)) (headings_within bound (k + length own) ts (omega (arith, l, long)))

outer_within : (hs : List Heading) (bound c o : ℕ) → AllOf (IsWithin bound) hs → outer_of hs c ≡ Some o → o < bound
outer_within [] bound c o h e = absurd (cc (e))
outer_within (x ∷ hs) bound zero o h e = h.0 o e
outer_within (x ∷ hs) bound (suc c) o h e = outer_within hs bound c o h.1 e

class_there : (all : List Heading) (k : ℕ) (hs : List Heading) (i : ℕ) → i < length hs → (d : Class) × (class_at (classes_from all k hs) i ≡ Some d)
class_there all k [] i l = absurd (omega (arith, l))
class_there all k (h ∷ hs) zero l = (class_of all k h, refl)
class_there all k (h ∷ hs) (suc i) l = class_there all (k + 1) hs i (omega (arith, l))

heading_same : (hs : List Heading) (o : ℕ) (h : Heading) → files_proofs.heading_at hs o ≡ Some h → heading_at hs o ≡ h
heading_same [] o h e = absurd (cc (e))
heading_same (x ∷ hs) zero h e = cc (e)
heading_same (x ∷ hs) (suc o) h e = heading_same hs o h e

module _ (files : List Tree) (shapes : AreFiles files) (faults : class_fault (table_of files) ≡ None) (typed : IsWellTyped files) where
  class_for : (o : ℕ) → o < length (headings_of files) → (d : Class) × (class_at (table_of files).classes o ≡ Some d)
  unfolding table_of
  class_for o l = class_there (headings_of files) 0 (headings_of files) o l

  name_means : (o : ℕ) → o < length (headings_of files) → number_of (headings_of files) (heading_at (headings_of files) o).name ≡ Some o
  name_means o l =
      let d = class_for o l in
      let good = class_good_at files shapes faults typed o d.0 d.1 in
      ap (λ (h : Heading). number_of (headings_of files) h.name) (heading_same (headings_of files) o good.heading good.there) ∙ good.number

  headings_are : (table_of files).headings ≡ headings_of files
  unfolding table_of
  headings_are = refl

  numbered_in : (n : List ℕ) (c : ℕ) → number_of (headings_of files) n ≡ Some c → IsNumbered (record { headings = headings_of files; classes = (table_of files).classes }) c
  numbered_in n c e =
      let found = name_found 0 (headings_of files) n c e in
      let zeros : 0 + found.0 ≡ found.0 = omega arith in
      let here : (heading_at (headings_of files) c).name ≡ n = ap (λ (i : ℕ). (heading_at (headings_of files) i).name) (found.1 ∙ zeros) ∙ found.3 in
      record {
        named = ap (number_of (headings_of files)) here ∙ e;
        outer = λ o q. name_means o (outer_within (headings_of files) (length (headings_of files)) c o (headings_within (length (headings_of files)) 0 (flat_map items files) (omega arith)) q);
      }

  -- the class that a name means
  pub numbered : (n : List ℕ) (c : ℕ) → number_of (table_of files).headings n ≡ Some c → IsNumbered (table_of files) c
  unfolding table_of
  numbered n c e = numbered_in n c e
