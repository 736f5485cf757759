-- To be believed: what holds of the entries of every problem whose runs are lawful.
use Rattle.std.specs.Prelude.{◌≡◌, ℕ, List, ◌∷◌, ◌++◌, true}
use Rattle.kr_base.specs.declared.entry.Entry.{Entry}
use Rattle.kr_base.specs.Entries.{IsAmong, is_valid}
use Rattle.kr_mean.specs.Problem.{Problem}
use Rattle.kr_mean.specs.Space.{Space, space_of, IsVector, IsRenaming, IsRenamed}
use Rattle.kr_mean.specs.Blocks.{IsSpace}
use Rattle.kr_mean.specs.Heaps.{walk}
use Rattle.kr_mean.specs.Runs.{End, True, outcome_of, end_on, order_of, key_of}
use Rattle.kr_mean.specs.Readings.{Forks, AreIn, IsReading}
use Rattle.kr_mean.specs.Isomorphism.{IsIsomorphic, IsLeast}
use Rattle.kr_mean.specs.WellFormed.{IsWellFormed}
use Rattle.kr_mean.specs.Purity.{IsPure}
use Rattle.kr_mean.specs.Entries.{renamed, mark_of, all_entries, AreAllEntries}
use Rattle.kr_mean.specs.declared.row.Row.{Row}

-- A vector has one renamed vector, which the plain function finds.
pub record HasOneRenamed (space : Space) (name : ℕ → ℕ → ℕ) (v : List ℕ) : Type 0 where
  pub is : IsRenamed space name v (renamed space name v)
  pub only : (w : List ℕ) → IsRenamed space name v w → w ≡ renamed space name v

abbrev pub RenamedLaw : Type 0
RenamedLaw = (problem : Problem) → IsWellFormed problem → (name : ℕ → ℕ → ℕ) → IsRenaming (space_of problem) name → (v : List ℕ) → IsVector (space_of problem) v → HasOneRenamed (space_of problem) name v

-- how the run on a vector ends, and the fuel that it leaves
abbrev pub ended : Problem → List ℕ → End × ℕ
ended problem v = (end_on problem v, (outcome_of problem v).after.fuel)

-- The premises: slots and domains go by whole class domains; orders fork and rename; runs on vectors that agree along their
-- orders end the same and leave the same fuel, and so does the run on a renamed vector; a run reads only slots that are
-- reachable.
pub record IsLawful (problem : Problem) : Type 0 where
  pub space : IsSpace (space_of problem)
  pub reading : IsReading (space_of problem) (order_of problem) (mark_of problem)
  pub agreed : (u v : List ℕ) → IsVector (space_of problem) u → IsVector (space_of problem) v → Forks u v (ended problem u ≡ ended problem v) (order_of problem u) (order_of problem v)
  pub ends : (name : ℕ → ℕ → ℕ) (v w : List ℕ) → IsRenaming (space_of problem) name → IsVector (space_of problem) v → IsRenamed (space_of problem) name v w → ended problem w ≡ ended problem v
  pub reachable : (v : List ℕ) → IsVector (space_of problem) v → AreIn (order_of problem v) (walk problem v)

-- A predicate that leaves the candidates alone is lawful, whatever its code.
abbrev pub LawfulLaw : Type 0
LawfulLaw = (problem : Problem) → IsWellFormed problem → IsPure problem → IsLawful problem

-- Trying every vector and every renaming gives all entries, and no other list has them all.
pub record ListsAll (problem : Problem) : Type 0 where
  pub all : AreAllEntries problem (all_entries problem)
  pub only : (es : List (Entry Row)) → AreAllEntries problem es → es ≡ all_entries problem

abbrev pub PlainLaw : Type 0
PlainLaw = (problem : Problem) → IsLawful problem → ListsAll problem

-- The vector is isomorphic to one with the key of a valid entry, and of no other valid entry.
pub record HasOneEntry (problem : Problem) (v : List ℕ) : Type 0 where
  pub entry : Entry Row
  pub listed : IsAmong entry (all_entries problem)
  pub valid : is_valid entry.mark ≡ true
  pub member : (u : List ℕ) × IsVector (space_of problem) u × IsIsomorphic (space_of problem) (walk problem) u v × (key_of problem u ≡ entry.key)
  pub only : (other : Entry Row) (u : List ℕ) → IsAmong other (all_entries problem) → is_valid other.mark ≡ true → IsVector (space_of problem) u
      → IsIsomorphic (space_of problem) (walk problem) u v → key_of problem u ≡ other.key → other ≡ entry

-- exactly one entry for each class of valid structures
abbrev pub ClassLaw : Type 0
ClassLaw = (problem : Problem) → IsLawful problem → (v : List ℕ) → IsVector (space_of problem) v → end_on problem v ≡ True → HasOneEntry problem v

-- No key is a proper front of another's, and vectors with one key have one order, one mark, one end and one fuel left.
pub record KeysTell (problem : Problem) (u v : List ℕ) : Type 0 where
  pub front : (more : List ℕ) (next : ℕ) → key_of problem v ≡ key_of problem u ++ next ∷ more → ⊥
  pub order : key_of problem u ≡ key_of problem v → order_of problem u ≡ order_of problem v
  pub mark : key_of problem u ≡ key_of problem v → mark_of problem u ≡ mark_of problem v
  pub ends : key_of problem u ≡ key_of problem v → ended problem u ≡ ended problem v

abbrev pub KeysLaw : Type 0
KeysLaw = (problem : Problem) → IsLawful problem → (u v : List ℕ) → IsVector (space_of problem) u → IsVector (space_of problem) v → KeysTell problem u v

-- The vector's key and mark are those of an entry.
pub record HasEntry (problem : Problem) (v : List ℕ) : Type 0 where
  pub entry : Entry Row
  pub listed : IsAmong entry (all_entries problem)
  pub key : entry.key ≡ key_of problem v
  pub mark : entry.mark ≡ mark_of problem v

-- each least vector, whatever its mark, has its entry
abbrev pub EntryLaw : Type 0
EntryLaw = (problem : Problem) → IsLawful problem → (v : List ℕ) → IsVector (space_of problem) v → IsLeast (space_of problem) (order_of problem) v → HasEntry problem v
