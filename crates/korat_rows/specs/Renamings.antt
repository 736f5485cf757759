-- Between crates: a candidate under other names, worked by hand.
use Rattle.std.specs.Prelude.{◌≡◌, ℕ, List, [], ◌∷◌}
use Rattle.kr_value.specs.declared.value.Value.TheVariants.{Null}
use Rattle.kr_mean.specs.Problem.{Problem, Plain, Objects}
use Rattle.kr_mean.specs.Space.{space_of}
use Rattle.kr_mean.specs.Entries.{name_in, renamed}
use Rattle.korat_rows.specs.Words.{int, named, yes, return, field, rep_ok, class, ints, objects, listed}
use Rattle.kr_space_meaning.specs.Examples.{at as at_field}

-- class A { A next; B first; boolean repOk() { return true; } }
-- class B { A owner; int v; }
-- Two objects of A, three of B; the objects of A occur twice in the domain of `owner`, before null and after it.
abbrev pub owners : Problem
owners =
    listed (class "A" (field (named "A") "next" ∷ field (named "B") "first" ∷ rep_ok (return yes ∷ []) ∷ [])
    ∷ class "B" (field (named "A") "owner" ∷ field int "v" ∷ []) ∷ [])
    (objects "A" 0 2 (at_field 0 (Plain Null ∷ Objects 0 ∷ []) ∷ at_field 1 (Objects 1 ∷ Plain Null ∷ []) ∷ [])
    ∷ objects "B" 1 3 (at_field 0 (Objects 0 ∷ Plain Null ∷ Objects 0 ∷ []) ∷ at_field 1 (ints (5 ∷ 6 ∷ 7 ∷ [])) ∷ []) ∷ []) 1000

-- the objects of A change their numbers; those of B take the next one, and the last the first
abbrev pub turned : ℕ → ℕ → ℕ
turned = name_in ((1 ∷ 0 ∷ []) ∷ (1 ∷ 2 ∷ 0 ∷ []) ∷ [])

-- `this`; next and first of each A; owner and v of each B: the object of index 0 is `this`
abbrev pub before : List ℕ
before =
    0  -- this is A0
    ∷ 2 ∷ 1  -- A0: A1, B1
    ∷ 0 ∷ 3  -- A1: null, null
    ∷ 4 ∷ 1  -- B0: A1, the second time, 6
    ∷ 0 ∷ 2  -- B1: A0, the first time, 7
    ∷ 2 ∷ 0 ∷ []  -- B2: null, 5

abbrev pub after : List ℕ
after =
    1  -- this is A1, that was A0
    ∷ 0 ∷ 3  -- A0, that was A1: null, null
    ∷ 1 ∷ 2  -- A1, that was A0: A0, that was A1; B2, that was B1
    ∷ 2 ∷ 0  -- B0, that was B2: null, 5
    ∷ 3 ∷ 1  -- B1, that was B0: A0, that was A1, the second time; 6
    ∷ 1 ∷ 2 ∷ []  -- B2, that was B1: A1, that was A0, the first time; 7

pub record Renamings : Type 0 where
  pub owners_renamed : renamed (space_of owners) turned before ≡ after
  -- and back: A changes twice in all, B three times
  pub owners_renamed_back : renamed (space_of owners) turned (renamed (space_of owners) turned (renamed (space_of owners) (name_in ((0 ∷ 1 ∷ []) ∷ (1 ∷ 2 ∷ 0 ∷ []) ∷ [])) before)) ≡ before
