-- Between crates: a small search, worked by hand: fields x and y in P and Q, two objects of each, and one root.
use Rattle.std.specs.Prelude.{ℕ, ◌-◌, ◌==◌, nat_lt, List, [], ◌∷◌, Some, None, if◌then◌else◌}
use Rattle.kr_mean.specs.Places.{This, At}
use Rattle.kr_mean.specs.Space.{Space}
use Rattle.kr_value.specs.declared.object.Spot.TheVariants.{Field}
use Rattle.kr_step.specs.declared.candidates.Ending.{Ending}
use Rattle.kr_step.specs.declared.candidates.Ending.TheVariants.{Valid}

abbrev pub bases : Space
bases = record {
  slots = 3;
  place = λ s. if s == 0 then This else At 0 (Field (s - 1));
  size = λ s. if s == 0 then 1 else 4;
  object_at = λ s i. if s == 0 then Some (record { domain = 0; number = i }) else (if nat_lt i 2 then Some (record { domain = 1; number = i }) else Some (record { domain = 2; number = i - 2 }));
  owner = λ s. if s == 0 then None else Some (record { domain = 0; number = 0 });
  item = λ s i. if nat_lt i 2 then 0 else 1;
  domains = 3;
  count = λ d. if d == 0 then 1 else 2;
}

abbrev pub bases_order : List ℕ → List ℕ
bases_order v = 0 ∷ 1 ∷ 2 ∷ []

abbrev pub bases_ending : List ℕ → Ending
bases_ending v = Valid
