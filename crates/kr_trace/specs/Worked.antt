-- Between crates: small texts, checked by hand.
use Rattle.std.specs.Prelude.{◌≡◌, ℕ, List, [], ◌∷◌, ◌++◌, codes, Ok}
use Rattle.kr_base.specs.declared.span.Bound.TheVariants.{At}
use Rattle.kr_base.specs.declared.span.Span.{Span}
use Rattle.kr_core.specs.Examples.{span as all}
use Rattle.kr_trace.specs.declared.refusal.TraceRule.TheVariants.{NoForm, KeyOrder, NoStep, OtherRows, Unfinished, OtherEnding}
use Rattle.kr_trace.specs.Checked.{Checked, bad, checked}

abbrev pub rows : List ℕ
rows = codes "0.1 Cell#0{v=1}\n0.2 Cell#0{v=2}\n"

-- the text of the cell's listing
abbrev pub cell : List ℕ → List ℕ → Checked ℕ
cell last events = checked all 1 (rows ++ last ++ events)

abbrev pub valid : List ℕ
valid = codes "valid 2 tried 3\n"

pub record WorkedTraces : Type 0 where
  pub whole : cell valid (codes "take 0 0\nreport 0 0 end 2 3\nlook 0\ndrain 2\n") ≡ Ok 4
  pub one_row_left_out : cell valid (codes "take 0 0\nreport 0 0 end 1 3\nlook 0\ndrain 1\n") ≡ bad 5 OtherRows
  pub cut_off : cell valid (codes "take 0 0\n") ≡ bad 5 Unfinished
  pub other_drain : cell valid (codes "take 0 0\nreport 0 0 end 2 3\nlook 0\ndrain 1\n") ≡ bad 7 NoStep
  pub other_count : cell (codes "valid 2 tried 4\n") (codes "take 0 0\nreport 0 0 end 2 3\nlook 0\ndrain 2\n") ≡ bad 3 OtherEnding
  pub nothing : checked all 1 [] ≡ bad 1 NoForm
  pub no_end : cell valid (codes "take 0 0\nreport 0 0 end 2 3\nlook 0\ndrain 2") ≡ bad 7 NoForm
  pub other_seat : cell valid (codes "take 1 0\n") ≡ bad 4 NoStep
  pub a_row_after : cell valid rows ≡ bad 4 NoForm
  pub twice : checked all 1 (rows ++ rows) ≡ bad 3 KeyOrder
  pub failing : checked all 1 (codes "0.0 pass Cell#0{v=0}\n0.1 ensures 1 Cell#0{v=1}\nvalid 2 failing 1 tried 2\ntake 0 0\nreport 0 0 end 2 2\n") ≡ Ok 2
  pub no_verdict : checked all 1 (codes "0.0 pass Cell#0{v=0}\n0.1 Cell#0{v=1}\nvalid 2 failing 1 tried 2\n") ≡ bad 2 NoForm
  pub more : checked all 1 (codes "0.1 a\nmore 0.1\ntake 0 0\nreport 0 0 0.2 2 3\ndrain 2\ngiveup 0 0\nstop 0.2\n") ≡ Ok 5
  pub stops_at_the_row : checked all 1 (codes "0.1 a\nmore 0.1\ntake 0 0\nreport 0 0 0.1 1 2\nstop 0.1\n") ≡ bad 2 OtherEnding
  pub spent : checked all 1 (codes "0.0 a\nspent 0.1\ntake 0 0\nreport 0 0 0.1 1 2 spent\n") ≡ Ok 2
  pub none : checked (record { after = 1 ∷ []; upto = At (0 ∷ []) }) 2 (codes "valid 0 tried 0\nlook 1\n") ≡ Ok 1
