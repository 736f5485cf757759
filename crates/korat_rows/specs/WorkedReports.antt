-- Between crates: the lines and reports of small problems, worked by hand.
use Rattle.std.specs.Prelude.{◌≡◌, ℕ, true, false, List, [], ◌∷◌, map, codes, Some, None}
use Rattle.kr_base.specs.declared.span.Bound.TheVariants.{At, End}
use Rattle.kr_base.specs.Entries.{entries_in}
use Rattle.kr_classes_table.specs.Predefined.{predefined}
use Rattle.kr_classes_table.specs.Table.{table_of}
use Rattle.kr_value.specs.declared.value.Value.TheVariants.{Bool as Truth}
use Rattle.kr_mean.specs.declared.kind.Kind.TheVariants.{NullPointerException, ArithmeticException, Thrown, NoReturn}
use Rattle.kr_mean.specs.declared.kind.Verdict.TheVariants.{Pass, Ensures, Signals, RepOk, Trap, CheckTrap, Spent as OutOfFuel}
use Rattle.kr_mean.specs.Problem.{Problem}
use Rattle.kr_mean.specs.Entries.{all_entries}
use Rattle.korat_rows.specs.Examples.{cell, two_ints, two_nodes, two_subclasses, arrays, later_first}
use Rattle.korat_rows.specs.Listings.{loops, plus}
use Rattle.korat_rows.specs.Tests.{v, void_problem}
use Rattle.korat_rows.specs.Words.{number, yes, no, ◌+'◌, ◌<'◌, ◌=='◌, block, old_at, assign, return, if_then, while, ensures}
use Rattle.kr_report.specs.Texts.{row_text, value_text, verdict_text, tested_text}
use Rattle.kr_report.specs.Reports.{Answer, bytes_of, rows_in, listing_answer, is_failing}
use Rattle.korat_top_reports.specs.Reports.{tally_of}

-- the lines of all rows of a problem
abbrev pub lines_of : Problem → List (List ℕ)
lines_of problem = map (row_text problem) (rows_in (all_entries problem))

abbrev pub told : ℕ → List ℕ → ℕ × List ℕ
told status bytes = (status, bytes)

abbrev pub told_by : Answer → ℕ × List ℕ
told_by answer = told answer.status (bytes_of answer)

-- the status and the bytes of a report of the entries above a key, with so many rows at most
abbrev pub report_of : Problem → List ℕ → ℕ → ℕ × List ℕ
report_of problem after limit = told_by (listing_answer problem limit (entries_in (At after) End (all_entries problem)))

-- `v` from 0 to 3, `//@ ensures v == \old(v) + 1;`, and the body `if (v < 2) v = v + 1;`
abbrev pub counter : Problem
counter = void_problem (0 ∷ 1 ∷ 2 ∷ 3 ∷ []) (return yes ∷ []) (ensures (v ==' old_at 1 v +' number 1) ∷ []) (if_then (v <' number 2) (assign v (v +' number 1)) ∷ []) 100

-- `v` from 0 to 2, a predicate that never ends where it is 2, and `//@ ensures false;`
abbrev pub never_right : Problem
never_right = void_problem (0 ∷ 1 ∷ 2 ∷ []) (while (v ==' number 2) (block []) ∷ return yes ∷ []) (ensures no ∷ []) [] 100

pub record WorkedLines : Type 0 where
  pub two_nodes_lines : lines_of two_nodes ≡ codes "0.0 R#0{next=null}\n" ∷ codes "0.1 R#0{next=R#0}\n" ∷ codes "0.2.0 R#0{next=R#1} R#1{next=null}\n" ∷ codes "0.2.1 R#0{next=R#1} R#1{next=R#0}\n" ∷ codes "0.2.2 R#0{next=R#1} R#1{next=R#1}\n" ∷ []
  pub two_subclasses_lines : lines_of two_subclasses ≡ codes "0.0.0 R#0{x=P#0,y=P#0} P#0{}\n" ∷ codes "0.0.1 R#0{x=P#0,y=P#1} P#0{} P#1{}\n" ∷ codes "0.0.2 R#0{x=P#0,y=Q#0} P#0{} Q#0{}\n" ∷ codes "0.2.0 R#0{x=Q#0,y=P#0} Q#0{} P#0{}\n" ∷ codes "0.2.2 R#0{x=Q#0,y=Q#0} Q#0{}\n" ∷ codes "0.2.3 R#0{x=Q#0,y=Q#1} Q#0{} Q#1{}\n" ∷ []
  pub arrays_lines : lines_of arrays ≡ codes "0.0.0 R#0{a=int[]#0} int[]#0[]\n" ∷ codes "0.0.1.0 R#0{a=int[]#0} int[]#0[0]\n" ∷ codes "0.0.1.1 R#0{a=int[]#0} int[]#0[1]\n" ∷ codes "0.0.2.0.0 R#0{a=int[]#0} int[]#0[0,0]\n" ∷ codes "0.0.2.0.1 R#0{a=int[]#0} int[]#0[0,1]\n" ∷ codes "0.0.2.1.0 R#0{a=int[]#0} int[]#0[1,0]\n" ∷ codes "0.0.2.1.1 R#0{a=int[]#0} int[]#0[1,1]\n" ∷ []
  pub two_ints_report : report_of two_ints [] 9 ≡ told 0 (codes "0.1.0 R#0{a=1,b=7}\n0.1.1 R#0{a=1,b=9}\nvalid 2 tried 3\n")
  pub cell_report : report_of (cell 0 1000) [] 9 ≡ told 0 (codes "0.1 Cell#0{v=1}\n0.2 Cell#0{v=2}\nvalid 2 tried 3\n")
  pub cell_limited : report_of (cell 0 1000) [] 1 ≡ told 0 (codes "0.1 Cell#0{v=1}\nmore 0.1\n")
  pub cell_at_the_limit : report_of (cell 0 1000) [] 2 ≡ told 0 (codes "0.1 Cell#0{v=1}\n0.2 Cell#0{v=2}\nvalid 2 tried 3\n")
  pub cell_resumed : report_of (cell 0 1000) (0 ∷ 1 ∷ []) 9 ≡ told 0 (codes "0.2 Cell#0{v=2}\nvalid 1 tried 1\n")
  pub cell_without_fuel : report_of (cell 0 5) [] 9 ≡ told 5 (codes "spent 0.0\n")
  pub later_first_report : report_of later_first [] 9 ≡ told 0 (codes "0.1.0 R#0{a=7,b=1}\n0.1.1 R#0{a=9,b=1}\nvalid 2 tried 3\n")
  pub rows_before_spent : report_of loops [] 9 ≡ told 5 (codes "0.0 Cell#0{v=0}\nspent 0.1\n")
  pub spent_at_the_limit : report_of loops [] 1 ≡ told 5 (codes "0.0 Cell#0{v=0}\nspent 0.1\n")
  pub behind_spent : report_of loops (0 ∷ 1 ∷ []) 9 ≡ told 0 (codes "0.2 Cell#0{v=2}\nvalid 1 tried 1\n")
  pub cell_counted : told_by (tally_of 3 (cell 0 1000)) ≡ told 0 (codes "nodes 3 valid 2\n")
  pub counted_up_to_spent : told_by (tally_of 1 loops) ≡ told 5 (codes "spent 0.1\n")
  pub plus_report : report_of plus [] 9 ≡ told 0 (codes "0.1.0 pass (x=1) Cell#0{v=0}\nvalid 1 failing 0 tried 2\n")
  pub counter_report : report_of counter [] 9 ≡ told 1 (codes "0.0.0 pass R#0{v=0,o=null}\n0.1.0 pass R#0{v=1,o=null}\n0.2.0 ensures 1 R#0{v=2,o=null}\n0.3.0 ensures 1 R#0{v=3,o=null}\nvalid 4 failing 2 tried 4\n")
  pub counter_cut_behind_a_failing_row : report_of counter [] 3 ≡ told 1 (codes "0.0.0 pass R#0{v=0,o=null}\n0.1.0 pass R#0{v=1,o=null}\n0.2.0 ensures 1 R#0{v=2,o=null}\nmore 0.2.0\n")
  pub counter_cut_before_a_failing_row : report_of counter [] 2 ≡ told 0 (codes "0.0.0 pass R#0{v=0,o=null}\n0.1.0 pass R#0{v=1,o=null}\nmore 0.1.0\n")
  pub spent_behind_failing_rows : report_of never_right [] 9 ≡ told 5 (codes "0.0.0 ensures 1 R#0{v=0,o=null}\n0.1.0 ensures 1 R#0{v=1,o=null}\nspent 0.2\n")
  pub booleans : map (value_text two_ints) (Truth true ∷ Truth false ∷ []) ≡ codes "true" ∷ codes "false" ∷ []
  pub verdicts : map (verdict_text (table_of (predefined ∷ [])).headings) (Some Pass ∷ Some (Ensures 12) ∷ Some (Signals 7) ∷ Some RepOk ∷ Some (Trap NullPointerException) ∷ Some (Trap (Thrown 9)) ∷ Some (CheckTrap ArithmeticException) ∷ Some OutOfFuel ∷ []) ≡ codes "pass " ∷ codes "ensures 12 " ∷ codes "signals 7 " ∷ codes "repOk " ∷ codes "trap NullPointerException " ∷ codes "trap IllegalStateException " ∷ codes "check-trap ArithmeticException " ∷ codes "spent " ∷ []
  pub failing : map is_failing (None ∷ Some Pass ∷ Some (Ensures 1) ∷ Some (Signals 1) ∷ Some RepOk ∷ Some (Trap NoReturn) ∷ Some (CheckTrap NoReturn) ∷ Some OutOfFuel ∷ []) ≡ false ∷ false ∷ true ∷ true ∷ true ∷ true ∷ true ∷ true ∷ []
  pub tested_last_line : tested_text 4 2 4 ≡ codes "valid 4 failing 2 tried 4\n"
