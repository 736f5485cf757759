-- To be believed: what is reported of a problem's entries.
use Rattle.std.specs.Prelude.{ℕ, []}
use Rattle.kr_base.specs.Entries.{entries_in}
use Rattle.kr_base.specs.declared.span.Bound.TheVariants.{At, End}
use Rattle.kr_base.specs.declared.span.Span.{Span}
use Rattle.kr_mean.specs.Entries.{all_entries}
use Rattle.kr_mean.specs.Problem.{Problem}
use Rattle.kr_report.specs.Reports.{Answer, listing_answer}
use Rattle.kr_report_streaming.specs.Tallies.{tally_answer}

-- the listing of a span, or the test of a method on it, with at most so many rows
abbrev pub listed : Problem → ℕ → Span → Answer
listed problem limit span = listing_answer problem limit (entries_in (At span.after) span.upto (all_entries problem))

-- how many entries are valid, of structures of so many nodes
abbrev pub tallied : Problem → ℕ → Answer
tallied problem nodes = tally_answer nodes (entries_in (At []) End (all_entries problem))
